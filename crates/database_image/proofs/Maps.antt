-- What maps and sets say of every name, behind one group more.
use Rattle.std.proofs.Common.{◌≡◌, ℕ, zero, suc, ◌+◌, ◌<◌, Bool, true, false, List, [], ◌∷◌, length, take, get_or, Option, Some, None, is_some, refl, sym, ap, ◌∙◌, arith}
use Rattle.std.specs.Prelude.{◌||◌, cond, bytes_eq}
use Rattle.std.specs.List.{list_any}
use Rattle.std.specs.Option.{option_or, option_map, option_and_then}
use Rattle.std.proofs.lemmas.List.{take_more}
use Rattle.std.proofs.lemmas.List.Folds.{find-append, list_any-append}
use Rattle.racf_profiles.specs.declared.groups.Group.{Group}
use Rattle.racf_profiles.specs.Lookup.{is_group, find_group}
use Rattle.racf_profiles.proofs.Named.{same}
use Rattle.database_image.specs.Ways.{above, climbed}
use Rattle.database_image.proofs.Climbs.{climbed-add, climbed-suc, none-above}

-- ---- the group of a name, where one more goes last
pub find-more : (groups : List Group) (i : ℕ) (d : Group) (id : List ℕ) → i < length groups → find_group (take (i + 1) groups) id ≡ option_or (find_group (take i groups) id) (cond (bytes_eq (get_or groups i d).id id) (Some (get_or groups i d)) None)
find-more groups i d id lt = ap (λ (gs : List Group). find_group gs id) (take_more groups i d lt) ∙ find-append (is_group id) (take i groups) (get_or groups i d ∷ [])

-- ---- the index
indexed : (o : Option Group) (b : Bool) (g : Group) → option_or (option_map (λ (row : Group). row.superior) o) (cond b (Some g.superior) None) ≡ option_map (λ (row : Group). row.superior) (option_or o (cond b (Some g) None))
indexed None true g = refl
indexed None false g = refl
indexed (Some h) b g = refl

pub index-more : (groups : List Group) (i : ℕ) (d : Group) (id : List ℕ) → i < length groups
    → option_or (option_map (λ (row : Group). row.superior) (find_group (take i groups) id)) (cond (bytes_eq (get_or groups i d).id id) (Some (get_or groups i d).superior) None)
    ≡ option_map (λ (row : Group). row.superior) (find_group (take (i + 1) groups) id)
index-more groups i d id lt = indexed (find_group (take i groups) id) (bytes_eq (get_or groups i d).id id) (get_or groups i d) ∙ ap (option_map (λ (row : Group). row.superior)) (sym (find-more groups i d id lt))

pub put-new : {V : Type 0} (b : Bool) (old : Option V) (v : V) → (b ≡ true → old ≡ None) → cond b (Some v) old ≡ option_or old (cond b (Some v) None)
put-new true None v h = refl
put-new true (Some w) v h = let e : Some w ≡ None = h refl in absurd cc
put-new false None v h = refl
put-new false (Some w) v h = refl

pub put-old : {V : Type 0} (b : Bool) (old : Option V) (v : V) → (b ≡ true → is_some old ≡ true) → old ≡ option_or old (cond b (Some v) None)
put-old true None v h = let e : false ≡ true = h refl in absurd cc
put-old false None v h = refl
put-old b (Some w) v h = refl

-- ---- maps with something of each group so far
abbrev pub kept : (List ℕ → Option (List ℕ)) → List Group → List ℕ → Option (List ℕ)
kept F groups id = cond (is_some (find_group groups id)) (F id) None

at-more : (b : Bool) (o : Option Group) (g : Group) (v w : Option (List ℕ)) → (b ≡ true → v ≡ w) → cond b (option_or v (cond (is_some o) w None)) (cond (is_some o) w None) ≡ cond (is_some (option_or o (cond b (Some g) None))) w None
at-more true None g None w h = h refl
at-more true None g (Some x) w h = h refl
at-more true (Some p) g None w h = refl
at-more true (Some p) g (Some x) w h = h refl
at-more false None g v w h = refl
at-more false (Some p) g v w h = refl

pub kept-more : (F : List ℕ → Option (List ℕ)) (groups : List Group) (i : ℕ) (d : Group) (id : List ℕ) → i < length groups
    → cond (bytes_eq (get_or groups i d).id id) (option_or (F (get_or groups i d).id) (kept F (take i groups) id)) (kept F (take i groups) id) ≡ kept F (take (i + 1) groups) id
kept-more F groups i d id lt =
    at-more (bytes_eq (get_or groups i d).id id) (find_group (take i groups) id) (get_or groups i d) (F (get_or groups i d).id) (F id) (λ t. ap F (same (get_or groups i d).id id t))
    ∙ ap (λ o. cond (is_some o) (F id) None) (sym (find-more groups i d id lt))

kept-by : (b : Bool) (w : Option (List ℕ)) → (b ≡ false → w ≡ None) → cond b w None ≡ w
kept-by true w h = refl
kept-by false w h = sym (h refl)

pub kept-all : (F : List ℕ → Option (List ℕ)) (groups : List Group) (id : List ℕ) → (is_some (find_group groups id) ≡ false → F id ≡ None) → kept F groups id ≡ F id
kept-all F groups id h = kept-by (is_some (find_group groups id)) (F id) h

-- ---- ways
one-step : (o : Option (List ℕ)) (groups : List Group) → option_and_then (climbed 0 groups) o ≡ o
unfolding climbed
one-step None groups = refl
one-step (Some x) groups = refl

pub climbed-one : (groups : List Group) (id : List ℕ) → climbed 1 groups id ≡ above groups id
climbed-one groups id = climbed-suc groups 0 id ∙ one-step (above groups id) groups

no_superior : (o : Option Group) → is_some o ≡ false → option_and_then (λ (row : Group). row.superior) o ≡ None
no_superior None h = refl
no_superior (Some g) h = absurd cc

pub above-absent : (groups : List Group) (id : List ℕ) → is_some (find_group groups id) ≡ false → above groups id ≡ None
above-absent groups id h = no_superior (find_group groups id) h

-- the superior group by the index
pub through-index : (o : Option Group) → option_and_then (λ (superior : Option (List ℕ)). superior) (option_map (λ (row : Group). row.superior) o) ≡ option_and_then (λ (row : Group). row.superior) o
through-index None = refl
through-index (Some g) = refl

pub twice-absent : (groups : List Group) (n : ℕ) (f : List ℕ → Option (List ℕ)) (id : List ℕ) → 0 < n → ((q : List ℕ) → f q ≡ climbed n groups q) → is_some (find_group groups id) ≡ false → option_and_then f (f id) ≡ None
twice-absent groups zero f id lt h absent = absurd (omega arith)
twice-absent groups (suc n) f id lt h absent = ap (option_and_then f) (h id ∙ none-above groups id absent n)

then_same : (f g : List ℕ → Option (List ℕ)) (o : Option (List ℕ)) → ((q : List ℕ) → f q ≡ g q) → option_and_then f o ≡ option_and_then g o
then_same f g None h = refl
then_same f g (Some x) h = h x

pub twice-climbed : (groups : List Group) (n : ℕ) (f : List ℕ → Option (List ℕ)) (id : List ℕ) → ((q : List ℕ) → f q ≡ climbed n groups q) → option_and_then f (f id) ≡ climbed (n + n) groups id
twice-climbed groups n f id h = ap (option_and_then f) (h id) ∙ then_same f (climbed n groups) (climbed n groups id) h ∙ sym (climbed-add groups n n id)

-- ---- the ends of ways
or_none : (b c : Bool) → (b || (c || false)) ≡ (b || c)
or_none true c = refl
or_none false true = refl
or_none false false = refl

pub any-more : (P : Group → Bool) (groups : List Group) (i : ℕ) (d : Group) → i < length groups → list_any P (take (i + 1) groups) ≡ (list_any P (take i groups) || P (get_or groups i d))
any-more P groups i d lt = ap (list_any P) (take_more groups i d lt) ∙ list_any-append P (take i groups) (get_or groups i d ∷ []) ∙ or_none (list_any P (take i groups)) (P (get_or groups i d))

pub note-some : (b old : Bool) → cond b true old ≡ (old || b)
note-some true true = refl
note-some true false = refl
note-some false true = refl
note-some false false = refl

pub note-none : (old : Bool) → old ≡ (old || false)
note-none true = refl
note-none false = refl

pub any-same : (P Q : Group → Bool) (groups : List Group) → ((row : Group) → P row ≡ Q row) → list_any P groups ≡ list_any Q groups
any-same P Q [] h = refl
any-same P Q (g ∷ gs) h = ap (λ b. b || list_any P gs) (h g) ∙ ap (λ b. Q g || b) (any-same P Q gs h)
