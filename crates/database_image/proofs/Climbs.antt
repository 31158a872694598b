-- Ways up through the groups: a way that has more steps than there are groups goes round, and ends at a group below
-- itself.
use Rattle.std.proofs.Common.{◌≡◌, ℕ, zero, suc, ◌+◌, ◌-◌, ◌*◌, ◌<◌, ◌≤◌, Bool, true, false, List, [], ◌∷◌, length, map, Option, Some, None, is_some, refl, sym, ap, subst, ◌∙◌, true≢false, arith, inl, inr, ⊎_elim, suc-add, zero-add, zero-mul, suc-mul, mul-suc}
use Rattle.std.specs.Prelude.{◌||◌, ◌⊎◌, cond, bytes_eq}
use Rattle.std.specs.List.{IsDistinct, AllByRecursion, list_any}
use Rattle.std.specs.Option.{option_eq, option_and_then, option_map_or}
use Rattle.std.specs.Set.{is_member}
use Rattle.std.specs.Cmp.Lexicographic.{nat_list_eq_equiv}
use Rattle.std.proofs.lemmas.Bool.{or_cases, or_left, or_right, cases_Bool}
use Rattle.std.proofs.lemmas.Map.Keys.{IsDistinct-cons}
use Rattle.std.proofs.lemmas.Map.Made.{length-le_from_is_member}
use Rattle.std.proofs.lemmas.List.{length-map}
use Rattle.racf_profiles.specs.declared.groups.Group.{Group}
use Rattle.racf_profiles.specs.Lookup.{find_group}
use Rattle.racf_profiles.proofs.Named.{same, itself, turned}
use Rattle.database_image.specs.Facts.{leads_to}
use Rattle.database_image.specs.Ways.{above, climbed, is_reached}

distinct_nil : IsDistinct bytes_eq []
unfolding IsDistinct
distinct_nil = tt

-- A way that goes round: so many steps lead to a group, and from there so many lead back to it.
pub record Round (groups : List Group) (n : ℕ) (from : List ℕ) : Type 0 where
  pub before : ℕ
  pub round : ℕ
  pub group : List ℕ
  pub within : before + round ≤ n
  pub some : 0 < round
  pub reached : climbed before groups from ≡ Some group
  pub back : climbed round groups group ≡ Some group

-- what one way leads to is one
pub one_end : (o : Option (List ℕ)) (x y : List ℕ) → o ≡ Some x → o ≡ Some y → x ≡ y
one_end o x y a b = cc

-- ---- steps, one after another
module _ (groups : List Group) where
  pub climbed-zero : (id : List ℕ) → climbed 0 groups id ≡ Some id
  unfolding climbed
  climbed-zero id = refl

  pub climbed-suc : (n : ℕ) (id : List ℕ) → climbed (suc n) groups id ≡ option_and_then (climbed n groups) (above groups id)
  unfolding climbed
  climbed-suc n id = refl

  onward : (m n : ℕ) (o : Option (List ℕ)) → ((next : List ℕ) → climbed (m + n) groups next ≡ option_and_then (climbed n groups) (climbed m groups next))
      → option_and_then (climbed (m + n) groups) o ≡ option_and_then (climbed n groups) (option_and_then (climbed m groups) o)
  onward m n None h = refl
  onward m n (Some next) h = h next

  pub climbed-add : (m n : ℕ) (id : List ℕ) → climbed (m + n) groups id ≡ option_and_then (climbed n groups) (climbed m groups id)
  climbed-add zero n id = ap (λ k. climbed k groups id) (zero-add n) ∙ ap (option_and_then (climbed n groups)) (sym (climbed-zero id))
  climbed-add (suc m) n id =
      ap (λ k. climbed k groups id) (suc-add m n) ∙ climbed-suc (m + n) id ∙ onward m n (above groups id) (climbed-add m n)
      ∙ ap (option_and_then (climbed n groups)) (sym (climbed-suc m id))

  some_then : (f : List ℕ → Option (List ℕ)) (o : Option (List ℕ)) (x : List ℕ) → option_and_then f o ≡ Some x → (y : List ℕ) × (o ≡ Some y) × (f y ≡ Some x)
  some_then f None x h = absurd cc
  some_then f (Some y) x h = (y, refl, h)

  -- a way in two parts
  pub split : (m n : ℕ) (id x : List ℕ) → climbed (m + n) groups id ≡ Some x → (y : List ℕ) × (climbed m groups id ≡ Some y) × (climbed n groups y ≡ Some x)
  split m n id x h = some_then (climbed n groups) (climbed m groups id) x (sym (climbed-add m n id) ∙ h)

  pub join : (m n : ℕ) (id y x : List ℕ) → climbed m groups id ≡ Some y → climbed n groups y ≡ Some x → climbed (m + n) groups id ≡ Some x
  join m n id y x a b = climbed-add m n id ∙ ap (option_and_then (climbed n groups)) a ∙ b

  pub first_step : (n : ℕ) (id x : List ℕ) → climbed (suc n) groups id ≡ Some x → (s : List ℕ) × (above groups id ≡ Some s) × (climbed n groups s ≡ Some x)
  first_step n id x h = some_then (climbed n groups) (above groups id) x (sym (climbed-suc n id) ∙ h)

  pub step_first : (n : ℕ) (id s x : List ℕ) → above groups id ≡ Some s → climbed n groups s ≡ Some x → climbed (suc n) groups id ≡ Some x
  step_first n id s x a b = climbed-suc n id ∙ ap (option_and_then (climbed n groups)) a ∙ b

  is_found : (o : Option Group) (s : List ℕ) → option_and_then (λ (row : Group). row.superior) o ≡ Some s → is_some o ≡ true
  is_found None s h = absurd cc
  is_found (Some g) s h = refl

  pub is_there-above : (id s : List ℕ) → above groups id ≡ Some s → is_some (find_group groups id) ≡ true
  is_there-above id s h = is_found (find_group groups id) s h

  pub none-above : (id : List ℕ) → is_some (find_group groups id) ≡ false → (n : ℕ) → climbed (suc n) groups id ≡ None
  none-above id none n = by (climbed (suc n) groups id) refl
    where
      by : (o : Option (List ℕ)) → climbed (suc n) groups id ≡ o → o ≡ None
      by None e = refl
      by (Some x) e = let f = first_step n id x e in absurd (true≢false (sym (is_there-above id f.0 f.1) ∙ none))

  -- ---- what `leads_to` says
  pub walk_of : (n : ℕ) (to from : List ℕ) → leads_to n groups to from ≡ true → (k : ℕ) × (k < n) × (climbed k groups from ≡ Some to)
  walk_of zero to from h = absurd cc
  walk_of (suc n) to from h =
      ⊎_elim (λ t. (0, omega arith, climbed-zero from ∙ ap (λ (x : List ℕ). Some x) (same from to t)))
      (λ r. by (above groups from) refl (λ s. walk_of n to s) r)
      (or_cases (bytes_eq from to) (option_map_or (λ superior. leads_to n groups to superior) (above groups from) false) h)
    where
      by : (o : Option (List ℕ)) → above groups from ≡ o → ((s : List ℕ) → leads_to n groups to s ≡ true → (k : ℕ) × (k < n) × (climbed k groups s ≡ Some to))
          → option_map_or (λ superior. leads_to n groups to superior) o false ≡ true → (k : ℕ) × (k < suc n) × (climbed k groups from ≡ Some to)
      by None e more r = absurd cc
      by (Some s) e more r = let w = more s r in (suc w.0, omega (arith, w.1), step_first w.0 from s to e w.2)

  pub leads_of : (n k : ℕ) (to from : List ℕ) → k < n → climbed k groups from ≡ Some to → leads_to n groups to from ≡ true
  leads_of zero k to from lt h = absurd (omega arith)
  leads_of (suc n) zero to from lt h =
      let here : from ≡ to = one_end (climbed 0 groups from) from to (climbed-zero from) h in
      or_left (bytes_eq from to) _ (ap (bytes_eq from) (sym here) ∙ itself from)
  leads_of (suc n) (suc k) to from lt h =
      let f = first_step k from to h in
      or_right (bytes_eq from to) _ (ap (λ o. option_map_or (λ superior. leads_to n groups to superior) o false) f.1 ∙ leads_of n k to f.0 (omega arith) f.2)

  -- ---- the groups that a way meets
  abbrev trace : ℕ → List ℕ → List (List ℕ)
  trace zero id = id ∷ []
  trace (suc n) id = id ∷ option_map_or (trace n) (above groups id) []

  trace-suc : (n : ℕ) (id s : List ℕ) → above groups id ≡ Some s → trace (suc n) id ≡ id ∷ trace n s
  trace-suc n id s h = ap (λ o. id ∷ option_map_or (trace n) o []) h

  length-trace : (n : ℕ) (id x : List ℕ) → climbed n groups id ≡ Some x → length (trace n id) ≡ suc n
  length-trace zero id x h = refl
  length-trace (suc n) id x h = let f = first_step n id x h in ap length (trace-suc n id f.0 f.1) ∙ ap suc (length-trace n f.0 x f.2)

  members-trace : (n : ℕ) (id x : List ℕ) → climbed n groups id ≡ Some x → is_some (find_group groups x) ≡ true → (q : List ℕ) → is_member bytes_eq (trace n id) q ≡ true → is_some (find_group groups q) ≡ true
  members-trace zero id x h there q m =
      let one : id ≡ x = one_end (climbed 0 groups id) id x (climbed-zero id) h in
      let here : q ≡ id = ⊎_elim (λ t. same q id t) (λ f. absurd (true≢false (sym f))) (or_cases (bytes_eq q id) false m) in
      subst (λ y. is_some (find_group groups y) ≡ true) (sym (here ∙ one)) there
  members-trace (suc n) id x h there q m =
      let f = first_step n id x h in
      ⊎_elim (λ t. subst (λ y. is_some (find_group groups y) ≡ true) (sym (same q id t)) (is_there-above id f.0 f.1))
      (λ r. members-trace n f.0 x f.2 there q r)
      (or_cases (bytes_eq q id) (is_member bytes_eq (trace n f.0) q) (sym (ap (λ ids. is_member bytes_eq ids q) (trace-suc n id f.0 f.1)) ∙ m))

  -- a way meets a group, or doesn't
  abbrev Meets : (n : ℕ) (from to : List ℕ) → Type 0
  Meets n from to = (k : ℕ) × (k ≤ n) × (climbed k groups from ≡ Some to)

  meets : (n : ℕ) (from x to : List ℕ) → climbed n groups from ≡ Some x → Meets n from to ⊎ AllByRecursion (λ y. bytes_eq to y ≡ false) (trace n from)
  meets zero from x to h =
      ⊎_elim (λ t. inl (0, omega arith, climbed-zero from ∙ ap (λ (y : List ℕ). Some y) (sym (same to from t)))) (λ f. inr (f, tt)) (cases_Bool (bytes_eq to from))
  meets (suc n) from x to h =
      let f = first_step n from x h in
      ⊎_elim (λ t. inl (0, omega arith, climbed-zero from ∙ ap (λ (y : List ℕ). Some y) (sym (same to from t))))
      (λ none. ⊎_elim (λ w. inl (suc w.0, omega (arith, w.1), step_first w.0 from f.0 to f.1 w.2))
      (λ rest. inr (subst (AllByRecursion (λ y. bytes_eq to y ≡ false)) (sym (trace-suc n from f.0 f.1)) (none, rest)))
      (meets n f.0 x to f.2))
      (cases_Bool (bytes_eq to from))

  goes_round : (n : ℕ) (from x : List ℕ) → climbed n groups from ≡ Some x → Round groups n from ⊎ IsDistinct bytes_eq (trace n from)
  goes_round zero from x h = inr (IsDistinct-cons bytes_eq from [] tt distinct_nil)
  goes_round (suc n) from x h =
      let f = first_step n from x h in
      ⊎_elim
      (λ r. inl (record { before = suc r.before; round = r.round; group = r.group; within = omega (arith, r.within); some = r.some; reached = step_first r.before from f.0 r.group f.1 r.reached; back = r.back }))
      (λ rest. ⊎_elim
      (λ w. inl (record { before = 0; round = suc w.0; group = from; within = omega (arith, w.1); some = omega arith; reached = climbed-zero from; back = step_first w.0 from f.0 from f.1 w.2 }))
      (λ apart. inr (subst (IsDistinct bytes_eq) (sym (trace-suc n from f.0 f.1)) (IsDistinct-cons bytes_eq from (trace n f.0) apart rest)))
      (meets n f.0 x from f.2))
      (goes_round n f.0 x f.2)

-- ---- groups by their names
pub is_member-names : (groups : List Group) (id : List ℕ) → is_member bytes_eq (map (λ (g : Group). g.id) groups) id ≡ is_some (find_group groups id)
is_member-names [] id = refl
is_member-names (g ∷ gs) id = ap (λ b. b || is_member bytes_eq (map (λ (h : Group). h.id) gs) id) (turned id g.id) ∙ by (bytes_eq g.id id) (is_member-names gs id)
  where
    by : (b : Bool) → is_member bytes_eq (map (λ (h : Group). h.id) gs) id ≡ is_some (find_group gs id)
        → (b || is_member bytes_eq (map (λ (h : Group). h.id) gs) id) ≡ is_some (cond b (Some g) (find_group gs id))
    by true rest = refl
    by false rest = rest

-- a group that is there, and of which something is so
any-found : (P : Group → Bool) (groups : List Group) (id : List ℕ) → is_some (find_group groups id) ≡ true → ((g : Group) → g.id ≡ id → P g ≡ true) → list_any P groups ≡ true
any-found P [] id there h = absurd cc
any-found P (g ∷ gs) id there h =
    ⊎_elim (λ t. or_left (P g) (list_any P gs) (h g (same g.id id t)))
    (λ f. or_right (P g) (list_any P gs) (any-found P gs id (sym (ap (λ b. is_some (cond b (Some g) (find_group gs id))) f) ∙ there) h))
    (cases_Bool (bytes_eq g.id id))

found-any : (P : Group → Bool) (groups : List Group) → list_any P groups ≡ true → (g : Group) × (P g ≡ true)
found-any P [] h = absurd cc
found-any P (g ∷ gs) h = ⊎_elim (λ t. (g, t)) (λ r. found-any P gs r) (or_cases (P g) (list_any P gs) h)

is_end : (o : Option (List ℕ)) (x : List ℕ) → option_eq bytes_eq o (Some x) ≡ true → o ≡ Some x
is_end None x h = absurd cc
is_end (Some y) x h = ap (λ (z : List ℕ). Some z) (same y x h)

both_ways : (a b : Bool) → (a ≡ true → b ≡ true) → (b ≡ true → a ≡ true) → a ≡ b
both_ways true b f g = sym (f refl)
both_ways false true f g = g refl
both_ways false false f g = refl

-- ---- many steps
module _ (groups : List Group) where
  -- a way as long as there are groups goes round
  pub round_of : (from x : List ℕ) → climbed (length groups) groups from ≡ Some x → is_some (find_group groups x) ≡ true → Round groups (length groups) from
  round_of from x h there = ⊎_elim (λ r. r) (λ distinct.
      let all = length-le_from_is_member nat_list_eq_equiv (trace groups (length groups) from) (map (λ (g : Group). g.id) groups) distinct (λ q m. is_member-names groups q ∙ members-trace groups (length groups) from x h there q m) in
      absurd (omega (arith, all, length-trace groups (length groups) from x h, length-map {A = Group} {B = List ℕ} groups (λ g. g.id))))
      (goes_round groups (length groups) from x h)

  begins : (n : ℕ) (id x : List ℕ) → climbed n groups id ≡ Some x → is_some (find_group groups x) ≡ true → is_some (find_group groups id) ≡ true
  begins zero id x h there = let one : id ≡ x = one_end (climbed 0 groups id) id x (climbed-zero groups id) h in subst (λ y. is_some (find_group groups y) ≡ true) (sym one) there
  begins (suc n) id x h there = let f = first_step groups n id x h in is_there-above groups id f.0 f.1

  -- where many steps lead lies on a round
  on_round : (n : ℕ) (from id : List ℕ) → length groups ≤ n → is_some (find_group groups id) ≡ true → climbed n groups from ≡ Some id → (k : ℕ) × (k < length groups) × (climbed (suc k) groups id ≡ Some id)
  on_round n from id le there h =
      let whole : climbed (length groups + (n - length groups)) groups from ≡ Some id = ap (λ k. climbed k groups from) (omega arith) ∙ h in
      let s = split groups (length groups) (n - length groups) from id whole in
      let r = round_of from s.0 s.1 (begins (n - length groups) s.0 id s.2 there) in
      let again : climbed (r.before + (n - r.before)) groups from ≡ Some id = ap (λ k. climbed k groups from) (omega (arith, r.within)) ∙ h in
      let t = split groups r.before (n - r.before) from id again in
      let one : t.0 ≡ r.group = one_end (climbed r.before groups from) t.0 r.group t.1 r.reached in
      let rest : climbed (n - r.before) groups r.group ≡ Some id = subst (λ y. climbed (n - r.before) groups y ≡ Some id) one t.2 in
      let long : climbed (r.round + (n - r.before)) groups r.group ≡ Some id = join groups r.round (n - r.before) r.group r.group id r.back rest in
      let turned_round : climbed ((n - r.before) + r.round) groups r.group ≡ Some id = ap (λ k. climbed k groups r.group) (omega arith) ∙ long in
      let u = split groups (n - r.before) r.round r.group id turned_round in
      let two : u.0 ≡ id = one_end (climbed (n - r.before) groups r.group) u.0 id u.1 rest in
      let back : climbed r.round groups id ≡ Some id = subst (λ y. climbed r.round groups y ≡ Some id) two u.2 in
      let k : suc (r.round - 1) ≡ r.round = omega (arith, r.some) in
      (r.round - 1, omega (arith, r.within, r.some), ap (λ m. climbed m groups id) k ∙ back)

  -- and what lies on a round is reached by any number of steps
  often : (m p : ℕ) (id : List ℕ) → climbed p groups id ≡ Some id → climbed (m * p) groups id ≡ Some id
  often zero p id h = ap (λ k. climbed k groups id) (zero-mul p) ∙ climbed-zero groups id
  often (suc m) p id h = ap (λ k. climbed k groups id) (suc-mul m p) ∙ join groups (m * p) p id id id (often m p id h) h

  reached_again : (n k : ℕ) (id : List ℕ) → climbed (suc k) groups id ≡ Some id → (y : List ℕ) × (climbed n groups y ≡ Some id)
  reached_again n k id h =
      let more : n ≤ n * suc k = omega (arith, mul-suc n k) in
      let whole : climbed ((n * suc k - n) + n) groups id ≡ Some id = ap (λ m. climbed m groups id) (omega (arith, more)) ∙ often n (suc k) id h in
      let s = split groups (n * suc k - n) n id id whole in
      (s.0, s.2)

  -- so the ends of ways of many steps are the groups that lie below themselves
  pub reached-is-below : (n : ℕ) (id superior : List ℕ) → length groups ≤ n → above groups id ≡ Some superior → is_reached n groups id ≡ leads_to (length groups) groups id superior
  reached-is-below n id superior le up = both_ways (is_reached n groups id) (leads_to (length groups) groups id superior)
      (λ t.
      let g = found-any (λ (row : Group). option_eq bytes_eq (climbed n groups row.id) (Some id)) groups t in
      let r = on_round n g.0.id id le (is_there-above groups id superior up) (is_end (climbed n groups g.0.id) id g.1) in
      let f = first_step groups r.0 id id r.2 in
      let one : f.0 ≡ superior = one_end (above groups id) f.0 superior f.1 up in
      leads_of groups (length groups) r.0 id superior r.1 (subst (λ y. climbed r.0 groups y ≡ Some id) one f.2))
      (λ t.
      let w = walk_of groups (length groups) id superior t in
      let r = reached_again n w.0 id (step_first groups w.0 id superior id up w.2) in
      any-found (λ (row : Group). option_eq bytes_eq (climbed n groups row.id) (Some id)) groups r.0 (begins n r.0 id r.1 (is_there-above groups id superior up))
      (λ g e. ap (λ y. option_eq bytes_eq (climbed n groups y) (Some id)) e ∙ ap (λ o. option_eq bytes_eq o (Some id)) r.1 ∙ itself id))
