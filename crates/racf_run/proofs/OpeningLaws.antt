-- Files that were opened one behind another, and handed back one before another.
use Rattle.std.proofs.Common.{suc, ◌≡◌, ◌≢◌, ◌≤◌, ◌<◌, ◌+◌, ℕ, Bool, true, false, not, ◌&&◌, ◌||◌, List, [], ◌∷◌, ◌++◌, length, map, take, drop, get_or, bytes_eq, refl, sym, ◌∙◌, ap, subst, arith, inl, inr, ⊎_elim}
use Rattle.std.specs.Prelude.{Option, Result, codes, ◌⊎◌}
use Rattle.std.proofs.lemmas.Bool.{false≢true}
use Rattle.std.proofs.lemmas.List.{map-append, append_cancel_right, length-map, get_or-map, take_more, drop_more, drop_all, take_at, length-append, get_or-take, take-append-drop, same_from_push}
use Rattle.std.proofs.lemmas.List.Folds.{list_any-append}
use Rattle.std.proofs.lemmas.Slice.Eq.{bytes_eq-Decides}
use Rattle.racf_outside.specs.Causes.{Rose}
use Rattle.racf_outside.specs.declared.streams.Failed.{Failed}
use Rattle.racf_outside.specs.Shelf.{SameBytes, SameOthers, SameOpen, Opens, Closes}
use Rattle.racf_outside.proofs.Rises.{Rose-later}
use Rattle.racf_run.specs.Opening.{output_name, is_among, are_distinct, Opened, Returned, AreOpen, OthersStay, AreKept, AreEmpty, AreNew, IsNew, RoseFor, OpensNeither, HasOpened, HasStopped, HasReturned, HasUndone}
use Rattle.racf_run.specs.declared.opening.Unopened.{Unopened}
use Rattle.racf_run.specs.declared.opening.Unopened.TheVariants.{Input, Output}

-- ---- names

or_false : (a b : Bool) → (a || b) ≡ false → (a ≡ false) × (b ≡ false)
or_false false b h = (refl, h)
or_false true b h = absurd (false≢true (sym h))

both_false : (a b : Bool) → a ≡ false → b ≡ false → (a || b) ≡ false
both_false a b h k = cc

and_true : (a b : Bool) → (a && b) ≡ true → (a ≡ true) × (b ≡ true)
and_true true b h = (refl, h)
and_true false b h = absurd (false≢true h)

not_true : (a : Bool) → not a ≡ true → a ≡ false
not_true false h = refl
not_true true h = absurd (false≢true h)

true_or_false : (b : Bool) → (b ≡ true) ⊎ (b ≡ false)
true_or_false true = inl refl
true_or_false false = inr refl

differ : (a b : List ℕ) → bytes_eq a b ≡ false → a ≢ b
differ a b h same = false≢true (sym h ∙ (bytes_eq-Decides a b).1 same)

pub differing : (a b : List ℕ) → a ≢ b → bytes_eq a b ≡ false
differing a b h = ⊎_elim (λ same. absurd (h ((bytes_eq-Decides a b).0 same))) (λ other. other) (true_or_false (bytes_eq a b))

-- of two names that differ the outputs do
pub other_output : (one other : List ℕ) → bytes_eq one other ≡ false → output_name other ≢ output_name one
other_output one other h same = differ one other h (sym (append_cancel_right other one (codes ".out") same))

among_append : (o : List ℕ) (xs ys : List (List ℕ)) → is_among o (map output_name (xs ++ ys)) ≡ (is_among o (map output_name xs) || is_among o (map output_name ys))
among_append o xs ys = ap (is_among o) (map-append output_name xs ys) ∙ list_any-append (bytes_eq o) (map output_name xs) (map output_name ys)

pub split_at : (names : List (List ℕ)) (i : ℕ) (name : List ℕ) → i < length names → name ≡ get_or names i [] → names ≡ take i names ++ name ∷ drop (i + 1) names
split_at names i name within is = sym (take-append-drop i names) ∙ ap (λ ns. take i names ++ ns) (drop_more names i [] within ∙ ap (λ n. n ∷ drop (i + 1) names) (sym is))

-- the last of a list's front, taken from it
pub popped : {X : Type 0} (all old new : List X) (m n : ℕ) (x : X) → old ≡ take m all → old ≡ new ++ x ∷ [] → m ≡ n + 1 → m ≤ length all → (new ≡ take n all) × (x ≡ get_or all n x)
popped all old new m n x front back one within =
    let inside : n < length all = omega arith in
    same_from_push new (take n all) x (get_or all n x) (sym back ∙ front ∙ ap (λ k. take k all) one ∙ take_more all n x inside)

-- the output of a name, in a list of outputs
pub output_at : {X : Type 0} (f : X → List ℕ) (names outputs : List X) (i : ℕ) (name output : X) → map f outputs ≡ map output_name (map f names) → i < length names → name ≡ get_or names i name → output ≡ get_or outputs i output → f output ≡ output_name (f name)
output_at f names outputs i name output are within is out_is =
    let lengths : length outputs ≡ length names = sym (length-map outputs f) ∙ ap length are ∙ length-map (map f names) output_name ∙ length-map names f in
    let inside : i < length outputs = omega arith in
    let inside2 : i < length (map f names) = omega (arith, length-map names f) in
    ap f out_is ∙ sym (get_or-map f outputs i output [] inside) ∙ ap (λ xs. get_or xs i []) are
    ∙ get_or-map output_name (map f names) i [] [] inside2 ∙ ap output_name (get_or-map f names i name [] within ∙ ap f (sym is))

-- the name itself, among the bytes of all
pub name_at : {X : Type 0} (f : X → List ℕ) (names : List X) (i : ℕ) (name : X) → i < length names → name ≡ get_or names i name → f name ≡ get_or (map f names) i []
name_at f names i name within is = ap f is ∙ sym (get_or-map f names i name [] within)

pub name_in_front : {X : Type 0} (f : X → List ℕ) (names : List X) (m n i : ℕ) (name : X) → n < m → n < length names → i ≡ n → name ≡ get_or names i name → f name ≡ get_or (take m (map f names)) n []
name_in_front f names m n i name few within at is = name_at f names n name within (is ∙ ap (λ k. get_or names k name) at) ∙ sym (get_or-take m (map f names) n [] few)

-- a name among those of a list, none of which stands twice
pub distinct_front : (xs ys : List (List ℕ)) → are_distinct (xs ++ ys) ≡ true → are_distinct xs ≡ true
distinct_front [] ys h = refl
distinct_front (x ∷ xs) ys h =
    let parts = and_true (not (is_among x (xs ++ ys))) (are_distinct (xs ++ ys)) h in
    let none : (is_among x xs || is_among x ys) ≡ false = sym (list_any-append (bytes_eq x) xs ys) ∙ not_true (is_among x (xs ++ ys)) parts.0 in
    let here : is_among x xs ≡ false = (or_false (is_among x xs) (is_among x ys) none).0 in
    let behind : are_distinct xs ≡ true = distinct_front xs ys parts.1 in
    cc

pub distinct_behind : (xs : List (List ℕ)) (name : List ℕ) (ys : List (List ℕ)) → are_distinct (xs ++ name ∷ ys) ≡ true → is_among name ys ≡ false
distinct_behind [] name ys h = not_true (is_among name ys) (and_true (not (is_among name ys)) (are_distinct ys) h).0
distinct_behind (x ∷ xs) name ys h = distinct_behind xs name ys (and_true (not (is_among x (xs ++ name ∷ ys))) (are_distinct (xs ++ name ∷ ys)) h).1

-- ---- outputs that are open
open_among : (is_open : List ℕ → Bool) (names : List (List ℕ)) (o : List ℕ) → AreOpen is_open names → is_among o (map output_name names) ≡ true → is_open o ≡ true
open_among is_open [] o h k = absurd (false≢true k)
open_among is_open (name ∷ names) o h k =
    ⊎_elim
    (λ (here : bytes_eq o (output_name name) ≡ true). ap is_open ((bytes_eq-Decides o (output_name name)).0 here) ∙ h.0)
    (λ (other : bytes_eq o (output_name name) ≡ false). open_among is_open names o h.1 (ap (λ b. b || is_among o (map output_name names)) (sym other) ∙ k))
    (true_or_false (bytes_eq o (output_name name)))

stays_open : (names : List (List ℕ)) (old new : List ℕ → Bool) (o : List ℕ) → OthersStay names old new → AreOpen new names → old o ≡ true → new o ≡ true
stays_open names old new o others opened h =
    ⊎_elim
    (λ here. open_among new names o opened here)
    (λ other. others o other ∙ h)
    (true_or_false (is_among o (map output_name names)))

AreOpen-joined : (xs ys : List (List ℕ)) (old new : List ℕ → Bool) → AreOpen old xs → OthersStay ys old new → AreOpen new ys → AreOpen new (xs ++ ys)
AreOpen-joined [] ys old new h others opened = opened
AreOpen-joined (x ∷ xs) ys old new h others opened = (stays_open ys old new (output_name x) others opened h.0, AreOpen-joined xs ys old new h.1 others opened)

pub AreOpen-last : (is_open : List ℕ → Bool) (xs : List (List ℕ)) (name : List ℕ) → AreOpen is_open (xs ++ name ∷ []) → is_open (output_name name) ≡ true
AreOpen-last is_open [] name h = h.0
AreOpen-last is_open (x ∷ xs) name h = AreOpen-last is_open xs name h.1

-- the last of them is closed
pub AreOpen-closed : (old new : List ℕ → Bool) (xs ys : List (List ℕ)) (name : List ℕ) → AreOpen old (xs ++ name ∷ []) → Closes (output_name name) old new → are_distinct (xs ++ name ∷ ys) ≡ true → AreOpen new xs
AreOpen-closed old new [] ys name h closes distinct = tt
AreOpen-closed old new (x ∷ xs) ys name h closes distinct =
    let parts = and_true (not (is_among x (xs ++ name ∷ ys))) (are_distinct (xs ++ name ∷ ys)) distinct in
    let none : (is_among x xs || is_among x (name ∷ ys)) ≡ false = sym (list_any-append (bytes_eq x) xs (name ∷ ys)) ∙ not_true (is_among x (xs ++ name ∷ ys)) parts.0 in
    let behind : (bytes_eq x name || is_among x ys) ≡ false = (or_false (is_among x xs) (is_among x (name ∷ ys)) none).1 in
    let other : bytes_eq x name ≡ false = (or_false (bytes_eq x name) (is_among x ys) behind).0 in
    (closes.others (output_name x) (λ same. other_output x name other (sym same)) ∙ h.0, AreOpen-closed old new xs ys name h.1 closes parts.1)

pub AreOpen-front : (old new : List ℕ → Bool) (names : List (List ℕ)) (n : ℕ) (name : List ℕ) → n < length names → name ≡ get_or names n [] → are_distinct names ≡ true → AreOpen old (take (n + 1) names) → Closes (output_name name) old new → AreOpen new (take n names)
AreOpen-front old new names n name within is distinct opened closes =
    AreOpen-closed old new (take n names) (drop (n + 1) names) name
    (subst (AreOpen old) (take_more names n [] within ∙ ap (λ o. take n names ++ o ∷ []) (sym is)) opened)
    closes (ap are_distinct (sym (split_at names n name within is)) ∙ distinct)

-- the last of the first ones
pub AreOpen-here : (is_open : List ℕ → Bool) (names : List (List ℕ)) (n : ℕ) (name : List ℕ) → n < length names → name ≡ get_or names n [] → AreOpen is_open (take (n + 1) names) → is_open (output_name name) ≡ true
AreOpen-here is_open names n name within is opened =
    AreOpen-last is_open (take n names) name (subst (AreOpen is_open) (take_more names n [] within ∙ ap (λ o. take n names ++ o ∷ []) (sym is)) opened)

pub AreOpen-same : (names : List (List ℕ)) (old new : List ℕ → Bool) → SameOpen old new → AreOpen old names → AreOpen new names
AreOpen-same [] old new same h = tt
AreOpen-same (name ∷ names) old new same h = (same (output_name name) ∙ h.0, AreOpen-same names old new same h.1)

pub front_of : {X : Type 0} (names front : List X) (name : X) (rest : List X) (n : ℕ) → names ≡ front ++ name ∷ rest → length front ≡ n → take n names ≡ front
front_of names front name rest n is count = ap (take n) is ∙ take_at front (name ∷ rest) n count

-- ---- other outputs
pub OthersStay-head : {A : Type 0} (name : List ℕ) (names : List (List ℕ)) (old new : List ℕ → A) → ((other : List ℕ) → other ≢ output_name name → new other ≡ old other) → OthersStay (name ∷ names) old new
OthersStay-head name names old new h other none = h other (differ other (output_name name) (or_false (bytes_eq other (output_name name)) (is_among other (map output_name names)) none).0)

pub OthersStay-joined : {A : Type 0} (xs ys : List (List ℕ)) (a b c : List ℕ → A) → OthersStay xs a b → OthersStay ys b c → OthersStay (xs ++ ys) a c
OthersStay-joined xs ys a b c one other o none =
    let parts = or_false (is_among o (map output_name xs)) (is_among o (map output_name ys)) (sym (among_append o xs ys) ∙ none) in
    other o parts.1 ∙ one o parts.0

pub OthersStay-chain : {A : Type 0} (names : List (List ℕ)) (a b c : List ℕ → A) → OthersStay names a b → OthersStay names b c → OthersStay names a c
OthersStay-chain names a b c h k other none = k other none ∙ h other none

pub OthersStay-front : {A : Type 0} (xs ys : List (List ℕ)) (old new : List ℕ → A) → OthersStay xs old new → OthersStay (xs ++ ys) old new
OthersStay-front xs ys old new h other none = h other (or_false (is_among other (map output_name xs)) (is_among other (map output_name ys)) (sym (among_append other xs ys) ∙ none)).0

pub OthersStay-more : {A : Type 0} (names front : List (List ℕ)) (name : List ℕ) (rest : List (List ℕ)) (old new : List ℕ → A) → names ≡ front ++ name ∷ rest → OthersStay front old new → OthersStay names old new
OthersStay-more names front name rest old new is others = subst (λ (ns : List (List ℕ)). OthersStay ns old new) (sym is) (OthersStay-front front (name ∷ rest) old new others)

-- ---- counts
RoseFor-later : {A : Type 0} (faults : A → ℕ) (first before now : ℕ) (items : List A) → first ≤ before → RoseFor faults before now items → RoseFor faults first now items
RoseFor-later faults first before now [] h r = tt
RoseFor-later faults first before now (x ∷ items) h r = (λ some. Rose-later first before now h (r.0 some), RoseFor-later faults first before now items h r.1)

Rose-on : (first before now : ℕ) → before ≤ now → Rose first before → Rose first now
Rose-on first before now h rose = grind arith

RoseFor-on : {A : Type 0} (faults : A → ℕ) (first before now : ℕ) (items : List A) → before ≤ now → RoseFor faults first before items → RoseFor faults first now items
RoseFor-on faults first before now [] h r = tt
RoseFor-on faults first before now (x ∷ items) h r = (λ some. Rose-on first before now h (r.0 some), RoseFor-on faults first before now items h r.1)

-- ---- the files
module _ {I O : Type 0} (left : I → Option (List ℕ)) (reads : I → ℕ) (taken : O → Option (List ℕ)) (writes : O → ℕ) (tells : Bool) (input : List ℕ → Option (List ℕ)) where
  AreNew-joined : (xs ys : List (List ℕ)) (fs gs : List (I × O)) → AreNew left reads taken writes tells input xs fs → AreNew left reads taken writes tells input ys gs → AreNew left reads taken writes tells input (xs ++ ys) (fs ++ gs)
  AreNew-joined [] ys [] gs h k = k
  AreNew-joined (x ∷ xs) ys (f ∷ fs) gs h k = (h.0, AreNew-joined xs ys fs gs h.1 k)
  AreNew-joined [] ys (f ∷ fs) gs h k = absurd h
  AreNew-joined (x ∷ xs) ys [] gs h k = absurd h

  pub AreNew-moved : (other : List ℕ → Option (List ℕ)) (xs : List (List ℕ)) (fs : List (I × O)) → SameBytes input other → AreNew left reads taken writes tells other xs fs → AreNew left reads taken writes tells input xs fs
  AreNew-moved other [] [] same h = tt
  AreNew-moved other (x ∷ xs) (f ∷ fs) same h = (subst (λ (o : Option (List ℕ)). IsNew left reads taken writes tells o f) (same x) h.0, AreNew-moved other xs fs same h.1)
  AreNew-moved other [] (f ∷ fs) same h = absurd h
  AreNew-moved other (x ∷ xs) [] same h = absurd h

  pub AreNew-length : (names : List (List ℕ)) (files : List (I × O)) → AreNew left reads taken writes tells input names files → length files ≡ length names
  AreNew-length [] [] h = refl
  AreNew-length (name ∷ names) (file ∷ files) h = ap suc (AreNew-length names files h.1)
  AreNew-length [] (file ∷ files) h = absurd h
  AreNew-length (name ∷ names) [] h = absurd h

  -- new outputs that were given back as they are
  AreEmpty-kept : (output : List ℕ → Option (List ℕ)) (names : List (List ℕ)) (files : List (I × O)) → AreNew left reads taken writes tells input names files → AreKept taken output names files → AreEmpty tells output names
  AreEmpty-kept output [] [] h k = tt
  AreEmpty-kept output (name ∷ names) (file ∷ files) h k = (k.0 ∙ h.0.empty, AreEmpty-kept output names files h.1 k.1)
  AreEmpty-kept output [] (file ∷ files) h k = absurd h
  AreEmpty-kept output (name ∷ names) [] h k = absurd h

-- the outputs that were given back stay as they are
AreKept-moved : {I O : Type 0} (taken : O → Option (List ℕ)) (old new : List ℕ → Option (List ℕ)) (name : List ℕ) (names : List (List ℕ)) (files : List (I × O)) → AreKept taken old names files → OthersStay (name ∷ []) old new → is_among name names ≡ false → AreKept taken new names files
AreKept-moved taken old new name [] [] h others none = tt
AreKept-moved taken old new name (x ∷ names) (f ∷ files) h others none =
    let parts = or_false (bytes_eq name x) (is_among name names) none in
    let apart : is_among (output_name x) (output_name name ∷ []) ≡ false = both_false (bytes_eq (output_name x) (output_name name)) false (differing (output_name x) (output_name name) (other_output name x parts.0)) refl in
    (others (output_name x) apart ∙ h.0, AreKept-moved taken old new name names files h.1 others parts.1)
AreKept-moved taken old new name [] (f ∷ files) h others none = absurd h
AreKept-moved taken old new name (x ∷ names) [] h others none = absurd h

module _ {S I O : Type 0} (source : S → List ℕ → Result I Failed → S → Type 0) (sink : S → List ℕ → Result O Failed → S → Type 0) (take_back : S → List ℕ → I → S → Type 0) (give_back : S → List ℕ → O → S → Type 0) where
  Opened-joined : (xs ys : List (List ℕ)) (fs gs : List (I × O)) (a b c : S) → Opened source sink take_back give_back xs fs a b → Opened source sink take_back give_back ys gs b c → Opened source sink take_back give_back (xs ++ ys) (fs ++ gs) a c
  Opened-joined [] ys [] gs a b c h k = subst (λ (s : S). Opened source sink take_back give_back ys gs s c) h k
  Opened-joined (x ∷ xs) ys (f ∷ fs) gs a b c h k = (h.0, h.1, h.2, h.3, Opened-joined xs ys fs gs h.1 b c h.4 k)
  Opened-joined [] ys (f ∷ fs) gs a b c h k = absurd h
  Opened-joined (x ∷ xs) ys [] gs a b c h k = absurd h

  module _ (left : I → Option (List ℕ)) (reads : I → ℕ) (taken : O → Option (List ℕ)) (writes : O → ℕ)
      (tells : Bool) (input output : S → List ℕ → Option (List ℕ)) (is_open : S → List ℕ → Bool) (source_faults sink_faults : S → ℕ) where
    -- no file
    pub HasOpened-none : (s : S) → HasOpened source sink take_back give_back left reads taken writes tells input output is_open source_faults sink_faults [] [] s s
    HasOpened-none s =
        record {
          calls = refl;
          new_files = tt;
          are_open = tt;
          others_open = λ other none. refl;
          others = λ other none. refl;
          inputs = λ name. refl;
          no_fewer_reads = omega arith;
          no_fewer_writes = omega arith;
        }

    pub HasOpened-one : (name : List ℕ) (file : I × O) (a b : S) → Opened source sink take_back give_back (name ∷ []) (file ∷ []) a b → IsNew left reads taken writes tells (input a name) file
        → Opens (output_name name) (is_open a) (is_open b) → SameOthers (output_name name) (output a) (output b) → SameBytes (input a) (input b) → source_faults a ≤ source_faults b → sink_faults a ≤ sink_faults b
        → HasOpened source sink take_back give_back left reads taken writes tells input output is_open source_faults sink_faults (name ∷ []) (file ∷ []) a b
    HasOpened-one name file a b calls new opens others inputs read_count write_count =
        record {
          calls = calls;
          new_files = (new, tt);
          are_open = (opens.here, tt);
          others_open = OthersStay-head name [] (is_open a) (is_open b) opens.others;
          others = OthersStay-head name [] (output a) (output b) others;
          inputs = inputs;
          no_fewer_reads = read_count;
          no_fewer_writes = write_count;
        }

    -- these, and then those
    pub HasOpened-joined : (xs ys : List (List ℕ)) (fs gs : List (I × O)) (a b c : S)
        → HasOpened source sink take_back give_back left reads taken writes tells input output is_open source_faults sink_faults xs fs a b
        → HasOpened source sink take_back give_back left reads taken writes tells input output is_open source_faults sink_faults ys gs b c
        → HasOpened source sink take_back give_back left reads taken writes tells input output is_open source_faults sink_faults (xs ++ ys) (fs ++ gs) a c
    HasOpened-joined xs ys fs gs a b c h k =
        record {
          calls = Opened-joined xs ys fs gs a b c h.calls k.calls;
          new_files = AreNew-joined left reads taken writes tells (input a) xs ys fs gs h.new_files (AreNew-moved left reads taken writes tells (input a) (input b) ys gs h.inputs k.new_files);
          are_open = AreOpen-joined xs ys (is_open b) (is_open c) h.are_open k.others_open k.are_open;
          others_open = OthersStay-joined xs ys (is_open a) (is_open b) (is_open c) h.others_open k.others_open;
          others = OthersStay-joined xs ys (output a) (output b) (output c) h.others k.others;
          inputs = λ name. k.inputs name ∙ h.inputs name;
          no_fewer_reads = omega (arith, h.no_fewer_reads, k.no_fewer_reads);
          no_fewer_writes = omega (arith, h.no_fewer_writes, k.no_fewer_writes);
        }

    -- the files of the first names, and then of the next
    pub HasOpened-more : (names : List (List ℕ)) (i : ℕ) (name : List ℕ) (file : I × O) (files : List (I × O)) (a b c : S) → i < length names → name ≡ get_or names i []
        → HasOpened source sink take_back give_back left reads taken writes tells input output is_open source_faults sink_faults (take i names) files a b
        → HasOpened source sink take_back give_back left reads taken writes tells input output is_open source_faults sink_faults (name ∷ []) (file ∷ []) b c
        → HasOpened source sink take_back give_back left reads taken writes tells input output is_open source_faults sink_faults (take (i + 1) names) (files ++ file ∷ []) a c
    HasOpened-more names i name file files a b c within is h k =
        subst (λ (ns : List (List ℕ)). HasOpened source sink take_back give_back left reads taken writes tells input output is_open source_faults sink_faults ns (files ++ file ∷ []) a c)
        (sym (take_more names i [] within ∙ ap (λ n. take i names ++ n ∷ []) (sym is)))
        (HasOpened-joined (take i names) (name ∷ []) files (file ∷ []) a b c h k)

    -- the next couldn't be opened
    pub HasStopped-at : (why : Unopened) (names : List (List ℕ)) (i : ℕ) (name : List ℕ) (files : List (I × O)) (a b c : S) → i < length names → name ≡ get_or names i []
        → HasOpened source sink take_back give_back left reads taken writes tells input output is_open source_faults sink_faults (take i names) files a b
        → OpensNeither source sink take_back give_back why name b c → SameOpen (is_open b) (is_open c) → SameOthers (output_name name) (output b) (output c) → SameBytes (input b) (input c)
        → source_faults b ≤ source_faults c → sink_faults b ≤ sink_faults c → (why ≡ Input → Rose (source_faults b) (source_faults c)) → (why ≡ Output → Rose (sink_faults b) (sink_faults c))
        → HasStopped source sink take_back give_back left reads taken writes tells input output is_open source_faults sink_faults why names files a c
    HasStopped-at why names i name files a b c within is h neither same others inputs read_count write_count read_fault write_fault =
        let split = split_at names i name within is in
        record {
          front = take i names;
          name = name;
          rest = drop (i + 1) names;
          in_order = split;
          before = b;
          opened = h;
          failed = neither;
          same_open = same;
          others =
              subst (λ (ns : List (List ℕ)). OthersStay ns (output a) (output c)) (sym split)
              (OthersStay-joined (take i names) (name ∷ drop (i + 1) names) (output a) (output b) (output c) h.others (OthersStay-head name (drop (i + 1) names) (output b) (output c) others));
          inputs = λ other. inputs other ∙ h.inputs other;
          no_fewer_reads = omega (arith, h.no_fewer_reads);
          no_fewer_writes = omega (arith, h.no_fewer_writes);
          read_fault = λ e. Rose-later (source_faults a) (source_faults b) (source_faults c) h.no_fewer_reads (read_fault e);
          write_fault = λ e. Rose-later (sink_faults a) (sink_faults b) (sink_faults c) h.no_fewer_writes (write_fault e);
        }

    pub HasReturned-none : (s : S) → HasReturned source sink take_back give_back left reads taken writes tells input output is_open source_faults sink_faults [] [] s s
    HasReturned-none s =
        record {
          calls = refl;
          kept = tt;
          others = λ other none. refl;
          closed = λ other h. (h, refl);
          inputs = λ name. refl;
          no_fewer_reads = omega arith;
          no_fewer_writes = omega arith;
          reads_rose = tt;
          writes_rose = tt;
        }

    -- the later ones, and then this one
    pub HasReturned-cons : (name : List ℕ) (names : List (List ℕ)) (file : I × O) (files : List (I × O)) (a b c : S)
        → HasReturned source sink take_back give_back left reads taken writes tells input output is_open source_faults sink_faults names files a b
        → HasReturned source sink take_back give_back left reads taken writes tells input output is_open source_faults sink_faults (name ∷ []) (file ∷ []) b c
        → is_among name names ≡ false
        → HasReturned source sink take_back give_back left reads taken writes tells input output is_open source_faults sink_faults (name ∷ names) (file ∷ files) a c
    HasReturned-cons name names file files a b c h k none =
        record {
          calls = (k.calls.0, k.calls.1, subst (λ (s : S). Returned source sink take_back give_back names files a s) (sym k.calls.2) h.calls, k.calls.3, k.calls.4);
          kept = (k.kept.0, AreKept-moved taken (output b) (output c) name names files h.kept k.others none);
          others = λ other apart.
              let parts = or_false (bytes_eq other (output_name name)) (is_among other (map output_name names)) apart in
              k.others other (both_false (bytes_eq other (output_name name)) false parts.0 refl) ∙ h.others other parts.1;
          closed = λ other open_now.
              let one = k.closed other open_now in
              let before = h.closed other one.0 in
              (before.0, both_false (bytes_eq other (output_name name)) (is_among other (map output_name names)) (or_false (bytes_eq other (output_name name)) false one.1).0 before.1);
          inputs = λ other. k.inputs other ∙ h.inputs other;
          no_fewer_reads = omega (arith, h.no_fewer_reads, k.no_fewer_reads);
          no_fewer_writes = omega (arith, h.no_fewer_writes, k.no_fewer_writes);
          reads_rose = (
            λ some. Rose-later (source_faults a) (source_faults b) (source_faults c) h.no_fewer_reads (k.reads_rose.0 some),
            RoseFor-on (λ (f : I × O). reads f.0) (source_faults a) (source_faults b) (source_faults c) files k.no_fewer_reads h.reads_rose,
          );
          writes_rose = (
            λ some. Rose-later (sink_faults a) (sink_faults b) (sink_faults c) h.no_fewer_writes (k.writes_rose.0 some),
            RoseFor-on (λ (f : I × O). writes f.1) (sink_faults a) (sink_faults b) (sink_faults c) files k.no_fewer_writes h.writes_rose,
          );
        }

    -- those of the last names, and then of the one before
    pub HasReturned-end : (names : List (List ℕ)) (files : List (I × O)) (n : ℕ) (s : S) → length names ≤ n → length files ≤ n
        → HasReturned source sink take_back give_back left reads taken writes tells input output is_open source_faults sink_faults (drop n names) (drop n files) s s
    HasReturned-end names files n s h k =
        subst (λ (ns : List (List ℕ)). HasReturned source sink take_back give_back left reads taken writes tells input output is_open source_faults sink_faults ns (drop n files) s s) (sym (drop_all n names h))
        (subst (λ (fs : List (I × O)). HasReturned source sink take_back give_back left reads taken writes tells input output is_open source_faults sink_faults [] fs s s) (sym (drop_all n files k))
        (HasReturned-none s))

    pub HasReturned-more : (names : List (List ℕ)) (files : List (I × O)) (n : ℕ) (name : List ℕ) (file : I × O) (a b c : S) → n < length names → n < length files → name ≡ get_or names n [] → file ≡ get_or files n file
        → are_distinct names ≡ true
        → HasReturned source sink take_back give_back left reads taken writes tells input output is_open source_faults sink_faults (drop (n + 1) names) (drop (n + 1) files) a b
        → HasReturned source sink take_back give_back left reads taken writes tells input output is_open source_faults sink_faults (name ∷ []) (file ∷ []) b c
        → HasReturned source sink take_back give_back left reads taken writes tells input output is_open source_faults sink_faults (drop n names) (drop n files) a c
    HasReturned-more names files n name file a b c within inside is file_is distinct h k =
        subst (λ (ns : List (List ℕ)). HasReturned source sink take_back give_back left reads taken writes tells input output is_open source_faults sink_faults ns (drop n files) a c)
        (sym (drop_more names n [] within ∙ ap (λ o. o ∷ drop (n + 1) names) (sym is)))
        (subst (λ (fs : List (I × O)). HasReturned source sink take_back give_back left reads taken writes tells input output is_open source_faults sink_faults (name ∷ drop (n + 1) names) fs a c)
        (sym (drop_more files n file inside ∙ ap (λ f. f ∷ drop (n + 1) files) (sym file_is)))
        (HasReturned-cons name (drop (n + 1) names) file (drop (n + 1) files) a b c h k
        (distinct_behind (take n names) name (drop (n + 1) names) (ap are_distinct (sym (split_at names n name within is)) ∙ distinct))))

    -- those that were opened before a fault are no more than the names, and are open
    pub stopped_few : (why : Unopened) (names : List (List ℕ)) (files : List (I × O)) (a b : S)
        → HasStopped source sink take_back give_back left reads taken writes tells input output is_open source_faults sink_faults why names files a b → length files ≤ length names
    stopped_few why names files a b h =
        let count : length files ≡ length h.front = AreNew-length left reads taken writes tells (input a) h.front files h.opened.new_files in
        let all : length names ≡ length h.front + suc (length h.rest) = ap length h.in_order ∙ length-append h.front (h.name ∷ h.rest) in
        omega arith

    stopped_front : (why : Unopened) (names : List (List ℕ)) (files : List (I × O)) (n : ℕ) (a b : S) → n ≡ length files
        → (h : HasStopped source sink take_back give_back left reads taken writes tells input output is_open source_faults sink_faults why names files a b) → take n names ≡ h.front
    stopped_front why names files n a b is h =
        front_of names h.front h.name h.rest n h.in_order (sym (AreNew-length left reads taken writes tells (input a) h.front files h.opened.new_files) ∙ sym is)

    pub stopped_open : (why : Unopened) (names : List (List ℕ)) (files : List (I × O)) (n : ℕ) (a b : S) → n ≡ length files
        → HasStopped source sink take_back give_back left reads taken writes tells input output is_open source_faults sink_faults why names files a b → AreOpen (is_open b) (take n names)
    stopped_open why names files n a b is h =
        subst (AreOpen (is_open b)) (sym (stopped_front why names files n a b is h)) (AreOpen-same h.front (is_open h.before) (is_open b) h.same_open h.opened.are_open)

    -- and behind their return
    pub HasUndone-of : (why : Unopened) (names : List (List ℕ)) (files : List (I × O)) (n : ℕ) (a b c : S) → n ≡ length files
        → HasStopped source sink take_back give_back left reads taken writes tells input output is_open source_faults sink_faults why names files a b
        → HasReturned source sink take_back give_back left reads taken writes tells input output is_open source_faults sink_faults (take n names) files b c
        → HasUndone source sink take_back give_back left reads taken writes tells input output is_open source_faults sink_faults why names a c
    HasUndone-of why names files n a b c is h k =
        let front = stopped_front why names files n a b is h in
        record {
          front = h.front;
          name = h.name;
          rest = h.rest;
          in_order = h.in_order;
          files = files;
          before = h.before;
          between = b;
          opened = h.opened.calls;
          failed = h.failed;
          returned = subst (λ (ns : List (List ℕ)). Returned source sink take_back give_back ns files b c) front k.calls;
          empty = AreEmpty-kept left reads taken writes tells (input a) (output c) h.front files h.opened.new_files (subst (λ (ns : List (List ℕ)). AreKept taken (output c) ns files) front k.kept);
          others = λ other none.
              OthersStay-more names h.front h.name h.rest (output b) (output c) h.in_order (subst (λ (ns : List (List ℕ)). OthersStay ns (output b) (output c)) front k.others) other none ∙ h.others other none;
          closed = λ other open_now.
              let one = k.closed other open_now in
              sym (h.opened.others_open other (subst (λ (ns : List (List ℕ)). is_among other (map output_name ns) ≡ false) front one.1)) ∙ sym (h.same_open other) ∙ one.0;
          inputs = λ other. k.inputs other ∙ h.inputs other;
          no_fewer_reads = omega (arith, h.no_fewer_reads, k.no_fewer_reads);
          no_fewer_writes = omega (arith, h.no_fewer_writes, k.no_fewer_writes);
          read_fault = λ e. Rose-on (source_faults a) (source_faults b) (source_faults c) k.no_fewer_reads (h.read_fault e);
          write_fault = λ e. Rose-on (sink_faults a) (sink_faults b) (sink_faults c) k.no_fewer_writes (h.write_fault e);
        }
