-- Conflicts in the order of their numbers.
use Rattle.std.proofs.Common.{◌≡◌, ℕ, nat_le, Bool, true, false, cond, ◌&&◌, List, [], ◌∷◌, ◌++◌, Option, None, Some, option_map, option_and_then, refl, sym, ap, ◌∙◌, arith}
use Rattle.std.specs.Prelude.{find}
use Rattle.std.specs.List.{list_all}
use Rattle.std.proofs.lemmas.Bool.{and_from, and_parts}
use Rattle.std.proofs.lemmas.Bool.Decides.{nat_tests}
use Rattle.command_rules.specs.declared.conflict.Conflict.{Conflict}
use Rattle.command_rules.specs.Required.{if_met, first_met}
use Rattle.command_rules.specs.Numbers.{number_of, met, is_ascending, is_early}

-- a test that tells conflicts of one number
abbrev pub HasNumber : ℕ → Option Conflict → Type 0
HasNumber n test = (conflict : Conflict) → test ≡ Some conflict → number_of conflict ≡ n

pub number-none : (n : ℕ) → HasNumber n None
number-none n conflict h = cc

pub number-if_met : (met : Bool) (conflict : Conflict) → HasNumber (number_of conflict) (if_met met conflict)
number-if_met true conflict other h = let same : conflict ≡ other = cc in ap number_of (sym same)
number-if_met false conflict other h = cc

pub number-map : {A : Type 0} (n : ℕ) (f : A → Conflict) → ((x : A) → number_of (f x) ≡ n) → (o : Option A) → HasNumber n (option_map f o)
number-map n f is None conflict h = cc
number-map n f is (Some x) conflict h = let same : f x ≡ conflict = cc in ap number_of (sym same) ∙ is x

pub number-then : {A : Type 0} (n : ℕ) (f : A → Option Conflict) → ((x : A) → HasNumber n (f x)) → (o : Option A) → HasNumber n (option_and_then f o)
number-then n f is None conflict h = cc
number-then n f is (Some x) conflict h = is x conflict h

pub number-unless : (n : ℕ) (b : Bool) (test : Option Conflict) → HasNumber n test → HasNumber n (cond b None test)
number-unless n true test is conflict h = cc
number-unless n false test is conflict h = is conflict h

-- tests with their numbers
abbrev pub AreNumbered : List (Option Conflict) → List ℕ → Type 0
AreNumbered [] numbers = Unit {0}
AreNumbered (test ∷ tests) [] = ⊥
AreNumbered (test ∷ tests) (n ∷ numbers) = HasNumber n test × AreNumbered tests numbers

abbrev pub are_sorted : List ℕ → Bool
are_sorted [] = true
are_sorted (n ∷ numbers) = list_all (λ m. nat_le n m) numbers && are_sorted numbers

-- what is met has no less a number than the least of the tests
met-above : (m : ℕ) (tests : List (Option Conflict)) (numbers : List ℕ) → AreNumbered tests numbers → list_all (λ n. nat_le m n) numbers ≡ true → list_all (λ other. nat_le m (number_of other)) (met tests) ≡ true
met-above m [] numbers is above = refl
met-above m (None ∷ tests) [] is above = absurd is
met-above m (None ∷ tests) (n ∷ numbers) is above = met-above m tests numbers is.1 (and_parts (nat_le m n) _ above).1
met-above m (Some conflict ∷ tests) [] is above = absurd is
met-above m (Some conflict ∷ tests) (n ∷ numbers) is above =
    and_from _ _ (ap (nat_le m) (is.0 conflict refl) ∙ (and_parts (nat_le m n) (list_all (λ k. nat_le m k) numbers) above).0) (met-above m tests numbers is.1 (and_parts (nat_le m n) _ above).1)

pub met-ascending : (tests : List (Option Conflict)) (numbers : List ℕ) → AreNumbered tests numbers → are_sorted numbers ≡ true → is_ascending (met tests) ≡ true
met-ascending [] numbers is sorted = refl
met-ascending (None ∷ tests) [] is sorted = absurd is
met-ascending (None ∷ tests) (n ∷ numbers) is sorted = met-ascending tests numbers is.1 (and_parts (list_all (λ m. nat_le n m) numbers) _ sorted).1
met-ascending (Some conflict ∷ tests) [] is sorted = absurd is
met-ascending (Some conflict ∷ tests) (n ∷ numbers) is sorted =
    and_from _ _ (ap (λ k. list_all (λ other. nat_le k (number_of other)) (met tests)) (is.0 conflict refl) ∙ met-above n tests numbers is.1 (and_parts (list_all (λ m. nat_le n m) numbers) (are_sorted numbers) sorted).0)
    (met-ascending tests numbers is.1 (and_parts (list_all (λ m. nat_le n m) numbers) _ sorted).1)

-- ---- the first of them
first_met-met : (tests : List (Option Conflict)) → first_met tests ≡ find (λ conflict. true) (met tests)
first_met-met [] = refl
first_met-met (None ∷ tests) = first_met-met tests
first_met-met (Some conflict ∷ tests) = refl

-- where the first isn't early, none is
none-early : (m : ℕ) (conflicts : List Conflict) → nat_le m 6 ≡ false → list_all (λ other. nat_le m (number_of other)) conflicts ≡ true → find is_early conflicts ≡ None
none-early m [] late above = refl
none-early m (conflict ∷ conflicts) late above =
    let more : nat_le m (number_of conflict) ≡ true = (and_parts (nat_le m (number_of conflict)) (list_all (λ other. nat_le m (number_of other)) conflicts) above).0 in
    let late_too : nat_le (number_of conflict) 6 ≡ false = grind (arith, nat_tests) in
    ap (λ b. cond b (Some conflict) (find is_early conflicts)) late_too ∙ none-early m conflicts late (and_parts (nat_le m (number_of conflict)) _ above).1

early-of : (conflicts : List Conflict) → is_ascending conflicts ≡ true → find is_early conflicts ≡ option_and_then (λ conflict. cond (is_early conflict) (Some conflict) None) (find (λ conflict. true) conflicts)
early-of [] sorted = refl
early-of (conflict ∷ conflicts) sorted = by (is_early conflict) refl
  where
    by : (b : Bool) → is_early conflict ≡ b → cond b (Some conflict) (find is_early conflicts) ≡ cond b (Some conflict) None
    by true is = refl
    by false is = none-early (number_of conflict) conflicts is (and_parts (list_all (λ other. nat_le (number_of conflict) (number_of other)) conflicts) (is_ascending conflicts) sorted).0

pub early-first : (tests : List (Option Conflict)) → is_ascending (met tests) ≡ true → find is_early (met tests) ≡ option_and_then (λ conflict. cond (is_early conflict) (Some conflict) None) (first_met tests)
early-first tests sorted = early-of (met tests) sorted ∙ ap (option_and_then (λ conflict. cond (is_early conflict) (Some conflict) None)) (sym (first_met-met tests))

-- ---- tests behind others
pub first_met-append : (front behind : List (Option Conflict)) (conflict : Conflict) → first_met front ≡ Some conflict → first_met (front ++ behind) ≡ Some conflict
first_met-append [] behind conflict h = cc
first_met-append (None ∷ front) behind conflict h = first_met-append front behind conflict h
first_met-append (Some other ∷ front) behind conflict h = h

pub first_met-behind : (front behind : List (Option Conflict)) → first_met front ≡ None → first_met (front ++ behind) ≡ first_met behind
first_met-behind [] behind h = refl
first_met-behind (None ∷ front) behind h = first_met-behind front behind h
first_met-behind (Some other ∷ front) behind h = cc
