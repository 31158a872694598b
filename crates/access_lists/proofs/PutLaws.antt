-- What putting an entry into a list does, by the place of the one that it replaces.
use Rattle.std.proofs.Common.{◌≡◌, ℕ, zero, suc, ◌+◌, ◌<◌, ◌≤◌, Bool, true, false, cond, not, ◌&&◌, ◌||◌, ltb, IsTrue, ◌↔◌, Result, Ok, Err, MatchResult, List, [], ◌∷◌, ◌++◌, Some, None, length, slice_set, get_or, refl, sym, ◌∙◌, ap, arith, ⊎_elim}
use Rattle.std.specs.Prelude.{nat_le}
use Rattle.std.proofs.lemmas.Bool.{le-leb, leb-true}
use Rattle.std.specs.List.{position, position_or_len, list_any}
use Rattle.std.proofs.lemmas.Bool.{cases_Bool}
use Rattle.std.proofs.lemmas.Bool.Decides.{nat_tests}
use Rattle.std.proofs.lemmas.List.Quantifiers.{position-Some}
use Rattle.std.proofs.lemmas.List.Folds.{list_any_at}
use Rattle.access_lists.specs.Lists.{entry_put, is_absent, has_no_room, most_entries}

put-hit : {X : Type 0} (p : X → Bool) (x y : X) (ys : List X) → p y ≡ true → entry_put p x (y ∷ ys) ≡ x ∷ ys
put-hit p x y ys hit = ap (λ b. cond b (x ∷ ys) (y ∷ entry_put p x ys)) hit

put-miss : {X : Type 0} (p : X → Bool) (x y : X) (ys : List X) → p y ≡ false → entry_put p x (y ∷ ys) ≡ y ∷ entry_put p x ys
put-miss p x y ys miss = ap (λ b. cond b (x ∷ ys) (y ∷ entry_put p x ys)) miss

set-put : {X : Type 0} (p : X → Bool) (xs : List X) (k : ℕ) (x : X) → k < length xs → p (get_or xs k x) ≡ true → ((j : ℕ) → j < k → p (get_or xs j x) ≡ false) → slice_set xs k x ≡ entry_put p x xs
set-put p [] k x within hit before = absurd (omega (arith, within))
set-put p (y ∷ ys) zero x within hit before = sym (put-hit p x y ys hit)
set-put p (y ∷ ys) (suc k) x within hit before =
    let here : p y ≡ false = before 0 (omega arith) in
    ap (λ rest. y ∷ rest) (set-put p ys k x (omega (arith, within)) hit (λ j h. before (suc j) (omega (arith, h)))) ∙ sym (put-miss p x y ys here)

-- At the place of the first that it replaces, an entry is put by being written there.
pub set_at_position : {X : Type 0} (p : X → Bool) (xs : List X) (k : ℕ) (x : X) → position p xs ≡ Some k → slice_set xs k x ≡ entry_put p x xs
set_at_position p xs k x is = let at = position-Some p xs k x is in set-put p xs k x at.0 at.1 at.2

pub any_at_position : {X : Type 0} (p : X → Bool) (xs : List X) (k : ℕ) (x : X) → position p xs ≡ Some k → list_any p xs ≡ true
any_at_position p xs k x is = let at = position-Some p xs k x is in list_any_at p xs k x at.0 at.1

pub none-within : (a b : ℕ) → cond (ltb a b) (Some a) None ≡ None → b ≤ a
none-within a b h = ⊎_elim
    (λ (below : ltb a b ≡ true). let some : Some a ≡ None = sym (ap (λ t. cond t (Some a) None) below) ∙ h in absurd cc)
    (λ (above : ltb a b ≡ false). grind (arith, nat_tests))
    (cases_Bool (ltb a b))

-- Where none is replaced.
pub record IsNew {X : Type 0} (p : X → Bool) (xs : List X) (x : X) : Type 0 where
  pub put : entry_put p x xs ≡ xs ++ x ∷ []
  pub any : list_any p xs ≡ false

new-from : {X : Type 0} (p : X → Bool) (xs : List X) (x : X) → length xs ≤ position_or_len p xs → IsNew p xs x
new-from p [] x h = record { put = refl; any = refl }
new-from p (y ∷ ys) x h = ⊎_elim
    (λ (hit : p y ≡ true). let zero_len : position_or_len p (y ∷ ys) ≡ 0 = ap (λ b. cond (not b) (1 + position_or_len p ys) 0) hit in absurd (omega (arith, h, zero_len)))
    (λ (miss : p y ≡ false).
    let more : position_or_len p (y ∷ ys) ≡ 1 + position_or_len p ys = ap (λ b. cond (not b) (1 + position_or_len p ys) 0) miss in
    let rest = new-from p ys x (omega (arith, h, more)) in
    record { put = put-miss p x y ys miss ∙ ap (λ tail. y ∷ tail) rest.put; any = ap (λ b. b || list_any p ys) miss ∙ rest.any })
    (cases_Bool (p y))

pub new_without_position : {X : Type 0} (p : X → Bool) (xs : List X) (x : X) → position p xs ≡ None → IsNew p xs x
new_without_position p xs x none = new-from p xs x (none-within (position_or_len p xs) (length xs) none)

-- Whether there is room.
pub room_at_position : {X : Type 0} (p : X → Bool) (xs : List X) (k : ℕ) (x : X) → position p xs ≡ Some k → has_no_room p xs ≡ false
room_at_position p xs k x is = ap (λ b. not b && nat_le most_entries (length xs)) (any_at_position p xs k x is)

pub room_when_new : {X : Type 0} (p : X → Bool) (xs : List X) (x : X) → position p xs ≡ None → has_no_room p xs ≡ nat_le most_entries (length xs)
room_when_new p xs x none = ap (λ b. not b && nat_le most_entries (length xs)) (new_without_position p xs x none).any

-- What is said of a full list.
pub full_if : {P : Type 0} (full : Bool) (count : ℕ) → full ≡ nat_le most_entries count → P ↔ most_entries ≤ count → P ↔ IsTrue full
full_if full count is by = (λ h. is ∙ le-leb most_entries count (by.0 h), λ h. by.1 (leb-true most_entries count (sym is ∙ h)))

-- A result that is fine isn't a fault, and where there is room no fault is due.
pub not_full : {E : Type 0} (fault : E) (full : Bool) → full ≡ false → (◌≡◌ {A = Result (Unit {0}) E} (Ok tt) (Err fault)) ↔ IsTrue full
not_full fault full is = (λ h. absurd cc, λ h. absurd cc)

-- What was added last was put, where nothing is replaced.
pub added_is_put : {X E : Type 0} (p : X → Bool) (xs new : List X) (x : X) (r : Result (Unit {0}) E) → position p xs ≡ None → MatchResult r (λ _. new ≡ xs ++ x ∷ []) (λ _. new ≡ xs) → MatchResult r (λ _. new ≡ entry_put p x xs) (λ _. new ≡ xs)
added_is_put p xs new x (Ok u) none h = h ∙ sym (new_without_position p xs x none).put
added_is_put p xs new x (Err e) none h = h

-- Where no place is found, no entry is for the ID.
pub absent_at_none : {X : Type 0} (p : X → Bool) (xs : List X) (x : X) → position p xs ≡ None → is_absent p xs ≡ true
absent_at_none p xs x none = ap not (new_without_position p xs x none).any
