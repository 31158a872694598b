-- What stands at one place of a list, and what its entry or its lack makes of the whole.
use Rattle.std.proofs.Common.{◌≡◌, ◌≢◌, ℕ, zero, suc, ◌+◌, ◌<◌, ◌≤◌, Bool, true, false, cond, not, List, [], ◌∷◌, length, get_or, Option, Some, None, refl, ap, sym, ◌∙◌, arith, find, filter}
use Rattle.std.specs.List.{AllByRecursion, AllWithin, slice_get, insert, remove}
use Rattle.std.proofs.lemmas.Slice.Eq.{bytes_eq-Decides}
use Rattle.generic_names.specs.Spelled.{Spelled}
use Rattle.generic_names.specs.Before.{before}
use Rattle.generic_names.specs.Best.{IsInOrder}
use Rattle.profile_index.specs.declared.entry.Entry.{Entry}
use Rattle.profile_index.specs.Indexed.{IsPlaceOf, IsAbsent, has_name, with_entry}
use Rattle.profile_index.specs.Places.{IsFirst}

module _ {A : Type 0} where
  pub front : (P : A → Type 0) (x : A) (xs : List A) (low n : ℕ) → AllWithin P (x ∷ xs) low (suc n) → low ≤ 1 → AllWithin P xs 0 n
  front P x xs low n h first k d _ less = h (suc k) d (omega arith) (omega arith)

  pub back : (P : A → Type 0) (x : A) (xs : List A) (p n : ℕ) → AllWithin P (x ∷ xs) (suc p) (suc n) → AllWithin P xs p n
  back P x xs p n h k d low less = h (suc k) d (omega arith) (omega arith)

  pub slice_get-at : (xs : List A) (p : ℕ) (d : A) → p < length xs → slice_get xs p ≡ Some (get_or xs p d)
  slice_get-at [] p d h = absurd (omega arith)
  slice_get-at (x ∷ xs) zero d h = refl
  slice_get-at (x ∷ xs) (suc p) d h = slice_get-at xs p d (omega arith)

  module _ (test : A → Bool) where
    pub find-at : (xs : List A) (p : ℕ) (d : A) → p < length xs → AllWithin (λ x. test x ≡ false) xs 0 p → test (get_or xs p d) ≡ true → find test xs ≡ Some (get_or xs p d)
    find-at [] p d h none here = absurd (omega arith)
    find-at (x ∷ xs) zero d h none here = ap (λ (t : Bool). cond t (Some x) (find test xs)) here
    find-at (x ∷ xs) (suc p) d h none here =
        ap (λ (t : Bool). cond t (Some x) (find test xs)) (none 0 x (omega arith) (omega arith))
        ∙ find-at xs p d (omega arith) (front (λ y. test y ≡ false) x xs 0 p none (omega arith)) here

    pub find-none : (xs : List A) → AllWithin (λ x. test x ≡ false) xs 0 (length xs) → find test xs ≡ None
    find-none [] none = refl
    find-none (x ∷ xs) none =
        ap (λ (t : Bool). cond t (Some x) (find test xs)) (none 0 x (omega arith) (omega arith))
        ∙ find-none xs (front (λ y. test y ≡ false) x xs 0 (length xs) none (omega arith))

    pub filter-none : (xs : List A) → AllWithin (λ x. test x ≡ false) xs 0 (length xs) → filter (λ x. not (test x)) xs ≡ xs
    filter-none [] none = refl
    filter-none (x ∷ xs) none =
        ap (λ (t : Bool). cond (not t) (x ∷ filter (λ y. not (test y)) xs) (filter (λ y. not (test y)) xs)) (none 0 x (omega arith) (omega arith))
        ∙ ap (λ (ys : List A). x ∷ ys) (filter-none xs (front (λ y. test y ≡ false) x xs 0 (length xs) none (omega arith)))

    pub filter-one : (xs : List A) (p : ℕ) → p < length xs → AllWithin (λ x. test x ≡ false) xs 0 p → ((d : A) → test (get_or xs p d) ≡ true) → AllWithin (λ x. test x ≡ false) xs (p + 1) (length xs) → filter (λ x. not (test x)) xs ≡ remove xs p
    filter-one [] p h none here behind = absurd (omega arith)
    filter-one (x ∷ xs) zero h none here behind =
        ap (λ (t : Bool). cond (not t) (x ∷ filter (λ y. not (test y)) xs) (filter (λ y. not (test y)) xs)) (here x)
        ∙ filter-none xs (λ k d low less. behind (suc k) d (omega arith) (omega arith))
    filter-one (x ∷ xs) (suc p) h none here behind =
        ap (λ (t : Bool). cond (not t) (x ∷ filter (λ y. not (test y)) xs) (filter (λ y. not (test y)) xs)) (none 0 x (omega arith) (omega arith))
        ∙ ap (λ (ys : List A). x ∷ ys) (filter-one xs p (omega arith) (front (λ y. test y ≡ false) x xs 0 p none (omega arith)) here (λ k d low less. behind (suc k) d (omega arith) (omega arith)))

  pub all-insert : (P : A → Type 0) (xs : List A) (p : ℕ) (y : A) → AllByRecursion P xs → P y → AllByRecursion P (insert xs p y)
  all-insert P xs zero y all here = (here, all)
  all-insert P [] (suc p) y all here = (here, tt)
  all-insert P (x ∷ xs) (suc p) y all here = (all.0, all-insert P xs p y all.1 here)

  pub all-remove : (P : A → Type 0) (xs : List A) (p : ℕ) → AllByRecursion P xs → AllByRecursion P (remove xs p)
  all-remove P [] zero all = tt
  all-remove P [] (suc p) all = tt
  all-remove P (x ∷ xs) zero all = all.1
  all-remove P (x ∷ xs) (suc p) all = (all.0, all-remove P xs p all.1)

  all-from : (P : A → Type 0) (xs : List A) → AllWithin P xs 0 (length xs) → AllByRecursion P xs
  all-from P [] h = tt
  all-from P (x ∷ xs) h = (h 0 x (omega arith) (omega arith), all-from P xs (front P x xs 0 (length xs) h (omega arith)))

  module _ (name_of : A → Spelled) where
    pub order-insert : (xs : List A) (p : ℕ) (y : A) → p ≤ length xs → IsInOrder name_of xs → AllWithin (λ x. before (name_of x) (name_of y) ≡ true) xs 0 p → AllWithin (λ x. before (name_of y) (name_of x) ≡ true) xs p (length xs) → IsInOrder name_of (insert xs p y)
    order-insert xs zero y h ordered below above = (all-from (λ x. before (name_of y) (name_of x) ≡ true) xs above, ordered)
    order-insert [] (suc p) y h ordered below above = absurd (omega arith)
    order-insert (x ∷ xs) (suc p) y h ordered below above = (
      all-insert (λ z. before (name_of x) (name_of z) ≡ true) xs p y ordered.0 (below 0 x (omega arith) (omega arith)),
      order-insert xs p y (omega arith) ordered.1 (front (λ z. before (name_of z) (name_of y) ≡ true) x xs 0 p below (omega arith)) (back (λ z. before (name_of y) (name_of z) ≡ true) x xs p (length xs) above),
    )

    pub order-remove : (xs : List A) (p : ℕ) → IsInOrder name_of xs → IsInOrder name_of (remove xs p)
    order-remove [] zero ordered = tt
    order-remove [] (suc p) ordered = tt
    order-remove (x ∷ xs) zero ordered = ordered.1
    order-remove (x ∷ xs) (suc p) ordered = (all-remove (λ z. before (name_of x) (name_of z) ≡ true) xs p ordered.0, order-remove xs p ordered.1)

-- a first place stands for the first entry
module _ {T : Type 0} where
  pub place-from-first : (test : Entry T → Bool) (xs : List (Entry T)) (answer : Option ℕ) → IsFirst test xs answer → IsPlaceOf xs (find test xs) answer
  place-from-first test xs None h = record { within = tt; there = sym (find-none test xs h) }
  place-from-first test [] (Some place) h = absurd (let low : place < 0 = h.0 in omega arith)
  place-from-first test (x ∷ xs) (Some place) h = record {
    within = h.0;
    there = slice_get-at (x ∷ xs) place x h.0 ∙ sym (find-at test (x ∷ xs) place x h.0 h.1 (h.2 x));
  }

  -- an entry goes behind those that are before it
  pub with_entry-at : (xs : List (Entry T)) (p : ℕ) (new : Entry T) → p ≤ length xs → AllWithin (λ e. before e.name new.name ≡ true) xs 0 p → AllWithin (λ e. before e.name new.name ≡ false) xs p (length xs) → with_entry new xs ≡ insert xs p new
  with_entry-at [] zero new h below above = refl
  with_entry-at [] (suc p) new h below above = absurd (omega arith)
  with_entry-at (x ∷ xs) zero new h below above = ap (λ (t : Bool). cond t (x ∷ with_entry new xs) (new ∷ x ∷ xs)) (above 0 x (omega arith) (omega arith))
  with_entry-at (x ∷ xs) (suc p) new h below above =
      ap (λ (t : Bool). cond t (x ∷ with_entry new xs) (new ∷ x ∷ xs)) (below 0 x (omega arith) (omega arith))
      ∙ ap (λ (ys : List (Entry T)). x ∷ ys) (with_entry-at xs p new (omega arith) (front (λ e. before e.name new.name ≡ true) x xs 0 p below (omega arith)) (back (λ e. before e.name new.name ≡ false) x xs p (length xs) above))

  -- where no entry has a name, each has another
  pub absent-at : (name : Spelled) (xs : List (Entry T)) → IsAbsent name xs → AllByRecursion (λ e. e.name ≢ name) xs
  absent-at name [] absent = tt
  absent-at name (x ∷ xs) absent = settled (has_name name x) refl absent (absent-at name xs)
    where
      settled : (t : Bool) → has_name name x ≡ t → cond t (Some x) (find (has_name name) xs) ≡ None → (IsAbsent name xs → AllByRecursion (λ e. e.name ≢ name) xs) → AllByRecursion (λ e. e.name ≢ name) (x ∷ xs)
      settled true is e again = absurd (cc (e))
      settled false is e again = ((λ same. let alike : has_name name x ≡ true = (bytes_eq-Decides x.name.text name.text).1 (ap (λ (n : Spelled). n.text) same) in absurd (cc (alike, is))), again e)
