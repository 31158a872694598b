-- The place of a row, by its key and by its number.
use Rattle.std.proofs.Common.{◌≡◌, ◌+◌, ◌<◌, ◌≤◌, ℕ, Bool, true, false, not, cond, List, [], ◌∷◌, Some, None, length, map, set, option_map, ap, sym, ◌∙◌, refl, suc, arith, ⊎_elim}
use Rattle.std.specs.Prelude.{nat_le}
use Rattle.std.specs.List.{find, list_all, position_or_len, insert, remove, AllByRecursion}
use Rattle.std.proofs.lemmas.Bool.{cases_Bool, le-leb, lt-leb, leb-true, and_from}
use Rattle.pages.specs.Rising.{Rises}
use Rattle.racf_profiles.specs.Edits.{put_row, drop_row}
use Rattle.racf_profiles.proofs.Found.{find-hit, find-miss}
use Rattle.defined_rows.specs.Kept.{AllPairs}
use Rattle.defined_rows.proofs.PairLaws.{put_hit, put_miss, drop_hit, drop_miss, found_here, none_here, all_found}

one_plus : (n : ℕ) → 1 + n ≡ suc n
one_plus n = omega arith

module _ {D : Type 0} (p : D → Bool) where
  place_here : (x : D) (xs : List D) → p x ≡ true → position_or_len p (x ∷ xs) ≡ 0
  place_here x xs e = ap (λ b. cond (not b) (1 + position_or_len p xs) 0) e

  place_on : (x : D) (xs : List D) → p x ≡ false → position_or_len p (x ∷ xs) ≡ suc (position_or_len p xs)
  place_on x xs e = ap (λ b. cond (not b) (1 + position_or_len p xs) 0) e ∙ one_plus (position_or_len p xs)

  -- what is found stands at a place
  pub place_within : (xs : List D) (d : D) → find p xs ≡ Some d → position_or_len p xs < length xs
  place_within [] d found = absurd (cc)
  place_within (x ∷ xs) d found = ⊎_elim
      (λ (e : p x ≡ true). (let here = place_here x xs e in omega (arith, here)))
      (λ (e : p x ≡ false). (
      let on = place_on x xs e in
      let less = place_within xs d (sym (find-miss p x xs e) ∙ found) in omega (arith, on, less)))
      (cases_Bool (p x))

  pub set_at_place : (y : D) (xs : List D) (d : D) → find p xs ≡ Some d → set xs (position_or_len p xs) y ≡ put_row p y xs
  set_at_place y [] d found = absurd (cc)
  set_at_place y (x ∷ xs) d found = ⊎_elim
      (λ (e : p x ≡ true). ap (λ n. set (x ∷ xs) n y) (place_here x xs e) ∙ sym (put_hit p y x xs e))
      (λ (e : p x ≡ false). ap (λ n. set (x ∷ xs) n y) (place_on x xs e)
      ∙ ap (λ l. x ∷ l) (set_at_place y xs d (sym (find-miss p x xs e) ∙ found))
      ∙ sym (put_miss p y x xs e))
      (cases_Bool (p x))

  pub remove_at_place : (xs : List D) (d : D) → find p xs ≡ Some d → remove xs (position_or_len p xs) ≡ drop_row p xs
  remove_at_place [] d found = absurd (cc)
  remove_at_place (x ∷ xs) d found = ⊎_elim
      (λ (e : p x ≡ true). ap (λ n. remove (x ∷ xs) n) (place_here x xs e) ∙ sym (drop_hit p x xs e))
      (λ (e : p x ≡ false). ap (λ n. remove (x ∷ xs) n) (place_on x xs e)
      ∙ ap (λ l. x ∷ l) (remove_at_place xs d (sym (find-miss p x xs e) ∙ found))
      ∙ sym (drop_miss p x xs e))
      (cases_Bool (p x))

  pub insert_at_end : (y : D) (xs : List D) → find p xs ≡ None → insert xs (length xs) y ≡ put_row p y xs
  insert_at_end y [] none = refl
  insert_at_end y (x ∷ xs) none = ⊎_elim
      (λ (e : p x ≡ true). none_here p x xs e none)
      (λ (e : p x ≡ false). ap (λ l. x ∷ l) (insert_at_end y xs (sym (find-miss p x xs e) ∙ none)) ∙ sym (put_miss p y x xs e))
      (cases_Bool (p x))

module _ {D : Type 0} (number : D → ℕ) where
  -- where numbers rise, a number's place is where the row is found that has it
  pub numbers_rise : (n : ℕ) (xs : List D) → AllPairs (λ x y. number x < number y) xs → Rises (λ x. nat_le n (number x)) xs
  numbers_rise n [] h = tt
  numbers_rise n (x ∷ xs) h = (λ e. later xs (leb-true n (number x) e) h.0, numbers_rise n xs h.1)
    where
      later : (ys : List D) → n ≤ number x → AllByRecursion (λ y. number x < number y) ys → list_all (λ y. nat_le n (number y)) ys ≡ true
      later [] least h = refl
      later (y ∷ ys) least h = and_from (nat_le n (number y)) (list_all (λ z. nat_le n (number z)) ys) (le-leb n (number y) (omega (arith, least, h.0))) (later ys least h.1)

  pub place_of_number : (p : D → Bool) (d : D) (xs : List D) → find p xs ≡ Some d → AllPairs (λ x y. number x < number y) xs
      → position_or_len (λ x. nat_le (number d) (number x)) xs ≡ position_or_len p xs
  place_of_number p d [] found h = absurd (cc)
  place_of_number p d (x ∷ xs) found h = ⊎_elim
      (λ (e : p x ≡ true). (
      let same = ap (λ z. nat_le (number d) (number z)) (found_here p x d xs e found) ∙ le-leb (number d) (number d) (omega arith) in
      place_here (λ y. nat_le (number d) (number y)) x xs same ∙ sym (place_here p x xs e)))
      (λ (e : p x ≡ false). (
      let behind = sym (find-miss p x xs e) ∙ found in
      let less = all_found (λ y. number x < number y) p xs d h.0 behind in
      place_on (λ y. nat_le (number d) (number y)) x xs (lt-leb (number d) (number x) less)
      ∙ ap suc (place_of_number p d xs behind h.1)
      ∙ sym (place_on p x xs e)))
      (cases_Bool (p x))

module _ {D R : Type 0} (f : D → R) (p : R → Bool) where
  -- edits and searches of what is kept of each row
  pub find_map : (xs : List D) → find p (map f xs) ≡ option_map f (find (λ x. p (f x)) xs)
  find_map [] = refl
  find_map (x ∷ xs) = ⊎_elim
      (λ (e : p (f x) ≡ true). find-hit p (f x) (map f xs) e ∙ sym (ap (λ o. option_map f o) (find-hit (λ x. p (f x)) x xs e)))
      (λ (e : p (f x) ≡ false). find-miss p (f x) (map f xs) e ∙ find_map xs ∙ sym (ap (λ o. option_map f o) (find-miss (λ x. p (f x)) x xs e)))
      (cases_Bool (p (f x)))

  pub put_map : (y : D) (xs : List D) → map f (put_row (λ x. p (f x)) y xs) ≡ put_row p (f y) (map f xs)
  put_map y [] = refl
  put_map y (x ∷ xs) = ⊎_elim
      (λ (e : p (f x) ≡ true). ap (λ l. map f l) (put_hit (λ x. p (f x)) y x xs e) ∙ sym (put_hit p (f y) (f x) (map f xs) e))
      (λ (e : p (f x) ≡ false). ap (λ l. map f l) (put_miss (λ x. p (f x)) y x xs e) ∙ ap (λ l. f x ∷ l) (put_map y xs) ∙ sym (put_miss p (f y) (f x) (map f xs) e))
      (cases_Bool (p (f x)))

  pub drop_map : (xs : List D) → map f (drop_row (λ x. p (f x)) xs) ≡ drop_row p (map f xs)
  drop_map [] = refl
  drop_map (x ∷ xs) = ⊎_elim
      (λ (e : p (f x) ≡ true). ap (λ l. map f l) (drop_hit (λ x. p (f x)) x xs e) ∙ sym (drop_hit p (f x) (map f xs) e))
      (λ (e : p (f x) ≡ false). ap (λ l. map f l) (drop_miss (λ x. p (f x)) x xs e) ∙ ap (λ l. f x ∷ l) (drop_map xs) ∙ sym (drop_miss p (f x) (map f xs) e))
      (cases_Bool (p (f x)))
