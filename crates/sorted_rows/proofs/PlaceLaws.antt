-- The place of a key among rows in order.
use Rattle.std.proofs.Common.{◌≡◌, ◌+◌, ◌<◌, ℕ, Bool, true, false, not, cond, List, [], ◌∷◌, ◌++◌, Some, None, length, take, drop, set, ap, sym, subst, ◌∙◌, refl, zero, suc, arith, append-nil}
use Rattle.std.specs.List.{filter, find, list_all, slice_get, position_or_len, insert, remove}
use Rattle.std.proofs.lemmas.List.{take-append-drop}
use Rattle.std.proofs.lemmas.List.Elements.{filter-append}
use Rattle.std.proofs.lemmas.Bool.{not-true, and_from}
use Rattle.pages.specs.Rising.{Rises}
use Rattle.sorted_rows.specs.Sorted.{is_before, IsInOrder, has_key, with_row, without_row}
use Rattle.sorted_rows.specs.Found.{is_from, IsFoundAt, IsMissingAt}
use Rattle.sorted_rows.proofs.KeyLaws.{before_not_behind, from_before, before_not_same, behind_not_same, same_not_before, same_not_behind, other_behind}
use Rattle.sorted_rows.proofs.RowLaws.{list_all_weaker, filter_all, filter_none, find_past}

one_plus : (n : ℕ) → 1 + n ≡ suc n
one_plus n = omega arith

module _ {R : Type 0} (key : R → List ℕ) (k : List ℕ) where
  -- the search's test rises along rows in order
  pub rises_in_order : (xs : List R) → IsInOrder key xs → Rises (is_from key k) xs
  rises_in_order [] h = tt
  rises_in_order (x ∷ xs) h = (
    λ e. list_all_weaker (λ y. is_before (key x) (key y)) (is_from key k)
        (λ y f. ap not (before_not_behind k (key y) (from_before k (key x) (key y) (not-true (is_before (key x) k) e) f))) xs h.0,
    rises_in_order xs h.1,
  )

  -- where a row is before the key its place is one further on, else it is the first
  place_on : (x : R) (xs : List R) → is_before (key x) k ≡ true → position_or_len (is_from key k) (x ∷ xs) ≡ suc (position_or_len (is_from key k) xs)
  place_on x xs e = ap (λ b. cond (not (not b)) (1 + position_or_len (is_from key k) xs) 0) e ∙ one_plus (position_or_len (is_from key k) xs)

  place_here : (x : R) (xs : List R) → is_before (key x) k ≡ false → position_or_len (is_from key k) (x ∷ xs) ≡ 0
  place_here x xs e = ap (λ b. cond (not (not b)) (1 + position_or_len (is_from key k) xs) 0) e

  -- all before a place are before the key, and all from another place on are behind it
  record Parts (xs : List R) (end begin : ℕ) : Type 0 where
    front : list_all (λ row. is_before (key row) k) (take end xs) ≡ true
    back : list_all (λ row. is_before k (key row)) (drop begin xs) ≡ true

  missing_parts : (xs : List R) → IsInOrder key xs → ((row : R) → slice_get xs (position_or_len (is_from key k) xs) ≡ Some row → has_key key k row ≡ false)
      → Parts xs (position_or_len (is_from key k) xs) (position_or_len (is_from key k) xs)
  missing_parts [] h other = record { front = refl; back = refl }
  missing_parts (x ∷ xs) h other =
      elim (is_before (key x) k) as (λ b. is_before (key x) k ≡ b → Parts (x ∷ xs) (position_or_len (is_from key k) (x ∷ xs)) (position_or_len (is_from key k) (x ∷ xs))) [
        | true ↦ λ e. (let on = place_on x xs e in
            let ih = missing_parts xs h.1 (λ row g. other row (ap (λ n. slice_get (x ∷ xs) n) on ∙ g)) in
            subst (λ n. Parts (x ∷ xs) n n) (sym on) (record { front = and_from (is_before (key x) k) _ e ih.front; back = ih.back }))
        | false ↦ λ e. (let here = place_here x xs e in
            let own = other_behind (key x) k e (other x (ap (λ n. slice_get (x ∷ xs) n) here)) in
            subst (λ n. Parts (x ∷ xs) n n) (sym here) (record {
              front = refl;
              back = and_from (is_before k (key x)) _ own (list_all_weaker (λ y. is_before (key x) (key y)) (λ y. is_before k (key y)) (λ y f. from_before k (key x) (key y) e f) xs h.0);
            }))
      ] refl

  -- the row of the key, at its place
  record Holds (xs : List R) (place : ℕ) : Type 0 where
    row : R
    whole : xs ≡ take place xs ++ row ∷ drop (suc place) xs
    at : slice_get xs place ≡ Some row
    same : has_key key k row ≡ true
    parts : Parts xs place (suc place)

  holds_here : (xs : List R) → IsInOrder key xs → position_or_len (is_from key k) xs < length xs
      → ((row : R) → slice_get xs (position_or_len (is_from key k) xs) ≡ Some row → has_key key k row ≡ true) → Holds xs (position_or_len (is_from key k) xs)
  holds_here [] h within there = absurd (omega arith)
  holds_here (x ∷ xs) h within there =
      elim (is_before (key x) k) as (λ b. is_before (key x) k ≡ b → Holds (x ∷ xs) (position_or_len (is_from key k) (x ∷ xs))) [
        | true ↦ λ e. (let on = place_on x xs e in
            let less : position_or_len (is_from key k) xs < length xs = omega (arith, on, within) in
            let ih = holds_here xs h.1 less (λ row g. there row (ap (λ n. slice_get (x ∷ xs) n) on ∙ g)) in
            subst (λ n. Holds (x ∷ xs) n) (sym on) (record {
              row = ih.row;
              whole = ap (λ l. x ∷ l) ih.whole;
              at = ih.at;
              same = ih.same;
              parts = record { front = and_from (is_before (key x) k) _ e ih.parts.front; back = ih.parts.back };
            }))
        | false ↦ λ e. (let here = place_here x xs e in
            subst (λ n. Holds (x ∷ xs) n) (sym here) (record {
              row = x;
              whole = refl;
              at = refl;
              same = there x (ap (λ n. slice_get (x ∷ xs) n) here);
              parts = record { front = refl; back = list_all_weaker (λ y. is_before (key x) (key y)) (λ y. is_before k (key y)) (λ y f. from_before k (key x) (key y) e f) xs h.0 };
            }))
      ] refl

  -- what passes no filter by where it stands
  not_behind : (xs : List R) → list_all (λ row. is_before (key row) k) xs ≡ true → list_all (λ row. not (is_before k (key row))) xs ≡ true
  not_behind = list_all_weaker (λ row. is_before (key row) k) (λ row. not (is_before k (key row))) (λ x e. ap not (before_not_behind (key x) k e))

  not_before : (xs : List R) → list_all (λ row. is_before k (key row)) xs ≡ true → list_all (λ row. not (is_before (key row) k)) xs ≡ true
  not_before = list_all_weaker (λ row. is_before k (key row)) (λ row. not (is_before (key row) k)) (λ x e. ap not (before_not_behind k (key x) e))

  front_other : (xs : List R) → list_all (λ row. is_before (key row) k) xs ≡ true → list_all (λ row. not (has_key key k row)) xs ≡ true
  front_other = list_all_weaker (λ row. is_before (key row) k) (λ row. not (has_key key k row)) (λ x e. ap not (before_not_same (key x) k e))

  back_other : (xs : List R) → list_all (λ row. is_before k (key row)) xs ≡ true → list_all (λ row. not (has_key key k row)) xs ≡ true
  back_other = list_all_weaker (λ row. is_before k (key row)) (λ row. not (has_key key k row)) (λ x e. ap not (behind_not_same (key x) k e))

  -- what a filter leaves of rows in two parts, of which it keeps the first or the second
  keeps_front : (p : R → Bool) (xs ys : List R) → list_all p xs ≡ true → list_all (λ row. not (p row)) ys ≡ true → filter p (xs ++ ys) ≡ xs
  keeps_front p xs ys h g = filter-append p xs ys ∙ ap (λ l. l ++ filter p ys) (filter_all p xs h) ∙ ap (λ l. xs ++ l) (filter_none p ys g) ∙ append-nil xs

  keeps_back : (p : R → Bool) (xs ys : List R) → list_all (λ row. not (p row)) xs ≡ true → list_all p ys ≡ true → filter p (xs ++ ys) ≡ ys
  keeps_back p xs ys h g = filter-append p xs ys ∙ ap (λ l. l ++ filter p ys) (filter_none p xs h) ∙ filter_all p ys g

  keeps_both : (p : R → Bool) (xs ys : List R) → list_all p xs ≡ true → list_all p ys ≡ true → filter p (xs ++ ys) ≡ xs ++ ys
  keeps_both p xs ys h g = filter-append p xs ys ∙ ap (λ l. l ++ filter p ys) (filter_all p xs h) ∙ ap (λ l. xs ++ l) (filter_all p ys g)

  find_none : (p : R → Bool) (xs : List R) → list_all (λ row. not (p row)) xs ≡ true → find p xs ≡ None
  find_none p xs h = ap (λ l. find p l) (sym (append-nil xs)) ∙ find_past p xs [] h

  set_is : (xs : List R) (n : ℕ) (x : R) → n < length xs → set xs n x ≡ take n xs ++ x ∷ drop (suc n) xs
  set_is [] n x h = absurd (omega arith)
  set_is (y ∷ ys) zero x h = refl
  set_is (y ∷ ys) (suc n) x h = ap (λ l. y ∷ l) (set_is ys n x (omega arith))

  module _ (xs : List R) (n : ℕ) (order : IsInOrder key xs) where
    missing_at : IsMissingAt key k xs n → Parts xs n n
    missing_at m =
        subst (λ i. Parts xs i i) (sym m.first) (missing_parts xs order (λ row g. m.other row (ap (λ i. slice_get xs i) m.first ∙ g)))

    holds_at : IsFoundAt key k xs n → Holds xs n
    holds_at f =
        subst (λ i. Holds xs i) (sym f.first)
        (holds_here xs order (subst (λ i. i < length xs) f.first f.within) (λ row g. f.there row (ap (λ i. slice_get xs i) f.first ∙ g)))

    pub finds_missing : IsMissingAt key k xs n → find (has_key key k) xs ≡ None
    finds_missing m =
        let parts = missing_at m in
        ap (λ l. find (has_key key k) l) (sym (take-append-drop n xs))
        ∙ find_past (has_key key k) (take n xs) (drop n xs) (front_other (take n xs) parts.front)
        ∙ find_none (has_key key k) (drop n xs) (back_other (drop n xs) parts.back)

    pub finds_found : (row : R) → slice_get xs n ≡ Some row → IsFoundAt key k xs n → find (has_key key k) xs ≡ Some row
    finds_found row e f =
        let it = holds_at f in
        ap (λ l. find (has_key key k) l) it.whole
        ∙ find_past (has_key key k) (take n xs) (it.row ∷ drop (suc n) xs) (front_other (take n xs) it.parts.front)
        ∙ ap (λ b. cond b (Some it.row) (find (has_key key k) (drop (suc n) xs))) it.same
        ∙ sym it.at
        ∙ e

    pub removed_is : IsFoundAt key k xs n → remove xs n ≡ without_row key k xs
    removed_is f =
        let it = holds_at f in
        let other = λ (row : R). not (has_key key k row) in
        let front = front_other (take n xs) it.parts.front in
        let back = back_other (drop (suc n) xs) it.parts.back in
        sym (
        ap (λ l. filter other l) it.whole
        ∙ filter-append other (take n xs) (it.row ∷ drop (suc n) xs)
        ∙ ap (λ l. l ++ filter other (it.row ∷ drop (suc n) xs)) (filter_all other (take n xs) front)
        ∙ ap (λ b. take n xs ++ cond (not b) (it.row ∷ filter other (drop (suc n) xs)) (filter other (drop (suc n) xs))) it.same
        ∙ ap (λ l. take n xs ++ l) (filter_all other (drop (suc n) xs) back)
        )

    pub kept_is : IsMissingAt key k xs n → xs ≡ without_row key k xs
    kept_is m =
        let parts = missing_at m in
        let other = λ (row : R). not (has_key key k row) in
        sym (
        ap (λ l. filter other l) (sym (take-append-drop n xs))
        ∙ keeps_both other (take n xs) (drop n xs) (front_other (take n xs) parts.front) (back_other (drop n xs) parts.back)
        ∙ take-append-drop n xs
        )

    pub inserted_is : (x : R) → key x ≡ k → IsMissingAt key k xs n → insert xs n x ≡ with_row key x xs
    inserted_is x same m =
        let parts = missing_at m in
        let front = keeps_front (λ row. is_before (key row) k) (take n xs) (drop n xs) parts.front (not_before (drop n xs) parts.back) in
        let back = keeps_back (λ row. is_before k (key row)) (take n xs) (drop n xs) (not_behind (take n xs) parts.front) parts.back in
        let whole = sym (take-append-drop n xs) in
        sym (
        ap (λ a. filter (λ row. is_before (key row) a) xs ++ x ∷ filter (λ row. is_before a (key row)) xs) same
        ∙ ap (λ l. l ++ x ∷ filter (λ row. is_before k (key row)) xs) (ap (λ l. filter (λ row. is_before (key row) k) l) whole ∙ front)
        ∙ ap (λ l. take n xs ++ x ∷ l) (ap (λ l. filter (λ row. is_before k (key row)) l) whole ∙ back)
        )

    pub replaced_is : (x : R) → key x ≡ k → IsFoundAt key k xs n → set xs n x ≡ with_row key x xs
    replaced_is x same f =
        let it = holds_at f in
        let rest = drop (suc n) xs in
        let own = same_not_before (key it.row) k it.same in
        let own_back = same_not_behind (key it.row) k it.same in
        let front =
        keeps_front (λ row. is_before (key row) k) (take n xs) (it.row ∷ rest) it.parts.front
        (and_from (not (is_before (key it.row) k)) (list_all (λ row. not (is_before (key row) k)) rest) (ap not own) (not_before rest it.parts.back)) in
        let back =
        filter-append (λ row. is_before k (key row)) (take n xs) (it.row ∷ rest)
        ∙ ap (λ l. l ++ filter (λ row. is_before k (key row)) (it.row ∷ rest)) (filter_none (λ row. is_before k (key row)) (take n xs) (not_behind (take n xs) it.parts.front))
        ∙ ap (λ b. cond b (it.row ∷ filter (λ row. is_before k (key row)) rest) (filter (λ row. is_before k (key row)) rest)) own_back
        ∙ filter_all (λ row. is_before k (key row)) rest it.parts.back in
        set_is xs n x f.within
        ∙ sym (
        ap (λ a. filter (λ row. is_before (key row) a) xs ++ x ∷ filter (λ row. is_before a (key row)) xs) same
        ∙ ap (λ l. l ++ x ∷ filter (λ row. is_before k (key row)) xs) (ap (λ l. filter (λ row. is_before (key row) k) l) it.whole ∙ front)
        ∙ ap (λ l. take n xs ++ x ∷ l) (ap (λ l. filter (λ row. is_before k (key row)) l) it.whole ∙ back)
        )
