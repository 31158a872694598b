-- Lists of rows: what passes a filter, what a search finds, and what stays in order.
use Rattle.std.proofs.Common.{◌≡◌, ℕ, Bool, true, false, not, cond, List, [], ◌∷◌, ◌++◌, Some, ap, ◌∙◌, refl}
use Rattle.std.specs.List.{filter, find, list_all}
use Rattle.std.proofs.lemmas.List.Folds.{list_all-append}
use Rattle.std.proofs.lemmas.Bool.{and_parts, not-true, and_from}
use Rattle.sorted_rows.specs.Sorted.{is_before, IsInOrder, with_row}
use Rattle.sorted_rows.proofs.KeyLaws.{before_trans}

module _ {R : Type 0} where
  pub list_all_weaker : (p q : R → Bool) → ((x : R) → p x ≡ true → q x ≡ true) → (xs : List R) → list_all p xs ≡ true → list_all q xs ≡ true
  list_all_weaker p q f [] h = refl
  list_all_weaker p q f (x ∷ xs) h =
      and_from (q x) (list_all q xs) (f x ((and_parts (p x) (list_all p xs) h).0)) (list_all_weaker p q f xs ((and_parts (p x) (list_all p xs) h).1))

  -- a filter that all pass, and one that none does
  pub filter_all : (p : R → Bool) (xs : List R) → list_all p xs ≡ true → filter p xs ≡ xs
  filter_all p [] h = refl
  filter_all p (x ∷ xs) h =
      ap (λ b. cond b (x ∷ filter p xs) (filter p xs)) ((and_parts (p x) (list_all p xs) h).0)
      ∙ ap (λ l. x ∷ l) (filter_all p xs ((and_parts (p x) (list_all p xs) h).1))

  pub filter_none : (p : R → Bool) (xs : List R) → list_all (λ x. not (p x)) xs ≡ true → filter p xs ≡ []
  filter_none p [] h = refl
  filter_none p (x ∷ xs) h =
      ap (λ b. cond b (x ∷ filter p xs) (filter p xs)) (not-true (p x) ((and_parts (not (p x)) (list_all (λ x. not (p x)) xs) h).0))
      ∙ filter_none p xs ((and_parts (not (p x)) (list_all (λ x. not (p x)) xs) h).1)

  -- rows that fail are passed over by a search
  pub find_past : (p : R → Bool) (xs ys : List R) → list_all (λ x. not (p x)) xs ≡ true → find p (xs ++ ys) ≡ find p ys
  find_past p [] ys h = refl
  find_past p (x ∷ xs) ys h =
      ap (λ b. cond b (Some x) (find p (xs ++ ys))) (not-true (p x) ((and_parts (not (p x)) (list_all (λ x. not (p x)) xs) h).0))
      ∙ find_past p xs ys ((and_parts (not (p x)) (list_all (λ x. not (p x)) xs) h).1)

  -- what all pass, all that pass a filter do; and these pass the filter
  filter_keeps : (p q : R → Bool) (xs : List R) → list_all q xs ≡ true → list_all q (filter p xs) ≡ true
  filter_keeps p q [] h = refl
  filter_keeps p q (x ∷ xs) h =
      let ih = filter_keeps p q xs ((and_parts (q x) (list_all q xs) h).1) in
      elim (p x) as (λ b. list_all q (cond b (x ∷ filter p xs) (filter p xs)) ≡ true) [
        | true ↦ and_from (q x) (list_all q (filter p xs)) ((and_parts (q x) (list_all q xs) h).0) ih
        | false ↦ ih
      ]

  pub filter_passes : (p : R → Bool) (xs : List R) → list_all p (filter p xs) ≡ true
  filter_passes p [] = refl
  filter_passes p (x ∷ xs) =
      elim (p x) as (λ b. p x ≡ b → list_all p (cond b (x ∷ filter p xs) (filter p xs)) ≡ true) [
        | true ↦ λ e. and_from (p x) (list_all p (filter p xs)) e (filter_passes p xs)
        | false ↦ λ e. filter_passes p xs
      ] refl

  module _ (key : R → List ℕ) where
    pub in_order_filter : (p : R → Bool) (xs : List R) → IsInOrder key xs → IsInOrder key (filter p xs)
    in_order_filter p [] h = tt
    in_order_filter p (x ∷ xs) h =
        elim (p x) as (λ b. IsInOrder key (cond b (x ∷ filter p xs) (filter p xs))) [
          | true ↦ (filter_keeps p (λ y. is_before (key x) (key y)) xs h.0, in_order_filter p xs h.1)
          | false ↦ in_order_filter p xs h.1
        ]

    in_order_append : (xs ys : List R) → IsInOrder key xs → IsInOrder key ys → list_all (λ x. list_all (λ y. is_before (key x) (key y)) ys) xs ≡ true → IsInOrder key (xs ++ ys)
    in_order_append [] ys h g a = g
    in_order_append (x ∷ xs) ys h g a =
        let behind = λ (y : R). is_before (key x) (key y) in
        let rest = λ (x : R). list_all (λ y. is_before (key x) (key y)) ys in (
          list_all-append behind xs ys ∙ and_from (list_all behind xs) (list_all behind ys) h.0 ((and_parts (list_all behind ys) (list_all rest xs) a).0),
          in_order_append xs ys h.1 g ((and_parts (list_all behind ys) (list_all rest xs) a).1),
        )

    -- a row put in at its place leaves rows in order
    pub in_order_with_row : (row : R) (xs : List R) → IsInOrder key xs → IsInOrder key (with_row key row xs)
    in_order_with_row row xs h =
        let before = λ (x : R). is_before (key x) (key row) in
        let behind = λ (x : R). is_before (key row) (key x) in
        let back = filter behind xs in
        in_order_append (filter before xs) (row ∷ back) (in_order_filter before xs h) (filter_passes behind xs, in_order_filter behind xs h)
        (list_all_weaker before (λ x. list_all (λ y. is_before (key x) (key y)) (row ∷ back))
        (λ x e. and_from (before x) (list_all (λ y. is_before (key x) (key y)) back) e
        (list_all_weaker behind (λ y. is_before (key x) (key y)) (λ y f. before_trans (key x) (key row) (key y) e f) back (filter_passes behind xs)))
        (filter before xs) (filter_passes before xs))
