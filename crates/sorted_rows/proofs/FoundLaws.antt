-- What a key finds behind a change.
use Rattle.std.proofs.Common.{◌≡◌, ℕ, Bool, true, false, not, cond, List, [], ◌∷◌, ◌++◌, Some, None, ap, sym, ◌∙◌, refl, subst, append-nil}
use Rattle.std.specs.List.{filter, find, list_all}
use Rattle.std.specs.Str.{bytes_eq}
use Rattle.std.proofs.lemmas.Slice.Eq.{bytes_eq-Decides}
use Rattle.std.proofs.lemmas.Bool.{and_from}
use Rattle.sorted_rows.specs.Sorted.{is_before, has_key, with_row, without_row}
use Rattle.sorted_rows.proofs.KeyLaws.{before_not_behind, same_not_behind, other_behind}
use Rattle.sorted_rows.proofs.RowLaws.{list_all_weaker, filter_passes, find_past}

-- keys that differ do so and_from ways
pub turned : (a b : List ℕ) → bytes_eq a b ≡ false → bytes_eq b a ≡ false
turned a b e =
    elim (bytes_eq b a) as (λ r. bytes_eq b a ≡ r → r ≡ false) [
      | true ↦ λ h. (let both_ways : bytes_eq a b ≡ true = (bytes_eq-Decides a b).1 (sym ((bytes_eq-Decides b a).0 h)) in absurd (cc))
      | false ↦ λ h. refl
    ] refl

module _ {R : Type 0} (p : R → Bool) where
  -- rows that fail are passed over, and a search of them alone finds none
  find_none : (xs : List R) → list_all (λ x. not (p x)) xs ≡ true → find p xs ≡ None
  find_none xs h = ap (λ l. find p l) (sym (append-nil xs)) ∙ find_past p xs [] h

  find_in_front : (xs ys : List R) → list_all (λ x. not (p x)) ys ≡ true → find p (xs ++ ys) ≡ find p xs
  find_in_front [] ys h = find_none ys h
  find_in_front (x ∷ xs) ys h = ap (λ o. cond (p x) (Some x) o) (find_in_front xs ys h)

  -- a filter that each row passes which is sought leaves what is found
  find_kept : (q : R → Bool) → ((x : R) → p x ≡ true → q x ≡ true) → (xs : List R) → find p (filter q xs) ≡ find p xs
  find_kept q f [] = refl
  find_kept q f (x ∷ xs) =
      let ih = find_kept q f xs in
      elim (p x) as (λ b. p x ≡ b → find p (filter q (x ∷ xs)) ≡ find p (x ∷ xs)) [
        | true ↦ λ e. ap (λ b. find p (cond b (x ∷ filter q xs) (filter q xs))) (f x e) ∙ ap (λ o. cond (p x) (Some x) o) ih
        | false ↦ λ e. (elim (q x) as (λ b. find p (cond b (x ∷ filter q xs) (filter q xs)) ≡ find p (x ∷ xs)) [
          | true ↦ ap (λ o. cond (p x) (Some x) o) ih
          | false ↦ ih ∙ sym (ap (λ b. cond b (Some x) (find p xs)) e)
        ])
      ] refl

module _ {R : Type 0} (key : R → List ℕ) where
  same : (k : List ℕ) (x : R) → has_key key k x ≡ true → key x ≡ k
  same k x h = (bytes_eq-Decides (key x) k).0 h

  pub found_behind_without : (gone : List ℕ) (rows : List R) (k : List ℕ) → find (has_key key k) (without_row key gone rows) ≡ cond (bytes_eq gone k) None (find (has_key key k) rows)
  found_behind_without gone rows k =
      elim (bytes_eq gone k) as (λ b. bytes_eq gone k ≡ b → find (has_key key k) (without_row key gone rows) ≡ cond b None (find (has_key key k) rows)) [
        | true ↦ λ e. (
            let is : gone ≡ k = (bytes_eq-Decides gone k).0 e in
            ap (λ a. find (has_key key k) (without_row key a rows)) is
            ∙ find_none (has_key key k) (without_row key k rows) (filter_passes (λ row. not (has_key key k row)) rows))
        | false ↦ λ e. find_kept (has_key key k) (λ row. not (has_key key gone row))
            (λ x h. ap (λ a. not (bytes_eq a gone)) (same k x h) ∙ ap not (turned gone k e)) rows
      ] refl

  module _ (row : R) (rows : List R) (k : List ℕ) where
    abbrev front : List R
    front = filter (λ other. is_before (key other) (key row)) rows

    abbrev back : List R
    back = filter (λ other. is_before (key row) (key other)) rows

    -- no row of the one side has a key that isn't on that side
    not_in_front : is_before k (key row) ≡ false → list_all (λ x. not (has_key key k x)) front ≡ true
    not_in_front h =
        list_all_weaker (λ x. is_before (key x) (key row)) (λ x. not (has_key key k x)) (λ x f. ap not (not_same x f)) front (filter_passes (λ x. is_before (key x) (key row)) rows)
      where
        not_same : (x : R) → is_before (key x) (key row) ≡ true → has_key key k x ≡ false
        not_same x f =
            elim (has_key key k x) as (λ b. has_key key k x ≡ b → b ≡ false) [
              | true ↦ λ e. (let here : is_before k (key row) ≡ true = subst (λ a. is_before a (key row) ≡ true) (same k x e) f in absurd (cc))
              | false ↦ λ e. refl
            ] refl

    not_behind : is_before (key row) k ≡ false → list_all (λ x. not (has_key key k x)) back ≡ true
    not_behind h =
        list_all_weaker (λ x. is_before (key row) (key x)) (λ x. not (has_key key k x)) (λ x f. ap not (not_same x f)) back (filter_passes (λ x. is_before (key row) (key x)) rows)
      where
        not_same : (x : R) → is_before (key row) (key x) ≡ true → has_key key k x ≡ false
        not_same x f =
            elim (has_key key k x) as (λ b. has_key key k x ≡ b → b ≡ false) [
              | true ↦ λ e. (let here : is_before (key row) k ≡ true = subst (λ a. is_before (key row) a ≡ true) (same k x e) f in absurd (cc))
              | false ↦ λ e. refl
            ] refl

    own : bytes_eq (key row) k ≡ true → find (has_key key k) (with_row key row rows) ≡ Some row
    own e =
        find_past (has_key key k) front (row ∷ back) (not_in_front (same_not_behind (key row) k e))
        ∙ ap (λ b. cond b (Some row) (find (has_key key k) back)) e

    other : bytes_eq (key row) k ≡ false → find (has_key key k) (with_row key row rows) ≡ find (has_key key k) rows
    other e =
        elim (is_before k (key row)) as (λ b. is_before k (key row) ≡ b → find (has_key key k) (with_row key row rows) ≡ find (has_key key k) rows) [
          | true ↦ λ h. (
              find_in_front (has_key key k) front (row ∷ back) (and_from (not (has_key key k row)) _ (ap not e) (not_behind (before_not_behind k (key row) h)))
              ∙ find_kept (has_key key k) (λ x. is_before (key x) (key row)) (λ x f. subst (λ a. is_before a (key row) ≡ true) (sym (same k x f)) h) rows)
          | false ↦ λ h. (
              let h_row : is_before (key row) k ≡ true = other_behind k (key row) h (turned (key row) k e) in
              find_past (has_key key k) front (row ∷ back) (not_in_front h)
              ∙ ap (λ b. cond b (Some row) (find (has_key key k) back)) e
              ∙ find_kept (has_key key k) (λ x. is_before (key row) (key x)) (λ x f. subst (λ a. is_before (key row) a ≡ true) (sym (same k x f)) h_row) rows)
        ] refl

    pub found_behind_with : find (has_key key k) (with_row key row rows) ≡ cond (has_key key k row) (Some row) (find (has_key key k) rows)
    found_behind_with =
        elim (has_key key k row) as (λ b. has_key key k row ≡ b → find (has_key key k) (with_row key row rows) ≡ cond b (Some row) (find (has_key key k) rows)) [
          | true ↦ λ e. own e
          | false ↦ λ e. other e
        ] refl
