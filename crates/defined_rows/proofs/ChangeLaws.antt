-- What the calls make of the two lists.
use Rattle.std.proofs.Common.{◌≡◌, ◌<◌, ℕ, cond, List, Some, None, length, map, set, option_map, ap, sym, subst, ◌∙◌}
use Rattle.std.specs.Prelude.{nat_le}
use Rattle.std.specs.List.{find, position_or_len, insert, remove}
use Rattle.std.specs.Str.{bytes_eq}
use Rattle.pages.specs.Rising.{Rises}
use Rattle.sorted_rows.specs.Sorted.{has_key, with_row, without_row}
use Rattle.racf_profiles.specs.Edits.{put_row, drop_row}
use Rattle.racf_profiles.proofs.EditLaws.{drop_row-absent}
use Rattle.defined_rows.specs.declared.numbered.Defined.{Defined}
use Rattle.defined_rows.specs.Kept.{IsKept}
use Rattle.defined_rows.proofs.PlaceLaws.{place_within, set_at_place, remove_at_place, insert_at_end, numbers_rise, place_of_number, find_map, put_map, drop_map}
use Rattle.defined_rows.proofs.KeptLaws.{kept_dropped}

module _ {R : Type 0} (key : R → List ℕ) where
  abbrev pub number_of : Defined R → ℕ
  number_of defined = defined.number

  abbrev pub key_of : Defined R → List ℕ
  key_of defined = key defined.row

  abbrev pub row_of : Defined R → R
  row_of defined = defined.row

  -- the first place where a number isn't below
  abbrev pub place_from : ℕ → List (Defined R) → ℕ
  place_from n order = position_or_len (λ defined. nat_le n defined.number) order

  module _ (order by_key : List (Defined R)) (next : ℕ) (kept : IsKept number_of key_of order by_key next) where
    pub rises : (n : ℕ) → Rises (λ defined. nat_le n defined.number) order
    rises n = numbers_rise number_of n order kept.rising

    -- what is found by key stands in the order
    pub found_in_order : (k a : List ℕ) (d : Defined R) → a ≡ k → Some d ≡ find (has_key key_of a) by_key → find (has_key key_of k) order ≡ Some d
    found_in_order k a d named found = sym (kept.same k) ∙ ap (λ b. find (has_key key_of b) by_key) (sym named) ∙ sym found

    pub missing_in_order : (k a : List ℕ) → a ≡ k → None ≡ find (has_key key_of a) by_key → find (has_key key_of k) order ≡ None
    missing_in_order k a named missing = sym (kept.same k) ∙ ap (λ b. find (has_key key_of b) by_key) (sym named) ∙ sym missing

    module _ (k : List ℕ) (d : Defined R) (found : find (has_key key_of k) order ≡ Some d) (place : ℕ) (at : place ≡ place_from d.number order) where
      first_place : place ≡ position_or_len (has_key key_of k) order
      first_place = at ∙ place_of_number number_of (has_key key_of k) d order found kept.rising

      pub place_inside : place < length order
      place_inside = subst (λ n. n < length order) (sym first_place) (place_within (has_key key_of k) order d found)

      pub set_is_put : (y item : Defined R) → item ≡ y → set order place item ≡ put_row (has_key key_of k) y order
      set_is_put y item is = ap (λ n. set order n item) first_place ∙ ap (λ x. set order (position_or_len (has_key key_of k) order) x) is ∙ set_at_place (has_key key_of k) y order d found

      pub remove_is_drop : remove order place ≡ drop_row (has_key key_of k) order
      remove_is_drop = ap (λ n. remove order n) first_place ∙ remove_at_place (has_key key_of k) order d found

    pub insert_is_put : (k : List ℕ) (y item : Defined R) (end : ℕ) → find (has_key key_of k) order ≡ None → end ≡ length order → item ≡ y
        → insert order end item ≡ put_row (has_key key_of k) y order
    insert_is_put k y item end none at is = ap (λ n. insert order n item) at ∙ ap (λ x. insert order (length order) x) is ∙ insert_at_end (has_key key_of k) y order none

    -- the new lists are kept as the old ones were
    pub still_kept : (y item : Defined R) (new_order new_by_key : List (Defined R)) (new_next : ℕ) → item ≡ y
        → new_order ≡ put_row (has_key key_of (key y.row)) y order → new_by_key ≡ with_row key_of item by_key
        → IsKept number_of key_of (put_row (has_key key_of (key y.row)) y order) (with_row key_of y by_key) new_next
        → IsKept number_of key_of new_order new_by_key new_next
    still_kept y item new_order new_by_key new_next is order_is by_key_is h =
        let same = by_key_is ∙ ap (λ x. with_row key_of x by_key) is in
        subst (λ l. IsKept number_of key_of l new_by_key new_next) (sym order_is)
        (subst (λ l. IsKept number_of key_of (put_row (has_key key_of (key y.row)) y order) l new_next) (sym same) h)

    pub still_kept_without : (gone : List ℕ) (new_order new_by_key : List (Defined R)) → new_order ≡ drop_row (has_key key_of gone) order → new_by_key ≡ without_row key_of gone by_key
        → ((k : List ℕ) → find (has_key key_of k) (without_row key_of gone by_key) ≡ cond (bytes_eq gone k) None (find (has_key key_of k) by_key))
        → IsKept number_of key_of new_order new_by_key next
    still_kept_without gone new_order new_by_key order_is by_key_is law =
        subst (λ l. IsKept number_of key_of l new_by_key next) (sym order_is)
        (subst (λ l. IsKept number_of key_of (drop_row (has_key key_of gone) order) l next) (sym by_key_is) (kept_dropped number_of key_of order by_key next kept gone law))

  -- a table's rows are those of its order
  module _ (order : List (Defined R)) (rows : List R) (view : map row_of order ≡ rows) where
    pub rows_put : (y : Defined R) (k : List ℕ) (new : List (Defined R)) → new ≡ put_row (has_key key_of k) y order → map row_of new ≡ put_row (has_key key k) y.row rows
    rows_put y k new is = ap (λ l. map row_of l) is ∙ put_map row_of (has_key key k) y order ∙ ap (λ l. put_row (has_key key k) y.row l) view

    pub rows_dropped : (k : List ℕ) (new : List (Defined R)) → new ≡ drop_row (has_key key_of k) order → map row_of new ≡ drop_row (has_key key k) rows
    rows_dropped k new is = ap (λ l. map row_of l) is ∙ drop_map row_of (has_key key k) order ∙ ap (λ l. drop_row (has_key key k) l) view

    pub rows_found : (k : List ℕ) → option_map row_of (find (has_key key_of k) order) ≡ find (has_key key k) rows
    rows_found k = sym (find_map row_of (has_key key k) order) ∙ ap (λ l. find (has_key key k) l) view

    pub rows_stay : (k : List ℕ) → find (has_key key_of k) order ≡ None → rows ≡ drop_row (has_key key k) rows
    rows_stay k none = sym (drop_row-absent (has_key key k) rows (sym (rows_found k) ∙ ap (λ o. option_map row_of o) none))
