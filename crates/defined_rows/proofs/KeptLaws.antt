-- How the rows are kept behind a change.
use Rattle.std.proofs.Common.{◌≡◌, ◌+◌, ◌<◌, ℕ, Bool, true, false, cond, List, [], ◌∷◌, ◌++◌, Some, None, map, ap, sym, subst, ◌∙◌, refl, arith, ⊎_elim}
use Rattle.std.specs.List.{find, AllByRecursion, IsDistinct}
use Rattle.std.specs.Str.{bytes_eq}
use Rattle.std.proofs.lemmas.Bool.{cases_Bool}
use Rattle.std.proofs.lemmas.Slice.Eq.{bytes_eq-Decides}
use Rattle.std.proofs.lemmas.Map.Keys.{IsDistinct-head, IsDistinct-tail}
use Rattle.racf_profiles.specs.Edits.{put_row, drop_row}
use Rattle.racf_profiles.proofs.Found.{find-miss}
use Rattle.racf_profiles.proofs.EditLaws.{put_row-found, put_row-others, other_name}
use Rattle.racf_profiles.proofs.Named.{itself}
use Rattle.sorted_rows.specs.Sorted.{has_key, with_row, without_row}
use Rattle.sorted_rows.proofs.FoundLaws.{turned}
use Rattle.defined_rows.specs.Kept.{AllPairs, IsEarlier, HasOtherKey, IsKept}
use Rattle.defined_rows.proofs.PairLaws.{put_miss, drop_hit, drop_miss, found_here, none_here, all_weaker, all_found, all_put, all_drop, pairs_drop, pairs_replaced, pairs_added}

module _ {D : Type 0} (p : D → Bool) where
  found_passes : (xs : List D) (d : D) → find p xs ≡ Some d → p d ≡ true
  found_passes [] d found = absurd (cc)
  found_passes (x ∷ xs) d found = ⊎_elim
      (λ (e : p x ≡ true). subst (λ z. p z ≡ true) (found_here p x d xs e found) e)
      (λ (e : p x ≡ false). found_passes xs d (sym (find-miss p x xs e) ∙ found))
      (cases_Bool (p x))

  none_passes : (xs : List D) → find p xs ≡ None → AllByRecursion (λ x. p x ≡ false) xs
  none_passes [] none = tt
  none_passes (x ∷ xs) none = ⊎_elim
      (λ (e : p x ≡ true). none_here p x xs e none)
      (λ (e : p x ≡ false). (e, none_passes xs (sym (find-miss p x xs e) ∙ none)))
      (cases_Bool (p x))

  none_of : (xs : List D) → AllByRecursion (λ x. p x ≡ false) xs → find p xs ≡ None
  none_of [] h = refl
  none_of (x ∷ xs) h = find-miss p x xs h.0 ∙ none_of xs h.1

  -- what is sought by a test that no row passes which goes is found as before
  drop_others : (q : D → Bool) → ((x : D) → p x ≡ true → q x ≡ false) → (xs : List D) → find q (drop_row p xs) ≡ find q xs
  drop_others q apart [] = refl
  drop_others q apart (x ∷ xs) = ⊎_elim
      (λ (e : p x ≡ true). ap (λ l. find q l) (drop_hit p x xs e) ∙ sym (find-miss q x xs (apart x e)))
      (λ (e : p x ≡ false). ap (λ l. find q l) (drop_miss p x xs e) ∙ ap (λ o. cond (q x) (Some x) o) (drop_others q apart xs))
      (cases_Bool (p x))

module _ {D : Type 0} (number : D → ℕ) (key : D → List ℕ) where
  find_put : (y : D) (xs : List D) (k : List ℕ) → find (has_key key k) (put_row (has_key key (key y)) y xs) ≡ cond (has_key key k y) (Some y) (find (has_key key k) xs)
  find_put y xs k = ⊎_elim
      (λ (e : has_key key k y ≡ true).
      ap (λ a. find (has_key key a) (put_row (has_key key (key y)) y xs)) (sym ((bytes_eq-Decides (key y) k).0 e))
      ∙ put_row-found (has_key key (key y)) y xs (itself (key y))
      ∙ sym (ap (λ b. cond b (Some y) (find (has_key key k) xs)) e))
      (λ (e : has_key key k y ≡ false).
      put_row-others (has_key key (key y)) (has_key key k) y xs e (λ x same. other_name (key x) (key y) k e same)
      ∙ sym (ap (λ b. cond b (Some y) (find (has_key key k) xs)) e))
      (cases_Bool (has_key key k y))

  none_left : (k : List ℕ) (xs : List D) → AllPairs (HasOtherKey number key) xs → find (has_key key k) (drop_row (has_key key k) xs) ≡ None
  none_left k [] h = refl
  none_left k (x ∷ xs) h = ⊎_elim
      (λ (e : has_key key k x ≡ true). (
      let is = (bytes_eq-Decides (key x) k).0 e in
      let others = all_weaker (HasOtherKey number key x) (λ y. has_key key k y ≡ false) (λ y o. turned k (key y) (subst (λ a. bytes_eq a (key y) ≡ false) is o)) xs h.0 in
      ap (λ l. find (has_key key k) l) (drop_hit (has_key key k) x xs e) ∙ none_of (has_key key k) xs others))
      (λ (e : has_key key k x ≡ false).
      ap (λ l. find (has_key key k) l) (drop_miss (has_key key k) x xs e)
      ∙ find-miss (has_key key k) x (drop_row (has_key key k) xs) e
      ∙ none_left k xs h.1)
      (cases_Bool (has_key key k x))

  find_drop : (gone : List ℕ) (xs : List D) → AllPairs (HasOtherKey number key) xs → (k : List ℕ)
      → find (has_key key k) (drop_row (has_key key gone) xs) ≡ cond (bytes_eq gone k) None (find (has_key key k) xs)
  find_drop gone xs h k = ⊎_elim
      (λ (e : bytes_eq gone k ≡ true).
      ap (λ a. find (has_key key k) (drop_row (has_key key a) xs)) ((bytes_eq-Decides gone k).0 e)
      ∙ none_left k xs h
      ∙ sym (ap (λ b. cond b None (find (has_key key k) xs)) e))
      (λ (e : bytes_eq gone k ≡ false).
      drop_others (has_key key gone) (has_key key k) (λ x same. other_name (key x) gone k e same) xs
      ∙ sym (ap (λ b. cond b None (find (has_key key k) xs)) e))
      (cases_Bool (bytes_eq gone k))

  pub kept_none : IsKept number key [] [] 0
  kept_none = record { rising = tt; below = tt; distinct = tt; same = λ k. refl }

  module _ (order by_key : List D) (next : ℕ) (kept : IsKept number key order by_key next) where
    -- behind a row in place of the one of its key, which takes over its number
    pub kept_replaced : (y d : D) → find (has_key key (key y)) order ≡ Some d → number y ≡ number d
        → ((k : List ℕ) → find (has_key key k) (with_row key y by_key) ≡ cond (has_key key k y) (Some y) (find (has_key key k) by_key))
        → IsKept number key (put_row (has_key key (key y)) y order) (with_row key y by_key) next
    kept_replaced y d found numbered law =
        let p = has_key key (key y) in
        let named : key d ≡ key y = (bytes_eq-Decides (key d) (key y)).0 (found_passes p order d found) in
        record {
          rising = pairs_replaced (IsEarlier number key) p y d (λ x h. subst (λ n. n < number x) (sym numbered) h) (λ x h. subst (λ n. number x < n) (sym numbered) h) order found kept.rising;
          below = all_put (λ row. number row < next) p y order (subst (λ n. n < next) (sym numbered) (all_found (λ row. number row < next) p order d kept.below found)) kept.below;
          distinct = pairs_replaced (HasOtherKey number key) p y d (λ x h. subst (λ a. bytes_eq a (key x) ≡ false) named h) (λ x h. subst (λ a. bytes_eq (key x) a ≡ false) named h) order found kept.distinct;
          same = λ k. law k ∙ ap (λ o. cond (has_key key k y) (Some y) o) (kept.same k) ∙ sym (find_put y order k);
        }

    -- behind a row that comes last, with the next number
    pub kept_added : (y : D) → find (has_key key (key y)) order ≡ None → number y ≡ next
        → ((k : List ℕ) → find (has_key key k) (with_row key y by_key) ≡ cond (has_key key k y) (Some y) (find (has_key key k) by_key))
        → IsKept number key (put_row (has_key key (key y)) y order) (with_row key y by_key) (next + 1)
    kept_added y none numbered law =
        let p = has_key key (key y) in
        record {
          rising = pairs_added (IsEarlier number key) p y order none (all_weaker (λ x. number x < next) (λ x. number x < number y) (λ x h. subst (λ n. number x < n) (sym numbered) h) order kept.below) kept.rising;
          below = all_put (λ row. number row < next + 1) p y order (omega (arith, numbered)) (all_weaker (λ x. number x < next) (λ x. number x < next + 1) (λ x h. omega (arith, h)) order kept.below);
          distinct = pairs_added (HasOtherKey number key) p y order none (none_passes p order none) kept.distinct;
          same = λ k. law k ∙ ap (λ o. cond (has_key key k y) (Some y) o) (kept.same k) ∙ sym (find_put y order k);
        }

    -- without the row of a key
    pub kept_dropped : (gone : List ℕ)
        → ((k : List ℕ) → find (has_key key k) (without_row key gone by_key) ≡ cond (bytes_eq gone k) None (find (has_key key k) by_key))
        → IsKept number key (drop_row (has_key key gone) order) (without_row key gone by_key) next
    kept_dropped gone law =
        let p = has_key key gone in
        record {
          rising = pairs_drop (IsEarlier number key) p order kept.rising;
          below = all_drop (λ row. number row < next) p order kept.below;
          distinct = pairs_drop (HasOtherKey number key) p order kept.distinct;
          same = λ k. law k ∙ ap (λ o. cond (bytes_eq gone k) None o) (kept.same k) ∙ sym (find_drop gone order kept.distinct k);
        }

module _ {D R : Type 0} (number : D → ℕ) (row : D → R) (name : R → List ℕ) where
  -- keys that differ two by two are distinct
  all_names : (P : List ℕ → Type 0) (xs : List D) → AllByRecursion (λ x. P (name (row x))) xs → AllByRecursion P (map name (map row xs))
  all_names P [] h = tt
  all_names P (x ∷ xs) h = (h.0, all_names P xs h.1)

  pub distinct_names : (xs : List D) → AllPairs (HasOtherKey number (λ x. name (row x))) xs → IsDistinct bytes_eq (map name (map row xs))
  unfolding IsDistinct
  distinct_names [] h = tt
  distinct_names (x ∷ xs) h = (all_names (λ k. bytes_eq (name (row x)) k ≡ false) xs h.0, distinct_names xs h.1)

module _ {R : Type 0} (key : R → List ℕ) where
  in_middle : (P : List ℕ → Type 0) (xs ys : List R) (y : R) → AllByRecursion P (map key (xs ++ y ∷ ys)) → P (key y)
  in_middle P [] ys y h = h.0
  in_middle P (x ∷ xs) ys y h = in_middle P xs ys y h.1

  -- a row of a new key is put behind all
  pub put_behind : (xs ys : List R) (y : R) → IsDistinct bytes_eq (map key (xs ++ y ∷ ys)) → put_row (has_key key (key y)) y xs ≡ xs ++ y ∷ []
  put_behind [] ys y h = refl
  put_behind (x ∷ xs) ys y h =
      let rest = map key (xs ++ y ∷ ys) in
      let other = in_middle (λ k. bytes_eq (key x) k ≡ false) xs ys y (IsDistinct-head bytes_eq (key x) rest h) in
      put_miss (has_key key (key y)) y x xs other ∙ ap (λ l. x ∷ l) (put_behind xs ys y (IsDistinct-tail bytes_eq (key x) rest h))
