-- What holds of rows, and of each two of them, behind a change.
use Rattle.std.proofs.Common.{◌≡◌, Bool, true, false, cond, List, [], ◌∷◌, Some, None, ap, sym, subst, ◌∙◌, ⊎_elim}
use Rattle.std.specs.List.{find, AllByRecursion}
use Rattle.std.proofs.lemmas.Bool.{cases_Bool}
use Rattle.racf_profiles.specs.Edits.{put_row, drop_row}
use Rattle.racf_profiles.proofs.Found.{find-hit, find-miss}
use Rattle.defined_rows.specs.Kept.{AllPairs}

module _ {D : Type 0} (p : D → Bool) where
  -- the first step of an edit and of a search
  pub put_hit : (y x : D) (xs : List D) → p x ≡ true → put_row p y (x ∷ xs) ≡ y ∷ xs
  put_hit y x xs e = ap (λ b. cond b (y ∷ xs) (x ∷ put_row p y xs)) e

  pub put_miss : (y x : D) (xs : List D) → p x ≡ false → put_row p y (x ∷ xs) ≡ x ∷ put_row p y xs
  put_miss y x xs e = ap (λ b. cond b (y ∷ xs) (x ∷ put_row p y xs)) e

  pub drop_hit : (x : D) (xs : List D) → p x ≡ true → drop_row p (x ∷ xs) ≡ xs
  drop_hit x xs e = ap (λ b. cond b xs (x ∷ drop_row p xs)) e

  pub drop_miss : (x : D) (xs : List D) → p x ≡ false → drop_row p (x ∷ xs) ≡ x ∷ drop_row p xs
  drop_miss x xs e = ap (λ b. cond b xs (x ∷ drop_row p xs)) e

  pub found_here : (x d : D) (xs : List D) → p x ≡ true → find p (x ∷ xs) ≡ Some d → x ≡ d
  found_here x d xs e found = let some : Some x ≡ Some d = sym (find-hit p x xs e) ∙ found in cc

  pub none_here : (x : D) (xs : List D) → p x ≡ true → find p (x ∷ xs) ≡ None → {A : Type 0} → A
  none_here x xs e none = let some : Some x ≡ None = sym (find-hit p x xs e) ∙ none in absurd (cc)

module _ {D : Type 0} where
  pub all_weaker : (P Q : D → Type 0) → ((x : D) → P x → Q x) → (xs : List D) → AllByRecursion P xs → AllByRecursion Q xs
  all_weaker P Q f [] h = tt
  all_weaker P Q f (x ∷ xs) h = (f x h.0, all_weaker P Q f xs h.1)

  pub all_found : (P : D → Type 0) (p : D → Bool) (xs : List D) (d : D) → AllByRecursion P xs → find p xs ≡ Some d → P d
  all_found P p [] d h found = absurd (cc)
  all_found P p (x ∷ xs) d h found = ⊎_elim
      (λ (e : p x ≡ true). subst P (found_here p x d xs e found) h.0)
      (λ (e : p x ≡ false). all_found P p xs d h.1 (sym (find-miss p x xs e) ∙ found))
      (cases_Bool (p x))

  pub all_put : (P : D → Type 0) (p : D → Bool) (y : D) (xs : List D) → P y → AllByRecursion P xs → AllByRecursion P (put_row p y xs)
  all_put P p y [] own h = (own, tt)
  all_put P p y (x ∷ xs) own h = ⊎_elim
      (λ (e : p x ≡ true). subst (λ l. AllByRecursion P l) (sym (put_hit p y x xs e)) (own, h.1))
      (λ (e : p x ≡ false). subst (λ l. AllByRecursion P l) (sym (put_miss p y x xs e)) (h.0, all_put P p y xs own h.1))
      (cases_Bool (p x))

  pub all_drop : (P : D → Type 0) (p : D → Bool) (xs : List D) → AllByRecursion P xs → AllByRecursion P (drop_row p xs)
  all_drop P p [] h = tt
  all_drop P p (x ∷ xs) h = ⊎_elim
      (λ (e : p x ≡ true). subst (λ l. AllByRecursion P l) (sym (drop_hit p x xs e)) h.1)
      (λ (e : p x ≡ false). subst (λ l. AllByRecursion P l) (sym (drop_miss p x xs e)) (h.0, all_drop P p xs h.1))
      (cases_Bool (p x))

  module _ (relation : D → D → Type 0) (p : D → Bool) where
    pub pairs_drop : (xs : List D) → AllPairs relation xs → AllPairs relation (drop_row p xs)
    pairs_drop [] h = tt
    pairs_drop (x ∷ xs) h = ⊎_elim
        (λ (e : p x ≡ true). subst (λ l. AllPairs relation l) (sym (drop_hit p x xs e)) h.1)
        (λ (e : p x ≡ false). subst (λ l. AllPairs relation l) (sym (drop_miss p x xs e)) (all_drop (relation x) p xs h.0, pairs_drop xs h.1))
        (cases_Bool (p x))

    -- a row that stands as the one did in whose place it comes
    pub pairs_replaced : (y d : D) → ((x : D) → relation d x → relation y x) → ((x : D) → relation x d → relation x y)
        → (xs : List D) → find p xs ≡ Some d → AllPairs relation xs → AllPairs relation (put_row p y xs)
    pairs_replaced y d from to [] found h = absurd (cc)
    pairs_replaced y d from to (x ∷ xs) found h = ⊎_elim
        (λ (e : p x ≡ true). (
        let all = subst (λ z. AllByRecursion (relation z) xs) (found_here p x d xs e found) h.0 in
        subst (λ l. AllPairs relation l) (sym (put_hit p y x xs e)) (all_weaker (relation d) (relation y) from xs all, h.1)))
        (λ (e : p x ≡ false). (
        let behind = sym (find-miss p x xs e) ∙ found in
        let own = to x (all_found (relation x) p xs d h.0 behind) in
        subst (λ l. AllPairs relation l) (sym (put_miss p y x xs e)) (all_put (relation x) p y xs own h.0, pairs_replaced y d from to xs behind h.1)))
        (cases_Bool (p x))

    -- a row that comes behind all
    pub pairs_added : (y : D) (xs : List D) → find p xs ≡ None → AllByRecursion (λ x. relation x y) xs → AllPairs relation xs → AllPairs relation (put_row p y xs)
    pairs_added y [] none last h = (tt, tt)
    pairs_added y (x ∷ xs) none last h = ⊎_elim
        (λ (e : p x ≡ true). none_here p x xs e none)
        (λ (e : p x ≡ false). (
        let behind = sym (find-miss p x xs e) ∙ none in
        subst (λ l. AllPairs relation l) (sym (put_miss p y x xs e)) (all_put (relation x) p y xs last.0 h.0, pairs_added y xs behind last.1 h.1)))
        (cases_Bool (p x))
