-- Rows that are put, changed and dropped: what they add up to.
use Rattle.std.proofs.Common.{◌≡◌, ℕ, ◌+◌, Bool, true, false, cond, List, [], ◌∷◌, ◌++◌, None, Some, refl, sym, ap, ◌∙◌, arith}
use Rattle.std.specs.Prelude.{find, sum_by, fold}
use Rattle.std.specs.Option.{option_map_or}
use Rattle.std.proofs.lemmas.List.Sums.{sum_by-cons}
use Rattle.racf_profiles.specs.Edits.{put_row, drop_row}
use Rattle.row_tables.specs.ChangedRow.{at_row}

module _ {X : Type 0} (it : X → Bool) where
  module _ (weight : X → ℕ) where
    -- the new row counts in place of the one that it replaces
    pub sum-put_row : (row : X) (rows : List X) → sum_by weight (put_row it row rows) + option_map_or weight (find it rows) 0 ≡ sum_by weight rows + weight row
    sum-put_row row [] = let now : sum_by weight (row ∷ []) + 0 ≡ sum_by weight [] + weight row = omega (arith, sum_by-cons weight row []) in now
    sum-put_row row (x ∷ xs) = by (it x) (sum-put_row row xs)
      where
        by : (b : Bool) → sum_by weight (put_row it row xs) + option_map_or weight (find it xs) 0 ≡ sum_by weight xs + weight row
            → sum_by weight (cond b (row ∷ xs) (x ∷ put_row it row xs)) + option_map_or weight (cond b (Some x) (find it xs)) 0 ≡ sum_by weight (x ∷ xs) + weight row
        by true rest =
            let now : sum_by weight (row ∷ xs) + weight x ≡ sum_by weight (x ∷ xs) + weight row = omega (arith, sum_by-cons weight row xs, sum_by-cons weight x xs) in
            now
        by false rest =
            let now : sum_by weight (x ∷ put_row it row xs) + option_map_or weight (find it xs) 0 ≡ sum_by weight (x ∷ xs) + weight row =
            omega (arith, rest, sum_by-cons weight x (put_row it row xs), sum_by-cons weight x xs) in
            now

    pub sum-drop_row : (rows : List X) → sum_by weight (drop_row it rows) + option_map_or weight (find it rows) 0 ≡ sum_by weight rows
    sum-drop_row [] = refl
    sum-drop_row (x ∷ xs) = by (it x) (sum-drop_row xs)
      where
        by : (b : Bool) → sum_by weight (drop_row it xs) + option_map_or weight (find it xs) 0 ≡ sum_by weight xs
            → sum_by weight (cond b xs (x ∷ drop_row it xs)) + option_map_or weight (cond b (Some x) (find it xs)) 0 ≡ sum_by weight (x ∷ xs)
        by true rest = let now : sum_by weight xs + weight x ≡ sum_by weight (x ∷ xs) = omega (arith, sum_by-cons weight x xs) in now
        by false rest =
            let now : sum_by weight (x ∷ drop_row it xs) + option_map_or weight (find it xs) 0 ≡ sum_by weight (x ∷ xs) =
            omega (arith, rest, sum_by-cons weight x (drop_row it xs), sum_by-cons weight x xs) in
            now

  -- a row that is there, put in its place
  pub put_row-at_row : (change : X → X) (row : X) (rows : List X) → find it rows ≡ Some row → put_row it (change row) rows ≡ at_row it change rows
  put_row-at_row change row [] found = cc
  put_row-at_row change row (x ∷ xs) found = by (it x) found (put_row-at_row change row xs)
    where
      by : (b : Bool) → cond b (Some x) (find it xs) ≡ Some row → (find it xs ≡ Some row → put_row it (change row) xs ≡ at_row it change xs)
          → cond b (change row ∷ xs) (x ∷ put_row it (change row) xs) ≡ cond b (change x ∷ xs) (x ∷ at_row it change xs)
      by true f rest = let same : x ≡ row = cc in ap (λ y. change y ∷ xs) (sym same)
      by false f rest = ap (λ ys. x ∷ ys) (rest f)

  -- a new row goes last
  pub put_row-new : (row : X) (rows : List X) → find it rows ≡ None → put_row it row rows ≡ rows ++ row ∷ []
  put_row-new row [] none = refl
  put_row-new row (x ∷ xs) none = by (it x) none (put_row-new row xs)
    where
      by : (b : Bool) → cond b (Some x) (find it xs) ≡ None → (find it xs ≡ None → put_row it row xs ≡ xs ++ row ∷ [])
          → cond b (row ∷ xs) (x ∷ put_row it row xs) ≡ x ∷ (xs ++ row ∷ [])
      by true f rest = cc
      by false f rest = ap (λ ys. x ∷ ys) (rest f)

-- steps that change nothing
pub fold-same : {A B : Type 0} (f : A → B → A) (a : A) (xs : List B) → ((x : B) → f a x ≡ a) → fold f a xs ≡ a
fold-same f a [] same = refl
fold-same f a (x ∷ xs) same = ap (λ b. fold f b xs) (same x) ∙ fold-same f a xs same
