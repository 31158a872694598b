-- What a change of a row at its place makes of all rows.
use Rattle.std.proofs.Common.{◌≡◌, ℕ, zero, suc, ◌+◌, Bool, true, false, cond, List, [], ◌∷◌, ◌++◌, map, take, set, slice_set, remove, Some, None, refl, sym, ap, subst, ◌∙◌, arith}
use Rattle.std.specs.List.{filter, position, slice_get, AllByRecursion}
use Rattle.std.proofs.lemmas.List.Elements.{filter-append}
use Rattle.std.proofs.lemmas.List.{map-append}
use Rattle.racf_profiles.specs.declared.class_rows.ClassRow.{ClassRow}
use Rattle.racf_profiles.specs.Lookup.{is_class}
use Rattle.racf_profiles.specs.Edits.{put_row, drop_row, at_class}
use Rattle.racf_profiles.specs.State.{ListedCopy, copy_of_class}
use Rattle.racf_profiles.proofs.EditLaws.{drop_row-absent, at_class-absent}
use Rattle.racf_profiles.proofs.Places.{IsAt, at-is, none-is, put-at, put-absent, drop-at}

-- ---- classes
module _ (name : List ℕ) (change : ClassRow → ClassRow) where
  pub changed-at : (rows : List ClassRow) (k : ℕ) (row : ClassRow) → IsAt (is_class name) rows k → slice_get rows k ≡ Some row → set rows k (change row) ≡ at_class name change rows
  changed-at [] k row at got = absurd at
  changed-at (x ∷ xs) zero row at got =
      let same : x ≡ row = cc in
      ap (λ (r : ClassRow). change r ∷ xs) (sym same) ∙ ap (λ b. cond b (change x ∷ xs) (x ∷ at_class name change xs)) (sym at)
  changed-at (x ∷ xs) (suc k) row at got =
      ap (λ rest. x ∷ rest) (changed-at xs k row at.1 got) ∙ ap (λ b. cond b (change x ∷ xs) (x ∷ at_class name change xs)) (sym at.0)

  -- what is so of each class behind a change is so of the one that was changed
  pub holds-at : (P : ClassRow → Type 0) (rows : List ClassRow) (k : ℕ) (row : ClassRow) → IsAt (is_class name) rows k → slice_get rows k ≡ Some row → AllByRecursion P (at_class name change rows) → P (change row)
  holds-at P [] k row at got all = absurd at
  holds-at P (x ∷ xs) zero row at got all =
      let same : x ≡ row = cc in
      let first : AllByRecursion P (change x ∷ xs) = subst (λ b. AllByRecursion P (cond b (change x ∷ xs) (x ∷ at_class name change xs))) at all in
      subst (λ (r : ClassRow). P (change r)) same first.0
  holds-at P (x ∷ xs) (suc k) row at got all =
      let rest : AllByRecursion P (x ∷ at_class name change xs) = subst (λ b. AllByRecursion P (cond b (change x ∷ xs) (x ∷ at_class name change xs))) at.0 all in
      holds-at P xs k row at.1 got rest.1

-- ---- what a change of the class at its place makes
module _ (name : List ℕ) (change : ClassRow → ClassRow) (rows : List ClassRow) where
  pub class-changed : (items : List ClassRow) (k : ℕ) (row changed : ClassRow) → items ≡ rows → position (is_class name) rows ≡ Some k → slice_get rows k ≡ Some row → changed ≡ change row
      → slice_set items k changed ≡ at_class name change rows
  class-changed items k row changed same is got made =
      ap (λ (xs : List ClassRow). slice_set xs k changed) same ∙ ap (λ (r : ClassRow). slice_set rows k r) made ∙ changed-at name change rows k row (at-is (is_class name) rows k (sym is)) got

  pub class-absent : position (is_class name) rows ≡ None → rows ≡ at_class name change rows
  class-absent is = sym (at_class-absent name change rows (none-is (is_class name) rows (sym is)))

  pub class-holds : (P : ClassRow → Type 0) (k : ℕ) (row : ClassRow) → position (is_class name) rows ≡ Some k → slice_get rows k ≡ Some row → AllByRecursion P (at_class name change rows) → P (change row)
  class-holds P k row is got all = holds-at name change P rows k row (at-is (is_class name) rows k (sym is)) got all

-- ---- what a change of a row at its place makes
module _ {X : Type 0} (p : X → Bool) where
  pub row-put : (items rows : List X) (k : ℕ) (x y : X) → items ≡ rows → position p rows ≡ Some k → x ≡ y → slice_set items k x ≡ put_row p y rows
  row-put items rows k x y same is made = ap (λ (xs : List X). slice_set xs k x) same ∙ ap (λ (r : X). slice_set rows k r) made ∙ sym (put-at p rows k y (at-is p rows k (sym is)))

  pub row-pushed : (items rows : List X) (x y : X) → items ≡ rows → position p rows ≡ None → x ≡ y → items ++ x ∷ [] ≡ put_row p y rows
  row-pushed items rows x y same is made = ap (λ (xs : List X). xs ++ x ∷ []) same ∙ ap (λ (r : X). rows ++ r ∷ []) made ∙ sym (put-absent p rows y (none-is p rows (sym is)))

  pub row-dropped : (items rows : List X) (k : ℕ) → items ≡ rows → position p rows ≡ Some k → remove items k ≡ drop_row p rows
  row-dropped items rows k same is = ap (λ (xs : List X). remove xs k) same ∙ sym (drop-at p rows k (at-is p rows k (sym is)))

  pub row-left : (rows : List X) → position p rows ≡ None → rows ≡ drop_row p rows
  row-left rows is = sym (drop_row-absent p rows (none-is p rows (sym is)))

-- the copies of the classes up to a place, and of one more
take-one : {X : Type 0} (xs : List X) (i : ℕ) (x : X) → slice_get xs i ≡ Some x → take (i + 1) xs ≡ take i xs ++ x ∷ []
take-one [] i x got = cc
take-one (y ∷ ys) zero x got = let same : y ≡ x = cc in ap (λ z. z ∷ []) same
take-one (y ∷ ys) (suc i) x got =
    let one : suc i + 1 ≡ suc (i + 1) = omega arith in
    ap (λ n. take n (y ∷ ys)) one ∙ ap (λ zs. y ∷ zs) (take-one ys i x got)

pub copies-more : (rows : List ClassRow) (i : ℕ) (row : ClassRow) (old new : List ListedCopy) → slice_get rows i ≡ Some row → old ≡ map copy_of_class (filter (λ (class : ClassRow). class.listed) (take i rows))
    → new ≡ old ++ cond row.listed (copy_of_class row ∷ []) [] → new ≡ map copy_of_class (filter (λ (class : ClassRow). class.listed) (take (i + 1) rows))
copies-more rows i row old new got before pushed =
    pushed ∙ ap (λ cs. cs ++ cond row.listed (copy_of_class row ∷ []) []) before
    ∙ ap (λ cs. map copy_of_class (filter (λ (class : ClassRow). class.listed) (take i rows)) ++ cs) (one row.listed)
    ∙ sym (map-append copy_of_class (filter (λ (class : ClassRow). class.listed) (take i rows)) (cond row.listed (row ∷ []) []))
    ∙ ap (map copy_of_class) (sym (filter-append (λ (class : ClassRow). class.listed) (take i rows) (row ∷ [])))
    ∙ ap (λ rs. map copy_of_class (filter (λ (class : ClassRow). class.listed) rs)) (sym (take-one rows i row got))
  where
    one : (b : Bool) → cond b (copy_of_class row ∷ []) [] ≡ map copy_of_class (cond b (row ∷ []) [])
    one true = refl
    one false = refl
