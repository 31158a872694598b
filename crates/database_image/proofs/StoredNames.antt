-- The names of the classes of rows that an image may hold: the fixed ones in their order, and behind them new ones.
use Rattle.std.proofs.Common.{◌≡◌, ℕ, zero, suc, ◌+◌, ◌<◌, ◌≤◌, Bool, true, false, List, [], ◌∷◌, ◌++◌, length, Option, Some, None, refl, sym, ap, subst, ◌∙◌, append_assoc, arith, drop}
use Rattle.std.specs.Prelude.{nat_lt, bytes_eq, take, IsTrue, if◌then◌else◌}
use Rattle.std.specs.List.{slice_get}
use Rattle.std.specs.Option.{option_eq}
use Rattle.std.proofs.lemmas.Bool.{ltb-true, ltb-false, lt-ltb}
use Rattle.std.proofs.lemmas.List.{drop_all, append-nil, length-append, length-map, map-append}
use Rattle.racf_profiles.specs.declared.class_rows.ClassRow.{ClassRow}
use Rattle.racf_profiles.specs.declared.rows.Rows.{Rows}
use Rattle.racf_profiles.specs.LawfulProfiles.{most_classes, names_of, AreClassNames}
use Rattle.racf_profiles.proofs.Named.{same}
use Rattle.database_image.specs.Forms.{Form, ItemsFit}
use Rattle.database_image.specs.Fields.{is_new}
use Rattle.database_image.specs.Description.{fixed_names, is_class_at, class}
use Rattle.database_image.proofs.Fitting.{distinct-among}

-- ---- the name at a place of the fixed ones, and behind them
same-name : (o : Option (List ℕ)) (name : List ℕ) → option_eq bytes_eq o (Some name) ≡ true → o ≡ Some name
same-name None name h = absurd cc
same-name (Some other) name h = ap (λ (n : List ℕ). Some n) (same other name h)

fixed-at : (before : List (List ℕ)) (name : List ℕ) → length before < 15 → is_class_at before name ≡ true → slice_get fixed_names (length before) ≡ Some name
fixed-at before name few h = same-name (slice_get fixed_names (length before)) name (sym (ap (λ b. if b then option_eq bytes_eq (slice_get fixed_names (length before)) (Some name) else is_new before name) (lt-ltb (length before) 15 few)) ∙ h)

new-behind : (before : List (List ℕ)) (name : List ℕ) → 15 ≤ length before → is_class_at before name ≡ true → is_new before name ≡ true
new-behind before name many h = by (nat_lt (length before) 15) refl h
  where
    by : (b : Bool) → nat_lt (length before) 15 ≡ b → (if b then option_eq bytes_eq (slice_get fixed_names (length before)) (Some name) else is_new before name) ≡ true → is_new before name ≡ true
    by true e k = let few : length before < 15 = ltb-true (length before) 15 e in absurd (omega (arith, few, many))
    by false e k = k

-- ---- names by their places
one-of : (x y : List ℕ) → slice_get (y ∷ []) 0 ≡ Some x → y ≡ x
one-of x y h = cc

drop-at : (all : List (List ℕ)) (n : ℕ) (x : List ℕ) → slice_get all n ≡ Some x → drop n all ≡ x ∷ drop (suc n) all
drop-at [] n x h = absurd cc
drop-at (y ∷ all) zero x h = ap (λ (z : List ℕ). z ∷ all) (one-of x y h)
drop-at (y ∷ all) (suc n) x h = drop-at all n x h

take-at : (all : List (List ℕ)) (n : ℕ) (x : List ℕ) → slice_get all n ≡ Some x → take (suc n) all ≡ take n all ++ x ∷ []
take-at [] n x h = absurd cc
take-at (y ∷ all) zero x h = ap (λ (z : List ℕ). z ∷ []) (one-of x y h)
take-at (y ∷ all) (suc n) x h = ap (λ (names : List (List ℕ)). y ∷ names) (take-at all n x h)

-- Each of the names is new behind those before it.
abbrev EachNew : (before : List (List ℕ)) → List (List ℕ) → Type 0
EachNew before [] = Unit {0}
EachNew before (y ∷ all) = (is_new before y ≡ true) × EachNew (before ++ y ∷ []) all

fixed-new : EachNew [] fixed_names
fixed-new = (refl, (refl, (refl, (refl, (refl, (refl, (refl, (refl, (refl, (refl, (refl, (refl, (refl, (refl, (refl, tt)))))))))))))))

new-at : (before all : List (List ℕ)) (n : ℕ) (x : List ℕ) → EachNew before all → slice_get all n ≡ Some x → is_new (before ++ take n all) x ≡ true
new-at before [] n x h e = absurd cc
new-at before (y ∷ all) zero x h e = ap (λ (names : List (List ℕ)). is_new names x) (append-nil before) ∙ ap (is_new before) (sym (one-of x y e)) ∙ h.0
new-at before (y ∷ all) (suc n) x h e = ap (λ (names : List (List ℕ)). is_new names x) (sym (append_assoc before (y ∷ []) (take n all))) ∙ new-at (before ++ y ∷ []) all n x h.1 e

-- ---- the names of classes that fit
module _ (rows : Rows) where
  abbrev forms : List ClassRow → Form ClassRow
  forms = class rows.options.categories

  named-at : (before : List ClassRow) (c : ClassRow) → (forms before).Fits c → is_class_at (names_of before) c.name ≡ true
  unfolding class
  named-at before c f = f.0.1

  count-of : (before : List ClassRow) → length (names_of before) ≡ length before
  count-of before = length-map before (λ (c : ClassRow). c.name)

  fixed-name : (before : List ClassRow) (c : ClassRow) → (forms before).Fits c → length before < 15 → slice_get fixed_names (length before) ≡ Some c.name
  fixed-name before c f few = subst (λ n. slice_get fixed_names n ≡ Some c.name) (count-of before) (fixed-at (names_of before) c.name (let n = count-of before in omega (arith, n, few)) (named-at before c f))

  names-fixed : (n : ℕ) (before items : List ClassRow) → length before + n ≡ 15 → n ≤ length items → ItemsFit forms before items → take n (names_of items) ≡ drop (length before) fixed_names
  names-fixed zero before items count many f = sym (drop_all (length before) fixed_names (omega (arith, count)))
  names-fixed (suc n) before [] count many f = absurd (omega (arith, many))
  names-fixed (suc n) before (c ∷ items) count many f =
      let longer : length (before ++ c ∷ []) ≡ suc (length before) = omega (arith, length-append before (c ∷ [])) in
      let rest = names-fixed n (before ++ c ∷ []) items (omega (arith, longer, count)) (omega (arith, many)) f.1 in
      ap (λ (names : List (List ℕ)). c.name ∷ names) (rest ∙ ap (λ m. drop m fixed_names) longer) ∙ sym (drop-at fixed_names (length before) c.name (fixed-name before c f.0 (omega (arith, count))))

  -- As long as they aren't all there, the names before are those of the fixed classes.
  abbrev AreFirst : List ClassRow → Type 0
  AreFirst before = length before ≤ 15 → names_of before ≡ take (length before) fixed_names

  first-more : (before : List ClassRow) (c : ClassRow) → AreFirst before → (forms before).Fits c → AreFirst (before ++ c ∷ [])
  first-more before c first f few =
      let longer : length (before ++ c ∷ []) ≡ suc (length before) = omega (arith, length-append before (c ∷ [])) in
      map-append (λ (d : ClassRow). d.name) before (c ∷ [])
      ∙ ap (λ (names : List (List ℕ)). names ++ c.name ∷ []) (first (omega (arith, longer, few)))
      ∙ sym (take-at fixed_names (length before) c.name (fixed-name before c f (omega (arith, longer, few))))
      ∙ ap (λ n. take n fixed_names) (sym longer)

  new-class : (before : List ClassRow) (c : ClassRow) → AreFirst before → (forms before).Fits c → IsTrue (is_new (names_of before) c.name)
  new-class before c first f = by (nat_lt (length before) 15) refl
    where
      by : (b : Bool) → nat_lt (length before) 15 ≡ b → IsTrue (is_new (names_of before) c.name)
      by true e =
          let few : length before < 15 = ltb-true (length before) 15 e in
          ap (λ (names : List (List ℕ)). is_new names c.name) (first (omega (arith, few))) ∙ new-at [] fixed_names (length before) c.name fixed-new (fixed-name before c f few)
      by false e = new-behind (names_of before) c.name (let n = count-of before in let many : 15 ≤ length before = ltb-false (length before) 15 e in omega (arith, n, many)) (named-at before c f)

  pub are-names : (items : List ClassRow) → ItemsFit forms [] items → 15 ≤ length items → length items ≤ most_classes → AreClassNames (names_of items)
  are-names items f many few = record {
    fixed = names-fixed 15 [] items refl many f;
    distinct = distinct-among (λ (c : ClassRow). c.name) forms AreFirst new-class first-more [] items (λ none. refl) f;
    few = let n = count-of items in omega (arith, n, few);
  }
