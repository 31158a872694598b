-- Rows that were read of an image fit once the class CDT is among them, and rows that fit have it.
use Rattle.std.proofs.Common.{◌≡◌, ℕ, ◌+◌, ◌≤◌, Bool, true, false, List, [], ◌∷◌, ◌++◌, length, refl, sym, ap, subst, ◌∙◌, append_assoc, arith}
use Rattle.std.specs.Prelude.{nat_le, ◌||◌, if◌then◌else◌}
use Rattle.std.proofs.lemmas.Bool.{and_parts, leb-true, eqb-true}
use Rattle.std.proofs.lemmas.List.{append-nil, length-append, length-map}
use Rattle.std.proofs.lemmas.List.Sums.{sum_by-append, sum_by-cons}
use Rattle.racf_profiles.specs.declared.class_rows.ClassRow.{ClassRow}
use Rattle.racf_profiles.specs.declared.rows.Rows.{Rows}
use Rattle.racf_profiles.specs.Counts.{profile_count}
use Rattle.racf_profiles.specs.DynamicClasses.{cdt}
use Rattle.racf_profiles.specs.Edits.{added_class}
use Rattle.racf_profiles.specs.LawfulProfiles.{names_of}
use Rattle.racf_profiles.specs.Limits.{most_class_profiles, most_profiles}
use Rattle.database_image.specs.Forms.{Form, ItemsFit}
use Rattle.database_image.specs.Description.{is_class_at, is_class_count, is_old_count, class, image_by, image, read_image}
use Rattle.database_image.specs.Image.{completed}
use Rattle.database_image.proofs.FitFields.{spelled-number, at-most, spelled-id, spelled-log}

-- ---- one item more
items-more : {A : Type 0} (item : List A → Form A) (before items : List A) (x : A) → ItemsFit item before items → (item (before ++ items)).Fits x → ItemsFit item before (items ++ x ∷ [])
items-more {A = A} item before [] x f h = (subst (λ (b : List A). (item b).Fits x) (append-nil before) h, tt)
items-more {A = A} item before (y ∷ items) x f h = (f.0, items-more item (before ++ y ∷ []) items x f.1 (subst (λ (b : List A). (item b).Fits x) (sym (append_assoc before (y ∷ []) items)) h))

profiles-within : (categories : List (List ℕ)) (before : List ClassRow) (c : ClassRow) → (class categories before).Fits c → profile_count before + length c.profiles ≤ most_profiles
unfolding class
profiles-within categories before c f = leb-true _ _ (and_parts (nat_le (length c.profiles) most_class_profiles) (nat_le (profile_count before + length c.profiles) most_profiles) f.1.1.1.0.0.1).1

few-profiles : (categories : List (List ℕ)) (before items : List ClassRow) → ItemsFit (class categories) before items → profile_count before ≤ most_profiles → profile_count (before ++ items) ≤ most_profiles
few-profiles categories before [] f h = subst (λ (b : List ClassRow). profile_count b ≤ most_profiles) (sym (append-nil before)) h
few-profiles categories before (c ∷ items) f h =
    let one : profile_count (before ++ c ∷ []) ≡ profile_count before + (length c.profiles + profile_count []) = sum_by-append (λ (d : ClassRow). length d.profiles) before (c ∷ []) ∙ ap (λ n. profile_count before + n) (sum_by-cons (λ (d : ClassRow). length d.profiles) c []) in
    let within = profiles-within categories before c f.0 in
    subst (λ (b : List ClassRow). profile_count b ≤ most_profiles) (append_assoc before (c ∷ []) items) (few-profiles categories (before ++ c ∷ []) items f.1 (omega (arith, one, within)))

-- ---- CDT behind GLOBAL
cdt-at : (before : List (List ℕ)) (n : ℕ) → length before ≡ n → n ≡ 14 → is_class_at before cdt ≡ true
cdt-at before n e k = let same : length before ≡ 14 = e ∙ k in rw same refl

cdt-fits : (categories : List (List ℕ)) (before : List ClassRow) → length before ≡ 14 → profile_count before ≤ most_profiles → (class categories before).Fits (added_class cdt)
unfolding class
cdt-fits categories before count few = (
  (spelled-id cdt refl, cdt-at (names_of before) (length before) (length-map before (λ (c : ClassRow). c.name)) count),
  ((spelled-number 1 0 (omega arith), refl), ((spelled-log (added_class cdt).log, refl), (((spelled-number 4 0 (omega arith), at-most (profile_count before + 0) most_profiles (omega (arith, few))), tt), refl))),
)

or-split : (old new : Bool) → (old || new) ≡ true → old ≡ false → new ≡ true
or-split true new h e = absurd cc
or-split false new h e = h

not-old : (n : ℕ) → is_class_count n ≡ true → is_old_count n ≡ false
not-old n h = by (is_old_count n) refl
  where
    by : (b : Bool) → is_old_count n ≡ b → b ≡ false
    by false e = refl
    by true e = let at : n ≡ 14 = eqb-true n 14 e in let no : false ≡ true = ap is_class_count (sym at) ∙ h in absurd cc

-- ---- the whole
pub completed-fits : (rows : Rows) → read_image.Fits rows → image.Fits (completed rows)
unfolding image_by
completed-fits rows f = by (is_old_count (length rows.classes)) refl
  where
    by : (b : Bool) → is_old_count (length rows.classes) ≡ b → image.Fits (record rows { classes = if b then rows.classes ++ added_class cdt ∷ [] else rows.classes })
    by true e =
        let count : length rows.classes ≡ 14 = eqb-true (length rows.classes) 14 e in
        let items = f.1.1.1.0.1 in
        let all : length (rows.classes ++ added_class cdt ∷ []) ≡ 15 = length-append rows.classes (added_class cdt ∷ []) ∙ ap (λ n. n + 1) count in (
          f.0,
          (f.1.0, (f.1.1.0, (((spelled-number 2 _ (omega (arith, all)), ap is_class_count all), items-more (class rows.options.categories) [] rows.classes (added_class cdt) items (cdt-fits rows.options.categories rows.classes count (few-profiles rows.options.categories [] rows.classes items (omega arith)))), refl))),
        )
    by false e = (f.0, (f.1.0, (f.1.1.0, (((f.1.1.1.0.0.0, or-split (is_old_count (length rows.classes)) (is_class_count (length rows.classes)) f.1.1.1.0.0.1 e), f.1.1.1.0.1), refl))))

or-last : (old new : Bool) → new ≡ true → (old || new) ≡ true
or-last true new h = refl
or-last false new h = h

pub read-fits : (rows : Rows) → image.Fits rows → read_image.Fits rows
unfolding image_by
read-fits rows f = (f.0, (f.1.0, (f.1.1.0, (((f.1.1.1.0.0.0, or-last (is_old_count (length rows.classes)) (is_class_count (length rows.classes)) f.1.1.1.0.0.1), f.1.1.1.0.1), f.1.1.1.1))))

pub completed-whole : (rows : Rows) → image.Fits rows → completed rows ≡ rows
unfolding image_by
completed-whole rows f = ap (λ b. record rows { classes = if b then rows.classes ++ added_class cdt ∷ [] else rows.classes }) (not-old (length rows.classes) f.1.1.1.0.0.1)
