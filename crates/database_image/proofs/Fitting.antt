-- What lists have whose items fit one behind another.
use Rattle.std.proofs.Common.{◌≡◌, ℕ, ◌≤◌, Bool, true, false, List, [], ◌∷◌, ◌++◌, length, map, sym, ap, ◌∙◌, true≢false}
use Rattle.std.specs.Prelude.{not, bytes_eq, IsTrue}
use Rattle.std.specs.List.{AllByRecursion, IsDistinct, list_any}
use Rattle.std.proofs.lemmas.Bool.{or_left, or_right, false_from_ne_true, leb-true}
use Rattle.std.proofs.lemmas.List.{map-append}
use Rattle.std.proofs.lemmas.List.Folds.{list_any-append}
use Rattle.std.proofs.lemmas.Map.Keys.{IsDistinct-cons}
use Rattle.racf_profiles.specs.declared.groups.Group.{Group}
use Rattle.racf_profiles.specs.declared.rows.Rows.{Rows}
use Rattle.racf_profiles.specs.Limits.{most_groups}
use Rattle.racf_profiles.proofs.Named.{same, itself}
use Rattle.database_image.specs.Forms.{Form, ItemsFit}
use Rattle.database_image.specs.Fields.{is_new}
use Rattle.database_image.specs.Description.{group, image_by, image}

pub distinct_none : IsDistinct bytes_eq []
unfolding IsDistinct
distinct_none = tt

not-both : (b : Bool) → b ≡ true → not b ≡ true → ⊥
not-both true h k = true≢false (sym k)
not-both false h k = true≢false (sym h)

any-before : (q : List ℕ) (names more : List (List ℕ)) → list_any (bytes_eq q) names ≡ true → list_any (bytes_eq q) (names ++ more) ≡ true
any-before q names more h = list_any-append (bytes_eq q) names more ∙ or_left _ _ h

any-last : (q : List ℕ) (names : List (List ℕ)) → list_any (bytes_eq q) (names ++ q ∷ []) ≡ true
any-last q names = list_any-append (bytes_eq q) names (q ∷ []) ∙ or_right (list_any (bytes_eq q) names) _ (or_left (bytes_eq q q) false (itself q))

-- ---- items whose names are new behind items of which something holds that each item keeps
module _ {A : Type 0} (name : A → List ℕ) (item : List A → Form A) (Holds : List A → Type 0) (new : (before : List A) (x : A) → Holds before → (item before).Fits x → IsTrue (is_new (map name before) (name x))) (kept : (before : List A) (x : A) → Holds before → (item before).Fits x → Holds (before ++ x ∷ [])) where
  apart-later : (q : List ℕ) (before items : List A) → Holds before → ItemsFit item before items → list_any (bytes_eq q) (map name before) ≡ true → AllByRecursion (λ y. bytes_eq q y ≡ false) (map name items)
  apart-later q before [] holds f m = tt
  apart-later q before (x ∷ items) holds f m = (
    false_from_ne_true (bytes_eq q (name x)) (λ t. not-both (list_any (bytes_eq (name x)) (map name before)) (ap (λ n. list_any (bytes_eq n) (map name before)) (sym (same q (name x) t)) ∙ m) (new before x holds f.0)),
    apart-later q (before ++ x ∷ []) items (kept before x holds f.0) f.1 (ap (list_any (bytes_eq q)) (map-append name before (x ∷ [])) ∙ any-before q (map name before) (name x ∷ []) m),
  )

  pub distinct-among : (before items : List A) → Holds before → ItemsFit item before items → IsDistinct bytes_eq (map name items)
  distinct-among before [] holds f = distinct_none
  distinct-among before (x ∷ items) holds f =
      IsDistinct-cons bytes_eq (name x) (map name items)
      (apart-later (name x) (before ++ x ∷ []) items (kept before x holds f.0) f.1 (ap (list_any (bytes_eq (name x))) (map-append name before (x ∷ [])) ∙ any-last (name x) (map name before)))
      (distinct-among (before ++ x ∷ []) items (kept before x holds f.0) f.1)

pub distinct-items : {A : Type 0} (name : A → List ℕ) (item : List A → Form A) → ((before : List A) (x : A) → (item before).Fits x → IsTrue (is_new (map name before) (name x))) → (before items : List A) → ItemsFit item before items → IsDistinct bytes_eq (map name items)
distinct-items name item new before items f = distinct-among name item (λ before. Unit {0}) (λ before x holds. new before x) (λ before x holds fits. tt) before items tt f

-- ---- the groups of an image
new-group : (before : List Group) (g : Group) → (group before).Fits g → IsTrue (is_new (map (λ (h : Group). h.id) before) g.id)
unfolding group
new-group before g f = f.0.1

pub distinct-groups : (rows : Rows) → image.Fits rows → IsDistinct bytes_eq (map (λ (g : Group). g.id) rows.groups)
unfolding image_by
distinct-groups rows f = distinct-items (λ (g : Group). g.id) group new-group [] rows.groups f.1.0.1

pub few-groups : (rows : Rows) → image.Fits rows → length rows.groups ≤ most_groups
unfolding image_by
few-groups rows f = leb-true (length rows.groups) most_groups f.1.0.0.1
