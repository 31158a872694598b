-- The groups of rows that an image may hold are a tree.
use Rattle.std.proofs.Common.{◌≡◌, ℕ, zero, suc, ◌+◌, ◌-◌, Bool, true, false, List, [], ◌∷◌, ◌++◌, length, Option, Some, None, is_some, refl, sym, ap, subst, ◌∙◌, true≢false, arith}
use Rattle.std.specs.Prelude.{not, ◌&&◌, ◌↔◌, bytes_eq, IsTrue, IsSomeAnd, if◌then◌else◌}
use Rattle.std.specs.List.{AllByRecursion, list_any}
use Rattle.std.specs.Option.{option_or, option_and_then, option_map_or}
use Rattle.std.proofs.lemmas.Bool.{and_parts}
use Rattle.racf_profiles.specs.declared.groups.Group.{Group}
use Rattle.racf_profiles.specs.declared.users.User.{User}
use Rattle.racf_profiles.specs.declared.rows.Rows.{Rows}
use Rattle.racf_profiles.specs.NewDatabase.{sys1}
use Rattle.racf_profiles.specs.Lookup.{is_group, find_group, IsGroup}
use Rattle.racf_profiles.specs.Names.{is_special_user, is_connected_to}
use Rattle.racf_profiles.specs.Scope.{IsUnder, IsWay, IsWithin}
use Rattle.racf_profiles.specs.Tree.{IsTree}
use Rattle.racf_profiles.proofs.Named.{same, itself}
use Rattle.racf_profiles.proofs.States.{find-passes}
use Rattle.database_image.specs.Forms.{Form, ItemsFit}
use Rattle.database_image.specs.Description.{is_superior_of, group, image_by, image}
use Rattle.database_image.specs.Facts.{Fact, told, told_of_each, first_broken, group_width, user_width, class_width, group_facts, user_facts, class_facts, is_superior_in, is_there, leads_to, later_facts, facts, groups_place, users_place, classes_place}
use Rattle.database_image.specs.Image.{IsStored}
use Rattle.database_image.specs.Ways.{above, climbed}
use Rattle.database_image.proofs.Climbs.{one_end, climbed-zero, climbed-suc, first_step, is_there-above, leads_of, round_of, Round}
use Rattle.database_image.proofs.Told.{first-append}
use Rattle.database_image.proofs.BetweenLaws.{classes_told, connects_told}
use Rattle.database_image.proofs.Fitting.{distinct-groups, few-groups}

not-none : (o : Option (List ℕ)) (x : List ℕ) → o ≡ Some x → o ≡ None → ⊥
not-none o x a b = cc

-- ---- facts that all hold
none-both : (a b : Option ℕ) → option_or a b ≡ None → (a ≡ None) × (b ≡ None)
none-both None b h = (refl, h)
none-both (Some x) b h = absurd cc

pub both-hold : (xs ys : List Fact) → first_broken (xs ++ ys) ≡ None → (first_broken xs ≡ None) × (first_broken ys ≡ None)
both-hold xs ys h = none-both (first_broken xs) (first_broken ys) (sym (first-append xs ys) ∙ h)

pub one-true : (place : ℕ) (holds : Bool) (ys : List Fact) → first_broken (told place holds ∷ ys) ≡ None → (holds ≡ true) × (first_broken ys ≡ None)
one-true place true ys h = (refl, h)
one-true place false ys h = absurd cc

pub each-holds : {A : Type 0} (width : A → ℕ) (F : ℕ → A → List Fact) (place : ℕ) (items : List A) → first_broken (told_of_each width F place items) ≡ None → AllByRecursion (λ x. (p : ℕ) × (first_broken (F p x) ≡ None)) items
each-holds width F place [] h = tt
each-holds width F place (x ∷ items) h =
    let b = both-hold (F place x) (told_of_each width F (place + width x) items) h in
    ((place, b.0), each-holds width F (place + width x) items b.1)

pub all-fit : {A : Type 0} (P : A → Type 0) (item : List A → Form A) → ((before : List A) (x : A) → (item before).Fits x → P x) → (before items : List A) → ItemsFit item before items → AllByRecursion P items
all-fit P item h before [] f = tt
all-fit P item h before (x ∷ items) f = (h before x f.0, all-fit P item h (before ++ x ∷ []) items f.1)

all-found : (P : Group → Type 0) (groups : List Group) (id : List ℕ) (g : Group) → AllByRecursion P groups → find_group groups id ≡ Some g → P g
all-found P [] id g all h = absurd cc
all-found P (x ∷ groups) id g all h = by (bytes_eq x.id id) (λ e. all-found P groups id g all.1 e) h
  where
    by : (b : Bool) → (find_group groups id ≡ Some g → P g) → (if b then Some x else find_group groups id) ≡ Some g → P g
    by true more e = let one : x ≡ g = (let a = e in cc) in subst P one all.0
    by false more e = more e

pub record Holding (rows : Rows) : Type 0 where
  pub groups : AllByRecursion (λ g. (p : ℕ) × (first_broken (group_facts rows p g) ≡ None)) rows.groups
  pub special : list_any is_special_user rows.users ≡ true
  pub users : AllByRecursion (λ u. (p : ℕ) × (first_broken (user_facts rows p u) ≡ None)) rows.users
  pub classes : AllByRecursion (λ c. (p : ℕ) × (first_broken (class_facts rows p c) ≡ None)) rows.classes

pub holding : (rows : Rows) → first_broken (facts rows) ≡ None → Holding rows
holding rows h =
    let a = both-hold (told_of_each group_width (group_facts rows) (groups_place rows) rows.groups) (later_facts rows) h in
    let of_users = told_of_each user_width (user_facts rows) (users_place rows + 4) rows.users in
    let of_classes = told_of_each class_width (class_facts rows) (classes_place rows) rows.classes in
    let b = one-true (users_place rows) (list_any is_special_user rows.users) (of_users ++ of_classes) a.1 in
    let c = both-hold of_users of_classes b.1 in
    record {
      groups = each-holds group_width (group_facts rows) (groups_place rows) rows.groups a.0;
      special = b.0;
      users = each-holds user_width (user_facts rows) (users_place rows + 4) rows.users c.0;
      classes = each-holds class_width (class_facts rows) (classes_place rows) rows.classes c.1;
    }

-- ---- one group
found_of : (groups : List Group) (id : List ℕ) → is_some (find_group groups id) ≡ true → (g : Group) × (find_group groups id ≡ Some g) × (g.id ≡ id)
found_of groups id there = by (find_group groups id) refl there
  where
    by : (o : Option Group) → find_group groups id ≡ o → is_some o ≡ true → (g : Group) × (find_group groups id ≡ Some g) × (g.id ≡ id)
    by None e t = absurd cc
    by (Some g) e t = (g, e, same g.id id (find-passes (is_group id) g groups e))

superior-told : (rows : Rows) (g : Group) (place : ℕ) (superior : List ℕ) → g.superior ≡ Some superior → first_broken (group_facts rows place g) ≡ None → is_superior_in rows.groups g superior ≡ true
superior-told rows g place superior up h =
    (one-true (place + 8) (is_superior_in rows.groups g superior) [] (sym (ap (λ (o : Option (List ℕ)). first_broken (option_map_or (λ s. told (place + 8) (is_superior_in rows.groups g s) ∷ []) o [])) up) ∙ h)).0

above-of : (groups : List Group) (id : List ℕ) (g : Group) → find_group groups id ≡ Some g → above groups id ≡ g.superior
above-of groups id g h = ap (option_and_then (λ (row : Group). row.superior)) h

has-root : (o : Option (List ℕ)) (id : List ℕ) → IsTrue (is_superior_of id o) → (o ≡ None) ↔ (id ≡ sys1.id)
has-root None id h = (λ e. same id sys1.id h, λ e. refl)
has-root (Some s) id h = (λ e. absurd (let a = e in cc), λ e. absurd (true≢false (sym (itself sys1.id) ∙ ap (λ i. bytes_eq i sys1.id) (sym e) ∙ not-true (bytes_eq id sys1.id) h)))
  where
    not-true : (b : Bool) → not b ≡ true → b ≡ false
    not-true true k = absurd cc
    not-true false k = refl

superior-fits : (before : List Group) (g : Group) → (group before).Fits g → IsTrue (is_superior_of g.id g.superior)
unfolding group
superior-fits before g f = f.1.0.1

fits-groups : (rows : Rows) → image.Fits rows → AllByRecursion (λ (g : Group). IsTrue (is_superior_of g.id g.superior)) rows.groups
unfolding image_by
fits-groups rows f = all-fit (λ (g : Group). IsTrue (is_superior_of g.id g.superior)) group superior-fits [] rows.groups f.1.0.1

-- ---- the tree
module _ (rows : Rows) (stored : IsStored rows) where
  held : Holding rows
  held = holding rows stored.between

  superior-in : (id superior : List ℕ) (g : Group) → find_group rows.groups id ≡ Some g → above rows.groups id ≡ Some superior → is_superior_in rows.groups g superior ≡ true
  superior-in id superior g found up =
      let p = all-found (λ h. (p : ℕ) × (first_broken (group_facts rows p h) ≡ None)) rows.groups id g held.groups found in
      superior-told rows g p.0 superior (sym (above-of rows.groups id g found) ∙ up) p.1

  root-alone : (id : List ℕ) (g : Group) → find_group rows.groups id ≡ Some g → (g.superior ≡ None) ↔ (id ≡ sys1.id)
  root-alone id g found =
      let e : g.id ≡ id = same g.id id (find-passes (is_group id) g rows.groups found) in
      subst (λ i. (g.superior ≡ None) ↔ (i ≡ sys1.id)) e (has-root g.superior g.id (all-found (λ (h : Group). IsTrue (is_superior_of h.id h.superior)) rows.groups id g (fits-groups rows stored.fields) found))

  superior-there : (id superior : List ℕ) → is_some (find_group rows.groups id) ≡ true → above rows.groups id ≡ Some superior → is_some (find_group rows.groups superior) ≡ true
  superior-there id superior there up =
      let f = found_of rows.groups id there in
      (and_parts (is_some (find_group rows.groups superior)) (not (leads_to (length rows.groups) rows.groups f.0.id superior)) (superior-in id superior f.0 f.1 up)).0

  end-there : (n : ℕ) (id x : List ℕ) → is_some (find_group rows.groups id) ≡ true → climbed n rows.groups id ≡ Some x → is_some (find_group rows.groups x) ≡ true
  end-there zero id x there h = let one : id ≡ x = one_end (climbed 0 rows.groups id) id x (climbed-zero rows.groups id) h in subst (λ y. is_some (find_group rows.groups y) ≡ true) one there
  end-there (suc n) id x there h = let f = first_step rows.groups n id x h in end-there n f.0 x (superior-there id f.0 there f.1) f.2

  no-round : (n : ℕ) (from : List ℕ) → n ≡ length rows.groups → Round rows.groups n from → ⊥
  no-round n from e r =
      let k : suc (r.round - 1) ≡ r.round = omega (arith, r.some) in
      let f = first_step rows.groups (r.round - 1) r.group r.group (ap (λ m. climbed m rows.groups r.group) k ∙ r.back) in
      let there = is_there-above rows.groups r.group f.0 f.1 in
      let g = found_of rows.groups r.group there in
      let round_on : leads_to (length rows.groups) rows.groups r.group f.0 ≡ true = leads_of rows.groups (length rows.groups) (r.round - 1) r.group f.0 (omega (arith, r.within, r.some, e)) f.2 in
      let none = (and_parts (is_some (find_group rows.groups f.0)) (not (leads_to (length rows.groups) rows.groups g.0.id f.0)) (superior-in r.group f.0 g.0 g.1 f.1)).1 in
      let at_id : leads_to (length rows.groups) rows.groups g.0.id f.0 ≡ true = ap (λ i. leads_to (length rows.groups) rows.groups i f.0) g.2 ∙ round_on in
      true≢false (sym none ∙ ap not at_id)

  way_up : (n : ℕ) (id : List ℕ) → is_some (find_group rows.groups id) ≡ true → climbed n rows.groups id ≡ None → IsWithin rows.groups sys1.id id
  way_up zero id there h = absurd (not-none (climbed 0 rows.groups id) id (climbed-zero rows.groups id) h)
  way_up (suc n) id there h =
      let f = found_of rows.groups id there in
      by f.0 f.1 f.0.superior refl (λ s t e. way_up n s t e)
    where
      by : (g : Group) → find_group rows.groups id ≡ Some g → (o : Option (List ℕ)) → g.superior ≡ o → ((s : List ℕ) → is_some (find_group rows.groups s) ≡ true → climbed n rows.groups s ≡ None → IsWithin rows.groups sys1.id s) → IsWithin rows.groups sys1.id id
      by g found None e more = record { others = []; way = (there, (root-alone id g found).0 e) }
      by g found (Some s) e more =
          let up : above rows.groups id ≡ Some s = above-of rows.groups id g found ∙ e in
          let w = more s (superior-there id s there up) (sym (ap (option_and_then (climbed n rows.groups)) up) ∙ sym (climbed-suc rows.groups n id) ∙ h) in
          record { others = s ∷ w.others; way = (subst (λ o. IsSomeAnd o (λ row. IsUnder row s)) (sym found) e, w.way) }

  upwards : (id : List ℕ) → is_some (find_group rows.groups id) ≡ true → IsWithin rows.groups sys1.id id
  upwards id there = by (climbed (length rows.groups) rows.groups id) refl
    where
      by : (o : Option (List ℕ)) → climbed (length rows.groups) rows.groups id ≡ o → IsWithin rows.groups sys1.id id
      by None e = way_up (length rows.groups) id there e
      by (Some x) e = absurd (no-round (length rows.groups) id refl (round_of rows.groups id x e (end-there (length rows.groups) id x there e)))

  -- ---- SYS1 is there, since some user has SPECIAL and a default group
  any-with : (P : User → Type 0) (users : List User) → list_any is_special_user users ≡ true → AllByRecursion P users → (u : User) × P u
  any-with P [] h all = absurd cc
  any-with P (u ∷ users) h all = (u, all.0)

  default-there : (u : User) (p : ℕ) → first_broken (user_facts rows p u) ≡ None → is_some (find_group rows.groups u.default_group) ≡ true
  default-there u p h =
      let behind = classes_told rows p u ++ connects_told rows p u in
      let default = is_there rows u.default_group && is_connected_to u.default_group u in
      let a = one-true p (not (is_there rows u.id)) (told (p + 8) default ∷ behind) h in
      let b = one-true (p + 8) default behind a.1 in
      (and_parts (is_there rows u.default_group) (is_connected_to u.default_group u) b.0).0

  way-last : (id : List ℕ) (others : List (List ℕ)) (last : List ℕ) → IsWay IsUnder rows.groups id others last → IsGroup rows.groups last
  way-last id [] last w = subst (IsGroup rows.groups) w.1 w.0
  way-last id (next ∷ others) last w = way-last next others last w.1

  root : IsGroup rows.groups sys1.id
  root =
      let u = any-with (λ v. (p : ℕ) × (first_broken (user_facts rows p v) ≡ None)) rows.users held.special held.users in
      let w = upwards u.0.default_group (default-there u.0 u.1.0 u.1.1) in
      way-last u.0.default_group w.others sys1.id w.way

  pub tree : IsTree rows.groups
  tree = record { distinct = distinct-groups rows stored.fields; most = few-groups rows stored.fields; root = root; root_alone = root-alone; upwards = upwards }
