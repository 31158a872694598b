-- Which classes have listed copies, after a restart and after edits.
use Rattle.std.proofs.Common.{◌≡◌, ℕ, Bool, true, false, cond, not, ◌&&◌, List, [], ◌∷◌, ◌++◌, map, Option, Some, None, is_some, bytes_eq, refl, sym, ◌∙◌, ap, ⊎_elim}
use Rattle.std.specs.List.{find, filter, list_all}
use Rattle.std.specs.Option.{option_map_or}
use Rattle.std.proofs.lemmas.Bool.{cases_Bool, and_parts, not-true}
use Rattle.racf_profiles.specs.declared.class_rows.ClassRow.{ClassRow}
use Rattle.racf_profiles.specs.declared.rows.Rows.{Rows}
use Rattle.racf_profiles.specs.declared.edits.Edit.{Edit}
use Rattle.racf_profiles.specs.declared.edits.Edit.TheVariants.{PutUser, DropUser, PutGroup, DropGroup, PutProfile, DropProfile, PutOptions, PutClass, List as ListCopy, Unlist, AddClass, DropClass}
use Rattle.racf_profiles.specs.Lookup.{is_class, class_of}
use Rattle.racf_profiles.specs.Edits.{put_row, drop_row, at_class, with_profile, without_profile, with_flags, with_listed, added_class, without_class, edited, changed}
use Rattle.racf_profiles.specs.State.{State, ListedCopy, HaveCopies, is_copy_of, copy_of_class, is_none_listed, is_of_copies, restart, edited_state, changed_state}
use Rattle.racf_profiles.proofs.Found.{find-miss}
use Rattle.racf_profiles.proofs.EditLaws.{put_row-found, put_row-others, at_class-absent, without_class-own, without_class-others, without_class-absent}
use Rattle.racf_profiles.proofs.States.{find-passes, copies_of, copies_of-others, copies_of-listed, at_class-hit, at_class-miss, at_class-found, listed_in, listed_in-hit, listed_in-miss, edit-listed, edit-copies}
use Rattle.racf_profiles.proofs.Named.{same, itself}

-- ---- a restart
pub restart-copied : (name : List ℕ) (classes : List ClassRow) → listed_in name classes ≡ true → is_some (find (is_copy_of name) (copies_of classes)) ≡ true
restart-copied name [] listed = cc
restart-copied name (class ∷ classes) listed = ⊎_elim
    (λ (hit : is_class name class ≡ true). ap is_some (copies_of-listed name class classes hit (sym (listed_in-hit name class classes hit) ∙ listed)))
    (λ (miss : is_class name class ≡ false). ap is_some (copies_of-others name class classes miss) ∙ restart-copied name classes (sym (listed_in-miss name class classes miss) ∙ listed))
    (cases_Bool (is_class name class))

-- ---- listing and unlisting a class
-- Another class is listed as before.
at_class-elsewhere : (name other : List ℕ) (change : ClassRow → ClassRow) (classes : List ClassRow) → ((class : ClassRow) → is_class name (change class) ≡ is_class name class) → bytes_eq other name ≡ false
    → listed_in name (at_class other change classes) ≡ listed_in name classes
at_class-elsewhere name other change [] keeps differ = refl
at_class-elsewhere name other change (class ∷ classes) keeps differ = ⊎_elim
    (λ (there : is_class other class ≡ true).
    let apart : is_class name class ≡ false = ap (λ n. bytes_eq n name) (same class.name other there) ∙ differ in
    ap (listed_in name) (at_class-hit other change class classes there) ∙ listed_in-miss name (change class) classes (keeps class ∙ apart) ∙ sym (listed_in-miss name class classes apart))
    (λ (elsewhere : is_class other class ≡ false). ap (listed_in name) (at_class-miss other change class classes elsewhere) ∙ ⊎_elim
    (λ (hit : is_class name class ≡ true). listed_in-hit name class (at_class other change classes) hit ∙ sym (listed_in-hit name class classes hit))
    (λ (miss : is_class name class ≡ false). listed_in-miss name class (at_class other change classes) miss ∙ at_class-elsewhere name other change classes keeps differ ∙ sym (listed_in-miss name class classes miss))
    (cases_Bool (is_class name class)))
    (cases_Bool (is_class other class))

-- A row that is dropped isn't among those that another test finds.
drop_row-others : {X : Type 0} (p q : X → Bool) (xs : List X) → ((y : X) → p y ≡ true → q y ≡ false) → find q (drop_row p xs) ≡ find q xs
drop_row-others p q [] apart = refl
drop_row-others p q (y ∷ ys) apart = ⊎_elim
    (λ (hit : p y ≡ true). ap (λ b. find q (cond b ys (y ∷ drop_row p ys))) hit ∙ sym (find-miss q y ys (apart y hit)))
    (λ (miss : p y ≡ false). ap (λ b. find q (cond b ys (y ∷ drop_row p ys))) miss ∙ ap (λ o. cond (q y) (Some y) o) (drop_row-others p q ys apart))
    (cases_Bool (p y))

module _ (name other : List ℕ) (copies : List ListedCopy) where
  apart-copies : bytes_eq other name ≡ false → (copy : ListedCopy) → is_copy_of other copy ≡ true → is_copy_of name copy ≡ false
  apart-copies differ copy h = ap (λ n. bytes_eq n name) (same copy.class other h) ∙ differ

  -- with the copy of a class, each class has one that had one, and so has that class
  put-copied : (copy : ListedCopy) → copy.class ≡ other → ((differ : bytes_eq other name ≡ false) → is_some (find (is_copy_of name) copies) ≡ true)
      → is_some (find (is_copy_of name) (put_row (is_copy_of other) copy copies)) ≡ true
  put-copied copy named before = ⊎_elim
      (λ (own : bytes_eq other name ≡ true).
      let one : other ≡ name = same other name own in
      ap (λ n. is_some (find (is_copy_of n) (put_row (is_copy_of other) copy copies))) (sym one)
      ∙ ap is_some (put_row-found (is_copy_of other) copy copies (ap (λ n. bytes_eq n other) named ∙ itself other)))
      (λ (differ : bytes_eq other name ≡ false).
      ap is_some (put_row-others (is_copy_of other) (is_copy_of name) copy copies (ap (λ n. bytes_eq n name) named ∙ differ) (apart-copies differ)) ∙ before differ)
      (cases_Bool (bytes_eq other name))

  dropped-copied : bytes_eq other name ≡ false → is_some (find (is_copy_of name) copies) ≡ true → is_some (find (is_copy_of name) (drop_row (is_copy_of other) copies)) ≡ true
  dropped-copied differ before = ap is_some (drop_row-others (is_copy_of other) (is_copy_of name) copies (apart-copies differ)) ∙ before

-- ---- each edit
other-copied : (edit : Edit) (state : State) → is_of_copies edit ≡ false → HaveCopies state → HaveCopies (edited_state edit state)
other-copied edit state other have name listed =
    ap (λ copies. is_some (find (is_copy_of name) copies)) (edit-copies edit state other) ∙ have name (sym (edit-listed name edit state.rows other) ∙ listed)

module _ (class : List ℕ) (state : State) (have : HaveCopies state) (name : List ℕ) where
  abbrev classes : List ClassRow
  classes = state.rows.classes

  listed-copied : (o : Option ClassRow) → class_of class state.rows ≡ o → listed_in name (at_class class (with_listed true) classes) ≡ true
      → is_some (find (is_copy_of name) (option_map_or (λ (row : ClassRow). put_row (is_copy_of class) (copy_of_class row) state.copies) o state.copies)) ≡ true
  listed-copied None absent listed = have name (sym (ap (listed_in name) (at_class-absent class (with_listed true) classes absent)) ∙ listed)
  listed-copied (Some row) found listed =
      put-copied name class state.copies (copy_of_class row) (same row.name class (find-passes (is_class class) row classes found))
      (λ differ. have name (sym (at_class-elsewhere name class (with_listed true) classes (λ r. refl) differ) ∙ listed))

  -- a class that was unlisted isn't listed
  unlisted : (row : ClassRow) → class_of class state.rows ≡ Some row → bytes_eq class name ≡ true → listed_in name (at_class class (with_listed false) classes) ≡ false
  unlisted row found own =
      ap (λ n. listed_in n (at_class class (with_listed false) classes)) (sym (same class name own))
      ∙ ap (λ o. option_map_or (λ (r : ClassRow). r.listed) o false) (at_class-found class (with_listed false) row classes (λ r. refl) found)

  unlisted-copied : (o : Option ClassRow) → class_of class state.rows ≡ o → listed_in name (at_class class (with_listed false) classes) ≡ true
      → is_some (find (is_copy_of name) (option_map_or (λ (row : ClassRow). drop_row (is_copy_of class) state.copies) o state.copies)) ≡ true
  unlisted-copied None absent listed = have name (sym (ap (listed_in name) (at_class-absent class (with_listed false) classes absent)) ∙ listed)
  unlisted-copied (Some row) found listed = ⊎_elim
      (λ (own : bytes_eq class name ≡ true). let no : true ≡ false = sym listed ∙ unlisted row found own in cc)
      (λ (differ : bytes_eq class name ≡ false). dropped-copied name class state.copies differ
      (have name (sym (at_class-elsewhere name class (with_listed false) classes (λ r. refl) differ) ∙ listed)))
      (cases_Bool (bytes_eq class name))

  dropped_class-copied : (o : Option ClassRow) → class_of class state.rows ≡ o → listed_in name (without_class class classes) ≡ true
      → is_some (find (is_copy_of name) (option_map_or (λ (row : ClassRow). drop_row (is_copy_of class) state.copies) o state.copies)) ≡ true
  dropped_class-copied None absent listed = have name (sym (ap (listed_in name) (without_class-absent class classes absent)) ∙ listed)
  dropped_class-copied (Some row) found listed = ⊎_elim
      (λ (own : bytes_eq class name ≡ true).
      let none : listed_in name (without_class class classes) ≡ false =
      ap (λ n. listed_in name (without_class n classes)) (same class name own) ∙ ap (λ o. option_map_or (λ (r : ClassRow). r.listed) o false) (without_class-own name classes) in
      let no : true ≡ false = sym listed ∙ none in cc)
      (λ (differ : bytes_eq class name ≡ false). dropped-copied name class state.copies differ
      (have name (sym (ap (λ o. option_map_or (λ (r : ClassRow). r.listed) o false) (without_class-others class name classes differ)) ∙ listed)))
      (cases_Bool (bytes_eq class name))

pub edit-copied : (edit : Edit) (state : State) → HaveCopies state → HaveCopies (edited_state edit state)
edit-copied (PutUser user) state have = other-copied (PutUser user) state refl have
edit-copied (DropUser id) state have = other-copied (DropUser id) state refl have
edit-copied (PutGroup group) state have = other-copied (PutGroup group) state refl have
edit-copied (DropGroup id) state have = other-copied (DropGroup id) state refl have
edit-copied (PutProfile class profile) state have = other-copied (PutProfile class profile) state refl have
edit-copied (DropProfile class profile) state have = other-copied (DropProfile class profile) state refl have
edit-copied (PutOptions options) state have = other-copied (PutOptions options) state refl have
edit-copied (PutClass class active global log) state have = other-copied (PutClass class active global log) state refl have
edit-copied (ListCopy class) state have = λ name listed. listed-copied class state have name (class_of class state.rows) refl listed
edit-copied (Unlist class) state have = λ name listed. unlisted-copied class state have name (class_of class state.rows) refl listed
edit-copied (AddClass class) state have = other-copied (AddClass class) state refl have
edit-copied (DropClass class) state have = λ name listed. dropped_class-copied class state have name (class_of class state.rows) refl listed

-- ---- no class is listed
abbrev none_in : List ClassRow → Bool
none_in classes = list_all (λ (class : ClassRow). not class.listed) classes

none-copies : (classes : List ClassRow) → none_in classes ≡ true → copies_of classes ≡ []
none-copies [] none = refl
none-copies (class ∷ classes) none =
    ap (λ b. map copy_of_class (cond b (class ∷ filter (λ (c : ClassRow). c.listed) classes) (filter (λ (c : ClassRow). c.listed) classes))) (not-true class.listed (and_parts (not class.listed) (none_in classes) none).0)
    ∙ none-copies classes (and_parts (not class.listed) (none_in classes) none).1

none-at_class : (name : List ℕ) (change : ClassRow → ClassRow) (classes : List ClassRow) → ((class : ClassRow) → (change class).listed ≡ class.listed) → none_in (at_class name change classes) ≡ none_in classes
none-at_class name change [] keeps = refl
none-at_class name change (class ∷ classes) keeps = ⊎_elim
    (λ (hit : is_class name class ≡ true). ap none_in (at_class-hit name change class classes hit) ∙ ap (λ b. not b && none_in classes) (keeps class))
    (λ (miss : is_class name class ≡ false). ap none_in (at_class-miss name change class classes miss) ∙ ap (λ b. not class.listed && b) (none-at_class name change classes keeps))
    (cases_Bool (is_class name class))

none-added : (class : List ℕ) (classes : List ClassRow) → none_in (classes ++ added_class class ∷ []) ≡ none_in classes
none-added class [] = refl
none-added class (row ∷ classes) = ap (λ b. not row.listed && b) (none-added class classes)

edit-none : (edit : Edit) (rows : Rows) → is_of_copies edit ≡ false → is_none_listed (edited edit rows) ≡ is_none_listed rows
edit-none (PutUser user) rows other = refl
edit-none (DropUser id) rows other = refl
edit-none (PutGroup group) rows other = refl
edit-none (DropGroup id) rows other = refl
edit-none (PutProfile class profile) rows other = none-at_class class (with_profile profile) rows.classes (λ row. refl)
edit-none (DropProfile class profile) rows other = none-at_class class (without_profile profile) rows.classes (λ row. refl)
edit-none (PutOptions options) rows other = refl
edit-none (PutClass class active global log) rows other = none-at_class class (with_flags active global log) rows.classes (λ row. refl)
edit-none (ListCopy class) rows other = cc
edit-none (Unlist class) rows other = cc
edit-none (AddClass class) rows other = none-added class rows.classes
edit-none (DropClass class) rows other = cc

abbrev others : List Edit → Bool
others edits = list_all (λ (edit : Edit). not (is_of_copies edit)) edits

pub changed-none : (edits : List Edit) (rows : Rows) → is_none_listed rows ≡ true → others edits ≡ true → is_none_listed (changed edits rows) ≡ true
changed-none [] rows none all = none
changed-none (edit ∷ edits) rows none all =
    changed-none edits (edited edit rows) (edit-none edit rows (not-true (is_of_copies edit) (and_parts (not (is_of_copies edit)) (others edits) all).0) ∙ none) (and_parts (not (is_of_copies edit)) (others edits) all).1

with_copies : (rows : Rows) (a b : List ListedCopy) → a ≡ b → let x : State = record { rows = rows; copies = a } in let y : State = record { rows = rows; copies = b } in x ≡ y
with_copies rows a b e = ap (λ copies. let s : State = record { rows = rows; copies = copies } in s) e

edit-restart : (edit : Edit) (rows : Rows) → is_of_copies edit ≡ false → is_none_listed rows ≡ true → edited_state edit (restart rows) ≡ restart (edited edit rows)
edit-restart edit rows other none =
    with_copies (edited edit rows) (edited_state edit (restart rows)).copies (copies_of (edited edit rows).classes)
    (edit-copies edit (restart rows) other ∙ none-copies rows.classes none ∙ sym (none-copies (edited edit rows).classes (edit-none edit rows other ∙ none)))

pub changed-restart : (edits : List Edit) (rows : Rows) → is_none_listed rows ≡ true → others edits ≡ true → changed_state edits (restart rows) ≡ restart (changed edits rows)
changed-restart [] rows none all = refl
changed-restart (edit ∷ edits) rows none all =
    let other = not-true (is_of_copies edit) (and_parts (not (is_of_copies edit)) (others edits) all).0 in
    ap (changed_state edits) (edit-restart edit rows other none)
    ∙ changed-restart edits (edited edit rows) (edit-none edit rows other ∙ none) (and_parts (not (is_of_copies edit)) (others edits) all).1

-- ---- the rows of a state
pub changed-rows : (edits : List Edit) (state : State) → (changed_state edits state).rows ≡ changed edits state.rows
changed-rows [] state = refl
changed-rows (edit ∷ edits) state = changed-rows edits (edited_state edit state)
