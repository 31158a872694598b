-- What listed copies are after a restart and after edits.
use Rattle.std.proofs.Common.{◌≡◌, ◌↔◌, ℕ, Bool, true, false, cond, not, List, [], ◌∷◌, ◌++◌, map, Option, Some, None, IsSome, option_map, refl, sym, ◌∙◌, ap, ⊎_elim}
use Rattle.std.specs.List.{find, filter, list_all}
use Rattle.std.specs.Option.{option_map_or}
use Rattle.std.proofs.lemmas.Bool.{cases_Bool, and_parts, not-true}
use Rattle.racf_profiles.specs.declared.profiles.Profile.{Profile}
use Rattle.racf_profiles.specs.declared.class_rows.ClassRow.{ClassRow}
use Rattle.racf_profiles.specs.declared.rows.Rows.{Rows}
use Rattle.racf_profiles.specs.declared.edits.Edit.{Edit}
use Rattle.racf_profiles.specs.declared.edits.Edit.TheVariants.{PutUser, DropUser, PutGroup, DropGroup, PutProfile, DropProfile, PutOptions, PutClass, List as ListCopy, Unlist, AddClass, DropClass}
use Rattle.racf_profiles.specs.Lookup.{is_class, class_of}
use Rattle.racf_profiles.specs.Edits.{put_row, at_class, with_profile, without_profile, with_flags, with_listed, added_class, edited}
use Rattle.racf_profiles.specs.State.{State, ListedCopy, is_copy_of, copy_of_class, copy_of, effective, is_listed, is_of_copies, edited_state, changed_state}
use Rattle.racf_profiles.proofs.Found.{find-hit, find-miss}
use Rattle.racf_profiles.proofs.EditLaws.{put_row-found}
use Rattle.racf_profiles.proofs.Named.{same}

-- What is found passes the test.
pub find-passes : {X : Type 0} (p : X → Bool) (x : X) (xs : List X) → find p xs ≡ Some x → p x ≡ true
find-passes p x [] found = cc
find-passes p x (y ∷ ys) found = ⊎_elim
    (λ (hit : p y ≡ true). let some : Some y ≡ Some x = sym (find-hit p y ys hit) ∙ found in let same : y ≡ x = cc in sym (ap p same) ∙ hit)
    (λ (miss : p y ≡ false). find-passes p x ys (sym (find-miss p y ys miss) ∙ found))
    (cases_Bool (p y))

-- A class that is found has the name that was sought.
pub same_class : (name : List ℕ) (row : ClassRow) (rows : List ClassRow) → find (is_class name) rows ≡ Some row → row.name ≡ name
same_class name row rows found = same row.name name (find-passes (is_class name) row rows found)

-- The copies that a restart makes.
abbrev pub copies_of : List ClassRow → List ListedCopy
copies_of classes = map copy_of_class (filter (λ (class : ClassRow). class.listed) classes)

filter-hit : {X : Type 0} (p : X → Bool) (x : X) (xs : List X) → p x ≡ true → filter p (x ∷ xs) ≡ x ∷ filter p xs
filter-hit p x xs hit = ap (λ b. cond b (x ∷ filter p xs) (filter p xs)) hit

filter-miss : {X : Type 0} (p : X → Bool) (x : X) (xs : List X) → p x ≡ false → filter p (x ∷ xs) ≡ filter p xs
filter-miss p x xs miss = ap (λ b. cond b (x ∷ filter p xs) (filter p xs)) miss

-- Of a class that isn't sought there may be a copy or none.
pub copies_of-others : (name : List ℕ) (class : ClassRow) (classes : List ClassRow) → is_class name class ≡ false → find (is_copy_of name) (copies_of (class ∷ classes)) ≡ find (is_copy_of name) (copies_of classes)
copies_of-others name class classes miss = ⊎_elim
    (λ (kept : class.listed ≡ true). ap (λ rows. find (is_copy_of name) (map copy_of_class rows)) (filter-hit (λ (c : ClassRow). c.listed) class classes kept)
    ∙ find-miss (is_copy_of name) (copy_of_class class) (copies_of classes) miss)
    (λ (left : class.listed ≡ false). ap (λ rows. find (is_copy_of name) (map copy_of_class rows)) (filter-miss (λ (c : ClassRow). c.listed) class classes left))
    (cases_Bool class.listed)

pub copies_of-listed : (name : List ℕ) (class : ClassRow) (classes : List ClassRow) → is_class name class ≡ true → class.listed ≡ true → find (is_copy_of name) (copies_of (class ∷ classes)) ≡ Some (copy_of_class class)
copies_of-listed name class classes hit kept =
    ap (λ rows. find (is_copy_of name) (map copy_of_class rows)) (filter-hit (λ (c : ClassRow). c.listed) class classes kept)
    ∙ find-hit (is_copy_of name) (copy_of_class class) (copies_of classes) hit

-- The effective profiles in classes and copies.
abbrev effective_in : List ℕ → List ClassRow → List ListedCopy → Option (List Profile)
effective_in name classes copies = option_map (λ (class : ClassRow). cond class.listed (copy_of name copies) class.profiles) (find (is_class name) classes)

abbrev live_in : List ℕ → List ClassRow → Option (List Profile)
live_in name classes = option_map (λ (class : ClassRow). class.profiles) (find (is_class name) classes)

abbrev profiles_in : Option ListedCopy → List Profile
profiles_in copy = option_map_or (λ (c : ListedCopy). c.profiles) copy []

pub effective_in-live : (name : List ℕ) (classes : List ClassRow) → effective_in name classes (copies_of classes) ≡ live_in name classes
effective_in-live name [] = refl
effective_in-live name (class ∷ classes) = ⊎_elim
    (λ (hit : is_class name class ≡ true).
    ap (λ o. option_map (λ (c : ClassRow). cond c.listed (copy_of name (copies_of (class ∷ classes))) c.profiles) o) (find-hit (is_class name) class classes hit)
    ∙ ⊎_elim
    (λ (kept : class.listed ≡ true). ap (λ b. Some (cond b (copy_of name (copies_of (class ∷ classes))) class.profiles)) kept ∙ ap (λ o. Some (profiles_in o)) (copies_of-listed name class classes hit kept))
    (λ (left : class.listed ≡ false). ap (λ b. Some (cond b (copy_of name (copies_of (class ∷ classes))) class.profiles)) left)
    (cases_Bool class.listed)
    ∙ sym (ap (λ o. option_map (λ (c : ClassRow). c.profiles) o) (find-hit (is_class name) class classes hit)))
    (λ (miss : is_class name class ≡ false).
    ap (λ o. option_map (λ (c : ClassRow). cond c.listed (copy_of name (copies_of (class ∷ classes))) c.profiles) o) (find-miss (is_class name) class classes miss)
    ∙ ap (λ o. option_map (λ (c : ClassRow). cond c.listed (profiles_in o) c.profiles) (find (is_class name) classes)) (copies_of-others name class classes miss)
    ∙ effective_in-live name classes
    ∙ sym (ap (λ o. option_map (λ (c : ClassRow). c.profiles) o) (find-miss (is_class name) class classes miss)))
    (cases_Bool (is_class name class))

-- A class of the name, changed by what keeps names.
pub at_class-hit : (name : List ℕ) (change : ClassRow → ClassRow) (class : ClassRow) (classes : List ClassRow) → is_class name class ≡ true → at_class name change (class ∷ classes) ≡ change class ∷ classes
at_class-hit name change class classes hit = ap (λ b. cond b (change class ∷ classes) (class ∷ at_class name change classes)) hit

pub at_class-miss : (name : List ℕ) (change : ClassRow → ClassRow) (class : ClassRow) (classes : List ClassRow) → is_class name class ≡ false → at_class name change (class ∷ classes) ≡ class ∷ at_class name change classes
at_class-miss name change class classes miss = ap (λ b. cond b (change class ∷ classes) (class ∷ at_class name change classes)) miss

pub at_class-found : (name : List ℕ) (change : ClassRow → ClassRow) (row : ClassRow) (classes : List ClassRow) → ((class : ClassRow) → is_class name (change class) ≡ is_class name class)
    → find (is_class name) classes ≡ Some row → find (is_class name) (at_class name change classes) ≡ Some (change row)
at_class-found name change row [] keeps found = cc
at_class-found name change row (class ∷ classes) keeps found = ⊎_elim
    (λ (hit : is_class name class ≡ true).
    let some : Some class ≡ Some row = sym (find-hit (is_class name) class classes hit) ∙ found in
    let same : class ≡ row = cc in
    ap (find (is_class name)) (at_class-hit name change class classes hit) ∙ find-hit (is_class name) (change class) classes (keeps class ∙ hit) ∙ ap (λ (c : ClassRow). Some (change c)) same)
    (λ (miss : is_class name class ≡ false).
    ap (find (is_class name)) (at_class-miss name change class classes miss) ∙ find-miss (is_class name) class (at_class name change classes) miss
    ∙ at_class-found name change row classes keeps (sym (find-miss (is_class name) class classes miss) ∙ found))
    (cases_Bool (is_class name class))

-- A class that is listed has its live profiles as its copy.
pub effective-listed : (name : List ℕ) (row : ClassRow) (state : State) → class_of name state.rows ≡ Some row → effective name (edited_state (ListCopy name) state) ≡ Some row.profiles
effective-listed name row state found =
    ap (λ o. option_map (λ (class : ClassRow). cond class.listed (copy_of name (edited_state (ListCopy name) state).copies) class.profiles) o) (at_class-found name (with_listed true) row state.rows.classes (λ class. refl) found)
    ∙ ap (λ o. Some (copy_of name (option_map_or (λ (class : ClassRow). put_row (is_copy_of name) (copy_of_class class) state.copies) o state.copies))) found
    ∙ ap (λ o. Some (profiles_in o)) (put_row-found (is_copy_of name) (copy_of_class row) state.copies (find-passes (is_class name) row state.rows.classes found))

-- Whether a class is listed, after a change of a class that leaves that.
abbrev pub listed_in : List ℕ → List ClassRow → Bool
listed_in name classes = option_map_or (λ (class : ClassRow). class.listed) (find (is_class name) classes) false

pub listed_in-hit : (name : List ℕ) (class : ClassRow) (classes : List ClassRow) → is_class name class ≡ true → listed_in name (class ∷ classes) ≡ class.listed
listed_in-hit name class classes hit = ap (λ o. option_map_or (λ (c : ClassRow). c.listed) o false) (find-hit (is_class name) class classes hit)

pub listed_in-miss : (name : List ℕ) (class : ClassRow) (classes : List ClassRow) → is_class name class ≡ false → listed_in name (class ∷ classes) ≡ listed_in name classes
listed_in-miss name class classes miss = ap (λ o. option_map_or (λ (c : ClassRow). c.listed) o false) (find-miss (is_class name) class classes miss)

at_class-listed : (name other : List ℕ) (change : ClassRow → ClassRow) (classes : List ClassRow) → ((class : ClassRow) → is_class name (change class) ≡ is_class name class) → ((class : ClassRow) → (change class).listed ≡ class.listed)
    → listed_in name (at_class other change classes) ≡ listed_in name classes
at_class-listed name other change [] names lists = refl
at_class-listed name other change (class ∷ classes) names lists = ⊎_elim
    (λ (there : is_class other class ≡ true). ap (listed_in name) (at_class-hit other change class classes there) ∙ ⊎_elim
    (λ (hit : is_class name class ≡ true). listed_in-hit name (change class) classes (names class ∙ hit) ∙ lists class ∙ sym (listed_in-hit name class classes hit))
    (λ (miss : is_class name class ≡ false). listed_in-miss name (change class) classes (names class ∙ miss) ∙ sym (listed_in-miss name class classes miss))
    (cases_Bool (is_class name class)))
    (λ (elsewhere : is_class other class ≡ false). ap (listed_in name) (at_class-miss other change class classes elsewhere) ∙ ⊎_elim
    (λ (hit : is_class name class ≡ true). listed_in-hit name class (at_class other change classes) hit ∙ sym (listed_in-hit name class classes hit))
    (λ (miss : is_class name class ≡ false). listed_in-miss name class (at_class other change classes) miss ∙ at_class-listed name other change classes names lists ∙ sym (listed_in-miss name class classes miss))
    (cases_Bool (is_class name class)))
    (cases_Bool (is_class other class))

-- A class that is added isn't listed, and the others are as they were.
added-listed : (name class : List ℕ) (classes : List ClassRow) → listed_in name (classes ++ added_class class ∷ []) ≡ listed_in name classes
added-listed name class [] = ⊎_elim
    (λ (hit : is_class name (added_class class) ≡ true). listed_in-hit name (added_class class) [] hit)
    (λ (miss : is_class name (added_class class) ≡ false). listed_in-miss name (added_class class) [] miss)
    (cases_Bool (is_class name (added_class class)))
added-listed name class (row ∷ classes) = ⊎_elim
    (λ (hit : is_class name row ≡ true). listed_in-hit name row (classes ++ added_class class ∷ []) hit ∙ sym (listed_in-hit name row classes hit))
    (λ (miss : is_class name row ≡ false). listed_in-miss name row (classes ++ added_class class ∷ []) miss ∙ added-listed name class classes ∙ sym (listed_in-miss name row classes miss))
    (cases_Bool (is_class name row))

-- A listed class has its copy as its effective profiles.
effective-copy : (name : List ℕ) (found : Option ClassRow) (copy : List Profile) → option_map_or (λ (class : ClassRow). class.listed) found false ≡ true
    → option_map (λ (class : ClassRow). cond class.listed copy class.profiles) found ≡ Some copy
effective-copy name None copy listed = cc
effective-copy name (Some class) copy listed = ap (λ b. Some (cond b copy class.profiles)) listed

-- Other edits leave the copies, and which classes are listed.
pub edit-listed : (name : List ℕ) (edit : Edit) (rows : Rows) → is_of_copies edit ≡ false → is_listed name (edited edit rows) ≡ is_listed name rows
edit-listed name (PutUser user) rows other = refl
edit-listed name (DropUser id) rows other = refl
edit-listed name (PutGroup group) rows other = refl
edit-listed name (DropGroup id) rows other = refl
edit-listed name (PutProfile class profile) rows other = at_class-listed name class (with_profile profile) rows.classes (λ row. refl) (λ row. refl)
edit-listed name (DropProfile class profile) rows other = at_class-listed name class (without_profile profile) rows.classes (λ row. refl) (λ row. refl)
edit-listed name (PutOptions options) rows other = refl
edit-listed name (PutClass class active global log) rows other = at_class-listed name class (with_flags active global log) rows.classes (λ row. refl) (λ row. refl)
edit-listed name (ListCopy class) rows other = cc
edit-listed name (Unlist class) rows other = cc
edit-listed name (AddClass class) rows other = added-listed name class rows.classes
edit-listed name (DropClass class) rows other = cc

pub edit-copies : (edit : Edit) (state : State) → is_of_copies edit ≡ false → (edited_state edit state).copies ≡ state.copies
edit-copies (PutUser user) state other = refl
edit-copies (DropUser id) state other = refl
edit-copies (PutGroup group) state other = refl
edit-copies (DropGroup id) state other = refl
edit-copies (PutProfile class profile) state other = refl
edit-copies (DropProfile class profile) state other = refl
edit-copies (PutOptions options) state other = refl
edit-copies (PutClass class active global log) state other = refl
edit-copies (ListCopy class) state other = cc
edit-copies (Unlist class) state other = cc
edit-copies (AddClass class) state other = refl
edit-copies (DropClass class) state other = cc

pub effective-left : (name : List ℕ) (edits : List Edit) (state : State) → is_listed name state.rows ≡ true → list_all (λ (edit : Edit). not (is_of_copies edit)) edits ≡ true
    → effective name (changed_state edits state) ≡ effective name state
effective-left name [] state listed others = refl
effective-left name (edit ∷ edits) state listed others =
    let other : is_of_copies edit ≡ false = not-true (is_of_copies edit) (and_parts _ _ others).0 in
    let stays : is_listed name (edited edit state.rows) ≡ true = edit-listed name edit state.rows other ∙ listed in
    effective-left name edits (edited_state edit state) stays (and_parts (not (is_of_copies edit)) _ others).1
    ∙ effective-copy name (class_of name (edited edit state.rows)) (copy_of name (edited_state edit state).copies) stays
    ∙ ap (λ copies. Some (copy_of name copies)) (edit-copies edit state other)
    ∙ sym (effective-copy name (class_of name state.rows) (copy_of name state.copies) listed)

-- Each class that is there has effective profiles, and no other.
pub effective-there : (copy : List Profile) (found : Option ClassRow) → IsSome (option_map (λ (class : ClassRow). cond class.listed copy class.profiles) found) ↔ IsSome found
effective-there copy None = (λ h. h, λ h. h)
effective-there copy (Some class) = (λ h. h, λ h. h)
