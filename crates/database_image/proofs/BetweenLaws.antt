-- Facts of one group and of one user, by what is kept of the groups.
use Rattle.std.proofs.Common.{◌≡◌, ℕ, suc, zero, ◌+◌, ◌*◌, ◌<◌, ◌≤◌, Bool, true, false, List, [], ◌∷◌, ◌++◌, length, map, get_or, Option, Some, None, is_some, refl, sym, ap, ◌∙◌, arith}
use Rattle.std.specs.Prelude.{not, ◌&&◌, ◌||◌, cond, nat_lt, find, bytes_eq, if◌then◌else◌}
use Rattle.std.specs.List.{IsDistinct, AllByRecursion, list_any, slice_get}
use Rattle.std.specs.Option.{option_map, option_map_or, option_and_then, option_eq}
use Rattle.std.proofs.lemmas.List.{length-map}
use Rattle.std.proofs.lemmas.Map.Keys.{IsDistinct-head, IsDistinct-tail}
use Rattle.racf_profiles.specs.declared.groups.Group.{Group}
use Rattle.racf_profiles.specs.declared.users.User.{User}
use Rattle.racf_profiles.specs.declared.class_rows.ClassRow.{ClassRow}
use Rattle.racf_profiles.specs.declared.profiles.Profile.{Profile}
use Rattle.racf_profiles.specs.declared.rows.Rows.{Rows}
use Rattle.racf_profiles.specs.DynamicClasses.{cdt, general, facts_in}
use Rattle.racf_profiles.specs.LawfulProfiles.{names_of}
use Rattle.racf_profiles.specs.Lookup.{find_group, profile_of}
use Rattle.racf_profiles.specs.Names.{is_connected_to, is_special_user}
use Rattle.racf_profiles.proofs.Named.{itself}
use Rattle.database_image.specs.Fields.{is_new}
use Rattle.database_image.specs.Description.{fixed_names, is_class_at}
use Rattle.database_image.specs.Facts.{Fact, told, told_of_each, first_broken, class_id_width, connect_width, class_id_facts, connect_facts, group_facts, user_facts, is_superior_in, is_there, user_width, class_width, class_facts, users_place, classes_place, later_facts, profile_width, name_facts, dynamic_facts}
use Rattle.database_image.specs.Ways.{above, is_reached}
use Rattle.database_image.proofs.Climbs.{reached-is-below}
use Rattle.database_image.proofs.Told.{none-first, some-first, one-broken, one-holds}

-- ---- a group by its own name
named_at : (P : List ℕ → Type 0) (groups : List Group) (i : ℕ) (d : Group) → AllByRecursion P (map (λ (g : Group). g.id) groups) → i < length groups → P (get_or groups i d).id
named_at P [] i d all lt = let no : ⊥ = omega arith in absurd no
named_at P (g ∷ gs) zero d all lt = all.0
named_at P (g ∷ gs) (suc i) d all lt = named_at P gs i d all.1 (omega arith)

found_at : (groups : List Group) (i : ℕ) (d : Group) → IsDistinct bytes_eq (map (λ (g : Group). g.id) groups) → i < length groups → find_group groups (get_or groups i d).id ≡ Some (get_or groups i d)
found_at [] i d distinct lt = let no : ⊥ = omega arith in absurd no
found_at (g ∷ gs) zero d distinct lt = ap (λ b. cond b (Some g) (find_group gs g.id)) (itself g.id)
found_at (g ∷ gs) (suc i) d distinct lt =
    let other : bytes_eq g.id (get_or gs i d).id ≡ false = named_at (λ y. bytes_eq g.id y ≡ false) gs i d (IsDistinct-head bytes_eq g.id (map (λ (h : Group). h.id) gs) distinct) (omega arith) in
    ap (λ b. cond b (Some g) (find_group gs (get_or gs i d).id)) other
    ∙ found_at gs i d (IsDistinct-tail bytes_eq g.id (map (λ (h : Group). h.id) gs) distinct) (omega arith)

pub found-itself : (groups : List Group) (i : ℕ) (group : Group) → IsDistinct bytes_eq (map (λ (g : Group). g.id) groups) → i < length groups → group ≡ get_or groups i group → find_group groups group.id ≡ Some group
found-itself groups i group distinct lt is = ap (λ (g : Group). find_group groups g.id) is ∙ found_at groups i group distinct lt ∙ ap (λ (g : Group). Some g) (sym is)

-- ---- what the index says
is_some-map : {A B : Type 0} (f : A → B) (o : Option A) → is_some (option_map f o) ≡ is_some o
is_some-map f None = refl
is_some-map f (Some x) = refl

pub there-by : (groups : List Group) (id : List ℕ) (found : Option (Option (List ℕ))) → found ≡ option_map (λ (row : Group). row.superior) (find_group groups id) → is_some found ≡ is_some (find_group groups id)
there-by groups id found h = ap is_some h ∙ is_some-map (λ (row : Group). row.superior) (find_group groups id)

-- ---- a group
pub superior-holds : (groups : List Group) (group : Group) (superior : List ℕ) (there below : Bool) → length groups ≤ 8192 → find_group groups group.id ≡ Some group → group.superior ≡ Some superior
    → there ≡ is_some (find_group groups superior) → below ≡ is_reached 8192 groups group.id → (there && not below) ≡ is_superior_in groups group superior
superior-holds groups group superior there below few found up t b =
    let step : above groups group.id ≡ Some superior = ap (option_and_then (λ (row : Group). row.superior)) found ∙ up in
    ap (λ x. x && not below) t ∙ ap (λ x. is_some (find_group groups superior) && not x) (b ∙ reached-is-below groups 8192 group.id superior few step)

pub no-superior : (rows : Rows) (place : ℕ) (group : Group) → group.superior ≡ None → None ≡ first_broken (group_facts rows place group)
no-superior rows place group h = sym (ap (λ (o : Option (List ℕ)). first_broken (option_map_or (λ superior. told (place + 8) (is_superior_in rows.groups group superior) ∷ []) o [])) h)

one-told : (place : ℕ) (holds : Bool) → (if holds then None else Some place) ≡ first_broken (told place holds ∷ [])
one-told place true = refl
one-told place false = refl

pub some-superior : (rows : Rows) (place : ℕ) (group : Group) (superior : List ℕ) (holds : Bool) → group.superior ≡ Some superior → holds ≡ is_superior_in rows.groups group superior
    → (if holds then None else Some (place + 8)) ≡ first_broken (group_facts rows place group)
some-superior rows place group superior holds up e =
    one-told (place + 8) holds ∙ ap (λ b. first_broken (told (place + 8) b ∷ [])) e
    ∙ sym (ap (λ (o : Option (List ℕ)). first_broken (option_map_or (λ s. told (place + 8) (is_superior_in rows.groups group s) ∷ []) o [])) up)

-- ---- a user
module _ (rows : Rows) (place : ℕ) (user : User) where
  abbrev pub classes_told : List Fact
  classes_told = told_of_each class_id_width (class_id_facts rows) (place + 68 + length user.name) user.classes

  abbrev pub connects_told : List Fact
  connects_told = told_of_each connect_width (connect_facts rows) (place + 70 + length user.name + 8 * length user.classes) user.connects

  abbrev default_told : Bool
  default_told = is_there rows user.default_group && is_connected_to user.default_group user

  pub taken : is_there rows user.id ≡ true → Some place ≡ first_broken (user_facts rows place user)
  taken h = sym (one-broken place (not (is_there rows user.id)) (told (place + 8) default_told ∷ (classes_told ++ connects_told)) (ap not h))

  past-name : is_there rows user.id ≡ false → first_broken (user_facts rows place user) ≡ first_broken (told (place + 8) default_told ∷ (classes_told ++ connects_told))
  past-name h = one-holds place (not (is_there rows user.id)) (told (place + 8) default_told ∷ (classes_told ++ connects_told)) (ap not h)

  pub no-default : is_there rows user.id ≡ false → default_told ≡ false → Some (place + 8) ≡ first_broken (user_facts rows place user)
  no-default h d = sym (past-name h ∙ one-broken (place + 8) default_told (classes_told ++ connects_told) d)

  past-default : is_there rows user.id ≡ false → default_told ≡ true → first_broken (user_facts rows place user) ≡ first_broken (classes_told ++ connects_told)
  past-default h d = past-name h ∙ one-holds (place + 8) default_told (classes_told ++ connects_told) d

  pub other-class : is_there rows user.id ≡ false → default_told ≡ true → is_some (first_broken classes_told) ≡ true → first_broken classes_told ≡ first_broken (user_facts rows place user)
  other-class h d c = some-first classes_told connects_told c ∙ sym (past-default h d)

  pub last-connects : is_there rows user.id ≡ false → default_told ≡ true → first_broken classes_told ≡ None → first_broken connects_told ≡ first_broken (user_facts rows place user)
  last-connects h d c = sym (past-default h d ∙ none-first classes_told connects_told c)

-- ---- users and classes
module _ (rows : Rows) where
  abbrev pub users_told : List Fact
  users_told = told_of_each user_width (user_facts rows) (users_place rows + 4) rows.users

  abbrev pub classes_of_told : List Fact
  classes_of_told = told_of_each class_width (class_facts rows) (classes_place rows) rows.classes

  pub later-user : list_any is_special_user rows.users ≡ true → is_some (first_broken users_told) ≡ true → first_broken users_told ≡ first_broken (later_facts rows)
  later-user special u = some-first users_told classes_of_told u ∙ sym (one-holds (users_place rows) (list_any is_special_user rows.users) (users_told ++ classes_of_told) special)

  pub later-class : list_any is_special_user rows.users ≡ true → first_broken users_told ≡ None → first_broken classes_of_told ≡ first_broken (later_facts rows)
  later-class special none = sym (one-holds (users_place rows) (list_any is_special_user rows.users) (users_told ++ classes_of_told) special ∙ none-first users_told classes_of_told none)

-- ---- what is found in a list
pub any-found : {A : Type 0} (p : A → Bool) (items : List A) → list_any p items ≡ is_some (find p items)
any-found p [] = refl
any-found p (x ∷ items) = by (p x) (any-found p items)
  where
    by : (b : Bool) → list_any p items ≡ is_some (find p items) → (b || list_any p items) ≡ is_some (cond b (Some x) (find p items))
    by true h = refl
    by false h = h

-- ---- classes by their names, and the facts of a dynamic one
pub any-named : (name : List ℕ) (classes : List ClassRow) → list_any (λ (class : ClassRow). bytes_eq name class.name) classes ≡ list_any (bytes_eq name) (names_of classes)
any-named name [] = refl
any-named name (c ∷ classes) = ap (λ b. bytes_eq name c.name || b) (any-named name classes)

count-of : (classes : List ClassRow) → length (names_of classes) ≡ length classes
count-of classes = length-map classes (λ (class : ClassRow). class.name)

-- the name at a place, by the count of the classes before
abbrev at_count : (before : List ClassRow) (name : List ℕ) → ℕ → Bool
at_count before name n = if nat_lt n 15 then option_eq bytes_eq (slice_get fixed_names n) (Some name) else is_new (names_of before) name

abbrev by_test : (before : List ClassRow) (name : List ℕ) → Bool → Bool
by_test before name b = if b then option_eq bytes_eq (slice_get fixed_names (length before)) (Some name) else is_new (names_of before) name

pub named-fixed : (before : List ClassRow) (name : List ℕ) → nat_lt (length before) 15 ≡ true → option_eq bytes_eq (slice_get fixed_names (length before)) (Some name) ≡ is_class_at (names_of before) name
named-fixed before name h = sym (ap (at_count before name) (count-of before) ∙ ap (by_test before name) h)

pub named-new : (before : List ClassRow) (name : List ℕ) → nat_lt (length before) 15 ≡ false → is_new (names_of before) name ≡ is_class_at (names_of before) name
named-new before name h = sym (ap (at_count before name) (count-of before) ∙ ap (by_test before name) h)

pub undefined-first : (rows : Rows) (place : ℕ) (class : ClassRow) → is_some (profile_of cdt (general class.name) rows) ≡ false → Some place ≡ first_broken (dynamic_facts rows place class)
undefined-first rows place class h = sym (ap (λ b. first_broken (told place b ∷ told_of_each profile_width (name_facts rows (facts_in class.name rows)) (place + 14) class.profiles)) h)

pub names-behind : (rows : Rows) (place : ℕ) (class : ClassRow) (profiles : List Profile) → profiles ≡ class.profiles → is_some (profile_of cdt (general class.name) rows) ≡ true
    → first_broken (told_of_each profile_width (name_facts rows (facts_in class.name rows)) (place + 14) profiles) ≡ first_broken (dynamic_facts rows place class)
names-behind rows place class profiles e h =
    ap (λ (ps : List Profile). first_broken (told_of_each profile_width (name_facts rows (facts_in class.name rows)) (place + 14) ps)) e
    ∙ sym (ap (λ b. first_broken (told place b ∷ told_of_each profile_width (name_facts rows (facts_in class.name rows)) (place + 14) class.profiles)) h)
