-- The listed copies behind a command hold no line feed either.
use Rattle.std.proofs.Common.{ℕ, Bool, true, false, cond, List, [], ◌∷◌, ◌++◌, map, Option, None, Some}
use Rattle.std.specs.Prelude.{IfSome}
use Rattle.std.specs.List.{AllByRecursion, filter}
use Rattle.std.specs.Option.{option_map_or}
use Rattle.racf_profiles.specs.declared.class_rows.ClassRow.{ClassRow}
use Rattle.racf_profiles.specs.declared.class_rows.LogOption.{LogOption}
use Rattle.racf_profiles.specs.declared.options.Options.{Options}
use Rattle.racf_profiles.specs.declared.users.User.{User}
use Rattle.racf_profiles.specs.declared.edits.Edit.{Edit}
use Rattle.racf_profiles.specs.declared.edits.Edit.TheVariants.{PutUser, DropProfile, PutOptions, PutClass, List as ListCopy, Unlist, DropClass}
use Rattle.generic_names.specs.Spelled.{Spelled}
use Rattle.racf_profiles.specs.Lookup.{is_user, is_profile, is_class, class_of}
use Rattle.racf_profiles.specs.Edits.{put_row, drop_row, at_class, without_profile, with_flags, with_listed}
use Rattle.racf_profiles.specs.State.{State, ListedCopy, is_copy_of, copy_of_class, edited_state, changed_state}
use Rattle.racf_profiles.proofs.EditLaws.{all-drop_row}
use Rattle.command_fields.specs.declared.option_fields.SetRopts.{SetRopts}
use Rattle.command_fields.specs.declared.profile_fields.RDelete.{RDelete}
use Rattle.command_fields.specs.declared.fields.CommandFields.{CommandFields}
use Rattle.command_fields.specs.declared.fields.CommandFields.TheVariants as fields
use Rattle.command_rules.specs.ProfileEffects.{has_clauth, without_clauth, deleted_class}
use Rattle.command_rules.specs.OptionEffects.{set_class, set_options}
use Rattle.command_rules.specs.Edits.{sets_options, sets_flags, lists, unlists, put_flags, edits_of_set_ropts, put_without_clauth, drop_class, edits_of_r_delete}
use Rattle.lawful_commands.proofs.RowLists.{all-both, all-filter}
use Rattle.lawful_commands.proofs.ProfileRows.{all-at_class}
use Rattle.desk_rules.specs.Position.{copies_behind}
use Rattle.audit_records.specs.Feedless.{IsFeedless, IsFeedlessUser, IsFeedlessProfile, AreFeedlessProfiles, AreFeedless, IsFeedlessState}
use Rattle.audit_records.proofs.Feedless.{if-found}

abbrev IsFeedlessCopy : ListedCopy → Type 0
IsFeedlessCopy copy = AllByRecursion IsFeedlessProfile copy.profiles

abbrev KeepsState : Edit → Type 0
KeepsState edit = (state : State) → IsFeedlessState state → IsFeedlessState (edited_state edit state)

all-put_row : {X : Type 0} (P : X → Type 0) (replaces : X → Bool) (row : X) (rows : List X) → P row → AllByRecursion P rows → AllByRecursion P (put_row replaces row rows)
all-put_row P replaces row [] h are = (h, tt)
all-put_row P replaces row (other ∷ rows) h are = by (replaces other) (all-put_row P replaces row rows h are.1)
  where
    by : (b : Bool) → AllByRecursion P (put_row replaces row rows) → AllByRecursion P (cond b (row ∷ rows) (other ∷ put_row replaces row rows))
    by true more = (h, are.1)
    by false more = (are.0, more)

-- ---- the edits of SETROPTS
with-classes : (state : State) (classes : List ClassRow) → IsFeedlessState state → AllByRecursion AreFeedlessProfiles classes → AreFeedless (record state.rows { classes = classes })
with-classes state classes are all = record { users = are.rows.users; groups = are.rows.groups; classes = all; categories = are.rows.categories }

options-keep : (options : Options) → AllByRecursion IsFeedless options.categories → KeepsState (PutOptions options)
options-keep options named state are = record { rows = record { users = are.rows.users; groups = are.rows.groups; classes = are.rows.classes; categories = named }; copies = are.copies }

flags-keep : (name : List ℕ) (active global : Bool) (log : LogOption) → KeepsState (PutClass name active global log)
flags-keep name active global log state are = record { rows = with-classes state _ are (all-at_class AreFeedlessProfiles name (with_flags active global log) state.rows.classes (λ row found h. h) are.rows.classes); copies = are.copies }

listed-rows : (name : List ℕ) (listed : Bool) (state : State) → IsFeedlessState state → AreFeedless (record state.rows { classes = at_class name (with_listed listed) state.rows.classes })
listed-rows name listed state are = with-classes state _ are (all-at_class AreFeedlessProfiles name (with_listed listed) state.rows.classes (λ row found h. h) are.rows.classes)

list-keeps : (name : List ℕ) → KeepsState (ListCopy name)
list-keeps name state are = record { rows = listed-rows name true state are; copies = by (class_of name state.rows) (if-found AreFeedlessProfiles (is_class name) state.rows.classes are.rows.classes) }
  where
    by : (o : Option ClassRow) → IfSome o AreFeedlessProfiles → AllByRecursion IsFeedlessCopy (option_map_or (λ (class : ClassRow). put_row (is_copy_of name) (copy_of_class class) state.copies) o state.copies)
    by None h = are.copies
    by (Some class) h = all-put_row IsFeedlessCopy (is_copy_of name) (copy_of_class class) state.copies h are.copies

unlist-keeps : (name : List ℕ) → KeepsState (Unlist name)
unlist-keeps name state are = record { rows = listed-rows name false state are; copies = by (class_of name state.rows) }
  where
    by : (o : Option ClassRow) → AllByRecursion IsFeedlessCopy (option_map_or (λ (class : ClassRow). drop_row (is_copy_of name) state.copies) o state.copies)
    by None = are.copies
    by (Some class) = all-drop_row IsFeedlessCopy (is_copy_of name) state.copies are.copies

each-keeps : (edit : ClassRow → Edit) → ((class : ClassRow) → KeepsState (edit class)) → (classes : List ClassRow) → AllByRecursion KeepsState (map edit classes)
each-keeps edit keeps [] = tt
each-keeps edit keeps (class ∷ classes) = (keeps class, each-keeps edit keeps classes)

set_ropts-keep : (c : SetRopts) (state : State) → IsFeedlessState state → AllByRecursion KeepsState (edits_of_set_ropts c state.rows)
set_ropts-keep c state are =
    let classes = state.rows.classes in
    let flags : List Edit = map (λ class. put_flags (set_class c class)) (filter (sets_flags c) classes) in
    let listed : List Edit = map (λ (class : ClassRow). ListCopy class.name) (filter (lists c) classes) in
    let unlisted : List Edit = map (λ (class : ClassRow). Unlist class.name) (filter (unlists c) classes) in
    all-both KeepsState _ (flags ++ (listed ++ unlisted)) (options-put (sets_options c) (set_options c state.rows.options) are.rows.categories)
    (all-both KeepsState flags (listed ++ unlisted) (each-keeps (λ class. put_flags (set_class c class)) (λ class. flags-keep _ _ _ _) (filter (sets_flags c) classes))
    (all-both KeepsState listed unlisted (each-keeps (λ (class : ClassRow). ListCopy class.name) (λ class. list-keeps class.name) (filter (lists c) classes)) (each-keeps (λ (class : ClassRow). Unlist class.name) (λ class. unlist-keeps class.name) (filter (unlists c) classes))))
  where
    options-put : (b : Bool) (options : Options) → AllByRecursion IsFeedless options.categories → AllByRecursion KeepsState (cond b (PutOptions options ∷ []) [])
    options-put true options named = (options-keep options named, tt)
    options-put false options named = tt

-- ---- the edits of RDELETE
user-keeps : (user : User) → IsFeedlessUser user → KeepsState (PutUser user)
user-keeps user h state are = record {
  rows = record { users = all-put_row IsFeedlessUser (is_user user.id) user state.rows.users h are.rows.users; groups = are.rows.groups; classes = are.rows.classes; categories = are.rows.categories };
  copies = are.copies;
}

users-keep : (class : List ℕ) (users : List User) → AllByRecursion IsFeedlessUser users → AllByRecursion KeepsState (map (λ user. PutUser (without_clauth class user)) users)
users-keep class [] are = tt
users-keep class (user ∷ users) are = (user-keeps (without_clauth class user) (record { id = are.0.id; default_group = are.0.default_group; groups = are.0.groups }), users-keep class users are.1)

profile-keeps : (class : List ℕ) (name : Spelled) → KeepsState (DropProfile class name)
profile-keeps class name state are = record {
  rows = with-classes state _ are (all-at_class AreFeedlessProfiles class (without_profile name) state.rows.classes (λ row found h. all-drop_row IsFeedlessProfile (is_profile name) row.profiles h) are.rows.classes);
  copies = are.copies;
}

class-keeps : (name : List ℕ) → KeepsState (DropClass name)
class-keeps name state are = record { rows = with-classes state _ are (all-filter AreFeedlessProfiles _ state.rows.classes are.rows.classes); copies = by (class_of name state.rows) }
  where
    by : (o : Option ClassRow) → AllByRecursion IsFeedlessCopy (option_map_or (λ (class : ClassRow). drop_row (is_copy_of name) state.copies) o state.copies)
    by None = are.copies
    by (Some class) = all-drop_row IsFeedlessCopy (is_copy_of name) state.copies are.copies

r_delete-keep : (c : RDelete) (state : State) → IsFeedlessState state → AllByRecursion KeepsState (edits_of_r_delete c state.rows)
r_delete-keep c state are =
    all-both KeepsState (put_without_clauth (deleted_class c) state.rows.users) (DropProfile c.class c.profile ∷ drop_class (deleted_class c)) (users-put (deleted_class c)) (profile-keeps c.class c.profile, dropped (deleted_class c))
  where
    users-put : (class : Option (List ℕ)) → AllByRecursion KeepsState (put_without_clauth class state.rows.users)
    users-put None = tt
    users-put (Some class) = users-keep class (filter (has_clauth class) state.rows.users) (all-filter IsFeedlessUser (has_clauth class) state.rows.users are.rows.users)

    dropped : (class : Option (List ℕ)) → AllByRecursion KeepsState (drop_class class)
    dropped None = tt
    dropped (Some class) = (class-keeps class, tt)

changed-keeps : (edits : List Edit) (state : State) → AllByRecursion KeepsState edits → IsFeedlessState state → IsFeedlessState (changed_state edits state)
changed-keeps [] state keep are = are
changed-keeps (edit ∷ edits) state keep are = changed-keeps edits (edited_state edit state) keep.1 (keep.0 state are)

pub copies-feedless : (command : CommandFields) (state : State) → IsFeedlessState state → AllByRecursion IsFeedlessCopy (copies_behind command state)
copies-feedless (fields.SetRopts c) state are = (changed-keeps (edits_of_set_ropts c state.rows) state (set_ropts-keep c state are) are).copies
copies-feedless (fields.RDelete c) state are = (changed-keeps (edits_of_r_delete c state.rows) state (r_delete-keep c state are) are).copies
copies-feedless command state are = are.copies

-- the copies of classes whose profiles hold none
pub copies-all : (classes : List ClassRow) → AllByRecursion AreFeedlessProfiles classes → AllByRecursion IsFeedlessCopy (map copy_of_class classes)
copies-all [] are = tt
copies-all (class ∷ classes) are = (are.0, copies-all classes are.1)
