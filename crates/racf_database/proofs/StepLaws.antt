-- The edits of a command that meets no conflict make the rows that the command makes.
use Rattle.std.proofs.Common.{◌≡◌, ℕ, List, Option, None, Some, refl, sym, ap, ◌∙◌}
use Rattle.std.specs.Prelude.{find}
use Rattle.racf_profiles.specs.declared.users.User.{User}
use Rattle.racf_profiles.specs.declared.groups.Group.{Group}
use Rattle.racf_profiles.specs.declared.rows.Rows.{Rows}
use Rattle.racf_profiles.specs.Lookup.{user_of, group_of, is_user, is_group}
use Rattle.racf_profiles.specs.Edits.{put_row, changed}
use Rattle.racf_profiles.proofs.States.{find-passes}
use Rattle.group_tree.proofs.Rows.{same}
use Rattle.command_fields.specs.declared.issuer.Issuer.{Issuer}
use Rattle.command_fields.specs.declared.fields.AddUser.{AddUser}
use Rattle.command_fields.specs.declared.fields.AddGroup.{AddGroup}
use Rattle.command_fields.specs.declared.fields.CommandFields.{CommandFields}
use Rattle.command_fields.specs.declared.fields.CommandFields.TheVariants as fields
use Rattle.command_rules.specs.Effects.{at_row, step, new_user, altered_user, new_group, altered_group, connected_user, removed_user}
use Rattle.command_rules.specs.Edits.{edits_of, put_user, put_group}
use Rattle.command_rules.specs.Conflicts.{first_met, conflicts, add_user_conflicts, add_group_conflicts}
use Rattle.command_rules.specs.ProfileEffects.{dataset, altered_data_set, altered_class_profile}
use Rattle.racf_profiles.specs.DynamicClasses.{cdt}
use Rattle.command_rules.specs.PermitEffects.{permitted_profile}
use Rattle.command_rules.proofs.ProfileSteps.{changed-put_changed, changed-r_define, changed-r_alter, changed-define_class, changed-r_delete}
use Rattle.row_tables.proofs.RowLaws.{put_row-at_row, put_row-new}
use Rattle.command_rules.proofs.AfterLaws.{at_row-absent}
use Rattle.racf_profiles.specs.Lawful.{AreLawful}
use Rattle.racf_database.proofs.OptionReady.{changed-set_ropts}
use Rattle.command_rules.proofs.Unmet.{each_unmet, name_free}

-- ---- a row that is there
put_user-at : (change : User → User) → ((user : User) → (change user).id ≡ user.id) → (id : List ℕ) (users : List User) (user : User) → find (is_user id) users ≡ Some user
    → put_row (is_user (change user).id) (change user) users ≡ at_row (is_user id) change users
put_user-at change keeps id users user found =
    ap (λ n. put_row (is_user n) (change user) users) (keeps user ∙ same user.id id (find-passes (is_user id) user users found))
    ∙ put_row-at_row (is_user id) change user users found

changed-users : (change : User → User) → ((user : User) → (change user).id ≡ user.id) → (id : List ℕ) (rows : Rows)
    → changed (put_user change (user_of id rows)) rows ≡ record rows { users = at_row (is_user id) change rows.users }
changed-users change keeps id rows = by (user_of id rows) refl
  where
    by : (o : Option User) → user_of id rows ≡ o → changed (put_user change o) rows ≡ record rows { users = at_row (is_user id) change rows.users }
    by None none = sym (ap (λ (us : List User). record rows { users = us }) (at_row-absent (is_user id) change rows.users none))
    by (Some user) found = ap (λ (us : List User). record rows { users = us }) (put_user-at change keeps id rows.users user found)

changed-groups : (change : Group → Group) → ((group : Group) → (change group).id ≡ group.id) → (id : List ℕ) (rows : Rows)
    → changed (put_group change (group_of id rows)) rows ≡ record rows { groups = at_row (is_group id) change rows.groups }
changed-groups change keeps id rows = by (group_of id rows) refl
  where
    by : (o : Option Group) → group_of id rows ≡ o → changed (put_group change o) rows ≡ record rows { groups = at_row (is_group id) change rows.groups }
    by None none = sym (ap (λ (gs : List Group). record rows { groups = gs }) (at_row-absent (is_group id) change rows.groups none))
    by (Some group) found =
        ap (λ n. record rows { groups = put_row (is_group n) (change group) rows.groups }) (keeps group ∙ same group.id id (find-passes (is_group id) group rows.groups found))
        ∙ ap (λ (gs : List Group). record rows { groups = gs }) (put_row-at_row (is_group id) change group rows.groups found)

-- ---- the name of what ADDUSER and ADDGROUP define is free
add_user-free : (issuer : Issuer) (c : AddUser) (rows : Rows) → first_met (add_user_conflicts issuer c rows) ≡ None → (user_of c.user rows ≡ None) × (group_of c.user rows ≡ None)
unfolding add_user_conflicts
add_user-free issuer c rows h = name_free c.user rows (each_unmet (add_user_conflicts issuer c rows) h).1.1.1.0

add_group-free : (issuer : Issuer) (c : AddGroup) (rows : Rows) → first_met (add_group_conflicts issuer c rows) ≡ None → (user_of c.group rows ≡ None) × (group_of c.group rows ≡ None)
unfolding add_group_conflicts
add_group-free issuer c rows h = name_free c.group rows (each_unmet (add_group_conflicts issuer c rows) h).1.1.0

-- ---- each command
pub changed-edits_of : (issuer : Issuer) (command : CommandFields) (rows : Rows) → AreLawful rows → first_met (conflicts issuer command rows) ≡ None → changed (edits_of issuer command rows) rows ≡ step issuer command rows
changed-edits_of issuer (fields.AddUser c) rows lawful h = ap (λ (us : List User). record rows { users = us }) (put_row-new (is_user c.user) (new_user issuer c rows) rows.users (add_user-free issuer c rows h).0)
changed-edits_of issuer (fields.AltUser c) rows lawful h = changed-users (altered_user c rows) (λ user. refl) c.user rows
changed-edits_of issuer (fields.DelUser c) rows lawful h = refl
changed-edits_of issuer (fields.AddGroup c) rows lawful h = ap (λ (gs : List Group). record rows { groups = gs }) (put_row-new (is_group c.group) (new_group issuer c) rows.groups (add_group-free issuer c rows h).1)
changed-edits_of issuer (fields.AltGroup c) rows lawful h = changed-groups (altered_group c) (λ group. refl) c.group rows
changed-edits_of issuer (fields.DelGroup c) rows lawful h = refl
changed-edits_of issuer (fields.Connect c) rows lawful h = changed-users (connected_user issuer c) (λ user. refl) c.user rows
changed-edits_of issuer (fields.Remove c) rows lawful h = changed-users (removed_user issuer c) (λ user. refl) c.user rows
changed-edits_of issuer (fields.AddSd c) rows lawful h = refl
changed-edits_of issuer (fields.AltSd c) rows lawful h = changed-put_changed dataset c.profile (altered_data_set c rows) rows
changed-edits_of issuer (fields.DelSd c) rows lawful h = refl
changed-edits_of issuer (fields.RDefine c) rows lawful h = changed-r_define issuer c rows
changed-edits_of issuer (fields.RAlter c) rows lawful h = changed-r_alter c rows
changed-edits_of issuer (fields.DefineClass c) rows lawful h = changed-define_class issuer c rows
changed-edits_of issuer (fields.AlterClass c) rows lawful h = changed-put_changed cdt c.profile (altered_class_profile c) rows
changed-edits_of issuer (fields.RDelete c) rows lawful h = changed-r_delete c rows lawful.users.distinct
changed-edits_of issuer (fields.Permit c) rows lawful h = changed-put_changed c.class c.profile (permitted_profile c) rows
changed-edits_of issuer (fields.SetRopts c) rows lawful h = changed-set_ropts c rows h lawful
