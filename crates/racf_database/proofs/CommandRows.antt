-- Runs of commands, computed by the definitions: what each is refused for, and the rows in the end.
use Rattle.std.proofs.Common.{◌≡◌, ℕ, true, false, List, [], ◌∷◌, Option, None, Some, codes, refl}
use Rattle.racf_profiles.specs.declared.rows.Rows.{Rows}
use Rattle.racf_profiles.specs.NewDatabase.{new_rows}
use Rattle.command_rules.specs.declared.conflict.Conflict.{Conflict}
use Rattle.command_rules.specs.declared.conflict.Conflict.TheVariants.{Exists, Root, InUse, Cycle, DefaultGroup, UnknownName}
use Rattle.command_rules.specs.declared.conflict.Named.TheVariants as named
use Rattle.command_rules.specs.declared.conflict.Holder.TheVariants.{Subgroup, Connected}
use Rattle.command_fields.specs.declared.issuer.Issuer.{Issuer}
use Rattle.command_fields.specs.declared.fields.AddUser.{AddUser}
use Rattle.command_fields.specs.declared.fields.AltUser.{AltUser}
use Rattle.command_fields.specs.declared.fields.Connect.{Connect}
use Rattle.command_fields.specs.declared.fields.CommandFields.{CommandFields}
use Rattle.command_fields.specs.declared.fields.CommandFields.TheVariants as fields
use Rattle.command_rules.specs.Effects.{step}
use Rattle.command_rules.specs.Conflicts.{conflict_of, no_user, no_owner, no_group, no_named_group, no_class, name_taken, not_connected, default_not_connected, has_subgroup, has_connected, has_profile, cycle, owner_not_superior, default_group, last_special, unknown_level, unknown_category, never_category, unknown_label, is_root, meets, users_full, groups_full, connections_full, user_full, add_user_conflicts, alt_user_conflicts, del_user_conflicts, add_group_conflicts, alt_group_conflicts, del_group_conflicts, connect_conflicts, remove_conflicts}

abbrev start : Rows
start = new_rows (λ _. true)

abbrev ibm : Issuer
ibm = record { id = codes "IBMUSER"; group = codes "SYS1"; group_spelled = refl }

-- What each command is refused for, if it is, over the rows that the ones before it leave.
abbrev left : Option Conflict → CommandFields → Rows → Rows
left None c rows = step ibm c rows
left (Some conflict) c rows = rows

abbrev outcomes : List CommandFields → Rows → List (Option Conflict)
outcomes [] rows = []
outcomes (c ∷ cs) rows = conflict_of ibm c rows ∷ outcomes cs (left (conflict_of ibm c rows) c rows)

abbrev rows_after : List CommandFields → Rows → Rows
rows_after [] rows = rows
rows_after (c ∷ cs) rows = rows_after cs (left (conflict_of ibm c rows) c rows)

-- ---- commands with few operands
abbrev add_user : List ℕ → AddUser
add_user user = record { user = user; name = None; dfltgrp = None; owner = None; authority = None; special = false; nospecial = false; operations = false; nooperations = false; auditor = false; noauditor = false; restricted = false; norestricted = false; clauth = []; seclevel = None; addcategory = []; seclabel = None }

abbrev alt_user : List ℕ → AltUser
alt_user user = record { user = user; name = None; dfltgrp = None; owner = None; special = false; nospecial = false; operations = false; nooperations = false; auditor = false; noauditor = false; restricted = false; norestricted = false; uaudit = false; nouaudit = false; revoke = false; resume = false; clauth = []; noclauth = []; seclevel = None; noseclevel = false; addcategory = []; delcategory = []; seclabel = None; noseclabel = false }

abbrev connect : List ℕ → Option (List ℕ) → Connect
connect user group = record { user = user; group = group; authority = None; special = false; nospecial = false; operations = false; nooperations = false; auditor = false; noauditor = false; revoke = false; resume = false }

abbrev au : List ℕ → CommandFields
au user = fields.AddUser (add_user user)

abbrev au_in : List ℕ → List ℕ → CommandFields
au_in user group = fields.AddUser (record (add_user user) { dfltgrp = Some group })

abbrev du : List ℕ → CommandFields
du user = fields.DelUser (record { user = user })

abbrev ag : List ℕ → Option (List ℕ) → Option (List ℕ) → CommandFields
ag group superior owner = fields.AddGroup (record { group = group; supgroup = superior; owner = owner })

abbrev alg : List ℕ → Option (List ℕ) → Option (List ℕ) → CommandFields
alg group superior owner = fields.AltGroup (record { group = group; supgroup = superior; owner = owner })

abbrev dg : List ℕ → CommandFields
dg group = fields.DelGroup (record { group = group })

abbrev re : List ℕ → List ℕ → CommandFields
re user group = fields.Remove (record { user = user; group = Some group })

-- AG A OWNER(SYS1) | AG B SUPGROUP(A) OWNER(A) | ALG A SUPGROUP(B) OWNER(B) | DG A | AU JOE DFLTGRP(B) | DG B | RE JOE
-- GROUP(B) | DU JOE | DG B | DG SYS1
groups_come_and_go : outcomes (ag (codes "A") None (Some (codes "SYS1")) ∷ ag (codes "B") (Some (codes "A")) (Some (codes "A")) ∷ alg (codes "A") (Some (codes "B")) (Some (codes "B")) ∷ dg (codes "A") ∷ au_in (codes "JOE") (codes "B") ∷ dg (codes "B") ∷ re (codes "JOE") (codes "B") ∷ du (codes "JOE") ∷ dg (codes "B") ∷ dg (codes "SYS1") ∷ []) start
    ≡ None ∷ None ∷ Some (Cycle (codes "A")) ∷ Some (InUse (Subgroup (codes "B"))) ∷ None ∷ Some (InUse (Connected (codes "JOE"))) ∷ Some (DefaultGroup (codes "B")) ∷ None ∷ None ∷ Some Root ∷ []
unfolding no_user no_owner no_group no_named_group no_class name_taken not_connected default_not_connected has_subgroup has_connected has_profile cycle owner_not_superior default_group last_special unknown_level unknown_category never_category unknown_label is_root meets users_full groups_full connections_full user_full add_user_conflicts alt_user_conflicts del_user_conflicts add_group_conflicts alt_group_conflicts del_group_conflicts connect_conflicts remove_conflicts
groups_come_and_go = refl

-- AU SYS1 SECLEVEL(TOP) | AU JOE SECLEVEL(TOP) ADDCATEGORY(RED) SECLABEL(A) | AU JOE ADDCATEGORY(BLUE RED)
-- AU JOE SECLABEL(A) | AU JOE SECLABEL(SYSLOW) | ALU JOE DELCATEGORY(RED)
unknown_names : outcomes (fields.AddUser (record (add_user (codes "SYS1")) { seclevel = Some (codes "TOP") }) ∷ fields.AddUser (record (add_user (codes "JOE")) { seclevel = Some (codes "TOP"); addcategory = codes "RED" ∷ []; seclabel = Some (codes "A") }) ∷ fields.AddUser (record (add_user (codes "JOE")) { addcategory = codes "BLUE" ∷ codes "RED" ∷ [] }) ∷ fields.AddUser (record (add_user (codes "JOE")) { seclabel = Some (codes "A") }) ∷ fields.AddUser (record (add_user (codes "JOE")) { seclabel = Some (codes "SYSLOW") }) ∷ fields.AltUser (record (alt_user (codes "JOE")) { delcategory = codes "RED" ∷ [] }) ∷ []) start
    ≡ Some (Exists (named.Id (codes "SYS1"))) ∷ Some (UnknownName (codes "TOP")) ∷ Some (UnknownName (codes "BLUE")) ∷ Some (UnknownName (codes "A")) ∷ None ∷ Some (UnknownName (codes "RED")) ∷ []
unfolding no_user no_owner no_group no_named_group no_class name_taken not_connected default_not_connected last_special unknown_level unknown_category never_category unknown_label users_full connections_full user_full add_user_conflicts alt_user_conflicts
unknown_names = refl
