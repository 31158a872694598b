-- What an accepted command makes of the rows.
use Rattle.std.specs.Prelude.{[], ◌∷◌, ◌++◌}
use Rattle.racf_profiles.specs.declared.rows.Rows.{Rows}
use Rattle.racf_profiles.specs.Lookup.{is_user, is_group}
use Rattle.racf_profiles.specs.Edits.{drop_row}
use Rattle.command_fields.specs.declared.issuer.Issuer.{Issuer}
use Rattle.command_fields.specs.declared.fields.CommandFields.{CommandFields}
use Rattle.command_fields.specs.declared.fields.CommandFields.TheVariants as fields
use Rattle.command_rules.specs.ProfileEffects.{after_add_sd, after_alt_sd, after_del_sd, after_r_define, after_r_alter, after_define_class, after_alter_class, after_r_delete}
use Rattle.command_rules.specs.PermitEffects.{after_permit}
use Rattle.command_rules.specs.OptionEffects.{after_set_ropts}
pub use Rattle.command_rules.specs.UserEffects.{switched, with_class, without_classes, owner_or_issuer, new_connection, first_attributes, new_user, attributes_after, level_after, label_after, altered_user, new_group, altered_group, altered_connection, connects_after, connected_user, removed_user}
pub use Rattle.command_fields.specs.Issuers.{group_or_current}
pub use Rattle.row_tables.specs.ChangedRow.{at_row}

-- The rows after a command. What is new goes last. DELUSER takes the user's connections with it; what else names a user
-- or a group that is gone stays. RDELETE in CDT takes the class with it, also out of every CLAUTH list.
abbrev pub step : Issuer → CommandFields → Rows → Rows
step issuer (fields.AddUser c) rows = record rows { users = rows.users ++ new_user issuer c rows ∷ [] }
step issuer (fields.AltUser c) rows = record rows { users = at_row (is_user c.user) (altered_user c rows) rows.users }
step issuer (fields.DelUser c) rows = record rows { users = drop_row (is_user c.user) rows.users }
step issuer (fields.AddGroup c) rows = record rows { groups = rows.groups ++ new_group issuer c ∷ [] }
step issuer (fields.AltGroup c) rows = record rows { groups = at_row (is_group c.group) (altered_group c) rows.groups }
step issuer (fields.DelGroup c) rows = record rows { groups = drop_row (is_group c.group) rows.groups }
step issuer (fields.Connect c) rows = record rows { users = at_row (is_user c.user) (connected_user issuer c) rows.users }
step issuer (fields.Remove c) rows = record rows { users = at_row (is_user c.user) (removed_user issuer c) rows.users }
step issuer (fields.AddSd c) rows = after_add_sd issuer c rows
step issuer (fields.AltSd c) rows = after_alt_sd c rows
step issuer (fields.DelSd c) rows = after_del_sd c rows
step issuer (fields.RDefine c) rows = after_r_define issuer c rows
step issuer (fields.RAlter c) rows = after_r_alter c rows
step issuer (fields.DefineClass c) rows = after_define_class issuer c rows
step issuer (fields.AlterClass c) rows = after_alter_class c rows
step issuer (fields.RDelete c) rows = after_r_delete c rows
step issuer (fields.Permit c) rows = after_permit c rows
step issuer (fields.SetRopts c) rows = after_set_ropts c rows
