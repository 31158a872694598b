-- What the commands on users, groups and connections make.
use Rattle.std.specs.Prelude.{ℕ, Bool, false, ◌&&◌, ◌||◌, not, List, [], ◌∷◌, ◌++◌, Option, None, Some, fold, filter, unwrap_or, bytes_eq, if◌then◌else◌}
use Rattle.std.specs.List.{list_any}
use Rattle.std.specs.Option.{option_or, option_and_then}
use Rattle.access_levels.specs.declared.entries.Attributes.{Attributes}
use Rattle.access_levels.specs.declared.authorities.GroupAuthority.TheVariants.{MayUse}
use Rattle.racf_profiles.specs.declared.users.User.{User}
use Rattle.racf_profiles.specs.declared.users.Connect.{Connect as Connection}
use Rattle.racf_profiles.specs.declared.groups.Group.{Group}
use Rattle.racf_profiles.specs.declared.rows.Rows.{Rows}
use Rattle.racf_profiles.specs.Edits.{drop_row}
use Rattle.command_fields.specs.declared.issuer.Issuer.{Issuer}
use Rattle.command_fields.specs.Issuers.{group_or_current}
use Rattle.command_fields.specs.declared.fields.AddUser.{AddUser}
use Rattle.command_fields.specs.declared.fields.AltUser.{AltUser}
use Rattle.command_fields.specs.declared.fields.AddGroup.{AddGroup}
use Rattle.command_fields.specs.declared.fields.AltGroup.{AltGroup}
use Rattle.command_fields.specs.declared.fields.Connect.{Connect}
use Rattle.command_fields.specs.declared.fields.Remove.{Remove}
use Rattle.racf_profiles.specs.Names.{is_to}
use Rattle.command_rules.specs.Security.{level_number, with_category, without_category}

-- An attribute after X, which gives it, and NOX, which takes it away and comes behind X.
abbrev pub switched : Bool → Bool → Bool → Bool
switched on off before = not off && (on || before)

-- A list of classes with one more, unless it is there; and without those that go.
abbrev pub with_class : List (List ℕ) → List ℕ → List (List ℕ)
with_class classes name = if list_any (λ other. bytes_eq other name) classes then classes else classes ++ name ∷ []

abbrev pub without_classes : List (List ℕ) → List (List ℕ) → List (List ℕ)
without_classes gone classes = filter (λ name. not (list_any (λ other. bytes_eq other name) gone)) classes

-- An owner is by default the issuer.
abbrev pub owner_or_issuer : Issuer → Option (List ℕ) → List ℕ
owner_or_issuer issuer given = unwrap_or given issuer.id

-- A connection that was just made has the authority USE and no attribute.
abbrev pub new_connection : List ℕ → Connection
new_connection group = record { group = group; authority = MayUse; special = false; operations = false; auditor = false; revoked = false }

-- ADDUSER: the attributes that are named.
abbrev pub first_attributes : AddUser → Attributes
first_attributes c = record {
  special = switched c.special c.nospecial false;
  operations = switched c.operations c.nooperations false;
  auditor = switched c.auditor c.noauditor false;
  restricted = switched c.restricted c.norestricted false;
  revoked = false;
  uaudit = false;
}

-- The user, connected to the default group with AUTHORITY.
abbrev pub new_user : Issuer → AddUser → Rows → User
new_user issuer c rows = record {
  id = c.user;
  default_group = group_or_current issuer c.dfltgrp;
  owner = owner_or_issuer issuer c.owner;
  name = unwrap_or c.name [];
  attributes = first_attributes c;
  classes = fold with_class [] c.clauth;
  level = unwrap_or (option_and_then (level_number rows) c.seclevel) 0;
  categories = fold (with_category rows) 0 c.addcategory;
  label = c.seclabel;
  connects = record (new_connection (group_or_current issuer c.dfltgrp)) { authority = unwrap_or c.authority MayUse } ∷ [];
}

-- ALTUSER changes what its operands name. DELCATEGORY comes before ADDCATEGORY.
abbrev pub attributes_after : AltUser → Attributes → Attributes
attributes_after c old = record {
  special = switched c.special c.nospecial old.special;
  operations = switched c.operations c.nooperations old.operations;
  auditor = switched c.auditor c.noauditor old.auditor;
  restricted = switched c.restricted c.norestricted old.restricted;
  revoked = switched c.revoke c.resume old.revoked;
  uaudit = switched c.uaudit c.nouaudit old.uaudit;
}

abbrev pub level_after : AltUser → Rows → ℕ → ℕ
level_after c rows old = if c.noseclevel then 0 else unwrap_or (option_and_then (level_number rows) c.seclevel) old

abbrev pub label_after : AltUser → Option (List ℕ) → Option (List ℕ)
label_after c old = if c.noseclabel then None else option_or c.seclabel old

abbrev pub altered_user : AltUser → Rows → User → User
altered_user c rows old = record old {
  default_group = unwrap_or c.dfltgrp old.default_group;
  owner = unwrap_or c.owner old.owner;
  name = unwrap_or c.name old.name;
  attributes = attributes_after c old.attributes;
  classes = without_classes c.noclauth (fold with_class old.classes c.clauth);
  level = level_after c rows old.level;
  categories = fold (with_category rows) (fold (without_category rows) old.categories c.delcategory) c.addcategory;
  label = label_after c old.label;
}

-- ADDGROUP.
abbrev pub new_group : Issuer → AddGroup → Group
new_group issuer c = record { id = c.group; superior = Some (group_or_current issuer c.supgroup); owner = owner_or_issuer issuer c.owner }

-- ALTGROUP changes what its operands name.
abbrev pub altered_group : AltGroup → Group → Group
altered_group c old = record old { superior = option_or c.supgroup old.superior; owner = unwrap_or c.owner old.owner }

-- CONNECT gives a connection what its operands name. Without one to the group it makes one, which goes last.
abbrev pub altered_connection : Connect → Connection → Connection
altered_connection c old = record old {
  authority = unwrap_or c.authority old.authority;
  special = switched c.special c.nospecial old.special;
  operations = switched c.operations c.nooperations old.operations;
  auditor = switched c.auditor c.noauditor old.auditor;
  revoked = switched c.revoke c.resume old.revoked;
}

abbrev pub connects_after : Connect → List ℕ → List Connection → List Connection
connects_after c group [] = altered_connection c (new_connection group) ∷ []
connects_after c group (old ∷ rest) = if is_to group old then altered_connection c old ∷ rest else old ∷ connects_after c group rest

abbrev pub connected_user : Issuer → Connect → User → User
connected_user issuer c old = record old { connects = connects_after c (group_or_current issuer c.group) old.connects }

-- REMOVE takes the connection away.
abbrev pub removed_user : Issuer → Remove → User → User
removed_user issuer c old = record old { connects = drop_row (is_to (group_or_current issuer c.group)) old.connects }
