-- The commands on users and groups, each field read from the operand of its name.
use Rattle.std.specs.Prelude.{ℕ, List, [], ◌∷◌, Bool, bytes_eq, if◌then◌else◌, Option, None, Some, is_some}
use Rattle.access_levels.specs.declared.authorities.GroupAuthority.{GroupAuthority}
use Rattle.access_levels.specs.declared.levels.Level.{Level}
use Rattle.access_levels.specs.declared.entries.Who.{Who}
use Rattle.access_levels.specs.declared.entries.Condition.{Condition}
use Rattle.generic_names.specs.Spelled.{Spelled}
use Rattle.racf_profiles.specs.declared.profiles.AuditRule.{AuditRule}
use Rattle.racf_profiles.specs.declared.profiles.Member.{Member}
use Rattle.command_values.specs.declared.values.Content.{Content}
use Rattle.command_values.specs.declared.values.Content.TheVariants as contents
use Rattle.command_fields.specs.declared.resets.Reset.{Reset}
use Rattle.command_fields.specs.declared.log_clauses.LogClause.{LogClause}
use Rattle.command_fields.specs.declared.class_fields.ClassNames.{ClassNames}
use Rattle.command_fields.specs.Classes.{cdt}
use Rattle.command_fields.specs.declared.fields.AddUser.{AddUser}
use Rattle.command_fields.specs.declared.fields.AltUser.{AltUser}
use Rattle.command_fields.specs.declared.fields.AddGroup.{AddGroup}
use Rattle.command_fields.specs.declared.fields.AltGroup.{AltGroup}
use Rattle.command_fields.specs.declared.fields.Connect.{Connect}
use Rattle.command_fields.specs.declared.fields.Remove.{Remove}
use Rattle.command_values.specs.declared.operand_words.Word.{Word}
use Rattle.command_values.specs.declared.operand_words.Word.TheVariants as words
use Rattle.command_grammar.specs.declared.table.Verb.{Verb}
use Rattle.command_grammar.specs.declared.table.Verb.TheVariants as verbs
use Rattle.command_grammar.specs.declared.table.Operand.{Operand}
use Rattle.command_values.specs.OperandWords.{same_word}
use Rattle.command_grammar.specs.Table.{operands_of}
use Rattle.command_grammar.specs.Reading.{Slots}

-- the first slot, and those behind it
unfoldable pub front : Slots → Option Content
front [] = None
front (s ∷ ss) = s

unfoldable pub behind : Slots → Slots
behind [] = []
behind (s ∷ ss) = ss

-- The slot of the operand with this word, where there is one for each operand.
abbrev pub found : List Operand → Slots → Word → Option Content
found [] slots w = None
found (o ∷ os) slots w = if same_word o.word w then front slots else found os (behind slots) w

abbrev pub found_for : Verb → Slots → Word → Option Content
found_for v slots w = found (operands_of v) slots w

-- what a slot holds of each kind of operand: whether one without a value was given, the value of one with a value, the
-- elements of a list
abbrev pub flag_in : Option Content → Bool
flag_in s = is_some s

abbrev pub id_in : Option Content → Option (List ℕ)
id_in (Some (contents.Id w)) = Some w
id_in others = None

abbrev pub authority_in : Option Content → Option GroupAuthority
authority_in (Some (contents.Authority a)) = Some a
authority_in others = None

abbrev pub name_in : Option Content → Option (List ℕ)
name_in (Some (contents.Name t)) = Some t
name_in others = None

abbrev pub ids_in : Option Content → List (List ℕ)
ids_in (Some (contents.Ids ws)) = ws
ids_in others = []

abbrev pub level_in : Option Content → Option Level
level_in (Some (contents.Level x)) = Some x
level_in others = None

abbrev pub audit_in : Option Content → Option AuditRule
audit_in (Some (contents.Audit x)) = Some x
audit_in others = None

abbrev pub reset_in : Option Content → Option Reset
reset_in (Some (contents.Reset x)) = Some x
reset_in others = None

abbrev pub when_in : Option Content → Option Condition
when_in (Some (contents.When x)) = Some x
when_in others = None

abbrev pub whos_in : Option Content → List Who
whos_in (Some (contents.Whos xs)) = xs
whos_in others = []

abbrev pub members_in : Option Content → List Member
members_in (Some (contents.Members xs)) = xs
members_in others = []

abbrev pub member_names_in : Option Content → List Spelled
member_names_in (Some (contents.MemberNames xs)) = xs
member_names_in others = []

abbrev pub log_clauses_in : Option Content → List LogClause
log_clauses_in (Some (contents.LogOptions xs)) = xs
log_clauses_in others = []

abbrev pub length_in : Option Content → Option ℕ
length_in (Some (contents.Length x)) = Some x
length_in others = None

abbrev pub truth_in : Option Content → Option Bool
truth_in (Some (contents.Truth x)) = Some x
truth_in others = None

abbrev pub class_names_in : Option Content → Option ClassNames
class_names_in (Some (contents.ClassNames x)) = Some x
class_names_in others = None

-- the positional words of a command: none, a name alone, a profile alone, a class and a profile
abbrev pub no_word : List Content → Option (Unit {0})
no_word [] = Some tt
no_word others = None

abbrev pub only_id : List Content → Option (List ℕ)
only_id (contents.Id w ∷ []) = Some w
only_id others = None

abbrev pub only_profile : List Content → Option Spelled
only_profile (contents.Profile name ∷ []) = Some name
only_profile others = None

abbrev pub class_and_profile : List Content → Option ((List ℕ) × Spelled)
class_and_profile (contents.Id class ∷ contents.Profile name ∷ []) = Some (class, name)
class_and_profile others = None

-- the profile of class CDT
abbrev pub cdt_profile : List Content → Option Spelled
cdt_profile (contents.Id class ∷ contents.Profile name ∷ []) = if bytes_eq class cdt then Some name else None
cdt_profile others = None

-- ADDUSER
abbrev pub add_user_in : List ℕ → Slots → AddUser
add_user_in user slots = let operand = found_for verbs.AddUser slots in record {
  user = user;
  name = name_in (operand words.Name);
  dfltgrp = id_in (operand words.Dfltgrp);
  owner = id_in (operand words.Owner);
  authority = authority_in (operand words.Authority);
  special = flag_in (operand words.Special);
  nospecial = flag_in (operand words.Nospecial);
  operations = flag_in (operand words.Operations);
  nooperations = flag_in (operand words.Nooperations);
  auditor = flag_in (operand words.Auditor);
  noauditor = flag_in (operand words.Noauditor);
  restricted = flag_in (operand words.Restricted);
  norestricted = flag_in (operand words.Norestricted);
  clauth = ids_in (operand words.Clauth);
  seclevel = id_in (operand words.Seclevel);
  addcategory = ids_in (operand words.Addcategory);
  seclabel = id_in (operand words.Seclabel);
}

-- ALTUSER
abbrev pub alt_user_in : List ℕ → Slots → AltUser
alt_user_in user slots = let operand = found_for verbs.AltUser slots in record {
  user = user;
  name = name_in (operand words.Name);
  dfltgrp = id_in (operand words.Dfltgrp);
  owner = id_in (operand words.Owner);
  special = flag_in (operand words.Special);
  nospecial = flag_in (operand words.Nospecial);
  operations = flag_in (operand words.Operations);
  nooperations = flag_in (operand words.Nooperations);
  auditor = flag_in (operand words.Auditor);
  noauditor = flag_in (operand words.Noauditor);
  restricted = flag_in (operand words.Restricted);
  norestricted = flag_in (operand words.Norestricted);
  uaudit = flag_in (operand words.Uaudit);
  nouaudit = flag_in (operand words.Nouaudit);
  revoke = flag_in (operand words.Revoke);
  resume = flag_in (operand words.Resume);
  clauth = ids_in (operand words.Clauth);
  noclauth = ids_in (operand words.Noclauth);
  seclevel = id_in (operand words.Seclevel);
  noseclevel = flag_in (operand words.Noseclevel);
  addcategory = ids_in (operand words.Addcategory);
  delcategory = ids_in (operand words.Delcategory);
  seclabel = id_in (operand words.Seclabel);
  noseclabel = flag_in (operand words.Noseclabel);
}

-- ADDGROUP
abbrev pub add_group_in : List ℕ → Slots → AddGroup
add_group_in group slots = let operand = found_for verbs.AddGroup slots in record { group = group; supgroup = id_in (operand words.Supgroup); owner = id_in (operand words.Owner) }

-- ALTGROUP
abbrev pub alt_group_in : List ℕ → Slots → AltGroup
alt_group_in group slots = let operand = found_for verbs.AltGroup slots in record { group = group; supgroup = id_in (operand words.Supgroup); owner = id_in (operand words.Owner) }

-- CONNECT
abbrev pub connect_in : List ℕ → Slots → Connect
connect_in user slots = let operand = found_for verbs.Connect slots in record {
  user = user;
  group = id_in (operand words.Group);
  authority = authority_in (operand words.Authority);
  special = flag_in (operand words.Special);
  nospecial = flag_in (operand words.Nospecial);
  operations = flag_in (operand words.Operations);
  nooperations = flag_in (operand words.Nooperations);
  auditor = flag_in (operand words.Auditor);
  noauditor = flag_in (operand words.Noauditor);
  revoke = flag_in (operand words.Revoke);
  resume = flag_in (operand words.Resume);
}

-- REMOVE
abbrev pub remove_in : List ℕ → Slots → Remove
remove_in user slots = let operand = found_for verbs.Remove slots in record { user = user; group = id_in (operand words.Group) }
