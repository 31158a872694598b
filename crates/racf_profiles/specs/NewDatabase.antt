-- The rows of a new database.
use Rattle.std.specs.Prelude.{Bool, true, false, List, [], ◌∷◌, None, codes, map}
use Rattle.access_levels.specs.declared.authorities.GroupAuthority.TheVariants.{MayJoin}
use Rattle.racf_profiles.specs.declared.users.User.{User}
use Rattle.racf_profiles.specs.declared.users.Connect.{Connect}
use Rattle.racf_profiles.specs.declared.groups.Group.{Group}
use Rattle.racf_profiles.specs.declared.options.Options.{Options}
use Rattle.racf_profiles.specs.declared.class_rows.ClassRow.{ClassRow}
use Rattle.racf_profiles.specs.declared.class_rows.LogOption.TheVariants.{ByProfile}
use Rattle.racf_profiles.specs.declared.rows.Rows.{Rows}
use Rattle.racf_profiles.specs.declared.fixed_classes.FixedClass.{FixedClass}
use Rattle.racf_profiles.specs.ClassTable.{class_name, fixed_classes, is_dataset}

-- IBMUSER may do everything, and is connected to SYS1, its default group, with JOIN.
abbrev pub ibmuser_connect : Connect
ibmuser_connect = record { group = codes "SYS1"; authority = MayJoin; special = false; operations = false; auditor = false; revoked = false }

abbrev pub ibmuser : User
ibmuser = record {
  id = codes "IBMUSER";
  default_group = codes "SYS1";
  owner = codes "SYS1";
  name = [];
  attributes = record { special = true; operations = true; auditor = true; restricted = false; revoked = false; uaudit = false };
  classes = [];
  level = 0;
  categories = 0;
  label = None;
  connects = ibmuser_connect ∷ [];
}

-- The group SYS1 has no superior group.
abbrev pub sys1 : Group
sys1 = record { id = codes "SYS1"; superior = None; owner = codes "IBMUSER" }

-- A class without profiles.
abbrev pub empty_class : Bool → FixedClass → ClassRow
empty_class active class = record { name = class_name class; active = active; listed = false; global = false; log = ByProfile; profiles = [] }

abbrev pub no_options : Options
no_options = record { grplist = false; protectall = false; mls = false; categories = [] }

abbrev pub new_classes : (FixedClass → Bool) → List ClassRow
new_classes is_active = map (λ class. empty_class (is_active class) class) fixed_classes

-- The rows of a new database, by which classes are active in it.
abbrev pub new_rows : (FixedClass → Bool) → Rows
new_rows is_active = record { users = ibmuser ∷ []; groups = sys1 ∷ []; classes = new_classes is_active; options = no_options }

-- DATASET alone is active.
abbrev pub new_database : Rows
new_database = new_rows is_dataset
