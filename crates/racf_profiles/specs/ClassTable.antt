-- The fixed classes: their names, their order, and what each allows.
use Rattle.std.specs.Prelude.{ℕ, Bool, true, false, ◌||◌, ◌&&◌, not, List, [], ◌∷◌, Option, None, option_map, codes, map}
use Rattle.std.specs.Str.{bytes_eq}
use Rattle.std.specs.List.{find}
use Rattle.racf_profiles.specs.declared.fixed_classes.FixedClass.{FixedClass}
use Rattle.racf_profiles.specs.declared.fixed_classes.FixedClass.TheVariants.{Dataset, Facility, Terminal, Console, Jesinput, Appcport, Appl, Opercmds, Surrogat, Tapevol, Dasdvol, Secdata, Seclabel, Global, Cdt}
use Rattle.racf_profiles.specs.declared.fixed_classes.NameForm.{NameForm}
use Rattle.racf_profiles.specs.declared.fixed_classes.NameForm.TheVariants as names
use Rattle.racf_profiles.specs.declared.fixed_classes.ClassFacts.{ClassFacts}

abbrev pub class_name : FixedClass → List ℕ
class_name Dataset = codes "DATASET"
class_name Facility = codes "FACILITY"
class_name Terminal = codes "TERMINAL"
class_name Console = codes "CONSOLE"
class_name Jesinput = codes "JESINPUT"
class_name Appcport = codes "APPCPORT"
class_name Appl = codes "APPL"
class_name Opercmds = codes "OPERCMDS"
class_name Surrogat = codes "SURROGAT"
class_name Tapevol = codes "TAPEVOL"
class_name Dasdvol = codes "DASDVOL"
class_name Secdata = codes "SECDATA"
class_name Seclabel = codes "SECLABEL"
class_name Global = codes "GLOBAL"
class_name Cdt = codes "CDT"

abbrev pub fixed_classes : List FixedClass
fixed_classes = Dataset ∷ Facility ∷ Terminal ∷ Console ∷ Jesinput ∷ Appcport ∷ Appl ∷ Opercmds ∷ Surrogat ∷ Tapevol ∷ Dasdvol ∷ Secdata ∷ Seclabel ∷ Global ∷ Cdt ∷ []

-- The fixed class of a name.
abbrev pub fixed_class : List ℕ → Option FixedClass
fixed_class name = find (λ class. bytes_eq (class_name class) name) fixed_classes

-- The form of its profiles' names, whether OPERATIONS counts, whether profiles may be generic, and whether it may be
-- RACLISTed. A fixed class sets no length of its own to names.
abbrev pub allows : NameForm → Bool → Bool → Bool → ClassFacts
allows form operations generic raclist = record { names = form; longest = None; operations = operations; generic = generic; raclist = raclist }

abbrev pub yes : Bool
yes = true

abbrev pub no : Bool
no = false

abbrev pub facts_of_class : FixedClass → ClassFacts
facts_of_class Dataset = allows names.DataSet yes yes no
facts_of_class Facility = allows names.General no yes yes
facts_of_class Terminal = allows names.General no yes yes
facts_of_class Console = allows names.General no yes yes
facts_of_class Jesinput = allows names.General no yes yes
facts_of_class Appcport = allows names.General no yes yes
facts_of_class Appl = allows names.General no yes yes
facts_of_class Opercmds = allows names.General no yes yes
facts_of_class Surrogat = allows names.General no yes yes
facts_of_class Tapevol = allows names.General yes yes yes
facts_of_class Dasdvol = allows names.General yes yes yes
facts_of_class Secdata = allows names.LevelOrCategory no no no
facts_of_class Seclabel = allows names.Identifier no no yes
facts_of_class Global = allows names.Class no no no
facts_of_class Cdt = allows names.Identifier no no no

abbrev pub class_table : List ClassFacts
class_table = map facts_of_class fixed_classes

-- What the class of a name allows.
abbrev pub facts_of : List ℕ → Option ClassFacts
facts_of name = option_map facts_of_class (fixed_class name)

-- What holds of each class: only data sets and general resources have generic profiles, only classes with generic
-- profiles heed OPERATIONS, and names of data sets stand in DATASET alone.
abbrev pub has_wide_names : NameForm → Bool
has_wide_names names.DataSet = true
has_wide_names names.General = true
has_wide_names _ = false

abbrev pub has_dataset_names : NameForm → Bool
has_dataset_names names.DataSet = true
has_dataset_names _ = false

abbrev pub is_dataset : FixedClass → Bool
is_dataset Dataset = true
is_dataset _ = false

abbrev pub bool_eq : Bool → Bool → Bool
bool_eq true b = b
bool_eq false b = not b

abbrev pub is_consistent : FixedClass → Bool
is_consistent class =
    let facts = facts_of_class class in
    bool_eq facts.generic (has_wide_names facts.names) && (not facts.operations || facts.generic) && bool_eq (has_dataset_names facts.names) (is_dataset class)
