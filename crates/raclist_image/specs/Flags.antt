-- What is set for a class, and its flags.
use Rattle.std.specs.Prelude.{ℕ, Bool, List, Option, option_map}
use Rattle.racf_profiles.specs.declared.class_rows.ClassRow.{ClassRow}
use Rattle.racf_profiles.specs.DynamicClasses.{allows_operations}
use Rattle.racf_profiles.specs.Lookup.{class_of}
use Rattle.racf_profiles.specs.State.{State}
use Rattle.raclist_image.specs.declared.flags.ClassOptions.{ClassOptions}
use Rattle.raclist_image.specs.declared.flags.ClassFlags.{ClassFlags}

-- What the row of a class says beside its profiles.
abbrev pub options_of_row : ClassRow → ClassOptions
options_of_row row = record { active = row.active; listed = row.listed; global = row.global; log = row.log }

-- The same of the class of that name, where there is one.
abbrev pub options_of : List ℕ → State → Option ClassOptions
options_of class state = option_map options_of_row (class_of class state.rows)

-- The flags of a class: the options of its row, and whether OPERATIONS gives access.
abbrev pub flags_of_row : (operations : Bool) → ClassRow → ClassFlags
flags_of_row operations row = record { active = row.active; listed = row.listed; global = row.global; operations = operations; log = row.log }

-- The flags of the class of that name, where there is one.
abbrev pub flags_of : List ℕ → State → Option ClassFlags
flags_of class state = option_map (flags_of_row (allows_operations class state.rows)) (class_of class state.rows)
