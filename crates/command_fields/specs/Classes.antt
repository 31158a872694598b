-- The class CDT, whose profiles define classes, and what the commands on them say.
use Rattle.std.specs.Prelude.{ℕ, Bool, ◌&&◌, nat_le, List, codes}
pub use Rattle.racf_profiles.specs.DynamicClasses.{cdt}
use Rattle.command_fields.specs.declared.class_fields.ClassNames.{ClassNames}
use Rattle.command_fields.specs.declared.class_fields.ClassNames.TheVariants as class_names

abbrev pub class_names_name : ClassNames → List ℕ
class_names_name class_names.Full = codes "FULL"
class_names_name class_names.Id = codes "ID"

-- MAXLENGTH is a number from 1 to 246, the longest that a general resource name can be.
abbrev pub is_longest : ℕ → Bool
is_longest n = nat_le 1 n && nat_le n 246
