-- The words that say which access lists PERMIT empties.
use Rattle.std.specs.Prelude.{ℕ, List, codes}
use Rattle.command_fields.specs.declared.resets.Reset.{Reset}
use Rattle.command_fields.specs.declared.resets.Reset.TheVariants as resets

abbrev pub reset_name : Reset → List ℕ
reset_name resets.All = codes "ALL"
reset_name resets.Standard = codes "STANDARD"
reset_name resets.When = codes "WHEN"
