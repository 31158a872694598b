-- The levels that a request may ask for.
use Rattle.std.specs.Prelude.{Bool, true, false}
use Rattle.access_levels.specs.declared.levels.Level.{Level}
use Rattle.access_levels.specs.declared.levels.Level.TheVariants.{NoAccess, Execute, Read, Update, Control, Alter}

abbrev pub may_be_asked : Level → Bool
may_be_asked NoAccess = false
may_be_asked Execute = false
may_be_asked Read = true
may_be_asked Update = true
may_be_asked Control = true
may_be_asked Alter = true
