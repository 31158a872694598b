use Rattle.std.proofs.Common.{refl, sym, subst}
use Rattle.racf_profiles.specs.Lawful.{AreLawful}
use Rattle.racf_profiles.specs.ClassTable.{is_dataset}
use Rattle.racf_database.proofs.database.Database.new.Goals as goal

-- the rows of a new database are lawful, and nothing is prepared
pub invariant_of-result : goal.invariant_of-result
invariant_of-result c = record { lawful = subst AreLawful (sym c.in_ok-tables.ensures) (c.new_rows_are_lawful.ensures is_dataset refl); ready = tt }
