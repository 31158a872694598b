use Rattle.generic_names.specs.declared.kind.NameKind.TheVariants.{General}
use Rattle.profile_index.specs.Indexed.{AreOf}
use Rattle.name_tests.proofs.index_tests.worked_rows.Given as goal

abbrev pub invariant-loop-row : goal.invariant-loop-row
invariant-loop-row g l = AreOf General l.index
