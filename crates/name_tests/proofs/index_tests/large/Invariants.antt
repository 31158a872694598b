use Rattle.generic_names.specs.declared.kind.NameKind.TheVariants.{General}
use Rattle.profile_index.specs.Indexed.{AreOf}
use Rattle.name_tests.proofs.index_tests.large.Given as goal

abbrev pub invariant-loop-number : goal.invariant-loop-number
invariant-loop-number g l = AreOf General l.index.entries
