use Rattle.generic_names.specs.declared.kind.NameKind.TheVariants.{General}
use Rattle.profile_index.specs.Indexed.{AreOf}
use Rattle.name_tests.proofs.index_tests.random_index.Given as goal

abbrev pub invariant-loop-item : goal.invariant-loop-item
invariant-loop-item g l = AreOf General l.index.entries
