use Rattle.generic_names.specs.declared.kind.NameKind.TheVariants.{General}
use Rattle.profile_index.specs.Indexed.{AreOf}
use Rattle.name_tests.proofs.index_tests.few_names.Given as goal

abbrev pub invariant-loop-text : goal.invariant-loop-text
invariant-loop-text g l = AreOf General l.index
