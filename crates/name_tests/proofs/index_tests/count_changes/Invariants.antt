use Rattle.generic_names.specs.declared.kind.NameKind.TheVariants.{General}
use Rattle.profile_index.specs.Indexed.{AreOf}
use Rattle.name_tests.proofs.index_tests.count_changes.Given as goal

abbrev pub invariant-loop-change_number : goal.invariant-loop-change_number
invariant-loop-change_number g l = record { kinds : AreOf General l.index.entries; same : AreOf General l.shared }
