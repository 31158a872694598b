use Rattle.std.proofs.Common.{◌≡◌, ◌++◌, drop}
use Rattle.racf_profiles.specs.Edits.{drop_row}
use Rattle.racf_profiles.specs.Names.{is_to}
use Rattle.command_effects.proofs.ConnectLaws.{rest_without}
use Rattle.command_effects.proofs.made.connects.without_connect.Given as goal

abbrev pub invariant-loop-connection : goal.invariant-loop-connection
invariant-loop-connection l = l.connects.items ++ rest_without l.group l.met (drop l.connection-index l.old) ≡ drop_row (is_to l.group) l.old
