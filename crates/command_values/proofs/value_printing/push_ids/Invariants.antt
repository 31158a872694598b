use Rattle.std.proofs.Common.{◌≡◌, ◌++◌, drop}
use Rattle.command_values.specs.Values.{more_text}
use Rattle.command_values.proofs.value_printing.push_ids.Given as goal

abbrev pub invariant-loop-id : goal.invariant-loop-id
invariant-loop-id l = l.out.items ++ more_text (drop l.id-index l.rest) ≡ l.initial.out.items ++ more_text l.rest
