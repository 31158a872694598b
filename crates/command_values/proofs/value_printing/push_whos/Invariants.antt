use Rattle.std.proofs.Common.{◌≡◌, ◌++◌, drop}
use Rattle.command_values.specs.Entries.{more_whos_text}
use Rattle.command_values.proofs.value_printing.push_whos.Given as goal

abbrev pub invariant-loop-who : goal.invariant-loop-who
invariant-loop-who l = l.out.items ++ more_whos_text (drop l.who-index l.rest) ≡ l.initial.out.items ++ more_whos_text l.rest
