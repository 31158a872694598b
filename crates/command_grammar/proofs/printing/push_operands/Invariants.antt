use Rattle.std.proofs.Common.{◌≡◌, ◌++◌, length}
use Rattle.command_grammar.specs.Canon.{operands_text}
use Rattle.command_grammar.proofs.printing.push_operands.Given as goal

abbrev pub invariant-loop-row : goal.invariant-loop-row
invariant-loop-row l = l.out.items ++ operands_text l.rows l.slots ≡ l.fn.out.items ++ operands_text l.fn.rows l.fn.slots

abbrev pub decreases-loop-row : goal.decreases-loop-row
decreases-loop-row l = length l.rows
