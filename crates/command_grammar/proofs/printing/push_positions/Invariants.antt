use Rattle.std.proofs.Common.{◌≡◌, ◌++◌, drop}
use Rattle.command_grammar.specs.Canon.{positions_text}
use Rattle.command_grammar.proofs.printing.push_positions.Given as goal

abbrev pub invariant-loop-content : goal.invariant-loop-content
invariant-loop-content l = l.out.items ++ positions_text (drop l.content-index l.positions) ≡ l.fn.out.items ++ positions_text l.positions
