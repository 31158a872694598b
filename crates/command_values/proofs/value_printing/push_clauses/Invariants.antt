use Rattle.std.proofs.Common.{◌≡◌, ◌++◌, drop, map}
use Rattle.command_values.specs.Values.{more_text, clause_text}
use Rattle.command_values.proofs.value_printing.push_clauses.Given as goal

abbrev pub invariant-loop-clause : goal.invariant-loop-clause
invariant-loop-clause l = l.out.items ++ more_text (map clause_text (drop l.clause-index l.rest)) ≡ l.initial.out.items ++ more_text (map clause_text l.rest)
