use Rattle.std.proofs.Common.{◌≡◌, ◌++◌, drop}
use Rattle.desk_rules.specs.Words.{each_need}
use Rattle.desk_rules.proofs.refusal_words.write_needs.Given as goal

-- what is written so far, and what is to be written of the others
abbrev pub invariant-loop-need : goal.invariant-loop-need
invariant-loop-need l = l.out.items ++ each_need (drop l.need-index l.items) ≡ l.fn.out.items ++ each_need l.items
