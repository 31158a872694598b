use Rattle.std.proofs.Common.{◌≡◌, ◌++◌, drop, map}
use Rattle.command_values.specs.Values.{more_text}
use Rattle.command_values.specs.Members.{member_text}
use Rattle.command_values.proofs.value_printing.push_members.Given as goal

abbrev pub invariant-loop-member : goal.invariant-loop-member
invariant-loop-member l = l.out.items ++ more_text (map member_text (drop l.member-index l.rest)) ≡ l.initial.out.items ++ more_text (map member_text l.rest)
