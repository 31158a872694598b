use Rattle.std.proofs.Common.{◌≡◌, ◌+◌, ◌-◌, length, fold, take}
use Rattle.command_rules.specs.Members.{with_member, without_members}
use Rattle.command_rules.proofs.members.members_count.Given as goal

-- the members once those so far are there, and one for each that is still to come
abbrev pub invariant-loop-i : goal.invariant-loop-i
invariant-loop-i l = l.count ≡ length (fold with_member (without_members l.gone l.old) (take l.i l.added)) + (length l.added - l.i)
