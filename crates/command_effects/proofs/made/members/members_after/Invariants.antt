use Rattle.std.proofs.Common.{◌≡◌, fold, drop}
use Rattle.command_rules.specs.Members.{with_member, without_members}
use Rattle.command_effects.proofs.made.members.members_after.Given as goal

-- what is left to add makes the same of what was added
abbrev pub invariant-loop-member : goal.invariant-loop-member
invariant-loop-member l = fold with_member l.members.items (drop l.member-index l.added) ≡ fold with_member (without_members l.gone l.fn.members.items) l.added
