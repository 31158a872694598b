use Rattle.std.proofs.Common.{◌≡◌, ◌+◌, ◌-◌, length, fold, take}
use Rattle.command_rules.specs.Members.{with_category_name}
use Rattle.command_rules.proofs.members.categories_count.Given as goal

-- the categories once those of the members so far are there, and one for each member that is still to come
abbrev pub invariant-loop-i : goal.invariant-loop-i
invariant-loop-i l = l.count ≡ length (fold with_category_name l.old (take l.i l.added)) + (length l.added - l.i)
