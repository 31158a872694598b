use Rattle.std.proofs.Common.{◌≡◌, fold, drop}
use Rattle.command_rules.specs.Members.{with_category_name}
use Rattle.command_effects.proofs.made.members.categories_defined.Given as goal

-- what is left to add makes the same of what was added
abbrev pub invariant-loop-member : goal.invariant-loop-member
invariant-loop-member l = fold with_category_name l.names.items (drop l.member-index l.added) ≡ fold with_category_name l.old l.added
