use Rattle.std.proofs.Common.{◌≡◌, fold, drop}
use Rattle.command_rules.specs.Effects.{with_class}
use Rattle.command_effects.proofs.made.classes.with_classes.Given as goal

-- what is left to add makes the same of what was added
abbrev pub invariant-loop-name : goal.invariant-loop-name
invariant-loop-name l = fold with_class l.classes.items (drop l.name-index l.added) ≡ fold with_class l.old l.added
