use Rattle.std.proofs.Common.{sym, ◌∙◌}
use Rattle.database_image.proofs.BetweenLaws.{named-fixed, named-new}
use Rattle.database_image.proofs.classes.is_class_at.Goals as goal

pub returns-then-are_first : goal.returns-then-are_first
returns-then-are_first c = c.is_fixed_at.ensures ∙ named-fixed c.args.before.now c.args.name (sym c.are_first.ensures ∙ c.if-are_first.true)

pub returns-else-are_first : goal.returns-else-are_first
returns-else-are_first c = c.is_new.ensures ∙ named-new c.args.before.now c.args.name (sym c.are_first.ensures ∙ c.if-are_first.false)
