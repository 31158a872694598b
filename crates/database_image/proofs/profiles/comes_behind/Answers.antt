use Rattle.std.proofs.Common.{sym, ◌∙◌}
use Rattle.database_image.proofs.Behind.{last-behind}
use Rattle.database_image.proofs.profiles.comes_behind.Goals as goal

pub returns-in-Some : goal.returns-in-Some
returns-in-Some c = c.before-in-Some.ensures ∙ sym (last-behind c.args.before.now c.in-Some.last.now c.args.name.now (sym c.in-Some.ensures.value))
