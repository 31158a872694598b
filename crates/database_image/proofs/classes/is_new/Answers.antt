use Rattle.std.proofs.Common.{ap, ◌∙◌}
use Rattle.std.specs.Prelude.{not}
use Rattle.database_image.proofs.BetweenLaws.{any-named}
use Rattle.database_image.proofs.classes.is_new.Goals as goal

pub returns : goal.returns
returns c = ap not (c.is_among.ensures ∙ any-named c.args.name c.args.before.now)
