-- The words decide.
use Rattle.std.proofs.Common.{◌∙◌}
use Rattle.access_levels.proofs.SameWords.{eqb-words}
use Rattle.access_levels.proofs.categories.CategoriesPartialEq.eq.Goals as goal

pub returns : goal.returns
returns c = c.eq.ensures ∙ eqb-words c.self.inside c.other.inside c.args.self.now c.args.other.now c.self.view_is c.other.view_is c.self.invariant c.other.invariant
