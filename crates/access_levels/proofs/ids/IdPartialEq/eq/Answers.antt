-- Where the numbers are equal, the lengths decide.
use Rattle.std.proofs.Common.{sym, ◌∙◌}
use Rattle.access_levels.proofs.Numbered.{bytes_eq-lengths}
use Rattle.access_levels.proofs.ids.IdPartialEq.eq.Goals as goal

pub returns-then-as_number : goal.returns-then-as_number
returns-then-as_number c =
    bytes_eq-lengths c.self.inside c.other.inside c.args.self.now c.args.other.now c.self.view_is c.other.view_is c.self.invariant c.other.invariant
    (sym c.as_number.ensures ∙ c.if-as_number.true ∙ c.as_number-2.ensures)
