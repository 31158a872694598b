-- The bit that is read is the set's.
use Rattle.std.proofs.Common.{nat_eq, ap, ◌∙◌}
use Rattle.access_levels.specs.Category.{is_member}
use Rattle.access_levels.proofs.Bits.{bit_read}
use Rattle.access_levels.proofs.categories.Categories.has.Goals as goal

pub returns : goal.returns
returns c =
    rw c.from.ensures (ap (λ x. nat_eq x 1) (bit_read c.self.inside.words c.args.n c.self.invariant) ∙ ap (λ set. is_member set c.args.n) c.self.view_is)
