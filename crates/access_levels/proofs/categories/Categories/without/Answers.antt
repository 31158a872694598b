-- The word that is written makes the set.
use Rattle.std.proofs.Common.{◌∙◌, ap, arith}
use Rattle.access_levels.specs.Category.{is_member, excluding}
use Rattle.access_levels.proofs.Bits.{joined_without, is_member-excluding}
use Rattle.access_levels.proofs.categories.Categories.without.Goals as goal

pub returns-clause-value : goal.returns-clause-value
returns-clause-value c =
    rw c.from.ensures (joined_without c.self.inside.words c.args.n c.self.invariant (omega arith) ∙ ap (λ set. excluding set c.args.n) c.self.view_is)

pub returns-clause-members : goal.returns-clause-members
returns-clause-members c = λ m. ap (λ set. is_member set m) (returns-clause-value c) ∙ is_member-excluding c.args.self c.args.n m
