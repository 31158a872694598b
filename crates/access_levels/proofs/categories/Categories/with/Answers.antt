-- The word that is written makes the set.
use Rattle.std.proofs.Common.{◌∙◌, ap, arith}
use Rattle.std.proofs.lemmas.Nat.{or_lt}
use Rattle.access_levels.specs.Category.{is_member, including}
use Rattle.access_levels.proofs.Bits.{AreWords-set, joined_with, is_member-including}
use Rattle.access_levels.proofs.categories.Categories.with.Goals as goal

pub invariant_of-result : goal.invariant_of-result
invariant_of-result c = AreWords-set c.self.inside.words _ _ c.self.invariant (or_lt 64 _ _ (c.self.invariant.fit _) (omega arith))

pub returns-clause-value : goal.returns-clause-value
returns-clause-value c =
    rw c.from.ensures (joined_with c.self.inside.words c.args.n c.self.invariant (omega arith) ∙ ap (λ set. including set c.args.n) c.self.view_is)

pub returns-clause-members : goal.returns-clause-members
returns-clause-members c = λ m. ap (λ set. is_member set m) (returns-clause-value c) ∙ is_member-including c.args.self c.args.n m
