use Rattle.std.proofs.Common.{List, ℕ, sym, subst}
use Rattle.generic_names.specs.Spelled.{qualifiers}
use Rattle.generic_names.specs.Before.{ranks}
use Rattle.generic_names.specs.OrderKey.{AreRanks}
use Rattle.generic_names.proofs.KeyLaws.{pattern-ranks}
use Rattle.generic_names.proofs.pattern.Pattern.gap.Goals as goal

pub behind-requires-clause-ranked : goal.behind-requires-clause-ranked
behind-requires-clause-ranked c =
    subst (λ (xs : List ℕ). AreRanks (ranks (qualifiers xs))) (sym c.text.ensures.text) (pattern-ranks c.self.inside.name c.self.invariant)
