use Rattle.std.proofs.Common.{List, ℕ, sym, subst}
use Rattle.generic_names.specs.OrderKey.{AreDiscrete}
use Rattle.generic_names.proofs.DiscreteKeys.{resource-discrete}
use Rattle.generic_names.proofs.resource.Resource.order_key.Goals as goal

pub of_discrete-requires-clause-discrete : goal.of_discrete-requires-clause-discrete
of_discrete-requires-clause-discrete c =
    subst (λ (xs : List ℕ). AreDiscrete xs) (sym c.text.ensures.text) (resource-discrete c.self.inside.name c.self.invariant)
