use Rattle.std.proofs.Common.{List, ℕ, ◌∙◌, ap, map, sym, arith}
use Rattle.std.proofs.lemmas.List.{take_all}
use Rattle.generic_names.specs.Spelled.{qualifiers}
use Rattle.generic_names.specs.Before.{ranks}
use Rattle.generic_names.specs.OrderKey.{squeezed}
use Rattle.generic_names.proofs.KeyLaws.{ranks-length}
use Rattle.generic_names.proofs.DiscreteKeys.{none-generic}
use Rattle.generic_names.proofs.order_key.OrderKey.of.Goals as goal

pub returns-then-has_generic_byte : goal.returns-then-has_generic_byte
returns-then-has_generic_byte c =
    let size = ranks-length c.args.text.now in
    c.of_first.ensures ∙ ap (λ (some : List ℕ). map squeezed some) (take_all 248 (ranks (qualifiers c.args.text.now)) (omega (arith, size, c.requires)))

pub of_discrete-requires-clause-discrete : goal.of_discrete-requires-clause-discrete
of_discrete-requires-clause-discrete c = none-generic c.args.text.now (λ i. omega (arith, c.type_inv.text i)) (sym c.has_generic_byte.ensures ∙ c.if-has_generic_byte.false)
