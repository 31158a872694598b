use Rattle.std.proofs.Common.{sym, ◌∙◌, arith}
use Rattle.database_image.proofs.Sets.{not-below, is-below}
use Rattle.database_image.proofs.categories.is_below.Goals as goal

pub returns-then-has : goal.returns-then-has
returns-then-has c = sym (not-below c.args.set.now c.args.count c.loop-n.n (omega (arith, c.loop-n.auto.n)) (sym c.has.ensures ∙ c.if-has.true))

pub returns : goal.returns
returns c = sym (is-below c.args.set.now c.args.count c.requires.few c.requires.bounded (λ m a b. c.loop-n.invariant m a (omega (arith, b, c.loop-n-test.false, c.loop-n.auto.n-end))))
