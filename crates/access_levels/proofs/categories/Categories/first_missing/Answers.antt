-- The first word with a missing number has the least.
use Rattle.std.proofs.Common.{arith}
use Rattle.access_levels.proofs.Missing.{IsLeast, found_in_word, none_in_word, one_missing, none_missing}
use Rattle.access_levels.proofs.categories.Categories.first_missing.Goals as goal

pub returns-then-missing-ne0 : goal.returns-then-missing-ne0
returns-then-missing-ne0 c =
    let least : IsLeast c.args.self.now c.args.wanted.now _ =
    found_in_word c.self.inside.words c.wanted.inside.words c.loop-i.i c.args.self.now c.args.wanted.now c.self.invariant c.wanted.invariant c.self.view_is c.wanted.view_is c.loop-i-test.true c.loop-i.invariant c.if-missing-ne0.true in
    record { value = one_missing _ _ _ least.0 least.1 least.2; least = least }

pub loop-i-preserved : goal.loop-i-preserved
loop-i-preserved c =
    none_in_word c.self.inside.words c.wanted.inside.words c.loop-i.i c.args.self.now c.args.wanted.now c.self.invariant c.wanted.invariant c.self.view_is c.wanted.view_is c.loop-i.invariant c.if-missing-ne0.false

pub returns : goal.returns
returns c =
    record { value = none_missing _ _ (λ m small. c.loop-i.invariant m (omega arith)); least = λ m small. c.loop-i.invariant m (omega arith) }
