use Rattle.std.proofs.Common.{◌∙◌, sym, arith}
use Rattle.generic_names.proofs.CoverLaws.{begins-short}
use Rattle.generic_names.proofs.covering.begins_with.Goals as goal

pub returns-then-i-text : goal.returns-then-i-text
returns-then-i-text c = sym (begins-short c.args.front.now c.args.text.now c.loop-i.i (omega arith) (omega arith)) ∙ c.loop-i.invariant.1
