use Rattle.std.proofs.Common.{◌∙◌, sym, arith}
use Rattle.generic_names.proofs.CoverLaws.{matches-end}
use Rattle.generic_names.proofs.covering.matches_qualifier.Goals as goal

pub returns : goal.returns
returns c = sym (matches-end c.args.pattern.now c.args.qualifier.now c.loop-i.i (omega arith) c.loop-i.invariant.0) ∙ c.loop-i.invariant.1
