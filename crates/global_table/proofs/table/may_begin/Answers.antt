use Rattle.std.proofs.Common.{◌∙◌, sym, arith}
use Rattle.global_table.proofs.SkipLaws.{begins-to-end}
use Rattle.global_table.proofs.table.may_begin.Goals as goal

pub returns : goal.returns
returns c = sym (begins-to-end c.args.member.now c.args.name.now c.loop-i.i (omega arith) c.loop-i.invariant.0) ∙ c.loop-i.invariant.1
