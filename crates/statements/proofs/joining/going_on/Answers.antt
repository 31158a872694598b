use Rattle.std.proofs.Common.{None, Some, sym, ◌∙◌}
use Rattle.statements.proofs.MarkLaws.{looks_on, found, no_last}
use Rattle.statements.proofs.joining.going_on.Goals as goal

pub returns-in_err-mark : goal.returns-in_err-mark
returns-in_err-mark c =
    rw c.from_residual.ensures (found c.loop-rest.rest.now c.args.text.now c.is_blank.result None c.in-len1-up.len_at_least c.is_blank.ensures c.if-not-is_blank.true (sym (c.in_err-mark.was) ∙ c.of.ensures) c.loop-rest.invariant)

pub returns-then-not-is_blank : goal.returns-then-not-is_blank
returns-then-not-is_blank c =
    found c.loop-rest.rest.now c.args.text.now c.is_blank.result (Some c.in_ok-mark.mark) c.in-len1-up.len_at_least c.is_blank.ensures c.if-not-is_blank.true (sym (c.in_ok-mark.was) ∙ c.of.ensures) c.loop-rest.invariant

pub loop-rest-preserved : goal.loop-rest-preserved
loop-rest-preserved c =
    looks_on c.loop-rest.rest.now c.args.text.now c.is_blank.result c.in-len1-up.len_at_least c.is_blank.ensures c.if-not-is_blank.false c.loop-rest.invariant

pub returns : goal.returns
returns c = no_last c.loop-rest.rest.now c.args.text.now c.in_default.len_below c.loop-rest.invariant
