use Rattle.std.proofs.Common.{◌+◌, ◌∙◌, ap, sym}
use Rattle.generic_names.specs.Faults.{qualifiers_fault}
use Rattle.generic_names.proofs.QualifierLaws.{rest_at-past}
use Rattle.generic_names.proofs.reading.fault_in_qualifiers.Goals as goal

pub returns : goal.returns
returns c =
    let past = rest_at-past c.loop-at.at c.args.text.now c.loop-at-test.false in
    sym (ap (λ qs. qualifiers_fault c.args.form c.args.kind c.loop-at.number (c.loop-at.at + 1) qs) past) ∙ c.loop-at.invariant.same
