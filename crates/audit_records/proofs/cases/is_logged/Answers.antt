use Rattle.std.proofs.Common.{◌∙◌}
use Rattle.std.specs.Prelude.{◌==◌, ◌&&◌}
use Rattle.std.proofs.lemmas.Bool.{ne_eqb}
use Rattle.decision.specs.Table.{is_warning}
use Rattle.audit_records.specs.Logged.{is_global, is_always, is_never, is_protect_all, is_of_option, success_reached, failures_reached}
use Rattle.audit_records.proofs.NoneBefore.{not_warning, not_global, not_always, not_never, none_before}
use Rattle.audit_records.proofs.cases.is_logged.Goals as goal

pub returns-in_default-3 : goal.returns-in_default-3
returns-in_default-3 c =
    let d = c.args.decision.now in
    let option = c.args.option in
    let asked = c.args.asked in
    c.is_asked_for.ensures
    ∙ none_before c.args.fast (is_warning d.rule) (is_global d.rule) (is_always option) (is_never option) (d.rc == 4) c.args.acee.now.attributes.uaudit
    (is_protect_all d.rule) (is_of_option option d.rc) (d.rc == 0 && success_reached asked d.audits) (d.rc == 8 && failures_reached asked d.audits)
    c.if-fast.false (not_warning d.rule c.in_default-2.not-Warning) (not_global d.rule c.in_default-2.not-Global) (not_always option c.in_default-3.not-Always) (not_never option c.in_default-3.not-Never) (ne_eqb d.rc 4 c.if-decision-eq4.false) c.if-acee.false
