-- The requirements, and then the limits of a class that is new.
use Rattle.std.proofs.Common.{◌≡◌, ◌∙◌, None, sym, ap}
use Rattle.std.specs.Result.{result_err}
use Rattle.command_rules.specs.Required.{first_met}
use Rattle.command_rules.specs.ProfileConflicts.{define_class_requirements, define_class_limits}
use Rattle.command_rules.proofs.Numbered.{first_met-append, first_met-behind}
use Rattle.command_conflicts.proofs.NewLimits.{define_class-limits}
use Rattle.command_conflicts.proofs.check.check_define_class.Goals as goal

pub returns-in-Err : goal.returns-in-Err
returns-in-Err c =
    let command = c.args.command.now in
    let rows = c.args.tables.now.rows in
    sym (first_met-append (define_class_requirements command rows) (define_class_limits c.args.issuer.now command rows) c.in-Err.conflict (sym c.check_new_class.ensures ∙ ap result_err c.in-Err.is))

pub returns : goal.returns
returns c =
    let command = c.args.command.now in
    let rows = c.args.tables.now.rows in
    let none : first_met (define_class_requirements command rows) ≡ None = sym c.check_new_class.ensures ∙ ap result_err c.in_default.is in
    c.check_class_fits.ensures ∙ sym (define_class-limits c.args.issuer.now command rows none) ∙ sym (first_met-behind (define_class_requirements command rows) (define_class_limits c.args.issuer.now command rows) none)
