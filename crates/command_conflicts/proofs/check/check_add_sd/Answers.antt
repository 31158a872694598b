-- The requirements, and then the limits of a profile that is new.
use Rattle.std.proofs.Common.{◌≡◌, ◌∙◌, None, sym, ap}
use Rattle.std.specs.Result.{result_err}
use Rattle.command_rules.specs.Required.{first_met}
use Rattle.command_rules.specs.ProfileConflicts.{add_sd_requirements, add_sd_limits}
use Rattle.command_rules.proofs.Numbered.{first_met-append, first_met-behind}
use Rattle.command_conflicts.proofs.NewLimits.{add_sd-limits}
use Rattle.command_conflicts.proofs.check.check_add_sd.Goals as goal

pub returns-in-Err : goal.returns-in-Err
returns-in-Err c =
    let command = c.args.command.now in
    let rows = c.args.tables.now.rows in
    sym (first_met-append (add_sd_requirements command rows) (add_sd_limits c.args.issuer.now command rows) c.in-Err.conflict (sym c.check_new_data_set.ensures ∙ ap result_err c.in-Err.is))

pub returns : goal.returns
returns c =
    let command = c.args.command.now in
    let rows = c.args.tables.now.rows in
    let none : first_met (add_sd_requirements command rows) ≡ None = sym c.check_new_data_set.ensures ∙ ap result_err c.in_default.is in
    c.check_data_set_fits.ensures ∙ sym (add_sd-limits c.args.issuer.now command rows c.what_is_kept.ensures.classes none) ∙ sym (first_met-behind (add_sd_requirements command rows) (add_sd_limits c.args.issuer.now command rows) none)
