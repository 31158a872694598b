-- The requirements, then the limits of a profile that is new, and then what the class allows.
use Rattle.std.proofs.Common.{◌≡◌, ◌∷◌, [], ◌++◌, ◌∙◌, List, Option, Some, None, sym, ap, refl}
use Rattle.std.specs.Result.{result_err}
use Rattle.command_rules.specs.declared.conflict.Conflict.{Conflict}
use Rattle.command_rules.specs.Required.{first_met}
use Rattle.command_rules.specs.ProfileConflicts.{r_define_requirements, r_define_limits, name_not_allowed}
use Rattle.command_rules.proofs.Numbered.{first_met-append, first_met-behind}
use Rattle.command_conflicts.proofs.NewLimits.{r_define-limits}
use Rattle.command_conflicts.proofs.check.check_r_define.Goals as goal

one-met : (test : Option Conflict) → first_met (test ∷ []) ≡ test
one-met None = refl
one-met (Some conflict) = refl

pub returns-in-Err : goal.returns-in-Err
returns-in-Err c =
    let command = c.args.command.now in
    let rows = c.args.tables.now.rows in
    sym (first_met-append (r_define_requirements command rows) (r_define_limits c.args.issuer.now command rows ++ name_not_allowed command.class command.profile rows ∷ []) c.in-Err.conflict
    (sym c.check_new_resource.ensures ∙ ap result_err c.in-Err.is))

pub returns-in-Err-check_resource_fits : goal.returns-in-Err-check_resource_fits
returns-in-Err-check_resource_fits c =
    let command = c.args.command.now in
    let rows = c.args.tables.now.rows in
    let none : first_met (r_define_requirements command rows) ≡ None = sym c.check_new_resource.ensures ∙ ap result_err c.in_default.is in
    let limits = r_define_limits c.args.issuer.now command rows in
    let last = name_not_allowed command.class command.profile rows ∷ [] in
    sym (first_met-behind (r_define_requirements command rows) (limits ++ last) none
    ∙ first_met-append limits last c.in-Err-check_resource_fits.conflict (r_define-limits c.args.issuer.now command rows none ∙ sym c.check_resource_fits.ensures ∙ ap result_err c.in-Err-check_resource_fits.is))

pub returns : goal.returns
returns c =
    let command = c.args.command.now in
    let rows = c.args.tables.now.rows in
    let none : first_met (r_define_requirements command rows) ≡ None = sym c.check_new_resource.ensures ∙ ap result_err c.in_default.is in
    let limits = r_define_limits c.args.issuer.now command rows in
    let last = name_not_allowed command.class command.profile rows ∷ [] in
    let fits : first_met limits ≡ None = r_define-limits c.args.issuer.now command rows none ∙ sym c.check_resource_fits.ensures ∙ ap result_err c.in_default-check_resource_fits.is in
    c.check_name_allowed.ensures
    ∙ sym (first_met-behind (r_define_requirements command rows) (limits ++ last) none ∙ first_met-behind limits last fits ∙ one-met (name_not_allowed command.class command.profile rows))
