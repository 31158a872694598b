use Rattle.std.proofs.Common.{sym, subst}
use Rattle.std.specs.Prelude.{IfSome}
use Rattle.command_rules.specs.PermitEffects.{ListsFit}
use Rattle.command_effects.proofs.edits.profiles.edits_of_permit.Goals as goal

pub permitted_profile-requires-clause-standard_fits : goal.permitted_profile-requires-clause-standard_fits
permitted_profile-requires-clause-standard_fits c = λ gives. (subst (λ o. IfSome o (ListsFit c.args.command.now)) (sym c.in-Some.ensures) (c.requires gives)).standard

pub permitted_profile-requires-clause-conditional_fits : goal.permitted_profile-requires-clause-conditional_fits
permitted_profile-requires-clause-conditional_fits c = λ gives. (subst (λ o. IfSome o (ListsFit c.args.command.now)) (sym c.in-Some.ensures) (c.requires gives)).conditional
