-- The count of the list that the step makes.
use Rattle.std.proofs.Common.{◌∙◌, length, refl, sym, ap}
use Rattle.std.specs.Option.{option_copied}
use Rattle.racf_profiles.specs.declared.profiles.Profile.{Profile}
use Rattle.racf_profiles.specs.Limits.{most_list_entries}
use Rattle.command_rules.specs.PermitEffects.{permitted_profile, standard_after}
use Rattle.command_rules.specs.declared.conflict.Limit.TheVariants.{Entries}
use Rattle.command_rules.specs.Required.{over}
use Rattle.command_rules.specs.ProfileConflicts.{list_full, standard_full}
use Rattle.command_conflicts.proofs.NewProfiles.{changed-none, changed-there}
use Rattle.command_conflicts.proofs.check.permit.check_standard_fits.Goals as goal

pub returns-in-None : goal.returns-in-None
unfolding standard_full
returns-in-None c =
    let p = c.args.command.now in
    sym (ap (list_full (λ (q : Profile). length q.standard)) (changed-none p.class p.profile (permitted_profile p) (λ q. refl) c.args.tables.now.rows (sym c.requires ∙ ap option_copied c.in-None.is)))

pub returns-in-Some : goal.returns-in-Some
unfolding standard_full
returns-in-Some c =
    let p = c.args.command.now in
    c.check_count.ensures ∙ ap (over Entries most_list_entries) (c.standard_count.ensures ∙ ap (λ list. length (standard_after p list)) (c.as_slice.ensures.value ∙ ap (λ (q : Profile). q.standard) c.old.view_is))
    ∙ sym (ap (list_full (λ (q : Profile). length q.standard)) (changed-there p.class p.profile (permitted_profile p) (λ q. refl) c.args.tables.now.rows c.in-Some.old.now (sym c.requires ∙ ap option_copied c.in-Some.is)))
