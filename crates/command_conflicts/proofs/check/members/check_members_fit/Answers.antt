-- The count of the members that the step makes.
use Rattle.std.proofs.Common.{◌∙◌, length, refl, sym, ap}
use Rattle.std.specs.Prelude.{option_and_then}
use Rattle.racf_profiles.specs.declared.profiles.Profile.{Profile}
use Rattle.racf_profiles.specs.Lookup.{profile_of}
use Rattle.command_fields.specs.declared.profile_fields.RAlter.{RAlter}
use Rattle.racf_profiles.specs.Limits.{most_members}
use Rattle.command_rules.specs.Members.{members_after}
use Rattle.command_rules.specs.ProfileEffects.{altered_resource}
use Rattle.command_rules.specs.declared.conflict.Limit.TheVariants.{Members}
use Rattle.command_rules.specs.Required.{over}
use Rattle.command_rules.specs.ProfileConflicts.{members_full}
use Rattle.command_conflicts.proofs.NewProfiles.{changed-none, changed-there}
use Rattle.command_conflicts.proofs.check.members.check_members_fit.Goals as goal

pub returns-in-None : goal.returns-in-None
unfolding members_full
returns-in-None c =
    let r = c.args.command.now in
    sym (ap (option_and_then (λ (p : Profile). over Members most_members (length p.members))) (changed-none r.class r.profile (altered_resource r c.args.tables.now.rows) (λ q. refl) c.args.tables.now.rows (ap (λ (a : RAlter). profile_of a.class a.profile c.args.tables.now.rows) (sym c.command.view_is) ∙ sym c.in-None.ensures)))

pub returns-in-Some : goal.returns-in-Some
unfolding members_full
returns-in-Some c =
    let r = c.args.command.now in
    let added = c.as_slice.ensures.value ∙ ap (λ (a : RAlter). a.addmem) c.command.view_is in
    let gone = c.as_slice-in-Some.ensures.value ∙ ap (λ (a : RAlter). a.delmem) c.command.view_is in
    let members = c.as_slice-in-Some-2.ensures.value ∙ ap (λ (q : Profile). q.members) c.old.view_is in
    c.check_count.ensures ∙ ap (over Members most_members) (c.members_count.ensures
    ∙ ap (λ list. length (members_after list c.as_slice-in-Some.result.now c.as_slice-in-Some-2.result.now)) added
    ∙ ap (λ list. length (members_after r.addmem list c.as_slice-in-Some-2.result.now)) gone
    ∙ ap (λ list. length (members_after r.addmem r.delmem list)) members)
    ∙ sym (ap (option_and_then (λ (p : Profile). over Members most_members (length p.members)))
    (changed-there r.class r.profile (altered_resource r c.args.tables.now.rows) (λ q. refl) c.args.tables.now.rows c.in-Some.old.now (ap (λ (a : RAlter). profile_of a.class a.profile c.args.tables.now.rows) (sym c.command.view_is) ∙ sym c.in-Some.ensures)))
