-- The new entries count in place of the old ones.
use Rattle.std.proofs.Common.{◌≡◌, ◌∙◌, ◌+◌, length, refl, sym, ap, arith}
use Rattle.std.specs.Option.{option_copied}
use Rattle.racf_profiles.specs.declared.profiles.Profile.{Profile}
use Rattle.racf_profiles.specs.declared.rows.Rows.{Rows}
use Rattle.racf_profiles.specs.Counts.{entry_count}
use Rattle.racf_profiles.specs.Limits.{most_entries_in_all}
use Rattle.command_rules.specs.PermitEffects.{permitted_profile, after_permit, standard_after, conditional_after}
use Rattle.command_rules.specs.declared.conflict.Limit.TheVariants.{AllEntries}
use Rattle.command_rules.specs.Required.{over}
use Rattle.command_rules.specs.ProfileConflicts.{entries_full}
use Rattle.command_conflicts.proofs.NewProfiles.{changed-absent, entry_count-changed, entries-le, not_over}
use Rattle.command_conflicts.proofs.check.permit.check_entries_fit.Goals as goal

pub returns-in-None : goal.returns-in-None
unfolding entries_full
returns-in-None c =
    let p = c.args.command.now in
    let rows = c.args.tables.now.rows in
    let same = changed-absent p.class p.profile (permitted_profile p) (λ q. refl) rows (sym c.requires ∙ ap option_copied c.in-None.is) in
    sym (ap (λ (r : Rows). over AllEntries most_entries_in_all (entry_count r.classes)) same ∙ not_over AllEntries most_entries_in_all (entry_count rows.classes) c.what_is_kept.ensures.entries)

pub returns-in-Some : goal.returns-in-Some
unfolding entries_full
returns-in-Some c =
    let p = c.args.command.now in
    let rows = c.args.tables.now.rows in
    let old = c.in-Some.old.now in
    let found = sym c.requires ∙ ap option_copied c.in-Some.is in
    let counted = entry_count-changed p.class p.profile (permitted_profile p) (λ q. refl) rows old found c.puts_are_counted.ensures.entries c.what_is_kept.ensures.classes in
    let most = entries-le p.class p.profile (permitted_profile p) (λ q. refl) rows old found in
    let standard = c.standard_count.ensures ∙ ap (λ list. length (standard_after p list)) (c.as_slice.ensures.value ∙ ap (λ (q : Profile). q.standard) c.old.view_is) in
    let conditional = c.conditional_count.ensures ∙ ap (λ list. length (conditional_after p list)) (c.as_slice-in-Some.ensures.value ∙ ap (λ (q : Profile). q.conditional) c.old.view_is) in
    let count = c.entries.ensures.count ∙ ap entry_count c.classes.ensures in
    let same : c.saturating_sub.result + (c.standard_count.result + c.conditional_count.result) ≡ entry_count (after_permit p rows).classes =
    omega (arith, counted, most, count, standard, conditional, c.saturating_sub.ensures, c.entries_in.ensures) in
    c.check_sum.ensures ∙ ap (over AllEntries most_entries_in_all) same
