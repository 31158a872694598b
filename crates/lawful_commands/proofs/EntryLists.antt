-- No two entries of an access list are for one user or group after PERMIT.
use Rattle.std.proofs.Common.{◌≡◌, ◌≤◌, Bool, true, false, cond, not, ◌&&◌, List, [], ◌∷◌, length, map, fold, Option, None, Some, bytes_eq, refl, sym, ap, subst, ◌∙◌}
use Rattle.std.specs.Prelude.{filter}
use Rattle.std.specs.List.{IsDistinct}
use Rattle.std.proofs.lemmas.Bool.{and_parts}
use Rattle.access_levels.specs.Entries.{is_same_who, is_same_port}
use Rattle.access_levels.specs.Level.{port_class_name}
use Rattle.access_levels.specs.declared.entries.Who.{Who}
use Rattle.access_levels.specs.declared.entries.Entry.{Entry}
use Rattle.access_levels.specs.declared.entries.CondEntry.{CondEntry}
use Rattle.access_levels.specs.declared.entries.Condition.{Condition}
use Rattle.racf_profiles.specs.declared.profiles.Profile.{Profile}
use Rattle.racf_profiles.specs.Limits.{most_list_entries}
use Rattle.racf_profiles.specs.LawfulProfiles.{AreEntries, is_same_entry}
use Rattle.access_lists.specs.Lists.{is_for, is_for_under, entry_put}
use Rattle.group_tree.proofs.Rows.{same}
use Rattle.command_fields.specs.declared.resets.Reset.{Reset}
use Rattle.command_fields.specs.declared.resets.Reset.TheVariants as reset
use Rattle.command_fields.specs.declared.profile_fields.Permit.{Permit}
use Rattle.command_rules.specs.PermitEffects.{standard_reset, conditional_reset, with_entry, with_conditional, standard_entries, conditional_entries, standard_after, conditional_after, permitted_profile, level_of}
use Rattle.command_rules.proofs.ListCounts.{same_who}
use Rattle.lawful_commands.proofs.RowLists.{distinct-filter, distinct-put, map-itself, distinct-none}

like-who : (a b c : Who) → is_same_who a b ≡ true → is_same_who a c ≡ false → is_same_who b c ≡ false
like-who a b c e f = ap (λ w. is_same_who w c) (sym (same_who a b e)) ∙ f

like-entry : (a b c : CondEntry) → is_same_entry a b ≡ true → is_same_entry a c ≡ false → is_same_entry b c ≡ false
like-entry a b c e f =
    let parts = and_parts (is_same_port a.condition b.condition) (is_same_who a.who b.who) e in
    let port = and_parts (bytes_eq (port_class_name a.condition.class) (port_class_name b.condition.class)) (bytes_eq a.condition.name b.condition.name) parts.0 in
    ap (λ n. bytes_eq n (port_class_name c.condition.class) && bytes_eq b.condition.name c.condition.name && is_same_who b.who c.who) (sym (same (port_class_name a.condition.class) (port_class_name b.condition.class) port.0))
    ∙ ap (λ n. bytes_eq (port_class_name a.condition.class) (port_class_name c.condition.class) && bytes_eq n c.condition.name && is_same_who b.who c.who) (sym (same a.condition.name b.condition.name port.1))
    ∙ ap (λ w. bytes_eq (port_class_name a.condition.class) (port_class_name c.condition.class) && bytes_eq a.condition.name c.condition.name && is_same_who w c.who) (sym (same_who a.who b.who parts.1))
    ∙ f

-- ---- the standard list
abbrev whose : List Entry → List Who
whose list = map (λ (entry : Entry). entry.who) list

distinct-with_entry : (c : Permit) (list : List Entry) (who : Who) → IsDistinct is_same_who (whose list) → IsDistinct is_same_who (whose (with_entry c list who))
distinct-with_entry c list who d = by c.delete
  where
    by : (b : Bool) → IsDistinct is_same_who (whose (cond b (filter (λ entry. not (is_for who entry)) list) (entry_put (is_for who) (record { who = who; level = level_of c }) list)))
    by true = distinct-filter is_same_who (λ (entry : Entry). entry.who) (λ entry. not (is_for who entry)) list d
    by false = distinct-put is_same_who (λ (entry : Entry). entry.who) like-who (is_for who) (record { who = who; level = level_of c }) (λ entry. refl) list d

distinct-entries : (c : Permit) (whos : List Who) (list : List Entry) → IsDistinct is_same_who (whose list) → IsDistinct is_same_who (whose (fold (with_entry c) list whos))
distinct-entries c [] list d = d
distinct-entries c (who ∷ whos) list d = distinct-entries c whos (with_entry c list who) (distinct-with_entry c list who d)

distinct-reset : (given : Option Reset) (list : List Entry) → IsDistinct is_same_who (whose list) → IsDistinct is_same_who (whose (standard_reset given list))
distinct-reset None list d = d
distinct-reset (Some reset.All) list d = distinct-none is_same_who
distinct-reset (Some reset.Standard) list d = distinct-none is_same_who
distinct-reset (Some reset.When) list d = d

distinct-standard : (c : Permit) (list : List Entry) → IsDistinct is_same_who (whose list) → IsDistinct is_same_who (whose (standard_after c list))
distinct-standard c list d = by c.when
  where
    by : (o : Option Condition) → IsDistinct is_same_who (whose (standard_entries c o (standard_reset c.reset list)))
    by None = distinct-entries c c.id (standard_reset c.reset list) (distinct-reset c.reset list d)
    by (Some condition) = distinct-reset c.reset list d

-- ---- the conditional list
distinct-with_conditional : (c : Permit) (condition : Condition) (list : List CondEntry) (who : Who) → IsDistinct is_same_entry list → IsDistinct is_same_entry (with_conditional c condition list who)
distinct-with_conditional c condition list who d = by c.delete
  where
    by : (b : Bool) → IsDistinct is_same_entry (cond b (filter (λ entry. not (is_for_under condition who entry)) list) (entry_put (is_for_under condition who) (record { condition = condition; who = who; level = level_of c }) list))
    by true = subst (IsDistinct is_same_entry) (map-itself _) (distinct-filter is_same_entry (λ (entry : CondEntry). entry) (λ entry. not (is_for_under condition who entry)) list (subst (IsDistinct is_same_entry) (sym (map-itself list)) d))
    by false = subst (IsDistinct is_same_entry) (map-itself _)
        (distinct-put is_same_entry (λ (entry : CondEntry). entry) like-entry (is_for_under condition who) (record { condition = condition; who = who; level = level_of c }) (λ entry. refl) list (subst (IsDistinct is_same_entry) (sym (map-itself list)) d))

distinct-conditionals : (c : Permit) (condition : Condition) (whos : List Who) (list : List CondEntry) → IsDistinct is_same_entry list → IsDistinct is_same_entry (fold (with_conditional c condition) list whos)
distinct-conditionals c condition [] list d = d
distinct-conditionals c condition (who ∷ whos) list d = distinct-conditionals c condition whos (with_conditional c condition list who) (distinct-with_conditional c condition list who d)

distinct-reset_when : (given : Option Reset) (list : List CondEntry) → IsDistinct is_same_entry list → IsDistinct is_same_entry (conditional_reset given list)
distinct-reset_when None list d = d
distinct-reset_when (Some reset.All) list d = distinct-none is_same_entry
distinct-reset_when (Some reset.Standard) list d = d
distinct-reset_when (Some reset.When) list d = distinct-none is_same_entry

distinct-conditional : (c : Permit) (list : List CondEntry) → IsDistinct is_same_entry list → IsDistinct is_same_entry (conditional_after c list)
distinct-conditional c list d = by c.when
  where
    by : (o : Option Condition) → IsDistinct is_same_entry (conditional_entries c o (conditional_reset c.reset list))
    by None = distinct-reset_when c.reset list d
    by (Some condition) = distinct-conditionals c condition c.id (conditional_reset c.reset list) (distinct-reset_when c.reset list d)

-- ---- both
pub entries-permitted : (c : Permit) (old : Profile) → AreEntries old → length (standard_after c old.standard) ≤ most_list_entries → length (conditional_after c old.conditional) ≤ most_list_entries → AreEntries (permitted_profile c old)
entries-permitted c old are few few_when = record {
  distinct = distinct-standard c old.standard are.distinct;
  few = few;
  distinct_when = distinct-conditional c old.conditional are.distinct_when;
  few_when = few_when;
}
