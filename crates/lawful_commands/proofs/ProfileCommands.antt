-- The commands on profiles leave lawful rows.
use Rattle.std.proofs.Common.{◌≡◌, ℕ, ◌≤◌, true, false, cond, not, ◌&&◌, ◌||◌, List, [], length, map, Option, None, Some, is_ok, bytes_eq, refl, sym, ap, subst, ◌∙◌, true≢false, arith}
use Rattle.std.specs.Prelude.{unwrap_or, IfSome}
use Rattle.std.specs.List.{AllByRecursion, IsDistinct}
use Rattle.std.specs.Option.{option_map_or, option_and_then}
use Rattle.std.proofs.lemmas.Bool.{or_right, and_parts, and_from}
use Rattle.access_levels.specs.Spelling.{id_of}
use Rattle.access_levels.specs.Entries.{is_same_who}
use Rattle.access_levels.specs.declared.entries.Entry.{Entry}
use Rattle.generic_names.specs.Spelled.{Spelled, first_qualifier}
use Rattle.generic_names.specs.Covers.{is_generic}
use Rattle.generic_names.specs.Laws.{IsPattern, OneIsBefore, PassedOn}
use Rattle.generic_names.specs.declared.kind.NameKind.TheVariants.{DataSet, General}
use Rattle.racf_profiles.specs.declared.profiles.Profile.{Profile}
use Rattle.racf_profiles.specs.declared.profiles.AuditRule.{AuditRule}
use Rattle.racf_profiles.specs.declared.class_rows.ClassRow.{ClassRow}
use Rattle.racf_profiles.specs.declared.fixed_classes.FixedClass.{FixedClass}
use Rattle.racf_profiles.specs.declared.rows.Rows.{Rows}
use Rattle.racf_profiles.specs.ClassTable.{class_name, facts_of_class}
use Rattle.racf_profiles.specs.DynamicClasses.{cdt, facts_in}
use Rattle.lawful_commands.proofs.ClassTraits.{said-elsewhere}
use Rattle.racf_profiles.specs.Lookup.{is_profile, class_of, profile_of}
use Rattle.racf_profiles.specs.Counts.{profile_count, entry_count}
use Rattle.racf_profiles.specs.Edits.{put_profile, with_profile}
use Rattle.racf_profiles.specs.LawfulProfiles.{AreEntries, is_same_entry, IsProfile, IsClass, is_audit, kind_in}
use Rattle.racf_profiles.specs.Lawful.{AreLawful}
use Rattle.racf_profiles.proofs.OrderedProfiles.{profile-put}
use Rattle.racf_profiles.proofs.States.{find-passes}
use Rattle.group_tree.proofs.Rows.{same}
use Rattle.command_fields.specs.declared.issuer.Issuer.{Issuer}
use Rattle.command_fields.specs.declared.profile_fields.AddSd.{AddSd}
use Rattle.command_fields.specs.declared.profile_fields.AltSd.{AltSd}
use Rattle.command_fields.specs.declared.profile_fields.RDefine.{RDefine}
use Rattle.command_fields.specs.declared.profile_fields.RAlter.{RAlter}
use Rattle.command_fields.specs.declared.profile_fields.Permit.{Permit}
use Rattle.command_fields.specs.declared.fields.CommandFields.{CommandFields}
use Rattle.command_fields.specs.declared.fields.CommandFields.TheVariants as command
use Rattle.command_rules.specs.Members.{options_after}
use Rattle.command_rules.specs.ProfileEffects.{dataset, failures_from_read, new_data_set, altered_data_set, new_resource, altered_resource, profile_put}
use Rattle.command_rules.specs.PermitEffects.{permitted_profile, standard_after, conditional_after}
use Rattle.command_rules.specs.Effects.{step}
use Rattle.command_rules.specs.declared.conflict.Limit.TheVariants.{ClassProfiles, Profiles, Entries, AllEntries, Members, Categories}
use Rattle.command_rules.specs.Conflicts.{first_met, over}
use Rattle.command_rules.specs.ProfileConflicts.{profiles_in, class_profiles_full, profiles_full, list_full, standard_full, conditional_full, entries_full, members_full, categories_full, add_sd_conflicts, add_sd_requirements, add_sd_limits, r_define_conflicts, r_define_requirements, r_define_limits, r_alter_conflicts, permit_conflicts}
use Rattle.command_rules.proofs.Unmet.{AreUnmet, each_unmet, within}
use Rattle.lawful_commands.proofs.RowLists.{distinct-none, all-each}
use Rattle.lawful_commands.proofs.Kept.{Extends, extends_itself, defined-none, defined-kept, name-kept, profile-kept, class-kept}
use Rattle.lawful_commands.proofs.UserParts.{defined-added, defined-taken}
use Rattle.lawful_commands.proofs.MemberLists.{extends-after, categories-after, members-after, is_fitting}
use Rattle.lawful_commands.proofs.EntryLists.{entries-permitted}
use Rattle.lawful_commands.proofs.ProfileNames.{is_spelled_by, resource-class, is_profile_name-new}
use Rattle.lawful_commands.proofs.ProfileRows.{PutsAreCounted, found-at_class, found-profile, entries-put, entries-changed, profile-put-lawful, profile-changed-lawful, profile-changed-alone, changed-found}

-- ---- rules of auditing
audit-given : (given : Option AuditRule) (old : AuditRule) → IfSome given (λ rule. is_audit rule ≡ true) → is_audit old ≡ true → is_audit (unwrap_or given old) ≡ true
audit-given None old h k = k
audit-given (Some rule) old h k = h

pub no-entries : (profile : Profile) → profile.standard ≡ [] → profile.conditional ≡ [] → AreEntries profile
no-entries profile standard conditional = record {
  distinct = subst (λ (list : List Entry). IsDistinct is_same_who (map (λ (entry : Entry). entry.who) list)) (sym standard) (distinct-none is_same_who);
  few = omega (arith, ap length standard);
  distinct_when = subst (IsDistinct is_same_entry) (sym conditional) (distinct-none is_same_entry);
  few_when = omega (arith, ap length conditional);
}

-- ---- limits
pub few-in_class : (issuer : Issuer) (c : CommandFields) (class : List ℕ) (rows : Rows) → class_profiles_full issuer c class rows ≡ None → length (profiles_in class (step issuer c rows)) ≤ 50000
unfolding class_profiles_full
few-in_class issuer c class rows h = within ClassProfiles 50000 _ h

pub few-profiles : (issuer : Issuer) (c : CommandFields) (rows : Rows) → profiles_full issuer c rows ≡ None → profile_count (step issuer c rows).classes ≤ 100000
unfolding profiles_full
few-profiles issuer c rows h = within Profiles 100000 _ h

few-members : (issuer : Issuer) (c : CommandFields) (class : List ℕ) (name : Spelled) (rows : Rows) (profile : Profile) → members_full issuer c class name rows ≡ None → profile_of class name (step issuer c rows) ≡ Some profile → length profile.members ≤ 1000
unfolding members_full
few-members issuer c class name rows profile h found = within Members 1000 _ (sym (ap (option_and_then (λ (p : Profile). over Members 1000 (length p.members))) found) ∙ h)

few-categories : (issuer : Issuer) (c : CommandFields) (rows : Rows) → categories_full issuer c rows ≡ None → length (step issuer c rows).options.categories ≤ 256
unfolding categories_full
few-categories issuer c rows h = within Categories 256 _ h

-- the class after a profile was put
profiles-put : (class : List ℕ) (profile : Profile) (rows : Rows) (row : ClassRow) → class_of class rows ≡ Some row → profiles_in class (profile_put class profile rows) ≡ put_profile profile row.profiles
profiles-put class profile rows row found = ap (λ o. option_map_or (λ (r : ClassRow). r.profiles) o []) (found-at_class class (with_profile profile) (λ r. refl) row rows.classes found)

module _ (one : OneIsBefore) (puts : PutsAreCounted) (passed_on : PassedOn) where
  -- ---- ADDSD
  module _ (issuer : Issuer) (c : AddSd) (rows : Rows) (lawful : AreLawful rows) (pattern : IsPattern c.profile) (kind : c.profile.kind ≡ DataSet) (spelled : is_ok (id_of (first_qualifier c.profile.text)) ≡ true)
      (audit : IfSome c.audit (λ rule. is_audit rule ≡ true)) (met : first_met (add_sd_conflicts issuer c rows) ≡ None) where
    tests-add : AreUnmet (add_sd_conflicts issuer c rows)
    tests-add = each_unmet (add_sd_conflicts issuer c rows) met

    new_data_set-lawful : IsProfile rows dataset (new_data_set issuer c rows)
    new_data_set-lawful = record {
      name = ap (λ b. b && (true && (not (is_generic c.profile) || true))) spelled ∙ or_right (not (is_generic c.profile)) true refl;
      entries = no-entries (new_data_set issuer c rows) refl refl;
      audit = and_from (is_audit (unwrap_or c.audit failures_from_read)) true (audit-given c.audit failures_from_read audit refl) refl;
      members = record { distinct = distinct-none bytes_eq; fitting = refl; few = omega arith; traits = refl };
      categories = defined-added rows c.addcategory 0 (defined-none rows.options);
    }

    pub add_sd-lawful : AreLawful (step issuer (command.AddSd c) rows)
    unfolding add_sd_requirements add_sd_limits tests-add
    add_sd-lawful =
        profile-put-lawful one puts passed_on rows dataset (new_data_set issuer c rows) rows.options lawful pattern kind (λ row found. new_data_set-lawful)
        (λ row found. subst (λ (ps : List Profile). length ps ≤ 50000) (profiles-put dataset (new_data_set issuer c rows) rows row found) (few-in_class issuer (command.AddSd c) dataset rows tests-add.1.1.1.1.1.1.0))
        (few-profiles issuer (command.AddSd c) rows tests-add.1.1.1.1.1.1.1.0)
        (entries-put one puts passed_on rows dataset (new_data_set issuer c rows) lawful kind refl)
        lawful.each_class (extends_itself rows.options) lawful.categories
        (said-elsewhere dataset (with_profile (new_data_set issuer c rows)) (λ row. refl) rows (step issuer (command.AddSd c) rows) refl refl)

  -- ---- ALTDSD
  module _ (issuer : Issuer) (c : AltSd) (rows : Rows) (lawful : AreLawful rows)
      (audit : IfSome c.audit (λ rule. is_audit rule ≡ true)) (global_audit : IfSome c.globalaudit (λ rule. is_audit rule ≡ true)) where
    altered_data_set-lawful : (old : Profile) → profile_of dataset c.profile rows ≡ Some old → IsProfile rows dataset old → IsProfile rows dataset (altered_data_set c rows old)
    altered_data_set-lawful old found is = record {
      name = is.name;
      entries = record { distinct = is.entries.distinct; few = is.entries.few; distinct_when = is.entries.distinct_when; few_when = is.entries.few_when };
      audit = and_from (is_audit (unwrap_or c.audit old.audit)) (is_audit (unwrap_or c.globalaudit old.global_audit))
          (audit-given c.audit old.audit audit ((and_parts (is_audit old.audit) (is_audit old.global_audit) is.audit).0))
          (audit-given c.globalaudit old.global_audit global_audit ((and_parts (is_audit old.audit) (is_audit old.global_audit) is.audit).1));
      members = record { distinct = is.members.distinct; fitting = is.members.fitting; few = is.members.few; traits = is.members.traits };
      categories = defined-added rows c.addcategory _ (defined-taken rows c.delcategory old.categories is.categories);
    }

    pub alt_sd-lawful : AreLawful (step issuer (command.AltSd c) rows)
    alt_sd-lawful =
        profile-changed-alone one puts passed_on rows dataset c.profile (altered_data_set c rows) lawful (λ p. refl) altered_data_set-lawful
        (entries-changed one puts passed_on rows dataset c.profile (altered_data_set c rows) lawful (λ p. refl) (λ p. omega arith))
        (λ own p. refl)

  -- ---- RDEFINE
  module _ (issuer : Issuer) (c : RDefine) (rows : Rows) (lawful : AreLawful rows) (pattern : IsPattern c.profile) (general : c.profile.kind ≡ General)
      (chosen : bytes_eq c.class cdt ≡ false)
      (spelled : (fixed : FixedClass) → c.class ≡ class_name fixed → bytes_eq c.class dataset ≡ false → is_spelled_by (facts_of_class fixed).names c.profile ≡ true)
      (audit : IfSome c.audit (λ rule. is_audit rule ≡ true)) (fit : AllByRecursion (λ member. is_fitting c.class c.profile.text member ≡ true) c.addmem)
      (met : first_met (r_define_conflicts issuer c rows) ≡ None) where
    tests-define : AreUnmet (r_define_conflicts issuer c rows)
    tests-define = each_unmet (r_define_conflicts issuer c rows) met

    kind : c.profile.kind ≡ kind_in c.class
    unfolding r_define_requirements r_define_limits tests-define
    kind = general ∙ sym (ap (λ b. cond b DataSet General) (resource-class rows c.class c.profile tests-define.1.0).0)

    extends : Extends rows.options (options_after c.addmem rows.options)
    extends = extends-after c.addmem rows.options

    new_resource-lawful : (row : ClassRow) → class_of c.class rows ≡ Some row → IsProfile (record rows { options = options_after c.addmem rows.options }) c.class (new_resource issuer c rows)
    unfolding r_define_requirements r_define_limits tests-define
    new_resource-lawful row found = record {
      name = name-kept rows (record rows { options = options_after c.addmem rows.options }) (λ name h. h) extends c.profile (facts_in c.class rows)
          (is_profile_name-new rows c.class c.profile lawful chosen spelled tests-define.1.0 tests-define.1.1.0 tests-define.1.1.1.1.0 tests-define.1.1.1.1.1.1.1.1.1.1.1.1.0);
      entries = no-entries (new_resource issuer c rows) refl refl;
      audit = and_from (is_audit (unwrap_or c.audit failures_from_read)) true (audit-given c.audit failures_from_read audit refl) refl;
      members = members-after rows.options c.class c.addmem [] (record (new_resource issuer c rows) { members = [] }) (new_resource issuer c rows) refl refl
          (record { distinct = distinct-none bytes_eq; fitting = refl; few = omega arith; traits = ap (λ b. not b || false) chosen }) chosen fit
          (few-members issuer (command.RDefine c) c.class c.profile rows (new_resource issuer c rows) tests-define.1.1.1.1.1.1.1.1.1.1.0 (profile-put c.class (new_resource issuer c rows) row rows.classes found));
      categories = defined-kept rows.options (options_after c.addmem rows.options) extends _ (defined-added rows c.addcategory 0 (defined-none rows.options));
    }

    pub r_define-lawful : AreLawful (step issuer (command.RDefine c) rows)
    unfolding r_define_requirements r_define_limits tests-define
    r_define-lawful =
        profile-put-lawful one puts passed_on rows c.class (new_resource issuer c rows) (options_after c.addmem rows.options) lawful pattern kind new_resource-lawful
        (λ row found. subst (λ (ps : List Profile). length ps ≤ 50000) (profiles-put c.class (new_resource issuer c rows) rows row found) (few-in_class issuer (command.RDefine c) c.class rows tests-define.1.1.1.1.1.1.1.1.0))
        (few-profiles issuer (command.RDefine c) rows tests-define.1.1.1.1.1.1.1.1.1.0)
        (entries-put one puts passed_on rows c.class (new_resource issuer c rows) lawful kind refl)
        (all-each (IsClass rows) (IsClass (record rows { options = options_after c.addmem rows.options })) (λ class is. class-kept rows (record rows { options = options_after c.addmem rows.options }) (λ name h. h) extends class refl is) rows.classes lawful.each_class)
        extends
        (categories-after c.addmem rows.options lawful.categories (few-categories issuer (command.RDefine c) rows tests-define.1.1.1.1.1.1.1.1.1.1.1.0))
        (said-elsewhere c.class (with_profile (new_resource issuer c rows)) (λ row. refl) rows (step issuer (command.RDefine c) rows) refl chosen)

  -- ---- RALTER
  module _ (issuer : Issuer) (c : RAlter) (rows : Rows) (lawful : AreLawful rows) (chosen : bytes_eq c.class cdt ≡ false)
      (audit : IfSome c.audit (λ rule. is_audit rule ≡ true)) (global_audit : IfSome c.globalaudit (λ rule. is_audit rule ≡ true)) (fit : AllByRecursion (λ member. is_fitting c.class c.profile.text member ≡ true) c.addmem)
      (met : first_met (r_alter_conflicts issuer c rows) ≡ None) where
    tests-alter : AreUnmet (r_alter_conflicts issuer c rows)
    tests-alter = each_unmet (r_alter_conflicts issuer c rows) met

    extends-alter : Extends rows.options (options_after c.addmem rows.options)
    extends-alter = extends-after c.addmem rows.options

    altered_resource-lawful : (old : Profile) → profile_of c.class c.profile rows ≡ Some old → IsProfile rows c.class old
        → IsProfile (record rows { options = options_after c.addmem rows.options }) c.class (altered_resource c rows old)
    unfolding r_alter_conflicts tests-alter
    altered_resource-lawful old found is =
        let kept = profile-kept rows (record rows { options = options_after c.addmem rows.options }) (λ name h. h) extends-alter c.class old refl is in
        let there = found-profile one puts passed_on c.class c.profile rows old found in
        let text : c.profile.text ≡ old.name.text = sym (same old.name.text c.profile.text (find-passes (is_profile c.profile) old there.0.profiles there.2)) in
        record {
          name = kept.name;
          entries = record { distinct = is.entries.distinct; few = is.entries.few; distinct_when = is.entries.distinct_when; few_when = is.entries.few_when };
          audit = and_from (is_audit (unwrap_or c.audit old.audit)) (is_audit (unwrap_or c.globalaudit old.global_audit))
              (audit-given c.audit old.audit audit ((and_parts (is_audit old.audit) (is_audit old.global_audit) is.audit).0))
              (audit-given c.globalaudit old.global_audit global_audit ((and_parts (is_audit old.audit) (is_audit old.global_audit) is.audit).1));
          members = members-after rows.options c.class c.addmem c.delmem old (altered_resource c rows old) refl refl kept.members chosen
              (subst (λ (t : List ℕ). AllByRecursion (λ member. is_fitting c.class t member ≡ true) c.addmem) text fit)
              (few-members issuer (command.RAlter c) c.class c.profile rows (altered_resource c rows old) tests-alter.1.1.1.1.1.1.1.0
              (changed-found one puts passed_on rows c.class c.profile (altered_resource c rows) old (λ p. refl) found));
          categories = defined-kept rows.options (options_after c.addmem rows.options) extends-alter _ (defined-added rows c.addcategory _ (defined-taken rows c.delcategory old.categories is.categories));
        }

    pub r_alter-lawful : AreLawful (step issuer (command.RAlter c) rows)
    unfolding r_alter_conflicts tests-alter
    r_alter-lawful =
        profile-changed-lawful one puts passed_on rows c.class c.profile (altered_resource c rows) (options_after c.addmem rows.options) lawful (λ p. refl) altered_resource-lawful
        (entries-changed one puts passed_on rows c.class c.profile (altered_resource c rows) lawful (λ p. refl) (λ p. omega arith))
        (all-each (IsClass rows) (IsClass (record rows { options = options_after c.addmem rows.options })) (λ class is. class-kept rows (record rows { options = options_after c.addmem rows.options }) (λ name h. h) extends-alter class refl is) rows.classes lawful.each_class)
        extends-alter
        (categories-after c.addmem rows.options lawful.categories (few-categories issuer (command.RAlter c) rows tests-alter.1.1.1.1.1.1.1.1.0))
        (λ own p. absurd (true≢false (sym own ∙ chosen)))

  -- ---- PERMIT
  module _ (issuer : Issuer) (c : Permit) (rows : Rows) (lawful : AreLawful rows) (met : first_met (permit_conflicts issuer c rows) ≡ None) where
    tests-permit : AreUnmet (permit_conflicts issuer c rows)
    tests-permit = each_unmet (permit_conflicts issuer c rows) met

    few-entries : (entries : Profile → ℕ) (old : Profile) → profile_of c.class c.profile rows ≡ Some old → list_full entries (profile_of c.class c.profile (step issuer (command.Permit c) rows)) ≡ None → entries (permitted_profile c old) ≤ 1000
    few-entries entries old found h =
        within Entries 1000 _ (sym (ap (list_full entries) (changed-found one puts passed_on rows c.class c.profile (permitted_profile c) old (λ p. refl) found)) ∙ h)

    pub few-standard : (old : Profile) → profile_of c.class c.profile rows ≡ Some old → length (standard_after c old.standard) ≤ 1000
    unfolding permit_conflicts tests-permit standard_full
    few-standard old found = few-entries (λ (p : Profile). length p.standard) old found tests-permit.1.1.1.0

    pub few-conditional : (old : Profile) → profile_of c.class c.profile rows ≡ Some old → length (conditional_after c old.conditional) ≤ 1000
    unfolding permit_conflicts tests-permit conditional_full
    few-conditional old found = few-entries (λ (p : Profile). length p.conditional) old found tests-permit.1.1.1.1.0

    permitted-lawful : (old : Profile) → profile_of c.class c.profile rows ≡ Some old → IsProfile rows c.class old → IsProfile rows c.class (permitted_profile c old)
    permitted-lawful old found is = record {
      name = is.name;
      entries = entries-permitted c old is.entries (few-standard old found) (few-conditional old found);
      audit = is.audit;
      members = record { distinct = is.members.distinct; fitting = is.members.fitting; few = is.members.few; traits = is.members.traits };
      categories = is.categories;
    }

    few-all_entries : entry_count (step issuer (command.Permit c) rows).classes ≤ 1000000
    unfolding permit_conflicts tests-permit entries_full
    few-all_entries = within AllEntries 1000000 _ tests-permit.1.1.1.1.1.0

    pub permit-lawful : AreLawful (step issuer (command.Permit c) rows)
    permit-lawful = profile-changed-alone one puts passed_on rows c.class c.profile (permitted_profile c) lawful (λ p. refl) permitted-lawful few-all_entries (λ own p. refl)
