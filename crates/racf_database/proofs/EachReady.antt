-- What each command makes that meets no conflict can be made without memory, once room was taken.
use Rattle.std.proofs.Common.{◌≡◌, true, cond, [], Option, None, Some, is_some, refl, sym, ap, ◌∙◌}
use Rattle.std.specs.Prelude.{IfSome}
use Rattle.generic_names.specs.Laws.{NotBoth, OneIsBefore, PassedOn, ReadsBack}
use Rattle.generic_names.specs.declared.kind.NameKind.TheVariants.{DataSet, General}
use Rattle.racf_profiles.specs.declared.profiles.Profile.{Profile}
use Rattle.racf_profiles.specs.declared.class_rows.ClassRow.{ClassRow}
use Rattle.racf_profiles.specs.declared.rows.Rows.{Rows}
use Rattle.racf_profiles.specs.Edits.{changed}
use Rattle.racf_profiles.specs.Lookup.{is_profile, user_of, class_of, profile_of}
use Rattle.racf_profiles.specs.LawfulProfiles.{kind_in, names_of, IsProfile}
use Rattle.racf_profiles.specs.Lawful.{AreLawful}
use Rattle.racf_profiles.proofs.Found.{all-found}
use Rattle.row_tables.specs.Tables.{Tables}
use Rattle.row_tables.specs.Applying.{CanApply, HasRoom}
use Rattle.command_fields.specs.declared.issuer.Issuer.{Issuer}
use Rattle.command_fields.specs.declared.fields.CommandFields.{CommandFields}
use Rattle.command_fields.specs.declared.fields.CommandFields.TheVariants as command
use Rattle.command_fields.specs.declared.profile_fields.RDefine.{RDefine}
use Rattle.command_fields.specs.declared.profile_fields.Permit.{Permit}
use Rattle.command_fields.specs.LawfulFields.{AreLawfulFields}
use Rattle.command_rules.specs.Effects.{new_user, altered_user, connected_user, removed_user}
use Rattle.command_rules.specs.ProfileEffects.{dataset, new_data_set, altered_data_set, new_resource, altered_resource, altered_class_profile}
use Rattle.racf_profiles.specs.DynamicClasses.{cdt}
use Rattle.command_rules.specs.PermitEffects.{permitted_profile, ListsFit, PermitFits}
use Rattle.command_rules.specs.Edits.{edits_of}
use Rattle.command_rules.specs.Conflicts.{first_met, conflicts}
use Rattle.command_rules.specs.ProfileConflicts.{r_define_conflicts, r_define_requirements, r_define_limits, permit_conflicts}
use Rattle.command_rules.proofs.Unmet.{each_unmet}
use Rattle.lawful_commands.proofs.FieldFacts.{data_set-lawful, class_profile-lawful, class-spelled, class-spelled_if}
use Rattle.lawful_commands.proofs.GroupCommands.{can_remove, not_root}
use Rattle.lawful_commands.proofs.Kept.{found-named}
use Rattle.lawful_commands.proofs.ClassLists.{fixed-there}
use Rattle.lawful_commands.proofs.ProfileNames.{resource-class}
use Rattle.lawful_commands.proofs.ProfileRows.{PutsAreCounted, found-profile, is-class}
use Rattle.lawful_commands.proofs.ProfileCommands.{few-standard, few-conditional}
use Rattle.racf_database.proofs.Ready.{new_user-ready, user-ready, new_group-ready, group-ready}
use Rattle.racf_database.proofs.OptionReady.{set_ropts-ready}
use Rattle.racf_database.proofs.ClassReady.{define_class-ready, r_delete-ready}
use Rattle.racf_database.proofs.ProfileReady.{profile-ready, changed-ready, alone-ready}

found-row : (o : Option ClassRow) → is_some o ≡ true → (row : ClassRow) × (o ≡ Some row)
found-row None h = cc
found-row (Some row) h = (row, refl)

module _ (one : OneIsBefore) (puts : PutsAreCounted) (passed_on : PassedOn) (not_both : NotBoth) (reads_back : ReadsBack) where
  -- ---- PERMIT leaves lists that fit
  module _ (issuer : Issuer) (c : Permit) (rows : Rows) (lawful : AreLawful rows) (met : first_met (permit_conflicts issuer c rows) ≡ None) where
    lists-fit : (old : Profile) → profile_of c.class c.profile rows ≡ Some old → ListsFit c old
    lists-fit old found =
        let there = found-profile one puts passed_on c.class c.profile rows old found in
        let is : IsProfile rows there.0.name old = all-found (IsProfile rows there.0.name) (is_profile c.profile) there.0.profiles old (is-class one puts passed_on rows lawful c.class c.profile there.0 there.1).profiles there.2 in
        record {
          standard = few-standard one puts passed_on issuer c rows lawful met old found;
          conditional = few-conditional one puts passed_on issuer c rows lawful met old found;
        }

    pub permit-fits : PermitFits c rows
    permit-fits gives = by (profile_of c.class c.profile rows) refl
      where
        by : (o : Option Profile) → profile_of c.class c.profile rows ≡ o → IfSome o (ListsFit c)
        by None none = tt
        by (Some old) found = lists-fit old found

  -- ---- RDEFINE finds its class
  module _ (issuer : Issuer) (c : RDefine) (rows : Rows) (met : first_met (r_define_conflicts issuer c rows) ≡ None) where
    class-there : (row : ClassRow) × (class_of c.class rows ≡ Some row)
    unfolding r_define_requirements r_define_limits
    class-there = found-row (class_of c.class rows) (resource-class rows c.class c.profile (each_unmet (r_define_conflicts issuer c rows) met).1.0).1

    general-kind : c.profile.kind ≡ General → c.profile.kind ≡ kind_in c.class
    unfolding r_define_requirements r_define_limits
    general-kind kind = kind ∙ sym (ap (λ b. cond b DataSet General) (resource-class rows c.class c.profile (each_unmet (r_define_conflicts issuer c rows) met).1.0).0)

  -- ---- DATASET is there
  data_sets : (rows : Rows) → AreLawful rows → (row : ClassRow) × (class_of dataset rows ≡ Some row)
  data_sets rows lawful = found-row (class_of dataset rows) (found-named dataset rows.classes ∙ fixed-there dataset (names_of rows.classes) lawful.classes.names refl)

  module _ (tables : Tables) (lawful : AreLawful tables.rows) where
    pub can_apply-edits_of : (issuer : Issuer) (c : CommandFields) → AreLawfulFields c → first_met (conflicts issuer c tables.rows) ≡ None → HasRoom tables (edits_of issuer c tables.rows)
        → AreLawful (changed (edits_of issuer c tables.rows) tables.rows) → CanApply tables (edits_of issuer c tables.rows)
    can_apply-edits_of issuer (command.AddUser c) f h room after = new_user-ready tables (new_user issuer c tables.rows) room after
    can_apply-edits_of issuer (command.AltUser c) f h room after = user-ready tables (altered_user c tables.rows) (user_of c.user tables.rows) room after
    can_apply-edits_of issuer (command.DelUser c) f h room after = (tt, tt)
    can_apply-edits_of issuer (command.AddGroup c) f h room after = new_group-ready tables issuer c lawful h room
    can_apply-edits_of issuer (command.AltGroup c) f h room after = group-ready tables issuer c lawful h
    can_apply-edits_of issuer (command.DelGroup c) f h room after = (record { can = can_remove issuer c tables.rows lawful h; no_root = not_root issuer c tables.rows lawful h }, tt)
    can_apply-edits_of issuer (command.Connect c) f h room after = user-ready tables (connected_user issuer c) (user_of c.user tables.rows) room after
    can_apply-edits_of issuer (command.Remove c) f h room after = user-ready tables (removed_user issuer c) (user_of c.user tables.rows) room after
    can_apply-edits_of issuer (command.AddSd c) f h room after =
        let row = data_sets tables.rows lawful in
        profile-ready tables dataset (new_data_set issuer c tables.rows) [] tables.rows.options row.0 row.1 (data_set-lawful reads_back c.profile f.profile).1 room after
    can_apply-edits_of issuer (command.AltSd c) f h room after =
        alone-ready tables one puts passed_on lawful dataset c.profile (altered_data_set c tables.rows) (λ p. refl) (profile_of dataset c.profile tables.rows) refl room after
    can_apply-edits_of issuer (command.DelSd c) f h room after = (tt, tt)
    can_apply-edits_of issuer (command.RDefine c) f h room after =
        let row = class-there issuer c tables.rows h in
        profile-ready tables c.class (new_resource issuer c tables.rows) c.addmem tables.rows.options row.0 row.1
        (general-kind issuer c tables.rows h (class_profile-lawful c.class c.profile f.profile reads_back).1) room after
    can_apply-edits_of issuer (command.RAlter c) f h room after =
        changed-ready tables one puts passed_on lawful c.class c.profile (altered_resource c tables.rows) (λ p. refl) c.addmem tables.rows.options (profile_of c.class c.profile tables.rows) refl room after
    can_apply-edits_of issuer (command.DefineClass c) f h room after =
        define_class-ready tables issuer c f h room after (class_profile-lawful cdt c.profile f.profile reads_back).1 (class-spelled c.profile f.profile)
    can_apply-edits_of issuer (command.AlterClass c) f h room after =
        alone-ready tables one puts passed_on lawful cdt c.profile (altered_class_profile c) (λ p. refl) (profile_of cdt c.profile tables.rows) refl room after
    can_apply-edits_of issuer (command.RDelete c) f h room after = r_delete-ready one puts passed_on not_both tables c lawful (class-spelled_if c.class c.profile f.profile) f.kind h
    can_apply-edits_of issuer (command.Permit c) f h room after =
        alone-ready tables one puts passed_on lawful c.class c.profile (permitted_profile c) (λ p. refl) (profile_of c.class c.profile tables.rows) refl room after
    can_apply-edits_of issuer (command.SetRopts c) f h room after = set_ropts-ready tables c lawful
