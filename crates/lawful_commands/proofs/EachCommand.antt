-- Each command that meets no conflict leaves lawful rows.
use Rattle.std.proofs.Common.{◌≡◌, None, refl}
use Rattle.generic_names.specs.Laws.{NotBoth, OneIsBefore, PassedOn, ReadsBack}
use Rattle.racf_profiles.specs.declared.rows.Rows.{Rows}
use Rattle.racf_profiles.specs.Lawful.{AreLawful}
use Rattle.command_fields.specs.declared.issuer.Issuer.{Issuer}
use Rattle.command_fields.specs.declared.fields.CommandFields.{CommandFields}
use Rattle.command_fields.specs.declared.fields.CommandFields.TheVariants as command
use Rattle.command_fields.specs.LawfulFields.{AreLawfulFields}
use Rattle.racf_profiles.specs.DynamicClasses.{cdt}
use Rattle.command_rules.specs.ProfileEffects.{dataset}
use Rattle.command_rules.specs.Effects.{step}
use Rattle.command_rules.specs.Conflicts.{conflict_of}
use Rattle.lawful_commands.proofs.FieldFacts.{name-lawful, clauth-lawful, audit-lawful, data_set-lawful, class_profile-lawful, class_profile-spelled, class-spelled, class-spelled_if, members-lawful}
use Rattle.lawful_commands.proofs.UserCommands.{add_user-lawful, alt_user-lawful, del_user-lawful, connect-lawful, remove-lawful}
use Rattle.lawful_commands.proofs.GroupCommands.{add_group-lawful, alt_group-lawful, del_group-lawful}
use Rattle.lawful_commands.proofs.ProfileRows.{PutsAreCounted, profile-dropped-lawful}
use Rattle.lawful_commands.proofs.OptionCommands.{set_ropts-lawful}
use Rattle.lawful_commands.proofs.ClassCommands.{define_class-lawful, alter_class-lawful}
use Rattle.lawful_commands.proofs.ClassDeletions.{r_delete-lawful}
use Rattle.lawful_commands.proofs.ProfileCommands.{add_sd-lawful, alt_sd-lawful, r_define-lawful, r_alter-lawful, permit-lawful}

module _ (one : OneIsBefore) (puts : PutsAreCounted) (passed_on : PassedOn) (not_both : NotBoth) (reads_back : ReadsBack) where
  pub step-lawful : (issuer : Issuer) (c : CommandFields) (rows : Rows) → AreLawful rows → AreLawfulFields c → conflict_of issuer c rows ≡ None → AreLawful (step issuer c rows)
  step-lawful issuer (command.AddUser c) rows lawful f h = add_user-lawful issuer c rows lawful (name-lawful c.name f.name) (clauth-lawful c.clauth f.clauth) h
  step-lawful issuer (command.AltUser c) rows lawful f h = alt_user-lawful issuer c rows lawful (name-lawful c.name f.name) (clauth-lawful c.clauth f.clauth) h
  step-lawful issuer (command.DelUser c) rows lawful f h = del_user-lawful issuer c rows lawful h
  step-lawful issuer (command.AddGroup c) rows lawful f h = add_group-lawful issuer c rows lawful h f.group
  step-lawful issuer (command.AltGroup c) rows lawful f h = alt_group-lawful issuer c rows lawful h
  step-lawful issuer (command.DelGroup c) rows lawful f h = del_group-lawful issuer c rows lawful h
  step-lawful issuer (command.Connect c) rows lawful f h = connect-lawful issuer c rows lawful h
  step-lawful issuer (command.Remove c) rows lawful f h = remove-lawful issuer c rows lawful h
  step-lawful issuer (command.AddSd c) rows lawful f h =
      let name = data_set-lawful reads_back c.profile f.profile in
      add_sd-lawful one puts passed_on issuer c rows lawful name.0 name.1 name.2 (audit-lawful c.audit f.audit) h
  step-lawful issuer (command.AltSd c) rows lawful f h = alt_sd-lawful one puts passed_on issuer c rows lawful (audit-lawful c.audit f.audit) (audit-lawful c.globalaudit f.globalaudit)
  step-lawful issuer (command.DelSd c) rows lawful f h = profile-dropped-lawful one puts passed_on rows dataset c.profile refl lawful
  step-lawful issuer (command.RDefine c) rows lawful f h =
      let name = class_profile-lawful c.class c.profile f.profile reads_back in
      r_define-lawful one puts passed_on issuer c rows lawful name.0 name.1 f.chosen (class_profile-spelled c.class c.profile f.profile f.chosen) (audit-lawful c.audit f.audit) (members-lawful c.class c.profile f.profile c.addmem f.addmem) h
  step-lawful issuer (command.RAlter c) rows lawful f h =
      r_alter-lawful one puts passed_on issuer c rows lawful f.chosen (audit-lawful c.audit f.audit) (audit-lawful c.globalaudit f.globalaudit) (members-lawful c.class c.profile f.profile c.addmem f.addmem) h
  step-lawful issuer (command.DefineClass c) rows lawful f h = let name = class_profile-lawful cdt c.profile f.profile reads_back in
      define_class-lawful one puts passed_on issuer c rows lawful name.0 name.1 (class-spelled c.profile f.profile) f.maxlength h
  step-lawful issuer (command.AlterClass c) rows lawful f h = alter_class-lawful one puts passed_on issuer c rows lawful
  step-lawful issuer (command.RDelete c) rows lawful f h = r_delete-lawful one puts passed_on not_both c rows lawful (class-spelled_if c.class c.profile f.profile) f.kind h
  step-lawful issuer (command.Permit c) rows lawful f h = permit-lawful one puts passed_on issuer c rows lawful h
  step-lawful issuer (command.SetRopts c) rows lawful f h = set_ropts-lawful c rows h lawful
