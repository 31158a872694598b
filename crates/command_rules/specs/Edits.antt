-- The edits that a command makes: each is the whole new row, or drops one; of a class it sets flags, lists or unlists,
-- or it adds one.
use Rattle.std.specs.Prelude.{ℕ, Bool, true, false, ◌&&◌, ◌||◌, not, List, [], ◌∷◌, ◌++◌, map, if◌then◌else◌, Option, None, Some}
use Rattle.std.specs.List.{filter, list_any, list_all}
use Rattle.racf_profiles.specs.declared.class_rows.ClassRow.{ClassRow}
use Rattle.command_fields.specs.declared.log_clauses.LogClause.{LogClause}
use Rattle.command_fields.specs.declared.option_fields.SetRopts.{SetRopts}
use Rattle.command_rules.specs.OptionEffects.{names_class, set_class, set_options}
use Rattle.racf_profiles.specs.declared.users.User.{User}
use Rattle.racf_profiles.specs.declared.groups.Group.{Group}
use Rattle.racf_profiles.specs.declared.profiles.Profile.{Profile}
use Rattle.racf_profiles.specs.declared.profiles.Member.{Member}
use Rattle.racf_profiles.specs.declared.options.Options.{Options}
use Rattle.racf_profiles.specs.declared.rows.Rows.{Rows}
use Rattle.racf_profiles.specs.declared.edits.Edit.{Edit}
use Rattle.racf_profiles.specs.declared.edits.Edit.TheVariants.{PutUser, DropUser, PutGroup, DropGroup, PutProfile, DropProfile, PutOptions, PutClass, List as ListCopy, Unlist, AddClass, DropClass}
use Rattle.racf_profiles.specs.Lookup.{user_of, group_of, profile_of}
use Rattle.command_fields.specs.declared.issuer.Issuer.{Issuer}
use Rattle.command_fields.specs.declared.fields.CommandFields.{CommandFields}
use Rattle.command_fields.specs.declared.fields.CommandFields.TheVariants as fields
use Rattle.command_fields.specs.declared.profile_fields.AddSd.{AddSd}
use Rattle.command_fields.specs.declared.profile_fields.AltSd.{AltSd}
use Rattle.command_fields.specs.declared.profile_fields.DelSd.{DelSd}
use Rattle.command_fields.specs.declared.profile_fields.RDefine.{RDefine}
use Rattle.command_fields.specs.declared.profile_fields.RAlter.{RAlter}
use Rattle.command_fields.specs.declared.profile_fields.RDelete.{RDelete}
use Rattle.command_fields.specs.declared.profile_fields.Permit.{Permit}
use Rattle.command_rules.specs.Members.{options_after}
use Rattle.command_fields.specs.declared.class_fields.DefineClass.{DefineClass}
use Rattle.command_fields.specs.declared.class_fields.AlterClass.{AlterClass}
use Rattle.racf_profiles.specs.DynamicClasses.{cdt}
use Rattle.command_rules.specs.ProfileEffects.{dataset, new_data_set, altered_data_set, new_resource, altered_resource, named_class, new_class_profile, altered_class_profile, has_clauth, without_clauth, deleted_class}
use Rattle.command_rules.specs.PermitEffects.{permitted_profile}
use Rattle.command_rules.specs.Effects.{new_user, altered_user, new_group, altered_group, connected_user, removed_user}

-- A row that is there, changed.
abbrev pub put_user : (User → User) → Option User → List Edit
put_user change None = []
put_user change (Some user) = PutUser (change user) ∷ []

abbrev pub put_group : (Group → Group) → Option Group → List Edit
put_group change None = []
put_group change (Some group) = PutGroup (change group) ∷ []

abbrev pub put_changed : List ℕ → (Profile → Profile) → Option Profile → List Edit
put_changed class change None = []
put_changed class change (Some profile) = PutProfile class (change profile) ∷ []

-- The options change only with members, which may define categories.
abbrev pub put_options : List Member → Options → List Edit
put_options [] options = []
put_options (member ∷ members) options = PutOptions (options_after (member ∷ members) options) ∷ []

abbrev pub edits_of_add_sd : Issuer → AddSd → Rows → List Edit
edits_of_add_sd issuer c rows = PutProfile dataset (new_data_set issuer c rows) ∷ []

abbrev pub edits_of_alt_sd : AltSd → Rows → List Edit
edits_of_alt_sd c rows = put_changed dataset (altered_data_set c rows) (profile_of dataset c.profile rows)

abbrev pub edits_of_del_sd : DelSd → List Edit
edits_of_del_sd c = DropProfile dataset c.profile ∷ []

abbrev pub edits_of_r_define : Issuer → RDefine → Rows → List Edit
edits_of_r_define issuer c rows = PutProfile c.class (new_resource issuer c rows) ∷ put_options c.addmem rows.options

abbrev pub edits_of_r_alter : RAlter → Rows → List Edit
edits_of_r_alter c rows = put_changed c.class (altered_resource c rows) (profile_of c.class c.profile rows) ++ put_options c.addmem rows.options

-- RDEFINE in CDT puts the profile and adds its class.
abbrev pub add_class : Option (List ℕ) → List Edit
add_class None = []
add_class (Some class) = AddClass class ∷ []

abbrev pub edits_of_define_class : Issuer → DefineClass → List Edit
edits_of_define_class issuer c = PutProfile cdt (new_class_profile issuer c) ∷ add_class (named_class c.profile)

abbrev pub edits_of_alter_class : AlterClass → Rows → List Edit
edits_of_alter_class c rows = put_changed cdt (altered_class_profile c) (profile_of cdt c.profile rows)

-- RDELETE in CDT takes the class from each user who has it in his CLAUTH list, drops the profile, and then the class.
abbrev pub put_without_clauth : Option (List ℕ) → List User → List Edit
put_without_clauth None users = []
put_without_clauth (Some class) users = map (λ (user : User). PutUser (without_clauth class user)) (filter (has_clauth class) users)

abbrev pub drop_class : Option (List ℕ) → List Edit
drop_class None = []
drop_class (Some class) = DropClass class ∷ []

abbrev pub edits_of_r_delete : RDelete → Rows → List Edit
edits_of_r_delete c rows = put_without_clauth (deleted_class c) rows.users ++ DropProfile c.class c.profile ∷ drop_class (deleted_class c)

abbrev pub edits_of_permit : Permit → Rows → List Edit
edits_of_permit c rows = put_changed c.class (permitted_profile c) (profile_of c.class c.profile rows)

-- SETROPTS puts the options and the flags of the classes that it names, and then makes and drops listed copies: RACLIST
-- makes one of a class that isn't listed, and with REFRESH one anew.
abbrev pub sets_options : SetRopts → Bool
sets_options c = c.grplist || c.nogrplist || c.protectall || c.noprotectall || c.mls || c.nomls

abbrev pub sets_flags : SetRopts → ClassRow → Bool
sets_flags c class = names_class c.classact class || names_class c.noclassact class || names_class c.global class || names_class c.noglobal class || list_any (λ (clause : LogClause). names_class clause.classes class) c.logoptions

abbrev pub lists : SetRopts → ClassRow → Bool
lists c class = names_class c.raclist class && (c.refresh || not class.listed)

abbrev pub unlists : SetRopts → ClassRow → Bool
unlists c class = names_class c.noraclist class

abbrev pub put_flags : ClassRow → Edit
put_flags class = PutClass class.name class.active class.global class.log

abbrev pub edits_of_set_ropts : SetRopts → Rows → List Edit
edits_of_set_ropts c rows =
    (if sets_options c then PutOptions (set_options c rows.options) ∷ [] else [])
    ++ (map (λ (class : ClassRow). put_flags (set_class c class)) (filter (sets_flags c) rows.classes)
    ++ (map (λ (class : ClassRow). ListCopy class.name) (filter (lists c) rows.classes)
    ++ map (λ (class : ClassRow). Unlist class.name) (filter (unlists c) rows.classes)))

-- With REFRESH each class that RACLIST names is listed.
abbrev pub refreshes_listed : SetRopts → List ClassRow → Bool
refreshes_listed c classes = list_all (λ (class : ClassRow). not (c.refresh && names_class c.raclist class) || class.listed) classes

-- SETROPTS lists classes and unlists them, and RDELETE drops a class of CDT; no other command touches a listed copy.
abbrev pub edits_copies : CommandFields → Bool
edits_copies (fields.SetRopts c) = true
edits_copies (fields.RDelete c) = true
edits_copies command = false

abbrev pub edits_of : Issuer → CommandFields → Rows → List Edit
edits_of issuer (fields.AddUser c) rows = PutUser (new_user issuer c rows) ∷ []
edits_of issuer (fields.AltUser c) rows = put_user (altered_user c rows) (user_of c.user rows)
edits_of issuer (fields.DelUser c) rows = DropUser c.user ∷ []
edits_of issuer (fields.AddGroup c) rows = PutGroup (new_group issuer c) ∷ []
edits_of issuer (fields.AltGroup c) rows = put_group (altered_group c) (group_of c.group rows)
edits_of issuer (fields.DelGroup c) rows = DropGroup c.group ∷ []
edits_of issuer (fields.Connect c) rows = put_user (connected_user issuer c) (user_of c.user rows)
edits_of issuer (fields.Remove c) rows = put_user (removed_user issuer c) (user_of c.user rows)
edits_of issuer (fields.AddSd c) rows = edits_of_add_sd issuer c rows
edits_of issuer (fields.AltSd c) rows = edits_of_alt_sd c rows
edits_of issuer (fields.DelSd c) rows = edits_of_del_sd c
edits_of issuer (fields.RDefine c) rows = edits_of_r_define issuer c rows
edits_of issuer (fields.RAlter c) rows = edits_of_r_alter c rows
edits_of issuer (fields.DefineClass c) rows = edits_of_define_class issuer c
edits_of issuer (fields.AlterClass c) rows = edits_of_alter_class c rows
edits_of issuer (fields.RDelete c) rows = edits_of_r_delete c rows
edits_of issuer (fields.Permit c) rows = edits_of_permit c rows
edits_of issuer (fields.SetRopts c) rows = edits_of_set_ropts c rows
