-- What the edits of each command leave as it is.
use Rattle.std.proofs.Common.{◌≡◌, ℕ, true, false, not, List, [], ◌∷◌, ◌++◌, map, Option, Some, None, refl, sym, subst, arith}
use Rattle.std.specs.List.{AllByRecursion, filter, list_all}
use Rattle.generic_names.specs.Laws.{IsPattern, PassedOn}
use Rattle.generic_names.specs.Spelled.{Spelled}
use Rattle.racf_profiles.specs.declared.users.User.{User}
use Rattle.racf_profiles.specs.declared.groups.Group.{Group}
use Rattle.racf_profiles.specs.declared.profiles.Profile.{Profile}
use Rattle.racf_profiles.specs.declared.profiles.Member.{Member}
use Rattle.racf_profiles.specs.declared.options.Options.{Options}
use Rattle.racf_profiles.specs.declared.rows.Rows.{Rows}
use Rattle.racf_profiles.specs.declared.edits.Edit.{Edit}
use Rattle.racf_profiles.specs.declared.edits.Edit.TheVariants.{PutUser, PutProfile, DropProfile, DropClass}
use Rattle.racf_profiles.specs.declared.class_rows.ClassRow.{ClassRow}
use Rattle.racf_profiles.specs.DynamicClasses.{cdt}
use Rattle.racf_profiles.specs.Lookup.{is_profile, user_of, group_of, profile_of}
use Rattle.racf_profiles.specs.Edits.{at_class, with_profile, without_profile, added_class, without_class, edited, changed}
use Rattle.racf_profiles.proofs.EditLaws.{all-drop_row, length-drop_row}
use Rattle.racf_profiles.proofs.OrderedProfiles.{order-drop_row}
use Rattle.racf_profiles.specs.State.{is_of_copies}
use Rattle.racf_profiles.specs.LawfulProfiles.{AreClasses, AreClassNames, AreProfiles, kind_in}
use Rattle.racf_profiles.specs.Lawful.{LeaveLawfulClasses}
use Rattle.command_fields.specs.declared.issuer.Issuer.{Issuer}
use Rattle.command_fields.specs.declared.fields.CommandFields.{CommandFields}
use Rattle.command_fields.specs.declared.fields.CommandFields.TheVariants as fields
use Rattle.command_fields.specs.declared.class_fields.DefineClass.{DefineClass}
use Rattle.command_rules.specs.ProfileEffects.{dataset, altered_data_set, new_resource, altered_resource, named_class, new_class_profile, altered_class_profile, has_clauth, without_clauth, deleted_class}
use Rattle.command_rules.specs.PermitEffects.{permitted_profile}
use Rattle.command_rules.specs.Effects.{altered_user, altered_group, connected_user, removed_user}
use Rattle.command_rules.specs.Edits.{edits_of, put_user, put_group, put_changed, put_options, add_class, put_without_clauth, drop_class, edits_copies}
use Rattle.command_rules.proofs.ProfileSteps.{changed-r_delete}
use Rattle.command_rules.proofs.ClassEdits.{changed-both, names-kept, lawful-kept}
use Rattle.command_rules.proofs.SetRoptsEdits.{set_ropts-classes}

-- ---- no copy is made or dropped, unless by SETROPTS
abbrev others : List Edit → Type 0
others edits = list_all (λ (edit : Edit). not (is_of_copies edit)) edits ≡ true

user-others : (change : User → User) (o : Option User) → others (put_user change o)
user-others change None = refl
user-others change (Some user) = refl

group-others : (change : Group → Group) (o : Option Group) → others (put_group change o)
group-others change None = refl
group-others change (Some group) = refl

options-others : (members : List Member) (options : Options) → others (put_options members options)
options-others [] options = refl
options-others (member ∷ members) options = refl

changed-others : (class : List ℕ) (change : Profile → Profile) (o : Option Profile) (members : List Member) (options : Options) → others (put_changed class change o ++ put_options members options)
changed-others class change None members options = options-others members options
changed-others class change (Some profile) members options = options-others members options

alone-others : (class : List ℕ) (change : Profile → Profile) (o : Option Profile) → others (put_changed class change o)
alone-others class change None = refl
alone-others class change (Some profile) = refl

added-others : (issuer : Issuer) (c : DefineClass) (class : Option (List ℕ)) → others (PutProfile cdt (new_class_profile issuer c) ∷ add_class class)
added-others issuer c None = refl
added-others issuer c (Some class) = refl

pub edits-others : (issuer : Issuer) (command : CommandFields) (rows : Rows) → edits_copies command ≡ false → others (edits_of issuer command rows)
edits-others issuer (fields.AddUser c) rows other = refl
edits-others issuer (fields.AltUser c) rows other = user-others (altered_user c rows) (user_of c.user rows)
edits-others issuer (fields.DelUser c) rows other = refl
edits-others issuer (fields.AddGroup c) rows other = refl
edits-others issuer (fields.AltGroup c) rows other = group-others (altered_group c) (group_of c.group rows)
edits-others issuer (fields.DelGroup c) rows other = refl
edits-others issuer (fields.Connect c) rows other = user-others (connected_user issuer c) (user_of c.user rows)
edits-others issuer (fields.Remove c) rows other = user-others (removed_user issuer c) (user_of c.user rows)
edits-others issuer (fields.AddSd c) rows other = refl
edits-others issuer (fields.AltSd c) rows other = alone-others dataset (altered_data_set c rows) (profile_of dataset c.profile rows)
edits-others issuer (fields.DelSd c) rows other = refl
edits-others issuer (fields.RDefine c) rows other = options-others c.addmem rows.options
edits-others issuer (fields.RAlter c) rows other = changed-others c.class (altered_resource c rows) (profile_of c.class c.profile rows) c.addmem rows.options
edits-others issuer (fields.DefineClass c) rows other = added-others issuer c (named_class c.profile)
edits-others issuer (fields.AlterClass c) rows other = alone-others cdt (altered_class_profile c) (profile_of cdt c.profile rows)
edits-others issuer (fields.RDelete c) rows other = cc
edits-others issuer (fields.Permit c) rows other = alone-others c.class (permitted_profile c) (profile_of c.class c.profile rows)
edits-others issuer (fields.SetRopts c) rows other = cc

-- ---- the classes behind each edit
module _ (passed_on : PassedOn) (rows : Rows) (lawful : AreClasses rows.classes) where
  abbrev Leave : List Edit → Type 0
  Leave edits = AreClasses (changed edits rows).classes → LeaveLawfulClasses edits rows

  user-classes : (change : User → User) (o : Option User) → Leave (put_user change o)
  user-classes change None after = tt
  user-classes change (Some user) after = (lawful, tt)

  group-classes : (change : Group → Group) (o : Option Group) → Leave (put_group change o)
  group-classes change None after = tt
  group-classes change (Some group) after = (lawful, tt)

  options-classes : (members : List Member) (options : Options) → Leave (put_options members options)
  options-classes [] options after = tt
  options-classes (member ∷ members) options after = (lawful, tt)

  profile-classes : (class : List ℕ) (profile : Profile) (members : List Member) (options : Options) → Leave (PutProfile class profile ∷ put_options members options)
  profile-classes class profile [] options after = (after, tt)
  profile-classes class profile (member ∷ members) options after = (after, (after, tt))

  changed-classes : (class : List ℕ) (change : Profile → Profile) (o : Option Profile) (members : List Member) (options : Options) → Leave (put_changed class change o ++ put_options members options)
  changed-classes class change None members options after = options-classes members options after
  changed-classes class change (Some profile) members options after = profile-classes class (change profile) members options after

  alone-classes : (class : List ℕ) (change : Profile → Profile) (o : Option Profile) → Leave (put_changed class change o)
  alone-classes class change None after = tt
  alone-classes class change (Some profile) after = (after, tt)

  -- the profile of a class is put, and then the class is added
  added-classes : (profile : Profile) (class : Option (List ℕ)) → Leave (PutProfile cdt profile ∷ add_class class)
  added-classes profile None after = (after, tt)
  added-classes profile (Some class) after = (lawful-before (with_profile profile) (λ row. refl) class after, (after, tt))
    where
      front : (P : ClassRow → Type 0) (classes : List ClassRow) (row : ClassRow) → AllByRecursion P (classes ++ row ∷ []) → AllByRecursion P classes
      front P [] row all = tt
      front P (first ∷ classes) row all = (all.0, front P classes row all.1)

      lawful-before : (change : ClassRow → ClassRow) → ((row : ClassRow) → (change row).name ≡ row.name) → (name : List ℕ) → AreClasses (at_class cdt change rows.classes ++ added_class name ∷ []) → AreClasses (at_class cdt change rows.classes)
      lawful-before change named name all = record {
        names = subst AreClassNames (sym (names-kept cdt change named rows.classes)) lawful.names;
        lawful = front (λ (row : ClassRow). AreProfiles (kind_in row.name) row.profiles) (at_class cdt change rows.classes) (added_class name) all.lawful;
      }

  -- users without the class, then the profile dropped, then the class
  users-classes : (edits : List Edit) (class : List ℕ) (users : List User) (others : Rows) → others.classes ≡ rows.classes → ((left : Rows) → left.classes ≡ rows.classes → LeaveLawfulClasses edits left)
      → LeaveLawfulClasses (map (λ (user : User). PutUser (without_clauth class user)) users ++ edits) others
  users-classes edits class [] others same rest = rest others same
  users-classes edits class (user ∷ users) others same rest =
      (subst AreClasses (sym same) lawful, users-classes edits class users (edited (PutUser (without_clauth class user)) others) same rest)

  put-users : (class : List ℕ) (users : List User) (others : Rows) → (changed (map (λ (user : User). PutUser (without_clauth class user)) users) others).classes ≡ others.classes
  put-users class [] others = refl
  put-users class (user ∷ users) others = put-users class users (edited (PutUser (without_clauth class user)) others)

  dropped-classes : (class : List ℕ) (name : Spelled) (gone : Option (List ℕ)) → Leave (put_without_clauth gone rows.users ++ DropProfile class name ∷ drop_class gone)
  dropped-classes class name None after = (after, tt)
  dropped-classes class name (Some gone) after =
      users-classes (DropProfile class name ∷ DropClass gone ∷ []) gone (filter (has_clauth gone) rows.users) rows refl
      (λ left same. (
        subst (λ (classes : List ClassRow). AreClasses (at_class class (without_profile name) classes)) (sym same) dropped,
        (subst (λ (classes : List ClassRow). AreClasses (without_class gone (at_class class (without_profile name) classes))) (sym same) gone-lawful, tt),
      ))
    where
      dropped : AreClasses (at_class class (without_profile name) rows.classes)
      dropped = lawful-kept class (without_profile name) (λ row. refl)
          (λ row are. record {
            named = all-drop_row (λ (p : Profile). IsPattern p.name × (p.name.kind ≡ kind_in row.name)) (is_profile name) row.profiles are.named;
            ordered = order-drop_row passed_on (is_profile name) row.profiles are.ordered;
            few = omega (arith, are.few, length-drop_row (is_profile name) row.profiles);
          }) rows.classes lawful

      gone-lawful : AreClasses (without_class gone (at_class class (without_profile name) rows.classes))
      gone-lawful =
          subst (λ (classes : List ClassRow). AreClasses (without_class gone (at_class class (without_profile name) classes))) (put-users gone (filter (has_clauth gone) rows.users) rows)
          (subst (λ (left : Rows). AreClasses left.classes) (changed-both (map (λ (user : User). PutUser (without_clauth gone user)) (filter (has_clauth gone) rows.users)) (DropProfile class name ∷ DropClass gone ∷ []) rows) after)

  pub edits-classes : (issuer : Issuer) (command : CommandFields) → Leave (edits_of issuer command rows)
  edits-classes issuer (fields.AddUser c) after = (lawful, tt)
  edits-classes issuer (fields.AltUser c) after = user-classes (altered_user c rows) (user_of c.user rows) after
  edits-classes issuer (fields.DelUser c) after = (lawful, tt)
  edits-classes issuer (fields.AddGroup c) after = (lawful, tt)
  edits-classes issuer (fields.AltGroup c) after = group-classes (altered_group c) (group_of c.group rows) after
  edits-classes issuer (fields.DelGroup c) after = (lawful, tt)
  edits-classes issuer (fields.Connect c) after = user-classes (connected_user issuer c) (user_of c.user rows) after
  edits-classes issuer (fields.Remove c) after = user-classes (removed_user issuer c) (user_of c.user rows) after
  edits-classes issuer (fields.AddSd c) after = (after, tt)
  edits-classes issuer (fields.AltSd c) after = alone-classes dataset (altered_data_set c rows) (profile_of dataset c.profile rows) after
  edits-classes issuer (fields.DelSd c) after = (after, tt)
  edits-classes issuer (fields.RDefine c) after = profile-classes c.class (new_resource issuer c rows) c.addmem rows.options after
  edits-classes issuer (fields.RAlter c) after = changed-classes c.class (altered_resource c rows) (profile_of c.class c.profile rows) c.addmem rows.options after
  edits-classes issuer (fields.DefineClass c) after = added-classes (new_class_profile issuer c) (named_class c.profile) after
  edits-classes issuer (fields.AlterClass c) after = alone-classes cdt (altered_class_profile c) (profile_of cdt c.profile rows) after
  edits-classes issuer (fields.RDelete c) after = dropped-classes c.class c.profile (deleted_class c) after
  edits-classes issuer (fields.Permit c) after = alone-classes c.class (permitted_profile c) (profile_of c.class c.profile rows) after
  edits-classes issuer (fields.SetRopts c) after = set_ropts-classes c rows lawful
