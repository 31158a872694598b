-- Each command that a text spells leaves rows whose IDs and names hold no line feed, where theirs hold none.
use Rattle.std.proofs.Common.{ℕ, Bool, true, false, cond, not, List, [], ◌∷◌, ◌++◌, Option, None, Some, bytes_eq}
use Rattle.std.specs.Prelude.{IfSome, filter, fold}
use Rattle.std.specs.List.{AllByRecursion, flat_map, list_any}
use Rattle.std.specs.Option.{option_map_or}
use Rattle.std.proofs.lemmas.Option.{IfSome_then}
use Rattle.access_levels.specs.declared.entries.Who.{Who}
use Rattle.access_levels.specs.declared.entries.Who.TheVariants.{Star, Named}
use Rattle.access_levels.specs.declared.entries.Entry.{Entry}
use Rattle.access_levels.specs.declared.entries.CondEntry.{CondEntry}
use Rattle.access_levels.specs.declared.entries.Condition.{Condition}
use Rattle.access_lists.specs.Lists.{is_for, is_for_under, entry_put}
use Rattle.generic_names.specs.Spelled.{Spelled}
use Rattle.racf_profiles.specs.declared.users.User.{User}
use Rattle.racf_profiles.specs.declared.users.Connect.{Connect as Connection}
use Rattle.racf_profiles.specs.declared.profiles.Profile.{Profile}
use Rattle.racf_profiles.specs.declared.profiles.Member.{Member}
use Rattle.racf_profiles.specs.declared.profiles.Member.TheVariants as member
use Rattle.racf_profiles.specs.declared.rows.Rows.{Rows}
use Rattle.racf_profiles.specs.Lookup.{is_user, is_group, is_profile, profile_of}
use Rattle.racf_profiles.specs.Names.{is_to}
use Rattle.racf_profiles.specs.Edits.{with_profile, without_profile, added_class}
use Rattle.racf_profiles.specs.DynamicClasses.{cdt}
use Rattle.racf_profiles.proofs.OrderedProfiles.{all-put_profile}
use Rattle.racf_profiles.proofs.EditLaws.{all-drop_row}
use Rattle.command_fields.specs.declared.resets.Reset.{Reset}
use Rattle.command_fields.specs.declared.resets.Reset.TheVariants as reset
use Rattle.command_fields.specs.declared.issuer.Issuer.{Issuer}
use Rattle.command_fields.specs.declared.fields.Connect.{Connect}
use Rattle.command_fields.specs.declared.fields.CommandFields.{CommandFields}
use Rattle.command_fields.specs.declared.fields.CommandFields.TheVariants as command
use Rattle.command_fields.specs.declared.profile_fields.Permit.{Permit}
use Rattle.command_fields.specs.LawfulMembers.{Each, IsMember, AreMembers}
use Rattle.command_fields.specs.declared.member_form.MemberForm.{MemberForm}
use Rattle.command_fields.specs.declared.member_form.MemberForm.TheVariants as forms
use Rattle.command_fields.specs.MemberForms.{member_form}
use Rattle.racf_profiles.specs.LawfulProfiles.{member_name}
use Rattle.command_rules.specs.Members.{is_member_named, with_member, without_members, members_after, with_category_name, categories_defined}
use Rattle.command_fields.specs.declared.log_clauses.LogClause.{LogClause}
use Rattle.command_fields.specs.LawfulFields.{IsId, IsGroupName, IsNamedOne, AreWhosOfPermit, IsPort, IsLogClause, AreMembersOf, AreLawfulFields}
use Rattle.command_fields.specs.Issuers.{group_or_current}
use Rattle.command_rules.specs.UserEffects.{new_user, altered_user, new_group, altered_group, altered_connection, connects_after, connected_user, removed_user, owner_or_issuer}
use Rattle.command_rules.specs.ProfileEffects.{dataset, new_data_set, altered_data_set, new_resource, altered_resource, profile_put, profile_dropped, profile_changed, named_class, new_class_profile, altered_class_profile, without_clauth, deleted_class, class_added, class_dropped}
use Rattle.command_rules.specs.PermitEffects.{standard_reset, conditional_reset, with_entry, with_conditional, standard_entries, conditional_entries, permitted_profile, level_of}
use Rattle.command_rules.specs.OptionEffects.{set_class}
use Rattle.command_rules.specs.Effects.{step}
use Rattle.lawful_commands.proofs.RowLists.{all-each, all-push, all-filter, all-at, all-put, all-map, all-both}
use Rattle.lawful_commands.proofs.FieldFacts.{each-all}
use Rattle.lawful_commands.proofs.ProfileRows.{all-at_class}
use Rattle.audit_records.specs.Feedless.{IsFeedlessUser, IsFeedlessGroup, IsFeedlessWho, IsFeedlessMember, IsFeedlessProfile, AreFeedlessProfiles, AreFeedless, IsFeedless}
use Rattle.audit_records.proofs.Feedless.{profile_of-feedless, if-either, if-given}
use Rattle.audit_records.proofs.FeedlessNames.{member_name-feedless}
use Rattle.desk_rules.proofs.FeedlessFields.{id-feedless, group-feedless, data_set-feedless, class_profile-feedless}

-- ---- the fields of a command that a text spells
pub ids-feedless : (given : Option (List ℕ)) → IfSome given IsId → IfSome given IsFeedless
ids-feedless given h = IfSome_then given h id-feedless

pub groups-feedless : (given : Option (List ℕ)) → IfSome given IsGroupName → IfSome given IsFeedless
groups-feedless given h = IfSome_then given h group-feedless

pub names-feedless : (names : List (List ℕ)) → Each IsId names → AllByRecursion IsFeedless names
names-feedless = each-all IsId IsFeedless id-feedless

pub logged-feedless : (clauses : List LogClause) → Each IsLogClause clauses → AllByRecursion IsFeedless (flat_map (λ (clause : LogClause). clause.classes) clauses)
logged-feedless [] h = tt
logged-feedless (clause ∷ clauses) h = all-both IsFeedless clause.classes (flat_map (λ (other : LogClause). other.classes) clauses) (names-feedless clause.classes h.0) (logged-feedless clauses h.1)

one-feedless : (who : Who) → IsNamedOne who → IsFeedlessWho who
one-feedless Star h = tt
one-feedless (Named id) h = id-feedless id h

pub whos-feedless : (whos : List Who) → AreWhosOfPermit whos → AllByRecursion IsFeedlessWho whos
whos-feedless [] h = tt
whos-feedless (Star ∷ []) h = (tt, tt)
whos-feedless (Star ∷ who ∷ whos) h = absurd h
whos-feedless (Named id ∷ whos) h = (id-feedless id h.0, each-all IsNamedOne IsFeedlessWho one-feedless whos h.1)

-- ---- rows of profiles
module _ (class : List ℕ) (rows : Rows) (are : AreFeedless rows) where
  put-rows : (profile : Profile) → IsFeedlessProfile profile → AreFeedless (profile_put class profile rows)
  put-rows profile p = record {
    users = are.users;
    groups = are.groups;
    classes = all-at_class AreFeedlessProfiles class (with_profile profile) rows.classes (λ row found h. all-put_profile IsFeedlessProfile profile row.profiles p h) are.classes;
    categories = are.categories;
  }

  dropped-rows : (name : Spelled) → AreFeedless (profile_dropped class name rows)
  dropped-rows name = record {
    users = are.users;
    groups = are.groups;
    classes = all-at_class AreFeedlessProfiles class (without_profile name) rows.classes (λ row found h. all-drop_row IsFeedlessProfile (is_profile name) row.profiles h) are.classes;
    categories = are.categories;
  }

  changed-rows : (name : Spelled) (change : Profile → Profile) → ((old : Profile) → IsFeedlessProfile old → IsFeedlessProfile (change old)) → AreFeedless (profile_changed class name change rows)
  changed-rows name change keeps = by (profile_of class name rows) (profile_of-feedless class name rows are)
    where
      by : (o : Option Profile) → IfSome o IsFeedlessProfile → AreFeedless (option_map_or (λ old. profile_put class (change old) rows) o rows)
      by None h = are
      by (Some old) h = put-rows (change old) (keeps old h)

-- ---- rows of classes
class-added : (class : Option (List ℕ)) (rows : Rows) → AreFeedless rows → AreFeedless (class_added class rows)
class-added None rows are = are
class-added (Some class) rows are = record { users = are.users; groups = are.groups; classes = all-push AreFeedlessProfiles rows.classes (added_class class) are.classes tt; categories = are.categories }

without-feedless : (class : List ℕ) (user : User) → IsFeedlessUser user → IsFeedlessUser (without_clauth class user)
without-feedless class user h = record { id = h.id; default_group = h.default_group; groups = h.groups }

class-dropped : (class : Option (List ℕ)) (rows : Rows) → AreFeedless rows → AreFeedless (class_dropped class rows)
class-dropped None rows are = are
class-dropped (Some class) rows are = record {
  users = all-map (without_clauth class) IsFeedlessUser rows.users (all-each IsFeedlessUser _ (without-feedless class) rows.users are.users);
  groups = are.groups;
  classes = all-filter AreFeedlessProfiles _ rows.classes are.classes;
  categories = are.categories;
}

-- ---- access lists after PERMIT
fold-keeps : {A B : Type 0} (P : A → Type 0) (Q : B → Type 0) (f : A → B → A) → ((a : A) (b : B) → P a → Q b → P (f a b)) → (xs : List B) (a : A) → P a → AllByRecursion Q xs → P (fold f a xs)
fold-keeps P Q f keeps [] a p h = p
fold-keeps P Q f keeps (x ∷ xs) a p h = fold-keeps P Q f keeps xs (f a x) (keeps a x p h.0) h.1

abbrev AreStandard : List Entry → Type 0
AreStandard list = AllByRecursion (λ (entry : Entry). IsFeedlessWho entry.who) list

abbrev AreConditional : List CondEntry → Type 0
AreConditional list = AllByRecursion (λ (entry : CondEntry). IsFeedless entry.condition.name) list

module _ (c : Permit) (whos : AllByRecursion IsFeedlessWho c.id) where
  entry-feedless : (list : List Entry) (who : Who) → AreStandard list → IsFeedlessWho who → AreStandard (with_entry c list who)
  entry-feedless list who h is = by c.delete
    where
      by : (b : Bool) → AreStandard (cond b (filter (λ entry. not (is_for who entry)) list) (entry_put (is_for who) (record { who = who; level = level_of c }) list))
      by true = all-filter (λ (entry : Entry). IsFeedlessWho entry.who) _ list h
      by false = all-put (λ (entry : Entry). IsFeedlessWho entry.who) (is_for who) (record { who = who; level = level_of c }) list is h

  conditional-feedless : (condition : Condition) → IsFeedless condition.name → (list : List CondEntry) (who : Who) → AreConditional list → IsFeedlessWho who → AreConditional (with_conditional c condition list who)
  conditional-feedless condition named list who h is = by c.delete
    where
      by : (b : Bool) → AreConditional (cond b (filter (λ entry. not (is_for_under condition who entry)) list) (entry_put (is_for_under condition who) (record { condition = condition; who = who; level = level_of c }) list))
      by true = all-filter (λ (entry : CondEntry). IsFeedless entry.condition.name) _ list h
      by false = all-put (λ (entry : CondEntry). IsFeedless entry.condition.name) (is_for_under condition who) (record { condition = condition; who = who; level = level_of c }) list named h

  standard-reset : (reset : Option Reset) (list : List Entry) → AreStandard list → AreStandard (standard_reset reset list)
  standard-reset None list h = h
  standard-reset (Some reset.All) list h = tt
  standard-reset (Some reset.Standard) list h = tt
  standard-reset (Some reset.When) list h = h

  conditional-reset : (reset : Option Reset) (list : List CondEntry) → AreConditional list → AreConditional (conditional_reset reset list)
  conditional-reset None list h = h
  conditional-reset (Some reset.All) list h = tt
  conditional-reset (Some reset.Standard) list h = h
  conditional-reset (Some reset.When) list h = tt

  standard-entries : (when : Option Condition) (list : List Entry) → AreStandard list → AreStandard (standard_entries c when list)
  standard-entries None list h = fold-keeps AreStandard IsFeedlessWho (with_entry c) entry-feedless c.id list h whos
  standard-entries (Some condition) list h = h

  conditional-entries : (when : Option Condition) → IfSome when IsPort → (list : List CondEntry) → AreConditional list → AreConditional (conditional_entries c when list)
  conditional-entries None port list h = h
  conditional-entries (Some condition) port list h =
      fold-keeps AreConditional IsFeedlessWho (with_conditional c condition) (conditional-feedless condition (id-feedless condition.name port)) c.id list h whos

  permitted-feedless : IfSome c.when IsPort → (old : Profile) → IsFeedlessProfile old → IsFeedlessProfile (permitted_profile c old)
  permitted-feedless port old h = record {
    name = h.name;
    standard = standard-entries c.when (standard_reset c.reset old.standard) (standard-reset c.reset old.standard h.standard);
    conditional = conditional-entries c.when port (conditional_reset c.reset old.conditional) (conditional-reset c.reset old.conditional h.conditional);
    members = h.members;
  }

-- ---- the members, and the categories that they define
member-feedless : (form : MemberForm) (added : Member) → IsMember form added → IsFeedlessMember added
member-feedless (forms.Access kind) (member.Access resources level) h = member_name-feedless kind resources.text resources h
member-feedless forms.SecurityLevel (member.Access resources level) h = absurd h
member-feedless forms.Category (member.Access resources level) h = absurd h
member-feedless forms.SecurityLevel (member.SecurityLevel name number) h = id-feedless name h.0
member-feedless (forms.Access kind) (member.SecurityLevel name number) h = absurd h
member-feedless forms.Category (member.SecurityLevel name number) h = absurd h
member-feedless forms.Category (member.Category name) h = id-feedless name h
member-feedless (forms.Access kind) (member.Category name) h = absurd h
member-feedless forms.SecurityLevel (member.Category name) h = absurd h
member-feedless forms.Category (member.Traits traits) h = absurd h
member-feedless (forms.Access kind) (member.Traits traits) h = absurd h
member-feedless forms.SecurityLevel (member.Traits traits) h = absurd h

members-feedless : (form : Option MemberForm) (added : List Member) → AreMembers form added → AllByRecursion IsFeedlessMember added
members-feedless None added h = absurd h
members-feedless (Some form) added h = each-all (IsMember form) IsFeedlessMember (member-feedless form) added h

added-feedless : (class : List ℕ) (name : Spelled) (added : List Member) → AreMembersOf class name added → AllByRecursion IsFeedlessMember added
added-feedless class name [] h = tt
added-feedless class name (first ∷ more) h = members-feedless (member_form (Some class) (Some name)) (first ∷ more) h

category-feedless : (names : List (List ℕ)) (added : Member) → AllByRecursion IsFeedless names → IsFeedlessMember added → AllByRecursion IsFeedless (with_category_name names added)
category-feedless names (member.Access resources level) are h = are
category-feedless names (member.SecurityLevel name number) are h = are
category-feedless names (member.Traits traits) are h = are
category-feedless names (member.Category name) are h = by (list_any (λ other. bytes_eq other name) names)
  where
    by : (b : Bool) → AllByRecursion IsFeedless (cond b names (names ++ name ∷ []))
    by true = are
    by false = all-push IsFeedless names name are h

defined-feedless : (class : List ℕ) (name : Spelled) (added : List Member) (names : List (List ℕ)) → AreMembersOf class name added → AllByRecursion IsFeedless names → AllByRecursion IsFeedless (categories_defined added names)
defined-feedless class name added names h are =
    fold-keeps (λ (names : List (List ℕ)). AllByRecursion IsFeedless names) IsFeedlessMember with_category_name category-feedless added names are (added-feedless class name added h)

members_after-feedless : (class : List ℕ) (name : Spelled) (added : List Member) (gone : List Spelled) (members : List Member) → AreMembersOf class name added → AllByRecursion IsFeedlessMember members → AllByRecursion IsFeedlessMember (members_after added gone members)
members_after-feedless class name added gone members h are =
    fold-keeps (AllByRecursion IsFeedlessMember) IsFeedlessMember with_member (λ list one all is. all-put IsFeedlessMember (is_member_named (member_name one)) one list is all) added (without_members gone members) (all-filter IsFeedlessMember _ members are) (added-feedless class name added h)

-- ---- connections after CONNECT
connects-feedless : (c : Connect) (group : List ℕ) (connects : List Connection) → IsFeedless group
    → AllByRecursion (λ (connection : Connection). IsFeedless connection.group) connects → AllByRecursion (λ (connection : Connection). IsFeedless connection.group) (connects_after c group connects)
connects-feedless c group [] is h = (is, tt)
connects-feedless c group (old ∷ rest) is h = by (is_to group old) (connects-feedless c group rest is h.1)
  where
    by : (b : Bool) → AllByRecursion (λ (connection : Connection). IsFeedless connection.group) (connects_after c group rest)
        → AllByRecursion (λ (connection : Connection). IsFeedless connection.group) (cond b (altered_connection c old ∷ rest) (old ∷ connects_after c group rest))
    by true more = (h.0, h.1)
    by false more = (h.0, more)

-- ---- each command
module _ (issuer : Issuer) (issuer_id : IsFeedless issuer.id) (issuer_group : IsFeedless issuer.group) where
  pub current-feedless : (given : Option (List ℕ)) → IfSome given IsGroupName → IsFeedless (group_or_current issuer given)
  current-feedless given h = if-given given issuer.group (groups-feedless given h) issuer_group

  pub owner-feedless : (given : Option (List ℕ)) → IfSome given IsId → IsFeedless (owner_or_issuer issuer given)
  owner-feedless given h = if-given given issuer.id (ids-feedless given h) issuer_id

  pub step-feedless : (c : CommandFields) (rows : Rows) → AreLawfulFields c → AreFeedless rows → AreFeedless (step issuer c rows)
  step-feedless (command.AddUser c) rows f are = record {
    users = all-push IsFeedlessUser rows.users (new_user issuer c rows) are.users (record { id = id-feedless c.user f.user; default_group = current-feedless c.dfltgrp f.dfltgrp; groups = (current-feedless c.dfltgrp f.dfltgrp, tt) });
    groups = are.groups;
    classes = are.classes;
    categories = are.categories;
  }
  step-feedless (command.AltUser c) rows f are = record {
    users = all-at IsFeedlessUser (is_user c.user) (altered_user c rows) rows.users (λ user found h. record { id = h.id; default_group = if-given c.dfltgrp user.default_group (groups-feedless c.dfltgrp f.dfltgrp) h.default_group; groups = h.groups }) are.users;
    groups = are.groups;
    classes = are.classes;
    categories = are.categories;
  }
  step-feedless (command.DelUser c) rows f are = record { users = all-drop_row IsFeedlessUser (is_user c.user) rows.users are.users; groups = are.groups; classes = are.classes; categories = are.categories }
  step-feedless (command.AddGroup c) rows f are = record {
    users = are.users;
    groups = all-push IsFeedlessGroup rows.groups (new_group issuer c) are.groups (record { id = group-feedless c.group f.group; superior = current-feedless c.supgroup f.supgroup; owner = owner-feedless c.owner f.owner });
    classes = are.classes;
    categories = are.categories;
  }
  step-feedless (command.AltGroup c) rows f are = record {
    users = are.users;
    groups = all-at IsFeedlessGroup (is_group c.group) (altered_group c) rows.groups (λ group found h. record { id = h.id; superior = if-either IsFeedless c.supgroup group.superior (groups-feedless c.supgroup f.supgroup) h.superior; owner = if-given c.owner group.owner (ids-feedless c.owner f.owner) h.owner }) are.groups;
    classes = are.classes;
    categories = are.categories;
  }
  step-feedless (command.DelGroup c) rows f are = record { users = are.users; groups = all-drop_row IsFeedlessGroup (is_group c.group) rows.groups are.groups; classes = are.classes; categories = are.categories }
  step-feedless (command.Connect c) rows f are = record {
    users = all-at IsFeedlessUser (is_user c.user) (connected_user issuer c) rows.users
        (λ user found h. record { id = h.id; default_group = h.default_group; groups = connects-feedless c (group_or_current issuer c.group) user.connects (current-feedless c.group f.group) h.groups }) are.users;
    groups = are.groups;
    classes = are.classes;
    categories = are.categories;
  }
  step-feedless (command.Remove c) rows f are = record {
    users = all-at IsFeedlessUser (is_user c.user) (removed_user issuer c) rows.users
        (λ user found h. record { id = h.id; default_group = h.default_group; groups = all-drop_row (λ (connection : Connection). IsFeedless connection.group) (is_to (group_or_current issuer c.group)) user.connects h.groups }) are.users;
    groups = are.groups;
    classes = are.classes;
    categories = are.categories;
  }
  step-feedless (command.AddSd c) rows f are = put-rows dataset rows are (new_data_set issuer c rows) (record { name = data_set-feedless c.profile f.profile; standard = tt; conditional = tt; members = tt })
  step-feedless (command.AltSd c) rows f are = changed-rows dataset rows are c.profile (altered_data_set c rows) (λ old h. record { name = h.name; standard = h.standard; conditional = h.conditional; members = h.members })
  step-feedless (command.DelSd c) rows f are = dropped-rows dataset rows are c.profile
  step-feedless (command.RDefine c) rows f are =
      let put = put-rows c.class rows are (new_resource issuer c rows) (record { name = class_profile-feedless c.class c.profile f.profile; standard = tt; conditional = tt; members = members_after-feedless c.class c.profile c.addmem [] [] f.addmem tt }) in
      record { users = put.users; groups = put.groups; classes = put.classes; categories = defined-feedless c.class c.profile c.addmem rows.options.categories f.addmem are.categories }
  step-feedless (command.RAlter c) rows f are =
      let changed = changed-rows c.class rows are c.profile (altered_resource c rows) (λ old h. record { name = h.name; standard = h.standard; conditional = h.conditional; members = members_after-feedless c.class c.profile c.addmem c.delmem old.members f.addmem h.members }) in
      record { users = changed.users; groups = changed.groups; classes = changed.classes; categories = defined-feedless c.class c.profile c.addmem rows.options.categories f.addmem are.categories }
  step-feedless (command.DefineClass c) rows f are =
      class-added (named_class c.profile) _ (put-rows cdt rows are (new_class_profile issuer c) (record { name = class_profile-feedless cdt c.profile f.profile; standard = tt; conditional = tt; members = (tt, tt) }))
  step-feedless (command.AlterClass c) rows f are = changed-rows cdt rows are c.profile (altered_class_profile c) (λ old h. record { name = h.name; standard = h.standard; conditional = h.conditional; members = h.members })
  step-feedless (command.RDelete c) rows f are = class-dropped (deleted_class c) _ (dropped-rows c.class rows are c.profile)
  step-feedless (command.Permit c) rows f are =
      changed-rows c.class rows are c.profile (permitted_profile c) (permitted-feedless c (whos-feedless c.id f.id) f.when)
  step-feedless (command.SetRopts c) rows f are = record { users = are.users; groups = are.groups; classes = all-map (set_class c) AreFeedlessProfiles rows.classes are.classes; categories = are.categories }
