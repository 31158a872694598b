-- The words of a command's conflict hold no line feed: each test tells what the command names, or what the rows hold.
use Rattle.std.proofs.Common.{◌≡◌, ℕ, Bool, true, false, cond, not, ◌&&◌, List, [], ◌∷◌, ◌++◌, Option, None, Some, is_some, refl, subst, length, bytes_eq, codes}
use Rattle.std.specs.Prelude.{IfSome, find, option_map, option_and_then, slice_get, decimal}
use Rattle.std.specs.Option.{option_map_or}
use Rattle.std.specs.List.{AllByRecursion}
use Rattle.std.specs.Result.{result_ok}
use Rattle.std.proofs.lemmas.Option.{IfSome_then}
use Rattle.access_levels.specs.Spelling.{id_of}
use Rattle.access_levels.specs.declared.entries.Who.{Who}
use Rattle.access_levels.specs.declared.entries.Who.TheVariants.{Star, Named}
use Rattle.generic_names.specs.Spelled.{Spelled, first_qualifier}
use Rattle.racf_profiles.specs.declared.users.User.{User}
use Rattle.racf_profiles.specs.declared.users.Connect.{Connect as Connection}
use Rattle.racf_profiles.specs.declared.groups.Group.{Group}
use Rattle.racf_profiles.specs.declared.profiles.Profile.{Profile}
use Rattle.racf_profiles.specs.declared.class_rows.ClassRow.{ClassRow}
use Rattle.racf_profiles.specs.declared.rows.Rows.{Rows}
use Rattle.racf_profiles.specs.Limits.{most_list_entries, most_members}
use Rattle.racf_profiles.specs.Lookup.{is_class, is_group, user_of, group_of, class_of, profile_of}
use Rattle.racf_profiles.specs.Names.{is_connected_to}
use Rattle.group_tree.specs.Groups.{first_subgroup}
use Rattle.class_profiles.specs.Classes.{is_under, first_under}
use Rattle.command_fields.specs.LawfulMembers.{Each}
use Rattle.command_fields.specs.declared.issuer.Issuer.{Issuer}
use Rattle.command_fields.specs.declared.fields.AltGroup.{AltGroup}
use Rattle.command_fields.specs.declared.fields.CommandFields.{CommandFields}
use Rattle.command_fields.specs.declared.fields.CommandFields.TheVariants as command
use Rattle.command_fields.specs.declared.profile_fields.RDelete.{RDelete}
use Rattle.command_fields.specs.declared.profile_fields.Permit.{Permit}
use Rattle.racf_profiles.specs.DynamicClasses.{cdt, general}
use Rattle.command_fields.specs.LawfulFields.{IsClauthWord, AreLawfulFields}
use Rattle.command_rules.specs.UserEffects.{altered_group, new_group}
use Rattle.command_rules.specs.ProfileEffects.{deleted_class}
use Rattle.command_rules.specs.Effects.{step}
use Rattle.command_rules.specs.declared.conflict.Conflict.{Conflict}
use Rattle.command_rules.specs.declared.conflict.Conflict.TheVariants.{NoUser, NoGroup, NoProfile, NoClass, Exists, NotConnected, Root, InUse, Cycle, OwnerNotSuperior, NotGeneric, NotListed, ClassFixed, DefaultGroup, LastSpecial, UnknownName, NameNotAllowed, Full}
use Rattle.command_rules.specs.declared.conflict.Named.TheVariants as named
use Rattle.command_rules.specs.declared.conflict.Holder.TheVariants.{Subgroup, Connected, Profile as ProfileOf}
use Rattle.command_rules.specs.declared.conflict.Limit.{Limit}
use Rattle.command_rules.specs.declared.conflict.Limit.TheVariants as kind
use Rattle.command_rules.specs.Numbers as numbers
use Rattle.command_rules.specs.Numbers.{is_early}
use Rattle.command_rules.specs.Required.{if_met, first_met, over, no_user, no_group, no_owner, no_named_group, no_class, name_taken, not_connected, default_not_connected, unknown_level, unknown_category, never_category, unknown_label}
use Rattle.command_rules.specs.OptionConflicts.{absent_class, class_without_generic, unlisted_class, always_active_class, never_listed_class, set_ropts_conflicts}
use Rattle.command_rules.specs.ProfileConflicts.{
  no_first_qualifier,
  profiles_in,
  named_unknown,
  is_unknown,
  no_permitted,
  no_such_class,
  no_resource_class,
  classless,
  no_global_class,
  no_profile,
  no_resource_profile,
  profile_taken,
  not_generic,
  class_profiles_full,
  profiles_full,
  standard_full,
  conditional_full,
  entries_full,
  members_full,
  categories_full,
  add_sd_requirements,
  add_sd_limits,
  alt_sd_conflicts,
  del_sd_conflicts,
  r_define_requirements,
  r_define_limits,
  r_alter_conflicts,
  name_not_allowed,
  class_taken,
  class_in_use,
  first_profile,
  uses_class,
  classes_full,
  define_class_requirements,
  define_class_limits,
  alter_class_conflicts,
  r_delete_conflicts,
  permit_conflicts,
}
use Rattle.command_rules.specs.Conflicts.{
  has_subgroup,
  has_connected,
  has_profile,
  cycle,
  owner_apart,
  owner_not_superior,
  default_group,
  last_special,
  users_full,
  groups_full,
  connections_full,
  user_full,
  add_user_conflicts,
  alt_user_conflicts,
  del_user_conflicts,
  add_group_conflicts,
  alt_group_conflicts,
  del_group_conflicts,
  connect_conflicts,
  remove_conflicts,
  conflicts,
  conflict_of,
  first_conflict_of,
}
use Rattle.lawful_commands.proofs.FieldFacts.{each-all}
use Rattle.desk_rules.specs.Words.{kind_words, conflict_words}
use Rattle.audit_records.specs.Feedless.{IsFeedless, IsFeedlessUser, IsFeedlessGroup, IsFeedlessProfile, IsFeedlessWho, AreFeedlessProfiles, AreFeedless}
use Rattle.audit_records.proofs.Feedless.{joined, decimal-feedless, read_id-feedless, either, always, if-either, if-map, if-then, if-found, if-given, if-ok, profile_of-feedless}
use Rattle.desk_rules.proofs.FeedlessFields.{id-feedless, group-feedless, data_set-feedless, class_profile-feedless, any_profile-feedless}
use Rattle.desk_rules.proofs.FeedlessRows.{ids-feedless, groups-feedless, names-feedless, logged-feedless, whos-feedless, current-feedless, owner-feedless}

-- a test that tells only conflicts without a line feed
abbrev pub IsFeedlessTest : Option Conflict → Type 0
IsFeedlessTest test = (conflict : Conflict) → test ≡ Some conflict → IsFeedless (conflict_words conflict)

none : IsFeedlessTest None
none conflict h = cc

met : (b : Bool) (conflict : Conflict) → IsFeedless (conflict_words conflict) → IsFeedlessTest (if_met b conflict)
met true conflict words other h = let same : conflict ≡ other = cc in subst (λ (c : Conflict). IsFeedless (conflict_words c)) same words
met false conflict words other h = cc

mapped : {X : Type 0} (P : X → Type 0) (f : X → Conflict) → ((x : X) → P x → IsFeedless (conflict_words (f x))) → (o : Option X) → IfSome o P → IsFeedlessTest (option_map f o)
mapped P f words None h other e = cc
mapped P f words (Some x) h other e = let same : f x ≡ other = cc in subst (λ (c : Conflict). IsFeedless (conflict_words c)) same (words x h)

chained : {X : Type 0} (P : X → Type 0) (f : X → Option Conflict) → ((x : X) → P x → IsFeedlessTest (f x)) → (o : Option X) → IfSome o P → IsFeedlessTest (option_and_then f o)
chained P f is None h other e = cc
chained P f is (Some x) h other e = is x h other e

unless : (b : Bool) (test : Option Conflict) → IsFeedlessTest test → IsFeedlessTest (cond b None test)
unless true test is other h = cc
unless false test is other h = is other h

-- ---- who and what has to be there
user-test : (id : List ℕ) (rows : Rows) → IsFeedless id → IsFeedlessTest (no_user id rows)
unfolding no_user
user-test id rows h = met _ (NoUser id) h

group-test : (id : List ℕ) (rows : Rows) → IsFeedless id → IsFeedlessTest (no_group id rows)
unfolding no_group
group-test id rows h = met _ (NoGroup id) h

owner-test : (id : Option (List ℕ)) (rows : Rows) → IfSome id IsFeedless → IsFeedlessTest (no_owner id rows)
unfolding no_owner
owner-test None rows h = none
owner-test (Some id) rows h = met _ (NoUser id) h

named_group-test : (id : Option (List ℕ)) (rows : Rows) → IfSome id IsFeedless → IsFeedlessTest (no_named_group id rows)
unfolding no_named_group
named_group-test None rows h = none
named_group-test (Some id) rows h = group-test id rows h

class-test : (classes : List (List ℕ)) (rows : Rows) → AllByRecursion IsFeedless classes → IsFeedlessTest (no_class classes rows)
unfolding no_class
class-test classes rows h = mapped IsFeedless NoClass (λ name is. is) _ (if-found IsFeedless _ classes h)

taken-test : (id : List ℕ) (rows : Rows) → IsFeedless id → IsFeedlessTest (name_taken id rows)
unfolding name_taken
taken-test id rows h = met _ (Exists (named.Id id)) h

connected-test : (user group : List ℕ) (rows : Rows) → IsFeedless group → IsFeedlessTest (not_connected user group rows)
unfolding not_connected
connected-test user group rows h = met _ (NotConnected group) h

default_connected-test : (user : List ℕ) (group : Option (List ℕ)) (rows : Rows) → IfSome group IsFeedless → IsFeedlessTest (default_not_connected user group rows)
unfolding default_not_connected
default_connected-test user None rows h = none
default_connected-test user (Some group) rows h = connected-test user group rows h

level-test : (name : Option (List ℕ)) (rows : Rows) → IfSome name IsFeedless → IsFeedlessTest (unknown_level name rows)
unfolding unknown_level
level-test None rows h = none
level-test (Some name) rows h = met _ (UnknownName name) h

category-test : (names : List (List ℕ)) (rows : Rows) → AllByRecursion IsFeedless names → IsFeedlessTest (unknown_category names rows)
unfolding unknown_category
category-test names rows h = mapped IsFeedless UnknownName (λ name is. is) _ (if-found IsFeedless _ names h)

never-test : (names : List (List ℕ)) (rows : Rows) → AllByRecursion IsFeedless names → IsFeedlessTest (never_category names rows)
unfolding never_category
never-test names rows h = mapped IsFeedless UnknownName (λ name is. is) _ (if-found IsFeedless _ names h)

label-test : (name : Option (List ℕ)) (rows : Rows) → IfSome name IsFeedless → IsFeedlessTest (unknown_label name rows)
unfolding unknown_label
label-test None rows h = none
label-test (Some name) rows h = met _ (UnknownName name) h

-- ---- limits
kind-words : (limit : Limit) → IsFeedless (kind_words limit)
kind-words kind.Users = refl
kind-words other = refl

over-test : (limit : Limit) (most count : ℕ) → IsFeedlessTest (over limit most count)
over-test limit most count = met _ (Full limit most) (joined (kind_words limit ++ codes " ") (decimal most) (joined (kind_words limit) (codes " ") (kind-words limit) refl) (decimal-feedless most))

-- ---- what has to stay
subgroup-test : (id : List ℕ) (rows : Rows) → AreFeedless rows → IsFeedlessTest (has_subgroup id rows)
unfolding has_subgroup
subgroup-test id rows are =
    mapped IsFeedless (λ subgroup. InUse (Subgroup subgroup)) (λ name is. is) _
    (if-map IsFeedless (λ (group : Group). group.id) (first_subgroup rows.groups id) (IfSome_then (first_subgroup rows.groups id) {P = IsFeedlessGroup} (if-found IsFeedlessGroup _ rows.groups are.groups) (λ group h. h.id)))

has_connected-test : (id : List ℕ) (rows : Rows) → AreFeedless rows → IsFeedlessTest (has_connected id rows)
unfolding has_connected
has_connected-test id rows are =
    mapped IsFeedlessUser (λ (user : User). InUse (Connected user.id)) (λ user h. h.id) (find (is_connected_to id) rows.users) (if-found IsFeedlessUser (is_connected_to id) rows.users are.users)

has_profile-test : (id : List ℕ) (rows : Rows) → AreFeedless rows → IsFeedlessTest (has_profile id rows)
unfolding has_profile
has_profile-test id rows are =
    let class = find (is_class (codes "DATASET")) rows.classes in
    let found = if-then AreFeedlessProfiles IsFeedlessProfile (λ row. find (is_under id) row.profiles) (λ row h. if-found IsFeedlessProfile (is_under id) row.profiles h) class (if-found AreFeedlessProfiles (is_class (codes "DATASET")) rows.classes are.classes) in
    let profile = option_and_then (λ (row : ClassRow). find (is_under id) row.profiles) class in
    mapped (λ (name : Spelled). IsFeedless name.text) (λ name. InUse (ProfileOf name)) (λ name h. h) (first_under id rows.classes)
    (if-map (λ (name : Spelled). IsFeedless name.text) (λ (profile : Profile). profile.name) profile (IfSome_then profile {P = IsFeedlessProfile} found (λ profile h. h.name)))

cycle-test : (group : List ℕ) (superior : Option (List ℕ)) (rows : Rows) → IsFeedless group → IsFeedlessTest (cycle group superior rows)
unfolding cycle
cycle-test group None rows h = none
cycle-test group (Some superior) rows h = met _ (Cycle group) h

superior-test : (superior owner : Option (List ℕ)) (group : Option Group) (rows : Rows) → IfSome group (λ (g : Group). IsFeedless g.owner) → IsFeedlessTest (owner_not_superior superior owner group rows)
unfolding owner_not_superior
superior-test None None group rows h = none
superior-test (Some superior) owner group rows h = chained (λ (g : Group). IsFeedless g.owner) (λ g. owner_apart g rows) (λ g is. met _ (OwnerNotSuperior g.owner) is) group h
superior-test None (Some owner) group rows h = chained (λ (g : Group). IsFeedless g.owner) (λ g. owner_apart g rows) (λ g is. met _ (OwnerNotSuperior g.owner) is) group h

default-test : (id group : List ℕ) (rows : Rows) → IsFeedless group → IsFeedlessTest (default_group id group rows)
unfolding default_group
default-test id group rows h = chained (λ (user : User). Unit {0}) _ (λ (user : User) is. met (bytes_eq user.default_group group) (DefaultGroup group) h) (user_of id rows) (always (user_of id rows) tt)

special-test : (issuer : Issuer) (c : CommandFields) (id : List ℕ) (rows : Rows) → IsFeedless id → IsFeedlessTest (last_special issuer c id rows)
unfolding last_special
special-test issuer c id rows h = met _ (LastSpecial id) h

users-test : (issuer : Issuer) (c : CommandFields) (rows : Rows) → IsFeedlessTest (users_full issuer c rows)
unfolding users_full
users-test issuer c rows = over-test _ _ _

groups-test : (issuer : Issuer) (c : CommandFields) (rows : Rows) → IsFeedlessTest (groups_full issuer c rows)
unfolding groups_full
groups-test issuer c rows = over-test _ _ _

connections-test : (issuer : Issuer) (c : CommandFields) (rows : Rows) → IsFeedlessTest (connections_full issuer c rows)
unfolding connections_full
connections-test issuer c rows = over-test _ _ _

user_full-test : (connects : List Connection) → IsFeedlessTest (user_full connects)
unfolding user_full
user_full-test connects = over-test _ _ _

-- ---- of profiles
qualifier-test : (name : Spelled) (rows : Rows) → IsFeedlessTest (no_first_qualifier name rows)
unfolding no_first_qualifier
qualifier-test name rows =
    let qualifier = first_qualifier name.text in
    owner-test (result_ok (id_of qualifier)) rows (if-ok IsFeedless (id_of qualifier) (λ id h. read_id-feedless qualifier id h))

unknown-test : (who : Who) → IsFeedlessWho who → IsFeedlessTest (named_unknown who)
unknown-test Star h = none
unknown-test (Named id) h = met true (NoUser id) h

permitted-test : (delete : Bool) (whos : List Who) (rows : Rows) → AllByRecursion IsFeedlessWho whos → IsFeedlessTest (no_permitted delete whos rows)
unfolding no_permitted
permitted-test delete whos rows h =
    unless delete _ (chained IsFeedlessWho named_unknown unknown-test (find (is_unknown rows) whos) (if-found IsFeedlessWho (is_unknown rows) whos h))

such_class-test : (class : List ℕ) (rows : Rows) → IsFeedless class → IsFeedlessTest (no_such_class class rows)
unfolding no_such_class
such_class-test class rows h = met _ (NoClass class) h

resource_class-test : (class : List ℕ) (rows : Rows) → IsFeedless class → IsFeedlessTest (no_resource_class class rows)
unfolding no_resource_class
resource_class-test class rows h = met _ (NoClass class) h

classless-test : (global : Bool) (id : Option (List ℕ)) (rows : Rows) → IfSome id IsFeedless → IsFeedlessTest (classless global id rows)
classless-test global None rows h = none
classless-test global (Some id) rows h = met (global && not (is_some (class_of id rows))) (NoClass id) h

global_class-test : (class : List ℕ) (name : Spelled) (rows : Rows) → IsFeedlessTest (no_global_class class name rows)
unfolding no_global_class
global_class-test class name rows =
    classless-test (bytes_eq class (codes "GLOBAL")) (result_ok (id_of name.text)) rows (if-ok IsFeedless (id_of name.text) (λ id h. read_id-feedless name.text id h))

profile-test : (class : List ℕ) (name : Spelled) (rows : Rows) → IsFeedless class → IsFeedless name.text → IsFeedlessTest (no_profile class name rows)
unfolding no_profile
profile-test class name rows h k = met _ (NoProfile class name) (joined (class ++ codes " ") name.text (joined class (codes " ") h refl) k)

resource_profile-test : (class : List ℕ) (name : Spelled) (rows : Rows) → IsFeedless class → IsFeedless name.text → IsFeedlessTest (no_resource_profile class name rows)
unfolding no_resource_profile
resource_profile-test class name rows h k = unless _ _ (profile-test class name rows h k)

profile_taken-test : (class : List ℕ) (name : Spelled) (rows : Rows) → IsFeedless name.text → IsFeedlessTest (profile_taken class name rows)
unfolding profile_taken
profile_taken-test class name rows h = met _ (Exists (named.Profile name)) h

generic-test : (class : List ℕ) (name : Spelled) (rows : Rows) → IsFeedless class → IsFeedlessTest (not_generic class name rows)
unfolding not_generic
generic-test class name rows h = met _ (NotGeneric class) h

class_profiles-test : (issuer : Issuer) (c : CommandFields) (class : List ℕ) (rows : Rows) → IsFeedlessTest (class_profiles_full issuer c class rows)
unfolding class_profiles_full
class_profiles-test issuer c class rows = over-test _ _ _

profiles-test : (issuer : Issuer) (c : CommandFields) (rows : Rows) → IsFeedlessTest (profiles_full issuer c rows)
unfolding profiles_full
profiles-test issuer c rows = over-test _ _ _

-- of a profile that may be there, whatever it is
limited : (limit : Limit) (most : ℕ) (count : Profile → ℕ) (profile : Option Profile) → IsFeedlessTest (option_and_then (λ (p : Profile). over limit most (count p)) profile)
limited limit most count profile = chained (λ (p : Profile). Unit {0}) (λ (p : Profile). over limit most (count p)) (λ p is. over-test limit most (count p)) profile (always profile tt)

standard-test : (issuer : Issuer) (c : Permit) (rows : Rows) → IsFeedlessTest (standard_full issuer c rows)
unfolding standard_full
standard-test issuer c rows = limited kind.Entries most_list_entries (λ (p : Profile). length p.standard) (profile_of c.class c.profile (step issuer (command.Permit c) rows))

conditional-test : (issuer : Issuer) (c : Permit) (rows : Rows) → IsFeedlessTest (conditional_full issuer c rows)
unfolding conditional_full
conditional-test issuer c rows = limited kind.Entries most_list_entries (λ (p : Profile). length p.conditional) (profile_of c.class c.profile (step issuer (command.Permit c) rows))

entries-test : (issuer : Issuer) (c : Permit) (rows : Rows) → IsFeedlessTest (entries_full issuer c rows)
unfolding entries_full
entries-test issuer c rows = over-test _ _ _

members-test : (issuer : Issuer) (c : CommandFields) (class : List ℕ) (name : Spelled) (rows : Rows) → IsFeedlessTest (members_full issuer c class name rows)
unfolding members_full
members-test issuer c class name rows = limited kind.Members most_members (λ (p : Profile). length p.members) (profile_of class name (step issuer c rows))

categories-test : (issuer : Issuer) (c : CommandFields) (rows : Rows) → IsFeedlessTest (categories_full issuer c rows)
unfolding categories_full
categories-test issuer c rows = over-test _ _ _

-- ---- dynamic classes
allowed-test : (class : List ℕ) (name : Spelled) (rows : Rows) → IsFeedless class → IsFeedlessTest (name_not_allowed class name rows)
unfolding name_not_allowed
allowed-test class name rows h = met _ (NameNotAllowed class) h

class_taken-test : (name : Spelled) (rows : Rows) → IsFeedless name.text → IsFeedlessTest (class_taken name rows)
unfolding class_taken
class_taken-test name rows h = met _ (Exists (named.Profile name)) h

classes-test : (issuer : Issuer) (c : CommandFields) (rows : Rows) → IsFeedlessTest (classes_full issuer c rows)
unfolding classes_full
classes-test issuer c rows = over-test _ _ _

first-feedless : (profiles : List Profile) → AllByRecursion IsFeedlessProfile profiles → IfSome (slice_get profiles 0) IsFeedlessProfile
first-feedless [] are = tt
first-feedless (profile ∷ profiles) are = are.0

profiles_in-feedless : (class : List ℕ) (rows : Rows) → AreFeedless rows → AllByRecursion IsFeedlessProfile (profiles_in class rows)
profiles_in-feedless class rows are = by (class_of class rows) (if-found AreFeedlessProfiles (is_class class) rows.classes are.classes)
  where
    by : (o : Option ClassRow) → IfSome o AreFeedlessProfiles → AllByRecursion IsFeedlessProfile (option_map_or (λ (row : ClassRow). row.profiles) o [])
    by None h = tt
    by (Some row) h = h

uses-feedless : (rows : Rows) (class : List ℕ) → AreFeedless rows → IfSome (uses_class rows class) IsFeedlessProfile
uses-feedless rows class are =
    if-either IsFeedlessProfile (first_profile class rows) (profile_of (codes "GLOBAL") (general class) rows) (first-feedless (profiles_in class rows) (profiles_in-feedless class rows are)) (profile_of-feedless (codes "GLOBAL") (general class) rows are)

in_use-test : (c : RDelete) (rows : Rows) → AreFeedless rows → IsFeedlessTest (class_in_use c rows)
unfolding class_in_use
in_use-test c rows are =
    mapped IsFeedlessProfile (λ (p : Profile). InUse (ProfileOf p.name)) (λ p h. h.name) (option_and_then (uses_class rows) (deleted_class c))
    (if-then (λ (class : List ℕ). Unit {0}) IsFeedlessProfile (uses_class rows) (λ class h. uses-feedless rows class are) (deleted_class c) (always (deleted_class c) tt))

-- ---- the classes of SETROPTS
absent-test : (classes : List (List ℕ)) (rows : Rows) → AllByRecursion IsFeedless classes → IsFeedlessTest (absent_class classes rows)
unfolding absent_class
absent-test classes rows h = mapped IsFeedless NoClass (λ name is. is) _ (if-found IsFeedless _ classes h)

without_generic-test : (classes : List (List ℕ)) (rows : Rows) → AllByRecursion IsFeedless classes → IsFeedlessTest (class_without_generic classes rows)
unfolding class_without_generic
without_generic-test classes rows h = mapped IsFeedless NotGeneric (λ name is. is) _ (if-found IsFeedless _ classes h)

unlisted-test : (classes : List (List ℕ)) (rows : Rows) → AllByRecursion IsFeedless classes → IsFeedlessTest (unlisted_class classes rows)
unfolding unlisted_class
unlisted-test classes rows h = mapped IsFeedless NotListed (λ name is. is) _ (if-found IsFeedless _ classes h)

always_active-test : (classes : List (List ℕ)) → AllByRecursion IsFeedless classes → IsFeedlessTest (always_active_class classes)
unfolding always_active_class
always_active-test classes h = mapped IsFeedless ClassFixed (λ name is. is) _ (if-found IsFeedless _ classes h)

never_listed-test : (classes : List (List ℕ)) (rows : Rows) → AllByRecursion IsFeedless classes → IsFeedlessTest (never_listed_class classes rows)
unfolding never_listed_class
never_listed-test classes rows h = mapped IsFeedless ClassFixed (λ name is. is) _ (if-found IsFeedless _ classes h)

if-feedless : (b : Bool) (names others : List (List ℕ)) → AllByRecursion IsFeedless names → AllByRecursion IsFeedless others → AllByRecursion IsFeedless (cond b names others)
if-feedless true names others h k = h
if-feedless false names others h k = k

-- ---- each command's tests
words-feedless : (names : List (List ℕ)) → Each IsClauthWord names → AllByRecursion IsFeedless names
words-feedless = each-all IsClauthWord IsFeedless (λ name h. id-feedless name h.0)

altered-feedless : (c : AltGroup) (o : Option Group) → IfSome c.owner IsFeedless → IfSome o IsFeedlessGroup → IfSome (option_map (altered_group c) o) (λ (g : Group). IsFeedless g.owner)
altered-feedless c None h k = tt
altered-feedless c (Some group) h k = if-given c.owner group.owner h k.owner

-- the first conflict that is met, and the first of those that are told early
first-test : (list : List (Option Conflict)) → AllByRecursion IsFeedlessTest list → IsFeedlessTest (first_met list)
first-test [] h = none
first-test (None ∷ list) h = first-test list h.1
first-test (Some conflict ∷ list) h = h.0

early-test : (list : List (Option Conflict)) → AllByRecursion IsFeedlessTest list → IsFeedlessTest (find is_early (numbers.met list))
early-test [] h = none
early-test (None ∷ list) h = early-test list h.1
early-test (Some conflict ∷ list) h = either IsFeedlessTest (is_early conflict) (Some conflict) (find is_early (numbers.met list)) h.0 (early-test list h.1)

module _ (issuer : Issuer) (issuer_id : IsFeedless issuer.id) (issuer_group : IsFeedless issuer.group) where
  each-test : (c : CommandFields) (rows : Rows) → AreLawfulFields c → AreFeedless rows → AllByRecursion IsFeedlessTest (conflicts issuer c rows)
  unfolding add_user_conflicts alt_user_conflicts del_user_conflicts add_group_conflicts alt_group_conflicts del_group_conflicts connect_conflicts remove_conflicts add_sd_requirements add_sd_limits alt_sd_conflicts del_sd_conflicts r_define_requirements r_define_limits r_alter_conflicts define_class_requirements define_class_limits alter_class_conflicts r_delete_conflicts permit_conflicts set_ropts_conflicts
  each-test (command.AddUser c) rows f are =
      (owner-test _ rows (ids-feedless c.owner f.owner), (group-test _ rows (current-feedless issuer issuer_id issuer_group c.dfltgrp f.dfltgrp), (class-test _ rows (words-feedless c.clauth f.clauth), (taken-test _ rows (id-feedless c.user f.user), (level-test _ rows (ids-feedless c.seclevel f.seclevel), (category-test _ rows (names-feedless c.addcategory f.addcategory), (label-test _ rows (ids-feedless c.seclabel f.seclabel), (users-test issuer _ rows, (user_full-test _, (connections-test issuer _ rows, tt))))))))))
  each-test (command.AltUser c) rows f are =
      (user-test _ rows (id-feedless c.user f.user), (owner-test _ rows (ids-feedless c.owner f.owner), (named_group-test _ rows (groups-feedless c.dfltgrp f.dfltgrp), (class-test _ rows (words-feedless c.clauth f.clauth), (class-test _ rows (words-feedless c.noclauth f.noclauth), (default_connected-test _ _ rows (groups-feedless c.dfltgrp f.dfltgrp), (special-test issuer _ _ rows (id-feedless c.user f.user), (level-test _ rows (ids-feedless c.seclevel f.seclevel), (category-test _ rows (names-feedless c.addcategory f.addcategory), (never-test _ rows (names-feedless c.delcategory f.delcategory), (label-test _ rows (ids-feedless c.seclabel f.seclabel), tt)))))))))))
  each-test (command.DelUser c) rows f are = (user-test _ rows (id-feedless c.user f), (has_profile-test _ rows are, (special-test issuer _ _ rows (id-feedless c.user f), tt)))
  each-test (command.AddGroup c) rows f are =
      (owner-test _ rows (ids-feedless c.owner f.owner), (group-test _ rows (current-feedless issuer issuer_id issuer_group c.supgroup f.supgroup), (taken-test _ rows (group-feedless c.group f.group), (superior-test c.supgroup c.owner (Some (new_group issuer c)) rows (owner-feedless issuer issuer_id issuer_group c.owner f.owner), (groups-test issuer _ rows, tt)))))
  each-test (command.AltGroup c) rows f are =
      (owner-test _ rows (ids-feedless c.owner f.owner), (group-test _ rows (group-feedless c.group f.group), (named_group-test _ rows (groups-feedless c.supgroup f.supgroup), (met _ Root refl, (cycle-test _ _ rows (group-feedless c.group f.group), (superior-test c.supgroup c.owner (option_map (altered_group c) (group_of c.group rows)) rows (altered-feedless c (group_of c.group rows) (ids-feedless c.owner f.owner) (if-found IsFeedlessGroup (is_group c.group) rows.groups are.groups)), tt))))))
  each-test (command.DelGroup c) rows f are = (group-test _ rows (group-feedless c.group f), (met _ Root refl, (subgroup-test _ rows are, (has_connected-test _ rows are, (has_profile-test _ rows are, tt)))))
  each-test (command.Connect c) rows f are =
      (user-test _ rows (id-feedless c.user f.user), (group-test _ rows (current-feedless issuer issuer_id issuer_group c.group f.group), (user_full-test _, (connections-test issuer _ rows, tt))))
  each-test (command.Remove c) rows f are =
      let group = current-feedless issuer issuer_id issuer_group c.group f.group in
      (user-test _ rows (id-feedless c.user f.user), (group-test _ rows group, (connected-test _ _ rows group, (default-test _ _ rows group, tt))))
  each-test (command.AddSd c) rows f are =
      (qualifier-test _ rows, (owner-test _ rows (ids-feedless c.owner f.owner), (profile_taken-test _ _ rows (data_set-feedless c.profile f.profile), (level-test _ rows (ids-feedless c.seclevel f.seclevel), (category-test _ rows (names-feedless c.addcategory f.addcategory), (label-test _ rows (ids-feedless c.seclabel f.seclabel), (class_profiles-test issuer _ _ rows, (profiles-test issuer _ rows, tt))))))))
  each-test (command.AltSd c) rows f are =
      (owner-test _ rows (ids-feedless c.owner f.owner), (profile-test _ _ rows refl (data_set-feedless c.profile f.profile), (level-test _ rows (ids-feedless c.seclevel f.seclevel), (category-test _ rows (names-feedless c.addcategory f.addcategory), (never-test _ rows (names-feedless c.delcategory f.delcategory), (label-test _ rows (ids-feedless c.seclabel f.seclabel), tt))))))
  each-test (command.DelSd c) rows f are = (profile-test _ _ rows refl (data_set-feedless c.profile f), tt)
  each-test (command.RDefine c) rows f are =
      let class = id-feedless c.class f.class in
      let name = class_profile-feedless c.class c.profile f.profile in
      (owner-test _ rows (ids-feedless c.owner f.owner), (resource_class-test _ rows class, (global_class-test _ _ rows, (profile_taken-test _ _ rows name, (generic-test _ _ rows class, (level-test _ rows (ids-feedless c.seclevel f.seclevel), (category-test _ rows (names-feedless c.addcategory f.addcategory), (label-test _ rows (ids-feedless c.seclabel f.seclabel), (class_profiles-test issuer _ _ rows, (profiles-test issuer _ rows, (members-test issuer _ _ _ rows, (categories-test issuer _ rows, (allowed-test _ _ rows class, tt)))))))))))))
  each-test (command.RAlter c) rows f are =
      let class = id-feedless c.class f.class in
      let name = class_profile-feedless c.class c.profile f.profile in
      (owner-test _ rows (ids-feedless c.owner f.owner), (resource_profile-test _ _ rows class name, (resource_class-test _ rows class, (level-test _ rows (ids-feedless c.seclevel f.seclevel), (category-test _ rows (names-feedless c.addcategory f.addcategory), (never-test _ rows (names-feedless c.delcategory f.delcategory), (label-test _ rows (ids-feedless c.seclabel f.seclabel), (members-test issuer _ _ _ rows, (categories-test issuer _ rows, tt)))))))))
  each-test (command.DefineClass c) rows f are =
      (owner-test _ rows (ids-feedless c.owner f.owner), (resource_class-test _ rows refl, (class_taken-test _ rows (class_profile-feedless cdt c.profile f.profile), (class_profiles-test issuer _ _ rows, (profiles-test issuer _ rows, (classes-test issuer _ rows, tt))))))
  each-test (command.AlterClass c) rows f are =
      (owner-test _ rows (ids-feedless c.owner f.owner), (resource_profile-test _ _ rows refl (class_profile-feedless cdt c.profile f.profile), (resource_class-test _ rows refl, tt)))
  each-test (command.RDelete c) rows f are =
      let class = id-feedless c.class f.class in
      (resource_profile-test _ _ rows class (class_profile-feedless c.class c.profile f.profile), (resource_class-test _ rows class, (in_use-test c rows are, tt)))
  each-test (command.Permit c) rows f are =
      let class = id-feedless c.class f.class in
      (permitted-test _ _ rows (whos-feedless c.id f.id), (profile-test _ _ rows class (any_profile-feedless c.class c.profile f.profile), (such_class-test _ rows class, (standard-test issuer _ rows, (conditional-test issuer _ rows, (entries-test issuer _ rows, tt))))))
  each-test (command.SetRopts c) rows f are =
      let raclist = names-feedless c.raclist f.raclist in
      let noclassact = names-feedless c.noclassact f.noclassact in
      let noraclist = names-feedless c.noraclist f.noraclist in
      let generic = names-feedless c.generic f.generic in
      (absent-test _ rows (names-feedless c.classact f.classact), (absent-test _ rows noclassact, (absent-test _ rows raclist, (absent-test _ rows noraclist, (absent-test _ rows (names-feedless c.global f.global), (absent-test _ rows (names-feedless c.noglobal f.noglobal), (absent-test _ rows generic, (absent-test _ rows (logged-feedless c.logoptions f.logoptions), (without_generic-test _ rows generic, (unlisted-test _ rows (if-feedless c.refresh c.raclist [] raclist tt), (unlisted-test _ rows noraclist, (always_active-test _ noclassact, (never_listed-test _ rows (if-feedless c.refresh [] c.raclist tt raclist), tt)))))))))))))

  pub conflict-feedless : (c : CommandFields) (rows : Rows) → AreLawfulFields c → AreFeedless rows → IsFeedlessTest (conflict_of issuer c rows)
  conflict-feedless c rows f are = first-test (conflicts issuer c rows) (each-test c rows f are)

  pub early-feedless : (c : CommandFields) (rows : Rows) → AreLawfulFields c → AreFeedless rows → IsFeedlessTest (first_conflict_of issuer c rows)
  early-feedless c rows f are = early-test (conflicts issuer c rows) (each-test c rows f are)
