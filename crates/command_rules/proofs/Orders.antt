-- The number of each test, and the order of each command's.
use Rattle.std.proofs.Common.{◌≡◌, ℕ, Bool, true, not, ◌&&◌, List, [], ◌∷◌, Option, None, Some, is_some, refl, length, bytes_eq, codes}
use Rattle.std.specs.Result.{result_ok}
use Rattle.access_levels.specs.Spelling.{id_of}
use Rattle.access_levels.specs.declared.entries.Who.{Who}
use Rattle.access_levels.specs.declared.entries.Who.TheVariants.{Star, Named}
use Rattle.generic_names.specs.Spelled.{Spelled, first_qualifier}
use Rattle.racf_profiles.specs.declared.users.User.{User}
use Rattle.racf_profiles.specs.declared.users.Connect.{Connect as Connection}
use Rattle.racf_profiles.specs.declared.groups.Group.{Group}
use Rattle.racf_profiles.specs.declared.profiles.Profile.{Profile}
use Rattle.racf_profiles.specs.declared.rows.Rows.{Rows}
use Rattle.racf_profiles.specs.Lookup.{user_of, class_of, profile_of}
use Rattle.command_fields.specs.declared.issuer.Issuer.{Issuer}
use Rattle.command_fields.specs.declared.fields.CommandFields.{CommandFields}
use Rattle.command_fields.specs.declared.fields.CommandFields.TheVariants as fields
use Rattle.command_fields.specs.declared.profile_fields.Permit.{Permit}
use Rattle.command_rules.specs.Effects.{step}
use Rattle.command_fields.specs.declared.profile_fields.RDelete.{RDelete}
use Rattle.command_rules.specs.declared.conflict.Holder.TheVariants.{Profile as ProfileOf}
use Rattle.command_rules.specs.declared.conflict.Conflict.TheVariants.{NoUser, NoGroup, NoProfile, NoClass, Exists, NotConnected, Root, InUse, Cycle, OwnerNotSuperior, NotGeneric, NotListed, ClassFixed, DefaultGroup, LastSpecial, UnknownName, Full, NameNotAllowed}
use Rattle.racf_profiles.specs.Limits.{most_list_entries, most_members}
use Rattle.command_rules.specs.declared.conflict.Limit.{Limit}
use Rattle.command_rules.specs.declared.conflict.Limit.TheVariants.{Entries, Members}
use Rattle.command_rules.specs.Numbers.{met, is_ascending}
use Rattle.command_rules.specs.Required.{over, no_user, no_group, no_owner, no_named_group, no_class, name_taken, not_connected, default_not_connected, unknown_level, unknown_category, never_category, unknown_label}
use Rattle.command_rules.specs.ProfileConflicts.{
  no_first_qualifier,
  named_unknown,
  no_permitted,
  no_such_class,
  no_resource_class,
  classless,
  no_global_class,
  no_profile,
  no_resource_profile,
  profile_taken,
  not_generic,
  name_not_allowed,
  class_taken,
  class_in_use,
  classes_full,
  class_profiles_full,
  profiles_full,
  standard_full,
  conditional_full,
  entries_full,
  members_full,
  categories_full,
  add_sd_requirements,
  add_sd_limits,
  alt_sd_conflicts,
  del_sd_conflicts,
  r_define_requirements,
  r_define_limits,
  r_alter_conflicts,
  define_class_requirements,
  define_class_limits,
  alter_class_conflicts,
  r_delete_conflicts,
  permit_conflicts,
}
use Rattle.command_rules.specs.OptionConflicts.{absent_class, class_without_generic, unlisted_class, never_listed_class, always_active_class, set_ropts_conflicts}
use Rattle.command_rules.specs.Conflicts.{
  has_subgroup,
  has_connected,
  has_profile,
  cycle,
  owner_apart,
  owner_not_superior,
  default_group,
  last_special,
  users_full,
  groups_full,
  connections_full,
  user_full,
  add_user_conflicts,
  alt_user_conflicts,
  del_user_conflicts,
  add_group_conflicts,
  alt_group_conflicts,
  del_group_conflicts,
  connect_conflicts,
  remove_conflicts,
  conflicts,
}
use Rattle.command_rules.proofs.Numbered.{HasNumber, AreNumbered, are_sorted, number-none, number-if_met, number-map, number-then, number-unless, met-ascending}

-- ---- who and what has to be there
user-number : (id : List ℕ) (rows : Rows) → HasNumber 1 (no_user id rows)
unfolding no_user
user-number id rows = number-if_met _ (NoUser id)

group-number : (id : List ℕ) (rows : Rows) → HasNumber 2 (no_group id rows)
unfolding no_group
group-number id rows = number-if_met _ (NoGroup id)

owner-number : (id : Option (List ℕ)) (rows : Rows) → HasNumber 1 (no_owner id rows)
unfolding no_owner
owner-number None rows = number-none 1
owner-number (Some id) rows = number-if_met _ (NoUser id)

named_group-number : (id : Option (List ℕ)) (rows : Rows) → HasNumber 2 (no_named_group id rows)
unfolding no_named_group
named_group-number None rows = number-none 2
named_group-number (Some id) rows = group-number id rows

class-number : (classes : List (List ℕ)) (rows : Rows) → HasNumber 4 (no_class classes rows)
unfolding no_class
class-number classes rows = number-map 4 NoClass (λ x. refl) _

taken-number : (id : List ℕ) (rows : Rows) → HasNumber 5 (name_taken id rows)
unfolding name_taken
taken-number id rows = number-if_met _ (Exists _)

connected-number : (user group : List ℕ) (rows : Rows) → HasNumber 6 (not_connected user group rows)
unfolding not_connected
connected-number user group rows = number-if_met _ (NotConnected group)

default_connected-number : (user : List ℕ) (group : Option (List ℕ)) (rows : Rows) → HasNumber 6 (default_not_connected user group rows)
unfolding default_not_connected
default_connected-number user None rows = number-none 6
default_connected-number user (Some group) rows = connected-number user group rows

level-number : (name : Option (List ℕ)) (rows : Rows) → HasNumber 16 (unknown_level name rows)
unfolding unknown_level
level-number None rows = number-none 16
level-number (Some name) rows = number-if_met _ (UnknownName name)

category-number : (names : List (List ℕ)) (rows : Rows) → HasNumber 16 (unknown_category names rows)
unfolding unknown_category
category-number names rows = number-map 16 UnknownName (λ x. refl) _

never-number : (names : List (List ℕ)) (rows : Rows) → HasNumber 16 (never_category names rows)
unfolding never_category
never-number names rows = number-map 16 UnknownName (λ x. refl) _

label-number : (name : Option (List ℕ)) (rows : Rows) → HasNumber 16 (unknown_label name rows)
unfolding unknown_label
label-number None rows = number-none 16
label-number (Some name) rows = number-if_met _ (UnknownName name)

over-number : (limit : Limit) (most count : ℕ) → HasNumber 17 (over limit most count)
over-number limit most count = number-if_met _ (Full limit most)

-- ---- what has to stay
subgroup-number : (id : List ℕ) (rows : Rows) → HasNumber 8 (has_subgroup id rows)
unfolding has_subgroup
subgroup-number id rows = number-map 8 _ (λ x. refl) _

has_connected-number : (id : List ℕ) (rows : Rows) → HasNumber 8 (has_connected id rows)
unfolding has_connected
has_connected-number id rows = number-map 8 _ (λ x. refl) _

has_profile-number : (id : List ℕ) (rows : Rows) → HasNumber 8 (has_profile id rows)
unfolding has_profile
has_profile-number id rows = number-map 8 _ (λ x. refl) _

cycle-number : (group : List ℕ) (superior : Option (List ℕ)) (rows : Rows) → HasNumber 9 (cycle group superior rows)
unfolding cycle
cycle-number group None rows = number-none 9
cycle-number group (Some superior) rows = number-if_met _ (Cycle group)

superior-number : (superior owner : Option (List ℕ)) (group : Option Group) (rows : Rows) → HasNumber 10 (owner_not_superior superior owner group rows)
unfolding owner_not_superior
superior-number None None group rows = number-none 10
superior-number (Some superior) owner group rows = number-then 10 (λ g. owner_apart g rows) (λ g. number-if_met _ (OwnerNotSuperior g.owner)) group
superior-number None (Some owner) group rows = number-then 10 (λ g. owner_apart g rows) (λ g. number-if_met _ (OwnerNotSuperior g.owner)) group

default-number : (id group : List ℕ) (rows : Rows) → HasNumber 14 (default_group id group rows)
unfolding default_group
default-number id group rows = number-then 14 _ (λ (user : User). number-if_met (bytes_eq user.default_group group) (DefaultGroup group)) (user_of id rows)

special-number : (issuer : Issuer) (command : CommandFields) (id : List ℕ) (rows : Rows) → HasNumber 15 (last_special issuer command id rows)
unfolding last_special
special-number issuer command id rows = number-if_met _ (LastSpecial id)

users-number : (issuer : Issuer) (command : CommandFields) (rows : Rows) → HasNumber 17 (users_full issuer command rows)
unfolding users_full
users-number issuer command rows = over-number _ _ _

groups-number : (issuer : Issuer) (command : CommandFields) (rows : Rows) → HasNumber 17 (groups_full issuer command rows)
unfolding groups_full
groups-number issuer command rows = over-number _ _ _

connections-number : (issuer : Issuer) (command : CommandFields) (rows : Rows) → HasNumber 17 (connections_full issuer command rows)
unfolding connections_full
connections-number issuer command rows = over-number _ _ _

user_full-number : (connects : List Connection) → HasNumber 17 (user_full connects)
unfolding user_full
user_full-number connects = over-number _ _ _

-- ---- of profiles
qualifier-number : (name : Spelled) (rows : Rows) → HasNumber 1 (no_first_qualifier name rows)
unfolding no_first_qualifier
qualifier-number name rows = owner-number (result_ok (id_of (first_qualifier name.text))) rows

unknown-number : (who : Who) → HasNumber 1 (named_unknown who)
unknown-number Star = number-none 1
unknown-number (Named id) = number-if_met true (NoUser id)

permitted-number : (delete : Bool) (whos : List Who) (rows : Rows) → HasNumber 1 (no_permitted delete whos rows)
unfolding no_permitted
permitted-number delete whos rows = number-unless 1 delete _ (number-then 1 named_unknown unknown-number _)

such_class-number : (class : List ℕ) (rows : Rows) → HasNumber 4 (no_such_class class rows)
unfolding no_such_class
such_class-number class rows = number-if_met _ (NoClass class)

resource_class-number : (class : List ℕ) (rows : Rows) → HasNumber 4 (no_resource_class class rows)
unfolding no_resource_class
resource_class-number class rows = number-if_met _ (NoClass class)

classless-number : (global : Bool) (id : Option (List ℕ)) (rows : Rows) → HasNumber 4 (classless global id rows)
classless-number global None rows = number-none 4
classless-number global (Some id) rows = number-if_met (global && not (is_some (class_of id rows))) (NoClass id)

global_class-number : (class : List ℕ) (name : Spelled) (rows : Rows) → HasNumber 4 (no_global_class class name rows)
unfolding no_global_class
global_class-number class name rows = classless-number (bytes_eq class (codes "GLOBAL")) (result_ok (id_of name.text)) rows

profile-number : (class : List ℕ) (name : Spelled) (rows : Rows) → HasNumber 3 (no_profile class name rows)
unfolding no_profile
profile-number class name rows = number-if_met _ (NoProfile class name)

resource_profile-number : (class : List ℕ) (name : Spelled) (rows : Rows) → HasNumber 3 (no_resource_profile class name rows)
unfolding no_resource_profile
resource_profile-number class name rows = number-unless 3 _ _ (profile-number class name rows)

profile_taken-number : (class : List ℕ) (name : Spelled) (rows : Rows) → HasNumber 5 (profile_taken class name rows)
unfolding profile_taken
profile_taken-number class name rows = number-if_met _ (Exists _)

generic-number : (class : List ℕ) (name : Spelled) (rows : Rows) → HasNumber 11 (not_generic class name rows)
unfolding not_generic
generic-number class name rows = number-if_met _ (NotGeneric class)

class_profiles-number : (issuer : Issuer) (command : CommandFields) (class : List ℕ) (rows : Rows) → HasNumber 17 (class_profiles_full issuer command class rows)
unfolding class_profiles_full
class_profiles-number issuer command class rows = over-number _ _ _

profiles-number : (issuer : Issuer) (command : CommandFields) (rows : Rows) → HasNumber 17 (profiles_full issuer command rows)
unfolding profiles_full
profiles-number issuer command rows = over-number _ _ _

standard-number : (issuer : Issuer) (c : Permit) (rows : Rows) → HasNumber 17 (standard_full issuer c rows)
unfolding standard_full
standard-number issuer c rows = number-then 17 _ (λ (p : Profile). over-number Entries most_list_entries (length p.standard)) (profile_of c.class c.profile (step issuer (fields.Permit c) rows))

conditional-number : (issuer : Issuer) (c : Permit) (rows : Rows) → HasNumber 17 (conditional_full issuer c rows)
unfolding conditional_full
conditional-number issuer c rows = number-then 17 _ (λ (p : Profile). over-number Entries most_list_entries (length p.conditional)) (profile_of c.class c.profile (step issuer (fields.Permit c) rows))

entries-number : (issuer : Issuer) (c : Permit) (rows : Rows) → HasNumber 17 (entries_full issuer c rows)
unfolding entries_full
entries-number issuer c rows = over-number _ _ _

members-number : (issuer : Issuer) (command : CommandFields) (class : List ℕ) (name : Spelled) (rows : Rows) → HasNumber 17 (members_full issuer command class name rows)
unfolding members_full
members-number issuer command class name rows = number-then 17 _ (λ (p : Profile). over-number Members most_members (length p.members)) (profile_of class name (step issuer command rows))

categories-number : (issuer : Issuer) (command : CommandFields) (rows : Rows) → HasNumber 17 (categories_full issuer command rows)
unfolding categories_full
categories-number issuer command rows = over-number _ _ _

not_allowed-number : (class : List ℕ) (name : Spelled) (rows : Rows) → HasNumber 18 (name_not_allowed class name rows)
unfolding name_not_allowed
not_allowed-number class name rows = number-if_met _ (NameNotAllowed class)

class_taken-number : (name : Spelled) (rows : Rows) → HasNumber 5 (class_taken name rows)
unfolding class_taken
class_taken-number name rows = number-if_met _ (Exists _)

class_in_use-number : (c : RDelete) (rows : Rows) → HasNumber 8 (class_in_use c rows)
unfolding class_in_use
class_in_use-number c rows = number-map 8 (λ (p : Profile). InUse (ProfileOf p.name)) (λ p. refl) _

classes-number : (issuer : Issuer) (command : CommandFields) (rows : Rows) → HasNumber 17 (classes_full issuer command rows)
unfolding classes_full
classes-number issuer command rows = over-number _ _ _

-- ---- of options
absent-number : (classes : List (List ℕ)) (rows : Rows) → HasNumber 4 (absent_class classes rows)
unfolding absent_class
absent-number classes rows = number-map 4 NoClass (λ x. refl) _

without_generic-number : (classes : List (List ℕ)) (rows : Rows) → HasNumber 11 (class_without_generic classes rows)
unfolding class_without_generic
without_generic-number classes rows = number-map 11 NotGeneric (λ x. refl) _

unlisted-number : (classes : List (List ℕ)) (rows : Rows) → HasNumber 12 (unlisted_class classes rows)
unfolding unlisted_class
unlisted-number classes rows = number-map 12 NotListed (λ x. refl) _

always_active-number : (classes : List (List ℕ)) → HasNumber 13 (always_active_class classes)
unfolding always_active_class
always_active-number classes = number-map 13 ClassFixed (λ x. refl) _

never_listed-number : (classes : List (List ℕ)) (rows : Rows) → HasNumber 13 (never_listed_class classes rows)
unfolding never_listed_class
never_listed-number classes rows = number-map 13 ClassFixed (λ x. refl) _

-- ---- each command's tests, with their numbers
abbrev numbers_of : CommandFields → List ℕ
numbers_of (fields.AddUser c) = 1 ∷ 2 ∷ 4 ∷ 5 ∷ 16 ∷ 16 ∷ 16 ∷ 17 ∷ 17 ∷ 17 ∷ []
numbers_of (fields.AltUser c) = 1 ∷ 1 ∷ 2 ∷ 4 ∷ 4 ∷ 6 ∷ 15 ∷ 16 ∷ 16 ∷ 16 ∷ 16 ∷ []
numbers_of (fields.DelUser c) = 1 ∷ 8 ∷ 15 ∷ []
numbers_of (fields.AddGroup c) = 1 ∷ 2 ∷ 5 ∷ 10 ∷ 17 ∷ []
numbers_of (fields.AltGroup c) = 1 ∷ 2 ∷ 2 ∷ 7 ∷ 9 ∷ 10 ∷ []
numbers_of (fields.DelGroup c) = 2 ∷ 7 ∷ 8 ∷ 8 ∷ 8 ∷ []
numbers_of (fields.Connect c) = 1 ∷ 2 ∷ 17 ∷ 17 ∷ []
numbers_of (fields.Remove c) = 1 ∷ 2 ∷ 6 ∷ 14 ∷ []
numbers_of (fields.AddSd c) = 1 ∷ 1 ∷ 5 ∷ 16 ∷ 16 ∷ 16 ∷ 17 ∷ 17 ∷ []
numbers_of (fields.AltSd c) = 1 ∷ 3 ∷ 16 ∷ 16 ∷ 16 ∷ 16 ∷ []
numbers_of (fields.DelSd c) = 3 ∷ []
numbers_of (fields.RDefine c) = 1 ∷ 4 ∷ 4 ∷ 5 ∷ 11 ∷ 16 ∷ 16 ∷ 16 ∷ 17 ∷ 17 ∷ 17 ∷ 17 ∷ 18 ∷ []
numbers_of (fields.RAlter c) = 1 ∷ 3 ∷ 4 ∷ 16 ∷ 16 ∷ 16 ∷ 16 ∷ 17 ∷ 17 ∷ []
numbers_of (fields.DefineClass c) = 1 ∷ 4 ∷ 5 ∷ 17 ∷ 17 ∷ 17 ∷ []
numbers_of (fields.AlterClass c) = 1 ∷ 3 ∷ 4 ∷ []
numbers_of (fields.RDelete c) = 3 ∷ 4 ∷ 8 ∷ []
numbers_of (fields.Permit c) = 1 ∷ 3 ∷ 4 ∷ 17 ∷ 17 ∷ 17 ∷ []
numbers_of (fields.SetRopts c) = 4 ∷ 4 ∷ 4 ∷ 4 ∷ 4 ∷ 4 ∷ 4 ∷ 4 ∷ 11 ∷ 12 ∷ 12 ∷ 13 ∷ 13 ∷ []

are_numbered : (issuer : Issuer) (command : CommandFields) (rows : Rows) → AreNumbered (conflicts issuer command rows) (numbers_of command)
unfolding add_user_conflicts alt_user_conflicts del_user_conflicts add_group_conflicts alt_group_conflicts del_group_conflicts connect_conflicts remove_conflicts add_sd_requirements add_sd_limits alt_sd_conflicts del_sd_conflicts r_define_requirements r_define_limits r_alter_conflicts define_class_requirements define_class_limits alter_class_conflicts r_delete_conflicts permit_conflicts set_ropts_conflicts
are_numbered issuer (fields.AddUser c) rows = (owner-number _ rows, (group-number _ rows, (class-number _ rows, (taken-number _ rows, (level-number _ rows, (category-number _ rows, (label-number _ rows, (users-number issuer _ rows, (user_full-number _, (connections-number issuer _ rows, tt))))))))))
are_numbered issuer (fields.AltUser c) rows = (user-number _ rows, (owner-number _ rows, (named_group-number _ rows, (class-number _ rows, (class-number _ rows, (default_connected-number _ _ rows, (special-number issuer _ _ rows, (level-number _ rows, (category-number _ rows, (never-number _ rows, (label-number _ rows, tt)))))))))))
are_numbered issuer (fields.DelUser c) rows = (user-number _ rows, (has_profile-number _ rows, (special-number issuer _ _ rows, tt)))
are_numbered issuer (fields.AddGroup c) rows = (owner-number _ rows, (group-number _ rows, (taken-number _ rows, (superior-number _ _ _ rows, (groups-number issuer _ rows, tt)))))
are_numbered issuer (fields.AltGroup c) rows = (owner-number _ rows, (group-number _ rows, (named_group-number _ rows, (number-if_met _ Root, (cycle-number _ _ rows, (superior-number _ _ _ rows, tt))))))
are_numbered issuer (fields.DelGroup c) rows = (group-number _ rows, (number-if_met _ Root, (subgroup-number _ rows, (has_connected-number _ rows, (has_profile-number _ rows, tt)))))
are_numbered issuer (fields.Connect c) rows = (user-number _ rows, (group-number _ rows, (user_full-number _, (connections-number issuer _ rows, tt))))
are_numbered issuer (fields.Remove c) rows = (user-number _ rows, (group-number _ rows, (connected-number _ _ rows, (default-number _ _ rows, tt))))
are_numbered issuer (fields.AddSd c) rows = (qualifier-number _ rows, (owner-number _ rows, (profile_taken-number _ _ rows, (level-number _ rows, (category-number _ rows, (label-number _ rows, (class_profiles-number issuer _ _ rows, (profiles-number issuer _ rows, tt))))))))
are_numbered issuer (fields.AltSd c) rows = (owner-number _ rows, (profile-number _ _ rows, (level-number _ rows, (category-number _ rows, (never-number _ rows, (label-number _ rows, tt))))))
are_numbered issuer (fields.DelSd c) rows = (profile-number _ _ rows, tt)
are_numbered issuer (fields.RDefine c) rows = (owner-number _ rows, (resource_class-number _ rows, (global_class-number _ _ rows, (profile_taken-number _ _ rows, (generic-number _ _ rows, (level-number _ rows, (category-number _ rows, (label-number _ rows, (class_profiles-number issuer _ _ rows, (profiles-number issuer _ rows, (members-number issuer _ _ _ rows, (categories-number issuer _ rows, (not_allowed-number _ _ rows, tt)))))))))))))
are_numbered issuer (fields.RAlter c) rows = (owner-number _ rows, (resource_profile-number _ _ rows, (resource_class-number _ rows, (level-number _ rows, (category-number _ rows, (never-number _ rows, (label-number _ rows, (members-number issuer _ _ _ rows, (categories-number issuer _ rows, tt)))))))))
are_numbered issuer (fields.DefineClass c) rows = (owner-number _ rows, (resource_class-number _ rows, (class_taken-number _ rows, (class_profiles-number issuer _ _ rows, (profiles-number issuer _ rows, (classes-number issuer _ rows, tt))))))
are_numbered issuer (fields.AlterClass c) rows = (owner-number _ rows, (resource_profile-number _ _ rows, (resource_class-number _ rows, tt)))
are_numbered issuer (fields.RDelete c) rows = (resource_profile-number _ _ rows, (resource_class-number _ rows, (class_in_use-number c rows, tt)))
are_numbered issuer (fields.Permit c) rows = (permitted-number _ _ rows, (profile-number _ _ rows, (such_class-number _ rows, (standard-number issuer _ rows, (conditional-number issuer _ rows, (entries-number issuer _ rows, tt))))))
are_numbered issuer (fields.SetRopts c) rows = (absent-number _ rows, (absent-number _ rows, (absent-number _ rows, (absent-number _ rows, (absent-number _ rows, (absent-number _ rows, (absent-number _ rows, (absent-number _ rows, (without_generic-number _ rows, (unlisted-number _ rows, (unlisted-number _ rows, (always_active-number _, (never_listed-number _ rows, tt)))))))))))))

sorted : (command : CommandFields) → are_sorted (numbers_of command) ≡ true
sorted (fields.AddUser c) = refl
sorted (fields.AltUser c) = refl
sorted (fields.DelUser c) = refl
sorted (fields.AddGroup c) = refl
sorted (fields.AltGroup c) = refl
sorted (fields.DelGroup c) = refl
sorted (fields.Connect c) = refl
sorted (fields.Remove c) = refl
sorted (fields.AddSd c) = refl
sorted (fields.AltSd c) = refl
sorted (fields.DelSd c) = refl
sorted (fields.RDefine c) = refl
sorted (fields.RAlter c) = refl
sorted (fields.DefineClass c) = refl
sorted (fields.AlterClass c) = refl
sorted (fields.RDelete c) = refl
sorted (fields.Permit c) = refl
sorted (fields.SetRopts c) = refl

pub conflicts-ascending : (issuer : Issuer) (command : CommandFields) (rows : Rows) → is_ascending (met (conflicts issuer command rows)) ≡ true
conflicts-ascending issuer command rows = met-ascending (conflicts issuer command rows) (numbers_of command) (are_numbered issuer command rows) (sorted command)
