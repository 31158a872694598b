-- What a user, a profile and a class rest on in the other rows, and what is lawful after a change of the users, of
-- the groups, or of the classes.
use Rattle.std.proofs.Common.{◌≡◌, ℕ, ◌≤◌, Bool, true, false, cond, ◌||◌, ◌&&◌, not, List, [], ◌∷◌, length, map, Option, None, Some, IsSome, is_some, IsTrue, bytes_eq, codes, refl, sym, ap, subst, ◌∙◌, true≢false, arith}
use Rattle.std.specs.Prelude.{◌==◌, Ok, find}
use Rattle.std.specs.List.{AllByRecursion, list_any}
use Rattle.std.specs.Option.{option_map_or}
use Rattle.std.proofs.lemmas.Bool.{and_parts, and_from}
use Rattle.std.proofs.lemmas.Nat.Bits.{bit_at-zero}
use Rattle.access_levels.specs.Spelling.{group_of as group_spelled}
use Rattle.generic_names.specs.Spelled.{Spelled}
use Rattle.generic_names.specs.Covers.{is_generic}
use Rattle.racf_profiles.specs.declared.users.User.{User}
use Rattle.racf_profiles.specs.declared.users.Connect.{Connect as Connection}
use Rattle.racf_profiles.specs.declared.groups.Group.{Group}
use Rattle.racf_profiles.specs.declared.profiles.Profile.{Profile}
use Rattle.racf_profiles.specs.declared.profiles.Member.{Member}
use Rattle.racf_profiles.specs.declared.profiles.Member.TheVariants.{Access, SecurityLevel, Category, Traits}
use Rattle.racf_profiles.specs.declared.class_rows.ClassRow.{ClassRow}
use Rattle.racf_profiles.specs.declared.fixed_classes.NameForm.{NameForm}
use Rattle.racf_profiles.specs.declared.fixed_classes.NameForm.TheVariants as names
use Rattle.racf_profiles.specs.declared.fixed_classes.ClassFacts.{ClassFacts}
use Rattle.racf_profiles.specs.declared.options.Options.{Options}
use Rattle.racf_profiles.specs.declared.rows.Rows.{Rows}
use Rattle.racf_profiles.specs.DynamicClasses.{facts_in, is_short}
use Rattle.racf_profiles.specs.Limits.{most_connections_in_all, most_profiles, most_entries_in_all}
use Rattle.racf_profiles.specs.Lookup.{is_class, group_of, class_of, find_group}
use Rattle.racf_profiles.specs.Names.{connections, is_special_user}
use Rattle.racf_profiles.specs.Counts.{profile_count, entry_count}
use Rattle.racf_profiles.specs.Tree.{IsTree}
use Rattle.racf_profiles.specs.LawfulUsers.{AreUsers, IsUser, AreDefined, is_clauth_class}
use Rattle.racf_profiles.specs.LawfulProfiles.{AreProfiles, AreClassNames, AreDynamic, IsClass, IsProfile, AreMembers, is_named_by, is_profile_name, is_member_of, kind_in, names_of}
use Rattle.racf_profiles.specs.Lawful.{AreLawful, AreCategories}
use Rattle.lawful_commands.proofs.RowLists.{all-each, both-each, all_pass-each}
use Rattle.lawful_commands.proofs.ClassTraits.{said_in, traits_said, facts-same, dynamic-kept}

-- Every category that was defined is defined, at its place.
pub record Extends (old new : Options) : Type 0 where
  pub longer : length old.categories ≤ length new.categories
  pub kept : (name : List ℕ) → list_any (λ other. bytes_eq other name) old.categories ≡ true → list_any (λ other. bytes_eq other name) new.categories ≡ true

pub extends_itself : (options : Options) → Extends options options
extends_itself options = record { longer = omega arith; kept = λ name h. h }

-- Each class that was there is there.
abbrev pub HasClasses : Rows → Rows → Type 0
HasClasses old new = (name : List ℕ) → is_some (class_of name old) ≡ true → is_some (class_of name new) ≡ true

-- A class allows what it allowed.
abbrev pub AllowsAsBefore : Rows → Rows → List ℕ → Type 0
AllowsAsBefore old new class = facts_in class new ≡ facts_in class old

-- the empty set is of none
pub defined-none : (options : Options) → AreDefined options 0
defined-none options n is = absurd (true≢false (sym is ∙ ap (λ b. b == 1) (bit_at-zero n)))

pub defined-kept : (old new : Options) → Extends old new → (categories : ℕ) → AreDefined old categories → AreDefined new categories
defined-kept old new extends categories defined n is = omega (arith, extends.longer, defined n is)

module _ (old new : Rows) (classes : HasClasses old new) (extends : Extends old.options new.options) where
  -- ---- a user
  clauth-kept : (name : List ℕ) → is_clauth_class old name ≡ true → is_clauth_class new name ≡ true
  clauth-kept name h = by (bytes_eq name (codes "USER")) (is_some (class_of name old)) refl h
    where
      by : (u b : Bool) → is_some (class_of name old) ≡ b → ((u || b) && not (bytes_eq name (codes "DATASET"))) ≡ true → ((u || is_some (class_of name new)) && not (bytes_eq name (codes "DATASET"))) ≡ true
      by true b e k = k
      by false true e k = ap (λ x. x && not (bytes_eq name (codes "DATASET"))) (classes name e) ∙ k
      by false false e k = absurd (true≢false (sym k))

  pub user-kept : (user : User) → group_of user.id new ≡ None → AllByRecursion (λ (connection : Connection). IsSome (group_of connection.group new)) user.connects → IsUser old user → IsUser new user
  user-kept user free there is = record {
    no_group = free;
    name = is.name;
    connections = record { distinct = is.connections.distinct; there = there; default = is.connections.default; few = is.connections.few };
    classes_distinct = is.classes_distinct;
    classes_there = all_pass-each (is_clauth_class old) (is_clauth_class new) clauth-kept user.classes is.classes_there;
    categories = defined-kept old.options new.options extends user.categories is.categories;
  }

  -- ---- a profile
  named-kept : (form : NameForm) (text : List ℕ) → is_named_by form old text ≡ true → is_named_by form new text ≡ true
  named-kept names.DataSet text h = h
  named-kept names.General text h = h
  named-kept names.LevelOrCategory text h = h
  named-kept names.Identifier text h = h
  named-kept names.Class text h = classes text h

  pub name-kept : (name : Spelled) (facts : Option ClassFacts) → option_map_or (is_profile_name old name) facts false ≡ true → option_map_or (is_profile_name new name) facts false ≡ true
  name-kept name None h = h
  name-kept name (Some facts) h =
      let parts = and_parts (is_named_by facts.names old name.text) (is_short facts name.text && (not (is_generic name) || facts.generic)) h in
      and_from (is_named_by facts.names new name.text) (is_short facts name.text && (not (is_generic name) || facts.generic)) (named-kept facts.names name.text parts.0) parts.1

  member-kept : (class profile : List ℕ) (member : Member) → is_member_of old.options class profile member ≡ true → is_member_of new.options class profile member ≡ true
  member-kept class profile (Access resources level) h = h
  member-kept class profile (SecurityLevel name number) h = h
  member-kept class profile (Traits traits) h = h
  member-kept class profile (Category name) h = by (bytes_eq class (codes "SECDATA")) (bytes_eq profile (codes "CATEGORY")) h
    where
      by : (b c : Bool) → (b && c && list_any (λ other. bytes_eq other name) old.options.categories) ≡ true → (b && c && list_any (λ other. bytes_eq other name) new.options.categories) ≡ true
      by true true e = extends.kept name e
      by true false e = e
      by false c e = e

  pub members-kept : (class : List ℕ) (profile : Profile) → AreMembers old.options class profile → AreMembers new.options class profile
  members-kept class profile are = record {
    distinct = are.distinct;
    fitting = all_pass-each (is_member_of old.options class profile.name.text) (is_member_of new.options class profile.name.text) (member-kept class profile.name.text) profile.members are.fitting;
    few = are.few;
    traits = are.traits;
  }

  pub profile-kept : (class : List ℕ) (profile : Profile) → AllowsAsBefore old new class → IsProfile old class profile → IsProfile new class profile
  profile-kept class profile facts is = record {
    name = ap (λ (o : Option ClassFacts). option_map_or (is_profile_name new profile.name) o false) facts ∙ name-kept profile.name (facts_in class old) is.name;
    entries = is.entries;
    audit = is.audit;
    members = members-kept class profile is.members;
    categories = defined-kept old.options new.options extends profile.categories is.categories;
  }

  pub class-kept : (class : ClassRow) → AllowsAsBefore old new class.name → IsClass old class → IsClass new class
  class-kept class facts is = record {
    active = is.active;
    listed = ap (λ (o : Option ClassFacts). not class.listed || option_map_or (λ (f : ClassFacts). f.raclist) o false) facts ∙ is.listed;
    profiles = all-each (IsProfile old class.name) (IsProfile new class.name) (λ profile own. profile-kept class.name profile facts own) class.profiles is.profiles;
  }

-- ---- a class is found by its name alone
pub found-named : (name : List ℕ) (classes : List ClassRow) → is_some (find (is_class name) classes) ≡ list_any (λ other. bytes_eq other name) (map (λ (class : ClassRow). class.name) classes)
found-named name [] = refl
found-named name (class ∷ classes) = by (bytes_eq class.name name) (found-named name classes)
  where
    by : (b : Bool) → is_some (find (is_class name) classes) ≡ list_any (λ other. bytes_eq other name) (map (λ (c : ClassRow). c.name) classes)
        → is_some (cond b (Some class) (find (is_class name) classes)) ≡ (b || list_any (λ other. bytes_eq other name) (map (λ (c : ClassRow). c.name) classes))
    by true rest = refl
    by false rest = rest

pub same_classes : (old new : Rows) → names_of new.classes ≡ names_of old.classes → HasClasses old new
same_classes old new same name there = found-named name new.classes ∙ ap (list_any (λ other. bytes_eq other name)) same ∙ sym (found-named name old.classes) ∙ there

-- ---- a change of the users
pub users-changed : (rows : Rows) (users : List User) → AreLawful rows → AreUsers users → AllByRecursion (IsUser rows) users → IsTrue (list_any is_special_user users) → connections users ≤ most_connections_in_all
    → AreLawful (record rows { users = users })
users-changed rows users lawful are each special few =
    let new : Rows = record rows { users = users } in
    record {
      groups = lawful.groups;
      group_names = lawful.group_names;
      users = are;
      each_user = all-each (IsUser rows) (IsUser (record rows { users = users })) (λ user is. user-kept rows (record rows { users = users }) (λ name h. h) (extends_itself rows.options) user is.no_group is.connections.there is) users each;
      special_user = special;
      few_connections = few;
      classes = lawful.classes;
      each_class = all-each (IsClass rows) (IsClass (record rows { users = users })) (λ class is. class-kept rows (record rows { users = users }) (λ name h. h) (extends_itself rows.options) class refl is) rows.classes lawful.each_class;
      dynamic = record { defined = lawful.dynamic.defined; there = lawful.dynamic.there };
      few_profiles = lawful.few_profiles;
      few_entries = lawful.few_entries;
      categories = lawful.categories;
    }

-- ---- a change of the groups: no user has the name of a group, and the groups of all connections are there
abbrev pub Fits : List Group → User → Type 0
Fits groups user = (find_group groups user.id ≡ None) × AllByRecursion (λ (connection : Connection). IsSome (find_group groups connection.group)) user.connects

pub groups-changed : (rows : Rows) (groups : List Group) → AreLawful rows → IsTree groups → AllByRecursion (λ (group : Group). group_spelled group.id ≡ Ok group.id) groups → AllByRecursion (Fits groups) rows.users
    → AreLawful (record rows { groups = groups })
groups-changed rows groups lawful tree spelled fits = record {
  groups = tree;
  group_names = spelled;
  users = lawful.users;
  each_user = both-each (Fits groups) (IsUser rows) (IsUser (record rows { groups = groups })) (λ user fit is. user-kept rows (record rows { groups = groups }) (λ name h. h) (extends_itself rows.options) user fit.0 fit.1 is) rows.users fits lawful.each_user;
  special_user = lawful.special_user;
  few_connections = lawful.few_connections;
  classes = lawful.classes;
  each_class = all-each (IsClass rows) (IsClass (record rows { groups = groups })) (λ class is. class-kept rows (record rows { groups = groups }) (λ name h. h) (extends_itself rows.options) class refl is) rows.classes lawful.each_class;
  dynamic = record { defined = lawful.dynamic.defined; there = lawful.dynamic.there };
  few_profiles = lawful.few_profiles;
  few_entries = lawful.few_entries;
  categories = lawful.categories;
}

-- ---- a change of the classes, and of the categories that were defined, that leaves what CDT says
pub classes-changed : (rows : Rows) (classes : List ClassRow) (options : Options) → AreLawful rows
    → names_of classes ≡ names_of rows.classes → (let new : Rows = record rows { classes = classes; options = options } in said_in new ≡ said_in rows)
    → AllByRecursion (λ (class : ClassRow). AreProfiles (kind_in class.name) class.profiles) classes
    → AllByRecursion (IsClass (record rows { options = options })) classes
    → profile_count classes ≤ most_profiles → entry_count classes ≤ most_entries_in_all
    → Extends rows.options options → AreCategories options
    → AreLawful (record rows { classes = classes; options = options })
classes-changed rows classes options lawful same said profiles each few few_entries extends categories =
    let named : HasClasses rows (record rows { classes = classes; options = options }) = same_classes rows (record rows { classes = classes; options = options }) same in
    let renamed : HasClasses (record rows { options = options }) (record rows { classes = classes; options = options }) = same_classes (record rows { options = options }) (record rows { classes = classes; options = options }) same in
    let facts : (name : List ℕ) → AllowsAsBefore (record rows { options = options }) (record rows { classes = classes; options = options }) name =
    λ name. facts-same (record rows { options = options }) (record rows { classes = classes; options = options }) name (ap (traits_said name) said) in
    record {
      groups = lawful.groups;
      group_names = lawful.group_names;
      users = lawful.users;
      each_user = all-each (IsUser rows) (IsUser (record rows { classes = classes; options = options })) (λ user is. user-kept rows (record rows { classes = classes; options = options }) named extends user is.no_group is.connections.there is) rows.users lawful.each_user;
      special_user = lawful.special_user;
      few_connections = lawful.few_connections;
      classes = record { names = subst AreClassNames (sym same) lawful.classes.names; lawful = profiles };
      each_class = all-each (IsClass (record rows { options = options })) (IsClass (record rows { classes = classes; options = options }))
          (λ class is. class-kept (record rows { options = options }) (record rows { classes = classes; options = options }) renamed (extends_itself options) class (facts class.name) is) classes each;
      dynamic = dynamic-kept rows (record rows { classes = classes; options = options }) same said lawful.dynamic;
      few_profiles = few;
      few_entries = few_entries;
      categories = categories;
    }
