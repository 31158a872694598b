-- The commands on users and connections leave lawful rows.
use Rattle.std.proofs.Common.{◌≡◌, ℕ, ◌≤◌, true, false, ◌||◌, ◌&&◌, not, List, [], ◌∷◌, length, Option, None, Some, IsSome, bytes_eq, codes, refl, sym, ap, ◌∙◌, arith, fold}
use Rattle.std.specs.Prelude.{◌==◌, find, unwrap_or, IfSome}
use Rattle.std.specs.List.{AllByRecursion, list_any}
use Rattle.std.specs.Option.{option_map_or, option_and_then}
use Rattle.std.proofs.lemmas.Bool.{not-false}
use Rattle.racf_profiles.specs.declared.users.User.{User}
use Rattle.racf_profiles.specs.declared.users.Connect.{Connect as Connection}
use Rattle.racf_profiles.specs.declared.rows.Rows.{Rows}
use Rattle.racf_profiles.specs.Lookup.{is_user, user_of, group_of}
use Rattle.racf_profiles.specs.Names.{is_to, is_class_word, is_connected_to, connects_of, connected_to, is_special_user, special_users, connections}
use Rattle.racf_profiles.specs.LawfulUsers.{IsUser, is_user_name, is_clauth_class}
use Rattle.racf_profiles.specs.Lawful.{AreLawful}
use Rattle.racf_profiles.proofs.EditLaws.{all-drop_row, length-drop_row}
use Rattle.group_tree.proofs.Rows.{itself}
use Rattle.group_tree.proofs.Edits.{none_from_map}
use Rattle.command_fields.specs.declared.issuer.Issuer.{Issuer}
use Rattle.command_fields.specs.declared.fields.AddUser.{AddUser}
use Rattle.command_fields.specs.declared.fields.AltUser.{AltUser}
use Rattle.command_fields.specs.declared.fields.DelUser.{DelUser}
use Rattle.command_fields.specs.declared.fields.Connect.{Connect}
use Rattle.command_fields.specs.declared.fields.Remove.{Remove}
use Rattle.command_fields.specs.declared.fields.CommandFields.{CommandFields}
use Rattle.command_fields.specs.declared.fields.CommandFields.TheVariants as command
use Rattle.command_rules.specs.Effects.{step, group_or_current, new_user, altered_user, connected_user, removed_user, connects_after, with_class}
use Rattle.command_rules.specs.declared.conflict.Conflict.TheVariants.{NoClass, DefaultGroup}
use Rattle.command_rules.specs.declared.conflict.Limit.TheVariants.{Users, Connections, AllConnections}
use Rattle.command_rules.specs.Conflicts.{first_met, if_met, no_class, not_connected, default_not_connected, default_group, last_special, users_full, user_full, connections_full, add_user_conflicts, alt_user_conflicts, del_user_conflicts, connect_conflicts, remove_conflicts}
use Rattle.command_rules.proofs.Unmet.{AreUnmet, each_unmet, unmet, group_there, name_free, within}
use Rattle.lawful_commands.proofs.RowLists.{all_pass-filter, any-at, none-found, sum-at-le, distinct-drop, distinct-none, distinct-one}
use Rattle.lawful_commands.proofs.Kept.{defined-none}
use Rattle.lawful_commands.proofs.UserRows.{special_user-counted, user-added, user-changed, user-dropped}
use Rattle.lawful_commands.proofs.UserParts.{passes-with_classes, distinct-with_classes, distinct-without_classes, defined-added, defined-taken, all-connects_after, any-connects_after, distinct-connects_after, any-drop_other}

-- ---- what holds where a test is unmet
-- each word of a list of classes is a class of the table or USER; it isn't DATASET, so that CLAUTH takes it
clauth-there : (rows : Rows) (names : List (List ℕ)) → no_class names rows ≡ None → AllByRecursion (λ name. bytes_eq name (codes "DATASET") ≡ false) names → AllByRecursion (λ name. is_clauth_class rows name ≡ true) names
unfolding no_class
clauth-there rows names h other = both names (none-found (λ name. not (is_class_word rows name)) names (none_from_map NoClass (find (λ name. not (is_class_word rows name)) names) h)) other
  where
    both : (ns : List (List ℕ)) → AllByRecursion (λ name. not (is_class_word rows name) ≡ false) ns → AllByRecursion (λ name. bytes_eq name (codes "DATASET") ≡ false) ns → AllByRecursion (λ name. is_clauth_class rows name ≡ true) ns
    both [] p q = tt
    both (name ∷ ns) p q = (ap (λ b. b && not (bytes_eq name (codes "DATASET"))) (not-false (is_class_word rows name) p.0) ∙ ap not q.0, both ns p.1 q.1)

-- somebody who isn't revoked has SPECIAL after the command
special_user-left : (issuer : Issuer) (c : CommandFields) (id : List ℕ) (rows : Rows) → last_special issuer c id rows ≡ None → list_any is_special_user (step issuer c rows).users ≡ true
unfolding last_special
special_user-left issuer c id rows h = special_user-counted (step issuer c rows).users (unmet (special_users (step issuer c rows).users == 0) _ h)

few-connections : (issuer : Issuer) (c : CommandFields) (rows : Rows) → connections_full issuer c rows ≡ None → connections (step issuer c rows).users ≤ 200000
unfolding connections_full
few-connections issuer c rows h = within AllConnections 200000 _ h

few-connects : (connects : List Connection) → user_full connects ≡ None → length connects ≤ 300
unfolding user_full
few-connects connects h = within Connections 300 _ h

-- the user's own connections are those of the user who is found
own-connects : (id : List ℕ) (rows : Rows) (user : User) → user_of id rows ≡ Some user → connects_of id rows ≡ user.connects
own-connects id rows user found = ap (λ o. option_map_or (λ (u : User). u.connects) o []) found

-- ---- ADDUSER
name-of-new : (name : Option (List ℕ)) → IfSome name (λ text. is_user_name text ≡ true) → is_user_name (unwrap_or name []) ≡ true
name-of-new None h = refl
name-of-new (Some text) h = h

module _ (issuer : Issuer) (c : AddUser) (rows : Rows) (lawful : AreLawful rows)
    (name : IfSome c.name (λ text. is_user_name text ≡ true)) (clauth : AllByRecursion (λ name. bytes_eq name (codes "DATASET") ≡ false) c.clauth)
    (met : first_met (add_user_conflicts issuer c rows) ≡ None) where
  tests : AreUnmet (add_user_conflicts issuer c rows)
  tests = each_unmet (add_user_conflicts issuer c rows) met

  new-is_user : IsUser rows (new_user issuer c rows)
  unfolding add_user_conflicts tests
  new-is_user = record {
    no_group = (name_free c.user rows tests.1.1.1.0).1;
    name = name-of-new c.name name;
    connections = record {
      distinct = distinct-one bytes_eq (group_or_current issuer c.dfltgrp);
      there = (group_there (group_or_current issuer c.dfltgrp) rows tests.1.0, tt);
      default = ap (λ b. b || false) (itself (group_or_current issuer c.dfltgrp));
      few = few-connects (new_user issuer c rows).connects tests.1.1.1.1.1.1.1.1.0;
    };
    classes_distinct = distinct-with_classes c.clauth [] (distinct-none bytes_eq);
    classes_there = passes-with_classes (is_clauth_class rows) c.clauth [] refl (clauth-there rows c.clauth tests.1.1.0 clauth);
    categories = defined-added rows c.addcategory 0 (defined-none rows.options);
  }

  few-users : length (step issuer (command.AddUser c) rows).users ≤ 20000
  unfolding add_user_conflicts tests users_full
  few-users = within Users 20000 _ tests.1.1.1.1.1.1.1.0

  pub add_user-lawful : AreLawful (step issuer (command.AddUser c) rows)
  unfolding add_user_conflicts tests
  add_user-lawful = user-added rows (new_user issuer c rows) lawful (name_free c.user rows tests.1.1.1.0).0 few-users new-is_user (few-connections issuer (command.AddUser c) rows tests.1.1.1.1.1.1.1.1.1.0)

-- ---- ALTUSER
module _ (issuer : Issuer) (c : AltUser) (rows : Rows) (lawful : AreLawful rows)
    (name : IfSome c.name (λ text. is_user_name text ≡ true)) (clauth : AllByRecursion (λ name. bytes_eq name (codes "DATASET") ≡ false) c.clauth)
    (met : first_met (alt_user_conflicts issuer c rows) ≡ None) where
  tests-alt : AreUnmet (alt_user_conflicts issuer c rows)
  tests-alt = each_unmet (alt_user_conflicts issuer c rows) met

  name-of-altered : (given : Option (List ℕ)) (old : List ℕ) → IfSome given (λ text. is_user_name text ≡ true) → is_user_name old ≡ true → is_user_name (unwrap_or given old) ≡ true
  name-of-altered None old h k = k
  name-of-altered (Some text) old h k = h

  -- the default group is one that the user is connected to
  default-of-altered : (user : User) → user_of c.user rows ≡ Some user → (given : Option (List ℕ)) → default_not_connected c.user given rows ≡ None → is_connected_to user.default_group user ≡ true
      → is_connected_to (unwrap_or given user.default_group) user ≡ true
  unfolding default_not_connected not_connected
  default-of-altered user found None h old = old
  default-of-altered user found (Some group) h old =
      sym (ap (list_any (is_to group)) (own-connects c.user rows user found)) ∙ not-false (list_any (is_to group) (connects_of c.user rows)) (unmet (not (list_any (is_to group) (connects_of c.user rows))) _ h)

  altered-is_user : (user : User) → user_of c.user rows ≡ Some user → IsUser rows user → IsUser rows (altered_user c rows user)
  unfolding alt_user_conflicts tests-alt
  altered-is_user user found is = record {
    no_group = is.no_group;
    name = name-of-altered c.name user.name name is.name;
    connections = record {
      distinct = is.connections.distinct;
      there = is.connections.there;
      default = default-of-altered user found c.dfltgrp tests-alt.1.1.1.1.1.0 is.connections.default;
      few = is.connections.few;
    };
    classes_distinct = distinct-without_classes c.noclauth (fold with_class user.classes c.clauth) (distinct-with_classes c.clauth user.classes is.classes_distinct);
    classes_there = all_pass-filter (is_clauth_class rows) (λ name. not (list_any (λ other. bytes_eq other name) c.noclauth)) (fold with_class user.classes c.clauth)
        (passes-with_classes (is_clauth_class rows) c.clauth user.classes is.classes_there (clauth-there rows c.clauth tests-alt.1.1.1.0 clauth));
    categories = defined-added rows c.addcategory _ (defined-taken rows c.delcategory user.categories is.categories);
  }

  pub alt_user-lawful : AreLawful (step issuer (command.AltUser c) rows)
  unfolding alt_user_conflicts tests-alt
  alt_user-lawful =
      user-changed rows c.user (altered_user c rows) lawful (λ user. refl) altered-is_user
      (special_user-left issuer (command.AltUser c) c.user rows tests-alt.1.1.1.1.1.1.0)
      (omega (arith, lawful.few_connections, sum-at-le connected_to (is_user c.user) (altered_user c rows) rows.users (λ user found. omega arith)))

-- ---- DELUSER
pub del_user-lawful : (issuer : Issuer) (c : DelUser) (rows : Rows) → AreLawful rows → first_met (del_user_conflicts issuer c rows) ≡ None → AreLawful (step issuer (command.DelUser c) rows)
unfolding del_user_conflicts
del_user-lawful issuer c rows lawful met =
    user-dropped rows c.user lawful (special_user-left issuer (command.DelUser c) c.user rows (each_unmet (del_user_conflicts issuer c rows) met).1.1.0)

-- ---- CONNECT
module _ (issuer : Issuer) (c : Connect) (rows : Rows) (lawful : AreLawful rows) (met : first_met (connect_conflicts issuer c rows) ≡ None) where
  tests-connect : AreUnmet (connect_conflicts issuer c rows)
  tests-connect = each_unmet (connect_conflicts issuer c rows) met

  connected-is_user : (user : User) → user_of c.user rows ≡ Some user → IsUser rows user → IsUser rows (connected_user issuer c user)
  unfolding connect_conflicts tests-connect
  connected-is_user user found is = record {
    no_group = is.no_group;
    name = is.name;
    connections = record {
      distinct = distinct-connects_after c (group_or_current issuer c.group) user.connects is.connections.distinct;
      there = all-connects_after c (group_or_current issuer c.group) (λ group. IsSome (group_of group rows)) user.connects (group_there (group_or_current issuer c.group) rows tests-connect.1.0) is.connections.there;
      default = any-connects_after c (group_or_current issuer c.group) user.default_group user.connects is.connections.default;
      few = few-connects (connects_after c (group_or_current issuer c.group) user.connects)
          (sym (ap (λ connects. user_full (connects_after c (group_or_current issuer c.group) connects)) (own-connects c.user rows user found)) ∙ tests-connect.1.1.0);
    };
    classes_distinct = is.classes_distinct;
    classes_there = is.classes_there;
    categories = is.categories;
  }

  pub connect-lawful : AreLawful (step issuer (command.Connect c) rows)
  unfolding connect_conflicts tests-connect
  connect-lawful =
      user-changed rows c.user (connected_user issuer c) lawful (λ user. refl) connected-is_user
      (any-at is_special_user (is_user c.user) (connected_user issuer c) (λ user. refl) rows.users ∙ lawful.special_user)
      (few-connections issuer (command.Connect c) rows tests-connect.1.1.1.0)

-- ---- REMOVE
module _ (issuer : Issuer) (c : Remove) (rows : Rows) (lawful : AreLawful rows) (met : first_met (remove_conflicts issuer c rows) ≡ None) where
  tests-remove : AreUnmet (remove_conflicts issuer c rows)
  tests-remove = each_unmet (remove_conflicts issuer c rows) met

  -- the group isn't the user's default group
  other-default : (user : User) → user_of c.user rows ≡ Some user → bytes_eq user.default_group (group_or_current issuer c.group) ≡ false
  unfolding remove_conflicts tests-remove default_group
  other-default user found =
      unmet (bytes_eq user.default_group (group_or_current issuer c.group)) _
      (sym (ap (λ o. option_and_then (λ (u : User). if_met (bytes_eq u.default_group (group_or_current issuer c.group)) (DefaultGroup (group_or_current issuer c.group))) o) found) ∙ tests-remove.1.1.1.0)

  removed-is_user : (user : User) → user_of c.user rows ≡ Some user → IsUser rows user → IsUser rows (removed_user issuer c user)
  removed-is_user user found is = record {
    no_group = is.no_group;
    name = is.name;
    connections = record {
      distinct = distinct-drop bytes_eq (λ (x : Connection). x.group) (is_to (group_or_current issuer c.group)) user.connects is.connections.distinct;
      there = all-drop_row (λ (x : Connection). IsSome (group_of x.group rows)) (is_to (group_or_current issuer c.group)) user.connects is.connections.there;
      default = any-drop_other user.default_group (group_or_current issuer c.group) user.connects (other-default user found) is.connections.default;
      few = omega (arith, is.connections.few, length-drop_row (is_to (group_or_current issuer c.group)) user.connects);
    };
    classes_distinct = is.classes_distinct;
    classes_there = is.classes_there;
    categories = is.categories;
  }

  pub remove-lawful : AreLawful (step issuer (command.Remove c) rows)
  remove-lawful =
      user-changed rows c.user (removed_user issuer c) lawful (λ user. refl) removed-is_user
      (any-at is_special_user (is_user c.user) (removed_user issuer c) (λ user. refl) rows.users ∙ lawful.special_user)
      (omega (arith, lawful.few_connections, sum-at-le connected_to (is_user c.user) (removed_user issuer c) rows.users (λ user found. length-drop_row (is_to (group_or_current issuer c.group)) user.connects)))
