-- What the rows after a command add up to.
use Rattle.std.proofs.Common.{◌≡◌, ℕ, ◌+◌, Bool, true, false, cond, ◌||◌, List, [], ◌∷◌, length, Option, None, Some, map, refl, ap, arith}
use Rattle.std.specs.Prelude.{find, sum_by, is_some}
use Rattle.std.specs.List.{list_any}
use Rattle.std.specs.Option.{option_map_or}
use Rattle.racf_profiles.specs.declared.users.User.{User}
use Rattle.racf_profiles.specs.declared.users.Connect.{Connect as Connection}
use Rattle.racf_profiles.specs.Lookup.{is_user}
use Rattle.racf_profiles.specs.Edits.{drop_row}
use Rattle.command_fields.specs.declared.issuer.Issuer.{Issuer}
use Rattle.command_fields.specs.declared.fields.Connect.{Connect}
use Rattle.racf_profiles.specs.Names.{is_to, connections_added, connected_to, connections, is_special_user, special_user_count, special_users}
use Rattle.racf_profiles.proofs.EditLaws.{drop_row-absent}
use Rattle.command_rules.specs.Effects.{at_row, altered_connection, connects_after, connected_user, group_or_current}
use Rattle.row_tables.proofs.RowLaws.{sum-put_row, sum-drop_row, put_row-at_row}

module _ {X : Type 0} (it : X → Bool) (change : X → X) where
  pub at_row-absent : (rows : List X) → find it rows ≡ None → at_row it change rows ≡ rows
  at_row-absent [] none = refl
  at_row-absent (x ∷ xs) none = by (it x) none (at_row-absent xs)
    where
      by : (b : Bool) → cond b (Some x) (find it xs) ≡ None → (find it xs ≡ None → at_row it change xs ≡ xs) → cond b (change x ∷ xs) (x ∷ at_row it change xs) ≡ x ∷ xs
      by true f rest = cc
      by false f rest = ap (λ ys. x ∷ ys) (rest f)

  module _ (weight : X → ℕ) (rows : List X) (row : X) (found : find it rows ≡ Some row) where
    pub sum-at_row : sum_by weight (at_row it change rows) + weight row ≡ sum_by weight rows + weight (change row)
    sum-at_row =
        let here : option_map_or weight (find it rows) 0 ≡ weight row = ap (λ o. option_map_or weight o 0) found in
        omega (arith, sum-put_row it weight (change row) rows, ap (sum_by weight) (put_row-at_row it change row rows found), here)

    pub sum-at_row-drop : sum_by weight (at_row it change rows) ≡ sum_by weight (drop_row it rows) + weight (change row)
    sum-at_row-drop =
        let here : option_map_or weight (find it rows) 0 ≡ weight row = ap (λ o. option_map_or weight o 0) found in
        omega (arith, sum-at_row, sum-drop_row it weight rows, here)

-- a connection is made where there is none
pub length-connects_after : (c : Connect) (group : List ℕ) (connects : List Connection) → length (connects_after c group connects) ≡ length connects + connections_added group connects
length-connects_after c group [] = refl
length-connects_after c group (x ∷ xs) = by (is_to group x) (length-connects_after c group xs)
  where
    by : (b : Bool) → length (connects_after c group xs) ≡ length xs + connections_added group xs
        → length (cond b (altered_connection c x ∷ xs) (x ∷ connects_after c group xs)) ≡ length (x ∷ xs) + cond (b || list_any (is_to group) xs) 0 1
    by true rest = omega arith
    by false rest = omega (arith, rest)

pub connections-connected : (issuer : Issuer) (c : Connect) (users : List User) (user : User) → find (is_user c.user) users ≡ Some user
    → connections (at_row (is_user c.user) (connected_user issuer c) users) ≡ connections users + connections_added (group_or_current issuer c.group) user.connects
connections-connected issuer c users user found =
    omega (arith, sum-at_row (is_user c.user) (connected_user issuer c) connected_to users user found, length-connects_after c (group_or_current issuer c.group) user.connects)

-- how many special_users there are, once a user was altered
pub special_users-altered : (id : List ℕ) (change : User → User) (users : List User)
    → special_users (at_row (is_user id) change users) ≡ special_users (drop_row (is_user id) users) + cond (option_map_or (λ (user : User). is_special_user (change user)) (find (is_user id) users) false) 1 0
special_users-altered id change users = by (find (is_user id) users) refl
  where
    by : (o : Option User) → find (is_user id) users ≡ o → special_users (at_row (is_user id) change users) ≡ special_users (drop_row (is_user id) users) + cond (option_map_or (λ (user : User). is_special_user (change user)) o false) 1 0
    by None none = omega (arith, ap special_users (at_row-absent (is_user id) change users none), ap special_users (drop_row-absent (is_user id) users none))
    by (Some user) found = sum-at_row-drop (is_user id) change special_user_count users user found

-- a class of the table is found among the rows of the classes
pub is_some-find-map : {A B : Type 0} (f : A → B) (test : B → Bool) (xs : List A) → is_some (find test (map f xs)) ≡ is_some (find (λ x. test (f x)) xs)
is_some-find-map f test [] = refl
is_some-find-map f test (x ∷ xs) = by (test (f x)) (is_some-find-map f test xs)
  where
    by : (b : Bool) → is_some (find test (map f xs)) ≡ is_some (find (λ y. test (f y)) xs) → is_some (cond b (Some (f x)) (find test (map f xs))) ≡ is_some (cond b (Some x) (find (λ y. test (f y)) xs))
    by true rest = refl
    by false rest = rest
