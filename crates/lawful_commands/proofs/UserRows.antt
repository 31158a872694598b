-- The rows are lawful after a user was added, changed or dropped, where he is lawful and a user who isn't revoked
-- still has SPECIAL.
use Rattle.std.proofs.Common.{◌≡◌, ℕ, ◌+◌, ◌≤◌, Bool, true, false, cond, ◌||◌, List, [], ◌∷◌, ◌++◌, length, None, Some, bytes_eq, refl, sym, ap, subst, ◌∙◌, true≢false, arith, zero-add}
use Rattle.std.specs.Prelude.{◌==◌}
use Rattle.std.specs.List.{IsDistinct, list_any}
use Rattle.std.proofs.lemmas.List.Sums.{sum_by-cons}
use Rattle.racf_profiles.specs.declared.users.User.{User}
use Rattle.racf_profiles.specs.declared.rows.Rows.{Rows}
use Rattle.racf_profiles.specs.Limits.{most_users, most_connections_in_all}
use Rattle.racf_profiles.specs.Lookup.{is_user, user_of}
use Rattle.racf_profiles.specs.Names.{connections, connected_to, is_special_user, special_user_count, special_users}
use Rattle.racf_profiles.specs.Edits.{drop_row}
use Rattle.racf_profiles.specs.LawfulUsers.{IsUser}
use Rattle.racf_profiles.specs.Lawful.{AreLawful}
use Rattle.racf_profiles.proofs.EditLaws.{all-drop_row, length-drop_row}
use Rattle.row_tables.specs.ChangedRow.{at_row}
use Rattle.row_tables.proofs.RowLaws.{sum-drop_row}
use Rattle.lawful_commands.proofs.RowLists.{all-push, all-at, none-found, distinct-push, distinct-drop, names-at, length-at, any-push}
use Rattle.lawful_commands.proofs.Kept.{users-changed}

-- Where the special_users aren't none, one is there.
pub special_user-counted : (users : List User) → (special_users users == 0) ≡ false → list_any is_special_user users ≡ true
special_user-counted [] none = absurd (true≢false none)
special_user-counted (user ∷ users) none = by (is_special_user user) (sum_by-cons special_user_count user users) (special_user-counted users)
  where
    by : (b : Bool) → special_users (user ∷ users) ≡ cond b 1 0 + special_users users → ((special_users users == 0) ≡ false → list_any is_special_user users ≡ true) → (b || list_any is_special_user users) ≡ true
    by true split rest = refl
    by false split rest = rest (sym (ap (λ n. n == 0) (split ∙ zero-add (special_users users))) ∙ none)

pub user-added : (rows : Rows) (user : User) → AreLawful rows → user_of user.id rows ≡ None → length (rows.users ++ user ∷ []) ≤ most_users → IsUser rows user → connections (rows.users ++ user ∷ []) ≤ most_connections_in_all
    → AreLawful (record rows { users = rows.users ++ user ∷ [] })
user-added rows user lawful free few is few_connections =
    users-changed rows (rows.users ++ user ∷ []) lawful
    (record { distinct = distinct-push bytes_eq (λ (u : User). u.id) rows.users user lawful.users.distinct (none-found (is_user user.id) rows.users free); few = few })
    (all-push (IsUser rows) rows.users user lawful.each_user is)
    (any-push is_special_user rows.users user lawful.special_user)
    few_connections

pub user-changed : (rows : Rows) (id : List ℕ) (change : User → User) → AreLawful rows → ((user : User) → (change user).id ≡ user.id)
    → ((user : User) → user_of id rows ≡ Some user → IsUser rows user → IsUser rows (change user))
    → list_any is_special_user (at_row (is_user id) change rows.users) ≡ true → connections (at_row (is_user id) change rows.users) ≤ most_connections_in_all
    → AreLawful (record rows { users = at_row (is_user id) change rows.users })
user-changed rows id change lawful keeps is special few =
    users-changed rows (at_row (is_user id) change rows.users) lawful
    (record { distinct = subst (IsDistinct bytes_eq) (sym (names-at (λ (u : User). u.id) (is_user id) change keeps rows.users)) lawful.users.distinct; few = omega (arith, lawful.users.few, length-at (is_user id) change rows.users) })
    (all-at (IsUser rows) (is_user id) change rows.users is lawful.each_user)
    special
    few

pub user-dropped : (rows : Rows) (id : List ℕ) → AreLawful rows → list_any is_special_user (drop_row (is_user id) rows.users) ≡ true
    → AreLawful (record rows { users = drop_row (is_user id) rows.users })
user-dropped rows id lawful special =
    users-changed rows (drop_row (is_user id) rows.users) lawful
    (record { distinct = distinct-drop bytes_eq (λ (u : User). u.id) (is_user id) rows.users lawful.users.distinct; few = omega (arith, lawful.users.few, length-drop_row (is_user id) rows.users) })
    (all-drop_row (IsUser rows) (is_user id) rows.users lawful.each_user)
    special
    (omega (arith, lawful.few_connections, sum-drop_row (is_user id) connected_to rows.users))
