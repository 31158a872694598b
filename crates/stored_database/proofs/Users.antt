-- Users put one behind another.
use Rattle.std.proofs.Common.{◌≡◌, ℕ, suc, ◌+◌, ◌≤◌, false, cond, List, [], ◌∷◌, ◌++◌, map, length, Some, None, bytes_eq, refl, sym, ap, subst, ◌∙◌, length-append, arith}
use Rattle.std.specs.List.{find, IsDistinct}
use Rattle.std.proofs.lemmas.Map.Keys.{IsDistinct-head, IsDistinct-tail}
use Rattle.std.proofs.lemmas.List.Sums.{sum_by-append, sum_by-cons}
use Rattle.racf_profiles.specs.declared.users.User.{User}
use Rattle.racf_profiles.specs.Lookup.{is_user}
use Rattle.racf_profiles.specs.Edits.{put_row}
use Rattle.racf_profiles.specs.Names.{connections, connected_to}
use Rattle.racf_profiles.specs.Limits.{most_connections_in_all}
use Rattle.racf_profiles.specs.LawfulUsers.{AreUsers}
use Rattle.racf_profiles.proofs.Places.{put-absent}
use Rattle.row_tables.specs.UserList.{UserList, CanPut}
use Rattle.stored_database.proofs.Front.{among, one-further}

-- no user of the front has the ID of one behind
pub none-before : (user : User) (front rest : List User) → IsDistinct bytes_eq (map (λ (u : User). u.id) (front ++ user ∷ rest)) → find (is_user user.id) front ≡ None
none-before user [] rest distinct = refl
none-before user (other ∷ front) rest distinct =
    let ids : List (List ℕ) = map (λ (u : User). u.id) (front ++ user ∷ rest) in
    ap (λ b. cond b (Some other) (find (is_user user.id) front)) (among (λ id. bytes_eq other.id id ≡ false) (λ (u : User). u.id) front user rest (IsDistinct-head bytes_eq other.id ids distinct))
    ∙ none-before user front rest (IsDistinct-tail bytes_eq other.id ids distinct)

-- the users of a table, which are the front of all, and the next
module _ (all : List User) (lawful : AreUsers all) (few : connections all ≤ most_connections_in_all) (table : UserList) (items : List User) (user : User) (rest : List User)
    (is : items ≡ user ∷ rest) (whole : table.users ++ items ≡ all) (room : length items ≤ table.spare) where
  split : table.users ++ user ∷ rest ≡ all
  split = sym (ap (λ us. table.users ++ us) is) ∙ whole

  last : put_row (is_user user.id) user table.users ≡ table.users ++ user ∷ []
  last = put-absent (is_user user.id) table.users user (none-before user table.users rest (subst (λ (us : List User). IsDistinct bytes_eq (map (λ (u : User). u.id) us)) (sym split) lawful.distinct))

  count : length items ≡ suc (length rest)
  count = ap length is

  pub can : CanPut table user
  can = record {
    room = λ absent. omega (arith, count, room);
    few_users =
        let longer : length (put_row (is_user user.id) user table.users) ≡ length table.users + 1 = ap length last ∙ length-append table.users (user ∷ []) in
        let parts : length table.users + length (user ∷ rest) ≡ length all = sym (length-append table.users (user ∷ rest)) ∙ ap length split in
        omega (arith, longer, parts, lawful.few);
    few_connections =
        let more : connections (put_row (is_user user.id) user table.users) ≡ connections table.users + connections (user ∷ []) = ap connections last ∙ sum_by-append connected_to table.users (user ∷ []) in
        let parts : connections table.users + connections (user ∷ rest) ≡ connections all = sym (sum_by-append connected_to table.users (user ∷ rest)) ∙ ap connections split in
        omega (arith, more, parts, sum_by-cons connected_to user rest, sum_by-cons connected_to user [], few);
  }

  pub whole-next : (users : List User) → users ≡ put_row (is_user user.id) user table.users → users ++ rest ≡ all
  whole-next users put = ap (λ us. us ++ rest) (put ∙ last) ∙ one-further all table.users items user rest whole is

  pub room-next : (spare : ℕ) → table.spare ≤ spare + 1 → length rest ≤ spare
  room-next spare left = omega (arith, count, room, left)
