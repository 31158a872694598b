use Rattle.std.proofs.Common.{◌≡◌, ◌∙◌, ℕ, List, None, ap, sym, subst, length, find, arith, true≢false, ◌<◌, ◌≤◌}
use Rattle.std.proofs.lemmas.List.Sums.{count_by-le-length}
use Rattle.std.specs.Map.{values_of}
use Rattle.indexmap.specs.IndexMap.{values, spare}
use Rattle.racf_profiles.specs.declared.users.User.{User}
use Rattle.racf_profiles.specs.Lookup.{is_user}
use Rattle.racf_profiles.specs.Edits.{put_row}
use Rattle.racf_profiles.specs.Names.{connections, special_users, connected_to, special_user_count, is_special_user}
use Rattle.racf_profiles.proofs.Named.{IsNamed, lookup-named}
use Rattle.row_tables.proofs.Keyed.{values-insert_entry, named-insert_entry}
use Rattle.row_tables.proofs.Counts.{part-le, put}
use Rattle.row_tables.proofs.user_table.UserTable.put.Goals as goal

pub overflow_sub-self : goal.overflow_sub-self
overflow_sub-self c = part-le connected_to _ _ c.args.user.id _ _ (ap (λ v. v.users) c.self.view_is) c.self.invariant.connections_counted c.share_of-before.ensures.connections

pub overflow_sub-self-2 : goal.overflow_sub-self-2
overflow_sub-self-2 c = part-le special_user_count _ _ c.args.user.id _ _ (ap (λ v. v.users) c.self.view_is) c.self.invariant.special_users_counted c.share_of-before.ensures.special_users

-- no more special_users than users
pub overflow_add-self-2 : goal.overflow_add-self-2
overflow_add-self-2 c =
    let old = values c.self.inside.users in
    let now = put_row (is_user c.args.user.id) c.args.user old in
    let count = put special_user_count old _ c.args.user.id _ _ (ap (λ v. v.users) c.self.view_is) c.self.invariant.special_users_counted c.share_of-before.ensures.special_users c.args.user _ c.share_of_user-after.ensures.special_users in
    let few : length now ≤ 20000 = subst (λ v. length (put_row (is_user c.args.user.id) c.args.user v.users) ≤ 20000) (sym c.self.view_is) c.requires.few_users in
    omega (arith, count, count_by-le-length is_special_user now, few)

pub unreachable-requires : goal.unreachable-requires
unreachable-requires c =
    let gone : find (is_user c.args.user.id) c.args.self.now.users ≡ None =
    sym (lookup-named (λ (user : User). user.id) c.args.user.id c.self.inside.users.entries c.self.invariant.named ∙ ap (λ v. find (is_user c.args.user.id) v.users) c.self.view_is)
    ∙ c.in_default.ensures.absent in
    let free : 0 < spare c.self.inside.users = subst (λ v. 0 < v.spare) (sym c.self.view_is) (c.requires.room gone) in
    true≢false (sym (c.in_default.ensures.succeeds free))

pub invariant_of-self : goal.invariant_of-self
invariant_of-self c =
    let old = c.self.inside.users in
    let now : values c.insert.new.self ≡ put_row (is_user c.args.user.id) c.args.user (values old) =
    ap (λ (es : List (List ℕ × User)). values_of es) c.in-Ok.ensures.entries ∙ values-insert_entry (λ (user : User). user.id) c.args.user old.entries c.self.invariant.named in
    let few_users : length (put_row (is_user c.args.user.id) c.args.user (values old)) ≤ 20000 =
    subst (λ v. length (put_row (is_user c.args.user.id) c.args.user v.users) ≤ 20000) (sym c.self.view_is) c.requires.few_users in
    let few_connections : connections (put_row (is_user c.args.user.id) c.args.user (values old)) ≤ 200000 =
    subst (λ v. connections (put_row (is_user c.args.user.id) c.args.user v.users) ≤ 200000) (sym c.self.view_is) c.requires.few_connections in
    let count = put connected_to (values old) _ c.args.user.id _ _ (ap (λ v. v.users) c.self.view_is) c.self.invariant.connections_counted c.share_of-before.ensures.connections c.args.user _ c.share_of_user-after.ensures.connections in
    record {
      named = subst (IsNamed (λ (user : User). user.id)) (sym c.in-Ok.ensures.entries) (named-insert_entry (λ (user : User). user.id) c.args.user old.entries c.self.invariant.named);
      connections_counted = count ∙ ap connections (sym now);
      special_users_counted = put special_user_count (values old) _ c.args.user.id _ _ (ap (λ v. v.users) c.self.view_is) c.self.invariant.special_users_counted c.share_of-before.ensures.special_users c.args.user _ c.share_of_user-after.ensures.special_users ∙ ap special_users (sym now);
      few_users = omega (arith, ap (λ (us : List User). length us) now, few_users);
      few_connections = omega (arith, count, few_connections);
    }

pub returns-clause-users : goal.returns-clause-users
returns-clause-users c =
    ap (λ (es : List (List ℕ × User)). values_of es) c.in-Ok.ensures.entries ∙ values-insert_entry (λ (user : User). user.id) c.args.user c.self.inside.users.entries c.self.invariant.named
    ∙ ap (λ v. put_row (is_user c.args.user.id) c.args.user v.users) c.self.view_is
