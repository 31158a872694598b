use Rattle.std.proofs.Common.{◌≡◌, ◌∙◌, ℕ, List, ap, sym, subst, length, arith}
use Rattle.std.specs.Map.{values_of}
use Rattle.indexmap.specs.IndexMap.{values}
use Rattle.racf_profiles.specs.declared.users.User.{User}
use Rattle.racf_profiles.specs.Lookup.{is_user}
use Rattle.racf_profiles.specs.Edits.{drop_row}
use Rattle.racf_profiles.specs.Names.{connections, special_users, connected_to, special_user_count}
use Rattle.racf_profiles.proofs.Named.{IsNamed}
use Rattle.racf_profiles.proofs.EditLaws.{length-drop_row}
use Rattle.row_tables.proofs.Keyed.{values-remove_entry, named-remove_entry}
use Rattle.row_tables.proofs.Counts.{part-le, dropped}
use Rattle.row_tables.proofs.user_table.UserTable.remove.Goals as goal

pub overflow_sub-self : goal.overflow_sub-self
overflow_sub-self c = part-le connected_to _ _ c.args.id _ _ (ap (λ v. v.users) c.self.view_is) c.self.invariant.connections_counted c.share_of-share.ensures.connections

pub overflow_sub-self-2 : goal.overflow_sub-self-2
overflow_sub-self-2 c = part-le special_user_count _ _ c.args.id _ _ (ap (λ v. v.users) c.self.view_is) c.self.invariant.special_users_counted c.share_of-share.ensures.special_users

pub invariant_of-self : goal.invariant_of-self
invariant_of-self c =
    let old = c.self.inside.users in
    let now : values c.shift_remove.new.self ≡ drop_row (is_user c.args.id) (values old) =
    ap (λ (es : List (List ℕ × User)). values_of es) c.shift_remove.ensures.entries ∙ values-remove_entry (λ (user : User). user.id) c.args.id old.entries c.self.invariant.named in
    record {
      named = subst (IsNamed (λ (user : User). user.id)) (sym c.shift_remove.ensures.entries) (named-remove_entry (λ (user : User). user.id) c.args.id old.entries c.self.invariant.named);
      connections_counted = dropped connected_to _ _ c.args.id _ _ (ap (λ v. v.users) c.self.view_is) c.self.invariant.connections_counted c.share_of-share.ensures.connections ∙ ap connections (sym now);
      special_users_counted = dropped special_user_count _ _ c.args.id _ _ (ap (λ v. v.users) c.self.view_is) c.self.invariant.special_users_counted c.share_of-share.ensures.special_users ∙ ap special_users (sym now);
      few_users = omega (arith, ap (λ (us : List User). length us) now, length-drop_row (is_user c.args.id) (values old), c.self.invariant.few_users);
      few_connections = omega (arith, c.self.invariant.few_connections);
    }

pub returns-clause-users : goal.returns-clause-users
returns-clause-users c =
    ap (λ (es : List (List ℕ × User)). values_of es) c.shift_remove.ensures.entries ∙ values-remove_entry (λ (user : User). user.id) c.args.id c.self.inside.users.entries c.self.invariant.named
    ∙ ap (λ v. drop_row (is_user c.args.id) v.users) c.self.view_is
