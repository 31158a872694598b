use Rattle.std.proofs.Common.{◌∙◌, ap}
use Rattle.racf_profiles.specs.Lookup.{is_user}
use Rattle.racf_profiles.specs.Edits.{drop_row}
use Rattle.racf_profiles.specs.Names.{special_users, special_user_count}
use Rattle.row_tables.proofs.Counts.{part-le, dropped}
use Rattle.row_tables.proofs.user_table.UserTable.special_users_beside.Goals as goal

pub overflow_sub-result : goal.overflow_sub-result
overflow_sub-result c = part-le special_user_count _ _ c.args.id _ _ (ap (λ v. v.users) c.self.view_is) c.self.invariant.special_users_counted c.share_of.ensures.special_users

pub returns : goal.returns
returns c =
    dropped special_user_count _ _ c.args.id _ _ (ap (λ v. v.users) c.self.view_is) c.self.invariant.special_users_counted c.share_of.ensures.special_users
    ∙ ap (λ v. special_users (drop_row (is_user c.args.id) v.users)) c.self.view_is
