use Rattle.std.proofs.Common.{subst, bytes_eq}
use Rattle.std.specs.List.{IsDistinct}
use Rattle.racf_profiles.specs.LawfulUsers.{AreUsers}
use Rattle.row_tables.proofs.user_table.UserTable.len.Goals as goal

-- each user stands under his ID, and the map has no ID twice
pub returns-clause-lawful : goal.returns-clause-lawful
returns-clause-lawful c =
    subst (λ v. AreUsers v.users) c.self.view_is
    (record { distinct = subst (IsDistinct bytes_eq) c.self.invariant.named c.len.ensures.unique; few = c.self.invariant.few_users })
