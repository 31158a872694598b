use Rattle.std.proofs.Common.{◌≡◌, ◌∙◌, ◌+◌, List, true, false, cond, ap, sym, find, arith}
use Rattle.std.specs.Option.{option_map_or}
use Rattle.racf_profiles.specs.declared.users.User.{User}
use Rattle.racf_profiles.specs.Lookup.{is_user}
use Rattle.racf_profiles.specs.Edits.{drop_row}
use Rattle.command_rules.specs.declared.conflict.Conflict.TheVariants.{LastSpecial}
use Rattle.racf_profiles.specs.Names.{special_users, is_special_user}
use Rattle.command_rules.specs.Effects.{at_row, altered_user}
use Rattle.command_rules.specs.Conflicts.{last_special}
use Rattle.command_rules.proofs.AfterLaws.{special_users-altered}
use Rattle.command_conflicts.proofs.Counted.{met_at_0, not_met_above_0}
use Rattle.command_conflicts.proofs.check.users.check_special_user_altered.Goals as goal

pub returns-then-is_special_after : goal.returns-then-is_special_after
unfolding last_special
returns-then-is_special_after c =
    let it = is_user c.args.command.now.user in
    let change = altered_user c.args.command.now c.args.tables.now.rows in
    let users = c.args.tables.now.rows.users in
    let stays : option_map_or (λ (user : User). is_special_user (change user)) (find it users) false ≡ true = sym c.is_special_after.ensures ∙ c.if-is_special_after.true in
    let one = special_users-altered c.args.command.now.user change users ∙ ap (λ b. special_users (drop_row it users) + cond b 1 0) stays in
    sym (not_met_above_0 (special_users (at_row it change users)) (LastSpecial c.args.command.now.user) (omega (arith, one)))

pub returns-then-special_users_beside-eq0 : goal.returns-then-special_users_beside-eq0
unfolding last_special
returns-then-special_users_beside-eq0 c =
    let it = is_user c.args.command.now.user in
    let change = altered_user c.args.command.now c.args.tables.now.rows in
    let users = c.args.tables.now.rows.users in
    let goes : option_map_or (λ (user : User). is_special_user (change user)) (find it users) false ≡ false = sym c.is_special_after.ensures ∙ c.if-is_special_after.false in
    let others = special_users-altered c.args.command.now.user change users ∙ ap (λ b. special_users (drop_row it users) + cond b 1 0) goes in
    let beside = c.special_users_beside.ensures ∙ ap (λ (us : List User). special_users (drop_row it us)) c.users.ensures in
    sym (met_at_0 (special_users (at_row it change users)) (LastSpecial c.args.command.now.user) (omega (arith, others, beside, c.if-special_users_beside-eq0.true)))

pub returns : goal.returns
unfolding last_special
returns c =
    let it = is_user c.args.command.now.user in
    let change = altered_user c.args.command.now c.args.tables.now.rows in
    let users = c.args.tables.now.rows.users in
    let goes : option_map_or (λ (user : User). is_special_user (change user)) (find it users) false ≡ false = sym c.is_special_after.ensures ∙ c.if-is_special_after.false in
    let others = special_users-altered c.args.command.now.user change users ∙ ap (λ b. special_users (drop_row it users) + cond b 1 0) goes in
    let beside = c.special_users_beside.ensures ∙ ap (λ (us : List User). special_users (drop_row it us)) c.users.ensures in
    sym (not_met_above_0 (special_users (at_row it change users)) (LastSpecial c.args.command.now.user) (omega (arith, others, beside, c.if-special_users_beside-eq0.false)))
