use Rattle.std.proofs.Common.{◌∙◌, [], ap, sym, length}
use Rattle.std.specs.Option.{option_map_or}
use Rattle.racf_profiles.specs.declared.users.User.{User}
use Rattle.command_rules.specs.declared.conflict.Limit.TheVariants.{Connections}
use Rattle.command_rules.specs.Effects.{connects_after}
use Rattle.command_rules.specs.Conflicts.{user_full, over}
use Rattle.command_rules.proofs.AfterLaws.{length-connects_after}
use Rattle.command_conflicts.proofs.check.users.check_connects_of_user.Goals as goal

pub returns-in-Some : goal.returns-in-Some
unfolding user_full
returns-in-Some c =
    c.check_count.ensures
    ∙ ap (over Connections 300)
    (c.connections_with.ensures ∙ sym (length-connects_after c.args.command.now c.args.group c.in-Some.user.now.connects)
    ∙ ap (λ o. length (connects_after c.args.command.now c.args.group (option_map_or (λ (user : User). user.connects) o []))) c.in-Some.ensures)
