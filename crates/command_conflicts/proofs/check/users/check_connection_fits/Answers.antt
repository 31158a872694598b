use Rattle.std.proofs.Common.{◌≡◌, ◌∙◌, ap, sym, arith}
use Rattle.racf_profiles.specs.Lookup.{is_user}
use Rattle.command_rules.specs.declared.conflict.Limit.TheVariants.{AllConnections}
use Rattle.racf_profiles.specs.Names.{connections, connections_added}
use Rattle.command_rules.specs.Effects.{connected_user, group_or_current}
use Rattle.command_rules.specs.Conflicts.{connections_full, over}
use Rattle.command_rules.proofs.AfterLaws.{at_row-absent, connections-connected}
use Rattle.command_conflicts.proofs.check.users.check_connection_fits.Goals as goal

pub returns-in-None : goal.returns-in-None
unfolding connections_full
returns-in-None c =
    let users = c.args.tables.now.rows.users in
    c.check_count.ensures
    ∙ ap (over AllConnections 200000)
    (c.connections-count.ensures.count ∙ ap connections c.users.ensures
    ∙ sym (ap connections (at_row-absent (is_user c.args.command.now.user) (connected_user c.args.issuer.now c.args.command.now) users (sym c.in-None.ensures))))

pub returns-in-Some : goal.returns-in-Some
unfolding connections_full
returns-in-Some c =
    let users = c.args.tables.now.rows.users in
    let more : connections_added c.args.group c.in-Some.user.now.connects ≡ connections_added (group_or_current c.args.issuer.now c.args.command.now.group) c.in-Some.user.now.connects =
    ap (λ g. connections_added g c.in-Some.user.now.connects) c.requires in
    let count = c.connections-count.ensures.count ∙ ap connections c.users.ensures in
    c.check_count-in-Some.ensures
    ∙ ap (over AllConnections 200000)
    (omega (arith, count, c.connections_added.ensures, more, connections-connected c.args.issuer.now c.args.command.now users c.in-Some.user.now (sym c.in-Some.ensures)))
