use Rattle.std.proofs.Common.{ap}
use Rattle.racf_outside.specs.Reader.{Reader}
use Rattle.racf_workers.proofs.DeckWalk.{none_given, too_long, halted_status}
use Rattle.racf_workers.proofs.decks.give_commands.Goals as goal

-- there was no memory for the reader
pub returns-in-Err-clause-gives : goal.returns-in-Err-clause-gives
returns-in-Err-clause-gives g c = none_given g.J.Naming.base c.args.issuing c.args.caller.now.events c.args.pass.now _ _ _ _ _

pub returns-clause-too_long : goal.returns-clause-too_long
returns-clause-too_long g c =
    too_long g.J.Naming.base c.args.issuing c.args.caller.now.events c.run-status.new.caller.events c.args.pass.now c.run-status.new.pass _ _ c.run-status.result c.in-Ok.lines.left _ c.run-status.new.lines.left _ _ c.run-status.ensures.gives (ap (λ (r : Reader). r.left) c.in-Ok.ensures.start)

pub returns-clause-halted_status : goal.returns-clause-halted_status
returns-clause-halted_status g c =
    λ more.
    halted_status g.J.Naming.base c.args.issuing c.args.caller.now.events c.run-status.new.caller.events c.args.pass.now c.run-status.new.pass _ _ c.run-status.result _ _ _ _ c.run-status.ensures.gives more
