use Rattle.std.proofs.Common.{Option, List, subst}
use Rattle.command_history.specs.declared.events.Event.{Event}
use Rattle.racroute.specs.Replies.{given_by, IsNoted}
use Rattle.racroute.proofs.Replying.{learned_says, untold_says}
use Rattle.racroute.proofs.office.Office.submit.Goals as goal

-- nothing has changed
pub returns-in_default-clause-says : goal.returns-in_default-clause-says
returns-in_default-clause-says g c =
    let told = c.serve-reply.result.0 in
    let after = c.serve-reply.new.self.events in
    untold_says g.J.Naming.base (given_by c.args.issuer c.args.group c.args.text.now) told c.args.caller.now.events c.covers.new.self.events after c.args.pass.now c.serve-reply.new.pass
    (subst (λ (n : Option (List Event)). IsNoted told n after) c.in_default.is c.serve-reply.ensures.noted) c.serve-reply.ensures.says

-- the caller has learned the note
pub returns-clause-says : goal.returns-clause-says
returns-clause-says g c =
    let told = c.serve-reply.result.0 in
    let after = c.serve-reply.new.self.events in
    learned_says g.J.Naming.base (given_by c.args.issuer c.args.group c.args.text.now) told c.in-Some.note c.args.caller.now.events c.covers.new.self.events after
    c.learn.new.self.events c.args.pass.now c.serve-reply.new.pass
    (subst (λ (n : Option (List Event)). IsNoted told n after) c.in-Some.is c.serve-reply.ensures.noted)
    c.covers.ensures.seen c.serve-reply.ensures.says c.learn.ensures.one c.learn.ensures.told
