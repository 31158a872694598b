use Rattle.std.proofs.Common.{◌≡◌, rules, subst}
use Rattle.std.specs.Prelude.{◌||◌}
use Rattle.racf_workers.specs.Deck.{is_refusal, is_failure}
use Rattle.racf_workers.specs.Giving.{Giving, Commands}
use Rattle.racf_workers.proofs.DeckLaws.{commanded, told_state}
use Rattle.racf_workers.proofs.giving.Giving.command.Goals as goal

pub returns-clause-works : goal.returns-clause-works
returns-clause-works g c =
    let base = g.J.Naming.base in
    let inside = c.self.inside in
    let old : Giving = record { issuing = inside.issuing; issuer = inside.issuer; has_refused = inside.has_refused; has_failed = inside.has_failed } in
    let new : Giving = record { issuing = inside.issuing; issuer = inside.issuer; has_refused = c.if-self.self; has_failed = c.if-self-2.self } in
    let refused : c.if-self.self ≡ (inside.has_refused || is_refusal c.submit-reply.result) = search rules in
    let failed : c.if-self-2.self ≡ (inside.has_failed || is_failure c.submit-reply.result) = search rules in
    subst (λ (x : Giving). Commands base c.args.text.now c.args.caller.now.events c.submit-reply.new.caller.events c.args.pass.now c.submit-reply.new.pass x new c.args.out.now.items c.write_reply.new.out.items) c.self.view_is
    (commanded base c.args.text.now c.as_slice.result.now c.submit-reply.result c.args.caller.now.events c.submit-reply.new.caller.events c.args.pass.now c.submit-reply.new.pass old new c.args.out.now.items c.reserve.new.self.items c.write_reply.new.out.items
    c.submit-reply.ensures.says c.as_slice.ensures c.in_ok-write_reply.ensures.told
    (told_state c.submit-reply.result old c.if-self.self c.if-self-2.self refused failed)
    c.reserve.ensures.items c.in_ok-write_reply.ensures.line)
