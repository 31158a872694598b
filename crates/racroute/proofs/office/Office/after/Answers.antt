use Rattle.std.proofs.Common.{◌≡◌, false, sym, ◌∙◌, ap, subst}
use Rattle.raclist_snapshots.specs.Publishing.{Publishing}
use Rattle.racroute.specs.Core.{Core, is_waited}
use Rattle.racroute.proofs.Telling.{final_after}
use Rattle.racroute.proofs.office.Office.after.Goals as goal

-- the caller has waited in vain, and sees the end
pub returns-then-reached-number-clause-amiss : goal.returns-then-reached-number-clause-amiss
returns-then-reached-number-clause-amiss g c =
    let D = g.row.D.Denot in
    let o = c.self.inside in
    let at : Publishing → Core D = λ p. record { events = p.events; position = o.desk.position; store = o.desk.store; doubt = o.doubt; passes = o.passes; decks = o.rest } in
    let same : at c.covers.new.self ≡ c.args.self.now = ap at c.covers.ensures.same ∙ c.self.view_is in
    let waits = subst (λ (k : Core D). is_waited g.J.Naming.base c.args.number k ≡ false) (sym same) c.requires in
    let seen = final_after g.J.Naming.base c.args.number c.number-reached.result (at c.covers.new.self) c.tell.new.self c.args.caller.now.events c.in-Ok.note c.learn.new.self.events
    waits c.in-Ok.ensures.told c.in-Ok.ensures.note c.covers.ensures.seen c.learn.ensures.one c.learn.ensures.told c.number-reached.ensures c.if-reached-number.true in
    (c.if-reached-number.true, seen.0, seen.1, c.learn.ensures.learned)
