use Rattle.std.proofs.Common.{◌≡◌, true, sym, ◌∙◌, ap}
use Rattle.racroute.specs.Core.{Core, is_over}
use Rattle.racroute.specs.Kept.{disks_before}
use Rattle.racroute.proofs.Telling.{final_either, either_kept}
use Rattle.racroute.proofs.office.Office.tell.Goals as goal

-- with the mark, or as before
pub invariant_of-self : goal.invariant_of-self
invariant_of-self g c =
    let D = g.row.D.Denot in
    let o = c.self.inside in
    let core : Core D = record { events = o.publisher.events; position = o.desk.position; store = o.desk.store; doubt = o.doubt; passes = o.passes; decks = o.rest } in
    let over : is_over core ≡ true = ap (λ (k : Core D). is_over k) c.self.view_is ∙ (sym c.is_over.ensures ∙ c.if-is_over.true) in
    let told = final_either o.doubt c.tell_final.result o.publisher c.tell_final.new.self c.tell_final.ensures.ended c.tell_final.ensures.same c.self.invariant.1 in (
      c.self.invariant.0,
      told.0,
      c.self.invariant.2,
      c.self.invariant.3,
      either_kept g.D.Disk.tells g.D.Disk.faults g.J.Naming.base (disks_before g.J.Naming.faults g.J.Naming.idle_faults g.J.Naming.live_disk g.J.Naming.idle_disk) core c.tell_final.new.self.events o.past.items o.commands.total o.faults.total o.out.total
          c.self.invariant.4 over told.1,
    )
