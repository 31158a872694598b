use Rattle.std.proofs.Common.{ap, refl, sym, ◌∙◌}
use Rattle.desk_rules.specs.Made.{number_at}
use Rattle.racroute.specs.Kept.{disks_before}
use Rattle.racroute.proofs.Serving.{opened_kept}
use Rattle.racroute.proofs.office.Office.opened.Goals as goal

pub invariant_of-result : goal.invariant_of-result
invariant_of-result g c = (
  c.requires.settled,
  c.requires.free,
  c.number.ensures ∙ ap number_at c.requires.position,
  c.requires.runs,
  opened_kept g.D.Disk.tells g.D.Disk.faults g.J.Naming.base (disks_before g.J.Naming.faults g.J.Naming.idle_faults g.J.Naming.live_disk g.J.Naming.idle_disk) _ _ _ _ _
      c.requires.events c.requires.position refl c.requires.faults c.requires.idle_faults c.requires.disks
      (c.is_at_rest.ensures c.requires.runs) c.new.ensures.items c.requires.books.0 c.requires.books.1
      (c.requires.books.2 ∙ sym c.decks.ensures.decks),
)
