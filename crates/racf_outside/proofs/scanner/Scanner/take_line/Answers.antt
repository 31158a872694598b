use Rattle.std.proofs.Common.{refl}
use Rattle.racf_outside.proofs.ScanLaws.{TakesHeld-made}
use Rattle.racf_outside.proofs.scanner.Scanner.take_line.Goals as goal

-- the line was at hand, and is passed
pub returns : goal.returns
returns g c =
    let inside = c.self.inside in
    rw (← c.self.view_is) (
      (refl, λ _. tt, TakesHeld-made c.args.size inside.blocks c.take_line.follows.lender-at-none inside.ended inside.passed (rw c.self.view_is c.requires) c.take_line.follows.holds-at-none),
      record { bytes = c.take_line.ensures.bytes; after = tt },
    )
