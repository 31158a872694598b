use Rattle.std.proofs.Common.{◌++◌, ◌∙◌, Ok, ap}
use Rattle.racf_outside.proofs.ScanLaws.{IsScanned-more, Finds-feed, Finds-last}
use Rattle.racf_outside.proofs.scanner.Scanner.scan.Goals as goal

-- the line goes on with the piece
pub line-preserved : goal.line-preserved
line-preserved g c =
    let t = rw c.in-Ok-More.field-0-is at c.in-Ok-More.ensures.taken in
    let s = c.line.invariant in
    (s.0 ++ t.0, IsScanned-more s.0 t.0 c.args.self.now c.line.self c.piece.new.self c.line.line c.piece.new.line s.1 t.1 c.in-Ok-More.ensures.faults c.in-Ok-More.ensures.within c.piece.ensures.held (c.piece.ensures.holds (c.in-Ok-More.is ∙ ap Ok c.in-Ok-More.field-0-is)))

-- the line ends with the piece
pub returns-in-Ok-Feed-clause-found : goal.returns-in-Ok-Feed-clause-found
returns-in-Ok-Feed-clause-found g c =
    let t = rw c.in-Ok-Feed.field-0-is at c.in-Ok-Feed.ensures.taken in
    let s = c.line.invariant in
    rw c.line_found.ensures (Finds-feed s.0 t.0 c.args.self.now c.line.self c.piece.new.self c.line.line c.piece.new.line s.1 t.1)

-- the line ends with the input
pub returns-in-Ok-End-clause-found : goal.returns-in-Ok-End-clause-found
returns-in-Ok-End-clause-found g c =
    let t = rw c.in-Ok-End.field-0-is at c.in-Ok-End.ensures.taken in
    let s = c.line.invariant in
    rw c.last_found.ensures (Finds-last s.0 c.args.self.now c.line.self c.piece.new.self c.line.line c.piece.new.line s.1 t)
