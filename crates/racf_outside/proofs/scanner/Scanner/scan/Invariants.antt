-- The line has been taken up to here.
use Rattle.std.proofs.Common.{ℕ, ◌-◌, ◌^◌, List}
use Rattle.racf_outside.specs.Scan.{IsScanned}
use Rattle.racf_outside.proofs.scanner.Scanner.scan.Given as goal

abbrev pub invariant-line : goal.invariant-line
invariant-line g l = (raw : List ℕ) × IsScanned raw l.fn.self l.self l.line

abbrev pub decreases-line : goal.decreases-line
decreases-line g l = 2 ^ 28 - l.self.passed
