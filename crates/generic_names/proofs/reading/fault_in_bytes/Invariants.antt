use Rattle.std.proofs.Common.{◌≡◌, ◌+◌, eqb, drop, true}
use Rattle.generic_names.specs.Faults.{bytes_fault}
use Rattle.generic_names.proofs.reading.fault_in_bytes.Given as goal

abbrev pub invariant-loop-i : goal.invariant-loop-i
invariant-loop-i l =
    bytes_fault l.form l.kind (eqb l.i 0) (l.place + l.i) (drop l.i l.qualifier) ≡ bytes_fault l.form l.kind true l.place l.qualifier
