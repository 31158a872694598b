use Rattle.std.proofs.Common.{◌≡◌, ◌+◌, false, None, eqb, ◌∙◌, sym, arith, add_assoc}
use Rattle.std.proofs.lemmas.Bool.Decides.{nat_tests}
use Rattle.generic_names.proofs.FaultLaws.{bytes_fault-passed, none_from_test}
use Rattle.generic_names.proofs.reading.fault_in_bytes.Goals as goal

pub loop-i-preserved : goal.loop-i-preserved
loop-i-preserved c =
    let i = c.loop-i.i in
    let xs = c.args.qualifier.now in
    let none : c.fault_in_byte-fault.result ≡ None = none_from_test _ _ c.is_some.ensures c.if-is_some.false in
    let inner : eqb (i + 1) 0 ≡ false = grind (arith, nat_tests) in
    let passed = bytes_fault-passed c.args.form c.args.kind (eqb i 0) (c.args.place + i) i xs c.loop-i-test.true (sym c.fault_in_byte-fault.ensures ∙ none) in
    rw (inner, ← add_assoc) (sym passed ∙ c.loop-i.invariant)
