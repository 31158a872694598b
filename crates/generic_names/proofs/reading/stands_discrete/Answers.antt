use Rattle.std.proofs.Common.{◌≡◌, ℕ, List, [], true, drop, sym, ap, ◌∙◌, arith}
use Rattle.std.proofs.lemmas.List.{drop_all}
use Rattle.generic_names.proofs.FaultlessLaws.{goes_on, faultless}
use Rattle.generic_names.proofs.reading.stands_discrete.Goals as goal

pub returns : goal.returns
returns c h =
    let longest : ℕ = c.longest_qualifier-longest.result in
    let over : drop c.loop-byte.byte-index c.args.text.now ≡ [] = drop_all c.loop-byte.byte-index c.args.text.now (omega (arith, c.loop-byte-test.false)) in
    let told : goes_on c.args.kind longest 0 c.args.text.now ≡ true =
    sym c.loop-byte.invariant.same ∙ ap (λ (rest : List ℕ). goes_on c.args.kind longest c.loop-byte.passed rest) over ∙ h in
    faultless c.args.kind longest c.args.text.now c.longest_qualifier-longest.ensures.fits told
