use Rattle.std.proofs.Common.{◌≡◌, ◌<◌, length, ◌∙◌, arith, rules}
use Rattle.racf_threads.proofs.Parts.{idle_over}
use Rattle.racf_threads.proofs.together.run_files.Goals as goal

-- there was no memory
pub returns-in-Err-begun-clause-together : goal.returns-in-Err-begun-clause-together
returns-in-Err-begun-clause-together g c =
    let back = c.in-Err-begun.ensures.files in
    let same : c.in-Err-begun.files.items ≡ c.args.files.items = first_of (search rules, cc (back), grind (arith, back)) in
    let count = c.args.files.ok.0 in
    let any = c.requires.some in
    let some : 0 < length c.args.files.items = omega (arith, count, any) in
    let idle = c.unbegun-in-Err-begun in
    idle_over g.I.Source.left g.I.Source.faults g.K.Sink.taken g.K.Sink.faults c.args.desk.position c.args.issuing c.args.decks c.args.files.items idle.result.outs.items idle.result.status idle.result.accepted.items idle.result.doubt some (idle.ensures.outs ∙ same) idle.ensures.status idle.ensures.none idle.ensures.runs_on
