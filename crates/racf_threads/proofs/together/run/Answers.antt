use Rattle.std.proofs.Common.{◌≡◌, length, inl, arith}
use Rattle.racf_threads.proofs.Parts.{over_two}
use Rattle.racf_threads.proofs.together.run.Goals as goal

-- decks and request files stood in one list
pub returns-in-Ok-clause-together : goal.returns-in-Ok-clause-together
returns-in-Ok-clause-together g c =
    let held = c.args.decks.ok.0 in
    let counted = c.len-count.ensures in
    let count : c.len-count.result ≡ length c.args.decks.items = omega (arith, held, counted) in
    inl (over_two g.I.Source.left g.I.Source.faults g.K.Sink.taken g.K.Sink.faults c.args.desk.position c.args.issuing c.run_files.result.accepted.items c.run_files.result.doubt c.run_files.result.status
    c.args.decks.items c.args.requests.items c.append.new.self.items c.run_files.result.outs.items c.len-count.result c.in-Ok.ensures.items count c.run_files.ensures.together)
