use denote.Param.{param}
use denote.Param.Send.{param_sync, arg_sync, recorded_sync, struct_sync, shr_sync}
use Rattle.std.proofs.Crossing.{sync}
use Rattle.racroute.proofs.Crossing.{Racf-sync}
use Rattle.std.proofs.Common.{slice_index_or}
use Rattle.statements.proofs.issuer.Issuing.TheSendSync as issuing
use Rattle.racf_threads.specs.Working.{Working, HasWorked}
use Rattle.racf_threads.proofs.Captures.{each_of_five, at_each, carried}
use Rattle.racf_threads.proofs.begin.in_threads.Goals as goal

pub returns : goal.returns
returns g c =
    let D : Working g.row.I.Denot g.row.K.Denot → Working g.row.I.Denot g.row.K.Denot → Type 0 = HasWorked g.I.Source.left g.I.Source.faults g.K.Sink.taken g.K.Sink.faults g.J.Naming.base c.args.issuing in
    at_each D c.args.workers.now c.for_each_mut.new.s c.for_each_mut.auto.s
    (λ i d h.
    let k = (c.for_each_mut.ensures i d h).1 in
    carried D k.argument.now k.after_call.now (slice_index_or c.args.workers.now i d) (slice_index_or c.for_each_mut.new.s i d) k.argument_is k.left k.call)

pub for_each_mut-requires-sync-F : goal.for_each_mut-requires-sync-F
for_each_mut-requires-sync-F g c κs within =
    let b = c.type_bounds in
    let racf = Racf-sync (param 0 g.row.J) (param 1 g.row.T) (param 2 g.row.O) (param 3 g.row.Q) (param 4 g.row.S) (param 5 g.row.F) (param 6 g.row.P) (param 9 g.row.D) (param 12 g.row.T-State)
    g.J.Naming g.T.Absorb g.S.Ledger g.F.Ledger g.P.Ledger g.D.Disk b.send-T b.sync-T b.send-O b.send-Q b.send-D in
    let rt = b.sync-R in
    let gate = b.sync-G in
    search (param_sync, arg_sync, recorded_sync, struct_sync, shr_sync, sync, issuing.the_sync, each_of_five) depth 20
