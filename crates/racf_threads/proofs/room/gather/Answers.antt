use Rattle.std.proofs.Common.{◌≡◌, length, ap, arith, ◌∷◌}
use Rattle.std.specs.Vec.Iter.{into_iter_items}
use Rattle.racf_threads.specs.Working.{Working}
use Rattle.racf_threads.proofs.Gathers.{one_more, no_more, maybe_more, none_more}
use Rattle.racf_threads.proofs.Statuses.{one_greater, none_greater}
use Rattle.racf_threads.proofs.room.gather.Goals as goal

pub loop-worker-preserved : goal.loop-worker-preserved
loop-worker-preserved g c =
    let i = c.loop-worker.invariant in
    let w = c.in-Some.worker in
    let rest = into_iter_items c.loop-worker.workers in
    let left = into_iter_items c.next.new.self in
    let next : rest ≡ w ∷ left = c.in-Some.ensures.items in
    let is = c.worker.view_is in
    record {
      left = (let len = i.left in let count = c.in-Some.ensures.cases.1 in let e = ap length next in omega arith);
      callers = one_more (λ w. w.caller) w c.worker.inside.caller c.loop-worker.callers.items c.push_reserved.new.self.items rest left _ c.push_reserved.ensures.items (ap (λ (v : Working g.row.I.Denot g.row.K.Denot). v.caller) is) next i.callers;
      ends = maybe_more (λ w. w.end) w c.worker.inside.end c.loop-worker.ends.items c.push_some.new.to.items rest left _ c.push_some.ensures.items (ap (λ (v : Working g.row.I.Denot g.row.K.Denot). v.end) is) next i.ends;
      outs = maybe_more (λ w. w.files) w c.worker.inside.files c.loop-worker.outs.items c.push_some-in-Some.new.to.items rest left _ c.push_some-in-Some.ensures.items (ap (λ (v : Working g.row.I.Denot g.row.K.Denot). v.files) is) next i.outs;
      status = one_greater (λ w. w.status) w c.worker.inside.status c.loop-worker.status c.greater-status.result rest left _ c.greater-status.ensures (ap (λ (v : Working g.row.I.Denot g.row.K.Denot). v.status) is) next i.status;
      callers_room = (let room = i.callers_room in let p = c.push_reserved.ensures.len in let q = c.push_reserved.ensures.capacity in let count = c.in-Some.ensures.cases.1 in omega arith);
      ends_room = (let room = i.ends_room in let p = c.push_some.ensures.count in let q = c.push_some.ensures.room in let count = c.in-Some.ensures.cases.1 in omega arith);
      outs_room = (let room = i.outs_room in let p = c.push_some-in-Some.ensures.count in let q = c.push_some-in-Some.ensures.room in let count = c.in-Some.ensures.cases.1 in omega arith);
    }

pub returns-clause-callers : goal.returns-clause-callers
returns-clause-callers g c = no_more (λ (w : Working g.row.I.Denot g.row.K.Denot). w.caller) c.loop-worker.callers.items (into_iter_items c.loop-worker.workers) _ (let len = c.loop-worker.invariant.left in omega (arith, c.in_default.ensures.cases.0)) c.loop-worker.invariant.callers

pub returns-clause-ends : goal.returns-clause-ends
returns-clause-ends g c = none_more (λ (w : Working g.row.I.Denot g.row.K.Denot). w.end) c.loop-worker.ends.items (into_iter_items c.loop-worker.workers) _ (let len = c.loop-worker.invariant.left in omega (arith, c.in_default.ensures.cases.0)) c.loop-worker.invariant.ends

pub returns-clause-outs : goal.returns-clause-outs
returns-clause-outs g c = none_more (λ (w : Working g.row.I.Denot g.row.K.Denot). w.files) c.loop-worker.outs.items (into_iter_items c.loop-worker.workers) _ (let len = c.loop-worker.invariant.left in omega (arith, c.in_default.ensures.cases.0)) c.loop-worker.invariant.outs

pub returns-clause-status : goal.returns-clause-status
returns-clause-status g c = none_greater (λ (w : Working g.row.I.Denot g.row.K.Denot). w.status) c.loop-worker.status (into_iter_items c.loop-worker.workers) _ (let len = c.loop-worker.invariant.left in omega (arith, c.in_default.ensures.cases.0)) c.loop-worker.invariant.status
