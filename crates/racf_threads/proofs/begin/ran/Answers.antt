use Rattle.std.proofs.Common.{◌≡◌, ℕ, ◌≤◌, List, ◌++◌, length, take, drop, [], None, ap, sym, subst, ◌∙◌, arith}
use Rattle.std.specs.List.{AllZip}
use Rattle.racf_threads.specs.Working.{Working, HasWorked}
use Rattle.racf_threads.proofs.Parts.{first_part, handed_in, runs_over, fails_over}
use Rattle.racf_threads.proofs.Seats.{seats_count}
use Rattle.racf_threads.proofs.begin.ran.Goals as goal

-- there is a worker for each of the files
pub side_by_side-requires-after_bounds : goal.side_by_side-requires-after_bounds
side_by_side-requires-after_bounds g c = λ κs bounds.
    let count : length c.as_mut_slice.result.now ≡ length c.args.files.items = ap length (c.as_mut_slice.ensures.value ∙ c.seat-workers.ensures) ∙ seats_count c.args.passes.items c.args.files.items in
    let some = c.requires.some in
    let files = c.args.files.ok.0 in
    omega (arith, count, some, files)

pub gather-left-requires-clause-callers : goal.gather-left-requires-clause-callers
gather-left-requires-clause-callers g c =
    let count : length c.seat-workers.result.items ≡ length c.args.files.items = ap length c.seat-workers.ensures ∙ seats_count c.args.passes.items c.args.files.items in
    let workers = c.seat-workers.result.ok.0 in
    let files = c.args.files.ok.0 in
    let room = c.requires.left.1 in (c.requires.left.0, omega (arith, count, workers, files, room))

pub gather-left-requires-clause-ends : goal.gather-left-requires-clause-ends
gather-left-requires-clause-ends g c =
    let count : length c.seat-workers.result.items ≡ length c.args.files.items = ap length c.seat-workers.ensures ∙ seats_count c.args.passes.items c.args.files.items in
    let workers = c.seat-workers.result.ok.0 in
    let files = c.args.files.ok.0 in
    let room = c.requires.ends.1 in (c.requires.ends.0, omega (arith, count, workers, files, room))

pub gather-left-requires-clause-outs : goal.gather-left-requires-clause-outs
gather-left-requires-clause-outs g c =
    let count : length c.seat-workers.result.items ≡ length c.args.files.items = ap length c.seat-workers.ensures ∙ seats_count c.args.passes.items c.args.files.items in
    let workers = c.seat-workers.result.ok.0 in
    let files = c.args.files.ok.0 in
    let room = c.requires.outs.1 in (c.requires.outs.0, omega (arith, count, workers, files, room))

-- each deck has handed its pass in
pub closed-disks-requires : goal.closed-disks-requires
closed-disks-requires g c =
    let files = c.args.files.ok.0 in
    let fewer = c.requires.few.0 in
    let few : c.args.decks ≤ length c.args.files.items = omega (arith, files, fewer) in
    let written : c.seat-workers.result.len ≡ length c.side_by_side.new.workers =
    (let v = c.seat-workers.result.ok.0 in
    let e : length c.as_mut_slice.result.now ≡ length c.seat-workers.result.items = ap length c.as_mut_slice.ensures.value in
    let a = c.side_by_side.auto.workers in
    omega (arith, v, e, a)) in
    let news : List (Working g.row.I.Denot g.row.K.Denot) = take c.seat-workers.result.len (c.side_by_side.new.workers ++ drop (length c.side_by_side.new.workers) c.seat-workers.result.items) in
    let news_are : news ≡ c.side_by_side.new.workers =
    ap (λ (n : ℕ). take n (c.side_by_side.new.workers ++ drop (length c.side_by_side.new.workers) c.seat-workers.result.items)) written ∙ first_part c.side_by_side.new.workers (drop (length c.side_by_side.new.workers) c.seat-workers.result.items) in
    let did = subst (λ (l : List (Working g.row.I.Denot g.row.K.Denot)). AllZip (HasWorked g.I.Source.left g.I.Source.faults g.K.Sink.taken g.K.Sink.faults g.J.Naming.base c.args.issuing) c.as_mut_slice.result.now l) (sym news_are) c.side_by_side.ensures in
    let count : length c.gather-left.result.0.ends.items ≡ c.args.decks =
    ap length c.gather-left.ensures.ends
    ∙ handed_in g.I.Source.left g.I.Source.faults g.K.Sink.taken g.K.Sink.faults g.J.Naming.base c.args.issuing [] None c.args.decks c.args.passes.items c.args.files.items c.as_mut_slice.result.now news few c.requires.passes (c.as_mut_slice.ensures.value ∙ c.seat-workers.ensures) did in
    let ends = c.gather-left.result.0.ends.ok.0 in
    let parts = c.requires.parts in
    omega (arith, count, ends, parts)

pub returns-clause-together : goal.returns-clause-together
returns-clause-together g c =
    let files = c.args.files.ok.0 in
    let fewer = c.requires.few.0 in
    let few : c.args.decks ≤ length c.args.files.items = omega (arith, files, fewer) in
    let written : c.seat-workers.result.len ≡ length c.side_by_side.new.workers =
    (let v = c.seat-workers.result.ok.0 in
    let e : length c.as_mut_slice.result.now ≡ length c.seat-workers.result.items = ap length c.as_mut_slice.ensures.value in
    let a = c.side_by_side.auto.workers in
    omega (arith, v, e, a)) in
    let news : List (Working g.row.I.Denot g.row.K.Denot) = take c.seat-workers.result.len (c.side_by_side.new.workers ++ drop (length c.side_by_side.new.workers) c.seat-workers.result.items) in
    let news_are : news ≡ c.side_by_side.new.workers =
    ap (λ (n : ℕ). take n (c.side_by_side.new.workers ++ drop (length c.side_by_side.new.workers) c.seat-workers.result.items)) written ∙ first_part c.side_by_side.new.workers (drop (length c.side_by_side.new.workers) c.seat-workers.result.items) in
    let did = subst (λ (l : List (Working g.row.I.Denot g.row.K.Denot)). AllZip (HasWorked g.I.Source.left g.I.Source.faults g.K.Sink.taken g.K.Sink.faults g.J.Naming.base c.args.issuing) c.as_mut_slice.result.now l) (sym news_are) c.side_by_side.ensures in
    runs_over g.I.Source.left g.I.Source.faults g.K.Sink.taken g.K.Sink.faults g.J.Naming.base c.args.issuing c.closed-disks.result.accepted.items c.closed-disks.result.doubt c.args.decks c.args.passes.items c.args.files.items c.as_mut_slice.result.now news few c.requires.passes (c.as_mut_slice.ensures.value ∙ c.seat-workers.ensures) did
    c.gather-left.result.0.callers.items c.gather-left.result.0.ends.items c.gather-left.result.0.outs.items c.gather-left.result.1 c.gather-left.ensures.callers c.gather-left.ensures.ends c.gather-left.ensures.outs c.gather-left.ensures.status c.closed-disks.ensures.callers c.closed-disks.ensures.commands c.closed-disks.ensures.faults

pub returns-clause-disk_fault : goal.returns-clause-disk_fault
returns-clause-disk_fault g c =
    let files = c.args.files.ok.0 in
    let fewer = c.requires.few.0 in
    let few : c.args.decks ≤ length c.args.files.items = omega (arith, files, fewer) in
    let written : c.seat-workers.result.len ≡ length c.side_by_side.new.workers =
    (let v = c.seat-workers.result.ok.0 in
    let e : length c.as_mut_slice.result.now ≡ length c.seat-workers.result.items = ap length c.as_mut_slice.ensures.value in
    let a = c.side_by_side.auto.workers in
    omega (arith, v, e, a)) in
    let news : List (Working g.row.I.Denot g.row.K.Denot) = take c.seat-workers.result.len (c.side_by_side.new.workers ++ drop (length c.side_by_side.new.workers) c.seat-workers.result.items) in
    let news_are : news ≡ c.side_by_side.new.workers =
    ap (λ (n : ℕ). take n (c.side_by_side.new.workers ++ drop (length c.side_by_side.new.workers) c.seat-workers.result.items)) written ∙ first_part c.side_by_side.new.workers (drop (length c.side_by_side.new.workers) c.seat-workers.result.items) in
    let did = subst (λ (l : List (Working g.row.I.Denot g.row.K.Denot)). AllZip (HasWorked g.I.Source.left g.I.Source.faults g.K.Sink.taken g.K.Sink.faults g.J.Naming.base c.args.issuing) c.as_mut_slice.result.now l) (sym news_are) c.side_by_side.ensures in
    fails_over g.I.Source.left g.I.Source.faults g.K.Sink.taken g.K.Sink.faults g.J.Naming.base c.args.issuing c.closed-disks.result.accepted.items c.closed-disks.result.doubt c.args.decks c.args.passes.items c.args.files.items c.as_mut_slice.result.now news few c.requires.passes (c.as_mut_slice.ensures.value ∙ c.seat-workers.ensures) did
    c.gather-left.result.0.callers.items c.gather-left.result.1 c.gather-left.ensures.callers c.gather-left.ensures.status c.closed-disks.ensures.callers
