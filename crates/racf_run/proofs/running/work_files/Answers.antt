use Rattle.std.proofs.Common.{◌≤◌, ℕ, List, length, map, string_bytes, vec_len, sym, ◌∙◌, subst, arith}
use Rattle.std.proofs.lemmas.List.{length-map}
use Rattle.command_history.specs.Events.{all_of}
use Rattle.desk_rules.specs.Durable.{idle_of}
use Rattle.desk_rules.proofs.IdleLaws.{told-pick}
use Rattle.racroute.specs.Disks.{StaysAlong}
use Rattle.racf_run.specs.Opening.{Returned, AreKept, AreOpen, OthersStay, ClosesAll}
use Rattle.racf_run.specs.Racf.{fault_counts, opened_on}
use Rattle.racf_run.proofs.DiskLaws.{either_later, rose_live, no_fewer}
use Rattle.racf_run.proofs.OpeningLaws.{AreNew-length, OthersStay-chain}
use Rattle.racf_run.proofs.RunningLaws.{form_of, named_run, RoseFor-earlier, run_count, run_names, run_no_usage, run_sound, run_reads, run_writes}
use Rattle.racf_run.proofs.running.work_files.Goals as goal

-- as many files as names
pub run_files-status-requires-clause-few_decks : goal.run_files-status-requires-clause-few_decks
run_files-status-requires-clause-few_decks g c κs within =
    let form = form_of c.args.decks (map string_bytes c.args.names.now) c.requires.form in
    form.few_decks

pub run_files-status-requires-clause-are_there : goal.run_files-status-requires-clause-are_there
run_files-status-requires-clause-are_there g c κs within =
    let form = form_of c.args.decks (map string_bytes c.args.names.now) c.requires.form in
    let count = AreNew-length g.F.In.Source.left g.F.In.Source.faults g.F.Out.Sink.taken g.F.Out.Sink.faults g.F.Shelf.tells (g.F.Shelf.input c.args.shelf.now) (map string_bytes c.args.names.now) c.args.files.items c.requires.new in
    omega (arith, form.are_there, count, c.args.files.ok.0)

pub run_files-status-requires-clause-few_requests : goal.run_files-status-requires-clause-few_requests
run_files-status-requires-clause-few_requests g c κs within =
    let form = form_of c.args.decks (map string_bytes c.args.names.now) c.requires.form in
    let count = AreNew-length g.F.In.Source.left g.F.In.Source.faults g.F.Out.Sink.taken g.F.Out.Sink.faults g.F.Shelf.tells (g.F.Shelf.input c.args.shelf.now) (map string_bytes c.args.names.now) c.args.files.items c.requires.new in
    omega (arith, form.few, count, c.args.files.ok.0)

pub run_files-status-requires-clause-some : goal.run_files-status-requires-clause-some
run_files-status-requires-clause-some g c κs within =
    let form = form_of c.args.decks (map string_bytes c.args.names.now) c.requires.form in
    let count = AreNew-length g.F.In.Source.left g.F.In.Source.faults g.F.Out.Sink.taken g.F.Out.Sink.faults g.F.Shelf.tells (g.F.Shelf.input c.args.shelf.now) (map string_bytes c.args.names.now) c.args.files.items c.requires.new in
    omega (arith, form.some, form.are_there, count, c.args.files.ok.0)

pub return_files-requires-clause-few : goal.return_files-requires-clause-few
return_files-requires-clause-few g c =
    omega (arith, run_count g.F.In.Source.left g.F.In.Source.faults g.F.Out.Sink.taken g.F.Out.Sink.faults c.args.desk.position c.args.issuing c.run_files-status.result.accepted.items c.run_files-status.result.doubt c.run_files-status.result.status c.args.decks c.args.files.items c.run_files-status.result.outs.items c.run_files-status.ensures.together g.F.Shelf.tells (g.F.Shelf.input c.args.shelf.now) (map string_bytes c.args.names.now) (vec_len c.run_files-status.result.outs) c.run_files-status.result.outs.ok.0 c.requires.new, length-map c.args.names.now string_bytes)

pub return_files-requires-clause-distinct : goal.return_files-requires-clause-distinct
return_files-requires-clause-distinct g c = (form_of c.args.decks (map string_bytes c.args.names.now) c.requires.form).distinct

pub return_files-requires-clause-open : goal.return_files-requires-clause-open
return_files-requires-clause-open g c = subst (AreOpen (g.F.Shelf.is_open c.args.shelf.now)) (sym (run_names g.F.In.Source.left g.F.In.Source.faults g.F.Out.Sink.taken g.F.Out.Sink.faults c.args.desk.position c.args.issuing c.run_files-status.result.accepted.items c.run_files-status.result.doubt c.run_files-status.result.status c.args.decks c.args.files.items c.run_files-status.result.outs.items c.run_files-status.ensures.together g.F.Shelf.tells (g.F.Shelf.input c.args.shelf.now) (map string_bytes c.args.names.now) (vec_len c.run_files-status.result.outs) c.run_files-status.result.outs.ok.0 c.requires.new)) c.requires.«open»

pub returns-clause-ran : goal.returns-clause-ran
returns-clause-ran g c = (
  c.run_files-status.result.outs.items,
  subst (λ (ns : List (List ℕ)). Returned g.F.Shelf.source_gives g.F.Shelf.sink_gives g.F.Shelf.take_back_gives g.F.Shelf.give_back_gives ns c.run_files-status.result.outs.items c.args.shelf.now c.return_files.new.shelf) (run_names g.F.In.Source.left g.F.In.Source.faults g.F.Out.Sink.taken g.F.Out.Sink.faults c.args.desk.position c.args.issuing c.run_files-status.result.accepted.items c.run_files-status.result.doubt c.run_files-status.result.status c.args.decks c.args.files.items c.run_files-status.result.outs.items c.run_files-status.ensures.together g.F.Shelf.tells (g.F.Shelf.input c.args.shelf.now) (map string_bytes c.args.names.now) (vec_len c.run_files-status.result.outs) c.run_files-status.result.outs.ok.0 c.requires.new) c.return_files.ensures.calls,
  λ input before counts no_more new others.
      let names = map string_bytes c.args.names.now in
      let enough : c.args.decks ≤ length c.args.files.items =
      let form = form_of c.args.decks names c.requires.form in
      omega (arith, form.are_there, AreNew-length g.F.In.Source.left g.F.In.Source.faults g.F.Out.Sink.taken g.F.Out.Sink.faults g.F.Shelf.tells input names c.args.files.items new) in
      named_run g.F.In.Source.left g.F.In.Source.faults g.F.Out.Sink.taken g.F.Out.Sink.faults g.F.Shelf.tells input (g.F.Shelf.output c.return_files.new.shelf) (opened_on g.D.Disk.tells c.args.desk.store) (g.D.Disk.tells c.run_files-status.result.disks.first) (g.D.Disk.tells c.run_files-status.result.disks.second)
      counts (fault_counts (g.F.Shelf.source_faults c.return_files.new.shelf) (g.F.Shelf.sink_faults c.return_files.new.shelf) (g.D.Disk.faults c.run_files-status.result.disks.first) (g.D.Disk.faults c.run_files-status.result.disks.second))
      c.args.desk.position c.args.issuing c.run_files-status.result.accepted.items c.run_files-status.result.doubt c.run_files-status.result.status c.args.decks names c.args.files.items c.run_files-status.result.outs.items before
      enough new (subst (λ (ns : List (List ℕ)). AreKept g.F.Out.Sink.taken (g.F.Shelf.output c.return_files.new.shelf) ns c.run_files-status.result.outs.items) (run_names g.F.In.Source.left g.F.In.Source.faults g.F.Out.Sink.taken g.F.Out.Sink.faults c.args.desk.position c.args.issuing c.run_files-status.result.accepted.items c.run_files-status.result.doubt c.run_files-status.result.status c.args.decks c.args.files.items c.run_files-status.result.outs.items c.run_files-status.ensures.together g.F.Shelf.tells (g.F.Shelf.input c.args.shelf.now) (map string_bytes c.args.names.now) (vec_len c.run_files-status.result.outs) c.run_files-status.result.outs.ok.0 c.requires.new) c.return_files.ensures.kept)
      c.run_files-status.ensures.together
      (RoseFor-earlier (λ file. g.F.In.Source.faults file.0) counts.reads (g.F.Shelf.source_faults c.args.shelf.now) (g.F.Shelf.source_faults c.return_files.new.shelf) c.run_files-status.result.outs.items no_more.reads c.return_files.ensures.reads_rose)
      (RoseFor-earlier (λ file. g.F.Out.Sink.faults file.1) counts.writes (g.F.Shelf.sink_faults c.args.shelf.now) (g.F.Shelf.sink_faults c.return_files.new.shelf) c.run_files-status.result.outs.items no_more.writes c.return_files.ensures.writes_rose)
      (λ h. either_later _ _ _ _ _ _ no_more.first no_more.second
      (rose_live g.D.Disk.faults c.args.desk.store.side c.args.desk.store.journal.disk c.args.desk.store.idle c.run_files-status.result.disks.first c.run_files-status.result.disks.second (c.run_files-status.ensures.rose h)))
      c.run_files-status.ensures.legal c.run_files-status.ensures.disks
      (subst (StaysAlong c.args.desk.position (all_of c.run_files-status.result.accepted.items c.run_files-status.result.doubt) (idle_of g.D.Disk.tells c.args.desk.store) (g.D.Disk.tells c.args.desk.store.journal.disk))
      (told-pick g.D.Disk.tells c.args.desk.store.side c.run_files-status.result.disks.first c.run_files-status.result.disks.second) c.run_files-status.ensures.moments)
      (sym (told-pick g.D.Disk.tells c.args.desk.store.side c.run_files-status.result.disks.second c.run_files-status.result.disks.first) ∙ c.run_files-status.ensures.idle)
      (OthersStay-chain names before (g.F.Shelf.output c.args.shelf.now) (g.F.Shelf.output c.return_files.new.shelf) others
      (subst (λ (ns : List (List ℕ)). OthersStay ns (g.F.Shelf.output c.args.shelf.now) (g.F.Shelf.output c.return_files.new.shelf)) (run_names g.F.In.Source.left g.F.In.Source.faults g.F.Out.Sink.taken g.F.Out.Sink.faults c.args.desk.position c.args.issuing c.run_files-status.result.accepted.items c.run_files-status.result.doubt c.run_files-status.result.status c.args.decks c.args.files.items c.run_files-status.result.outs.items c.run_files-status.ensures.together g.F.Shelf.tells (g.F.Shelf.input c.args.shelf.now) (map string_bytes c.args.names.now) (vec_len c.run_files-status.result.outs) c.run_files-status.result.outs.ok.0 c.requires.new) c.return_files.ensures.others)),
)

pub returns-clause-sound : goal.returns-clause-sound
returns-clause-sound g c =
    run_sound g.F.In.Source.left g.F.In.Source.faults g.F.Out.Sink.taken g.F.Out.Sink.faults c.args.desk.position c.args.issuing c.run_files-status.result.accepted.items c.run_files-status.result.doubt c.run_files-status.result.status c.args.decks c.args.files.items c.run_files-status.result.outs.items c.run_files-status.ensures.together

pub returns-clause-usage : goal.returns-clause-usage
returns-clause-usage g c =
    run_no_usage g.F.In.Source.left g.F.In.Source.faults g.F.Out.Sink.taken g.F.Out.Sink.faults c.args.desk.position c.args.issuing c.run_files-status.result.accepted.items c.run_files-status.result.doubt c.run_files-status.result.status c.args.decks c.args.files.items c.run_files-status.result.outs.items c.run_files-status.ensures.together

pub returns-clause-read_fault : goal.returns-clause-read_fault
returns-clause-read_fault g c =
    run_reads g.F.In.Source.left g.F.In.Source.faults g.F.Out.Sink.taken g.F.Out.Sink.faults c.args.desk.position c.args.issuing c.run_files-status.result.accepted.items c.run_files-status.result.doubt c.run_files-status.result.status c.args.decks c.args.files.items c.run_files-status.result.outs.items c.run_files-status.ensures.together
    g.F.Shelf.tells (g.F.Shelf.input c.args.shelf.now) (map string_bytes c.args.names.now) (g.F.Shelf.source_faults c.args.shelf.now) (g.F.Shelf.source_faults c.return_files.new.shelf) c.requires.new c.return_files.ensures.reads_rose

pub returns-clause-write_fault : goal.returns-clause-write_fault
returns-clause-write_fault g c =
    run_writes g.F.In.Source.left g.F.In.Source.faults g.F.Out.Sink.taken g.F.Out.Sink.faults c.args.desk.position c.args.issuing c.run_files-status.result.accepted.items c.run_files-status.result.doubt c.run_files-status.result.status c.args.decks c.args.files.items c.run_files-status.result.outs.items c.run_files-status.ensures.together
    g.F.Shelf.tells (g.F.Shelf.input c.args.shelf.now) (map string_bytes c.args.names.now) (g.F.Shelf.sink_faults c.args.shelf.now) (g.F.Shelf.sink_faults c.return_files.new.shelf) c.requires.new c.return_files.ensures.writes_rose

pub returns-clause-disk_fault : goal.returns-clause-disk_fault
returns-clause-disk_fault g c = λ e.
    rose_live g.D.Disk.faults c.args.desk.store.side c.args.desk.store.journal.disk c.args.desk.store.idle c.run_files-status.result.disks.first c.run_files-status.result.disks.second
    (c.run_files-status.ensures.rose (c.run_files-status.ensures.disk_fault e))

pub returns-clause-first_faults : goal.returns-clause-first_faults
returns-clause-first_faults g c =
    (no_fewer g.D.Disk.faults c.args.desk.store.side c.args.desk.store.journal.disk c.args.desk.store.idle c.run_files-status.result.disks.first c.run_files-status.result.disks.second
    c.run_files-status.ensures.no_fewer (omega (arith, c.run_files-status.ensures.idle_faults))).0

pub returns-clause-second_faults : goal.returns-clause-second_faults
returns-clause-second_faults g c =
    (no_fewer g.D.Disk.faults c.args.desk.store.side c.args.desk.store.journal.disk c.args.desk.store.idle c.run_files-status.result.disks.first c.run_files-status.result.disks.second
    c.run_files-status.ensures.no_fewer (omega (arith, c.run_files-status.ensures.idle_faults))).1

pub returns-clause-closed : goal.returns-clause-closed
returns-clause-closed g c = subst (λ (ns : List (List ℕ)). ClosesAll ns (g.F.Shelf.is_open c.args.shelf.now) (g.F.Shelf.is_open c.return_files.new.shelf)) (run_names g.F.In.Source.left g.F.In.Source.faults g.F.Out.Sink.taken g.F.Out.Sink.faults c.args.desk.position c.args.issuing c.run_files-status.result.accepted.items c.run_files-status.result.doubt c.run_files-status.result.status c.args.decks c.args.files.items c.run_files-status.result.outs.items c.run_files-status.ensures.together g.F.Shelf.tells (g.F.Shelf.input c.args.shelf.now) (map string_bytes c.args.names.now) (vec_len c.run_files-status.result.outs) c.run_files-status.result.outs.ok.0 c.requires.new) c.return_files.ensures.closed
