-- The sync, and what was found behind it.
use Rattle.std.proofs.Common.{◌-◌, ◌≡◌, ◌∙◌, drop, Err, ap, rules}
use Rattle.std.proofs.lemmas.List.{take_rest}
use Rattle.racf_outside.proofs.Runs.{err}
use Rattle.racf_journal.specs.declared.fault.JournalFault.TheVariants.{NoMemory}
use Rattle.racf_journal.specs.Opening.{Refuses}
use Rattle.racf_journal.proofs.Opens.{possible_start, possible_here, synced_stays, read_synced, read_before, found_before, found_is}
use Rattle.racf_journal.proofs.found.find.Goals as goal

pub returns-in_err-sync-clause-moments : goal.returns-in_err-sync-clause-moments
returns-in_err-sync-clause-moments g c before was =
    err (λ m. m) (possible_start c.args.start before (g.D.Disk.tells c.args.disk.now) was) c.in_err-sync.ensures.failed (possible_here c.args.start before (g.D.Disk.tells c.args.disk.now) was)

pub returns-in_err-found-clause-moments : goal.returns-in_err-found-clause-moments
returns-in_err-found-clause-moments g c = synced_stays c.args.start (g.D.Disk.tells c.args.disk.now) (g.D.Disk.tells c.read.new.disk) (read_synced c.args.start (g.D.Disk.tells c.args.disk.now) (g.D.Disk.tells c.sync.new.self) (g.D.Disk.tells c.read.new.disk) (g.met.D.Disk.reads_an_image c.args.disk.now) c.in_ok-sync.ensures.done c.read.ensures.kept)

pub returns-in_err-found-clause-fault : goal.returns-in_err-found-clause-fault
returns-in_err-found-clause-fault g c =
    let why = c.in_err-found.field-0.0 in
    let is : c.from_residual-in_err-found.result ≡ Err why = search rules in
    rw is (read_before c.args.start (g.D.Disk.tells c.args.disk.now) (g.D.Disk.tells c.sync.new.self) (g.D.Disk.tells c.read.new.disk) (g.met.D.Disk.reads_an_image c.args.disk.now) c.in_ok-sync.ensures.done c.read.ensures.kept (λ bytes. Refuses c.args.start bytes why) c.in_err-found.ensures.fault)

pub returns-in_err-end-clause-moments : goal.returns-in_err-end-clause-moments
returns-in_err-end-clause-moments g c = synced_stays c.args.start (g.D.Disk.tells c.args.disk.now) (g.D.Disk.tells c.read.new.disk) (read_synced c.args.start (g.D.Disk.tells c.args.disk.now) (g.D.Disk.tells c.sync.new.self) (g.D.Disk.tells c.read.new.disk) (g.met.D.Disk.reads_an_image c.args.disk.now) c.in_ok-sync.ensures.done c.read.ensures.kept)

pub returns-clause-reads : goal.returns-clause-reads
returns-clause-reads g c =
    let found = c.in_ok-found.found in
    let bytes = c.in_ok-found.bytes in
    let end_is : c.in_ok-end.end ≡ drop (found.gate - c.args.start) bytes.items = c.in_ok-end.ensures ∙ take_rest c.deref.result.now (found.gate - c.args.start) ∙ ap (drop (found.gate - c.args.start)) c.deref.ensures.value in
    found_before c.args.start (g.D.Disk.tells c.args.disk.now) (g.D.Disk.tells c.sync.new.self) (g.D.Disk.tells c.read.new.disk) (g.met.D.Disk.reads_an_image c.args.disk.now) c.in_ok-sync.ensures.done c.read.ensures.kept found.gate found.records.items bytes.items c.in_ok-end.end c.requires c.in_ok-found.ensures.seen c.in_ok-found.ensures.found end_is

pub returns-clause-found : goal.returns-clause-found
returns-clause-found g c =
    let found = c.in_ok-found.found in
    let bytes = c.in_ok-found.bytes in
    let end_is : c.in_ok-end.end ≡ drop (found.gate - c.args.start) bytes.items = c.in_ok-end.ensures ∙ take_rest c.deref.result.now (found.gate - c.args.start) ∙ ap (drop (found.gate - c.args.start)) c.deref.ensures.value in
    found_is c.args.start (g.D.Disk.tells c.args.disk.now) (g.D.Disk.tells c.sync.new.self) (g.D.Disk.tells c.read.new.disk) (g.met.D.Disk.reads_an_image c.args.disk.now) c.in_ok-sync.ensures.done c.read.ensures.kept found.gate found.records.items bytes.items c.in_ok-end.end c.requires c.in_ok-found.ensures.seen c.in_ok-found.ensures.found end_is c.in_ok-found.ensures.room

pub returns-clause-moments : goal.returns-clause-moments
returns-clause-moments g c = synced_stays c.args.start (g.D.Disk.tells c.args.disk.now) (g.D.Disk.tells c.read.new.disk) (read_synced c.args.start (g.D.Disk.tells c.args.disk.now) (g.D.Disk.tells c.sync.new.self) (g.D.Disk.tells c.read.new.disk) (g.met.D.Disk.reads_an_image c.args.disk.now) c.in_ok-sync.ensures.done c.read.ensures.kept)

pub returns-in_err-found-clause-untouched : goal.returns-in_err-found-clause-untouched
returns-in_err-found-clause-untouched g c =
    let why = c.in_err-found.field-0.0 in
    let is : c.from_residual-in_err-found.result ≡ Err why = search rules in
    rw is (λ other. read_synced c.args.start (g.D.Disk.tells c.args.disk.now) (g.D.Disk.tells c.sync.new.self) (g.D.Disk.tells c.read.new.disk) (g.met.D.Disk.reads_an_image c.args.disk.now) c.in_ok-sync.ensures.done c.read.ensures.kept)

pub returns-in_err-end-clause-untouched : goal.returns-in_err-end-clause-untouched
returns-in_err-end-clause-untouched g c =
    let is : c.from_residual-in_err-end.result ≡ Err NoMemory = search rules in
    rw is (λ other. read_synced c.args.start (g.D.Disk.tells c.args.disk.now) (g.D.Disk.tells c.sync.new.self) (g.D.Disk.tells c.read.new.disk) (g.met.D.Disk.reads_an_image c.args.disk.now) c.in_ok-sync.ensures.done c.read.ensures.kept)
