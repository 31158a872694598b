-- A checkpoint is written on the disk that doesn't count, and counts from then on.
use Rattle.std.proofs.Common.{ℕ, ◌+◌, ◌<◌, ◌^◌, ◌≡◌, true, refl, subst, arith, rules}
use Rattle.racf_outside.specs.Crashes.{StaysIn}
use Rattle.checkpoint_disks.specs.Files.{head_is_open}
use Rattle.checkpoint_disks.specs.Compacting.{new_file, new_checkpoint}
use Rattle.racf_checkpoint.specs.Contents.{SaysEither}
use Rattle.racf_checkpoint.specs.Stored.{StoreOn, Beside, other}
use Rattle.racf_checkpoint.proofs.Compacting.{compact_none, compact_made, ready_passed}
use Rattle.racf_checkpoint.proofs.New.{IsReadAgain, new_resting, made_lawful, made_stored}
use Rattle.racf_checkpoint.proofs.Saying.{RecordsAreRead}
use Rattle.racf_checkpoint.proofs.Turning.{stays_live, stays_idle}
use Rattle.racf_checkpoint.proofs.store.Store.compact.Goals as goal

pub returns-in_default-clause-moments : goal.returns-in_default-clause-moments
returns-in_default-clause-moments g c =
    let a = c.self.inside in
    let law : RecordsAreRead = record { says = c.records_are_read_behind_an_image.ensures.says; counts = c.records_are_read_behind_an_image.ensures.counts } in
    let store : StoreOn g.row.D.Denot = record { journal = a.journal; idle = a.idle; side = a.side; epoch = a.epoch } in
    rw (← c.self.view_is) (λ kept stores.
    stays_idle g.D.Disk.tells (Beside (other a.side) (g.D.Disk.tells a.journal.disk) (SaysEither kept (new_checkpoint (a.epoch + 1) c.args.number c.args.rows.now))) (g.D.Disk.tells a.idle) store a.side refl
    (compact_none law a.side a.epoch a.journal.start a.journal.gate kept (new_checkpoint (a.epoch + 1) c.args.number c.args.rows.now) (g.D.Disk.tells a.idle) stores.idle (g.D.Disk.tells a.journal.disk) stores.live))

pub compact-requires-clause-idle : goal.compact-requires-clause-idle
compact-requires-clause-idle g c =
    let ready = rw (← c.self.view_is) at c.requires.ready in
    λ h e. (ready.idle h e).at_rest

pub returns-in_err-start-clause-moments : goal.returns-in_err-start-clause-moments
returns-in_err-start-clause-moments g c =
    let a = c.self.inside in
    let law : RecordsAreRead = record { says = c.records_are_read_behind_an_image.ensures.says; counts = c.records_are_read_behind_an_image.ensures.counts } in
    let above : c.in-Some.epoch ≡ c.self.inside.epoch + 1 = search rules in
    let store : StoreOn g.row.D.Denot = record { journal = a.journal; idle = c.compact.new.idle; side = a.side; epoch = a.epoch } in
    rw (← c.self.view_is) (λ kept stores.
    stays_idle g.D.Disk.tells (Beside (other a.side) (g.D.Disk.tells a.journal.disk) (SaysEither kept (new_checkpoint (a.epoch + 1) c.args.number c.args.rows.now))) (g.D.Disk.tells a.idle) store a.side refl
    (compact_made law a.side a.epoch c.in-Some.epoch a.journal.start a.journal.gate c.args.number c.args.rows.now kept above (g.D.Disk.tells a.idle) (g.D.Disk.tells c.compact.new.idle) (g.D.Disk.tells a.journal.disk) stores.idle c.compact.ensures.files c.compact.ensures.moments stores.live))

pub turn-requires : goal.turn-requires
turn-requires g c =
    record { rest = new_resting c.in-Some.epoch c.args.number c.in_ok-start.start c.args.rows.now (g.D.Disk.tells c.compact.new.idle) c.in_ok-start.ensures.start c.in_ok-start.ensures.done }

pub returns-clause-lawful : goal.returns-clause-lawful
returns-clause-lawful g c =
    let stored = c.in_ok-start.ensures.stored in
    let again : IsReadAgain c.args.rows.now = record { stored = stored; image_is = c.images_are_of_rows.ensures.own c.args.rows.now stored; read_as = c.images_are_of_rows.ensures.only c.args.rows.now stored } in
    let above : c.in-Some.epoch ≡ c.self.inside.epoch + 1 = search rules in
    let fits : c.in-Some.epoch < 2 ^ 64 = omega arith in
    rw (← c.self.view_is) (λ below.
    made_lawful c.self.inside.epoch c.in-Some.epoch c.args.number c.args.rows.now above fits c.in_ok-start.ensures.fits c.requires.number again)

pub returns-clause-done : goal.returns-clause-done
returns-clause-done g c =
    let stored = c.in_ok-start.ensures.stored in
    let again : IsReadAgain c.args.rows.now = record { stored = stored; image_is = c.images_are_of_rows.ensures.own c.args.rows.now stored; read_as = c.images_are_of_rows.ensures.only c.args.rows.now stored } in
    let a = c.self.inside in
    let law : RecordsAreRead = record { says = c.records_are_read_behind_an_image.ensures.says; counts = c.records_are_read_behind_an_image.ensures.counts } in
    let above : c.in-Some.epoch ≡ c.self.inside.epoch + 1 = search rules in
    let fits : c.in-Some.epoch < 2 ^ 64 = omega arith in
    let ready = rw (← c.self.view_is) at c.requires.ready in
    rw (← c.self.view_is, c.turn.ensures) (λ below. record {
      live = made_stored a.epoch c.in-Some.epoch c.in_ok-start.start c.args.number c.args.rows.now (g.D.Disk.tells c.compact.new.idle) above fits c.in_ok-start.ensures.fits c.requires.number again c.in_ok-start.ensures.start c.in_ok-start.ensures.done;
      idle = ready_passed law a.side a.epoch a.journal.start a.journal.gate c.in-Some.epoch (g.D.Disk.tells a.journal.disk) above ready.live;
    })

pub returns-clause-moments : goal.returns-clause-moments
returns-clause-moments g c =
    let a = c.self.inside in
    let law : RecordsAreRead = record { says = c.records_are_read_behind_an_image.ensures.says; counts = c.records_are_read_behind_an_image.ensures.counts } in
    let above : c.in-Some.epoch ≡ c.self.inside.epoch + 1 = search rules in
    let store : StoreOn g.row.D.Denot = record { journal = record { disk = c.compact.new.idle; start = c.in_ok-start.start; gate = c.in_ok-start.start }; idle = a.journal.disk; side = other a.side; epoch = c.in-Some.epoch } in
    rw (← c.self.view_is, c.turn.ensures) (λ kept stores.
    stays_live g.D.Disk.tells (Beside (other a.side) (g.D.Disk.tells a.journal.disk) (SaysEither kept (new_checkpoint (a.epoch + 1) c.args.number c.args.rows.now))) (g.D.Disk.tells a.idle) store (other a.side) refl
    (compact_made law a.side a.epoch c.in-Some.epoch a.journal.start a.journal.gate c.args.number c.args.rows.now kept above (g.D.Disk.tells a.idle) (g.D.Disk.tells c.compact.new.idle) (g.D.Disk.tells a.journal.disk) stores.idle c.compact.ensures.files c.compact.ensures.moments stores.live))

pub returns-clause-ready : goal.returns-clause-ready
returns-clause-ready g c =
    let stored = c.in_ok-start.ensures.stored in
    let again : IsReadAgain c.args.rows.now = record { stored = stored; image_is = c.images_are_of_rows.ensures.own c.args.rows.now stored; read_as = c.images_are_of_rows.ensures.only c.args.rows.now stored } in
    let a = c.self.inside in
    let law : RecordsAreRead = record { says = c.records_are_read_behind_an_image.ensures.says; counts = c.records_are_read_behind_an_image.ensures.counts } in
    let above : c.in-Some.epoch ≡ c.self.inside.epoch + 1 = search rules in
    let fits : c.in-Some.epoch < 2 ^ 64 = omega arith in
    let ready = rw (← c.self.view_is) at c.requires.ready in
    rw c.turn.ensures (record {
      live = λ h e. (new_checkpoint (a.epoch + 1) c.args.number c.args.rows.now, made_stored a.epoch c.in-Some.epoch c.in_ok-start.start c.args.number c.args.rows.now (g.D.Disk.tells c.compact.new.idle) above fits c.in_ok-start.ensures.fits c.requires.number again c.in_ok-start.ensures.start c.in_ok-start.ensures.done h e);
      idle = ready_passed law a.side a.epoch a.journal.start a.journal.gate c.in-Some.epoch (g.D.Disk.tells a.journal.disk) above ready.live;
    })

pub returns-in_err-start-clause-body : goal.returns-in_err-start-clause-body
returns-in_err-start-clause-body g c =
    let a = c.self.inside in
    let above : c.in-Some.epoch ≡ c.self.inside.epoch + 1 = search rules in
    let store : StoreOn g.row.D.Denot = record { journal = a.journal; idle = c.compact.new.idle; side = a.side; epoch = a.epoch } in
    rw (← c.self.view_is) (λ before holds long closed below.
    stays_idle g.D.Disk.tells (λ file. head_is_open file ≡ true → file ≡ new_file (a.epoch + 1) c.args.number c.args.rows.now) (g.D.Disk.tells a.idle) store a.side refl
    (subst (λ (n : ℕ). StaysIn (λ file. head_is_open file ≡ true → file ≡ new_file n c.args.number c.args.rows.now) (g.D.Disk.tells a.idle) (g.D.Disk.tells c.compact.new.idle)) above
    (c.compact.ensures.body before holds long closed)))

pub returns-clause-body : goal.returns-clause-body
returns-clause-body g c =
    let a = c.self.inside in
    let above : c.in-Some.epoch ≡ c.self.inside.epoch + 1 = search rules in
    let store : StoreOn g.row.D.Denot = record { journal = record { disk = c.compact.new.idle; start = c.in_ok-start.start; gate = c.in_ok-start.start }; idle = a.journal.disk; side = other a.side; epoch = c.in-Some.epoch } in
    rw (← c.self.view_is, c.turn.ensures) (λ before holds long closed below.
    stays_live g.D.Disk.tells (λ file. head_is_open file ≡ true → file ≡ new_file (a.epoch + 1) c.args.number c.args.rows.now) (g.D.Disk.tells a.idle) store (other a.side) refl
    (subst (λ (n : ℕ). StaysIn (λ file. head_is_open file ≡ true → file ≡ new_file n c.args.number c.args.rows.now) (g.D.Disk.tells a.idle) (g.D.Disk.tells c.compact.new.idle)) above
    (c.compact.ensures.body before holds long closed)))

pub returns-clause-passed : goal.returns-clause-passed
returns-clause-passed g c = rw (← c.self.view_is, c.turn.ensures) (λ below kept stores. stores.live)
