-- The store is read, and then opened.
use Rattle.std.proofs.Common.{◌≡◌, ◌∙◌, Err, sym, subst, rules}
use Rattle.racf_profiles.specs.declared.rows.Rows.{Rows}
use Rattle.database_image.specs.Image.{AreImageOf}
use Rattle.racf_checkpoint.proofs.Turning.{loaded_first, loaded_second, back_first, back_second}
use Rattle.racf_checkpoint.proofs.store.Store.load.Goals as goal

pub returns-in_err-store-clause-first_moments : goal.returns-in_err-store-clause-first_moments
returns-in_err-store-clause-first_moments g c =
    let found = c.in_ok-found.found in
    let back = c.in_err-store.field-0.0 in
    let is : c.from_residual-in_err-store.result ≡ Err back = search rules in
    rw is (back_first g.D.Disk.tells found.side c.args.disks.first found.journal.disk found.idle back.0.first back.0.second c.in_err-store.ensures.idle c.in_ok-found.ensures.first_synced c.in_err-store.ensures.moments)

pub returns-in_err-store-clause-second_moments : goal.returns-in_err-store-clause-second_moments
returns-in_err-store-clause-second_moments g c =
    let found = c.in_ok-found.found in
    let back = c.in_err-store.field-0.0 in
    let is : c.from_residual-in_err-store.result ≡ Err back = search rules in
    rw is (back_second g.D.Disk.tells found.side c.args.disks.second found.journal.disk found.idle back.0.first back.0.second c.in_err-store.ensures.idle c.in_ok-found.ensures.second_synced c.in_err-store.ensures.moments)

pub returns-clause-first_moments : goal.returns-clause-first_moments
returns-clause-first_moments g c =
    let found = c.in_ok-found.found in
    let store = c.in_ok-store.store in
    loaded_first g.D.Disk.tells found.side store.side c.args.disks.first found.journal.disk found.idle store.journal.disk store.idle c.in_ok-store.ensures.side c.in_ok-store.ensures.idle c.in_ok-found.ensures.first_synced c.in_ok-store.ensures.moments

pub returns-clause-second_moments : goal.returns-clause-second_moments
returns-clause-second_moments g c =
    let found = c.in_ok-found.found in
    let store = c.in_ok-store.store in
    loaded_second g.D.Disk.tells found.side store.side c.args.disks.second found.journal.disk found.idle store.journal.disk store.idle c.in_ok-store.ensures.side c.in_ok-store.ensures.idle c.in_ok-found.ensures.second_synced c.in_ok-store.ensures.moments

pub returns-clause-image : goal.returns-clause-image
returns-clause-image g c =
    let lawful = c.in_ok-found.ensures.lawful in
    (lawful.image, subst (λ (r : Rows). AreImageOf lawful.image r) (sym c.in_ok-found.ensures.rows) lawful.image_is, c.start-start.ensures ∙ lawful.start)
