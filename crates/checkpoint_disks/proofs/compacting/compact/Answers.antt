-- Nothing is done where memory is short; else the bytes that are written are those of the new file.
use Rattle.std.proofs.Common.{◌≡◌, Ok}
use Rattle.checkpoint_disks.specs.Compacting.{new_file, new_checkpoint, said_beside}
use Rattle.checkpoint_disks.proofs.Compacts.{files_alone, body_then, says_alone, says_then, said_then}
use Rattle.checkpoint_disks.proofs.compacting.compact.Goals as goal

pub returns-in_err-new-clause-files : goal.returns-in_err-new-clause-files
returns-in_err-new-clause-files g c before holds =
    files_alone before (new_file c.args.epoch c.args.number c.args.rows.now) _ c.requires.idle holds

pub returns-in_err-new-clause-moments : goal.returns-in_err-new-clause-moments
returns-in_err-new-clause-moments g c side live before counts holds =
    says_alone side live before c.args.epoch (new_checkpoint c.args.epoch c.args.number c.args.rows.now) _ counts c.requires.idle holds

pub returns-in_err-write-clause-files : goal.returns-in_err-write-clause-files
returns-in_err-write-clause-files g c before holds =
    c.in_err-write.ensures.files c.args.epoch c.args.number c.args.rows.now before c.in_ok-new.ensures holds

pub returns-in_err-write-clause-moments : goal.returns-in_err-write-clause-moments
returns-in_err-write-clause-moments g c side live before counts holds =
    let made = c.in_ok-new.ensures in
    let says : said_beside side (new_file c.args.epoch c.args.number c.args.rows.now) live ≡ Ok (new_checkpoint c.args.epoch c.args.number c.args.rows.now) = c.a_new_file_says_its_checkpoint.ensures.beside side live before c.args.epoch c.args.number c.args.rows.now counts made.stored c.ranges.epoch.fits c.requires.number made.size in
    says_then side live before (new_file c.args.epoch c.args.number c.args.rows.now) c.args.epoch (new_checkpoint c.args.epoch c.args.number c.args.rows.now) _ _ counts says (c.in_err-write.ensures.files c.args.epoch c.args.number c.args.rows.now before made holds)

pub returns-clause-files : goal.returns-clause-files
returns-clause-files g c before holds =
    c.write.ensures.files c.args.epoch c.args.number c.args.rows.now before c.in_ok-new.ensures holds

pub returns-clause-moments : goal.returns-clause-moments
returns-clause-moments g c side live before counts holds =
    let made = c.in_ok-new.ensures in
    let says : said_beside side (new_file c.args.epoch c.args.number c.args.rows.now) live ≡ Ok (new_checkpoint c.args.epoch c.args.number c.args.rows.now) = c.a_new_file_says_its_checkpoint.ensures.beside side live before c.args.epoch c.args.number c.args.rows.now counts made.stored c.ranges.epoch.fits c.requires.number made.size in
    says_then side live before (new_file c.args.epoch c.args.number c.args.rows.now) c.args.epoch (new_checkpoint c.args.epoch c.args.number c.args.rows.now) _ _ counts says (c.write.ensures.files c.args.epoch c.args.number c.args.rows.now before made holds)

pub returns-clause-done : goal.returns-clause-done
returns-clause-done g c = c.in_ok-write.ensures.done c.args.epoch c.args.number c.args.rows.now c.in_ok-new.ensures

pub returns-clause-counts : goal.returns-clause-counts
returns-clause-counts g c side live before counts =
    let made = c.in_ok-new.ensures in
    let says : said_beside side (new_file c.args.epoch c.args.number c.args.rows.now) live ≡ Ok (new_checkpoint c.args.epoch c.args.number c.args.rows.now) = c.a_new_file_says_its_checkpoint.ensures.beside side live before c.args.epoch c.args.number c.args.rows.now counts made.stored c.ranges.epoch.fits c.requires.number made.size in
    said_then side live (new_file c.args.epoch c.args.number c.args.rows.now) (new_checkpoint c.args.epoch c.args.number c.args.rows.now) _ says (c.in_ok-write.ensures.done c.args.epoch c.args.number c.args.rows.now made)

pub returns-in_err-new-clause-body : goal.returns-in_err-new-clause-body
returns-in_err-new-clause-body g c before holds long closed =
    let made = new_file c.args.epoch c.args.number c.args.rows.now in
    body_then before made _ _ c.an_open_head_has_its_body.ensures long closed (files_alone before made _ c.requires.idle holds)

pub returns-in_err-write-clause-body : goal.returns-in_err-write-clause-body
returns-in_err-write-clause-body g c before holds long closed =
    body_then before (new_file c.args.epoch c.args.number c.args.rows.now) _ _ c.an_open_head_has_its_body.ensures long closed
    (c.in_err-write.ensures.files c.args.epoch c.args.number c.args.rows.now before c.in_ok-new.ensures holds)

pub returns-clause-body : goal.returns-clause-body
returns-clause-body g c before holds long closed =
    body_then before (new_file c.args.epoch c.args.number c.args.rows.now) _ _ c.an_open_head_has_its_body.ensures long closed
    (c.write.ensures.files c.args.epoch c.args.number c.args.rows.now before c.in_ok-new.ensures holds)
