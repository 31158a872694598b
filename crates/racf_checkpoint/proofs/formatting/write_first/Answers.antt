-- The checkpoint is that of a new database, behind two files that were made bare.
use Rattle.std.proofs.Common.{◌+◌, ◌≡◌, [], ◌∷◌, length, Ok, refl, ap, arith, length-append}
use Rattle.database_image.specs.Image.{image_of}
use Rattle.racf_profiles.specs.NewDatabase.{new_database}
use Rattle.checkpoint_disks.specs.Files.{contents}
use Rattle.checkpoint_disks.specs.Compacting.{new_file, new_checkpoint}
use Rattle.racf_checkpoint.proofs.New.{first_stored}
use Rattle.racf_checkpoint.proofs.Formats.{possible_bares, unchanged_bares, bared_behind, bared_formats, written_formats}
use Rattle.racf_checkpoint.proofs.NoOlder.{BaredInOrder, possible_no_older, nothing_no_older, bared_no_older, written_no_older}
use Rattle.racf_checkpoint.proofs.formatting.write_first.Goals as goal

pub returns-in_err-new-clause-first_moments : goal.returns-in_err-new-clause-first_moments
returns-in_err-new-clause-first_moments g c = bared_formats (g.D.Disk.tells c.args.first.now) _ (unchanged_bares (g.D.Disk.tells c.args.first.now) _ refl)

pub returns-in_err-new-clause-second_moments : goal.returns-in_err-new-clause-second_moments
returns-in_err-new-clause-second_moments g c = unchanged_bares (g.D.Disk.tells c.args.second.now) _ refl

pub returns-in_err-sync_both-clause-first_moments : goal.returns-in_err-sync_both-clause-first_moments
returns-in_err-sync_both-clause-first_moments g c = bared_formats (g.D.Disk.tells c.args.first.now) _ (possible_bares (g.D.Disk.tells c.args.first.now) _ c.sync_both.ensures.moments.0)

pub returns-in_err-sync_both-clause-second_moments : goal.returns-in_err-sync_both-clause-second_moments
returns-in_err-sync_both-clause-second_moments g c = possible_bares (g.D.Disk.tells c.args.second.now) _ c.sync_both.ensures.moments.1

pub returns-in_err-make_both_bare-clause-first_moments : goal.returns-in_err-make_both_bare-clause-first_moments
returns-in_err-make_both_bare-clause-first_moments g c = bared_formats (g.D.Disk.tells c.args.first.now) _ (bared_behind (g.D.Disk.tells c.args.first.now) _ _ c.in_ok-sync_both.ensures.synced.0 c.make_both_bare.ensures.first_moments)

pub returns-in_err-make_both_bare-clause-second_moments : goal.returns-in_err-make_both_bare-clause-second_moments
returns-in_err-make_both_bare-clause-second_moments g c = bared_behind (g.D.Disk.tells c.args.second.now) _ _ c.in_ok-sync_both.ensures.synced.1 c.make_both_bare.ensures.second_moments

pub returns-in_err-write-clause-first_moments : goal.returns-in_err-write-clause-first_moments
returns-in_err-write-clause-first_moments g c =
    written_formats (g.D.Disk.tells c.args.first.now) _ _ (bared_behind (g.D.Disk.tells c.args.first.now) _ _ c.in_ok-sync_both.ensures.synced.0 c.make_both_bare.ensures.first_moments) c.in_ok-make_both_bare.ensures.first_bare (λ before holds. c.write.ensures.files 1 0 new_database before c.in_ok-new.ensures holds)

pub returns-in_err-write-clause-second_moments : goal.returns-in_err-write-clause-second_moments
returns-in_err-write-clause-second_moments g c = bared_behind (g.D.Disk.tells c.args.second.now) _ _ c.in_ok-sync_both.ensures.synced.1 c.make_both_bare.ensures.second_moments

pub returns-clause-first_moments : goal.returns-clause-first_moments
returns-clause-first_moments g c =
    written_formats (g.D.Disk.tells c.args.first.now) _ _ (bared_behind (g.D.Disk.tells c.args.first.now) _ _ c.in_ok-sync_both.ensures.synced.0 c.make_both_bare.ensures.first_moments) c.in_ok-make_both_bare.ensures.first_bare (λ before holds. c.write.ensures.files 1 0 new_database before c.in_ok-new.ensures holds)

pub returns-clause-second_moments : goal.returns-clause-second_moments
returns-clause-second_moments g c = bared_behind (g.D.Disk.tells c.args.second.now) _ _ c.in_ok-sync_both.ensures.synced.1 c.make_both_bare.ensures.second_moments

pub returns-clause-stored : goal.returns-clause-stored
returns-clause-stored g c =
    let size : c.start.result ≡ 33 + length (image_of new_database) = omega (arith, c.start.ensures, ap length c.in_ok-new.ensures.image_is, length-append (image_of new_database) (0 ∷ [])) in
    first_stored c.start.result new_database (g.D.Disk.tells c.write.new.idle) c.a_new_database_is_stored.ensures.stored refl size (c.in_ok-write.ensures.done 1 0 new_database c.in_ok-new.ensures)

pub returns-clause-start : goal.returns-clause-start
returns-clause-start g c = omega (arith, c.start.ensures, ap length c.in_ok-new.ensures.image_is, length-append (image_of new_database) (0 ∷ []))

pub returns-in_err-new-clause-joint : goal.returns-in_err-new-clause-joint
returns-in_err-new-clause-joint g c = nothing_no_older (g.D.Disk.tells c.args.first.now) (g.D.Disk.tells c.args.second.now)

pub returns-in_err-sync_both-clause-joint : goal.returns-in_err-sync_both-clause-joint
returns-in_err-sync_both-clause-joint g c =
    possible_no_older (g.D.Disk.tells c.args.first.now) (g.D.Disk.tells c.args.second.now) _ _ c.sync_both.ensures.moments.0 c.sync_both.ensures.moments.1

pub returns-in_err-make_both_bare-clause-joint : goal.returns-in_err-make_both_bare-clause-joint
returns-in_err-make_both_bare-clause-joint g c =
    let synced = c.in_ok-sync_both.ensures.synced in
    let law : BaredInOrder = record { one = c.bared_in_order_they_say_nothing_else.ensures.one; other = c.bared_in_order_they_say_nothing_else.ensures.other } in
    let bared = c.make_both_bare.ensures in
    bared_no_older law (g.D.Disk.tells c.args.first.now) _ _ (g.D.Disk.tells c.args.second.now) _ _ synced.0 synced.1 bared.order bared.first_moments bared.second_moments

pub returns-in_err-write-clause-joint : goal.returns-in_err-write-clause-joint
returns-in_err-write-clause-joint g c =
    let made = c.in_ok-new.ensures in
    let bared = c.in_ok-make_both_bare.ensures in
    let says : contents (new_file 1 0 new_database) ≡ Ok (new_checkpoint 1 0 new_database) = c.a_new_file_says_its_checkpoint.ensures.alone 1 0 new_database made.stored (omega arith) (omega arith) (omega arith) made.size in
    written_no_older says (g.D.Disk.tells c.args.first.now) _ _ (g.D.Disk.tells c.args.second.now) _ bared.first_bare bared.second_bare (λ before holds. c.write.ensures.files 1 0 new_database before made holds)

pub returns-clause-joint : goal.returns-clause-joint
returns-clause-joint g c =
    let made = c.in_ok-new.ensures in
    let bared = c.in_ok-make_both_bare.ensures in
    let says : contents (new_file 1 0 new_database) ≡ Ok (new_checkpoint 1 0 new_database) = c.a_new_file_says_its_checkpoint.ensures.alone 1 0 new_database made.stored (omega arith) (omega arith) (omega arith) made.size in
    written_no_older says (g.D.Disk.tells c.args.first.now) _ _ (g.D.Disk.tells c.args.second.now) _ bared.first_bare bared.second_bare (λ before holds. c.write.ensures.files 1 0 new_database before made holds)
