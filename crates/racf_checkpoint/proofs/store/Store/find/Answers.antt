-- The disks of what was found are those that were read, and its places lie in the file that was read.
use Rattle.std.proofs.Common.{◌+◌, ◌<◌, ◌^◌, length, sym, ap, subst}
use Rattle.racf_journal.specs.Reading.{spelled}
use Rattle.checkpoint_disks.specs.Files.{CheckpointRead}
use Rattle.checkpoint_disks.specs.Counting.{as_read}
use Rattle.racf_checkpoint.specs.Contents.{as_stored, Says}
use Rattle.racf_checkpoint.specs.Stored.{NowRead}
use Rattle.racf_checkpoint.proofs.Finding.{both_before, seen_says, seen_room}
use Rattle.racf_checkpoint.proofs.Turning.{found_first, found_second}
use Rattle.racf_checkpoint.proofs.store.Store.find.Goals as goal

pub returns-in-Ok-clause-first_moments : goal.returns-in-Ok-clause-first_moments
returns-in-Ok-clause-first_moments g c =
    found_first g.D.Disk.tells (g.D.Disk.tells c.args.disks.first) c.in-Ok.seen.side c.of.result.0.side c.read_disks.new.first c.read_disks.new.second c.of.result.0.journal.disk c.of.result.0.idle c.of.ensures.side c.of.ensures.live c.of.ensures.idle c.read_disks.ensures.moments.0

pub returns-in-Ok-clause-second_moments : goal.returns-in-Ok-clause-second_moments
returns-in-Ok-clause-second_moments g c =
    found_second g.D.Disk.tells (g.D.Disk.tells c.args.disks.second) c.in-Ok.seen.side c.of.result.0.side c.read_disks.new.first c.read_disks.new.second c.of.result.0.journal.disk c.of.result.0.idle c.of.ensures.side c.of.ensures.live c.of.ensures.idle c.read_disks.ensures.moments.1

pub returns-in-Ok-clause-says : goal.returns-in-Ok-clause-says
returns-in-Ok-clause-says g c =
    let kept = as_read c.in-Ok.seen.checkpoint in
    let both = c.in-Ok.ensures.synced in
    subst (λ (read : CheckpointRead). NowRead (g.D.Disk.tells c.args.disks.first) (g.D.Disk.tells c.args.disks.second) (Says read)) (sym c.of.ensures.found)
    (both_before (g.D.Disk.tells c.args.disks.first) (g.D.Disk.tells c.read_disks.new.first) (g.D.Disk.tells c.args.disks.second) (g.D.Disk.tells c.read_disks.new.second) (Says kept) both.0 both.1
    (λ h e k f. ap as_stored (seen_says (g.D.Disk.tells c.read_disks.new.first) (g.D.Disk.tells c.read_disks.new.second) c.in-Ok.seen.side kept c.in-Ok.seen.end c.in-Ok.ensures.seen h e k f)))

pub returns-in-Ok-clause-room : goal.returns-in-Ok-clause-room
returns-in-Ok-clause-room g c =
    subst (λ (read : CheckpointRead). read.start + length (spelled read.records) < 2 ^ 64) (sym c.of.ensures.found) (seen_room _ _ c.in-Ok.seen.side (as_read c.in-Ok.seen.checkpoint) c.in-Ok.seen.end c.in-Ok.ensures.seen)
