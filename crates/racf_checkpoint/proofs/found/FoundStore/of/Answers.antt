-- The journal is found on the disk that counts.
use Rattle.checkpoint_disks.specs.Counting.{as_read}
use Rattle.racf_checkpoint.proofs.Turning.{picked_found, picked_read}
use Rattle.racf_checkpoint.proofs.found.FoundStore.of.Goals as goal

pub behind-requires : goal.behind-requires
behind-requires g c =
    picked_found g.D.Disk.tells c.args.seen.side c.args.first c.args.second c.by_role-live.result.0 (as_read c.args.seen.checkpoint) c.args.seen.end c.by_role-live.ensures.live c.requires

pub invariant_of-found : goal.invariant_of-found
invariant_of-found g c =
    rw (c.behind.ensures, c.of.ensures)
    (picked_read g.D.Disk.tells c.args.seen.side c.args.first c.args.second c.by_role-live.result.0 c.by_role-live.result.1 (as_read c.args.seen.checkpoint) c.args.seen.end c.by_role-live.ensures.live c.by_role-live.ensures.idle c.requires)
