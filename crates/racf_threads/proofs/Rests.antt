-- Disks of a desk with which nothing was done.
use Rattle.std.proofs.Common.{◌≡◌, [], refl, sym, ◌∙◌, ap, subst}
use Rattle.std.specs.Prelude.{Option, None}
use Rattle.racf_outside.specs.Disk.{History}
use Rattle.checkpoint_disks.specs.declared.counting.Side.TheVariants.{First, Second}
use Rattle.racf_checkpoint.specs.Stored.{StoreOn, disk_on, pick}
use Rattle.desk_rules.specs.Durable.{idle_of, LeavesIt}
use Rattle.desk_rules.specs.Position.{Position}
use Rattle.desk_rules.specs.Recovery.{StandsFor}
use Rattle.desk_rules.proofs.IdleLaws.{leaves-both}
use Rattle.command_history.specs.Events.{all_of}
use Rattle.command_history.specs.Reached.{reached}
use Rattle.command_history.proofs.Leading.{reached_ended, reached_none}
use Rattle.racroute.specs.Disks.{StandAt, StaysAlong}
use Rattle.racroute.proofs.Along.{stays_begun}
use Rattle.racroute.proofs.Closing.{live_is}

stays : (position : Position) → reached position (all_of [] None) ≡ position
stays position = reached_ended position [] None ∙ reached_none position

pub rests : {D : Type 0} (tells : D → Option History) (store : StoreOn D) (one other : D) (position : Position) → one ≡ disk_on First store → other ≡ disk_on Second store → LeavesIt tells store position
    → StandAt None (tells one) (tells other) (reached position (all_of [] None))
rests tells store one other position first second rest =
    rw (first, second, stays position) (leaves-both tells store.side store.journal.disk store.idle (StandsFor position) rest)

-- and at every moment of that
pub rested : {D : Type 0} (tells : D → Option History) (store : StoreOn D) (one other : D) (position : Position) → one ≡ disk_on First store → other ≡ disk_on Second store → LeavesIt tells store position
    → StaysAlong position (all_of [] None) (idle_of tells store) (tells store.journal.disk) (tells (pick store.side one other))
rested tells store one other position first second rest =
    subst (λ (h : Option History). StaysAlong position (all_of [] None) (idle_of tells store) (tells store.journal.disk) h)
    (sym (ap tells (live_is tells store (idle_of tells store) one other refl first second)))
    (stays_begun position (idle_of tells store) (tells store.journal.disk) tells store position (all_of [] None) rest (stays position) refl refl)
