-- Where the disks of an office stand.
use Rattle.std.proofs.Common.{◌≡◌, false, List, ℕ, Option, Some, None, sym, subst}
use Rattle.std.specs.Prelude.{is_some}
use Rattle.racf_outside.specs.Crashes.{Leaves}
use Rattle.racf_outside.specs.Disk.{History, Now}
use Rattle.checkpoint_disks.specs.declared.counting.Side.TheVariants.{First, Second}
use Rattle.racf_checkpoint.specs.Stored.{StoreOn, disk_on}
use Rattle.desk_rules.specs.declared.answers.Ready.{Ready}
use Rattle.desk_rules.specs.Durable.{SameIdle, IdleDisk, idle_of, BesideIdle, LeavesIt, StaysEither}
use Rattle.desk_rules.specs.Made.{Made, made_at, made_in, installed}
use Rattle.desk_rules.specs.Outcome.{outcome}
use Rattle.desk_rules.specs.Position.{Position}
use Rattle.desk_rules.specs.Recovery.{StandsFor, StandsForEither}
use Rattle.desk_rules.proofs.IdleLaws.{same_idle-told, leaves-both}
use Rattle.command_history.specs.declared.events.Accepted.{Accepted}
use Rattle.command_history.specs.Reached.{reached, record_of}
use Rattle.racroute.specs.Core.{Core}
use Rattle.racroute.specs.Disks.{IsInDoubt, StandAt}
use Rattle.racroute.specs.Replies.{Given}
use Rattle.racroute.proofs.Disks.{stays_now}
use Rattle.racroute.proofs.Making.{IsMadeOf}

-- where nothing is in doubt
pub at_rest : {D : Type 0} (tells : D → Option History) (store : StoreOn D) (doubt : Option Accepted) (position : Position)
    → is_some doubt ≡ false → LeavesIt tells store position
    → StandAt doubt (tells (disk_on First store)) (tells (disk_on Second store)) position
at_rest tells store None position none leaves = leaves-both tells store.side store.journal.disk store.idle (StandsFor position) leaves
at_rest tells store (Some doubt) position none leaves = absurd (cc none)

-- where a disk failed the command of this entry
pub in_doubt : {D : Type 0} (tells : D → Option History) (old now : StoreOn D) (position : Position) (given : Given) (ready : Ready) (entry : Accepted)
    → (m : IsMadeOf position.image (outcome position given.issuer given.group given.text) (made_in ready)) → record_of entry ≡ Some m.command
    → StaysEither tells old now position (installed position (made_in ready)) → SameIdle old now
    → IsInDoubt (tells (disk_on First now)) (tells (disk_on Second now)) position entry
in_doubt {D} tells old now position given ready entry m is stays same =
    let P : IdleDisk → Made → List ℕ → Type 0 = λ idle made. BesideIdle idle (StandsForEither position (installed position made)) in
    let ends : Now (tells now.journal.disk) (Leaves (P (idle_of tells old) (made_in ready))) =
    stays_now (P (idle_of tells old) (made_in ready)) (tells old.journal.disk) (tells now.journal.disk) stays in
    record {
      id = given.issuer;
      group = given.group;
      text = given.text;
      command = m.command;
      record_is = is;
      accepted = m.accepted;
      either = leaves-both tells now.side now.journal.disk now.idle (StandsForEither position (installed position (made_at position.image m.command)))
          (subst (λ (i : IdleDisk). Now (tells now.journal.disk) (Leaves (P i (made_at position.image m.command)))) (sym (same_idle-told tells old now same))
          (subst (λ (made : Made). Now (tells now.journal.disk) (Leaves (P (idle_of tells old) made))) (sym m.made_is) ends));
    }

-- where a call stays, by where the history leads
pub stays_led : {D : Type 0} (tells : D → Option History) (old new : StoreOn D) (position next from to : Position) → position ≡ from → next ≡ to
    → StaysEither tells old new position next → StaysEither tells old new from to
stays_led tells old new position next from to is leads stays = rw (sym is, sym leads) stays

-- Where an office stands, by what contracts see of it.
pub stands_now : {D : Type 0} (tells : D → Option History) (base : Position) (core seen : Core D) → core ≡ seen → core.position ≡ reached base core.events
    → StandAt core.doubt (tells (disk_on First core.store)) (tells (disk_on Second core.store)) core.position
    → StandAt seen.doubt (tells (disk_on First seen.store)) (tells (disk_on Second seen.store)) (reached base seen.events)
stands_now {D} tells base core seen is leads stand =
    subst (λ (k : Core D). StandAt k.doubt (tells (disk_on First k.store)) (tells (disk_on Second k.store)) (reached base k.events)) is
    (subst (StandAt core.doubt (tells (disk_on First core.store)) (tells (disk_on Second core.store))) leads stand)
