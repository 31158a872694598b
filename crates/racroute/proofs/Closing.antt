-- An office that is closed.
use Rattle.std.proofs.Common.{◌≡◌, ℕ, Bool, true, false, List, [], ◌∷◌, ◌++◌, Option, refl, sym, ◌∙◌, ap, subst, if◌then◌else◌}
use Rattle.std.specs.List.{All}
use Rattle.racf_outside.specs.Disk.{History}
use Rattle.checkpoint_disks.specs.declared.counting.Side.{Side}
use Rattle.checkpoint_disks.specs.declared.counting.Side.TheVariants.{First, Second}
use Rattle.racf_checkpoint.specs.Stored.{StoreOn, disk_on, pick}
use Rattle.desk_rules.specs.Durable.{IdleDisk, idle_of}
use Rattle.desk_rules.specs.Position.{Position}
use Rattle.command_history.specs.declared.events.Accepted.{Accepted}
use Rattle.command_history.specs.declared.events.Event.{Event}
use Rattle.command_history.specs.declared.events.Event.TheVariants.{Added, Ended}
use Rattle.command_history.specs.Events.{all_of, ends_last, entries_of, is_ended, Extends}
use Rattle.command_history.specs.Reached.{reached}
use Rattle.command_history.proofs.Extensions.{all_is}
use Rattle.raclist_snapshots.specs.Publishing.{Seeing, ended_with, MarkIs}
use Rattle.racroute.specs.Disks.{StandAt, StaysAlong}
use Rattle.racroute.proofs.Along.{stays_later}
use Rattle.raclist_snapshots.proofs.Marks.{ended_ends, failed_ended, entries_ended}
use Rattle.racroute.proofs.Telling.{extends_ended, reached_with}

ends_push : (events : List Event) (doubt : Option Accepted) → is_ended events ≡ false → ends_last (events ++ Ended doubt ∷ []) ≡ true
ends_push [] doubt goes = refl
ends_push (Added entry ∷ events) doubt goes = ends_push events doubt goes
ends_push (Ended named ∷ events) doubt goes = absurd (cc goes)

ends_with : (doubt : Option Accepted) (events : List Event) → ends_last events ≡ true → ends_last (ended_with doubt events) ≡ true
ends_with doubt events last = by (is_ended events) refl
  where
    by : (b : Bool) → is_ended events ≡ b → ends_last (if b then events else (events ++ Ended doubt ∷ [])) ≡ true
    by true is = last
    by false is = ends_push events doubt is

-- With the mark the history is the entries that are kept, and the mark.
pub whole : (doubt : Option Accepted) (events : List Event) (history : List Accepted) → ends_last events ≡ true → MarkIs doubt events → history ≡ entries_of events
    → all_of history doubt ≡ ended_with doubt events
whole doubt events history last mark is =
    let ended = ended_with doubt events in
    ap (λ (l : List Accepted). all_of l doubt) (is ∙ sym (entries_ended doubt events))
    ∙ (ap (λ (d : Option Accepted). all_of (entries_of ended) d) (sym (failed_ended doubt events mark))
    ∙ sym (all_is ended (ends_with doubt events last) (ended_ends doubt events)))

-- where it leads
pub led : (base : Position) (doubt : Option Accepted) (events : List Event) (history : List Accepted) → all_of history doubt ≡ ended_with doubt events
    → reached base (all_of history doubt) ≡ reached base events
led base doubt events history is = ap (reached base) is ∙ reached_with base doubt events

-- what every caller has seen begins it
pub all_begin : (doubt : Option Accepted) (events settled : List Event) (history : List Accepted) (callers : List Seeing) → all_of history doubt ≡ ended_with doubt events
    → settled ≡ ended_with doubt events → All (λ (caller : Seeing). Extends caller.events settled) callers
    → All (λ (caller : Seeing). Extends caller.events (all_of history doubt)) callers
all_begin doubt events settled history callers is end all =
    subst (λ (l : List Event). All (λ (caller : Seeing). Extends caller.events l) callers) (end ∙ sym is) all

-- what its disks keep
pub stand : {D : Type 0} (tells : D → Option History) (store : StoreOn D) (one other : D) (doubt : Option Accepted) (position behind : Position)
    → one ≡ disk_on First store → other ≡ disk_on Second store → behind ≡ position
    → StandAt doubt (tells (disk_on First store)) (tells (disk_on Second store)) position → StandAt doubt (tells one) (tells other) behind
stand tells store one other doubt position behind first second is kept = rw (first, second, is) kept

-- and what every crash left since the history began
pub stayed : {D : Type 0} (tells : D → Option History) (base : Position) (idle : IdleDisk) (live : Option History) (doubt : Option Accepted) (events : List Event) (history : List Accepted)
    (disk one : D) → all_of history doubt ≡ ended_with doubt events → one ≡ disk → StaysAlong base events idle live (tells disk)
    → StaysAlong base (all_of history doubt) idle live (tells one)
stayed {D} tells base idle live doubt events history disk one is same along =
    subst (λ (d : D). StaysAlong base (all_of history doubt) idle live (tells d)) (sym same)
    (subst (λ (l : List Event). StaysAlong base l idle live (tells disk)) (sym is)
    (stays_later base idle live events (ended_with doubt events) (tells disk) (extends_ended doubt events) along))

-- the two disks of a store, by the side of the one that counts
pub live_is : {D : Type 0} (tells : D → Option History) (store : StoreOn D) (idle : IdleDisk) (one other : D) → idle_of tells store ≡ idle
    → one ≡ disk_on First store → other ≡ disk_on Second store → pick idle.side one other ≡ store.journal.disk
live_is tells store idle one other is first second = rw (sym is, first, second) (by store.side)
  where
    by : (side : Side) → pick side (pick side store.journal.disk store.idle) (pick side store.idle store.journal.disk) ≡ store.journal.disk
    by First = refl
    by Second = refl

pub faults_are : {D : Type 0} (tells : D → Option History) (counted : D → ℕ) (store : StoreOn D) (idle : IdleDisk) (one other : D) (n : ℕ) → idle_of tells store ≡ idle
    → one ≡ disk_on First store → other ≡ disk_on Second store → counted store.idle ≡ n → counted (pick idle.side other one) ≡ n
faults_are tells counted store idle one other n is first second counts = rw (sym is, first, second) (ap counted (by store.side) ∙ counts)
  where
    by : (side : Side) → pick side (pick side store.idle store.journal.disk) (pick side store.journal.disk store.idle) ≡ store.idle
    by First = refl
    by Second = refl

pub idle_is : {D : Type 0} (tells : D → Option History) (store : StoreOn D) (idle : IdleDisk) (one other : D) → idle_of tells store ≡ idle
    → one ≡ disk_on First store → other ≡ disk_on Second store → tells (pick idle.side other one) ≡ idle.told
idle_is tells store idle one other is first second = rw (sym is, first, second) (ap tells (by store.side))
  where
    by : (side : Side) → pick side (pick side store.idle store.journal.disk) (pick side store.journal.disk store.idle) ≡ store.idle
    by First = refl
    by Second = refl
