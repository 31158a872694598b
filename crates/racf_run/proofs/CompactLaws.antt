-- A checkpoint of the database: how writing it ends, and what it leaves.
use Rattle.std.proofs.Common.{◌≡◌, ◌≢◌, ◌+◌, ◌-◌, ◌<◌, ◌≤◌, ℕ, inl, inr, refl, sym, ◌∙◌, ap, subst}
use Rattle.std.specs.Prelude.{◌⊎◌, ◌^◌, Option}
use Rattle.racf_outside.specs.Causes.{Rose}
use Rattle.racf_outside.specs.Crashes.{StaysIn}
use Rattle.racf_outside.specs.Disk.{History}
use Rattle.racf_checkpoint.specs.declared.fault.StoreFault.{StoreFault}
use Rattle.racf_checkpoint.specs.declared.fault.StoreFault.TheVariants as fault
use Rattle.racf_checkpoint.specs.Stored.{StoreOn, Beside, NowRead, StaysPossible, pick, other, disk_on}
use Rattle.desk_rules.specs.Durable.{LeavesBoth, SaysEpoch, SaysCheckpoint, StaysThere}
use Rattle.desk_rules.specs.Executing.{SayWhatWasPossible}
use Rattle.desk_rules.specs.Position.{Position, compacted}
use Rattle.desk_rules.specs.Recovery.{StandsFor, StandsForEither}
use Rattle.desk_rules.proofs.IdleLaws.{told-pick}
use Rattle.statements.specs.declared.status.Status.{Status}
use Rattle.statements.specs.declared.status.Status.TheVariants.{Done, Usage, ReadFault, WriteFault, DiskFault, NotFormatted, Damaged, NoMemory, InputTooLong}
use Rattle.racf_run.specs.Compacting.{EndsCompact, MovesToCompact}
use Rattle.racf_run.specs.Racf.{opening_status, StoodFor, opened_on}
use Rattle.racf_run.proofs.DiskLaws.{HandsBack, opens_on, other_side}

-- ---- the statuses
-- Where a database can't be made or opened, the status is none of these.
pub record IsOfDisks (status : Status) : Type 0 where
  pub done : status ≢ Done
  pub usage : status ≢ Usage
  pub read : status ≢ ReadFault
  pub write : status ≢ WriteFault
  pub long : status ≢ InputTooLong

pub of_disks : (why : StoreFault) → IsOfDisks (opening_status why)
of_disks fault.DiskFault = record { done = λ (e : DiskFault ≡ Done). cc; usage = λ (e : DiskFault ≡ Usage). cc; read = λ (e : DiskFault ≡ ReadFault). cc; write = λ (e : DiskFault ≡ WriteFault). cc; long = λ (e : DiskFault ≡ InputTooLong). cc }
of_disks fault.NotFormatted = record { done = λ (e : NotFormatted ≡ Done). cc; usage = λ (e : NotFormatted ≡ Usage). cc; read = λ (e : NotFormatted ≡ ReadFault). cc; write = λ (e : NotFormatted ≡ WriteFault). cc; long = λ (e : NotFormatted ≡ InputTooLong). cc }
of_disks (fault.Damaged place) = record { done = λ (e : Damaged place ≡ Done). cc; usage = λ (e : Damaged place ≡ Usage). cc; read = λ (e : Damaged place ≡ ReadFault). cc; write = λ (e : Damaged place ≡ WriteFault). cc; long = λ (e : Damaged place ≡ InputTooLong). cc }
of_disks fault.Full = record { done = λ (e : NoMemory ≡ Done). cc; usage = λ (e : NoMemory ≡ Usage). cc; read = λ (e : NoMemory ≡ ReadFault). cc; write = λ (e : NoMemory ≡ WriteFault). cc; long = λ (e : NoMemory ≡ InputTooLong). cc }
of_disks fault.NoMemory = record { done = λ (e : NoMemory ≡ Done). cc; usage = λ (e : NoMemory ≡ Usage). cc; read = λ (e : NoMemory ≡ ReadFault). cc; write = λ (e : NoMemory ≡ WriteFault). cc; long = λ (e : NoMemory ≡ InputTooLong). cc }

-- `DiskFault` is that of a disk's fault.
pub of_disk_fault : (why : StoreFault) → opening_status why ≡ DiskFault → why ≡ fault.DiskFault
of_disk_fault fault.DiskFault e = refl
of_disk_fault fault.NotFormatted e = absurd (differs e)
  where
    differs : NotFormatted ≡ DiskFault → ⊥
    differs f = cc
of_disk_fault (fault.Damaged place) e = absurd (differs e)
  where
    differs : Damaged place ≡ DiskFault → ⊥
    differs f = cc
of_disk_fault fault.Full e = absurd (differs e)
  where
    differs : NoMemory ≡ DiskFault → ⊥
    differs f = cc
of_disk_fault fault.NoMemory e = absurd (differs e)
  where
    differs : NoMemory ≡ DiskFault → ⊥
    differs f = cc

-- of want of memory, where a database couldn't be made
pub of_no_memory : (why : StoreFault) → (why ≡ fault.DiskFault) ⊎ (why ≡ fault.NoMemory) → opening_status why ≡ NoMemory → why ≡ fault.NoMemory
of_no_memory why (inl is) e = absurd (differs (sym (ap opening_status is) ∙ e))
  where
    differs : DiskFault ≡ NoMemory → ⊥
    differs f = cc
of_no_memory why (inr is) e = is

pub ends_by : (why : StoreFault) → (why ≡ fault.DiskFault) ⊎ (why ≡ fault.NoMemory) → (opening_status why ≡ Done) ⊎ ((opening_status why ≡ DiskFault) ⊎ (opening_status why ≡ NoMemory))
ends_by why (inl is) = inr (inl (ap opening_status is))
ends_by why (inr is) = inr (inr (ap opening_status is))

-- a checkpoint ends with none of the others
pub no_other : (status : Status) → (status ≡ Done) ⊎ ((status ≡ DiskFault) ⊎ (status ≡ NoMemory)) → (status ≢ Usage) × (status ≢ ReadFault) × (status ≢ WriteFault) × (status ≢ InputTooLong)
no_other status (inl is) = (λ e. cc, λ e. cc, λ e. cc, λ e. cc)
no_other status (inr (inl is)) = (λ e. cc, λ e. cc, λ e. cc, λ e. cc)
no_other status (inr (inr is)) = (λ e. cc, λ e. cc, λ e. cc, λ e. cc)

pub no_other_opening : (why : StoreFault) → (opening_status why ≢ Usage) × (opening_status why ≢ ReadFault) × (opening_status why ≢ WriteFault) × (opening_status why ≢ InputTooLong)
no_other_opening why = let of = of_disks why in (of.usage, of.read, of.write, of.long)

-- ---- what it leaves
pub ends_compact : (first second next_first next_second : Option History) (status : Status) (base : Position) (epoch : ℕ)
    → (status ≡ Done) ⊎ ((status ≡ DiskFault) ⊎ (status ≡ NoMemory)) → NowRead first second (SaysEpoch epoch)
    → (status ≡ Done → epoch < 2 ^ 64 - 1 → LeavesBoth next_first next_second (SaysCheckpoint (epoch + 1) base))
    → (status ≡ Done → epoch < 2 ^ 64 - 1 → LeavesBoth next_first next_second (StandsFor (compacted base)))
    → (status ≡ Done → epoch ≡ 2 ^ 64 - 1 → LeavesBoth next_first next_second (StandsFor base))
    → (status ≡ NoMemory → LeavesBoth next_first next_second (StandsFor base))
    → EndsCompact first second next_first next_second status base
ends_compact first second next_first next_second status base epoch (inl is) was done stands last memory =
    inl (is, record { epoch = epoch; was = was; done = done is; stands = stands is; last = last is })
ends_compact first second next_first next_second status base epoch (inr (inl is)) was done stands last memory = inr (inl is)
ends_compact first second next_first next_second status base epoch (inr (inr is)) was done stands last memory = inr (inr (is, memory is))

pub compact_along : {D : Type 0} (tells : D → Option History) (first second : Option History) (store : StoreOn D) (one two : D) (base : Position)
    → StoodFor first second base → StaysPossible first (tells (pick store.side store.journal.disk store.idle)) → StaysPossible second (tells (pick store.side store.idle store.journal.disk))
    → SayWhatWasPossible first second (tells (pick store.side store.journal.disk store.idle)) (tells (pick store.side store.idle store.journal.disk))
    → StaysIn (Beside (other store.side) (tells store.journal.disk) (StandsForEither base (compacted base))) (tells store.idle) (tells (pick store.side two one))
    → pick store.side one two ≡ store.journal.disk → MovesToCompact first second (tells one) (tells two)
compact_along tells first second store one two base stood first_moments second_moments both along live =
    inr (record {
      base = base;
      stood = stood;
      opened = opened_on tells store;
      opens = opens_on tells store first second first_moments second_moments both;
      along = subst (StaysIn (Beside (other store.side) (tells store.journal.disk) (StandsForEither base (compacted base))) (tells store.idle)) (told-pick tells store.side two one) along;
      live = sym (told-pick tells store.side one two) ∙ ap tells live;
    })

-- where it was written: on the disk that didn't count
module _ {D : Type 0} (old new : StoreOn D) (one two : D) (back : HandsBack new one two) where
  pub written_along : (tells : D → Option History) (base : Position) → StaysThere tells old new base
      → StaysIn (Beside (other old.side) (tells old.journal.disk) (StandsForEither base (compacted base))) (tells old.idle) (tells (pick old.side two one))
  written_along tells base along =
      subst (λ (d : D). StaysIn (Beside (other old.side) (tells old.journal.disk) (StandsForEither base (compacted base))) (tells old.idle) (tells d)) (sym (other_side new old.side one two back)) along

  pub rose_written : (faults : D → ℕ) → Rose (faults old.idle) (faults (disk_on (other old.side) new)) → Rose (faults old.idle) (faults (pick old.side two one))
  rose_written faults rose = subst (λ (d : D). Rose (faults old.idle) (faults d)) (sym (other_side new old.side one two back)) rose

  pub no_fewer_written : (faults : D → ℕ) → faults old.idle ≤ faults (disk_on (other old.side) new) → faults old.idle ≤ faults (pick old.side two one)
  no_fewer_written faults more = subst (λ (d : D). faults old.idle ≤ faults d) (sym (other_side new old.side one two back)) more
