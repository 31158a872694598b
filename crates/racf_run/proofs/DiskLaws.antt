-- Two disks, of which one counts: where a store hands them back, and what they leave and count in their order.
use Rattle.std.proofs.Common.{◌≡◌, ◌≤◌, ℕ, false, List, inl, inr, sym, ◌∙◌, ap, subst, arith, true}
use Rattle.std.specs.Prelude.{Option}
use Rattle.racf_outside.specs.Causes.{Rose}
use Rattle.racf_outside.specs.Crashes.{Leaves, StaysIn}
use Rattle.racf_outside.specs.Disk.{History, Now}
use Rattle.racf_outside.proofs.Rises.{Rose-later}
use Rattle.checkpoint_disks.specs.declared.counting.Side.{Side}
use Rattle.checkpoint_disks.specs.declared.counting.Side.TheVariants.{First, Second}
use Rattle.racf_checkpoint.specs.Stored.{StoreOn, StaysPossible, pick, other, disk_on}
use Rattle.desk_rules.specs.Durable.{SameIdle, idle_of, BesideIdle, LeavesBoth, LeavesIt}
use Rattle.desk_rules.specs.Executing.{SayWhatWasPossible}
use Rattle.desk_rules.specs.Made.{DeskOn}
use Rattle.desk_rules.specs.Position.{Position}
use Rattle.desk_rules.specs.Recovery.{StandsFor, StandsForEither}
use Rattle.desk_rules.proofs.IdleLaws.{leaves-both, told-pick}
use Rattle.statements.specs.declared.issuer.Issuing.{Issuing}
use Rattle.racf_stream.specs.Durable.{StandsForFront, most_left_of}
use Rattle.racf_stream.specs.Stream.{State}
use Rattle.racf_run.specs.Racf.{EndsAt, EndsOn, OpensOn, StandsStill, RoseEither, opened_on}

-- A store hands these two disks back.
pub record HandsBack {D : Type 0} (store : StoreOn D) (one two : D) : Type 0 where
  pub first : one ≡ disk_on First store
  pub second : two ≡ disk_on Second store

-- ---- what they tell
-- of two disks in their order, the one that counts and the other
in_order : {D X : Type 0} (f : D → X) (side : Side) (live idle one two : D) → one ≡ pick side live idle → two ≡ pick side idle live
    → (pick side (f one) (f two) ≡ f live) × (pick side (f two) (f one) ≡ f idle)
in_order f First live idle one two first second = (ap f first, ap f second)
in_order f Second live idle one two first second = (ap f second, ap f first)

pub live_told : {D X : Type 0} (f : D → X) (store : StoreOn D) (one two : D) → HandsBack store one two → pick store.side (f one) (f two) ≡ f store.journal.disk
live_told f store one two back = (in_order f store.side store.journal.disk store.idle one two back.first back.second).0

pub idle_told : {D X : Type 0} (f : D → X) (store : StoreOn D) (one two : D) → HandsBack store one two → pick store.side (f two) (f one) ≡ f store.idle
idle_told f store one two back = (in_order f store.side store.journal.disk store.idle one two back.first back.second).1

-- by a side: the disk on it, and the other one
on_side : {D : Type 0} (store : StoreOn D) (side : Side) (one two : D) → one ≡ disk_on First store → two ≡ disk_on Second store
    → (pick side one two ≡ disk_on side store) × (pick side two one ≡ disk_on (other side) store)
on_side store First one two first second = (first, second)
on_side store Second one two first second = (second, first)

pub this_side : {D : Type 0} (store : StoreOn D) (side : Side) (one two : D) → HandsBack store one two → pick side one two ≡ disk_on side store
this_side store side one two back = (on_side store side one two back.first back.second).0

pub other_side : {D : Type 0} (store : StoreOn D) (side : Side) (one two : D) → HandsBack store one two → pick side two one ≡ disk_on (other side) store
other_side store side one two back = (on_side store side one two back.first back.second).1

-- ---- what they leave
-- what a crash leaves of a store's disks it leaves of the disks that are handed back
pub both_leave : {D : Type 0} (tells : D → Option History) (store : StoreOn D) (one two : D) (P : (first second : List ℕ) → Type 0) → HandsBack store one two
    → Now (tells store.journal.disk) (Leaves (BesideIdle (idle_of tells store) P)) → LeavesBoth (tells one) (tells two) P
both_leave {D = D} tells store one two P back leaves =
    subst (λ (d : D). LeavesBoth (tells d) (tells two) P) (sym back.first)
    (subst (λ (d : D). LeavesBoth (tells (disk_on First store)) (tells d) P) (sym back.second)
    (leaves-both tells store.side store.journal.disk store.idle P leaves))

pub ends_on : {D : Type 0} (tells : D → Option History) (issuing : Issuing) (base : Position) (input : Option (List ℕ)) (start : StoreOn D) (desk : DeskOn D) (one two : D) → HandsBack desk.store one two → SameIdle start desk.store
    → (rose : Type 0) → (desk.halted ≡ true → rose) → (s : State) → EndsAt tells issuing base input start desk s → EndsOn issuing base input (opened_on tells start) (tells one) (tells two) rose s
ends_on tells issuing base input start desk one two back same rose fault s ends =
    record {
      leaves = λ running. both_leave tells desk.store one two (StandsFor s.position) back (ends.leaves running);
      in_doubt = λ halts.
          let doubt = ends.in_doubt halts in
          record { next = doubt.next; in_doubt = doubt.in_doubt; leaves = both_leave tells desk.store one two (StandsForEither s.position doubt.next) back doubt.leaves };
      fault = λ halts. fault (ends.stands.halted ∙ halts);
      moments =
          subst (StaysIn (BesideIdle (idle_of tells start) (StandsForFront issuing base input (most_left_of s))) (tells start.journal.disk))
          (sym (ap (λ side. pick side (tells one) (tells two)) (sym same.side) ∙ live_told tells desk.store one two back)) ends.moments;
      idle = ap (λ side. pick side (tells two) (tells one)) (sym same.side) ∙ idle_told tells desk.store one two back ∙ ap tells same.idle;
    }

-- and where nothing was run, all is as it was opened
pub stands_still : {D : Type 0} (tells : D → Option History) (desk : DeskOn D) (one two : D) → HandsBack desk.store one two → LeavesIt tells desk.store desk.position
    → StandsStill (opened_on tells desk.store) (tells one) (tells two) desk.position
stands_still tells desk one two back leaves =
    record {
      stand = both_leave tells desk.store one two (StandsFor desk.position) back leaves;
      first_is = ap tells back.first ∙ told-pick tells desk.store.side desk.store.journal.disk desk.store.idle;
      second_is = ap tells back.second ∙ told-pick tells desk.store.side desk.store.idle desk.store.journal.disk;
    }

-- where a database was opened
pub opens_on : {D : Type 0} (tells : D → Option History) (store : StoreOn D) (first second : Option History)
    → StaysPossible first (tells (pick store.side store.journal.disk store.idle)) → StaysPossible second (tells (pick store.side store.idle store.journal.disk))
    → SayWhatWasPossible first second (tells (pick store.side store.journal.disk store.idle)) (tells (pick store.side store.idle store.journal.disk)) → OpensOn first second (opened_on tells store)
opens_on tells store first second one two both =
    record {
      first_moments = subst (StaysPossible first) (told-pick tells store.side store.journal.disk store.idle) one;
      second_moments = subst (StaysPossible second) (told-pick tells store.side store.idle store.journal.disk) two;
      joint =
          subst (λ (now : Option History). SayWhatWasPossible first second (pick store.side (tells store.journal.disk) (tells store.idle)) now) (told-pick tells store.side store.idle store.journal.disk)
          (subst (λ (now : Option History). SayWhatWasPossible first second now (tells (pick store.side store.idle store.journal.disk))) (told-pick tells store.side store.journal.disk store.idle) both);
    }

-- ---- what they count
module _ {D : Type 0} (faults : D → ℕ) where
  -- a fault of the one that counts, or of the other, is one of the two
  pub rose_live : (side : Side) (live idle one two : D) → Rose (faults live) (faults (pick side one two)) → RoseEither (faults (pick side live idle)) (faults one) (faults (pick side idle live)) (faults two)
  rose_live First live idle one two rose = inl rose
  rose_live Second live idle one two rose = inr rose

  pub rose_idle : (side : Side) (live idle one two : D) → Rose (faults idle) (faults (pick side two one)) → RoseEither (faults (pick side live idle)) (faults one) (faults (pick side idle live)) (faults two)
  rose_idle First live idle one two rose = inr rose
  rose_idle Second live idle one two rose = inl rose

  -- none has fewer
  pub no_fewer : (side : Side) (live idle one two : D) → faults live ≤ faults (pick side one two) → faults idle ≤ faults (pick side two one)
      → (faults (pick side live idle) ≤ faults one) × (faults (pick side idle live) ≤ faults two)
  no_fewer First live idle one two of_live of_idle = (of_live, of_idle)
  no_fewer Second live idle one two of_live of_idle = (of_idle, of_live)

  -- behind a run along which the other disk stayed
  module _ (old new : StoreOn D) (one two : D) (back : HandsBack new one two) (same : SameIdle old new) where
    here : pick old.side one two ≡ new.journal.disk
    here = ap (λ side. pick side one two) (sym same.side) ∙ live_told (λ d. d) new one two back

    there : pick old.side two one ≡ old.idle
    there = ap (λ side. pick side two one) (sym same.side) ∙ idle_told (λ d. d) new one two back ∙ same.idle

    pub rose_along : Rose (faults old.journal.disk) (faults new.journal.disk) → RoseEither (faults (disk_on First old)) (faults one) (faults (disk_on Second old)) (faults two)
    rose_along rose = rose_live old.side old.journal.disk old.idle one two (subst (λ (d : D). Rose (faults old.journal.disk) (faults d)) (sym here) rose)

    pub no_fewer_along : faults old.journal.disk ≤ faults new.journal.disk → (faults (disk_on First old) ≤ faults one) × (faults (disk_on Second old) ≤ faults two)
    no_fewer_along more =
        no_fewer old.side old.journal.disk old.idle one two
        (subst (λ (d : D). faults old.journal.disk ≤ faults d) (sym here) more)
        (subst (λ (d : D). faults old.idle ≤ faults d) (sym there) (omega arith))

-- the same disk counts the same
pub same_count : {D : Type 0} (faults : D → ℕ) (one two : D) → one ≡ two → faults one ≤ faults two
same_count faults one two is = let e : faults one ≡ faults two = ap faults is in omega arith

-- counted from before on
pub either_later : (a b c d e f : ℕ) → a ≤ b → d ≤ e → RoseEither b c e f → RoseEither a c d f
either_later a b c d e f first second (inl rose) = inl (Rose-later a b c first rose)
either_later a b c d e f first second (inr rose) = inr (Rose-later d e f second rose)
