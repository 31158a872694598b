-- The disk that doesn't count, from one store to the next.
use Rattle.std.proofs.Common.{◌≡◌, ◌∙◌, List, ℕ, refl, ap}
use Rattle.std.specs.Prelude.{Option}
use Rattle.racf_outside.specs.Crashes.{Leaves}
use Rattle.racf_outside.specs.Disk.{History, Now}
use Rattle.racf_outside.proofs.Runs.{Leaves-weaker}
use Rattle.checkpoint_disks.specs.Compacting.{first_of, second_of}
use Rattle.checkpoint_disks.specs.declared.counting.Side.{Side}
use Rattle.checkpoint_disks.specs.declared.counting.Side.TheVariants.{First, Second}
use Rattle.racf_checkpoint.specs.Stored.{StoreOn, pick}
use Rattle.desk_rules.specs.Durable.{SameIdle, IdleDisk, idle_of, BesideIdle, LeavesBoth}

-- of the same store, and of one behind another
pub same_idle : {D : Type 0} (old new : StoreOn D) → new ≡ old → SameIdle old new
same_idle old new is = record { side = ap (λ store. store.side) is; idle = ap (λ store. store.idle) is; epoch = ap (λ store. store.epoch) is }

pub same_idle-then : {D : Type 0} (first old new : StoreOn D) → SameIdle first old → SameIdle old new → SameIdle first new
same_idle-then first old new before now = record { side = now.side ∙ before.side; idle = now.idle ∙ before.idle; epoch = now.epoch ∙ before.epoch }

-- what is told of it is the same
pub same_idle-told : {D : Type 0} (tells : D → Option History) (old new : StoreOn D) → SameIdle old new → idle_of tells new ≡ idle_of tells old
same_idle-told tells old new same = rw (same.side, same.idle) refl

-- beside it
pub beside-weaker : (idle : IdleDisk) (P Q : (first second : List ℕ) → Type 0) → ((first second : List ℕ) → P first second → Q first second)
    → (file : List ℕ) → BesideIdle idle P file → BesideIdle idle Q file
beside-weaker idle P Q weaker file p history told =
    Leaves-weaker (λ image. P (first_of idle.side file image) (second_of idle.side file image)) (λ image. Q (first_of idle.side file image) (second_of idle.side file image)) history.now
    (λ image. weaker (first_of idle.side file image) (second_of idle.side file image)) (p history told)

-- what both leave, in their order
pub leaves-both : {D : Type 0} (tells : D → Option History) (side : Side) (live idle : D) (P : (first second : List ℕ) → Type 0)
    → Now (tells live) (Leaves (BesideIdle (record { side = side; told = tells idle }) P)) → LeavesBoth (tells (pick side live idle)) (tells (pick side idle live)) P
leaves-both tells First live idle P leaves = leaves
leaves-both tells Second live idle P leaves = λ h told. record { each = λ one i. λ k also. record { each = λ other j. ((leaves k also).each other j h told).each one i } }

-- what is told of the one of two disks
pub told-pick : {D X : Type 0} (tells : D → X) (side : Side) (first second : D) → tells (pick side first second) ≡ pick side (tells first) (tells second)
told-pick tells First first second = refl
told-pick tells Second first second = refl
