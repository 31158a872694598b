-- What a crash may leave at every moment of a call: the one form of such a clause, for every layer above a disk.
use Rattle.std.specs.Prelude.{ℕ, ◌+◌, ◌-◌, ◌≡◌, List, ◌∷◌, ◌++◌, length, take, Option, None, Some, Any}
use Rattle.std.specs.List.{AllByRecursion}
use Rattle.racf_outside.specs.Moments.{Moment, IsImage}
use Rattle.racf_outside.specs.Disk.{History}

-- all moments that have been, the newest first
abbrev pub moments : History → List Moment
moments history = history.now ∷ history.past

-- whatever a crash at this moment leaves has P
pub record Leaves (P : List ℕ → Type 0) (moment : Moment) : Type 0 where
  pub each : (image : List ℕ) → IsImage moment image → P image

-- whatever a crash leaves at any moment between two has P, both counted
pub record Stays (P : List ℕ → Type 0) (from to : History) : Type 0 where
  pub since : List Moment
  pub are : moments to ≡ since ++ moments from
  pub first : Leaves P from.now
  pub each : AllByRecursion (Leaves P) since

-- The clause of a call: at every moment of it a crash leaves what has P, where its disk tells its moments.
pub record StaysIn (P : List ℕ → Type 0) (old new : Option History) : Type 0 where
  pub told : (history : History) → old ≡ Some history → (next : History) × (new ≡ Some next) × Stays P history next
  pub untold : old ≡ None → new ≡ None

-- how many moments were before the one that is now
abbrev pub moment_number : History → ℕ
moment_number history = length history.past

-- what a crash might have left at some moment from the one of this number on
abbrev pub LeftSince : History → ℕ → List ℕ → Type 0
LeftSince history since image = Any (λ moment. IsImage moment image) (take (moment_number history + 1 - since) (moments history))
