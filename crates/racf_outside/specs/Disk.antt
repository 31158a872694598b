-- What a disk tells: its moments, and what each call makes of them.
use Rattle.std.specs.Prelude.{ℕ, ◌≡◌, List, ◌∷◌, Option, None, Some}
use Rattle.racf_outside.specs.Moments.{Moment, IsImage, reads_as}

-- The moment that is now, and those that have been. Within a write or a cut a crash leaves what it may leave behind it,
-- within a sync what it may leave before it.
pub record History : Type 0 where
  pub now : Moment
  pub past : List Moment  -- the newest first

-- this moment comes next
abbrev pub then_comes : Moment → History → History
then_comes moment history = record { now = moment; past = history.now ∷ history.past }

-- one step on
abbrev pub goes : (Moment → Moment) → History → History
goes step history = then_comes (step history.now) history

-- The moment that is told has P. A disk that tells nothing has every P.
abbrev pub Now : Option History → (Moment → Type 0) → Type 0
Now told P = (history : History) → told ≡ Some history → P history.now

-- What a call that failed may have done: nothing; or all that it was to do is in doubt, and a read gives whatever a
-- crash might leave.
pub data IsFaulty (step : Moment → Moment) (old new : History) : Type 0 where
  Nothing : new ≡ old → IsFaulty step old new
  InDoubt : (bytes : List ℕ) → IsImage (step old.now) bytes → new ≡ then_comes (reads_as bytes (step old.now)) old → IsFaulty step old new

-- a call that failed, of a disk that tells its history or doesn't
pub record Faulty (step : Moment → Moment) (old new : Option History) : Type 0 where
  pub told : (history : History) → old ≡ Some history → (next : History) × (new ≡ Some next) × IsFaulty step history next
  pub untold : old ≡ None → new ≡ None
