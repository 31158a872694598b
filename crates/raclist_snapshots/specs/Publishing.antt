-- What contracts see of a publisher and of a caller, and what they promise of their histories.
use Rattle.std.specs.Prelude.{ℕ, ◌≡◌, Bool, true, List, [], ◌∷◌, ◌++◌, Option, if◌then◌else◌}
use Rattle.command_history.specs.declared.events.Accepted.{Accepted}
use Rattle.command_history.specs.declared.events.Event.{Event}
use Rattle.command_history.specs.declared.events.Event.TheVariants.{Ended}
use Rattle.command_history.specs.Events.{failed_of, is_ended}

-- A publisher: the history as it is published, the entry whose image is held until its command counts, and whether the
-- next note may want memory, since all that was taken for one is used.
pub record Publishing : Type 0 where
  pub events : List Event
  pub held : Option Accepted
  pub told : Bool

-- A caller: the history as far as it has seen it, and how many notes it has learned, modulo 2^64.
pub record Seeing : Type 0 where
  pub events : List Event
  pub learned : ℕ

-- the history with the final mark, which is added once
abbrev pub ended_with : (doubt : Option Accepted) → List Event → List Event
ended_with doubt events = if is_ended events then events else (events ++ Ended doubt ∷ [])

-- A final mark that is there already is this one.
abbrev pub MarkIs : (doubt : Option Accepted) → List Event → Type 0
MarkIs doubt events = is_ended events ≡ true → failed_of events ≡ doubt
