-- How notes, callers and publishers are kept.
use Rattle.std.specs.Prelude.{ℕ, ◌≡◌, ◌+◌, false, List, [], ◌∷◌, ◌++◌, length, Option, Some, None, IfSome, if◌then◌else◌}
use Rattle.raclist_image.specs.Imaged.{Imaged}
use Rattle.desk_rules.specs.Position.{Position}
use Rattle.command_history.specs.declared.events.Accepted.{Accepted}
use Rattle.command_history.specs.declared.events.Event.{Event}
use Rattle.command_history.specs.declared.events.Event.TheVariants.{Added}
use Rattle.command_history.specs.Events.{entries_of, is_ended}
use Rattle.command_history.specs.Reached.{reached, AreLegal}

-- the image of the state behind a list of events
abbrev pub image_at : Position → List Event → Imaged
image_at base events = (reached base events).image

-- An entry and the image behind it, which are published once its command counts.
pub record Holding : Type 0 where
  pub entry : Accepted
  pub image : Imaged

-- The entry goes on from what is published: it is legal there, the image is where it leads, and the right to the event
-- behind it is taken.
pub record IsHeld (base : Position) (events : List Event) (next : Option ℕ) (holding : Holding) : Type 0 where
  pub goes_on : is_ended events ≡ false
  pub legal : AreLegal base (entries_of (events ++ Added holding.entry ∷ []))
  pub image_is : holding.image ≡ image_at base (events ++ Added holding.entry ∷ [])
  pub next_is : next ≡ Some (length events + 1)

-- What is published is legal. A publisher has the right to the next event until the last is there, and maybe an image
-- for the next note.
pub record IsPublishing (base : Position) (events : List Event) (turn next : Option ℕ) (spare : Option Imaged) (held : Option Holding) : Type 0 where
  pub legal : AreLegal base (entries_of events)
  pub turn_is : turn ≡ (if is_ended events then None else Some (length events))
  pub spare_is : IfSome spare (λ image. image ≡ image_at base events)
  pub held_is : IfSome held (IsHeld base events next)
