-- How a desk and its publisher stand between two commands.
use Rattle.std.specs.Prelude.{◌≡◌, [], false, None}
use Rattle.desk_rules.specs.Position.{Position}
use Rattle.desk_rules.specs.Made.{DeskOn}
use Rattle.command_history.specs.Events.{is_ended}
use Rattle.command_history.specs.Reached.{reached}
use Rattle.raclist_snapshots.specs.Publishing.{Publishing}

-- What is published leads to where the desk stands, nothing is held, and the history goes on.
pub record AreTogether {D : Type 0} (base : Position) (desk : DeskOn D) (publisher : Publishing) : Type 0 where
  pub position : desk.position ≡ reached base publisher.events
  pub settled : desk.committed ≡ false
  pub free : publisher.held ≡ None
  pub goes_on : is_ended publisher.events ≡ false

-- Of a history that was just opened nothing is published.
abbrev pub nothing_published : Publishing
nothing_published = record { events = []; held = None; told = false }
