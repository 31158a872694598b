-- What contracts see of an office, of passes and of ends.
use Rattle.std.specs.Prelude.{ℕ, ◌||◌, ◌&&◌, not, nat_eq, nat_lt, is_some, Bool, List, [], ◌∷◌, ◌++◌, zero, suc, Option, if◌then◌else◌}
use Rattle.racf_checkpoint.specs.Stored.{StoreOn}
use Rattle.desk_rules.specs.Position.{Position}
use Rattle.desk_rules.specs.Made.{number_at}
use Rattle.command_history.specs.declared.events.Accepted.{Accepted}
use Rattle.command_history.specs.declared.events.Event.{Event}
use Rattle.command_history.specs.Reached.{reached}
use Rattle.raclist_snapshots.specs.Publishing.{ended_with}

-- An office: the history, as it is published; where its desk stands, and on which disks; the entry of the command that a
-- disk failed, where one did; how many passes are out; and for how many decks it was opened.
pub record Core (D : Type 0) : Type 0 where
  pub events : List Event
  pub position : Position
  pub store : StoreOn D
  pub doubt : Option Accepted
  pub passes : ℕ
  pub decks : ℕ

-- A pass or an end: the deck's number, and how many of its commands were accepted and how many met a disk fault.
pub record Passing : Type 0 where
  pub deck : ℕ
  pub commands : ℕ
  pub faults : ℕ

-- the passes that an office begins with, one for each deck, which number from 0 on
abbrev pub new_passes : ℕ → List Passing
new_passes zero = []
new_passes (suc deck) = new_passes deck ++ record { deck = deck; commands = 0; faults = 0 } ∷ []

-- how many commands were accepted before a list of events led there
abbrev pub number_behind : Position → List Event → ℕ
number_behind base events = number_at (reached base events)

-- Nothing more is accepted: a disk failed a command, or no pass is out.
abbrev pub is_over : {D : Type 0} → Core D → Bool
is_over core = is_some core.doubt || nat_eq core.passes 0

-- Whoever waits for so many commands has to wait on.
abbrev pub is_waited : {D : Type 0} → Position → ℕ → Core D → Bool
is_waited base number core = not (is_over core) && nat_lt (number_behind base core.events) number

-- the office once it has told somebody where it stands: where nothing more is accepted, the final mark is there
abbrev pub told : {D : Type 0} → Core D → Core D
told core =
    if is_over core then record core { events = ended_with core.doubt core.events } else core
