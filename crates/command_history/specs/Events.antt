-- Lists of events: entries, each an accepted command, and the final mark behind the last of them. The mark names the
-- entry of the command that a disk failed, where one did.
use Rattle.std.specs.Prelude.{◌≡◌, Bool, true, false, List, [], ◌∷◌, ◌++◌, map, Option, None}
use mathlib.Core.List.{IsPrefix}
use Rattle.command_history.specs.declared.events.Accepted.{Accepted}
use Rattle.command_history.specs.declared.events.Event.{Event}
use Rattle.command_history.specs.declared.events.Event.TheVariants.{Added, Ended}

-- the entries, in their order
abbrev pub entries_of : List Event → List Accepted
entries_of [] = []
entries_of (Added entry ∷ events) = entry ∷ entries_of events
entries_of (Ended doubt ∷ events) = entries_of events

-- the entry that the final mark names: of the command that a disk failed
abbrev pub failed_of : List Event → Option Accepted
failed_of [] = None
failed_of (Added entry ∷ events) = failed_of events
failed_of (Ended doubt ∷ events) = doubt

-- Whether there is a final mark.
abbrev pub is_ended : List Event → Bool
is_ended [] = false
is_ended (Added entry ∷ events) = is_ended events
is_ended (Ended doubt ∷ events) = true

-- Whether nothing stands behind a final mark.
abbrev pub ends_last : List Event → Bool
ends_last [] = true
ends_last (Added entry ∷ events) = ends_last events
ends_last (Ended doubt ∷ []) = true
ends_last (Ended doubt ∷ event ∷ events) = false

-- these entries, and then the final mark
abbrev pub all_of : List Accepted → Option Accepted → List Event
all_of entries doubt = map Added entries ++ Ended doubt ∷ []

-- The later list begins with the earlier one, and whoever has the final mark has all.
pub record Extends (earlier later : List Event) : Type 0 where
  pub prefix : IsPrefix earlier later
  pub whole : is_ended earlier ≡ true → later ≡ earlier
