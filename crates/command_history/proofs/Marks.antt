-- Histories that get an event more, and their final marks.
use Rattle.std.proofs.Common.{◌≡◌, true, false, List, [], ◌∷◌, ◌++◌, Option, refl, ap}
use Rattle.command_history.specs.declared.events.Accepted.{Accepted}
use Rattle.command_history.specs.declared.events.Event.{Event}
use Rattle.command_history.specs.declared.events.Event.TheVariants.{Added, Ended}
use Rattle.command_history.specs.Events.{entries_of, failed_of, is_ended}

-- behind an entry it still goes on
pub goes_push : (events : List Event) (entry : Accepted) → is_ended events ≡ false → is_ended (events ++ Added entry ∷ []) ≡ false
goes_push [] entry goes = refl
goes_push (Added first ∷ events) entry goes = goes_push events entry goes
goes_push (Ended h ∷ events) entry goes = absurd (cc goes)

pub ended_push : (events : List Event) (doubt : Option Accepted) → is_ended (events ++ Ended doubt ∷ []) ≡ true
ended_push [] doubt = refl
ended_push (Added entry ∷ events) doubt = ended_push events doubt
ended_push (Ended h ∷ events) doubt = refl

pub failed_push : (events : List Event) (doubt : Option Accepted) → is_ended events ≡ false → failed_of (events ++ Ended doubt ∷ []) ≡ doubt
failed_push [] doubt goes = refl
failed_push (Added entry ∷ events) doubt goes = failed_push events doubt goes
failed_push (Ended h ∷ events) doubt goes = absurd (cc goes)

-- the mark is no entry
pub entries_push : (events : List Event) (doubt : Option Accepted) → entries_of (events ++ Ended doubt ∷ []) ≡ entries_of events
entries_push [] doubt = refl
entries_push (Added first ∷ events) doubt = ap (λ (l : List Accepted). first ∷ l) (entries_push events doubt)
entries_push (Ended h ∷ events) doubt = entries_push events doubt

pub entries_added : (events : List Event) (entry : Accepted) → entries_of (events ++ Added entry ∷ []) ≡ entries_of events ++ entry ∷ []
entries_added [] entry = refl
entries_added (Added first ∷ events) entry = ap (λ (l : List Accepted). first ∷ l) (entries_added events entry)
entries_added (Ended h ∷ events) entry = entries_added events entry
