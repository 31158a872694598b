-- The history behind the final mark.
use Rattle.std.proofs.Common.{◌≡◌, ℕ, ◌+◌, Bool, true, false, List, [], ◌∷◌, ◌++◌, length, Option, Some, None, IfSome, refl, ap, subst, length-append, if◌then◌else◌}
use Rattle.raclist_image.specs.Imaged.{Imaged}
use Rattle.desk_rules.specs.Position.{Position}
use Rattle.command_history.specs.declared.events.Accepted.{Accepted}
use Rattle.command_history.specs.declared.events.Event.{Event}
use Rattle.command_history.specs.declared.events.Event.TheVariants.{Added, Ended}
use Rattle.command_history.specs.Events.{entries_of, failed_of, is_ended}
use Rattle.command_history.specs.Reached.{reached, AreLegal}
use Rattle.command_history.proofs.Leading.{reached_ended, legal_ended}
use Rattle.command_history.proofs.Marks.{goes_push, ended_push, failed_push, entries_push}
use Rattle.raclist_snapshots.specs.Publishing.{ended_with, MarkIs}
use Rattle.raclist_snapshots.specs.Kept.{image_at, Holding, IsHeld, IsPublishing}

-- the mark of a history that goes on may be any
pub mark_any : (doubt : Option Accepted) (events : List Event) → is_ended events ≡ false → MarkIs doubt events
mark_any doubt events goes = λ ended. absurd (cc (ended, goes))

-- with the mark a history is as it was, or has it behind it
pub ended_same : (doubt : Option Accepted) (events : List Event) → is_ended events ≡ true → ended_with doubt events ≡ events
ended_same doubt events is = rw is refl

pub ended_more : (doubt : Option Accepted) (events : List Event) → is_ended events ≡ false → ended_with doubt events ≡ events ++ Ended doubt ∷ []
ended_more doubt events is = rw is refl

pub ended_ends : (doubt : Option Accepted) (events : List Event) → is_ended (ended_with doubt events) ≡ true
ended_ends doubt events = by (is_ended events) refl
  where
    by : (b : Bool) → is_ended events ≡ b → is_ended (if b then events else (events ++ Ended doubt ∷ [])) ≡ true
    by true is = is
    by false is = ended_push events doubt

pub failed_ended : (doubt : Option Accepted) (events : List Event) → MarkIs doubt events → failed_of (ended_with doubt events) ≡ doubt
failed_ended doubt events mark = by (is_ended events) refl
  where
    by : (b : Bool) → is_ended events ≡ b → failed_of (if b then events else (events ++ Ended doubt ∷ [])) ≡ doubt
    by true is = mark is
    by false is = failed_push events doubt is

pub entries_ended : (doubt : Option Accepted) (events : List Event) → entries_of (ended_with doubt events) ≡ entries_of events
entries_ended doubt events = by (is_ended events)
  where
    by : (b : Bool) → entries_of (if b then events else (events ++ Ended doubt ∷ [])) ≡ entries_of events
    by true = refl
    by false = entries_push events doubt

pub image_ended : (base : Position) (doubt : Option Accepted) (events : List Event) → (reached base (ended_with doubt events)).image ≡ (reached base events).image
image_ended base doubt events = by (is_ended events)
  where
    by : (b : Bool) → (reached base (if b then events else (events ++ Ended doubt ∷ []))).image ≡ (reached base events).image
    by true = refl
    by false = ap (λ (p : Position). p.image) (reached_ended base events doubt)

-- with the mark a publisher has no turn any more, and holds nothing
pub kept_ended : (base : Position) (events : List Event) (doubt : Option Accepted) (next : Option ℕ) (spare : Option Imaged)
    → AreLegal base (entries_of events) → IfSome spare (λ image. image ≡ image_at base events)
    → IsPublishing base (events ++ Ended doubt ∷ []) None next spare None
kept_ended base events doubt next spare legal images =
    record {
      legal = legal_ended base events doubt legal;
      turn_is = rw (ended_push events doubt) refl;
      spare_is = rw (ap (λ (p : Position). p.image) (reached_ended base events doubt)) images;
      held_is = tt;
    }

-- With an entry more a publisher has the right to the event behind it.
pub kept_added : (base : Position) (events : List Event) (next after : Option ℕ) (holding : Holding) → IsHeld base events next holding
    → (entry : Accepted) → holding.entry ≡ entry
    → IsPublishing base (events ++ Added entry ∷ []) next after (Some holding.image) None
kept_added base events next after holding held entry is =
    let turn : next ≡ (if is_ended (events ++ Added holding.entry ∷ []) then None else Some (length (events ++ Added holding.entry ∷ []))) =
    rw (goes_push events holding.entry held.goes_on, length-append events (Added holding.entry ∷ [])) held.next_is in
    subst (λ (one : Accepted). IsPublishing base (events ++ Added one ∷ []) next after (Some holding.image) None) is
    (record { legal = held.legal; turn_is = turn; spare_is = held.image_is; held_is = tt })
