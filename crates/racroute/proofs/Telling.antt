-- An office that told somebody where it stands.
use Rattle.std.specs.Prelude.{OnOk, OnErr, is_some}
use Rattle.std.proofs.Common.{not, ◌&&◌, nat_lt, ◌<◌, ◌≡◌, ◌⊎◌, inl, inr, Result, Ok, Err, ℕ, ◌||◌, Bool, true, false, List, [], ◌∷◌, ◌++◌, Option, None, refl, sym, ◌∙◌, ap, subst, arith, nat_eq, if◌then◌else◌}
use Rattle.std.proofs.lemmas.Bool.Decides.{nat_tests}
use Rattle.racf_outside.specs.Disk.{History}
use Rattle.desk_rules.specs.Position.{Position}
use Rattle.command_history.specs.declared.events.Accepted.{Accepted}
use Rattle.command_history.specs.declared.events.Event.{Event}
use Rattle.command_history.specs.declared.events.Event.TheVariants.{Ended}
use Rattle.command_history.specs.Events.{entries_of, failed_of, is_ended, Extends}
use Rattle.command_history.specs.Reached.{reached, AreLegal}
use Rattle.command_history.proofs.Leading.{reached_ended}
use Rattle.command_history.proofs.Extensions.{extends_push, extends_trans, learned_all}
use Rattle.desk_rules.specs.Made.{number_at}
use Rattle.racroute.proofs.Replying.{extends_self}
use Rattle.raclist_snapshots.specs.Publishing.{Publishing, ended_with}
use Rattle.racroute.specs.Core.{Core, is_over, is_waited, number_behind, told}
use Rattle.racroute.specs.Kept.{DisksBefore, IsOffice}
use Rattle.racroute.proofs.Along.{stays_later}
use Rattle.raclist_snapshots.proofs.Marks.{ended_ends, failed_ended, entries_ended}

-- where the history led
pub reached_with : (base : Position) (doubt : Option Accepted) (events : List Event) → reached base (ended_with doubt events) ≡ reached base events
reached_with base doubt events = by (is_ended events)
  where
    by : (b : Bool) → reached base (if b then events else (events ++ Ended doubt ∷ [])) ≡ reached base events
    by true = refl
    by false = reached_ended base events doubt

-- it goes on with the mark
pub extends_ended : (doubt : Option Accepted) (events : List Event) → Extends events (ended_with doubt events)
extends_ended doubt events = by (is_ended events) refl
  where
    by : (b : Bool) → is_ended events ≡ b → Extends events (if b then events else (events ++ Ended doubt ∷ []))
    by true is = extends_self events
    by false is = extends_push events (Ended doubt) is

none_out : (halted : Bool) (passes : ℕ) → (halted || nat_eq passes 0) ≡ true → halted ≡ false → passes ≡ 0
none_out true passes over h = absurd (cc h)
none_out false passes over h = grind (arith, nat_tests)

module _ {D : Type 0} (tells : D → Option History) (counted : D → ℕ) (base : Position) (before : DisksBefore) where
  -- finally, where nothing more is accepted
  pub over_kept : (core : Core D) (later : List Event) (history : List Accepted) (commands faults out : ℕ)
      → IsOffice tells counted base before core history commands faults out → is_over core ≡ true → later ≡ ended_with core.doubt core.events
      → IsOffice tells counted base before (record core { events = later }) history commands faults out
  over_kept core later history commands faults out kept over is =
      record {
        position = kept.position ∙ (sym (reached_with base core.doubt core.events) ∙ ap (reached base) (sym is));
        legal = subst (AreLegal base) (sym (entries_ended core.doubt core.events) ∙ ap entries_of (sym is)) kept.legal;
        entries_are = kept.entries_are ∙ (sym (entries_ended core.doubt core.events) ∙ ap entries_of (sym is));
        commands_are = kept.commands_are;
        faults_are = kept.faults_are;
        passes_are = kept.passes_are;
        mark = λ _. ap failed_of is ∙ failed_ended core.doubt core.events kept.mark;
        halted = λ _. ap is_ended is ∙ ended_ends core.doubt core.events;
        ended = λ _ h. none_out (is_some core.doubt) core.passes over h;
        no_fewer = kept.no_fewer;
        rose = kept.rose;
        stand = kept.stand;
        moments = stays_later base before.idle before.live core.events later (tells core.store.journal.disk)
            (subst (Extends core.events) (sym is) (extends_ended core.doubt core.events)) kept.moments;
        idle = kept.idle;
        idle_faults = kept.idle_faults;
      }

-- what is told where nothing more is accepted, and else
pub told_over : {D : Type 0} (core : Core D) → is_over core ≡ true → told core ≡ record core { events = ended_with core.doubt core.events }
told_over core over = rw over refl

pub told_on : {D : Type 0} (core : Core D) → is_over core ≡ false → told core ≡ core
told_on core over = rw over refl

-- the publisher behind a final note, or where memory was wanting for it
pub final_either : {X E : Type 0} (doubt : Option Accepted) (result : Result X E) (before after : Publishing)
    → OnOk result (after ≡ record { events = ended_with doubt before.events; held = None; told = true })
    → OnErr result (after ≡ before) → before.held ≡ None
    → (after.held ≡ None) × ((after.events ≡ ended_with doubt before.events) ⊎ (after.events ≡ before.events))
final_either doubt (Ok x) before after ok err free = (ap (λ (p : Publishing). p.held) ok, inl (ap (λ (p : Publishing). p.events) ok))
final_either doubt (Err e) before after ok err free = (ap (λ (p : Publishing). p.held) err ∙ free, inr (ap (λ (p : Publishing). p.events) err))

pub either_kept : {D : Type 0} (tells : D → Option History) (counted : D → ℕ) (base : Position) (before : DisksBefore)
    (core : Core D) (later : List Event) (history : List Accepted) (commands faults out : ℕ)
    → IsOffice tells counted base before core history commands faults out → is_over core ≡ true
    → (later ≡ ended_with core.doubt core.events) ⊎ (later ≡ core.events)
    → IsOffice tells counted base before (record core { events = later }) history commands faults out
either_kept tells counted base before core later history commands faults out kept over (inl is) =
    over_kept tells counted base before core later history commands faults out kept over is
either_kept {D} tells counted base before core later history commands faults out kept over (inr is) =
    subst (λ (events : List Event). IsOffice tells counted base before (record core { events = events }) history commands faults out) (sym is) kept

-- whoever waited for more than there is does so in vain
waited_over : (over : Bool) (reached number : ℕ) → (not over && nat_lt reached number) ≡ false → reached < number → over ≡ true
waited_over true reached number waits less = refl
waited_over false reached number waits less = absurd (grind (arith, nat_tests))

-- a caller that is told so has seen the end
pub final_after : {D : Type 0} (base : Position) (number reached' : ℕ) (core now : Core D) (seen note new : List Event)
    → is_waited base number core ≡ false → now ≡ told core → note ≡ now.events → Extends seen core.events
    → (new ≡ seen) ⊎ (new ≡ note) → Extends note new → reached' ≡ number_behind base now.events → reached' < number
    → (reached' ≡ number_behind base new) × (is_ended new ≡ true)
final_after {D} base number reached' core now seen note new waits is told_is covered one more there less =
    let led : (over : Bool) → is_over core ≡ over → number_behind base (told core).events ≡ number_behind base core.events =
    λ over o. elim over as (λ b. is_over core ≡ b → number_behind base (told core).events ≡ number_behind base core.events) [
      | true ↦ λ o. rw (told_over core o) (ap number_at (reached_with base core.doubt core.events))
      | false ↦ λ o. rw (told_on core o) refl
    ] o in
    let behind : reached' ≡ number_behind base core.events = there ∙ (ap (λ (k : Core D). number_behind base k.events) is ∙ led (is_over core) refl) in
    let over : is_over core ≡ true = waited_over (is_over core) (number_behind base core.events) number waits (subst (λ n. n < number) behind less) in
    let last : note ≡ ended_with core.doubt core.events = told_is ∙ (ap (λ (k : Core D). k.events) is ∙ ap (λ (k : Core D). k.events) (told_over core over)) in
    let ends : Extends seen note = subst (Extends seen) (sym last) (extends_trans seen core.events (ended_with core.doubt core.events) covered (extends_ended core.doubt core.events)) in
    let all : new ≡ note = learned_all seen note new ends one more in (
      there ∙ ap (number_behind base) (sym told_is ∙ sym all),
      ap is_ended (all ∙ last) ∙ ended_ends core.doubt core.events,
    )
