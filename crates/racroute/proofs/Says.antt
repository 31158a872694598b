-- What a command is told.
use Rattle.std.proofs.Common.{◌≡◌, ℕ, ◌+◌, Bool, true, false, List, [], ◌∷◌, ◌++◌, Option, Some, Ok, Err, refl, sym, ◌∙◌, ap, subst, ◌≤◌, arith}
use Rattle.std.specs.Prelude.{is_some}
use Rattle.racf_outside.specs.Disk.{History}
use Rattle.desk_rules.specs.declared.answers.Ready.{Ready}
use Rattle.desk_rules.specs.declared.refusal.Refusal.{Refusal}
use Rattle.desk_rules.specs.Outcome.{outcome}
use Rattle.desk_rules.specs.Made.{Made, made_in, made_of_outcome, installed, number_at}
use Rattle.desk_rules.specs.Position.{Position, position_behind}
use Rattle.desk_rules.specs.Durable.{SameIdle, StaysEither}
use Rattle.racf_outside.specs.Causes.{Rose}
use Rattle.command_history.specs.declared.events.Accepted.{Accepted}
use Rattle.command_history.specs.declared.events.Event.{Event}
use Rattle.command_history.specs.declared.events.Event.TheVariants.{Added}
use Rattle.command_history.specs.Events.{failed_of, is_ended}
use Rattle.command_history.specs.Reached.{reached, record_of}
use Rattle.raclist_snapshots.specs.Publishing.{ended_with}
use Rattle.racroute.specs.Core.{Core, Passing, number_behind}
use Rattle.racroute.specs.Kept.{DisksBefore, IsMade, IsMadeEntry, IsOffice}
use Rattle.racroute.specs.Replies.{Given, SaysAccepted, SaysFailed, SaysHalted, SaysRefused, GoesOn, Stops}
use Rattle.racroute.proofs.Making.{IsMadeOf, made_of}
use Rattle.raclist_snapshots.proofs.Marks.{mark_any, failed_ended, ended_more, ended_same}
use Rattle.racroute.proofs.Serving.{AreWritten, AreRecorded, entry_is}
use Rattle.racroute.proofs.Standing.{stays_led}
use Rattle.racroute.proofs.Telling.{reached_with}

module _ {D : Type 0} (tells : D → Option History) (counted : D → ℕ) (base : Position) (before : DisksBefore) (core : Core D) (history : List Accepted) (commands faults out : ℕ)
    (kept : IsOffice tells counted base before core history commands faults out) where
  -- what was made goes on from the history
  pub is_made : (given : Given) (ready : Ready) → made_of_outcome core.position.image (outcome core.position given.issuer given.group given.text) ≡ Ok (made_in ready)
      → IsMade base core.events ready
  is_made given ready made =
      record {
        given = given;
        made = subst (λ (p : Position). made_of_outcome p.image (outcome p given.issuer given.group given.text) ≡ Ok (made_in ready)) kept.position made;
      }

  pub says_accepted : (given : Given) (ready : Ready) (number : ℕ) (entry : Accepted) (later : List Event) (pass back : Passing) → AreWritten → AreRecorded
      → made_of_outcome core.position.image (outcome core.position given.issuer given.group given.text) ≡ Ok (made_in ready)
      → is_ended core.events ≡ false → IsMadeEntry pass.deck ready entry
      → reached base (core.events ++ Added entry ∷ []) ≡ installed (reached base core.events) (made_in ready)
      → number ≡ ready.number → later ≡ core.events ++ Added entry ∷ [] → back ≡ record pass { commands = pass.commands + 1 }
      → SaysAccepted base given number core.events later pass back
  says_accepted given ready number entry later pass back written recorded made goes is leads count added back_is =
      let m = made_of core.position.image (outcome core.position given.issuer given.group given.text) (made_in ready) made in
      let one : (made_in ready).number ≡ (made_in ready).behind.generation =
      ap (λ (m : Made). m.number) (sym m.made_is) ∙ ap (λ (m : Made). m.behind.generation) m.made_is in
      record {
        command = m.command;
        accepted = subst (λ (p : Position). outcome p given.issuer given.group given.text ≡ Ok m.command) kept.position m.accepted;
        goes_on = goes;
        entry = entry;
        entry_is = entry_is written recorded core.position given ready pass.deck entry m is;
        added = added;
        counts = count ∙ (one ∙ (sym (ap number_at leads) ∙ ap (number_behind base) (sym added)));
        counted = back_is;
      }

  pub says_refused : (given : Given) (number : ℕ) (why : Refusal) (later : List Event) (pass back : Passing) → is_ended core.events ≡ false
      → number ≡ number_at core.position → outcome core.position given.issuer given.group given.text ≡ Err why → later ≡ core.events → back ≡ pass
      → SaysRefused base given number why core.events later pass back
  says_refused given number why later pass back goes count refused same back_is =
      record {
        refused = subst (λ (p : Position). outcome p given.issuer given.group given.text ≡ Err why) kept.position refused;
        goes_on = goes;
        same = same;
        counts = count ∙ (ap number_at kept.position ∙ ap (number_behind base) (sym same));
        kept = back_is;
      }

  -- nothing is added to a history that ended so
  pub ended_already : is_some core.doubt ≡ true → (later : List Event) → later ≡ ended_with core.doubt core.events → later ≡ core.events
  ended_already halted later is = is ∙ ended_same core.doubt core.events (kept.halted halted)

  pub says_halted : (number : ℕ) (later : List Event) (pass back : Passing) → is_some core.doubt ≡ true → number ≡ number_at core.position
      → later ≡ ended_with core.doubt core.events → back ≡ pass → SaysHalted base number core.events later pass back
  says_halted number later pass back halted count is back_is =
      let same = ended_already halted later is in
      record {
        ended = ap is_some (kept.mark (kept.halted halted)) ∙ halted;
        same = same;
        counts = count ∙ (ap number_at kept.position ∙ ap (number_behind base) (sym same));
        kept = back_is;
      }

  pub says_failed : (given : Given) (ready : Ready) (number : ℕ) (entry : Accepted) (later : List Event) (pass back : Passing) → AreWritten → AreRecorded
      → (m : IsMadeOf core.position.image (outcome core.position given.issuer given.group given.text) (made_in ready)) → IsMadeEntry pass.deck ready entry
      → is_ended core.events ≡ false → number ≡ number_at core.position → later ≡ ended_with (Some entry) core.events
      → back ≡ record pass { faults = pass.faults + 1 } → SaysFailed base given number core.events later pass back
  says_failed given ready number entry later pass back written recorded m made goes count is back_is =
      record {
        command = m.command;
        accepted = subst (λ (p : Position). outcome p given.issuer given.group given.text ≡ Ok m.command) kept.position m.accepted;
        goes_on = goes;
        entry = entry;
        entry_is = entry_is written recorded core.position given ready pass.deck entry m made;
        ended = is ∙ ended_more (Some entry) core.events goes;
        counts = count ∙ (ap number_at kept.position ∙ (sym (ap number_at (reached_with base (Some entry) core.events)) ∙ ap (number_behind base) (sym is)));
        counted = back_is;
      }

  -- a pass in hand is out, so the history goes on unless a disk failed
  pub goes_on : (share : ℕ) → is_some core.doubt ≡ false → share ≡ 1 → share ≤ out → is_ended core.events ≡ false
  goes_on share runs one most = by (is_ended core.events) refl
    where
      by : (b : Bool) → is_ended core.events ≡ b → is_ended core.events ≡ false
      by true is = let none = kept.ended is runs in let outs = kept.passes_are in absurd (omega arith)
      by false is = is

  -- the disks on the way to an accepted command
  pub accepted_goes_on : (now : Core D) (entry : Accepted) (made : Made) → is_some core.doubt ≡ false
      → reached base (core.events ++ Added entry ∷ []) ≡ installed (reached base core.events) made
      → now.events ≡ core.events ++ Added entry ∷ [] → now.doubt ≡ core.doubt → now.passes ≡ core.passes → now.decks ≡ core.decks
      → counted core.store.journal.disk ≤ counted now.store.journal.disk
      → StaysEither tells core.store now.store core.position (installed core.position made) → SameIdle core.store now.store
      → GoesOn base tells counted core now
  accepted_goes_on now entry made runs leads events still passes decks fewer either idle =
      let there : installed core.position made ≡ reached base now.events =
      ap (λ (p : Position). installed p made) kept.position ∙ (sym leads ∙ ap (reached base) (sym events)) in
      record {
        ran = runs;
        runs = ap is_some still ∙ runs;
        moments = stays_led tells core.store now.store core.position (installed core.position made) (reached base core.events) (reached base now.events) kept.position there either;
        idle = idle;
        no_fewer = fewer;
        passes = passes;
        decks = decks;
      }

  -- the disks on the way to a command that one of them failed
  pub failed_stops : (now : Core D) (given : Given) (ready : Ready) (entry : Accepted)
      → (m : IsMadeOf core.position.image (outcome core.position given.issuer given.group given.text) (made_in ready)) → record_of entry ≡ Some m.command
      → is_ended core.events ≡ false → is_some core.doubt ≡ false
      → now.events ≡ ended_with (Some entry) core.events → now.position ≡ core.position → now.doubt ≡ Some entry → now.passes ≡ core.passes → now.decks ≡ core.decks
      → counted core.store.journal.disk ≤ counted now.store.journal.disk
      → Rose (counted core.store.journal.disk) (counted now.store.journal.disk)
      → StaysEither tells core.store now.store core.position (installed core.position (made_in ready)) → SameIdle core.store now.store
      → Stops base tells counted core now
  failed_stops now given ready entry m recorded goes runs events position halts passes decks fewer rose either idle =
      let behind : installed core.position (made_in ready) ≡ position_behind (reached base core.events) m.command =
      ap (λ (made : Made). installed core.position made) (sym m.made_is) ∙ ap (λ (p : Position). position_behind p m.command) kept.position in
      record {
        ran = runs;
        doubt = entry;
        halts = halts;
        named = ap failed_of events ∙ failed_ended (Some entry) core.events (mark_any (Some entry) core.events goes);
        command = m.command;
        record_is = recorded;
        moments = stays_led tells core.store now.store core.position (installed core.position (made_in ready)) (reached base core.events)
            (position_behind (reached base core.events) m.command) kept.position behind either;
        position = position;
        idle = idle;
        no_fewer = fewer;
        rose = rose;
        passes = passes;
        decks = decks;
      }
