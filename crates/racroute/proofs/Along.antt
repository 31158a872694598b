-- What every crash leaves along a history: at each moment what stands for some beginning of it, or for the command that
-- a disk failed.
use Rattle.std.proofs.Common.{◌≡◌, ℕ, true, List, [], ◌∷◌, Option, Some, Ok, refl, sym, subst, inl, inr}
use Rattle.racf_outside.specs.Disk.{History}
use Rattle.racf_outside.proofs.Runs.{Leaves-weaker, StaysIn-none, StaysIn-joined, StaysIn-weaker}
use Rattle.racf_checkpoint.specs.Stored.{StoreOn}
use Rattle.desk_rules.specs.declared.answers.Ready.{Ready}
use Rattle.desk_rules.specs.Durable.{IdleDisk, idle_of, BesideIdle, LeavesIt, StaysEither}
use Rattle.desk_rules.specs.Made.{Made, made_at, made_in, installed}
use Rattle.desk_rules.specs.Outcome.{outcome}
use Rattle.desk_rules.specs.Position.{Position}
use Rattle.desk_rules.specs.Recovery.{StandsFor, StandsForEither}
use Rattle.desk_rules.proofs.IdleLaws.{beside-weaker}
use Rattle.command_history.specs.declared.events.Accepted.{Accepted}
use Rattle.command_history.specs.declared.events.Event.{Event}
use Rattle.command_history.specs.declared.events.Event.TheVariants.{Added, Ended}
use Rattle.command_history.specs.Events.{is_ended, failed_of, Extends}
use Rattle.command_history.specs.Reached.{reached, record_of}
use Rattle.command_history.proofs.Extensions.{prefix_trans}
use Rattle.racroute.specs.Disks.{StandForFailed, StandAlong, StaysAlong}
use Rattle.racroute.specs.Replies.{Given}
use Rattle.racroute.proofs.Replying.{extends_self}
use Rattle.racroute.proofs.Making.{IsMadeOf}

-- a history whose mark names an entry has ended
failed_ends : (events : List Event) (doubt : Accepted) → failed_of events ≡ Some doubt → is_ended events ≡ true
failed_ends [] doubt is = absurd (cc is)
failed_ends (Added entry ∷ events) doubt is = failed_ends events doubt is
failed_ends (Ended named ∷ events) doubt is = refl

-- what stands along a history stands along each that extends it
stand_later : (base : Position) (earlier later : List Event) → Extends earlier later → (one other : List ℕ) → StandAlong base earlier one other → StandAlong base later one other
stand_later base earlier later extends one other (inl s) =
    inl (record { beginning = s.beginning; begins = prefix_trans s.beginning earlier later s.begins extends.prefix; stand = s.stand })
stand_later base earlier later extends one other (inr s) =
    inr (subst (λ (l : List Event). StandForFailed base l one other) (sym (extends.whole (failed_ends earlier s.doubt s.failed))) s)

-- what stands where a whole history leads stands along it
stand_whole : (base : Position) (events : List Event) (position : Position) → reached base events ≡ position → (one other : List ℕ) → StandsFor position one other → StandAlong base events one other
stand_whole base events position leads one other stand =
    inl (record { beginning = events; begins = (extends_self events).prefix; stand = subst (λ (p : Position). StandsFor p one other) (sym leads) stand })

module _ (base : Position) (idle : IdleDisk) (live : Option History) where
  -- a history that grows
  pub stays_later : (earlier later : List Event) (now : Option History) → Extends earlier later → StaysAlong base earlier idle live now → StaysAlong base later idle live now
  stays_later earlier later now extends along =
      StaysIn-weaker (BesideIdle idle (StandAlong base later)) along
      (λ h told. beside-weaker idle (StandAlong base earlier) (StandAlong base later) (stand_later base earlier later extends))

  -- a history that begins
  pub stays_begun : {D : Type 0} (tells : D → Option History) (store : StoreOn D) (position : Position) (events : List Event) → LeavesIt tells store position → reached base events ≡ position
      → live ≡ tells store.journal.disk → idle ≡ idle_of tells store → StaysAlong base events idle live (tells store.journal.disk)
  stays_begun tells store position events leaves leads one other =
      let P = StandsFor position in
      let Q = StandAlong base events in
      subst (λ (h : Option History). StaysAlong base events idle h (tells store.journal.disk)) (sym one)
      (subst (λ (h : IdleDisk). StaysAlong base events h (tells store.journal.disk) (tells store.journal.disk)) (sym other)
      (StaysIn-none (BesideIdle (idle_of tells store) Q) (tells store.journal.disk)
      (λ h told. Leaves-weaker (BesideIdle (idle_of tells store) P) (BesideIdle (idle_of tells store) Q) h.now
      (beside-weaker (idle_of tells store) P Q (stand_whole base events position leads)) (leaves h told))))

  -- a call that leaves the one or the other, where both stand along the history behind it
  stays_either : {D : Type 0} (tells : D → Option History) (old now : StoreOn D) (position next : Position) (events later : List Event)
      → Extends events later → StaysEither tells old now position next → idle_of tells old ≡ idle
      → ((one other : List ℕ) → StandsFor position one other → StandAlong base later one other)
      → ((one other : List ℕ) → StandsFor next one other → StandAlong base later one other)
      → StaysAlong base events idle live (tells old.journal.disk) → StaysAlong base later idle live (tells now.journal.disk)
  stays_either tells old now position next events later extends either is here there along =
      let P = StandsForEither position next in
      let Q = StandAlong base later in
      StaysIn-joined (stays_later events later (tells old.journal.disk) extends along)
      (StaysIn-weaker (BesideIdle idle Q) either
      (λ h told one p. beside-weaker idle P Q both one (subst (λ (s : IdleDisk). BesideIdle s P one) is p)))
    where
      both : (one other : List ℕ) → StandsForEither position next one other → StandAlong base later one other
      both one other (inl s) = here one other s
      both one other (inr s) = there one other s

  -- an accepted command
  pub stays_accepted : {D : Type 0} (tells : D → Option History) (old now : StoreOn D) (position next : Position) (events later : List Event)
      → Extends events later → StaysEither tells old now position next → idle_of tells old ≡ idle → reached base events ≡ position → reached base later ≡ next
      → StaysAlong base events idle live (tells old.journal.disk) → StaysAlong base later idle live (tells now.journal.disk)
  stays_accepted tells old now position next events later extends either is leads leads' along =
      stays_either tells old now position next events later extends either is
      (λ one other stand. stand_later base events later extends one other (stand_whole base events position leads one other stand))
      (stand_whole base later next leads') along

  -- a command that a disk failed
  pub stays_failed : {D : Type 0} (tells : D → Option History) (old now : StoreOn D) (position : Position) (events later : List Event) (given : Given) (ready : Ready) (entry : Accepted)
      → (m : IsMadeOf position.image (outcome position given.issuer given.group given.text) (made_in ready)) → record_of entry ≡ Some m.command
      → Extends events later → StaysEither tells old now position (installed position (made_in ready)) → idle_of tells old ≡ idle → reached base later ≡ position
      → failed_of later ≡ Some entry
      → StaysAlong base events idle live (tells old.journal.disk) → StaysAlong base later idle live (tells now.journal.disk)
  stays_failed tells old now position events later given ready entry m recorded extends either is leads named along =
      stays_either tells old now position (installed position (made_in ready)) events later extends either is
      (stand_whole base later position leads)
      (λ one other stand. inr (record {
        doubt = entry;
        failed = named;
        id = given.issuer;
        group = given.group;
        text = given.text;
        command = m.command;
        record_is = recorded;
        accepted = subst (λ (p : Position). outcome p given.issuer given.group given.text ≡ Ok m.command) (sym leads) m.accepted;
        stand = subst (λ (p : Position). StandsFor (installed p (made_at p.image m.command)) one other) (sym leads)
            (subst (λ (k : Made). StandsFor (installed position k) one other) (sym m.made_is) stand);
      }))
      along
