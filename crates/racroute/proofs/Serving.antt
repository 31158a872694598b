-- An office behind a command.
use Rattle.std.proofs.Common.{◌≡◌, ℕ, ◌+◌, ◌≤◌, true, false, List, [], ◌∷◌, ◌++◌, length, Bool, Option, Some, None, Ok, sym, ◌∙◌, ap, subst, arith, length-append, inl, inr, if◌then◌else◌}
use Rattle.std.specs.Prelude.{is_some}
use Rattle.racf_outside.specs.Causes.{Rose}
use Rattle.racf_outside.specs.Disk.{History}
use Rattle.command_parser.specs.Canonical.{canonical, IsWritten}
use Rattle.journal_records.specs.declared.record.CommandRecord.{CommandRecord}
use Rattle.desk_rules.specs.declared.answers.Ready.{Ready}
use Rattle.desk_rules.specs.Outcome.{outcome}
use Rattle.checkpoint_disks.specs.declared.counting.Side.TheVariants.{First, Second}
use Rattle.racf_checkpoint.specs.Stored.{disk_on}
use Rattle.desk_rules.specs.Durable.{SameIdle, idle_of, LeavesIt, StaysEither}
use Rattle.desk_rules.proofs.IdleLaws.{same_idle-told}
use Rattle.desk_rules.specs.Made.{Made, made_in, installed}
use Rattle.desk_rules.specs.Position.{Position}
use Rattle.command_history.specs.declared.events.Accepted.{Accepted}
use Rattle.command_history.specs.declared.events.Event.{Event}
use Rattle.command_history.specs.declared.events.Event.TheVariants.{Added, Ended}
use Rattle.command_history.specs.Events.{entries_of, failed_of, is_ended, Extends}
use Rattle.command_history.specs.Reached.{reached, record_of, AreLegal}
use Rattle.command_history.proofs.Extensions.{extends_push}
use Rattle.command_history.proofs.Leading.{reached_ended, reached_none}
use Rattle.raclist_snapshots.specs.Publishing.{ended_with}
use Rattle.racroute.specs.Core.{Core}
use Rattle.racroute.specs.Disks.{IsInDoubt, StandAt}
use Rattle.racroute.specs.Kept.{DisksBefore, IsMadeEntry, IsOffice, fault_count}
use Rattle.racroute.specs.Replies.{Given, IsEntry}
use Rattle.racroute.proofs.Along.{stays_accepted, stays_begun, stays_failed}
use Rattle.racroute.proofs.Making.{IsMadeOf}
use Rattle.racroute.proofs.Standing.{at_rest, in_doubt}
use Rattle.command_history.proofs.Marks.{goes_push, entries_added}
use Rattle.raclist_snapshots.proofs.Marks.{mark_any, ended_ends, failed_ended, ended_more, entries_ended}

abbrev pub AreWritten : Type 0
AreWritten = (position : Position) (id : List ℕ) (group : Option (List ℕ)) (text : List ℕ) (given : CommandRecord) →
    outcome position id group text ≡ Ok given → IsWritten given.command (canonical given.command)

abbrev pub AreRecorded : Type 0
AreRecorded = (entry : Accepted) (given : CommandRecord) → IsWritten given.command (canonical given.command) →
    entry.issuer ≡ given.issuer → entry.text ≡ canonical given.command → record_of entry ≡ Some given

pub entry_is : AreWritten → AreRecorded → (position : Position) (given : Given) (ready : Ready) (deck : ℕ) (entry : Accepted)
    → (made : IsMadeOf position.image (outcome position given.issuer given.group given.text) (made_in ready)) → IsMadeEntry deck ready entry
    → IsEntry deck made.command entry
entry_is written recorded position given ready deck entry made is =
    let issuer : entry.issuer ≡ made.command.issuer = is.issuer_is ∙ ap (λ (m : Made). m.issuer) (sym made.made_is) in
    let text : entry.text ≡ canonical made.command.command = is.text_is ∙ ap (λ (m : Made). m.text) (sym made.made_is) in
    record {
      deck_is = is.deck_is;
      issuer_is = issuer;
      text_is = text;
      record_is = recorded entry made.command (written position given.issuer given.group given.text made.command made.accepted) issuer text;
    }

risen : (a b c : ℕ) → a ≤ b → Rose b c → Rose a c
risen a b c le (inl lt) = inl (omega arith)
risen a b c le (inr last) = inr last

module _ {D : Type 0} (tells : D → Option History) (counted : D → ℕ) (base : Position) (before : DisksBefore) where
  -- what an accepted command leaves
  pub accepted_kept : (core now : Core D) (history later : List Accepted) (commands faults out commands' faults' out' : ℕ) (entry : Accepted) (made : Made)
      → IsOffice tells counted base before core history commands faults out
      → is_ended core.events ≡ false → is_some core.doubt ≡ false
      → AreLegal base (entries_of (core.events ++ Added entry ∷ []))
      → reached base (core.events ++ Added entry ∷ []) ≡ installed (reached base core.events) made
      → now.events ≡ core.events ++ Added entry ∷ [] → now.position ≡ installed core.position made → now.doubt ≡ core.doubt → now.passes ≡ core.passes
      → counted core.store.journal.disk ≤ counted now.store.journal.disk
      → StaysEither tells core.store now.store core.position (installed core.position made) → SameIdle core.store now.store
      → LeavesIt tells now.store (installed core.position made)
      → later ≡ history ++ entry ∷ [] → commands' ≡ commands + 1 → faults' ≡ faults → out' ≡ out
      → IsOffice tells counted base before now later commands' faults' out'
  accepted_kept core now history later commands faults out commands' faults' out' entry made kept goes runs legal leads events position still passes fewer either idle leaves items more same outs =
      let rests : is_some now.doubt ≡ false = ap is_some still ∙ runs in
      let goes' : is_ended now.events ≡ false = rw events (goes_push core.events entry goes) in
      let extends : Extends core.events now.events = subst (Extends core.events) (sym events) (extends_push core.events (Added entry) goes) in
      let there : reached base now.events ≡ installed core.position made =
      ap (reached base) events ∙ (leads ∙ ap (λ (p : Position). installed p made) (sym kept.position)) in
      record {
        position = position ∙ (ap (λ (p : Position). installed p made) kept.position ∙ (sym leads ∙ ap (reached base) (sym events)));
        legal = rw events legal;
        entries_are = items ∙ (ap (λ (l : List Accepted). l ++ entry ∷ []) kept.entries_are ∙ (sym (entries_added core.events entry) ∙ ap entries_of (sym events)));
        commands_are = let len = length-append history (entry ∷ []) in
            let all : length later ≡ length (history ++ entry ∷ []) = ap length items in
            let had = kept.commands_are in omega arith;
        faults_are = same ∙ (kept.faults_are ∙ ap fault_count (sym still));
        passes_are = outs ∙ (kept.passes_are ∙ sym passes);
        mark = mark_any now.doubt now.events goes';
        halted = λ h. absurd (cc (h, rests));
        ended = λ e. absurd (cc (e, goes'));
        no_fewer = let had = kept.no_fewer in omega arith;
        rose = λ h. absurd (cc (h, rests));
        stand = at_rest tells now.store now.doubt now.position rests (subst (LeavesIt tells now.store) (sym position) leaves);
        moments = stays_accepted base before.idle before.live tells core.store now.store core.position (installed core.position made)
            core.events now.events extends either kept.idle (sym kept.position) there kept.moments;
        idle = same_idle-told tells core.store now.store idle ∙ kept.idle;
        idle_faults = ap counted idle.idle ∙ kept.idle_faults;
      }

  -- what a command leaves that a disk failed
  pub failed_kept : (core now : Core D) (history later : List Accepted) (commands faults out commands' faults' out' : ℕ) (given : Given) (ready : Ready) (entry : Accepted)
      → (m : IsMadeOf core.position.image (outcome core.position given.issuer given.group given.text) (made_in ready)) → record_of entry ≡ Some m.command
      → IsOffice tells counted base before core history commands faults out
      → is_ended core.events ≡ false → is_some core.doubt ≡ false
      → now.events ≡ ended_with (Some entry) core.events → now.position ≡ core.position → now.doubt ≡ Some entry → now.passes ≡ core.passes
      → counted core.store.journal.disk ≤ counted now.store.journal.disk
      → Rose (counted core.store.journal.disk) (counted now.store.journal.disk)
      → StaysEither tells core.store now.store core.position (installed core.position (made_in ready)) → SameIdle core.store now.store
      → later ≡ history → commands' ≡ commands → faults' ≡ faults + 1 → out' ≡ out
      → IsOffice tells counted base before now later commands' faults' out'
  failed_kept core now history later commands faults out commands' faults' out' given ready entry m recorded kept goes runs events position halts passes fewer rose either idle items same more outs =
      let doubt : Option Accepted = Some entry in
      let count : Bool → ℕ = λ b. if b then 1 else 0 in
      let none : faults ≡ 0 = kept.faults_are ∙ ap count runs in
      let named : failed_of now.events ≡ doubt = ap failed_of events ∙ failed_ended doubt core.events (mark_any doubt core.events goes) in
      let ends : now.events ≡ core.events ++ Ended doubt ∷ [] = events ∙ ended_more doubt core.events goes in
      let extends : Extends core.events now.events = subst (Extends core.events) (sym ends) (extends_push core.events (Ended doubt) goes) in
      let there : core.position ≡ reached base now.events = kept.position ∙ (sym (reached_ended base core.events doubt) ∙ ap (reached base) (sym ends)) in
      let first : Option History = tells (disk_on First now.store) in
      let second : Option History = tells (disk_on Second now.store) in
      record {
        position = position ∙ there;
        legal = subst (AreLegal base) (sym (entries_ended doubt core.events) ∙ ap entries_of (sym events)) kept.legal;
        entries_are = items ∙ (kept.entries_are ∙ (sym (entries_ended doubt core.events) ∙ ap entries_of (sym events)));
        commands_are = same ∙ (kept.commands_are ∙ ap length (sym items));
        faults_are = more ∙ (ap (λ n. n + 1) none ∙ ap fault_count (sym halts));
        passes_are = outs ∙ (kept.passes_are ∙ sym passes);
        mark = λ _. named ∙ sym halts;
        halted = λ _. ap is_ended events ∙ ended_ends doubt core.events;
        ended = λ _ h. absurd (let e : false ≡ true = sym h ∙ ap is_some halts in cc e);
        no_fewer = let had = kept.no_fewer in omega arith;
        rose = λ _. risen before.faults (counted core.store.journal.disk) (counted now.store.journal.disk) kept.no_fewer rose;
        stand = subst (λ (o : Option Accepted). StandAt o first second now.position) (sym halts)
            (subst (λ (p : Position). IsInDoubt first second p entry) (sym position) (in_doubt tells core.store now.store core.position given ready entry m recorded either idle));
        moments = stays_failed base before.idle before.live tells core.store now.store core.position core.events now.events given ready entry m recorded
            extends either kept.idle (sym there) named kept.moments;
        idle = same_idle-told tells core.store now.store idle ∙ kept.idle;
        idle_faults = ap counted idle.idle ∙ kept.idle_faults;
      }

  -- an office in which nothing has happened
  pub opened_kept : (core : Core D) (history : List Accepted) (commands faults out : ℕ)
      → core.events ≡ [] → core.position ≡ base → core.doubt ≡ None → before.faults ≤ counted core.store.journal.disk → before.idle_faults ≡ counted core.store.idle
      → (before.live ≡ tells core.store.journal.disk) × (before.idle ≡ idle_of tells core.store) → LeavesIt tells core.store core.position
      → history ≡ [] → commands ≡ 0 → faults ≡ 0 → out ≡ core.passes
      → IsOffice tells counted base before core history commands faults out
  opened_kept core history commands faults out events position runs fewer counts disks leaves items none faultless outs =
      let goes : is_ended core.events ≡ false = ap is_ended events in
      let rests : is_some core.doubt ≡ false = ap is_some runs in
      let there : core.position ≡ reached base core.events = position ∙ (sym (reached_none base) ∙ ap (reached base) (sym events)) in
      record {
        position = there;
        legal = subst (λ (l : List Event). AreLegal base (entries_of l)) (sym events) tt;
        entries_are = items ∙ ap entries_of (sym events);
        commands_are = none ∙ ap length (sym items);
        faults_are = faultless ∙ ap fault_count (sym runs);
        passes_are = outs;
        mark = mark_any core.doubt core.events goes;
        halted = λ h. absurd (cc (h, rests));
        ended = λ e. absurd (cc (e, goes));
        no_fewer = fewer;
        rose = λ h. absurd (cc (h, rests));
        stand = at_rest tells core.store core.doubt core.position rests leaves;
        moments = stays_begun base before.idle before.live tells core.store core.position core.events leaves (sym there) disks.0 disks.1;
        idle = sym disks.1;
        idle_faults = sym counts;
      }
