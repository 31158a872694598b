use Rattle.std.proofs.Common.{◌≡◌, ℕ, ◌+◌, ◌≤◌, true, false, List, [], ◌∷◌, ◌++◌, Option, Some, refl, sym, ◌∙◌, ap, subst}
use Rattle.std.specs.Prelude.{is_some}
use Rattle.racf_outside.specs.Causes.{Rose}
use Rattle.racf_checkpoint.specs.Stored.{StoreOn}
use Rattle.command_history.specs.declared.events.Accepted.{Accepted}
use Rattle.desk_rules.specs.Durable.{SameIdle, LeavesIt, StaysEither}
use Rattle.desk_rules.proofs.IdleLaws.{same_idle, same_idle-then}
use Rattle.desk_rules.specs.Outcome.{outcome}
use Rattle.desk_rules.specs.Position.{Position}
use Rattle.desk_rules.specs.Made.{DeskOn, made_in, installed, number_at}
use Rattle.command_history.specs.declared.events.Event.{Event}
use Rattle.command_history.specs.declared.events.Event.TheVariants.{Added}
use Rattle.raclist_snapshots.specs.Publishing.{Publishing, ended_with, MarkIs}
use Rattle.racroute.specs.Core.{Core, Passing}
use Rattle.racroute.specs.Kept.{IsMadeEntry, disks_before}
use Rattle.racroute.specs.Replies.{Given, given_by, SaysHalted, SaysFailed, SaysAccepted, GoesOn, Stops}
use Rattle.raclist_snapshots.proofs.Marks.{mark_any}
use Rattle.racroute.proofs.Making.{made_of}
use Rattle.racroute.proofs.Serving.{accepted_kept, entry_is, failed_kept}
use Rattle.racroute.proofs.Says.{accepted_goes_on, failed_stops, goes_on, is_made, says_accepted, says_failed, says_halted}
use Rattle.racroute.proofs.office.Office.carry_out.Goals as goal

-- the history has ended so
pub returns-in-Ok-clause-says : goal.returns-in-Ok-clause-says
returns-in-Ok-clause-says g c =
    let D = g.row.D.Denot in
    let base = g.J.Naming.base in
    let o = c.self.inside in
    let core : Core D = record { events = o.publisher.events; position = o.desk.position; store = o.desk.store; doubt = o.doubt; passes = o.passes; decks = o.rest } in
    let i = c.pass.inside in
    let back : Passing = record { deck = i.deck; commands = i.commands.amount; faults = i.faults.amount } in
    let later = c.tell_final.new.self.events in
    subst (λ (l : List Event). SaysHalted base c.number-number.result l later c.args.pass.now back) (ap (λ (k : Core D). k.events) c.self.view_is)
    (says_halted g.D.Disk.tells g.D.Disk.faults base (disks_before g.J.Naming.faults g.J.Naming.idle_faults g.J.Naming.live_disk g.J.Naming.idle_disk) core o.past.items o.commands.total o.faults.total o.out.total c.self.invariant.4
    c.number-number.result later c.args.pass.now back (sym c.self.invariant.3 ∙ (sym c.halted.ensures ∙ c.if-halted.true)) c.number-number.ensures
    (ap (λ (p : Publishing). p.events) c.in-Ok.ensures.ended) c.pass.view_is)

-- what the desk made goes on from the history
pub hold-requires-clause-made : goal.hold-requires-clause-made
hold-requires-clause-made g c =
    let D = g.row.D.Denot in
    let o = c.self.inside in
    let core : Core D = record { events = o.publisher.events; position = o.desk.position; store = o.desk.store; doubt = o.doubt; passes = o.passes; decks = o.rest } in
    is_made g.D.Disk.tells g.D.Disk.faults g.J.Naming.base (disks_before g.J.Naming.faults g.J.Naming.idle_faults g.J.Naming.live_disk g.J.Naming.idle_disk) core o.past.items o.commands.total o.faults.total o.out.total c.self.invariant.4
    (given_by c.args.issuer c.args.group c.args.text.now) c.in-Ok-judge.made c.in-Ok-judge.ensures.accepted

-- a history that goes on has no mark
pub tell_final-requires-in-Err-commit : goal.tell_final-requires-in-Err-commit
tell_final-requires-in-Err-commit g c =
    let D = g.row.D.Denot in
    let o = c.self.inside in
    let core : Core D = record { events = o.publisher.events; position = o.desk.position; store = o.desk.store; doubt = o.doubt; passes = o.passes; decks = o.rest } in
    let goes = goes_on g.D.Disk.tells g.D.Disk.faults g.J.Naming.base (disks_before g.J.Naming.faults g.J.Naming.idle_faults g.J.Naming.live_disk g.J.Naming.idle_disk) core o.past.items o.commands.total o.faults.total o.out.total c.self.invariant.4
    c.pass.inside.out.amount (sym c.self.invariant.3 ∙ (sym c.halted.ensures ∙ c.if-halted.false)) c.pass.invariant.3 c.audit.ensures.bound in
    let doubt : Option Accepted = Some c.in-Ok-hold.entry in
    record { mark = subst (λ (l : List Event). MarkIs doubt l) (sym (ap (λ (p : Publishing). p.events) c.in-Ok-hold.ensures.held)) (mark_any doubt o.publisher.events goes) }

-- a disk failed the command
pub invariant_of-self-in-Ok-tell_final : goal.invariant_of-self-in-Ok-tell_final
invariant_of-self-in-Ok-tell_final g c =
    let D = g.row.D.Denot in
    let tells = g.D.Disk.tells in
    let counted = g.D.Disk.faults in
    let base = g.J.Naming.base in
    let o = c.self.inside in
    let core : Core D = record { events = o.publisher.events; position = o.desk.position; store = o.desk.store; doubt = o.doubt; passes = o.passes; decks = o.rest } in
    let entry = c.in-Ok-hold.entry in
    let desk = c.commit.new.self in
    let later = c.tell_final-in-Err-commit.new.self in
    let now : Core D = record { events = later.events; position = desk.position; store = desk.store; doubt = Some entry; passes = o.passes; decks = o.rest } in
    let runs : is_some o.doubt ≡ false = sym c.self.invariant.3 ∙ (sym c.halted.ensures ∙ c.if-halted.false) in
    let goes = goes_on tells counted base (disks_before g.J.Naming.faults g.J.Naming.idle_faults g.J.Naming.live_disk g.J.Naming.idle_disk) core o.past.items o.commands.total o.faults.total o.out.total c.self.invariant.4
    c.pass.inside.out.amount runs c.pass.invariant.3 c.audit.ensures.bound in
    let made = c.in-Ok-judge.ensures.made in
    let halted = c.in-Err-commit.ensures.halted in
    let stood : c.judge.new.self.position ≡ o.desk.position = ap (λ (d : DeskOn D). d.position) made in
    let given : Given = given_by c.args.issuer c.args.group c.args.text.now in
    let ready = c.in-Ok-judge.made in
    let m = made_of o.desk.position.image (outcome o.desk.position given.issuer given.group given.text) (made_in ready) c.in-Ok-judge.ensures.accepted in
    let is = entry_is c.accepted_commands_are_written.ensures c.an_entry_has_the_record_of_its_command.ensures o.desk.position given ready c.pass.inside.deck entry m c.in-Ok-hold.ensures.entry in
    let stored : c.judge.new.self.store ≡ o.desk.store = ap (λ (d : DeskOn D). d.store) made in
    let either = subst (λ (s : StoreOn D). StaysEither tells s desk.store o.desk.position (installed o.desk.position (made_in ready))) stored
    (subst (λ (p : Position). StaysEither tells c.judge.new.self.store desk.store p (installed p (made_in ready))) stood c.in-Err-commit.ensures.moments) in (
      ap (λ (d : DeskOn D). d.committed) halted ∙ (ap (λ (d : DeskOn D). d.committed) made ∙ c.self.invariant.0),
      ap (λ (p : Publishing). p.held) c.in-Ok-tell_final.ensures.ended,
      c.self.invariant.2,
      ap (λ (d : DeskOn D). d.halted) halted,
      failed_kept tells counted base (disks_before g.J.Naming.faults g.J.Naming.idle_faults g.J.Naming.live_disk g.J.Naming.idle_disk) core now o.past.items c.hold.new.history.items o.commands.total o.faults.total o.out.total
          o.commands.total c.add.new.self.total c.audit.new.self.total given ready entry m is.record_is c.self.invariant.4 goes runs
          (ap (λ (p : Publishing). p.events) c.in-Ok-tell_final.ensures.ended ∙ ap (λ (p : Publishing). ended_with (Some entry) p.events) c.in-Ok-hold.ensures.held)
          (ap (λ (d : DeskOn D). d.position) halted ∙ stood) refl refl
          (subst (λ (s : StoreOn D). counted s.journal.disk ≤ counted desk.store.journal.disk) stored c.in-Err-commit.ensures.cause.no_fewer)
          (subst (λ (s : StoreOn D). Rose (counted s.journal.disk) (counted desk.store.journal.disk)) stored c.in-Err-commit.ensures.cause.cause)
          either (same_idle-then o.desk.store c.judge.new.self.store desk.store (same_idle o.desk.store c.judge.new.self.store stored) c.in-Err-commit.ensures.idle) c.in-Ok-hold.ensures.items refl c.add.ensures.total c.audit.ensures.total,
    )

pub returns-in-Ok-tell_final-clause-says : goal.returns-in-Ok-tell_final-clause-says
returns-in-Ok-tell_final-clause-says g c =
    let D = g.row.D.Denot in
    let tells = g.D.Disk.tells in
    let counted = g.D.Disk.faults in
    let base = g.J.Naming.base in
    let o = c.self.inside in
    let core : Core D = record { events = o.publisher.events; position = o.desk.position; store = o.desk.store; doubt = o.doubt; passes = o.passes; decks = o.rest } in
    let i = c.pass.inside in
    let back : Passing = record { deck = i.deck; commands = i.commands.amount; faults = c.add.new.share.amount } in
    let later = c.tell_final-in-Err-commit.new.self.events in
    let goes = goes_on tells counted base (disks_before g.J.Naming.faults g.J.Naming.idle_faults g.J.Naming.live_disk g.J.Naming.idle_disk) core o.past.items o.commands.total o.faults.total o.out.total c.self.invariant.4
    c.pass.inside.out.amount (sym c.self.invariant.3 ∙ (sym c.halted.ensures ∙ c.if-halted.false)) c.pass.invariant.3 c.audit.ensures.bound in
    let given : Given = given_by c.args.issuer c.args.group c.args.text.now in
    let entry = c.in-Ok-hold.entry in
    let ready = c.in-Ok-judge.made in
    let m = made_of o.desk.position.image (outcome o.desk.position given.issuer given.group given.text) (made_in ready) c.in-Ok-judge.ensures.accepted in
    let left : c.commit.new.self.position ≡ o.desk.position =
    ap (λ (d : DeskOn D). d.position) c.in-Err-commit.ensures.halted ∙ ap (λ (d : DeskOn D). d.position) c.in-Ok-judge.ensures.made in
    subst (λ (l : List Event). SaysFailed base given c.number-number-in-Err-commit.result l later c.args.pass.now back) (ap (λ (k : Core D). k.events) c.self.view_is)
    (says_failed tells counted base (disks_before g.J.Naming.faults g.J.Naming.idle_faults g.J.Naming.live_disk g.J.Naming.idle_disk) core o.past.items o.commands.total o.faults.total o.out.total c.self.invariant.4
    given ready c.number-number-in-Err-commit.result entry later c.args.pass.now back
    c.accepted_commands_are_written.ensures c.an_entry_has_the_record_of_its_command.ensures m
    (subst (λ (deck : ℕ). IsMadeEntry deck ready entry) (ap (λ (p : Passing). p.deck) c.pass.view_is) c.in-Ok-hold.ensures.entry)
    goes (c.number-number-in-Err-commit.ensures ∙ ap number_at left)
    (ap (λ (p : Publishing). p.events) c.in-Ok-tell_final.ensures.ended ∙ ap (λ (p : Publishing). ended_with (Some entry) p.events) c.in-Ok-hold.ensures.held)
    (ap (λ (n : ℕ). let p : Passing = record { deck = i.deck; commands = i.commands.amount; faults = n } in p) c.add.ensures.amount
    ∙ ap (λ (p : Passing). record p { faults = p.faults + 1 }) c.pass.view_is))

-- the desk's disks on the way
pub returns-in-Ok-tell_final-clause-leaves : goal.returns-in-Ok-tell_final-clause-leaves
returns-in-Ok-tell_final-clause-leaves g c =
    let D = g.row.D.Denot in
    let tells = g.D.Disk.tells in
    let counted = g.D.Disk.faults in
    let base = g.J.Naming.base in
    let o = c.self.inside in
    let core : Core D = record { events = o.publisher.events; position = o.desk.position; store = o.desk.store; doubt = o.doubt; passes = o.passes; decks = o.rest } in
    let entry = c.in-Ok-hold.entry in
    let desk = c.commit.new.self in
    let later = c.tell_final-in-Err-commit.new.self in
    let now : Core D = record { events = later.events; position = desk.position; store = desk.store; doubt = Some entry; passes = o.passes; decks = o.rest } in
    let runs : is_some o.doubt ≡ false = sym c.self.invariant.3 ∙ (sym c.halted.ensures ∙ c.if-halted.false) in
    let goes = goes_on tells counted base (disks_before g.J.Naming.faults g.J.Naming.idle_faults g.J.Naming.live_disk g.J.Naming.idle_disk) core o.past.items o.commands.total o.faults.total o.out.total c.self.invariant.4
    c.pass.inside.out.amount runs c.pass.invariant.3 c.audit.ensures.bound in
    let made = c.in-Ok-judge.ensures.made in
    let halted = c.in-Err-commit.ensures.halted in
    let stood : c.judge.new.self.position ≡ o.desk.position = ap (λ (d : DeskOn D). d.position) made in
    let given : Given = given_by c.args.issuer c.args.group c.args.text.now in
    let ready = c.in-Ok-judge.made in
    let m = made_of o.desk.position.image (outcome o.desk.position given.issuer given.group given.text) (made_in ready) c.in-Ok-judge.ensures.accepted in
    let is = entry_is c.accepted_commands_are_written.ensures c.an_entry_has_the_record_of_its_command.ensures o.desk.position given ready c.pass.inside.deck entry m c.in-Ok-hold.ensures.entry in
    let stored : c.judge.new.self.store ≡ o.desk.store = ap (λ (d : DeskOn D). d.store) made in
    let either = subst (λ (s : StoreOn D). StaysEither tells s desk.store o.desk.position (installed o.desk.position (made_in ready))) stored
    (subst (λ (p : Position). StaysEither tells c.judge.new.self.store desk.store p (installed p (made_in ready))) stood c.in-Err-commit.ensures.moments) in
    subst (λ (k : Core D). Stops base tells counted k now) c.self.view_is
    (failed_stops tells counted base (disks_before g.J.Naming.faults g.J.Naming.idle_faults g.J.Naming.live_disk g.J.Naming.idle_disk) core o.past.items o.commands.total o.faults.total o.out.total c.self.invariant.4
    now given ready entry m is.record_is goes runs
    (ap (λ (p : Publishing). p.events) c.in-Ok-tell_final.ensures.ended ∙ ap (λ (p : Publishing). ended_with (Some entry) p.events) c.in-Ok-hold.ensures.held)
    (ap (λ (d : DeskOn D). d.position) halted ∙ stood) refl refl refl
    (subst (λ (s : StoreOn D). counted s.journal.disk ≤ counted desk.store.journal.disk) stored c.in-Err-commit.ensures.cause.no_fewer)
    (subst (λ (s : StoreOn D). Rose (counted s.journal.disk) (counted desk.store.journal.disk)) stored c.in-Err-commit.ensures.cause.cause)
    either (same_idle-then o.desk.store c.judge.new.self.store desk.store (same_idle o.desk.store c.judge.new.self.store stored) c.in-Err-commit.ensures.idle))

-- the command is accepted and published
pub invariant_of-self-in-Ok-tell : goal.invariant_of-self-in-Ok-tell
invariant_of-self-in-Ok-tell g c =
    let D = g.row.D.Denot in
    let tells = g.D.Disk.tells in
    let counted = g.D.Disk.faults in
    let base = g.J.Naming.base in
    let o = c.self.inside in
    let core : Core D = record { events = o.publisher.events; position = o.desk.position; store = o.desk.store; doubt = o.doubt; passes = o.passes; decks = o.rest } in
    let desk = c.install-number.new.self in
    let later = c.tell.new.self in
    let now : Core D = record { events = later.events; position = desk.position; store = desk.store; doubt = o.doubt; passes = o.passes; decks = o.rest } in
    let runs : is_some o.doubt ≡ false = sym c.self.invariant.3 ∙ (sym c.halted.ensures ∙ c.if-halted.false) in
    let goes = goes_on tells counted base (disks_before g.J.Naming.faults g.J.Naming.idle_faults g.J.Naming.live_disk g.J.Naming.idle_disk) core o.past.items o.commands.total o.faults.total o.out.total c.self.invariant.4
    c.pass.inside.out.amount runs c.pass.invariant.3 c.audit.ensures.bound in
    let entry = c.in-Ok-hold.entry in
    let made = made_in c.in-Ok-judge.made in
    let installed_is = c.install-number.ensures.installed in
    let left : c.commit.new.self.position ≡ o.desk.position =
    ap (λ (d : DeskOn D). d.position) c.in-Ok-commit.ensures.committed ∙ ap (λ (d : DeskOn D). d.position) c.in-Ok-judge.ensures.made in
    let stored : c.judge.new.self.store ≡ o.desk.store = ap (λ (d : DeskOn D). d.store) c.in-Ok-judge.ensures.made in
    let kept_store : desk.store ≡ c.commit.new.self.store = ap (λ (d : DeskOn D). d.store) installed_is in
    let stood : c.judge.new.self.position ≡ o.desk.position = ap (λ (d : DeskOn D). d.position) c.in-Ok-judge.ensures.made in
    let either = subst (λ (s : StoreOn D). StaysEither tells o.desk.store s o.desk.position (installed o.desk.position made)) (sym kept_store)
    (subst (λ (s : StoreOn D). StaysEither tells s c.commit.new.self.store o.desk.position (installed o.desk.position made)) stored
    (subst (λ (p : Position). StaysEither tells c.judge.new.self.store c.commit.new.self.store p (installed p made)) stood c.in-Ok-commit.ensures.moments)) in
    let idle : SameIdle o.desk.store desk.store =
    same_idle-then o.desk.store c.commit.new.self.store desk.store
    (same_idle-then o.desk.store c.judge.new.self.store c.commit.new.self.store (same_idle o.desk.store c.judge.new.self.store stored) c.in-Ok-commit.ensures.idle)
    (same_idle c.commit.new.self.store desk.store kept_store) in
    let leaves : LeavesIt tells desk.store (installed o.desk.position made) =
    subst (λ (s : StoreOn D). LeavesIt tells s (installed o.desk.position made)) (sym kept_store)
    (subst (λ (p : Position). LeavesIt tells c.commit.new.self.store (installed p made)) stood c.in-Ok-commit.ensures.leaves) in (
      ap (λ (d : DeskOn D). d.committed) installed_is,
      ap (λ (p : Publishing). p.held) c.in-Ok-tell.ensures.told ∙ ap (λ (p : Publishing). p.held) c.publish.ensures,
      c.self.invariant.2,
      ap (λ (d : DeskOn D). d.halted) installed_is ∙ sym runs,
      accepted_kept tells counted base (disks_before g.J.Naming.faults g.J.Naming.idle_faults g.J.Naming.live_disk g.J.Naming.idle_disk) core now o.past.items c.push_reserved.new.self.items o.commands.total o.faults.total o.out.total
          c.add-2.new.self.total o.faults.total c.audit.new.self.total entry made c.self.invariant.4 goes runs
          c.in-Ok-hold.ensures.legal c.in-Ok-hold.ensures.leads
          (ap (λ (p : Publishing). p.events) c.in-Ok-tell.ensures.told
          ∙ (ap (λ (p : Publishing). p.events) c.publish.ensures ∙ ap (λ (p : Publishing). p.events ++ Added entry ∷ []) c.in-Ok-hold.ensures.held))
          (ap (λ (d : DeskOn D). d.position) installed_is ∙ ap (λ (p : Position). installed p made) left)
          refl refl
          (subst (λ (s : StoreOn D). counted o.desk.store.journal.disk ≤ counted s.journal.disk) (sym kept_store)
          (subst (λ (s : StoreOn D). counted s.journal.disk ≤ counted c.commit.new.self.store.journal.disk) stored c.in-Ok-commit.ensures.cause.no_fewer))
          either idle leaves
          (c.push_reserved.ensures.items ∙ ap (λ (l : List Accepted). l ++ entry ∷ []) c.in-Ok-hold.ensures.items)
          c.add-2.ensures.total refl c.audit.ensures.total,
    )

pub returns-in-Ok-tell-clause-says : goal.returns-in-Ok-tell-clause-says
returns-in-Ok-tell-clause-says g c =
    let D = g.row.D.Denot in
    let tells = g.D.Disk.tells in
    let counted = g.D.Disk.faults in
    let base = g.J.Naming.base in
    let o = c.self.inside in
    let core : Core D = record { events = o.publisher.events; position = o.desk.position; store = o.desk.store; doubt = o.doubt; passes = o.passes; decks = o.rest } in
    let i = c.pass.inside in
    let back : Passing = record { deck = i.deck; commands = c.add-2.new.share.amount; faults = i.faults.amount } in
    let later = c.tell.new.self.events in
    let goes = goes_on tells counted base (disks_before g.J.Naming.faults g.J.Naming.idle_faults g.J.Naming.live_disk g.J.Naming.idle_disk) core o.past.items o.commands.total o.faults.total o.out.total c.self.invariant.4
    c.pass.inside.out.amount (sym c.self.invariant.3 ∙ (sym c.halted.ensures ∙ c.if-halted.false)) c.pass.invariant.3 c.audit.ensures.bound in
    let given : Given = given_by c.args.issuer c.args.group c.args.text.now in
    let entry = c.in-Ok-hold.entry in
    let ready = c.in-Ok-judge.made in
    subst (λ (l : List Event). SaysAccepted base given c.install-number.result l later c.args.pass.now back) (ap (λ (k : Core D). k.events) c.self.view_is)
    (says_accepted tells counted base (disks_before g.J.Naming.faults g.J.Naming.idle_faults g.J.Naming.live_disk g.J.Naming.idle_disk) core o.past.items o.commands.total o.faults.total o.out.total c.self.invariant.4
    given ready c.install-number.result entry later c.args.pass.now back
    c.accepted_commands_are_written.ensures c.an_entry_has_the_record_of_its_command.ensures c.in-Ok-judge.ensures.accepted goes
    (subst (λ (deck : ℕ). IsMadeEntry deck ready entry) (ap (λ (p : Passing). p.deck) c.pass.view_is) c.in-Ok-hold.ensures.entry)
    c.in-Ok-hold.ensures.leads c.install-number.ensures.number
    (ap (λ (p : Publishing). p.events) c.in-Ok-tell.ensures.told
    ∙ (ap (λ (p : Publishing). p.events) c.publish.ensures ∙ ap (λ (p : Publishing). p.events ++ Added entry ∷ []) c.in-Ok-hold.ensures.held))
    (ap (λ (n : ℕ). let p : Passing = record { deck = i.deck; commands = n; faults = i.faults.amount } in p) c.add-2.ensures.amount
    ∙ ap (λ (p : Passing). record p { commands = p.commands + 1 }) c.pass.view_is))

pub returns-in-Ok-tell-clause-leaves : goal.returns-in-Ok-tell-clause-leaves
returns-in-Ok-tell-clause-leaves g c =
    let D = g.row.D.Denot in
    let tells = g.D.Disk.tells in
    let counted = g.D.Disk.faults in
    let base = g.J.Naming.base in
    let o = c.self.inside in
    let core : Core D = record { events = o.publisher.events; position = o.desk.position; store = o.desk.store; doubt = o.doubt; passes = o.passes; decks = o.rest } in
    let desk = c.install-number.new.self in
    let later = c.tell.new.self in
    let now : Core D = record { events = later.events; position = desk.position; store = desk.store; doubt = o.doubt; passes = o.passes; decks = o.rest } in
    let runs : is_some o.doubt ≡ false = sym c.self.invariant.3 ∙ (sym c.halted.ensures ∙ c.if-halted.false) in
    let entry = c.in-Ok-hold.entry in
    let made = made_in c.in-Ok-judge.made in
    let installed_is = c.install-number.ensures.installed in
    let stored : c.judge.new.self.store ≡ o.desk.store = ap (λ (d : DeskOn D). d.store) c.in-Ok-judge.ensures.made in
    let kept_store : desk.store ≡ c.commit.new.self.store = ap (λ (d : DeskOn D). d.store) installed_is in
    let stood : c.judge.new.self.position ≡ o.desk.position = ap (λ (d : DeskOn D). d.position) c.in-Ok-judge.ensures.made in
    let either = subst (λ (s : StoreOn D). StaysEither tells o.desk.store s o.desk.position (installed o.desk.position made)) (sym kept_store)
    (subst (λ (s : StoreOn D). StaysEither tells s c.commit.new.self.store o.desk.position (installed o.desk.position made)) stored
    (subst (λ (p : Position). StaysEither tells c.judge.new.self.store c.commit.new.self.store p (installed p made)) stood c.in-Ok-commit.ensures.moments)) in
    let idle : SameIdle o.desk.store desk.store =
    same_idle-then o.desk.store c.commit.new.self.store desk.store
    (same_idle-then o.desk.store c.judge.new.self.store c.commit.new.self.store (same_idle o.desk.store c.judge.new.self.store stored) c.in-Ok-commit.ensures.idle)
    (same_idle c.commit.new.self.store desk.store kept_store) in
    subst (λ (k : Core D). GoesOn base tells counted k now) c.self.view_is
    (accepted_goes_on tells counted base (disks_before g.J.Naming.faults g.J.Naming.idle_faults g.J.Naming.live_disk g.J.Naming.idle_disk) core o.past.items o.commands.total o.faults.total o.out.total c.self.invariant.4
    now entry made runs c.in-Ok-hold.ensures.leads
    (ap (λ (p : Publishing). p.events) c.in-Ok-tell.ensures.told
    ∙ (ap (λ (p : Publishing). p.events) c.publish.ensures ∙ ap (λ (p : Publishing). p.events ++ Added entry ∷ []) c.in-Ok-hold.ensures.held))
    refl refl refl
    (subst (λ (s : StoreOn D). counted o.desk.store.journal.disk ≤ counted s.journal.disk) (sym kept_store)
    (subst (λ (s : StoreOn D). counted s.journal.disk ≤ counted c.commit.new.self.store.journal.disk) stored c.in-Ok-commit.ensures.cause.no_fewer))
    either idle)
