use Rattle.std.proofs.Common.{◌≡◌, ℕ, List, [], ◌∷◌, Bool, ◌≤◌, Option, None, Some, inl, inr, true, false, arith, refl, sym, ◌∙◌, ap, subst}
use Rattle.std.specs.Option.{option_to_list}
use Rattle.racf_outside.specs.Causes.{Rose}
use Rattle.racf_outside.specs.Disk.{History}
use Rattle.racf_outside.specs.Reader.{Reader}
use Rattle.racf_outside.proofs.Rises.{Rose-later}
use Rattle.desk_rules.proofs.IdleLaws.{same_idle}
use Rattle.desk_rules.specs.Position.{Position}
use Rattle.statements.specs.declared.issuer.Issuing.{Issuing}
use Rattle.statements.specs.declared.statement.Statement.{Statement}
use Rattle.statements.specs.declared.stopping.Stop.TheVariants.{NoMemory}
use Rattle.racf_stream.specs.Durable.{StreamOn, Moves, MovesBy, LeavesInDoubt, fault_in, most_left_of}
use Rattle.statements.specs.Gathering.{Acknowledges}
use Rattle.statements.specs.NextStatement.{TakesStatements}
use Rattle.racf_stream.specs.Processing.{Works}
use Rattle.racf_stream.specs.Script.{stream}
use Rattle.statements.specs.Inputs.{statements}
use Rattle.racf_stream.specs.Stream.{State}
use Rattle.statements.proofs.Walk.{Walk-settles}
use Rattle.racf_stream.proofs.StreamWalk.{begun, new_runs, goes_on, works_few, acknowledged, cut, stopped, failed_status, unanswered_at}
use Rattle.statements.proofs.Walk.{passed_none}
use Rattle.racf_stream.proofs.Doubt.{doubt_stays}
use Rattle.statements.proofs.Ending.{ends_later}
use Rattle.racf_stream.proofs.Processing.{none_worked}
use Rattle.racf_stream.proofs.LeftLaws.{left_at_least}
use Rattle.racf_stream.proofs.Moments.{StaysAlong-none, moved, moved_none, idle_still, no_fewer, halts}
use Rattle.racf_stream.proofs.scripts.run.Goals as goal

-- what stands of a stream that is as it was
doubt_same : {D : Type 0} (tells : D → Option History) (issuing : Issuing) (base : Position) (source : Option (List ℕ)) (s t : StreamOn D) → t ≡ s
    → (s.state.halted ≡ true → LeavesInDoubt tells issuing base source s.store s.state.position) → t.state.halted ≡ true → LeavesInDoubt tells issuing base source t.store t.state.position
doubt_same tells issuing base source s t same doubt = subst (λ x. x.state.halted ≡ true → LeavesInDoubt tells issuing base source x.store x.state.position) (sym same) doubt

-- what waits, by the number that was read before the statement
acknowledged_at : {rest gathered : List ℕ} {now then : Option (List ℕ)} (number before after : ℕ) → number ≡ before → Acknowledges (after ≡ number) gathered rest now then → Acknowledges (after ≡ before) gathered rest now then
acknowledged_at number before after is (inl kept) = inl (kept.0 ∙ is, kept.1, kept.2)
acknowledged_at number before after is (inr wrote) = inr wrote

pub item-init : goal.item-init
item-init g c =
    let issuing = c.args.stream.now.state.issuing in
    let base = c.args.stream.now.state.position in
    let runs = new_runs issuing base c.args.stream.now.state c.requires.new in
    record {
      walk = begun issuing base c.args.lines.now c.args.stream.now.state _ c.new-replies.result c.requires.begins c.requires.new c.new-replies.ensures;
      most = passed_none c.args.lines.now c.requires.begins;
      along = StaysAlong-none g.D.Disk.tells issuing base c.args.lines.now.left (most_left_of c.args.stream.now.state) c.args.stream.now.store (left_at_least c.args.stream.now.state.halted base.image.generation) (c.is_at_rest.ensures runs);
      doubt = λ halted. let no : true ≡ false = sym halted ∙ runs in cc;
      idle = same_idle c.args.stream.now.store c.args.stream.now.store refl;
      halted = λ halted. cc;
      source_faults = omega arith;
      sink_faults = omega arith;
      disk_faults = omega arith;
    }

-- no item came
pub returns-in-Ok-Err-clause-ran : goal.returns-in-Ok-Err-clause-ran
returns-in-Ok-Err-clause-ran g c =
    let issuing = c.args.stream.now.state.issuing in
    let base = c.args.stream.now.state.position in
    stopped issuing base (λ (s : State). c.item.stream.state ≡ s)
    (Rose c.args.lines.now.faults c.next_statement.new.lines.faults) (Rose (g.O.Sink.faults c.args.sink.now) (g.O.Sink.faults c.end.new.sink))
    c.args.lines.now.left c.item.lines c.next_statement.new.lines 0 c.item.stream.state _ _ _ c.next_statement.new.replies
    (Walk-settles (stream (fault_in c.item.stream) issuing base) _ c.item.lines 0 c.item.stream.state _ _ _ c.item.replies c.next_statement.new.replies c.item.invariant.walk c.in-Ok-Err.ensures.settled)
    refl (omega arith) c.in-Ok-Err.stop c.end.result (rw c.in-Ok-Err.field-0-is at c.in-Ok-Err.ensures.item) c.in-Ok-Err.ensures.limit
    (Rose-later _ _ _ c.item.invariant.source_faults)
    (ends_later _ _ _ c.in-Ok-Err.stop c.item.stream.state.halted c.item.stream.state.has_refused c.end.result c.next_statement.new.replies _ _ (omega (arith, c.item.invariant.sink_faults, c.next_statement.ensures.cause.no_fewer)) c.end.ensures.ended)

-- what is gathered couldn't be written
pub returns-in-Err-clause-ran : goal.returns-in-Err-clause-ran
returns-in-Err-clause-ran g c =
    cut c.args.stream.now.state.issuing c.args.stream.now.state.position (λ (s : State). c.item.stream.state ≡ s)
    (Rose c.args.lines.now.faults c.next_statement.new.lines.faults) (Rose (g.O.Sink.faults c.args.sink.now) (g.O.Sink.faults c.next_statement.new.sink))
    c.args.lines.now.left c.item.lines c.next_statement.new.lines 0 c.item.stream.state _ _ _ c.item.replies
    c.item.invariant.walk refl (omega arith) (Rose-later _ _ _ c.item.invariant.sink_faults c.in-Err.ensures.cause.cause) c.unless_failed.result c.in-Err.ensures.front
    (failed_status c.unless_failed.result c.has_failed.result c.item.stream.state.halted c.unless_failed.ensures c.has_failed.ensures)

-- a statement came
given_moves : {D : Type 0} (tells : D → Option History) (faults : D → ℕ) (given : Option Statement) (item : Statement) (s t : StreamOn D) → given ≡ Some item → Moves tells faults item s t → MovesBy tells faults given s t
given_moves tells faults given item s t is moves = rw is moves

given_works : {D : Type 0} (issuing : Issuing) (base : Position) (given : Option Statement) (item : Statement) (s t : StreamOn D) (gathered now : List ℕ) → given ≡ Some item → Works issuing base (Some item) s t gathered now → Works issuing base given s t gathered now
given_works issuing base given item s t gathered now is works = rw is works

-- memory ran out
pub returns-in-Err-process_statement-clause-ran : goal.returns-in-Err-process_statement-clause-ran
returns-in-Err-process_statement-clause-ran g c =
    let issuing = c.args.stream.now.state.issuing in
    let base = c.args.stream.now.state.position in
    unanswered_at issuing base
    (Rose c.args.lines.now.faults c.next_statement.new.lines.faults) (Rose (g.O.Sink.faults c.args.sink.now) (g.O.Sink.faults c.end-in-Err-process_statement.new.sink))
    c.args.lines.now.left c.item.lines c.next_statement.new.lines.left c.item.stream c.process_statement.new.stream _ _ _ c.next_statement.new.replies c.process_statement.new.replies c.end-in-Err-process_statement.result
    (Walk-settles (stream (fault_in c.item.stream) issuing base) _ c.item.lines 0 c.item.stream.state _ _ _ c.item.replies c.next_statement.new.replies c.item.invariant.walk c.in-Ok-Ok.ensures.settled)
    (c.in-Err-process_statement.ensures.processes issuing base)
    (ends_later _ _ _ NoMemory c.process_statement.new.stream.state.halted c.process_statement.new.stream.state.has_refused c.end-in-Err-process_statement.result c.process_statement.new.replies _ _ (omega (arith, c.item.invariant.sink_faults, c.next_statement.ensures.cause.no_fewer)) c.end-in-Err-process_statement.ensures.ended)

pub returns-in-Err-process_statement-clause-moments : goal.returns-in-Err-process_statement-clause-moments
returns-in-Err-process_statement-clause-moments g c =
    let issuing = c.args.stream.now.state.issuing in
    let base = c.args.stream.now.state.position in
    moved_none g.D.Disk.tells g.D.Disk.faults issuing base c.args.lines.now.left c.args.stream.now.store c.item.stream c.process_statement.new.stream (c.in-Err-process_statement.ensures.processes issuing base).0 c.item.invariant.along

pub returns-in-Err-process_statement-clause-idle : goal.returns-in-Err-process_statement-clause-idle
returns-in-Err-process_statement-clause-idle g c =
    idle_still g.D.Disk.tells g.D.Disk.faults c.args.stream.now.state.issuing c.args.stream.now.state.position c.args.lines.now.left c.args.stream.now.store c.item.stream c.process_statement.new.stream c.in-Ok-Ok.read
    (given_moves g.D.Disk.tells g.D.Disk.faults c.in-Ok-Ok.read c.in-Some.item c.item.stream c.process_statement.new.stream c.in-Some.is c.process_statement.ensures.moves) c.item.invariant.idle

pub returns-in-Err-process_statement-clause-in_doubt : goal.returns-in-Err-process_statement-clause-in_doubt
returns-in-Err-process_statement-clause-in_doubt g c =
    let issuing = c.args.stream.now.state.issuing in
    let base = c.args.stream.now.state.position in
    doubt_same g.D.Disk.tells issuing base c.args.lines.now.left c.item.stream c.process_statement.new.stream (c.in-Err-process_statement.ensures.processes issuing base).0 c.item.invariant.doubt

-- the next line is skipped
none_stays : {D : Type 0} (issuing : Issuing) (base : Position) (given : Option Statement) (s : StreamOn D) (gathered : List ℕ) → given ≡ None → Works issuing base given s s gathered gathered
none_stays issuing base given s gathered none = subst (λ (o : Option Statement). Works issuing base o s s gathered gathered) (sym none) (none_worked issuing base s gathered)

pub item-preserved-in_default : goal.item-preserved-in_default
item-preserved-in_default g c =
    let issuing = c.args.stream.now.state.issuing in
    let base = c.args.stream.now.state.position in
    let takes = rw c.in-Ok-Ok.field-0-is at c.in-Ok-Ok.ensures.item in
    let old = c.item.stream in
    let none = c.in_default.is in
    let before =
    Walk-settles (stream (fault_in old) issuing base) _ c.item.lines 0 old.state _ _ _ c.item.replies c.next_statement.new.replies c.item.invariant.walk c.in-Ok-Ok.ensures.settled in
    record {
      walk = goes_on issuing base c.in-Ok-Ok.read takes.0 _ c.item.lines c.next_statement.new.lines 0 old old _ _ c.next_statement.new.replies c.next_statement.new.replies before takes.1 (none_stays issuing base c.in-Ok-Ok.read old c.next_statement.new.replies none) (omega arith);
      most = c.in-Ok-Ok.ensures.limit;
      along = c.item.invariant.along;
      doubt = c.item.invariant.doubt;
      idle = c.item.invariant.idle;
      halted = c.item.invariant.halted;
      source_faults = omega (arith, c.item.invariant.source_faults, c.next_statement.ensures.faults);
      sink_faults = omega (arith, c.item.invariant.sink_faults, c.next_statement.ensures.cause.no_fewer);
      disk_faults = c.item.invariant.disk_faults;
    }

-- what one statement took, where one came
takes_one : (given : Option Statement) (item : Statement) (bytes : List ℕ) (old new : Reader) → given ≡ Some item → TakesStatements statements (option_to_list given) bytes old new → TakesStatements statements (item ∷ []) bytes old new
takes_one given item bytes old new is takes = subst (λ (o : Option Statement). TakesStatements statements (option_to_list o) bytes old new) is takes

pub item-preserved : goal.item-preserved
item-preserved g c =
    let issuing = c.args.stream.now.state.issuing in
    let base = c.args.stream.now.state.position in
    let first = c.args.stream.now.store in
    let takes = rw c.in-Ok-Ok.field-0-is at c.in-Ok-Ok.ensures.item in
    let one = takes_one c.in-Ok-Ok.read c.in-Some.item takes.0 c.item.lines c.next_statement.new.lines c.in-Some.is takes.1 in
    let old = c.item.stream in
    let new = c.process_statement.new.stream in
    let moves = given_moves g.D.Disk.tells g.D.Disk.faults c.in-Ok-Ok.read c.in-Some.item old new c.in-Some.is c.process_statement.ensures.moves in
    let before =
    Walk-settles (stream (fault_in old) issuing base) _ c.item.lines 0 old.state _ _ _ c.item.replies c.next_statement.new.replies c.item.invariant.walk c.in-Ok-Ok.ensures.settled in
    let works = c.in-Ok.ensures.processes issuing base in
    record {
      walk = acknowledged issuing base c.in-Some.item takes.0 _ c.item.lines c.next_statement.new.lines old new _ _ _ c.next_statement.new.replies c.process_statement.new.replies c.acknowledge.new.replies before one works (acknowledged_at _ _ _ c.number-number.ensures c.in-Ok-acknowledge.ensures.settled);
      most = c.in-Ok-Ok.ensures.limit;
      along = moved g.D.Disk.tells g.D.Disk.faults issuing base c.args.lines.now.left first old new c.item.lines c.next_statement.new.lines c.in-Some.item takes.0 _ _ c.next_statement.new.replies c.process_statement.new.replies before one works c.item.invariant.idle c.process_statement.ensures.moves c.item.invariant.along;
      doubt = doubt_stays g.D.Disk.tells g.D.Disk.faults issuing base c.args.lines.now.left old new c.item.lines c.next_statement.new.lines c.in-Some.item takes.0 _ _ c.next_statement.new.replies c.process_statement.new.replies before one works c.process_statement.ensures.moves c.process_statement.ensures.fails c.item.invariant.doubt;
      idle = idle_still g.D.Disk.tells g.D.Disk.faults issuing base c.args.lines.now.left first old new c.in-Ok-Ok.read moves c.item.invariant.idle;
      halted = halts g.D.Disk.tells g.D.Disk.faults issuing base c.args.lines.now.left first old new c.in-Ok-Ok.read moves c.item.invariant.disk_faults c.item.invariant.halted;
      source_faults = omega (arith, c.item.invariant.source_faults, c.next_statement.ensures.faults);
      sink_faults = omega (arith, c.item.invariant.sink_faults, c.next_statement.ensures.cause.no_fewer, c.acknowledge.ensures.cause.no_fewer);
      disk_faults = no_fewer g.D.Disk.tells g.D.Disk.faults issuing base c.args.lines.now.left first old new c.in-Ok-Ok.read moves c.item.invariant.disk_faults;
    }

-- a reply couldn't be written
pub returns-in-Err-acknowledge-clause-ran : goal.returns-in-Err-acknowledge-clause-ran
returns-in-Err-acknowledge-clause-ran g c =
    let issuing = c.args.stream.now.state.issuing in
    let base = c.args.stream.now.state.position in
    let takes = rw c.in-Ok-Ok.field-0-is at c.in-Ok-Ok.ensures.item in
    let new = c.process_statement.new.stream in
    let works = c.in-Ok.ensures.processes issuing base in
    cut issuing base (λ (s : State). new.state ≡ s)
    (Rose c.args.lines.now.faults c.next_statement.new.lines.faults) (Rose (g.O.Sink.faults c.args.sink.now) (g.O.Sink.faults c.acknowledge.new.sink))
    c.args.lines.now.left c.next_statement.new.lines c.next_statement.new.lines 1 new.state _ _ _ c.process_statement.new.replies
    (goes_on issuing base c.in-Ok-Ok.read takes.0 _ c.item.lines c.next_statement.new.lines 1 c.item.stream new _ _ c.next_statement.new.replies c.process_statement.new.replies
    (Walk-settles (stream (fault_in c.item.stream) issuing base) _ c.item.lines 0 c.item.stream.state _ _ _ c.item.replies c.next_statement.new.replies c.item.invariant.walk c.in-Ok-Ok.ensures.settled)
    takes.1 (given_works issuing base c.in-Ok-Ok.read c.in-Some.item c.item.stream new c.next_statement.new.replies c.process_statement.new.replies c.in-Some.is works)
    (works_few issuing base c.in-Some.item c.item.stream new c.next_statement.new.replies c.process_statement.new.replies works))
    refl (omega arith)
    (Rose-later _ _ _ (omega (arith, c.item.invariant.sink_faults, c.next_statement.ensures.cause.no_fewer)) c.in-Err-acknowledge.ensures.cause.cause)
    c.unless_failed-in-Err-acknowledge.result c.in-Err-acknowledge.ensures.front
    (failed_status c.unless_failed-in-Err-acknowledge.result c.has_failed-in-Err-acknowledge.result new.state.halted c.unless_failed-in-Err-acknowledge.ensures c.has_failed-in-Err-acknowledge.ensures)

pub returns-in-Err-acknowledge-clause-moments : goal.returns-in-Err-acknowledge-clause-moments
returns-in-Err-acknowledge-clause-moments g c =
    let issuing = c.args.stream.now.state.issuing in
    let base = c.args.stream.now.state.position in
    let takes = rw c.in-Ok-Ok.field-0-is at c.in-Ok-Ok.ensures.item in
    moved g.D.Disk.tells g.D.Disk.faults issuing base c.args.lines.now.left c.args.stream.now.store c.item.stream c.process_statement.new.stream c.item.lines c.next_statement.new.lines c.in-Some.item takes.0 _ _ c.next_statement.new.replies c.process_statement.new.replies
    (Walk-settles (stream (fault_in c.item.stream) issuing base) _ c.item.lines 0 c.item.stream.state _ _ _ c.item.replies c.next_statement.new.replies c.item.invariant.walk c.in-Ok-Ok.ensures.settled)
    (takes_one c.in-Ok-Ok.read c.in-Some.item takes.0 c.item.lines c.next_statement.new.lines c.in-Some.is takes.1) (c.in-Ok.ensures.processes issuing base)
    c.item.invariant.idle c.process_statement.ensures.moves c.item.invariant.along

pub returns-in-Err-acknowledge-clause-idle : goal.returns-in-Err-acknowledge-clause-idle
returns-in-Err-acknowledge-clause-idle g c =
    idle_still g.D.Disk.tells g.D.Disk.faults c.args.stream.now.state.issuing c.args.stream.now.state.position c.args.lines.now.left c.args.stream.now.store c.item.stream c.process_statement.new.stream c.in-Ok-Ok.read
    (given_moves g.D.Disk.tells g.D.Disk.faults c.in-Ok-Ok.read c.in-Some.item c.item.stream c.process_statement.new.stream c.in-Some.is c.process_statement.ensures.moves) c.item.invariant.idle

pub returns-in-Err-acknowledge-clause-in_doubt : goal.returns-in-Err-acknowledge-clause-in_doubt
returns-in-Err-acknowledge-clause-in_doubt g c =
    let issuing = c.args.stream.now.state.issuing in
    let base = c.args.stream.now.state.position in
    let takes = rw c.in-Ok-Ok.field-0-is at c.in-Ok-Ok.ensures.item in
    doubt_stays g.D.Disk.tells g.D.Disk.faults issuing base c.args.lines.now.left c.item.stream c.process_statement.new.stream c.item.lines c.next_statement.new.lines c.in-Some.item takes.0 _ _ c.next_statement.new.replies c.process_statement.new.replies
    (Walk-settles (stream (fault_in c.item.stream) issuing base) _ c.item.lines 0 c.item.stream.state _ _ _ c.item.replies c.next_statement.new.replies c.item.invariant.walk c.in-Ok-Ok.ensures.settled)
    (takes_one c.in-Ok-Ok.read c.in-Some.item takes.0 c.item.lines c.next_statement.new.lines c.in-Some.is takes.1) (c.in-Ok.ensures.processes issuing base)
    c.process_statement.ensures.moves c.process_statement.ensures.fails c.item.invariant.doubt
