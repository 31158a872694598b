use Rattle.std.proofs.Common.{◌≡◌, ℕ, List, refl, sym, ◌∙◌, ap, subst}
use Rattle.std.specs.Prelude.{Option}
use Rattle.racf_outside.specs.Causes.{Rose}
use Rattle.racf_outside.specs.Reader.{Reader}
use Rattle.desk_rules.proofs.IdleLaws.{same_idle}
use Rattle.desk_rules.specs.Made.{DeskOn, number_at}
use Rattle.racf_stream.specs.Durable.{StreamOn, StaysAlong, most_left, most_left_of}
use Rattle.statements.specs.Runs.{Ran}
use Rattle.racf_stream.specs.Script.{stream, fault_of, StandsAt}
use Rattle.statements.specs.declared.status.Status.TheVariants.{NoMemory}
use Rattle.statements.proofs.Walk.{none_read, ran_failed, Ran-causes}
use Rattle.racf_stream.proofs.LeftLaws.{left_at_least}
use Rattle.racf_stream.proofs.Moments.{StaysAlong-none}
use Rattle.racf_stream.proofs.ScriptLaws.{begins_new, issuing_new, position_new, stands_new, ran_script, ran_whole, along_as, left_is, idle_as, doubt_as}
use Rattle.statements.proofs.RunLaws.{ran_too_long}
use Rattle.racf_stream.proofs.scripts.script.Goals as goal

-- there was no memory for the reader
pub returns-in-Err-clause-ran : goal.returns-in-Err-clause-ran
returns-in-Err-clause-ran g c = none_read (stream (fault_of c.args.desk) c.args.issuing c.args.desk.position) (StandsAt c.args.desk) _ _ _ _ _ (stands_new c.args.issuing c.args.desk c.requires.running c.requires.settled)

pub returns-in-Err-clause-moments : goal.returns-in-Err-clause-moments
returns-in-Err-clause-moments g c = StaysAlong-none g.D.Disk.tells c.args.issuing c.args.desk.position (g.S.Source.left c.args.source) _ c.args.desk.store (left_at_least c.args.desk.halted (number_at c.args.desk.position)) (c.is_at_rest.ensures c.requires.running)

pub returns-in-Err-clause-idle : goal.returns-in-Err-clause-idle
returns-in-Err-clause-idle g c = same_idle c.args.desk.store c.args.desk.store refl

-- nor for the state of the stream
pub returns-in-Err-new-clause-ran : goal.returns-in-Err-new-clause-ran
returns-in-Err-new-clause-ran g c =
    subst (λ (desk : DeskOn g.row.D.Denot). Ran (stream (fault_of desk) c.args.issuing c.args.desk.position) (StandsAt desk) (Rose (g.S.Source.faults c.args.source) (g.S.Source.faults c.into_source.result)) (Rose (g.O.Sink.faults c.args.sink.now) (g.O.Sink.faults c.args.sink.now)) NoMemory (g.S.Source.left c.args.source) (g.S.Source.left c.into_source.result) (g.O.Sink.taken c.args.sink.now) (g.O.Sink.taken c.args.sink.now)) (sym c.in-Err-new.ensures.back)
    (none_read (stream (fault_of c.args.desk) c.args.issuing c.args.desk.position) (StandsAt c.args.desk) _ _ _ _ _ (stands_new c.args.issuing c.args.desk c.requires.running c.requires.settled))

pub returns-in-Err-new-clause-moments : goal.returns-in-Err-new-clause-moments
returns-in-Err-new-clause-moments g c =
    subst (λ (desk : DeskOn g.row.D.Denot). StaysAlong g.D.Disk.tells c.args.issuing c.args.desk.position (g.S.Source.left c.args.source) (most_left desk.halted (number_at desk.position)) c.args.desk.store desk.store) (sym c.in-Err-new.ensures.back)
    (StaysAlong-none g.D.Disk.tells c.args.issuing c.args.desk.position (g.S.Source.left c.args.source) _ c.args.desk.store (left_at_least c.args.desk.halted (number_at c.args.desk.position)) (c.is_at_rest.ensures c.requires.running))

pub returns-in-Err-new-clause-idle : goal.returns-in-Err-new-clause-idle
returns-in-Err-new-clause-idle g c = same_idle c.args.desk.store _ (ap (λ (desk : DeskOn g.row.D.Denot). desk.store) c.in-Err-new.ensures.back)

pub run-status-requires-clause-new : goal.run-status-requires-clause-new
run-status-requires-clause-new g c = begins_new c.args.issuing c.args.desk.position c.in-Ok-new.stream.state (ap (λ (s : StreamOn g.row.D.Denot). s.state) c.in-Ok-new.ensures.state)

-- the stream was run
rose_as : (a b c d : ℕ) → a ≡ c → b ≡ d → Rose a b → Rose c d
rose_as a b c d p q rose = subst (λ (n : ℕ). Rose n d) p (subst (λ (n : ℕ). Rose a n) q rose)

pub returns-in-Ok-new-clause-ran : goal.returns-in-Ok-new-clause-ran
returns-in-Ok-new-clause-ran g c =
    let m = stream (fault_of c.into_desk.result) c.args.issuing c.args.desk.position in
    let read = Rose c.in-Ok.lines.faults c.run-status.new.lines.faults in
    let wrote = Rose (g.O.Sink.faults c.args.sink.now) (g.O.Sink.faults c.run-status.new.sink) in
    let source : c.in-Ok.lines.left ≡ g.S.Source.left c.args.source = ap (λ (r : Reader). r.left) c.in-Ok.ensures.start in
    let given = issuing_new c.args.issuing c.args.desk.position c.in-Ok-new.stream.state (ap (λ (s : StreamOn g.row.D.Denot). s.state) c.in-Ok-new.ensures.state) in
    let at = position_new c.args.issuing c.args.desk.position c.in-Ok-new.stream.state (ap (λ (s : StreamOn g.row.D.Denot). s.state) c.in-Ok-new.ensures.state) in
    Ran-causes m (StandsAt c.into_desk.result) read (Rose (g.S.Source.faults c.args.source) (g.S.Source.faults c.into_source-in-Ok-new.result)) wrote wrote c.run-status.result _ _ _ _
    (rose_as _ _ _ _ (ap (λ (r : Reader). r.faults) c.in-Ok.ensures.start) (sym c.into_source-in-Ok-new.ensures.faults)) (λ why. why)
    (subst (λ (known : Option (List ℕ)). Ran m (StandsAt c.into_desk.result) read wrote c.run-status.result known (g.S.Source.left c.into_source-in-Ok-new.result) (g.O.Sink.taken c.args.sink.now) (g.O.Sink.taken c.run-status.new.sink)) source
    (subst (λ (known : Option (List ℕ)). Ran m (StandsAt c.into_desk.result) read wrote c.run-status.result c.in-Ok.lines.left known (g.O.Sink.taken c.args.sink.now) (g.O.Sink.taken c.run-status.new.sink)) (sym c.into_source-in-Ok-new.ensures.left)
    (ran_script c.into_desk.result c.in-Ok-new.stream c.run-status.new.stream c.args.issuing c.args.desk.position read wrote c.run-status.result _ _ _ _ c.run-status.ensures.ran given at c.into_desk.ensures.stands)))

pub returns-in-Ok-new-clause-whole : goal.returns-in-Ok-new-clause-whole
returns-in-Ok-new-clause-whole g c = λ is. ran_whole c.into_desk.result c.args.issuing c.args.desk.position _ _ c.run-status.result _ _ _ _ is (returns-in-Ok-new-clause-ran g c)

pub returns-in-Ok-new-clause-too_long : goal.returns-in-Ok-new-clause-too_long
returns-in-Ok-new-clause-too_long g c =
    ran_too_long (stream (fault_of c.into_desk.result) c.args.issuing c.args.desk.position) (StandsAt c.into_desk.result) _ _ c.run-status.result _ _ _ _ (returns-in-Ok-new-clause-ran g c)

pub returns-in-Ok-new-clause-moments : goal.returns-in-Ok-new-clause-moments
returns-in-Ok-new-clause-moments g c =
    along_as g.D.Disk.tells c.in-Ok-new.stream.state.issuing c.args.issuing c.in-Ok-new.stream.state.position c.args.desk.position c.in-Ok.lines.left (g.S.Source.left c.args.source) (most_left_of c.run-status.new.stream.state) (most_left c.into_desk.result.halted (number_at c.into_desk.result.position)) c.in-Ok-new.stream.store c.args.desk.store c.run-status.new.stream.store c.into_desk.result.store
    (issuing_new c.args.issuing c.args.desk.position c.in-Ok-new.stream.state (ap (λ (s : StreamOn g.row.D.Denot). s.state) c.in-Ok-new.ensures.state))
    (position_new c.args.issuing c.args.desk.position c.in-Ok-new.stream.state (ap (λ (s : StreamOn g.row.D.Denot). s.state) c.in-Ok-new.ensures.state))
    (ap (λ (r : Reader). r.left) c.in-Ok.ensures.start)
    (left_is c.into_desk.result c.run-status.new.stream c.into_desk.ensures.stands)
    (ap (λ (s : StreamOn g.row.D.Denot). s.store) c.in-Ok-new.ensures.state)
    (sym c.into_desk.ensures.stands.store) c.run-status.ensures.moments

pub returns-in-Ok-new-clause-idle : goal.returns-in-Ok-new-clause-idle
returns-in-Ok-new-clause-idle g c =
    idle_as c.in-Ok-new.stream.store c.args.desk.store c.run-status.new.stream.store c.into_desk.result.store
    (ap (λ (s : StreamOn g.row.D.Denot). s.store) c.in-Ok-new.ensures.state) (sym c.into_desk.ensures.stands.store) c.run-status.ensures.idle

pub returns-in-Ok-new-clause-in_doubt : goal.returns-in-Ok-new-clause-in_doubt
returns-in-Ok-new-clause-in_doubt g c =
    let state = ap (λ (s : StreamOn g.row.D.Denot). s.state) c.in-Ok-new.ensures.state in
    λ halted.
    doubt_as g.D.Disk.tells c.in-Ok-new.stream.state.issuing c.args.issuing c.in-Ok-new.stream.state.position c.args.desk.position c.in-Ok.lines.left (g.S.Source.left c.args.source)
    c.run-status.new.stream.store c.into_desk.result.store c.run-status.new.stream.state.position c.into_desk.result.position
    (issuing_new c.args.issuing c.args.desk.position c.in-Ok-new.stream.state state)
    (position_new c.args.issuing c.args.desk.position c.in-Ok-new.stream.state state)
    (ap (λ (r : Reader). r.left) c.in-Ok.ensures.start)
    (sym c.into_desk.ensures.stands.store) (sym c.into_desk.ensures.stands.position)
    (c.run-status.ensures.in_doubt (sym c.into_desk.ensures.stands.halted ∙ halted))

pub returns-in-Ok-new-clause-halted_status : goal.returns-in-Ok-new-clause-halted_status
returns-in-Ok-new-clause-halted_status g c =
    λ halted.
    let ran = returns-in-Ok-new-clause-ran g c in
    ran_failed (stream (fault_of c.into_desk.result) c.args.issuing c.args.desk.position) (StandsAt c.into_desk.result) _ _ c.run-status.result _ _ _ _ ran (sym ran.stands.halted ∙ halted)
