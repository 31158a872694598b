use Rattle.std.proofs.Common.{◌≡◌, ℕ, List, Ok, subst}
use Rattle.desk_rules.specs.Made.{made_in, made_of_outcome}
use Rattle.desk_rules.specs.Outcome.{outcome}
use Rattle.std.specs.Prelude.{OnOk}
use Rattle.statements.specs.declared.statement.Statement.TheVariants.{Command}
use Rattle.racf_stream.specs.Durable.{StreamOn, stream_on, fault_in, DoesOn, Fails}
use Rattle.racf_stream.specs.Stream.{command}
use Rattle.racf_stream.proofs.Settled.{settles_command, fails_command}
use Rattle.racf_stream.proofs.stream.Stream.command.Goals as goal

pub returns-in-Ok-clause-ok : goal.returns-in-Ok-clause-ok
returns-in-Ok-clause-ok g c =
    let desk = c.self.inside.desk in
    let issuer = c.self.inside.issuer in
    let stream = stream_on c.settle.new.desk c.self.inside.issuing issuer c.self.inside.has_refused c.self.inside.acees in
    subst (λ (x : StreamOn g.row.D.Denot). OnOk c.settle.result (DoesOn (command (fault_in stream) c.args.text.now) x stream c.args.out.now.items c.settle.new.out.items)) c.self.view_is
    (settles_command c.settle.result g.D.Disk.tells c.self.inside.issuing issuer c.self.inside.has_refused c.self.inside.acees c.args.text.now desk c.judge.new.self c.settle.new.desk (made_in c.in-Ok.ready) c.args.out.now.items c.settle.new.out.items
    c.in-Ok.ensures.running
    (subst (λ (bytes : List ℕ). made_of_outcome desk.position.image (outcome desk.position issuer.id issuer.group bytes) ≡ Ok (made_in c.in-Ok.ready)) c.as_slice.ensures c.in-Ok.ensures.accepted)
    c.in-Ok.ensures.made c.settle.ensures.ok)

pub returns-in-Ok-clause-fails : goal.returns-in-Ok-clause-fails
returns-in-Ok-clause-fails g c =
    let desk = c.self.inside.desk in
    let issuer = c.self.inside.issuer in
    let stream = stream_on c.settle.new.desk c.self.inside.issuing issuer c.self.inside.has_refused c.self.inside.acees in
    λ running halted.
    subst (λ (x : StreamOn g.row.D.Denot). Fails g.D.Disk.tells (Command c.args.text.now) x stream) c.self.view_is
    (fails_command c.settle.result g.D.Disk.tells c.self.inside.issuing issuer c.self.inside.has_refused c.self.inside.acees c.args.text.now desk c.judge.new.self c.settle.new.desk (made_in c.in-Ok.ready) c.args.out.now.items c.settle.new.out.items
    (subst (λ (bytes : List ℕ). made_of_outcome desk.position.image (outcome desk.position issuer.id issuer.group bytes) ≡ Ok (made_in c.in-Ok.ready)) c.as_slice.ensures c.in-Ok.ensures.accepted)
    c.in-Ok.ensures.made c.settle.ensures.ok c.settle.ensures.err c.in-Ok.ensures.running halted)
