use Rattle.std.proofs.Common.{ap, subst, sym, ◌∙◌}
use Rattle.desk_rules.specs.Outcome.{outcome}
use Rattle.desk_rules.specs.Position.{Position, position_after}
use Rattle.desk_rules.specs.Made.{DeskOn, made_in, number_at, installed}
use Rattle.desk_rules.specs.Durable.{StaysEither}
use Rattle.racf_desk.proofs.DeskLaws.{behind_made, made_of_accepted, rests_on}
use Rattle.racf_desk.proofs.JointLaws.{keeps}
use Rattle.racf_desk.proofs.desk.Desk.execute.Goals as goal

-- refused
pub returns-in-Err-clause-moments : goal.returns-in-Err-clause-moments
returns-in-Err-clause-moments g c = λ runs.
    let desk = c.args.self.now in
    rests_on g.D.Disk.tells desk.store c.judge.new.self.store desk.position (position_after desk.position (outcome desk.position c.args.issuer c.args.group c.args.text.now))
    (ap (λ (d : DeskOn _). d.store) c.in-Err.ensures.nothing_made) (c.is_at_rest.ensures runs)

-- a disk failed
pub returns-in-Err-commit-clause-answer : goal.returns-in-Err-commit-clause-answer
returns-in-Err-commit-clause-answer g c =
    let left = ap (λ (d : DeskOn _). d.position) c.self.view_is ∙ ap (λ (d : DeskOn _). d.position) c.in-Err-commit.ensures.halted ∙ ap (λ (d : DeskOn _). d.position) c.in-Ok.ensures.made in (
      c.in-Ok.ensures.running,
      made_of_accepted c.args.self.now.position.image (outcome c.args.self.now.position c.args.issuer c.args.group c.args.text.now) (made_in c.in-Ok.ready) c.in-Ok.ensures.accepted,
      record {
        counts = c.number.ensures ∙ ap number_at left;
        left = left;
        stops = ap (λ (d : DeskOn _). d.halted) c.self.view_is ∙ ap (λ (d : DeskOn _). d.halted) c.in-Err-commit.ensures.halted;
      },
    )

pub returns-in-Err-commit-clause-moments : goal.returns-in-Err-commit-clause-moments
returns-in-Err-commit-clause-moments g c = λ runs.
    let desk = c.args.self.now in
    let made = made_in c.in-Ok.ready in
    let is = behind_made desk.position (outcome desk.position c.args.issuer c.args.group c.args.text.now) made c.in-Ok.ensures.accepted in
    subst (λ (next : Position). StaysEither g.D.Disk.tells desk.store c.self.inside.store desk.position next) (sym is)
    (subst (λ (d : DeskOn _). StaysEither g.D.Disk.tells desk.store d.store desk.position (installed desk.position made)) (sym c.self.view_is)
    (subst (λ (d : DeskOn _). StaysEither g.D.Disk.tells d.store c.commit.new.self.store d.position (installed d.position made)) c.in-Ok.ensures.made c.commit.ensures.moments))

-- nothing but what was made is changed
pub returns-in-Err-clause-kept : goal.returns-in-Err-clause-kept
returns-in-Err-clause-kept g c = keeps c.args.self.now c.judge.new.self c.in-Err.reply c.in-Err.ensures.nothing_made
