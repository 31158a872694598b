use Rattle.desk_rules.specs.Made.{made_in}
use Rattle.racf_desk.proofs.DeskLaws.{kept_takes, commit_stays, commit_leaves, commit_kept}
use Rattle.racf_desk.proofs.desk.Desk.commit.Goals as goal

pub append-requires-clause-ready : goal.append-requires-clause-ready
append-requires-clause-ready g c = kept_takes g.D.Disk.tells c.self.inside c.args.self.now c.self.invariant c.self.view_is c.requires.settled c.requires.running

pub invariant_of-self : goal.invariant_of-self
invariant_of-self g c =
    commit_kept g.D.Disk.tells c.self.inside c.append.new.self c.args.self.now (made_in c.args.ready.now) c.bytes.result.now c.self.invariant c.self.view_is c.requires.made c.requires.running c.requires.settled c.bytes.ensures
    (record { keeps = c.in-Ok.ensures.acknowledged; epoch = c.append.ensures.epoch; gate = c.in-Ok.ensures.gate })

pub returns-in-Ok-clause-leaves : goal.returns-in-Ok-clause-leaves
returns-in-Ok-clause-leaves g c =
    commit_leaves c.what_is_stored_is_said.ensures g.D.Disk.tells c.self.inside c.append.new.self c.args.self.now (made_in c.args.ready.now) c.bytes.result.now c.self.invariant c.self.view_is c.requires.made c.requires.running c.requires.settled c.bytes.ensures
    (record { keeps = c.in-Ok.ensures.acknowledged; epoch = c.append.ensures.epoch; gate = c.in-Ok.ensures.gate })

pub returns-in-Ok-clause-moments : goal.returns-in-Ok-clause-moments
returns-in-Ok-clause-moments g c =
    commit_stays g.D.Disk.tells c.self.inside c.append.new.self c.args.self.now (made_in c.args.ready.now) c.bytes.result.now c.self.invariant c.self.view_is c.requires.made c.requires.running c.requires.settled c.bytes.ensures c.append.ensures.moments

pub returns-in-Err-clause-moments : goal.returns-in-Err-clause-moments
returns-in-Err-clause-moments g c =
    commit_stays g.D.Disk.tells c.self.inside c.append.new.self c.args.self.now (made_in c.args.ready.now) c.bytes.result.now c.self.invariant c.self.view_is c.requires.made c.requires.running c.requires.settled c.bytes.ensures c.append.ensures.moments
