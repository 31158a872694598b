use Rattle.racf_desk.proofs.DeskLaws.{kept_leaves}
use Rattle.racf_desk.proofs.desk.Desk.is_at_rest.Goals as goal

pub returns : goal.returns
returns g c = kept_leaves c.what_is_stored_is_said.ensures g.D.Disk.tells c.self.inside c.args.self.now c.self.invariant c.self.view_is c.requires
