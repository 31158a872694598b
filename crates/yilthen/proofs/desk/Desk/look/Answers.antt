use Rattle.std.proofs.Common.{subst}
use Rattle.std.specs.Prelude.{IfOk}
use Rattle.racf_checkpoint.specs.Stored.{NowRead}
use Rattle.desk_rules.specs.Durable.{SaysEpoch}
use Rattle.desk_rules.specs.Made.{DeskOn}
use Rattle.desk_rules.specs.Reopening.{LeadOn}
use Rattle.yilthen.proofs.desk.Desk.look.Goals as goal

-- what the desk below says of the database says the desk that is handed on
pub returns-in-Ok-clause-history : goal.returns-in-Ok-clause-history
returns-in-Ok-clause-history g c =
    subst (λ seen. IfOk seen (λ (desk : DeskOn _). NowRead (g.D.Disk.tells c.args.disks.first) (g.D.Disk.tells c.args.disks.second) (LeadOn desk.position)))
    c.in-Ok.is c.look-disks.ensures.history

pub returns-in-Ok-clause-epoch : goal.returns-in-Ok-clause-epoch
returns-in-Ok-clause-epoch g c =
    subst (λ seen. IfOk seen (λ (desk : DeskOn _). NowRead (g.D.Disk.tells c.args.disks.first) (g.D.Disk.tells c.args.disks.second) (SaysEpoch desk.store.epoch)))
    c.in-Ok.is c.look-disks.ensures.epoch
