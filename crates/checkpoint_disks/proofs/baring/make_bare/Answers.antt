-- The gate is closed, and then the rest is cut off.
use Rattle.racf_outside.proofs.Runs.{StaysIn-joined}
use Rattle.checkpoint_disks.proofs.Barings.{nothing_is}
use Rattle.checkpoint_disks.proofs.baring.make_bare.Goals as goal

pub returns-clause-moments : goal.returns-clause-moments
returns-clause-moments g c before holds =
    StaysIn-joined (c.close_open.ensures.moments before holds) (nothing_is before _ _ c.write_bare.ensures.moments)
