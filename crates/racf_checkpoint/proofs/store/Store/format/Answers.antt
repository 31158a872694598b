use Rattle.racf_profiles.specs.NewDatabase.{new_database}
use Rattle.checkpoint_disks.specs.Compacting.{new_checkpoint}
use Rattle.racf_checkpoint.proofs.New.{stored_resting}
use Rattle.racf_checkpoint.proofs.store.Store.format.Goals as goal

pub behind-requires : goal.behind-requires
behind-requires g c = record { rest = stored_resting 1 c.in-Ok.start (new_checkpoint 1 0 new_database) (g.D.Disk.tells c.write_first.new.first) c.in-Ok.ensures.stored }

pub returns-in-Ok-clause-stores : goal.returns-in-Ok-clause-stores
returns-in-Ok-clause-stores g c = rw (c.behind.ensures) (record { live = c.in-Ok.ensures.stored; idle = c.in-Ok.ensures.passed })

pub returns-in-Ok-clause-ready : goal.returns-in-Ok-clause-ready
returns-in-Ok-clause-ready g c = rw (c.behind.ensures) (record { live = λ h e. (new_checkpoint 1 0 new_database, c.in-Ok.ensures.stored h e); idle = c.in-Ok.ensures.passed })
