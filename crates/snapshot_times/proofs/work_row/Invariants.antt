use Rattle.std.specs.Prelude.{None}
use Rattle.checkpoint_disks.specs.declared.counting.Side.TheVariants.{First}
use Rattle.desk_rules.specs.Position.{first_position}
use Rattle.snapshot_times.proofs.work_row.Given as goal

-- the history that was just opened
abbrev pub ghosts-work : goal.ghosts-work
ghosts-work g a = record { book = a.opened; base = first_position; faults = 0; idle_faults = 0; live_disk = None; idle_disk = record { side = First; told = None } }
