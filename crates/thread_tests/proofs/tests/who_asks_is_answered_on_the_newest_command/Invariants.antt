use Rattle.std.specs.Prelude.{None}
use Rattle.checkpoint_disks.specs.declared.counting.Side.TheVariants.{First}
use Rattle.desk_rules.specs.Position.{first_position}
use Rattle.thread_tests.proofs.tests.who_asks_is_answered_on_the_newest_command.Given as goal

-- the history that was just opened
abbrev pub ghosts-codes : goal.ghosts-codes
ghosts-codes g a = record { book = a.opened; base = first_position; faults = 0; idle_faults = 0; live_disk = None; idle_disk = record { side = First; told = None } }
