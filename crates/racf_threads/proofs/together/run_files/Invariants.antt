use Rattle.desk_rules.specs.Durable.{idle_of}
use Rattle.racf_threads.proofs.together.run_files.Given as goal

-- the history that was just opened, from where the desk stands, and a ledger for each blank
abbrev pub ghosts-begun-J-Naming : goal.ghosts-begun-J-Naming
ghosts-begun-J-Naming g a = record { book = a.opened.0; base = a.desk.position; faults = g.D.Disk.faults a.desk.store.journal.disk; idle_faults = g.D.Disk.faults a.desk.store.idle; live_disk = g.D.Disk.tells a.desk.store.journal.disk; idle_disk = idle_of g.D.Disk.tells a.desk.store }

abbrev pub ghosts-begun-S-Ledger : goal.ghosts-begun-S-Ledger
ghosts-begun-S-Ledger g a = record { name = a.blanks.0.name; parts = a.blanks.0.parts }

abbrev pub ghosts-begun-F-Ledger : goal.ghosts-begun-F-Ledger
ghosts-begun-F-Ledger g a = record { name = a.blanks.1.name; parts = a.blanks.1.parts }

abbrev pub ghosts-begun-P-Ledger : goal.ghosts-begun-P-Ledger
ghosts-begun-P-Ledger g a = record { name = a.blanks.2.name; parts = a.blanks.2.parts }
