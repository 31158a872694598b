use Rattle.name_tests.proofs.index_tests.count_with_a_ledger.Given as goal

abbrev pub ghosts-count_named : goal.ghosts-count_named
ghosts-count_named a = record { name = a.blank.name; parts = a.blank.parts }
