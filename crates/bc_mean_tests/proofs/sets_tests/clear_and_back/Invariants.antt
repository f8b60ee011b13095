use Rattle.bc_mean_tests.proofs.sets_tests.clear_and_back.Given as goal

abbrev pub ghosts-there_and_back : goal.ghosts-there_and_back
ghosts-there_and_back a = record { name = a.blank.name; parts = a.blank.parts }
