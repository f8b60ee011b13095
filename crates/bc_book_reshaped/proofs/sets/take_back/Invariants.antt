use Rattle.bc_book_reshaped.proofs.sets.take_back.Given as goal

abbrev pub ghosts-take_each_back : goal.ghosts-take_each_back
ghosts-take_each_back a = record { name = a.blank.name; parts = a.blank.parts }
