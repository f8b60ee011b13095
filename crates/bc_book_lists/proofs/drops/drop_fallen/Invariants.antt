use Rattle.bc_book_lists.proofs.drops.drop_fallen.Given as goal

abbrev pub ghosts-drop_each : goal.ghosts-drop_each
ghosts-drop_each a = record { name = a.blank.name; parts = a.blank.parts }
