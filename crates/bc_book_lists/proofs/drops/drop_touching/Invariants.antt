use Rattle.bc_book_lists.proofs.drops.drop_touching.Given as goal

abbrev pub ghosts-drop_touching_each : goal.ghosts-drop_touching_each
ghosts-drop_touching_each a = record { name = a.blank.name; parts = a.blank.parts }
