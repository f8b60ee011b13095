use Rattle.bc_book_tests.proofs.guards.a_nested_guard.Given as goal

abbrev pub ghosts-tells : goal.ghosts-tells
ghosts-tells g a = record { name = a.blank.name; parts = a.blank.parts }
