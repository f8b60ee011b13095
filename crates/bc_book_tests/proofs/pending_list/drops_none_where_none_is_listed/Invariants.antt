use Rattle.bc_book_tests.proofs.pending_list.drops_none_where_none_is_listed.Given as goal

abbrev pub ghosts-drop_counted : goal.ghosts-drop_counted
ghosts-drop_counted g a = record { name = a.blank.name; parts = a.blank.parts }
