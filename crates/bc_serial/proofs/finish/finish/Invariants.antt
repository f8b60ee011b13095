use Rattle.bc_serial.proofs.finish.finish.Given as goal

abbrev pub ghosts-turns : goal.ghosts-turns
ghosts-turns a = record { name = a.blank.name; parts = a.blank.parts }
