use Rattle.bc_params.proofs.params.Params.make.Given as goal

abbrev pub ghosts-fill : goal.ghosts-fill
ghosts-fill a = record { name = a.blank.name; parts = a.blank.parts }
