use Rattle.bc_print.proofs.Unplaced.{same_program, same_text}
use Rattle.bc_print.proofs.laws.places_are_not_written.Goals as goal

pub returns : goal.returns
returns c = record { without_places = same_program; one_text = same_text }
