use Rattle.bc_book_events.proofs.Turns.{turns_are_steps}
use Rattle.bc_book_events.proofs.laws.turns_are_steps.Goals as goal

pub returns : goal.returns
returns c = turns_are_steps
