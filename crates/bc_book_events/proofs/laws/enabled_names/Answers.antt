use Rattle.bc_book_events.proofs.Named.{enabled_names}
use Rattle.bc_book_events.proofs.laws.enabled_names.Goals as goal

pub returns : goal.returns
returns c = enabled_names
