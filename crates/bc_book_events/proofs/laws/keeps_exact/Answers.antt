use Rattle.bc_book_events.proofs.Exact.{keeps_exact}
use Rattle.bc_book_events.proofs.laws.keeps_exact.Goals as goal

pub returns : goal.returns
returns c = keeps_exact
