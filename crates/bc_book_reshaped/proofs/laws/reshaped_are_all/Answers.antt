use Rattle.bc_book_reshaped.proofs.Alike.{all_reshaped}
use Rattle.bc_book_reshaped.proofs.laws.reshaped_are_all.Goals as goal

pub returns : goal.returns
returns c = all_reshaped
