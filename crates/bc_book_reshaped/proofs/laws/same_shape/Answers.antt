use Rattle.bc_book_reshaped.proofs.Shapes.{sets_alike}
use Rattle.bc_book_reshaped.proofs.laws.same_shape.Goals as goal

pub returns : goal.returns
returns c = sets_alike
