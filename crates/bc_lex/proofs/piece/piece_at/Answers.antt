use Rattle.bc_lex.specs.Pieces.{piece_view}
use Rattle.bc_lex.proofs.Inside.{piece_inside}
use Rattle.bc_lex.proofs.piece.piece_at.Goals as goal

pub returns-clause-inside : goal.returns-clause-inside
returns-clause-inside c = piece_inside c.args.text.now c.args.i (piece_view c.args.i c.piece_from.result) c.piece_from.ensures
