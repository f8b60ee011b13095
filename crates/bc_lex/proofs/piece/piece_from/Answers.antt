use Rattle.std.proofs.Common.{sym, ap, ◌∙◌}
use Rattle.bc_lex.specs.Pieces.{start_view}
use Rattle.bc_lex.proofs.Inside.{line_inside, block_inside}
use Rattle.bc_lex.proofs.piece.piece_from.Goals as goal

pub line_comment-requires : goal.line_comment-requires
line_comment-requires c = line_inside c.args.text.now c.args.i (sym c.requires.start ∙ ap start_view c.in-LineComment.is)

pub block_comment-requires : goal.block_comment-requires
block_comment-requires c = block_inside c.args.text.now c.args.i (sym c.requires.start ∙ ap start_view c.in-BlockComment.is)
