use Rattle.std.proofs.Common.{arith, rules}
use Rattle.bc_base.proofs.Read.{Loses-behind, LosesUpTo-behind}
use Rattle.bc_base.proofs.source.read_all_counted.Goals as goal

pub returns-in_err-read_piece-clause-too_long : goal.returns-in_err-read_piece-clause-too_long
returns-in_err-read_piece-clause-too_long g c = λ is.
    Loses-behind _ _ _ c.loop-content.content _ _ c.loop-content.invariant.taken
    (c.in_err-read_piece.ensures.too_long (search rules)) (omega (arith, c.loop-content.invariant.within))

pub returns-in_err-read_piece-clause-memory_part : goal.returns-in_err-read_piece-clause-memory_part
returns-in_err-read_piece-clause-memory_part g c = λ is.
    LosesUpTo-behind _ _ _ c.loop-content.content _ _ c.loop-content.invariant.taken
    (c.in_err-read_piece.ensures.memory_part (search rules)) (omega (arith, c.loop-content.invariant.within))
