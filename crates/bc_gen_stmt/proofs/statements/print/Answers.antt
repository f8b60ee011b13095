use Rattle.std.proofs.Common.{◌≡◌, ◌<◌, ◌+◌, ◌++◌, ◌∷◌, [], length, map, take, sym, ◌∙◌, ap, subst, arith}
use Rattle.std.proofs.lemmas.List.{map_more}
use Rattle.bc_data.specs.ProgramView.{view_part}
use Rattle.bc_gen_stmt.proofs.Laying.{PutsParts, one_part}
use Rattle.bc_gen_stmt.proofs.statements.print.Goals as goal

pub loop-part-preserved : goal.loop-part-preserved
loop-part-preserved c =
    let K = c.args.classes.now in
    let parts = c.args.parts.now in
    let i = c.loop-part.part-index in
    let within : i < length parts = omega arith in
    let more : map view_part (take i parts) ++ view_part c.part-item.result ∷ [] ≡ map view_part (take (i + 1) parts) =
    ap (λ x. map view_part (take i parts) ++ view_part x ∷ []) c.part-item.is ∙ sym (map_more view_part parts i c.part-item.result within) in
    subst (λ l. PutsParts K c.args.at l c.args.out.now c.print_part.new.out) more (one_part K c.args.at (map view_part (take i parts)) (view_part c.part-item.result) _ _ _ c.loop-part.invariant c.in_ok-print_part.ensures)
