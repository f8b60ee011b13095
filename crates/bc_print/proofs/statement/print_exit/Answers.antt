use Rattle.std.proofs.Common.{◌≡◌, ◌++◌, [], ◌∷◌, refl, ap, ◌∙◌, sym}
use Rattle.std.specs.Prelude.{codes}
use Rattle.bc_data.specs.SourceTree.{Empty}
use Rattle.bc_data.specs.View.{view_change, onto, onto_by}
use Rattle.bc_print.specs.Canonical.{change_text, joined, line}
use Rattle.bc_print.proofs.Lists.{joined_views, line_of_three, ok_then_two, then_one}
use Rattle.bc_print.proofs.statement.print_exit.Goals as goal

pub returns : goal.returns
returns c =
    let margin = c.args.margin.now in
    let parts = joined (λ x. change_text (view_change x)) (59 ∷ 32 ∷ []) (onto c.args.changes.now Empty) in
    let same : parts ≡ joined change_text (59 ∷ 32 ∷ []) (onto_by view_change c.args.changes.now Empty) = joined_views change_text view_change (59 ∷ 32 ∷ []) c.args.changes.now in
    ok_then_two _ _ _ _ _ _ _ _ _ (then_one _ _ _ _ _ _ c.in_ok-extend_from_slice.ensures.ok c.in_ok-extend_from_slice-2.ensures.ok refl) c.in_ok-print_joined.ensures c.extend_from_slice-3.ensures.ok (ap (λ p. line margin (codes "taskexit(" ++ p ++ codes ");")) (sym same) ∙ line_of_three margin (codes "taskexit(") parts (codes ");"))
