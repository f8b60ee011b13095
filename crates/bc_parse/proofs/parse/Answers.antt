use Rattle.std.proofs.Common.{ap, sym, ◌∙◌}
use Rattle.bc_data.specs.SourceTree.{Empty}
use Rattle.bc_data.specs.Seen.{seen}
use Rattle.bc_law_grammar.specs.Machine.{Items, run}
use Rattle.bc_law_grammar.proofs.Exact.{unexpected, too_deep, not_cut}
use Rattle.bc_parse.proofs.parse.Goals as goal

pub returns-in-Err-Unexpected-clause-err : goal.returns-in-Err-Unexpected-clause-err
returns-in-Err-Unexpected-clause-err c =
    let ran = rw c.in-Err-Unexpected.field-0-is at c.in-Err-Unexpected.ensures in
    unexpected 64 (seen c.args.text.now c.args.tokens.now) c.in-Err-Unexpected.at (ap (λ ts. run 64 (Items Empty) (seen c.args.text.now ts)) (sym c.as_slice.ensures) ∙ ran)

pub returns-in-Err-TooDeep-clause-err : goal.returns-in-Err-TooDeep-clause-err
returns-in-Err-TooDeep-clause-err c =
    let ran = rw c.in-Err-TooDeep.field-0-is at c.in-Err-TooDeep.ensures in
    too_deep 64 (seen c.args.text.now c.args.tokens.now) c.in-Err-TooDeep.at (ap (λ ts. run 64 (Items Empty) (seen c.args.text.now ts)) (sym c.as_slice.ensures) ∙ ran)

pub returns-in-Err-Cut-clause-err : goal.returns-in-Err-Cut-clause-err
returns-in-Err-Cut-clause-err c =
    let ran = rw c.in-Err-Cut.field-0-is at c.in-Err-Cut.ensures in
    absurd (not_cut 64 (Items Empty) (seen c.args.text.now c.args.tokens.now) c.requires (ap (λ ts. run 64 (Items Empty) (seen c.args.text.now ts)) (sym c.as_slice.ensures) ∙ ran))
