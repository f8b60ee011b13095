use Rattle.std.proofs.Common.{◌≡◌, ap, sym, ◌∙◌}
use Rattle.std.proofs.lemmas.Result.{err_from_is_err_and}
use Rattle.bc_data.specs.SourceTree.{Empty}
use Rattle.bc_data.specs.View.{onto_by, view_text_item, view_tree}
use Rattle.bc_types_rules.specs.Declared.{types_of}
use Rattle.bc_types_rules.specs.Numbering.{number_of, numbering}
use Rattle.bc_types_rules.specs.Got.{Gives}
use Rattle.bc_types_expr.specs.Looks.{all_types_seen}
use Rattle.bc_types.specs.Parts.{parts_seen}
use Rattle.bc_types.proofs.Whole.{check_walks}
use Rattle.bc_law_accepted.proofs.Accepted.{accepted_is_well_typed}
use Rattle.bc_types.proofs.program.check.Goals as goal

pub into_program-requires : goal.into_program-requires
into_program-requires c =
    let numbered : numbering (view_tree c.args.tree.now) ≡ Gives c.in_ok-names.names = c.in_ok-names.ensures in
    let typed : all_types_seen c.in_ok-types.types.items ≡ types_of (number_of c.in_ok-names.names.classes) (onto_by view_text_item c.deref.result.now Empty) = c.in_ok-types.ensures in
    let walks = check_walks (record { names = c.in_ok-names.names; types = c.in_ok-types.types }) (view_tree c.args.tree.now) numbered (rw c.deref.ensures.value at typed) in
    accepted_is_well_typed (view_tree c.args.tree.now) (parts_seen c.in_ok-parts.parts) c.requires (walks ∙ (rw c.deref-2.ensures.value at c.in_ok-parts.ensures))

pub returns : goal.returns
returns c =
    let numbered : numbering (view_tree c.args.tree.now) ≡ Gives c.in_ok-names.names = c.in_ok-names.ensures in
    let typed : all_types_seen c.in_ok-types.types.items ≡ types_of (number_of c.in_ok-names.names.classes) (onto_by view_text_item c.deref.result.now Empty) = c.in_ok-types.ensures in
    let walks = check_walks (record { names = c.in_ok-names.names; types = c.in_ok-types.types }) (view_tree c.args.tree.now) numbered (rw c.deref.ensures.value at typed) in
    walks ∙ (rw c.deref-2.ensures.value at c.in_ok-parts.ensures) ∙ ap Gives (sym c.into_program.ensures)

pub returns-in_err-parts : goal.returns-in_err-parts
returns-in_err-parts c =
    let numbered : numbering (view_tree c.args.tree.now) ≡ Gives c.in_ok-names.names = c.in_ok-names.ensures in
    let typed : all_types_seen c.in_ok-types.types.items ≡ types_of (number_of c.in_ok-names.names.classes) (onto_by view_text_item c.deref.result.now Empty) = c.in_ok-types.ensures in
    let walks = check_walks (record { names = c.in_ok-names.names; types = c.in_ok-types.types }) (view_tree c.args.tree.now) numbered (rw c.deref.ensures.value at typed) in
    let p = err_from_is_err_and c.from_residual-in_err-parts.result c.from_residual-in_err-parts.ensures.1 in
    rw (p.1, p.2, walks) (rw c.deref-2.ensures.value at c.in_err-parts.ensures)
