use Rattle.std.proofs.Common.{◌≡◌, arith, ◌++◌, ◌∷◌, [], ap, List, length}
use Rattle.std.proofs.lemmas.Result.{err_from_is_err_and}
use Rattle.bc_data.specs.SourceTree.{Empty}
use Rattle.bc_data.specs.View.{onto_by, view_member}
use Rattle.bc_data.specs.Typed.{TypedClass, TypedProgram}
use Rattle.bc_types_expr.specs.Looks.{looks}
use Rattle.bc_types.specs.Parts.{parts_seen}
use Rattle.bc_types.proofs.Whole.{class_stops, class_joins}
use Rattle.bc_types.proofs.walk.Parts.add_class.Goals as goal

pub returns-in_err-class : goal.returns-in_err-class
returns-in_err-class c =
    let me : c.len-me.result ≡ length (parts_seen c.args.self.now).classes = omega arith in
    let p = err_from_is_err_and c.from_residual.result c.from_residual.ensures.1 in
    rw (p.1, p.2) (class_stops (looks c.args.table.now) (parts_seen c.args.self.now) c.len-me.result c.args.x.now.name (onto_by view_member c.args.x.now.members.items Empty) me c.in_err-class.field-0.0 c.in_err-class.ensures)

pub returns : goal.returns
returns c =
    let p : TypedProgram = parts_seen c.args.self.now in
    let me : c.len-me.result ≡ length p.classes = omega arith in
    let more : c.push.new.self.items ≡ p.classes ++ c.in_ok-class.class ∷ [] = c.in_ok-push.ensures.items in
    class_joins (looks c.args.table.now) p c.len-me.result c.args.x.now.name (onto_by view_member c.args.x.now.members.items Empty) me c.in_ok-class.class _ c.in_ok-class.ensures (ap (λ (cs : List TypedClass). record p { classes = cs }) more)
