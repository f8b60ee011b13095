use Rattle.std.proofs.Common.{◌≡◌, ℕ, ◌+◌, map, take, drop}
use Rattle.bc_data.specs.Typed.{NoArg, Nothing}
use Rattle.bc_data.specs.ProgramView.{expr_views, program_stat_views, view_expr, view_part, view_program_stat}
use Rattle.bc_mean.specs.Work.{Gives}
use Rattle.bc_mean.specs.Evaluate.{evaluate, evaluate_all}
use Rattle.bc_mean.specs.Execute.{Goes, execute_all, loop, print_parts}
use Rattle.bc_mean_run.specs.Weights.{ahead, part_weight, part_weights, stat_weight, stat_weights, weight, weights}
use Rattle.bc_mean_run.specs.Tree.{calls_of, world_of}
use Rattle.bc_mean_run.proofs.+run.Given as goal

abbrev pub decreases-evaluate::expression : goal.decreases-evaluate::expression
decreases-evaluate::expression l = ahead (world_of l.stage.now).classes l.stage.now.left (weight (view_expr l.e.now))

abbrev pub decreases-evaluate::operation : goal.decreases-evaluate::operation
decreases-evaluate::operation l = ahead (world_of l.stage.now).classes l.stage.now.left (weight (view_expr l.a.now) + weight (view_expr l.b.now) + 1)

abbrev pub decreases-evaluate::arguments : goal.decreases-evaluate::arguments
decreases-evaluate::arguments l = ahead (world_of l.stage.now).classes l.stage.now.left (weights (expr_views l.es.now NoArg))

abbrev pub decreases-evaluate::call : goal.decreases-evaluate::call
decreases-evaluate::call l = ahead (world_of l.stage.now).classes l.stage.now.left (1)

abbrev pub decreases-evaluate::invoke : goal.decreases-evaluate::invoke
decreases-evaluate::invoke l = ahead (world_of l.stage.now).classes l.stage.now.left 0

abbrev pub decreases-evaluate::construct : goal.decreases-evaluate::construct
decreases-evaluate::construct l = ahead (world_of l.stage.now).classes l.stage.now.left 1

abbrev pub decreases-evaluate::make : goal.decreases-evaluate::make
decreases-evaluate::make l = ahead (world_of l.stage.now).classes l.stage.now.left (weights (expr_views l.args.now NoArg) + 2)

abbrev pub decreases-evaluate::performed : goal.decreases-evaluate::performed
decreases-evaluate::performed l = ahead (world_of l.stage.now).classes l.stage.now.left (weight (view_expr l.e.now))

abbrev pub decreases-execute::print_one : goal.decreases-execute::print_one
decreases-execute::print_one l = ahead (world_of l.stage.now).classes l.stage.now.left (part_weight (view_part l.part.now))

abbrev pub decreases-execute::print : goal.decreases-execute::print
decreases-execute::print l = ahead (world_of l.stage.now).classes l.stage.now.left (part_weights (map view_part l.parts.now))

abbrev pub decreases-execute::repeat : goal.decreases-execute::repeat
decreases-execute::repeat l = ahead (world_of l.stage.now).classes l.stage.now.left (weight (view_expr l.test.now) + stat_weights (program_stat_views l.body.now Nothing) + 2)

abbrev pub decreases-execute::statement : goal.decreases-execute::statement
decreases-execute::statement l = ahead (world_of l.stage.now).classes l.stage.now.left (stat_weight (view_program_stat l.s.now) + 1)

abbrev pub decreases-execute::statements : goal.decreases-execute::statements
decreases-execute::statements l = ahead (world_of l.stage.now).classes l.stage.now.left (stat_weights (program_stat_views l.body.now Nothing))

abbrev pub decreases-evaluate::unary : goal.decreases-evaluate::unary
decreases-evaluate::unary l = ahead (world_of l.stage.now).classes l.stage.now.left (weight (view_expr l.operand.now) + 1)

abbrev pub decreases-evaluate::element : goal.decreases-evaluate::element
decreases-evaluate::element l = ahead (world_of l.stage.now).classes l.stage.now.left (weight (view_expr l.array.now) + weight (view_expr l.index.now) + 1)

abbrev pub decreases-evaluate::operands : goal.decreases-evaluate::operands
decreases-evaluate::operands l = ahead (world_of l.stage.now).classes l.stage.now.left (weight (view_expr l.object.now) + weights (expr_views l.args.now NoArg) + 1)

abbrev pub decreases-evaluate::called : goal.decreases-evaluate::called
decreases-evaluate::called l = ahead (world_of l.stage.now).classes l.stage.now.left (weight (view_expr l.object.now) + weights (expr_views l.args.now NoArg) + 2)

abbrev pub decreases-execute::condition : goal.decreases-execute::condition
decreases-execute::condition l = ahead (world_of l.stage.now).classes l.stage.now.left (weight (view_expr l.e.now) + 1)

abbrev pub decreases-execute::branch : goal.decreases-execute::branch
decreases-execute::branch l = ahead (world_of l.stage.now).classes l.stage.now.left (weight (view_expr l.test.now) + stat_weights (program_stat_views l.body.now Nothing) + stat_weights (program_stat_views l.other.now Nothing) + 2)

abbrev pub decreases-execute::plain : goal.decreases-execute::plain
decreases-execute::plain l = ahead (world_of l.stage.now).classes l.stage.now.left (stat_weight (view_program_stat l.s.now))

abbrev pub invariant-evaluate::arguments-loop-e : goal.invariant-evaluate::arguments-loop-e
invariant-evaluate::arguments-loop-e l = evaluate_all (world_of l.stage) (calls_of l.stage) l.frame (expr_views (take l.e-index l.es) NoArg) l.initial.run ≡ Gives l.xs l.run

abbrev pub invariant-execute::print-loop-part : goal.invariant-execute::print-loop-part
invariant-execute::print-loop-part l =
    print_parts (world_of l.stage) (calls_of l.stage) l.frame l.at (map view_part l.parts) l.initial.run
    ≡ print_parts (world_of l.stage) (calls_of l.stage) l.frame l.at (map view_part (drop l.part-index l.parts)) l.run

abbrev pub invariant-execute::statements-loop-s : goal.invariant-execute::statements-loop-s
invariant-execute::statements-loop-s l =
    execute_all (world_of l.stage) (calls_of l.stage) l.stage.left l.initial.frame (program_stat_views (take l.s-index l.body) Nothing) l.initial.run ≡ Gives (Goes l.frame) l.run

abbrev pub invariant-execute::repeat-loop-run : goal.invariant-execute::repeat-loop-run
invariant-execute::repeat-loop-run l =
    let again = λ (n : ℕ). loop n l.at (λ g v. evaluate (world_of l.stage) (calls_of l.stage) g (view_expr l.test) v) (λ g v. execute_all (world_of l.stage) (calls_of l.stage) l.stage.left g (program_stat_views l.body Nothing) v) in
    again l.stage.left l.initial.frame l.initial.run ≡ again l.more l.frame l.run

abbrev pub decreases-execute::repeat-loop-run : goal.decreases-execute::repeat-loop-run
decreases-execute::repeat-loop-run l = l.more
