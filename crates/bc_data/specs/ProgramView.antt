-- The programs of the code, without where they lie in memory.
use Rattle.std.specs.Prelude.{List, [], ◌∷◌, map, Some, None}
use Rattle.bc_data.specs.declared.program.Expr.{Expr, Row_of-Expr, end_of-Expr, more_of-Expr}
use Rattle.bc_data.specs.declared.program.Expr as expr
use Rattle.bc_data.specs.declared.program.Part.{Part}
use Rattle.bc_data.specs.declared.program.Part.TheVariants as part
use Rattle.bc_data.specs.declared.program.Stat.{Stat, Row_of-Stat, end_of-Stat, more_of-Stat}
use Rattle.bc_data.specs.declared.program.Stat as stat
use Rattle.bc_data.specs.declared.program.FlagExpr.{FlagExpr}
use Rattle.bc_data.specs.declared.program.FlagExpr as flag
use Rattle.bc_data.specs.Typed as typed
use Rattle.bc_data.specs.Typed.{TypedExpression, TypedExpressions, NoArg, Arg, TypedPart, TypedStatement, TypedStatements, Nothing, Then, TypedGuard}

abbrev mutual
  pub view_expr : Expr → TypedExpression
  view_expr (expr.Int n) = typed.Int n
  view_expr (expr.Truth b) = typed.Truth b
  view_expr expr.Null = typed.Null
  view_expr (expr.Local slot) = typed.Local slot
  view_expr (expr.Neg' p e) = typed.Neg (view_expr e)
  view_expr (expr.Not' p e) = typed.Not (view_expr e)
  view_expr (expr.Two' at op p a q b) = typed.Two at op (view_expr a) (view_expr b)
  view_expr (expr.Field' at p object field) = typed.FieldOf at (view_expr object) field
  view_expr (expr.Length' at p array) = typed.Length at (view_expr array)
  view_expr (expr.Elem' at p array q index) = typed.Elem at (view_expr array) (view_expr index)
  view_expr (expr.Call' at p object class method shape args) = typed.Call at (view_expr object) class method (view_exprs_onto args NoArg)
  view_expr (expr.Make' at class shape args tweaks) = typed.Make at class (view_exprs_onto args NoArg) tweaks.items
  view_expr (expr.Array' at kind p size) = typed.Array at kind (view_expr size)

  pub view_exprs_onto : {m : _} → Row_of-Expr m → TypedExpressions → TypedExpressions
  view_exprs_onto end_of-Expr front = front
  view_exprs_onto (more_of-Expr e rest) front = view_exprs_onto rest (Arg front (view_expr e))

-- the elements of a Vec behind those that stand before
abbrev pub expr_views : List Expr → TypedExpressions → TypedExpressions
expr_views [] front = front
expr_views (e ∷ es) front = expr_views es (Arg front (view_expr e))

abbrev pub view_part : Part → TypedPart
view_part (part.Text bytes) = typed.TextPart bytes
view_part (part.Number e) = typed.NumberPart (view_expr e)
view_part (part.Truth e) = typed.TruthPart (view_expr e)

abbrev mutual
  pub view_program_stat : Stat → TypedStatement
  view_program_stat (stat.Set slot e) = typed.Set slot (view_expr e)
  view_program_stat (stat.NewTag at variable tag_type) = typed.NewTag at variable tag_type
  view_program_stat (stat.SetField at object field e) = typed.SetField at (view_expr object) field (view_expr e)
  view_program_stat (stat.SetElem at array index e) = typed.SetElem at (view_expr array) (view_expr index) (view_expr e)
  view_program_stat (stat.Drop e) = typed.Drop (view_expr e)
  view_program_stat (stat.Perform e) = typed.Perform (view_expr e)
  view_program_stat (stat.If' test shape body other_shape other) = typed.If (view_expr test) (view_program_stats_onto body Nothing) (view_program_stats_onto other Nothing)
  view_program_stat (stat.While' at test shape body) = typed.While at (view_expr test) (view_program_stats_onto body Nothing)
  view_program_stat (stat.Return None) = typed.Return None
  view_program_stat (stat.Return (Some e)) = typed.Return (Some (view_expr e))
  view_program_stat (stat.Print at parts) = typed.Print at (map view_part parts.items)
  view_program_stat (stat.Assert at e) = typed.Assert at (view_expr e)
  view_program_stat (stat.Exit changes) = typed.Exit changes.items
  view_program_stat (stat.Block' shape body) = typed.Block (view_program_stats_onto body Nothing)

  pub view_program_stats_onto : {m : _} → Row_of-Stat m → TypedStatements → TypedStatements
  view_program_stats_onto end_of-Stat front = front
  view_program_stats_onto (more_of-Stat s rest) front = view_program_stats_onto rest (Then front (view_program_stat s))

abbrev pub program_stat_views : List Stat → TypedStatements → TypedStatements
program_stat_views [] front = front
program_stat_views (s ∷ ss) front = program_stat_views ss (Then front (view_program_stat s))

abbrev pub view_flag_expr : FlagExpr → TypedGuard
view_flag_expr (flag.Flag f) = typed.FlagIs f
view_flag_expr (flag.Truth b) = typed.FlagTruth b
view_flag_expr (flag.Not' p g) = typed.FlagNot (view_flag_expr g)
view_flag_expr (flag.And' p g q h) = typed.FlagAnd (view_flag_expr g) (view_flag_expr h)
view_flag_expr (flag.Or' p g q h) = typed.FlagOr (view_flag_expr g) (view_flag_expr h)
