-- Statements and what stands in them, as contracts see them.
use Rattle.std.specs.Prelude.{List, [], ◌∷◌, ◌++◌, map, Some, None, Result, Ok, Err}
use Rattle.bc_data.specs.SourceTree.{Sequence, PrintItem, TextItem, ValueItem, Statements, Param}
use Rattle.bc_data.specs.declared.tree.Formal.{Formal}
use Rattle.bc_types_rules.specs.Numbering.{try_fold}
use Rattle.bc_data.specs.declared.run.Place.{Place}
use Rattle.bc_data.specs.declared.program.Part.{Part}
use Rattle.bc_types_rules.specs.Got.{Got, Gives, Fails, Mismatch, ask, ◌>>=◌, ◌>>◌}
use Rattle.bc_data.specs.Typed.{TypedPart, TypedStatement, TypedStatements}
use Rattle.bc_data.specs.ProgramView.{view_part}
use Rattle.bc_types_rules.specs.Context as rules
use Rattle.bc_types_rules.specs.Context.{Context, ValueType, ended, is_bool}
use Rattle.bc_types_rules.specs.Statements as rules_statements
use Rattle.bc_types_rules.specs.Statements.{Stated, AllStated, Parameter, state_all, ReadText, ReadValue, check_part}
use Rattle.bc_types_rules.specs.Expressions.{infer, place_of}
use Rattle.bc_types_rules.specs.Bodies as rules_bodies
use Rattle.bc_types_stat.specs.declared.methods.Formals.{Formals}
use Rattle.bc_types_stat.specs.declared.params.Binds.{Binds}
use Rattle.bc_types_stat.specs.declared.params.Params.{Params}
use Rattle.bc_types_stat.specs.declared.print.Printed.{Printed}
use Rattle.bc_types_stat.specs.declared.exit.Exiting.{Exiting}
use Rattle.bc_types_stat.specs.declared.exit.Parameter as code

abbrev pub stated : TypedStatement → rules.Scope → Stated
stated d s = record { code = d; scope = s }

abbrev pub all_stated : TypedStatements → rules.Scope → AllStated
all_stated ds s = record { codes = ds; scope = s }

-- the statements of a block, whose names end with it
abbrev pub block_of : Context → rules.Scope → Statements → Got AllStated
block_of G s body = do
  xs ← state_all G s body
  Gives (all_stated xs.codes (ended s xs.scope))

-- a statement whose condition is asked for a truth value
abbrev pub tested : ValueType → Place → TypedStatement → Got TypedStatement
tested t at d = do
  ask (is_bool t) Mismatch at
  Gives d

-- an item's part, or that it can't be printed
abbrev pub part_seen : Result Part Place → Got TypedPart
part_seen (Ok p) = Gives (view_part p)
part_seen (Err at) = Fails Mismatch at

-- the parts of a `print` whose items have been read, or the first item that can't be printed
abbrev pub printed_seen : Printed → Got (List TypedPart)
printed_seen p = elim p.misfit [ None ↦ Gives (map view_part p.parts.items) | Some at ↦ Fails Mismatch at ]

abbrev pub with_part : Got (List TypedPart) → Got TypedPart → Got (List TypedPart)
with_part g h = do
  ps ← g
  p ← h
  Gives (ps ++ p ∷ [])

-- an item that is read, and then asked for its type
abbrev pub item_asked : Context → rules.Scope → PrintItem → Got (Got TypedPart)
item_asked G s (TextItem meaning) = Gives (check_part (ReadText meaning))
item_asked G s (ValueItem e) = do
  x ← infer G s e
  Gives (check_part (ReadValue x (place_of e)))

-- the next item behind those that have been read
abbrev pub read_next : Context → rules.Scope → Got (List TypedPart) → PrintItem → Got (Got (List TypedPart))
read_next G s ps item = do
  p ← item_asked G s item
  Gives (with_part ps p)

abbrev pub parameter_seen : code.Parameter → Parameter
parameter_seen p = record { number = p.number; class = p.class }

abbrev pub exiting_seen : Exiting → rules_statements.Exiting
exiting_seen x = record { named = x.named.items; changes = x.changes.items }

abbrev pub formals_seen : Formals → rules_bodies.Formals
formals_seen fs = record { shapes = fs.shapes.items; scope = fs.scope }

abbrev pub binds_seen : Binds → rules_bodies.Binds
binds_seen bs = record { variables = bs.variables.items; scope = bs.scope }

-- a parameter that binds nothing yet
abbrev pub unbound : rules.Scope → rules_bodies.Binds
unbound s = record { variables = []; scope = s }

abbrev pub params_seen : Params → rules_bodies.Params
params_seen ps = record { each = ps.each.items; scope = ps.scope }

-- formals in order, and the parameters of a task
abbrev pub check_formals : rules.Names → Sequence Formal → Got rules_bodies.Formals
check_formals N formals = try_fold (rules_bodies.check_formal N) rules_bodies.no_formals formals

abbrev pub check_params : rules.Names → Sequence Param → Got rules_bodies.Params
check_params N params = try_fold (rules_bodies.check_param N) rules_bodies.no_params params
