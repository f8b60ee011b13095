-- Methods, constructors and tasks.
use Rattle.std.specs.Prelude.{ℕ, not, ◌||◌, ◌==◌, nat_eq, nat_lt, is_some, List, [], ◌∷◌, ◌++◌, Option, Some, None}
use Rattle.std.specs.List.{list_any, filter_map}
use Rattle.std.specs.Cmp.Lexicographic.{pointwise}
use Rattle.bc_data.specs.SourceTree.{Sequence, AndOp, OrOp, Guard, FlagIs, FlagTruth, FlagNot, FlagTwo, FlagGroup, Statements, Method, MethodOf, Param, ParamOf}
use Rattle.bc_data.specs.declared.tree.Named.{Named}
use Rattle.bc_data.specs.declared.tree.TypeText.{TypeText}
use Rattle.bc_data.specs.declared.tree.Formal.{Formal}
use Rattle.bc_data.specs.declared.tree.Bind.{Bind}
use Rattle.bc_data.specs.declared.run.Place.{Place}
use Rattle.bc_data.specs.declared.program.Shape.{Shape}
use Rattle.bc_types_rules.specs.Got.{Got, Gives, Fails, Twice, TooMany, Unknown, Mismatch, NoReturn, ask, find, ◌>>=◌, ◌>>◌}
use Rattle.bc_types_rules.specs.Numbering.{try_fold}
use Rattle.bc_data.specs.Typed as typed
use Rattle.bc_data.specs.Typed.{TypedGuard, TypedMethod, TypedParam, TypedTask}
use Rattle.bc_types_rules.specs.Context.{Names, Context, Meaning, SlotIs, ParameterIs, TagIs, InScope, Scope, method_scope, task_scope, meaning_of, is_free, with_slot, with_parameter, with_tag, shape_at}
use Rattle.bc_types_rules.specs.Statements.{AllStated, state_all, all_leave}

abbrev pub result_at : Names → Option TypeText → Got (Option Shape)
result_at N None = Gives None
result_at N (Some t) = do
  sh ← shape_at N t
  Gives (Some sh)

-- the formals' shapes, and the scope behind them
pub record Formals : Type 0 where
  pub shapes : List Shape
  pub scope : Scope

abbrev pub no_formals : Formals
no_formals = record { shapes = []; scope = method_scope }

abbrev pub with_formal : Formals → Named → Shape → Formals
with_formal fs x sh = record { shapes = fs.shapes ++ sh ∷ []; scope = with_slot fs.scope x sh }

-- A formal: its type, then its name. The seventeenth is one too many.
abbrev pub check_formal : Names → Formals → Formal → Got Formals
check_formal N fs x = do
  sh ← shape_at N x.kind
  ask (is_free fs.scope x.name) Twice x.name.at
  ask (nat_lt fs.scope.count 16) TooMany x.name.at
  Gives (with_formal fs x.name sh)

-- where a method or a constructor of this class stands, and a task
abbrev pub in_class : Names → ℕ → Option Shape → Context
in_class N me result = record { names = N; me = Some me; result = result }

abbrev pub in_task : Names → Context
in_task N = record { names = N; me = None; result = None }

abbrev pub method_of : Named → Formals → Option Shape → AllStated → TypedMethod
method_of x fs result b = record { name = x.name; formals = fs.shapes; locals = b.scope.slots; result = result; body = b.codes }

-- A method of a class: its result, its formals, its body. With a result its body surely leaves.
abbrev pub check_method : Names → ℕ → Method → Got TypedMethod
check_method N me (MethodOf result x formals body) = do
  r ← result_at N result
  fs ← try_fold (check_formal N) no_formals formals
  b ← state_all (in_class N me r) fs.scope body
  ask (not (is_some r) || all_leave body) NoReturn x.at
  Gives (method_of x fs r b)

abbrev pub name_of : Method → Named
name_of (MethodOf result x formals body) = x

-- A constructor has its class's name.
abbrev pub check_maker : Names → ℕ → List ℕ → Method → Got TypedMethod
check_maker N me class_name m = do
  ask (pointwise nat_eq (name_of m).name class_name) Unknown (name_of m).at
  check_method N me m

-- the guard of a parameter, over the flags of its class
abbrev pub check_guard : Names → ℕ → Guard → Got TypedGuard
check_guard N class (FlagIs x) = do
  f ← find (N.flag_of class x.name) Unknown x.at
  Gives (typed.FlagIs f)
check_guard N class (FlagTruth b) = Gives (typed.FlagTruth b)
check_guard N class (FlagNot g) = do
  x ← check_guard N class g
  Gives (typed.FlagNot x)
check_guard N class (FlagTwo AndOp g h) = do
  x ← check_guard N class g
  y ← check_guard N class h
  Gives (typed.FlagAnd x y)
check_guard N class (FlagTwo OrOp g h) = do
  x ← check_guard N class g
  y ← check_guard N class h
  Gives (typed.FlagOr x y)
check_guard N class (FlagGroup g) = check_guard N class g

-- the tag variables that a parameter binds, and the scope behind them
pub record Binds : Type 0 where
  pub variables : List ℕ
  pub scope : Scope

-- with a tag variable of this type that is new, and with one that is there
abbrev pub with_new : Binds → Named → ℕ → Binds
with_new bs x tag_type = record { variables = bs.variables ++ bs.scope.tags ∷ []; scope = with_tag bs.scope x tag_type }

abbrev pub with_old : Binds → ℕ → Binds
with_old bs variable = record { variables = bs.variables ++ variable ∷ []; scope = bs.scope }

-- A tag variable that is new is declared; the fifth of a task's parameters is one too many. One that another parameter binds
-- has the type that it has there. A name that the same parameter binds, or that is no tag variable, is there twice.
abbrev pub bind_variable : Binds → Named → ℕ → Option Meaning → Got Binds
bind_variable bs x tag_type None = do
  ask (nat_lt bs.scope.tags 4) TooMany x.at
  Gives (with_new bs x tag_type)
bind_variable bs x tag_type (Some (TagIs variable before)) = do
  ask (not (list_any (λ v. v == variable) bs.variables)) Twice x.at
  ask (before == tag_type) Mismatch x.at
  Gives (with_old bs variable)
bind_variable bs x tag_type (Some (SlotIs slot sh)) = Fails Twice x.at
bind_variable bs x tag_type (Some (ParameterIs slot class)) = Fails Twice x.at

-- a bind: its tag type, then its variable
abbrev pub check_bind : Names → Binds → Bind → Got Binds
check_bind N bs b = do
  k ← find (N.tag_type_of b.tag_type.name) Unknown b.tag_type.at
  bind_variable bs b.variable k (meaning_of bs.scope b.variable)

-- the parameters of a task, and the scope behind them
pub record Params : Type 0 where
  pub each : List TypedParam
  pub scope : Scope

abbrev pub no_params : Params
no_params = record { each = []; scope = task_scope }

-- nothing bound so far, behind the name of the parameter itself
abbrev pub no_binds : Params → Named → ℕ → Binds
no_binds ps x class = record { variables = []; scope = with_parameter ps.scope x class }

abbrev pub with_param : Params → ℕ → TypedGuard → Binds → Params
with_param ps class g bs = record { each = ps.each ++ record { class = class; guard = g; binds = bs.variables } ∷ []; scope = bs.scope }

-- A parameter of a task: its class, its name, its guard, its binds. The fifth is one too many.
abbrev pub check_param : Names → Params → Param → Got Params
check_param N ps (ParamOf kind x guard binds) = do
  c ← find (N.class_of kind.name) Unknown kind.at
  ask (is_free ps.scope x) Twice x.at
  ask (nat_lt ps.scope.slots 4) TooMany x.at
  g ← check_guard N c guard
  bs ← try_fold (check_bind N) (no_binds ps x c) binds
  Gives (with_param ps c g bs)

abbrev pub type_of_tag : InScope → Option ℕ
type_of_tag l = elim l.meaning [ SlotIs slot sh ↦ None | ParameterIs slot class ↦ None | TagIs variable tag_type ↦ Some tag_type ]

-- The variables of a task are those that its parameters bind.
abbrev pub task_of : Place → Named → Params → AllStated → TypedTask
task_of at x ps b = record {
  name = x.name;
  at = at;
  params = ps.each;
  variables = filter_map type_of_tag ps.scope.known;
  locals = b.scope.slots;
  tags = b.scope.tags;
  body = b.codes;
}

-- A task: its parameters, then its body.
abbrev pub check_task : Names → Place → Named → Sequence Param → Statements → Got TypedTask
check_task N at x params body = do
  ps ← try_fold (check_param N) no_params params
  b ← state_all (in_task N) ps.scope body
  Gives (task_of at x ps b)
