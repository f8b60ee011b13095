-- The typing rules of statements alone, as judgements. Faults and their order don't occur here.
use Rattle.std.specs.Prelude.{◌≡◌, ◌⊎◌, ◌<◌, ℕ, true, false, ◌==◌, List, [], ◌∷◌, ◌++◌, Option, Some, None}
use Rattle.std.specs.List.{list_any}
use Rattle.bc_data.specs.SourceTree.{Expression, Call, PrintItem, TextItem, ValueItem, Change, ChangeOf, Statement, Let, NewTag, Assign, Do, MakeDo, Block, If, IfElse, While, Return, ReturnValue, Print, Assert, Exit, Statements, Nothing, Then}
use Rattle.bc_data.specs.declared.tree.Named.{Named}
use Rattle.bc_data.specs.declared.tree.ActionText.{ActionText}
use Rattle.bc_data.specs.declared.tree.ActionText.TheVariants as action
use Rattle.bc_data.specs.declared.program.Shape.{Shape}
use Rattle.bc_data.specs.declared.program.Shape.TheVariants as shape
use Rattle.bc_data.specs.declared.program.Change as program_change
use Rattle.bc_data.specs.declared.program.Change.TheVariants as change
use Rattle.bc_data.specs.Typed as typed
use Rattle.bc_data.specs.Typed.{TypedExpression, TypedExpressions, TypedPart, TypedStatement, TypedStatements}
use Rattle.bc_types_rules.specs.Context.{ValueType, Known, Signature, Names, Context, ParameterIs, Scope, meaning_of, with_slot, with_tag, ended, type_of, fits}
use Rattle.bc_types_rules.specs.Statements.{Parameter, Exiting, is_parameter, assignment, performed, none_named}
use Rattle.bc_types_rules.specs.ExpressionRules.{Each, Fit, IsTagVariable, Has, HaveAll}

-- A name that isn't in scope may be declared, and a body declares at most 256 names.
abbrev pub MayDeclare : Scope → Named → Type 0
MayDeclare s x = (meaning_of s x ≡ None) × (s.count < 256)

abbrev pub IsParameter : Scope → Named → Parameter → Type 0
IsParameter s x p = meaning_of s x ≡ Some (ParameterIs p.number p.class)

-- A call has this result, if any, and this code. Any other expression has a result.
abbrev pub Calls : Context → Scope → Expression → Option ValueType → TypedExpression → Type 0
Calls G s (Call at a x args) r c =
    (k m : ℕ) × (sig : Signature) × (u : TypedExpression) × (xs : List ValueType) × (vs : TypedExpressions)
    × Has G s a (Known (shape.Class k)) u × HaveAll G s args xs vs
    × (G.names.method_of k x.name ≡ Some (record { method = m; signature = sig })) × Fit xs sig.formals
    × (r ≡ sig.result) × (c ≡ typed.Call at u k m vs)
Calls G s e r c = (t : ValueType) × Has G s e t c × (r ≡ Some t)

-- An item is printed behind those before it.
abbrev pub Prints : Context → Scope → List TypedPart → PrintItem → List TypedPart → Type 0
Prints G s before (TextItem meaning) after = after ≡ before ++ typed.TextPart meaning ∷ []
Prints G s before (ValueItem e) after =
    (v : TypedExpression) × ((Has G s e (Known shape.Int) v × (after ≡ before ++ typed.NumberPart v ∷ []))
    ⊎ (Has G s e (Known shape.Bool) v × (after ≡ before ++ typed.TruthPart v ∷ [])))

-- An action on a parameter is put behind those before it.
abbrev pub Acts : Names → Scope → Parameter → List program_change.Change → ActionText → List program_change.Change → Type 0
Acts N s p before (action.Flag x b) after = (f : ℕ) × (N.flag_of p.class x.name ≡ Some f) × (after ≡ before ++ change.Flag p.number f b ∷ [])
Acts N s p before (action.Add at x) after = (v : ℕ) × IsTagVariable s x v × (after ≡ before ++ change.Add at p.number v ∷ [])
Acts N s p before (action.Clear at x) after = (v : ℕ) × IsTagVariable s x v × (after ≡ before ++ change.Clear p.number v ∷ [])

-- The changes of a parameter that none before them names are put behind them.
abbrev pub Changes : Names → Scope → Exiting → Change → Exiting → Type 0
Changes N s x (ChangeOf param actions) y =
    (p : Parameter) × (cs : List program_change.Change) × IsParameter s param p × (list_any (λ n. n == p.number) x.named ≡ false)
    × Each (Acts N s p) x.changes actions cs × (y ≡ record { named = x.named ++ p.number ∷ []; changes = cs })

abbrev mutual
  -- In this context and scope the statement has this code, and behind it is this scope.
  pub Does : Context → Scope → Statement → TypedStatement → Scope → Type 0
  Does G s (Let x e) d t =
      (sh : Shape) × (y : ValueType) × (v : TypedExpression) × (type_of G.names.class_of x.kind ≡ Known sh) × Has G s e y v
      × MayDeclare s x.name × (fits y (Known sh) ≡ true) × (d ≡ typed.Set s.slots v) × (t ≡ with_slot s x.name sh)
  Does G s (NewTag at x kind) d t =
      (k : ℕ) × (G.me ≡ None) × (G.names.tag_type_of kind.name ≡ Some k) × MayDeclare s x × (d ≡ typed.NewTag at s.tags k)
      × (t ≡ with_tag s x k)
  Does G s (Assign target e) d t =
      (y z : ValueType) × (u v : TypedExpression) × Has G s target y u × Has G s e z v × (is_parameter s target ≡ false)
      × (fits z y ≡ true) × (assignment u v ≡ Some d) × (t ≡ s)
  Does G s (Do call) d t = (r : Option ValueType) × (c : TypedExpression) × Calls G s call r c × (d ≡ performed r c) × (t ≡ s)
  Does G s (MakeDo made) d t = (y : ValueType) × (c : TypedExpression) × Has G s made y c × (d ≡ typed.Drop c) × (t ≡ s)
  Does G s (Block at body) d t = (xs : TypedStatements) × (r : Scope) × DoAll G s body xs r × (d ≡ typed.Block xs) × (t ≡ ended s r)
  Does G s (If at test body) d t =
      (v : TypedExpression) × (xs : TypedStatements) × (r : Scope) × Has G s test (Known shape.Bool) v × DoAll G s body xs r
      × (d ≡ typed.If v xs typed.Nothing) × (t ≡ ended s r)
  Does G s (IfElse at test body other) d t =
      (v : TypedExpression) × (xs ys : TypedStatements) × (q r : Scope) × Has G s test (Known shape.Bool) v × DoAll G s body xs q
      × DoAll G (ended s q) other ys r × (d ≡ typed.If v xs ys) × (t ≡ ended s r)
  Does G s (While at test body) d t =
      (v : TypedExpression) × (xs : TypedStatements) × (r : Scope) × Has G s test (Known shape.Bool) v × DoAll G s body xs r
      × (d ≡ typed.While at v xs) × (t ≡ ended s r)
  Does G s (Return at) d t = (me : ℕ) × (G.me ≡ Some me) × (G.result ≡ None) × (d ≡ typed.Return None) × (t ≡ s)
  Does G s (ReturnValue at e) d t =
      (sh : Shape) × (y : ValueType) × (v : TypedExpression) × Has G s e y v × (G.result ≡ Some sh) × (fits y (Known sh) ≡ true)
      × (d ≡ typed.Return (Some v)) × (t ≡ s)
  Does G s (Print at items) d t = (ps : List TypedPart) × Each (Prints G s) [] items ps × (d ≡ typed.Print at ps) × (t ≡ s)
  Does G s (Assert at e) d t = (v : TypedExpression) × Has G s e (Known shape.Bool) v × (d ≡ typed.Assert at v) × (t ≡ s)
  Does G s (Exit at changes) d t =
      (x : Exiting) × (G.me ≡ None) × Each (Changes G.names s) none_named changes x × (d ≡ typed.Exit x.changes) × (t ≡ s)

  pub DoAll : Context → Scope → Statements → TypedStatements → Scope → Type 0
  DoAll G s Nothing ds t = (ds ≡ typed.Nothing) × (t ≡ s)
  DoAll G s (Then front last) ds t =
      (es : TypedStatements) × (r : Scope) × (d : TypedStatement) × DoAll G s front es r × Does G r last d t × (ds ≡ typed.Then es d)
