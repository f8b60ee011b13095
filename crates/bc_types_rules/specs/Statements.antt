-- The code of a statement and the scope behind it, or its first fault. The lines of a `do` stand in the order of the tests: the
-- children of a node from left to right, then the node.
use Rattle.std.specs.Prelude.{ℕ, Bool, true, false, not, ◌&&◌, ◌==◌, is_some, List, [], ◌∷◌, ◌++◌, Option, Some, None}
use Rattle.std.specs.List.{list_any}
use Rattle.bc_data.specs.SourceTree.{Expression, Var, Call, PrintItem, TextItem, ValueItem, Change, ChangeOf, Statement, Let, NewTag, Assign, Do, MakeDo, Block, If, IfElse, While, Return, ReturnValue, Print, Assert, Exit, Statements, Nothing, Then}
use Rattle.bc_data.specs.declared.tree.ActionText.{ActionText}
use Rattle.bc_data.specs.declared.tree.ActionText.TheVariants as action
use Rattle.bc_data.specs.declared.run.Place.{Place}
use Rattle.bc_data.specs.declared.program.Shape.TheVariants as shape
use Rattle.bc_data.specs.declared.program.Change as program_change
use Rattle.bc_data.specs.declared.program.Change.TheVariants as change
use Rattle.bc_types_rules.specs.Got.{Got, Gives, Twice, Unknown, Mismatch, Fixed, Misplaced, ask, find, ◌>>=◌, ◌>>◌}
use Rattle.bc_types_rules.specs.Numbering.{try_fold}
use Rattle.bc_data.specs.Typed as typed
use Rattle.bc_data.specs.Typed.{TypedExpression, TypedPart, TypedStatement, TypedStatements}
use Rattle.bc_types_rules.specs.Context.{ValueType, Known, Names, Context, Meaning, SlotIs, ParameterIs, TagIs, Scope, meaning_of, tag_variable_at, declare_slot, declare_tag, ended, shape_at, fits, is_bool}
use Rattle.bc_types_rules.specs.Expressions.{Typed, Called, place_of, check_call, infer, infer_all}

pub record Stated : Type 0 where
  pub code : TypedStatement
  pub scope : Scope

pub record AllStated : Type 0 where
  pub codes : TypedStatements
  pub scope : Scope

-- the parameter of a task: its number, which is its slot, and its class
pub record Parameter : Type 0 where
  pub number : ℕ
  pub class : ℕ

abbrev pub parameter_of : Option Meaning → Option Parameter
parameter_of (Some (ParameterIs slot class)) = Some (record { number = slot; class = class })
parameter_of (Some (SlotIs slot sh)) = None
parameter_of (Some (TagIs variable tag_type)) = None
parameter_of None = None

abbrev pub is_parameter : Scope → Expression → Bool
is_parameter s (Var x) = is_some (parameter_of (meaning_of s x))
is_parameter s _ = false

-- An assignment to a slot, a field or an element. The grammar has no other target.
abbrev pub assignment : TypedExpression → TypedExpression → Option TypedStatement
assignment (typed.Local slot) value = Some (typed.Set slot value)
assignment (typed.FieldOf at object field) value = Some (typed.SetField at object field value)
assignment (typed.Elem at array index) value = Some (typed.SetElem at array index value)
assignment _ value = None

-- A call as a statement may be without a result. The grammar has nothing but calls there.
abbrev pub infer_call : Context → Scope → Expression → Got Called
infer_call G s (Call at a x args) = do
  o ← infer G s a
  ys ← infer_all G s args
  check_call G.names at o x ys
infer_call G s e = do
  x ← infer G s e
  Gives (record { code = x.code; result = Some x.type })

abbrev pub performed : Option ValueType → TypedExpression → TypedStatement
performed (Some t) code = typed.Drop code
performed None code = typed.Perform code

-- an item of a `print` whose type isn't asked for yet
pub data ReadItem : Type 0 where
  ReadText : (bytes : List ℕ) → ReadItem
  ReadValue : (x : Typed) (at : Place) → ReadItem

abbrev pub read_item : Context → Scope → List ReadItem → PrintItem → Got (List ReadItem)
read_item G s xs (TextItem meaning) = Gives (xs ++ ReadText meaning ∷ [])
read_item G s xs (ValueItem e) = do
  x ← infer G s e
  Gives (xs ++ ReadValue x (place_of e) ∷ [])

-- numbers and truth values are printed
abbrev pub printed : ValueType → TypedExpression → Option TypedPart
printed (Known shape.Int) code = Some (typed.NumberPart code)
printed (Known shape.Bool) code = Some (typed.TruthPart code)
printed _ code = None

abbrev pub check_part : ReadItem → Got TypedPart
check_part (ReadText bytes) = Gives (typed.TextPart bytes)
check_part (ReadValue x at) = find (printed x.type x.code) Mismatch at

abbrev pub check_parts : List ReadItem → Got (List TypedPart)
check_parts [] = Gives []
check_parts (x ∷ xs) = do
  p ← check_part x
  ps ← check_parts xs
  Gives (p ∷ ps)

-- An action of a `taskexit` on a parameter: a flag of its class, or a tag variable.
abbrev pub check_action : Names → Scope → Parameter → List program_change.Change → ActionText → Got (List program_change.Change)
check_action N s p changes (action.Flag x b) = do
  f ← find (N.flag_of p.class x.name) Unknown x.at
  Gives (changes ++ change.Flag p.number f b ∷ [])
check_action N s p changes (action.Add at x) = do
  v ← tag_variable_at s x
  Gives (changes ++ change.Add at p.number v ∷ [])
check_action N s p changes (action.Clear at x) = do
  v ← tag_variable_at s x
  Gives (changes ++ change.Clear p.number v ∷ [])

-- the parameters that a `taskexit` has named, and its actions
pub record Exiting : Type 0 where
  pub named : List ℕ
  pub changes : List program_change.Change

abbrev pub none_named : Exiting
none_named = record { named = []; changes = [] }

-- A change names a parameter of the task that no change before it names. Then come its actions.
abbrev pub check_change : Names → Scope → Exiting → Change → Got Exiting
check_change N s x (ChangeOf param actions) = do
  p ← find (parameter_of (meaning_of s param)) Unknown param.at
  ask (not (list_any (λ n. n == p.number) x.named)) Twice param.at
  changes ← try_fold (check_action N s p) x.changes actions
  Gives (record { named = x.named ++ p.number ∷ []; changes = changes })

abbrev mutual
  pub state : Context → Scope → Statement → Got Stated
  -- a declaration: its type, its value, its name, then whether the value fits
  state G s (Let x e) = do
    sh ← shape_at G.names x.kind
    v ← infer G s e
    t ← declare_slot s x.name sh
    ask (fits v.type (Known sh)) Mismatch (place_of e)
    Gives (record { code = typed.Set s.slots v.code; scope = t })
  -- a new tag instance, in a task alone: its type, then its name
  state G s (NewTag at x kind) = do
    ask (not (is_some G.me)) Misplaced at
    k ← find (G.names.tag_type_of kind.name) Unknown kind.at
    t ← declare_tag s x k
    Gives (record { code = typed.NewTag at s.tags k; scope = t })
  -- an assignment: the target, the value, that the target is no parameter of a task, then whether the value fits
  state G s (Assign target e) = do
    y ← infer G s target
    v ← infer G s e
    ask (not (is_parameter s target)) Fixed (place_of target)
    ask (fits v.type y.type) Mismatch (place_of e)
    d ← find (assignment y.code v.code) Mismatch (place_of target)
    Gives (record { code = d; scope = s })
  state G s (Do call) = do
    z ← infer_call G s call
    Gives (record { code = performed z.result z.code; scope = s })
  state G s (MakeDo made) = do
    x ← infer G s made
    Gives (record { code = typed.Drop x.code; scope = s })
  state G s (Block at body) = do
    xs ← state_all G s body
    Gives (record { code = typed.Block xs.codes; scope = ended s xs.scope })
  -- conditions are asked for a truth value behind the blocks
  state G s (If at test body) = do
    c ← infer G s test
    xs ← state_all G s body
    ask (is_bool c.type) Mismatch (place_of test)
    Gives (record { code = typed.If c.code xs.codes typed.Nothing; scope = ended s xs.scope })
  state G s (IfElse at test body other) = do
    c ← infer G s test
    xs ← state_all G s body
    ys ← state_all G (ended s xs.scope) other
    ask (is_bool c.type) Mismatch (place_of test)
    Gives (record { code = typed.If c.code xs.codes ys.codes; scope = ended s ys.scope })
  state G s (While at test body) = do
    c ← infer G s test
    xs ← state_all G s body
    ask (is_bool c.type) Mismatch (place_of test)
    Gives (record { code = typed.While at c.code xs.codes; scope = ended s xs.scope })
  -- a return without a value is misplaced in a task, and a mismatch where a result is asked for
  state G s (Return at) = do
    ask (is_some G.me) Misplaced at
    ask (not (is_some G.result)) Mismatch at
    Gives (record { code = typed.Return None; scope = s })
  -- a return with a value is misplaced where no result is asked for, as in a task and in a constructor
  state G s (ReturnValue at e) = do
    v ← infer G s e
    sh ← find G.result Misplaced at
    ask (fits v.type (Known sh)) Mismatch (place_of e)
    Gives (record { code = typed.Return (Some v.code); scope = s })
  -- items are asked for their types behind all of them
  state G s (Print at items) = do
    xs ← try_fold (read_item G s) [] items
    ps ← check_parts xs
    Gives (record { code = typed.Print at ps; scope = s })
  state G s (Assert at e) = do
    x ← infer G s e
    ask (is_bool x.type) Mismatch (place_of e)
    Gives (record { code = typed.Assert at x.code; scope = s })
  -- in a task alone
  state G s (Exit at changes) = do
    ask (not (is_some G.me)) Misplaced at
    x ← try_fold (check_change G.names s) none_named changes
    Gives (record { code = typed.Exit x.changes; scope = s })

  -- statements in order, each in the scope behind the one before it
  pub state_all : Context → Scope → Statements → Got AllStated
  state_all G s Nothing = Gives (record { codes = typed.Nothing; scope = s })
  state_all G s (Then front last) = do
    xs ← state_all G s front
    x ← state G xs.scope last
    Gives (record { codes = typed.Then xs.codes x.code; scope = x.scope })

-- Whether a statement surely leaves: a return, a `taskexit`, a block that surely leaves, or an `if` with an `else` of which both
-- do. Of statements in order the last one decides.
abbrev mutual
  pub leaves : Statement → Bool
  leaves (Let x e) = false
  leaves (NewTag at x kind) = false
  leaves (Assign target e) = false
  leaves (Do call) = false
  leaves (MakeDo made) = false
  leaves (Block at body) = all_leave body
  leaves (If at test body) = false
  leaves (IfElse at test body other) = all_leave body && all_leave other
  leaves (While at test body) = false
  leaves (Return at) = true
  leaves (ReturnValue at e) = true
  leaves (Print at items) = false
  leaves (Assert at e) = false
  leaves (Exit at changes) = true

  pub all_leave : Statements → Bool
  all_leave Nothing = false
  all_leave (Then front last) = leaves last
