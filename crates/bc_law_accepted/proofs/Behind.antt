-- What holds of each token holds of those behind what is spelled.
use Rattle.std.proofs.Common.{◌≡◌, Bool, true, false, List, Option, Some, None, inl, inr, subst}
use Rattle.std.specs.List.{AllByRecursion}
use Rattle.bc_data.specs.Seen.{Lexeme, Seen}
use Rattle.bc_data.specs.SourceTree.{Sequence, Empty, More, Expression, Int, Truth, Null, This, Var, Group, Neg, Not, Two, Field, Length, Elem, Call, Make, Array, Expressions, NoArg, Arg, Guard, FlagIs, FlagTruth, FlagNot, FlagTwo, FlagGroup, TextItem, ValueItem, ChangeOf, Statement, Let, NewTag, Assign, Do, MakeDo, Block, If, IfElse, While, Return, ReturnValue, Print, Assert, Exit, Statements, Nothing, Then, ParamOf, MethodOf, FlagMember, FieldMember, MethodMember, MakerMember, TagTypeItem, ClassItem, TaskItem}
use Rattle.bc_data.specs.declared.run.Place.{Place}
use Rattle.bc_data.specs.declared.token.Word.{Word}
use Rattle.bc_data.specs.declared.token.Word.TheVariants as word
use Rattle.bc_data.specs.declared.tree.TypeText.{TypeText}
use Rattle.bc_data.specs.declared.tree.Formal.{Formal}
use Rattle.bc_data.specs.declared.tree.Bind.{Bind}
use Rattle.bc_data.specs.declared.tree.ActionText.{ActionText}
use Rattle.bc_data.specs.declared.tree.ActionText.TheVariants as action
use Rattle.bc_data.specs.Grammar.{Fronts, Listed, Repeated, Separated, Spells, SpellsAction, SpellsArgs, SpellsBind, SpellsBinds, SpellsBody, SpellsBrackets, SpellsChange, SpellsCode, SpellsFormal, SpellsFront, SpellsGuard, SpellsItem, SpellsMember, SpellsParam, SpellsPrintItem, SpellsResult, SpellsStat, SpellsStats, SpellsTest, SpellsTweaks, SpellsType}

module _ (Q : Seen → Type 0) where
  abbrev pub Each : List Seen → Type 0
  Each ts = AllByRecursion Q ts

  -- each thing that is spelled so leaves tokens that are as those before it
  abbrev pub Leaves : {A : Type 0} → (A → List Seen → List Seen → Type 0) → Type 0
  Leaves Spells_ = (x : _) (ts rest : List Seen) → Each ts → Spells_ x ts rest → Each rest

  pub moved : (ts us : List Seen) → ts ≡ us → Each ts → Each us
  moved ts us e h = subst Each e h

  fronts : {A : Type 0} (Spells_ : A → List Seen → List Seen → Type 0) → Leaves Spells_ → (separator : Lexeme) (xs : Sequence A) (ts rest : List Seen) → Each ts → Fronts Spells_ separator xs ts rest → Each rest
  fronts Spells_ one separator Empty ts rest a h = moved ts rest h a
  fronts Spells_ one separator (More front last) ts rest a h = (one last h.0 _ (fronts Spells_ one separator front ts h.0 a h.2) h.3).1

  separated : {A : Type 0} (Spells_ : A → List Seen → List Seen → Type 0) → Leaves Spells_ → (separator : Lexeme) (xs : Sequence A) (ts rest : List Seen) → Each ts → Separated Spells_ separator xs ts rest → Each rest
  separated Spells_ one separator Empty ts rest a h = absurd h
  separated Spells_ one separator (More front last) ts rest a h = one last h.0 rest (fronts Spells_ one separator front ts h.0 a h.1) h.2

  listed : {A : Type 0} (Spells_ : A → List Seen → List Seen → Type 0) → Leaves Spells_ → (separator : Lexeme) (xs : Sequence A) (ts rest : List Seen) → Each ts → Listed Spells_ separator xs ts rest → Each rest
  listed Spells_ one separator Empty ts rest a h = moved ts rest h a
  listed Spells_ one separator (More front last) ts rest a h = separated Spells_ one separator (More front last) ts rest a h

  pub repeated : {A : Type 0} (Spells_ : A → List Seen → List Seen → Type 0) → Leaves Spells_ → (xs : Sequence A) (ts rest : List Seen) → Each ts → Repeated Spells_ xs ts rest → Each rest
  repeated Spells_ one Empty ts rest a h = moved ts rest h a
  repeated Spells_ one (More front last) ts rest a h = one last h.0 rest (repeated Spells_ one front ts h.0 a h.1) h.2

  action_leaves : (clears : Bool) → Leaves (SpellsAction clears)
  action_leaves clears (action.Flag x b) ts rest a h = (moved ts _ h.2 a).1.1.1
  action_leaves clears (action.Add at x) ts rest a h = (moved ts _ h a).1.1
  action_leaves clears (action.Clear at x) ts rest a h = (moved ts _ h.1 a).1.1

  tweaks_leave : (xs : Sequence ActionText) (ts rest : List Seen) → Each ts → SpellsTweaks xs ts rest → Each rest
  tweaks_leave Empty ts rest a (inl h) = moved ts rest h a
  tweaks_leave Empty ts rest a (inr h) = (moved ts _ h.2 a).1.1
  tweaks_leave (More front last) ts rest a h = (separated (SpellsAction false) (action_leaves false) _ (More front last) h.0 _ (moved ts _ h.3 a).1 h.4).1

  brackets_leave : (many : Bool) (ts rest : List Seen) → Each ts → SpellsBrackets many ts rest → Each rest
  brackets_leave false ts rest a h = moved ts rest h a
  brackets_leave true ts rest a h = (moved ts _ h.2 a).1.1

  pub type_leaves : Leaves SpellsType
  type_leaves kind ts rest a h = brackets_leave kind.many h.0 rest (moved ts _ h.1 a).1 h.2

  mutual
    leaves : (e : Expression) (ts rest : List Seen) → Each ts → Spells e ts rest → Each rest
    leaves (Int at n) ts rest a h = (moved ts _ h a).1
    leaves (Truth at b) ts rest a h = (moved ts _ h a).1
    leaves (Null at) ts rest a h = (moved ts _ h a).1
    leaves (This at) ts rest a h = (moved ts _ h a).1
    leaves (Var x) ts rest a h = (moved ts _ h a).1
    leaves (Group at e) ts rest a h = (leaves e h.0 _ (moved ts _ h.2 a).1 h.3).1
    leaves (Neg at e) ts rest a h = leaves e h.0 rest (moved ts _ h.1 a).1 h.3
    leaves (Not at e) ts rest a h = leaves e h.0 rest (moved ts _ h.1 a).1 h.3
    leaves (Two at op x y) ts rest a h = leaves y h.0 rest (leaves x ts _ a h.3).1 h.4
    leaves (Field at e x) ts rest a h = (leaves e ts _ a h.1).1.1
    leaves (Length at e) ts rest a h = (leaves e ts _ a h.2).1.1
    leaves (Elem at e i) ts rest a h = (leaves i h.0 _ (leaves e ts _ a h.3).1 h.4).1
    leaves (Call at e x args) ts rest a h = (args_leave args h.0 _ (leaves e ts _ a h.4).1.1.1 h.5).1
    leaves (Make at x args tweaks) ts rest a h = tweaks_leave tweaks h.1 rest (args_leave args h.0 _ (moved ts _ h.4 a).1.1.1 h.5).1 h.6
    leaves (Array at kind e) ts rest a h = (leaves e h.0 _ (moved ts _ h.4 a).1.1.1 h.5).1

    args_leave : (es : Expressions) (ts rest : List Seen) → Each ts → SpellsArgs es ts rest → Each rest
    args_leave NoArg ts rest a h = moved ts rest h a
    args_leave (Arg front last) ts rest a h = leaves last h.0 rest (front_leaves front ts h.0 a h.1) h.2

    front_leaves : (es : Expressions) (ts rest : List Seen) → Each ts → SpellsFront es ts rest → Each rest
    front_leaves NoArg ts rest a h = moved ts rest h a
    front_leaves (Arg front last) ts rest a h = (leaves last h.0 _ (front_leaves front ts h.0 a h.2) h.3).1

  print_leaves : Leaves SpellsPrintItem
  print_leaves (TextItem meaning) ts rest a h = (moved ts _ h.1 a).1
  print_leaves (ValueItem e) ts rest a h = leaves e ts rest a h

  change_leaves : Leaves SpellsChange
  change_leaves (ChangeOf x actions) ts rest a h = separated (SpellsAction true) (action_leaves true) _ actions h.0 rest (moved ts _ h.2 a).1.1 h.3

  test_leaves : (keyword : Word) (at : Place) (e : Expression) (ts rest : List Seen) → Each ts → SpellsTest keyword at e ts rest → Each rest
  test_leaves keyword at e ts rest a h = (leaves e h.0 _ (moved ts _ h.3 a).1.1 h.4).1

  mutual
    statement_leaves : (x : Statement) (ts rest : List Seen) → Each ts → SpellsStat x ts rest → Each rest
    statement_leaves (Let x e) ts rest a h = (leaves e h.1 _ (moved h.0 _ h.5 (type_leaves x.kind ts h.0 a h.4)).1.1 h.6).1
    statement_leaves (NewTag at x kind) ts rest a h = (moved ts _ h.6 a).1.1.1.1.1.1.1.1.1
    statement_leaves (Assign target e) ts rest a h = (leaves e h.0 _ (leaves target ts _ a h.5).1 h.6).1
    statement_leaves (Do call) ts rest a h = (leaves call ts _ a h.3).1
    statement_leaves (MakeDo made) ts rest a h = (leaves made ts _ a h.2).1
    statement_leaves (Block at body) ts rest a h = (statements_leave body h.0 _ (moved ts _ h.2 a).1 h.3).1
    statement_leaves (If at test body) ts rest a h = (statements_leave body h.1 _ (moved h.0 _ h.5 (test_leaves word.If at test ts h.0 a h.4)).1 h.6).1
    statement_leaves (IfElse at test body other) ts rest a h =
        (statements_leave other h.2 _ (statements_leave body h.1 _ (moved h.0 _ h.9 (test_leaves word.If at test ts h.0 a h.8)).1 h.10).1.1.1 h.11).1
    statement_leaves (While at test body) ts rest a h = (statements_leave body h.1 _ (moved h.0 _ h.5 (test_leaves word.While at test ts h.0 a h.4)).1 h.6).1
    statement_leaves (Return at) ts rest a h = (moved ts _ h.1 a).1.1
    statement_leaves (ReturnValue at e) ts rest a h = (leaves e h.0 _ (moved ts _ h.2 a).1 h.3).1
    statement_leaves (Print at items) ts rest a h = (separated SpellsPrintItem print_leaves _ items h.0 _ (moved ts _ h.4 a).1.1 h.5).1.1
    statement_leaves (Assert at e) ts rest a h = (test_leaves word.Assert at e ts _ a h.1).1
    statement_leaves (Exit at changes) ts rest a h = (listed SpellsChange change_leaves _ changes h.0 _ (moved ts _ h.4 a).1.1 h.5).1.1

    statements_leave : (ss : Statements) (ts rest : List Seen) → Each ts → SpellsStats ss ts rest → Each rest
    statements_leave Nothing ts rest a h = moved ts rest h a
    statements_leave (Then front last) ts rest a h = statement_leaves last h.0 rest (statements_leave front ts h.0 a h.1) h.2

  guard_leaves : (g : Guard) (ts rest : List Seen) → Each ts → SpellsGuard g ts rest → Each rest
  guard_leaves (FlagIs x) ts rest a h = (moved ts _ h a).1
  guard_leaves (FlagTruth b) ts rest a h = (moved ts _ h.1 a).1
  guard_leaves (FlagNot g) ts rest a h = guard_leaves g h.0 rest (moved ts _ h.2 a).1 h.4
  guard_leaves (FlagTwo op g i) ts rest a h = guard_leaves i h.0 rest (guard_leaves g ts _ a h.4).1 h.5
  guard_leaves (FlagGroup g) ts rest a h = (guard_leaves g h.0 _ (moved ts _ h.3 a).1 h.4).1

  bind_leaves : Leaves SpellsBind
  bind_leaves b ts rest a h = (moved ts _ h a).1.1

  binds_leave : (bs : Sequence Bind) (ts rest : List Seen) → Each ts → SpellsBinds bs ts rest → Each rest
  binds_leave Empty ts rest a h = moved ts rest h a
  binds_leave (More front last) ts rest a h = separated SpellsBind bind_leaves _ (More front last) h.0 rest (moved ts _ h.2 a).1 h.3

  param_leaves : Leaves SpellsParam
  param_leaves (ParamOf kind x guard binds) ts rest a h = binds_leave binds h.1 rest (guard_leaves guard h.0 h.1 (moved ts _ h.3 a).1.1.1 h.4) h.5

  formal_leaves : Leaves SpellsFormal
  formal_leaves x ts rest a h = (type_leaves x.kind ts _ a h).1

  body_leaves : Leaves SpellsBody
  body_leaves body ts rest a h = (statements_leave body h.0 _ (moved ts _ h.3 a).1 h.4).1

  code_leaves : (formals : Sequence Formal) (body : Statements) (ts rest : List Seen) → Each ts → SpellsCode formals body ts rest → Each rest
  code_leaves formals body ts rest a h = body_leaves body h.1 rest (listed SpellsFormal formal_leaves _ formals h.0 _ (moved ts _ h.4 a).1 h.5).1 h.6

  pub result_leaves : (r : Option TypeText) (ts rest : List Seen) → Each ts → SpellsResult r ts rest → Each rest
  result_leaves None ts rest a h = (moved ts _ h.1 a).1
  result_leaves (Some t) ts rest a h = type_leaves t ts rest a h

  pub member_leaves : Leaves SpellsMember
  member_leaves (FlagMember x) ts rest a h = (moved ts _ h.2 a).1.1.1
  member_leaves (FieldMember x) ts rest a h = (formal_leaves x ts _ a h.1).1
  member_leaves (MethodMember (MethodOf result x formals body)) ts rest a h = code_leaves formals body h.0 rest (result_leaves result ts _ a h.1).1 h.2
  member_leaves (MakerMember (MethodOf result x formals body)) ts rest a h = code_leaves formals body h.0 rest (moved ts _ h.2 a).1 h.3

  pub item_leaves : Leaves SpellsItem
  item_leaves (TagTypeItem x) ts rest a h = (moved ts _ h.2 a).1.1.1
  item_leaves (ClassItem x members) ts rest a h = (repeated SpellsMember member_leaves members h.0 _ (moved ts _ h.4 a).1.1.1 h.5).1
  item_leaves (TaskItem at x params body) ts rest a h = body_leaves body h.1 rest (separated SpellsParam param_leaves _ params h.0 _ (moved ts _ h.4 a).1.1.1 h.5).1 h.6
