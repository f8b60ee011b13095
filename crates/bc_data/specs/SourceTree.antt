-- Trees without where they lie in memory. Lists grow at their end, as a parser makes them.
use Rattle.std.specs.Prelude.{ℕ, ℤ, ◌+◌, max, Bool, List, Option}
use Rattle.bc_data.specs.declared.run.Place.{Place}
use Rattle.bc_data.specs.declared.program.Op.{Op}
use Rattle.bc_data.specs.declared.tree.Named.{Named}
use Rattle.bc_data.specs.declared.tree.TypeText.{TypeText}
use Rattle.bc_data.specs.declared.tree.Formal.{Formal}
use Rattle.bc_data.specs.declared.tree.Bind.{Bind}
use Rattle.bc_data.specs.declared.tree.ActionText.{ActionText}

pub data Sequence (A : Type 0) : Type 0 where
  Empty : Sequence A
  More : (front : Sequence A) (last : A) → Sequence A

abbrev pub largest : {A : Type 0} → (A → ℕ) → Sequence A → ℕ
largest f Empty = 0
largest f (More front last) = max (largest f front) (f last)

mutual
  pub data Expression : Type 0 where
    Int : (at : Place) (n : ℤ) → Expression
    Truth : (at : Place) (b : Bool) → Expression
    Null : (at : Place) → Expression
    This : (at : Place) → Expression
    Var : (x : Named) → Expression
    Group : (at : Place) (e : Expression) → Expression
    Neg : (at : Place) (e : Expression) → Expression
    Not : (at : Place) (e : Expression) → Expression
    Two : (at : Place) (op : Op) (a : Expression) (b : Expression) → Expression
    Field : (at : Place) (a : Expression) (x : Named) → Expression
    Length : (at : Place) (a : Expression) → Expression
    Elem : (at : Place) (a : Expression) (i : Expression) → Expression
    Call : (at : Place) (a : Expression) (x : Named) (args : Expressions) → Expression
    Make : (at : Place) (x : Named) (args : Expressions) (tweaks : Sequence ActionText) → Expression
    Array : (at : Place) (kind : TypeText) (e : Expression) → Expression

  pub data Expressions : Type 0 where
    NoArg : Expressions
    Arg : (front : Expressions) (last : Expression) → Expressions

-- how many levels a tree has: leaves have none, and a node has one more than the deepest of its parts
abbrev mutual
  pub height : Expression → ℕ
  height (Int at n) = 0
  height (Truth at b) = 0
  height (Null at) = 0
  height (This at) = 0
  height (Var x) = 0
  height (Group at e) = height e + 1
  height (Neg at e) = height e + 1
  height (Not at e) = height e + 1
  height (Two at op a b) = max (height a) (height b) + 1
  height (Field at a x) = height a + 1
  height (Length at a) = height a + 1
  height (Elem at a i) = max (height a) (height i) + 1
  height (Call at a x args) = max (height a) (tallest args) + 1
  height (Make at x args tweaks) = tallest args + 1
  height (Array at kind e) = height e + 1

  pub tallest : Expressions → ℕ
  tallest NoArg = 0
  tallest (Arg front last) = max (tallest front) (height last)

pub data GuardOp : Type 0 where
  AndOp : GuardOp
  OrOp : GuardOp

pub data Guard : Type 0 where
  FlagIs : (x : Named) → Guard
  FlagTruth : (b : Bool) → Guard
  FlagNot : (g : Guard) → Guard
  FlagTwo : (op : GuardOp) (g : Guard) (h : Guard) → Guard
  FlagGroup : (g : Guard) → Guard

abbrev pub guard_height : Guard → ℕ
guard_height (FlagIs x) = 0
guard_height (FlagTruth b) = 0
guard_height (FlagNot g) = guard_height g + 1
guard_height (FlagTwo op g h) = max (guard_height g) (guard_height h) + 1
guard_height (FlagGroup g) = guard_height g + 1

pub data PrintItem : Type 0 where
  TextItem : (meaning : List ℕ) → PrintItem
  ValueItem : (e : Expression) → PrintItem

abbrev pub item_height : PrintItem → ℕ
item_height (TextItem meaning) = 0
item_height (ValueItem e) = height e

pub data Change : Type 0 where
  ChangeOf : (param : Named) (actions : Sequence ActionText) → Change

mutual
  pub data Statement : Type 0 where
    Let : (x : Formal) (e : Expression) → Statement
    NewTag : (at : Place) (x : Named) (kind : Named) → Statement
    Assign : (target : Expression) (e : Expression) → Statement
    Do : (call : Expression) → Statement
    MakeDo : (made : Expression) → Statement
    Block : (at : Place) (body : Statements) → Statement
    If : (at : Place) (test : Expression) (body : Statements) → Statement
    IfElse : (at : Place) (test : Expression) (body : Statements) (other : Statements) → Statement
    While : (at : Place) (test : Expression) (body : Statements) → Statement
    Return : (at : Place) → Statement
    ReturnValue : (at : Place) (e : Expression) → Statement
    Print : (at : Place) (items : Sequence PrintItem) → Statement
    Assert : (at : Place) (e : Expression) → Statement
    Exit : (at : Place) (changes : Sequence Change) → Statement

  pub data Statements : Type 0 where
    Nothing : Statements
    Then : (front : Statements) (last : Statement) → Statements

abbrev mutual
  pub depth : Statement → ℕ
  depth (Let x e) = height e + 1
  depth (NewTag at x kind) = 1
  depth (Assign target e) = max (height target) (height e) + 1
  depth (Do call) = height call + 1
  depth (MakeDo made) = height made + 1
  depth (Block at body) = deepest body + 1
  depth (If at test body) = max (height test) (deepest body) + 1
  depth (IfElse at test body other) = max (max (height test) (deepest body)) (deepest other) + 1
  depth (While at test body) = max (height test) (deepest body) + 1
  depth (Return at) = 1
  depth (ReturnValue at e) = height e + 1
  depth (Print at items) = largest item_height items + 1
  depth (Assert at e) = height e + 1
  depth (Exit at changes) = 1

  pub deepest : Statements → ℕ
  deepest Nothing = 0
  deepest (Then front last) = max (deepest front) (depth last)

-- A constructor, and a method that is `void`, has no result.
pub data Method : Type 0 where
  MethodOf : (result : Option TypeText) (x : Named) (formals : Sequence Formal) (body : Statements) → Method

pub data Member : Type 0 where
  FlagMember : (x : Named) → Member
  FieldMember : (x : Formal) → Member
  MethodMember : (m : Method) → Member
  MakerMember : (m : Method) → Member

abbrev pub method_depth : Method → ℕ
method_depth (MethodOf result x formals body) = deepest body

abbrev pub member_depth : Member → ℕ
member_depth (FlagMember x) = 0
member_depth (FieldMember x) = 0
member_depth (MethodMember m) = method_depth m
member_depth (MakerMember m) = method_depth m

pub data Param : Type 0 where
  ParamOf : (kind : Named) (x : Named) (guard : Guard) (binds : Sequence Bind) → Param

abbrev pub param_depth : Param → ℕ
param_depth (ParamOf kind x guard binds) = guard_height guard

pub data Item : Type 0 where
  TagTypeItem : (x : Named) → Item
  ClassItem : (x : Named) (members : Sequence Member) → Item
  TaskItem : (at : Place) (x : Named) (params : Sequence Param) (body : Statements) → Item

abbrev pub item_depth : Item → ℕ
item_depth (TagTypeItem x) = 0
item_depth (ClassItem x members) = largest member_depth members
item_depth (TaskItem at x params body) = max (largest param_depth params) (deepest body)
