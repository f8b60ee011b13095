-- Programs without where they lie in memory: equal programs of two runs differ in pointers. Lists of expressions and of
-- statements grow at their end, as those of source trees do.
use Rattle.std.specs.Prelude.{ℕ, ℤ, Bool, List, Option}
use Rattle.bc_data.specs.declared.run.Place.{Place}
use Rattle.bc_data.specs.declared.run.Kind.{Kind}
use Rattle.bc_data.specs.declared.program.Op.{Op}
use Rattle.bc_data.specs.declared.program.Shape.{Shape}
use Rattle.bc_data.specs.declared.program.Field.{Field}
use Rattle.bc_data.specs.declared.program.Tweak.{Tweak}
use Rattle.bc_data.specs.declared.program.Change.{Change}

mutual
  pub data TypedExpression : Type 0 where
    Int : (n : ℤ) → TypedExpression
    Truth : (b : Bool) → TypedExpression
    Null : TypedExpression
    Local : (slot : ℕ) → TypedExpression
    Neg : (e : TypedExpression) → TypedExpression
    Not : (e : TypedExpression) → TypedExpression
    Two : (at : Place) (op : Op) (a : TypedExpression) (b : TypedExpression) → TypedExpression
    FieldOf : (at : Place) (object : TypedExpression) (field : ℕ) → TypedExpression
    Length : (at : Place) (array : TypedExpression) → TypedExpression
    Elem : (at : Place) (array : TypedExpression) (index : TypedExpression) → TypedExpression
    Call : (at : Place) (object : TypedExpression) (class : ℕ) (method : ℕ) (args : TypedExpressions) → TypedExpression
    Make : (at : Place) (class : ℕ) (args : TypedExpressions) (tweaks : List Tweak) → TypedExpression
    Array : (at : Place) (kind : Kind) (size : TypedExpression) → TypedExpression

  pub data TypedExpressions : Type 0 where
    NoArg : TypedExpressions
    Arg : (front : TypedExpressions) (last : TypedExpression) → TypedExpressions

pub data TypedPart : Type 0 where
  TextPart : (bytes : List ℕ) → TypedPart
  NumberPart : (e : TypedExpression) → TypedPart
  TruthPart : (e : TypedExpression) → TypedPart

mutual
  pub data TypedStatement : Type 0 where
    Set : (slot : ℕ) (e : TypedExpression) → TypedStatement
    NewTag : (at : Place) (variable : ℕ) (tag_type : ℕ) → TypedStatement
    SetField : (at : Place) (object : TypedExpression) (field : ℕ) (e : TypedExpression) → TypedStatement
    SetElem : (at : Place) (array : TypedExpression) (index : TypedExpression) (e : TypedExpression) → TypedStatement
    Drop : (e : TypedExpression) → TypedStatement
    Perform : (e : TypedExpression) → TypedStatement
    If : (test : TypedExpression) (body : TypedStatements) (other : TypedStatements) → TypedStatement
    While : (at : Place) (test : TypedExpression) (body : TypedStatements) → TypedStatement
    Return : (e : Option TypedExpression) → TypedStatement
    Print : (at : Place) (parts : List TypedPart) → TypedStatement
    Assert : (at : Place) (e : TypedExpression) → TypedStatement
    Exit : (changes : List Change) → TypedStatement
    Block : (body : TypedStatements) → TypedStatement

  pub data TypedStatements : Type 0 where
    Nothing : TypedStatements
    Then : (front : TypedStatements) (last : TypedStatement) → TypedStatements

pub data TypedGuard : Type 0 where
  FlagIs : (flag : ℕ) → TypedGuard
  FlagTruth : (b : Bool) → TypedGuard
  FlagNot : (g : TypedGuard) → TypedGuard
  FlagAnd : (g : TypedGuard) (h : TypedGuard) → TypedGuard
  FlagOr : (g : TypedGuard) (h : TypedGuard) → TypedGuard

-- a method or a constructor
pub record TypedMethod : Type 0 where
  pub name : List ℕ
  pub formals : List Shape
  pub locals : ℕ
  pub result : Option Shape
  pub body : TypedStatements

pub record TypedClass : Type 0 where
  pub name : List ℕ
  pub flags : List (List ℕ)
  pub fields : List Field
  pub maker : Option TypedMethod
  pub methods : List TypedMethod

pub record TypedParam : Type 0 where
  pub class : ℕ
  pub guard : TypedGuard
  pub binds : List ℕ

pub record TypedTask : Type 0 where
  pub name : List ℕ
  pub at : Place
  pub params : List TypedParam
  pub variables : List ℕ
  pub locals : ℕ
  pub tags : ℕ
  pub body : TypedStatements

pub record TypedProgram : Type 0 where
  pub classes : List TypedClass
  pub tag_types : List (List ℕ)
  pub tasks : List TypedTask
