-- The nodes of typed trees, operands first.
use Rattle.std.specs.Prelude.{ℕ, ℤ, Bool, List}
use Rattle.bc_data.specs.declared.run.Place.{Place}
use Rattle.bc_data.specs.declared.run.Kind.{Kind}
use Rattle.bc_data.specs.declared.program.Op.{Op}
use Rattle.bc_data.specs.declared.program.Tweak.{Tweak}
use Rattle.bc_data.specs.declared.program.Change.{Change}

pub data Node : Type 0 where
  IntNode : (n : ℤ) → Node
  TruthNode : (b : Bool) → Node
  NullNode : Node
  LocalNode : (slot : ℕ) → Node
  NegNode : Node
  NotNode : Node
  TwoNode : (at : Place) (op : Op) → Node
  FieldNode : (at : Place) (field : ℕ) → Node
  LengthNode : (at : Place) → Node
  ElemNode : (at : Place) → Node
  CallNode : (at : Place) (class : ℕ) (method : ℕ) → Node
  MakeNode : (at : Place) (class : ℕ) (tweaks : List Tweak) → Node
  ArrayNode : (at : Place) (kind : Kind) → Node
  NoArgNode : Node
  ArgNode : Node
  NoPartNode : Node
  TextNode : (bytes : List ℕ) → Node
  NumberNode : Node
  TruthPartNode : Node
  SetNode : (slot : ℕ) → Node
  NewTagNode : (at : Place) (variable : ℕ) (tag_type : ℕ) → Node
  SetFieldNode : (at : Place) (field : ℕ) → Node
  SetElemNode : (at : Place) → Node
  DropNode : Node
  PerformNode : Node
  IfNode : Node
  WhileNode : (at : Place) → Node
  ReturnNode : Node
  ReturnValueNode : Node
  PrintNode : (at : Place) → Node
  AssertNode : (at : Place) → Node
  ExitNode : (changes : List Change) → Node
  BlockNode : Node
  NothingNode : Node
  ThenNode : Node

-- guards likewise
pub data GuardNode : Type 0 where
  FlagNode : (flag : ℕ) → GuardNode
  TruthFlagNode : (b : Bool) → GuardNode
  NotFlagNode : GuardNode
  AndFlagNode : GuardNode
  OrFlagNode : GuardNode
