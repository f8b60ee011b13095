-- What names mean where an expression or a statement stands.
use Rattle.std.specs.Prelude.{ℕ, ◌+◌, Bool, true, false, not, if◌then◌else◌, ◌&&◌, ◌||◌, ◌==◌, nat_eq, nat_lt, is_some, List, [], ◌∷◌, ◌++◌, Option, Some, None}
use Rattle.std.specs.Cmp.Lexicographic.{pointwise}
use Rattle.bc_data.specs.declared.tree.Named.{Named}
use Rattle.bc_data.specs.declared.tree.TypeText.{TypeText}
use Rattle.bc_data.specs.declared.tree.Base.{Base}
use Rattle.bc_data.specs.declared.tree.Base.TheVariants as base
use Rattle.bc_data.specs.declared.run.Place.{Place}
use Rattle.bc_data.specs.declared.program.Shape.{Shape}
use Rattle.bc_data.specs.declared.program.Shape.TheVariants as shape
use Rattle.bc_data.specs.Shapes.{is_null, is_reference, same_shape}
use Rattle.bc_types_rules.specs.Got.{Got, Gives, Fails, Twice, TooMany, Unknown, Mismatch, ask, find, ◌>>=◌, ◌>>◌}

-- The type of a value: a shape, or a class that the program doesn't declare, or an array of such. The type of a field, or of
-- a method, is used where the text that declares it may still be to come; a name without a class is refused there.
pub data ValueType : Type 0 where
  Known : (shape : Shape) → ValueType
  Undeclared : (many : Bool) (name : List ℕ) → ValueType

pub record Signature : Type 0 where
  pub formals : List ValueType
  pub result : Option ValueType

pub record FieldFound : Type 0 where
  pub field : ℕ
  pub type : ValueType

pub record MethodFound : Type 0 where
  pub method : ℕ
  pub signature : Signature

-- What the names of a program mean. Classes are known by number, and the names of flags, fields and methods are their class's.
-- A class without a constructor is made as by one without formals.
pub record Names : Type 0 where
  pub class_of : List ℕ → Option ℕ
  pub flag_of : ℕ → List ℕ → Option ℕ
  pub field_of : ℕ → List ℕ → Option FieldFound
  pub method_of : ℕ → List ℕ → Option MethodFound
  pub maker_formals : ℕ → List ValueType
  pub tag_type_of : List ℕ → Option ℕ

-- Where a body stands: in a class's method or constructor, or in a task, and which result is asked for there.
pub record Context : Type 0 where
  pub names : Names
  pub me : Option ℕ
  pub result : Option Shape

-- What a name in scope is. The parameter of a task is a slot too.
pub data Meaning : Type 0 where
  SlotIs : (slot : ℕ) (shape : Shape) → Meaning
  ParameterIs : (slot : ℕ) (class : ℕ) → Meaning
  TagIs : (variable : ℕ) (tag_type : ℕ) → Meaning

pub record InScope : Type 0 where
  pub name : List ℕ
  pub meaning : Meaning

-- The names in scope, the next slot, the next tag variable, and how many names the body has declared so far, those of ended
-- blocks among them.
pub record Scope : Type 0 where
  pub known : List InScope
  pub slots : ℕ
  pub tags : ℕ
  pub count : ℕ

-- slot 0 of a method and of a constructor is `this`
abbrev pub method_scope : Scope
method_scope = record { known = []; slots = 1; tags = 0; count = 0 }

abbrev pub task_scope : Scope
task_scope = record { known = []; slots = 0; tags = 0; count = 0 }

abbrev pub find_in : List InScope → List ℕ → Option Meaning
find_in [] name = None
find_in (l ∷ ls) name = if pointwise nat_eq name l.name then Some l.meaning else find_in ls name

abbrev pub meaning_of : Scope → Named → Option Meaning
meaning_of s x = find_in s.known x.name

abbrev pub is_free : Scope → Named → Bool
is_free s x = not (is_some (meaning_of s x))

abbrev pub with_slot : Scope → Named → Shape → Scope
with_slot s x sh = record {
  known = s.known ++ record { name = x.name; meaning = SlotIs s.slots sh } ∷ [];
  slots = s.slots + 1;
  tags = s.tags;
  count = s.count + 1;
}

abbrev pub with_parameter : Scope → Named → ℕ → Scope
with_parameter s x class = record {
  known = s.known ++ record { name = x.name; meaning = ParameterIs s.slots class } ∷ [];
  slots = s.slots + 1;
  tags = s.tags;
  count = s.count + 1;
}

abbrev pub with_tag : Scope → Named → ℕ → Scope
with_tag s x tag_type = record {
  known = s.known ++ record { name = x.name; meaning = TagIs s.tags tag_type } ∷ [];
  slots = s.slots;
  tags = s.tags + 1;
  count = s.count + 1;
}

-- A name in scope isn't declared again, and a body declares at most 256 names.
abbrev pub may_declare : Scope → Named → Got (Unit {0})
may_declare s x = do
  ask (is_free s x) Twice x.at
  ask (nat_lt s.count 256) TooMany x.at

abbrev pub declare_slot : Scope → Named → Shape → Got Scope
declare_slot s x sh = do
  may_declare s x
  Gives (with_slot s x sh)

abbrev pub declare_tag : Scope → Named → ℕ → Got Scope
declare_tag s x tag_type = do
  may_declare s x
  Gives (with_tag s x tag_type)

-- behind a block its names are out of scope, and its slots and tag variables aren't used again
abbrev pub ended : Scope → Scope → Scope
ended s t = record { known = s.known; slots = t.slots; tags = t.tags; count = t.count }

abbrev pub tag_variable : Meaning → Option ℕ
tag_variable (SlotIs slot sh) = None
tag_variable (ParameterIs slot class) = None
tag_variable (TagIs variable tag_type) = Some variable

-- A tag variable of this name: unknown where the name isn't in scope, a mismatch where it is a slot's.
abbrev pub tag_variable_at : Scope → Named → Got ℕ
tag_variable_at s x = do
  m ← find (meaning_of s x) Unknown x.at
  find (tag_variable m) Mismatch x.at

abbrev pub array_or_one : Bool → Shape → Shape → Shape
array_or_one many array one = if many then array else one

abbrev pub class_type : Bool → List ℕ → Option ℕ → ValueType
class_type many name (Some c) = Known (array_or_one many (shape.Objects c) (shape.Class c))
class_type many name None = Undeclared many name

abbrev pub base_type : (List ℕ → Option ℕ) → Base → Bool → ValueType
base_type class_of base.Int many = Known (array_or_one many shape.Ints shape.Int)
base_type class_of base.Bool many = Known (array_or_one many shape.Bools shape.Bool)
base_type class_of (base.Class name) many = class_type many name (class_of name)

-- the type that a text names, under a numbering of classes
abbrev pub type_of : (List ℕ → Option ℕ) → TypeText → ValueType
type_of class_of t = base_type class_of t.base t.many

abbrev pub declared_shape : ValueType → Option Shape
declared_shape (Known sh) = Some sh
declared_shape (Undeclared many name) = None

-- the shape of a type where it is written: its class is declared
abbrev pub shape_at : Names → TypeText → Got Shape
shape_at N t = find (declared_shape (type_of N.class_of t)) Unknown t.at

abbrev pub same_flag : Bool → Bool → Bool
same_flag a b = if a then b else not b

-- A value of the first type may stand where the second is asked for: the types are the same, or it is `null` and the second
-- is a class or an array.
abbrev pub fits : ValueType → ValueType → Bool
fits (Known a) (Known b) = same_shape a b || (is_null a && is_reference b)
fits (Known a) (Undeclared many name) = is_null a
fits (Undeclared many name) (Known b) = false
fits (Undeclared many name) (Undeclared many_2 name_2) = same_flag many many_2 && pointwise nat_eq name name_2

abbrev pub is_int : ValueType → Bool
is_int t = fits t (Known shape.Int)

abbrev pub is_bool : ValueType → Bool
is_bool t = fits t (Known shape.Bool)

-- the type of an array's elements
abbrev pub element_of : ValueType → Option ValueType
element_of (Known shape.Ints) = Some (Known shape.Int)
element_of (Known shape.Bools) = Some (Known shape.Bool)
element_of (Known (shape.Objects c)) = Some (Known (shape.Class c))
element_of (Undeclared true name) = Some (Undeclared false name)
element_of _ = None

-- The class of what stands before a `.` at a place: a mismatch where it is no class. A class that isn't declared has no
-- members, so the member's name is unknown.
abbrev pub class_before : ValueType → Place → Named → Got ℕ
class_before (Known (shape.Class c)) at x = Gives c
class_before (Undeclared false name) at x = Fails Unknown x.at
class_before _ at x = Fails Mismatch at

abbrev pub field_at : Names → ValueType → Place → Named → Got FieldFound
field_at N t at x = do
  c ← class_before t at x
  find (N.field_of c x.name) Unknown x.at
