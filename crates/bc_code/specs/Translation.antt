-- Where the instructions of a program stand.
use Rattle.std.specs.Prelude.{◌≡◌, ◌≤◌, ℕ, suc, ◌+◌, true, false, List, [], ◌∷◌, length, map, Option, Some, None, slice_get, take}
use Rattle.bc_data.specs.declared.program.Change.{Change}
use Rattle.bc_data.specs.declared.program.Change.TheVariants as change
use Rattle.bc_data.specs.declared.program.Field.{Field}
use Rattle.bc_data.specs.declared.program.Op.{Op}
use Rattle.bc_data.specs.declared.program.Op.TheVariants as op
use Rattle.bc_data.specs.declared.program.Shape.{Shape}
use Rattle.bc_data.specs.declared.program.Tweak.{Tweak}
use Rattle.bc_data.specs.declared.program.Tweak.TheVariants as tweak
use Rattle.bc_data.specs.declared.run.Place.{Place}
use Rattle.bc_data.specs.Typed.{TypedExpression, Int, Truth, Null, Local, Neg, Not, Two, FieldOf, Length, Elem, Call, Make, Array, TypedExpressions, NoArg, Arg, TypedPart, TextPart, NumberPart, TruthPart, TypedStatement, Set, NewTag, SetField, SetElem, Drop, Perform, If, While, Return, Print, Assert, Exit, Block, TypedStatements, Nothing, Then, TypedMethod, TypedClass, TypedTask, TypedProgram}
use Rattle.bc_mean.specs.Values.{zero_of}
use Rattle.bc_code.specs.declared.code.Instruction.{Instruction}
use Rattle.bc_code.specs.declared.code.Instruction.TheVariants as instruction
use Rattle.bc_code.specs.declared.code.Unit.{Unit as CodeUnit}
use Rattle.bc_code.specs.declared.code.ClassCode.{ClassCode}
use Rattle.bc_code.specs.declared.code.Code.{Code}
use Rattle.bc_code.specs.Instructions.{nowhere, place_or}

-- the instructions of a unit, with the places of their faults
pub record Text : Type 0 where
  pub instruction : ℕ → Option Instruction
  pub place : ℕ → Place

abbrev pub text_of : CodeUnit → Text
text_of u = record { instruction = slice_get u.code; place = λ p. place_or (slice_get u.places p) }

-- this instruction stands at p, with this place
abbrev pub At : Text → ℕ → Instruction → Place → Type 0
At T p i at = (T.instruction p ≡ Some i) × (T.place p ≡ at)

-- where the right operand of an operator begins, behind the left one: behind a jump for `&&` and `||`
abbrev pub right_from : Op → ℕ → ℕ
right_from op.And p = p + 1
right_from op.Or p = p + 1
right_from op.Same p = p
right_from op.Differ p = p
right_from op.Less p = p
right_from op.LessEq p = p
right_from op.More p = p
right_from op.MoreEq p = p
right_from op.Add p = p
right_from op.Sub p = p
right_from op.Mul p = p
right_from op.Div p = p
right_from op.Rem p = p

-- the place behind an operator, behind its right operand
abbrev pub behind_operator : Op → ℕ → ℕ
behind_operator op.And q = q + 1 + 1
behind_operator op.Or q = q + 1 + 1
behind_operator op.Same q = q + 1
behind_operator op.Differ q = q + 1
behind_operator op.Less q = q + 1
behind_operator op.LessEq q = q + 1
behind_operator op.More q = q + 1
behind_operator op.MoreEq q = q + 1
behind_operator op.Add q = q + 1
behind_operator op.Sub q = q + 1
behind_operator op.Mul q = q + 1
behind_operator op.Div q = q + 1
behind_operator op.Rem q = q + 1

-- A `new` ends with a call of the constructor, where the class has one.
abbrev pub behind_maker : Option TypedMethod → ℕ → ℕ
behind_maker None q = q
behind_maker (Some m) q = q + 1

abbrev pub behind_make : Option TypedClass → ℕ → ℕ
behind_make None q = q
behind_make (Some k) q = behind_maker k.maker q

-- behind as many instructions as the list has members
abbrev pub behind_each : {A : Type 0} → List A → ℕ → ℕ
behind_each [] p = p
behind_each (x ∷ xs) p = behind_each xs (p + 1)

abbrev mutual
  -- the place behind an expression's code that begins at p, in a program with these classes
  pub after : List TypedClass → ℕ → TypedExpression → ℕ
  after K p (Int n) = p + 1
  after K p (Truth b) = p + 1
  after K p Null = p + 1
  after K p (Local slot) = p + 1
  after K p (Neg e) = after K p e + 1
  after K p (Not e) = after K p e + 1
  after K p (Two at o a b) = behind_operator o (after K (right_from o (after K p a)) b)
  after K p (FieldOf at object field) = after K p object + 1
  after K p (Length at array) = after K p array + 1
  after K p (Elem at array index) = after K (after K p array) index + 1
  after K p (Call at object c n args) = after_all K (after K p object) args + 1
  after K p (Make at c args tweaks) = behind_make (slice_get K c) (behind_each tweaks (after_all K p args + 1))
  after K p (Array at kind size) = after K p size + 1

  pub after_all : List TypedClass → ℕ → TypedExpressions → ℕ
  after_all K p NoArg = p
  after_all K p (Arg front last) = after K (after_all K p front) last

abbrev pub after_part : List TypedClass → ℕ → TypedPart → ℕ
after_part K p (TextPart bytes) = p + 1
after_part K p (NumberPart e) = after K p e + 1
after_part K p (TruthPart e) = after K p e + 1

abbrev pub after_parts : List TypedClass → ℕ → List TypedPart → ℕ
after_parts K p [] = p
after_parts K p (part ∷ parts) = after_parts K (after_part K p part) parts

abbrev mutual
  -- the place behind a statement's code that begins at p
  pub past : List TypedClass → ℕ → TypedStatement → ℕ
  past K p (Set slot e) = after K p e + 1
  past K p (NewTag at variable tag_type) = p + 1
  past K p (SetField at object field e) = after K (after K p object) e + 1
  past K p (SetElem at array index e) = after K (after K (after K p array) index) e + 1
  past K p (Drop e) = after K p e + 1
  past K p (Perform e) = after K p e
  past K p (If test body other) = past_all K (past_all K (after K p test + 1) body + 1) other
  past K p (While at test body) = past_all K (after K p test + 1 + 1) body + 1
  past K p (Return None) = p + 1
  past K p (Return (Some e)) = after K p e + 1
  past K p (Print at parts) = after_parts K p parts
  past K p (Assert at e) = after K p e + 1
  past K p (Exit changes) = behind_each changes p + 1
  past K p (Block body) = past_all K p body

  pub past_all : List TypedClass → ℕ → TypedStatements → ℕ
  past_all K p Nothing = p
  past_all K p (Then front last) = past K (past_all K p front) last

abbrev pub count : TypedExpressions → ℕ
count NoArg = 0
count (Arg front last) = suc (count front)

-- An operator whose left operand's code ends at p, and its right operand's code at q. `&&` and `||` jump over the right one.
abbrev pub IsOperator : Text → Place → Op → ℕ → ℕ → Type 0
IsOperator T at op.And p q =
    At T p (instruction.JumpIfNot (q + 1)) nowhere × At T q (instruction.Jump (q + 1 + 1)) nowhere × At T (q + 1) (instruction.Bool false) nowhere
IsOperator T at op.Or p q =
    At T p (instruction.JumpIf (q + 1)) nowhere × At T q (instruction.Jump (q + 1 + 1)) nowhere × At T (q + 1) (instruction.Bool true) nowhere
IsOperator T at op.Same p q = At T q instruction.Same at
IsOperator T at op.Differ p q = At T q instruction.Differ at
IsOperator T at op.Less p q = At T q instruction.Less at
IsOperator T at op.LessEq p q = At T q instruction.LessEq at
IsOperator T at op.More p q = At T q instruction.More at
IsOperator T at op.MoreEq p q = At T q instruction.MoreEq at
IsOperator T at op.Add p q = At T q instruction.Add at
IsOperator T at op.Sub p q = At T q instruction.Sub at
IsOperator T at op.Mul p q = At T q instruction.Mul at
IsOperator T at op.Div p q = At T q instruction.Div at
IsOperator T at op.Rem p q = At T q instruction.Rem at

-- an action in the braces of a `new`
abbrev pub IsTweakCode : Text → ℕ → Tweak → Type 0
IsTweakCode T p (tweak.Flag flag b) = At T p (instruction.SetFlag flag b) nowhere
IsTweakCode T p (tweak.Add at variable) = At T p (instruction.AddTag variable) at

abbrev pub AreTweaks : Text → ℕ → List Tweak → Type 0
AreTweaks T p [] = Unit {0}
AreTweaks T p (t ∷ ts) = IsTweakCode T p t × AreTweaks T (p + 1) ts

-- the call of a constructor, where there is one
abbrev pub IsMakerCall : Text → ℕ → Place → ℕ → ℕ → Option TypedMethod → Type 0
IsMakerCall T p at c args None = Unit {0}
IsMakerCall T p at c args (Some m) = At T p (instruction.Make c args) at

abbrev pub IsMakeCall : Text → ℕ → Place → ℕ → ℕ → Option TypedClass → Type 0
IsMakeCall T p at c args None = Unit {0}
IsMakeCall T p at c args (Some k) = IsMakerCall T p at c args k.maker

abbrev mutual
  -- the code of an expression stands at p
  pub HasExpression : List TypedClass → Text → ℕ → TypedExpression → Type 0
  HasExpression K T p (Int n) = At T p (instruction.Int n) nowhere
  HasExpression K T p (Truth b) = At T p (instruction.Bool b) nowhere
  HasExpression K T p Null = At T p instruction.Null nowhere
  HasExpression K T p (Local slot) = At T p (instruction.Load slot) nowhere
  HasExpression K T p (Neg e) = HasExpression K T p e × At T (after K p e) instruction.Neg nowhere
  HasExpression K T p (Not e) = HasExpression K T p e × At T (after K p e) instruction.Not nowhere
  HasExpression K T p (Two at o a b) =
      HasExpression K T p a
      × HasExpression K T (right_from o (after K p a)) b
      × IsOperator T at o (after K p a) (after K (right_from o (after K p a)) b)
  HasExpression K T p (FieldOf at object field) = HasExpression K T p object × At T (after K p object) (instruction.Field field) at
  HasExpression K T p (Length at array) = HasExpression K T p array × At T (after K p array) instruction.Length at
  HasExpression K T p (Elem at array index) =
      HasExpression K T p array × HasExpression K T (after K p array) index × At T (after K (after K p array) index) instruction.Elem at
  HasExpression K T p (Call at object c n args) =
      HasExpression K T p object
      × HasExpressions K T (after K p object) args
      × At T (after_all K (after K p object) args) (instruction.Call c n (count args)) at
  HasExpression K T p (Make at c args tweaks) =
      HasExpressions K T p args
      × At T (after_all K p args) (instruction.NewObject c) at
      × AreTweaks T (after_all K p args + 1) tweaks
      × IsMakeCall T (behind_each tweaks (after_all K p args + 1)) at c (count args) (slice_get K c)
  HasExpression K T p (Array at kind size) = HasExpression K T p size × At T (after K p size) (instruction.NewArray kind) at

  pub HasExpressions : List TypedClass → Text → ℕ → TypedExpressions → Type 0
  HasExpressions K T p NoArg = Unit {0}
  HasExpressions K T p (Arg front last) = HasExpressions K T p front × HasExpression K T (after_all K p front) last

abbrev pub HasPart : List TypedClass → Text → Place → ℕ → TypedPart → Type 0
HasPart K T at p (TextPart bytes) = At T p (instruction.PrintText bytes) at
HasPart K T at p (NumberPart e) = HasExpression K T p e × At T (after K p e) instruction.PrintInt at
HasPart K T at p (TruthPart e) = HasExpression K T p e × At T (after K p e) instruction.PrintBool at

abbrev pub HasParts : List TypedClass → Text → Place → ℕ → List TypedPart → Type 0
HasParts K T at p [] = Unit {0}
HasParts K T at p (part ∷ parts) = HasPart K T at p part × HasParts K T at (after_part K p part) parts

-- an action of a `taskexit`
abbrev pub IsChangeCode : Text → ℕ → Change → Type 0
IsChangeCode T p (change.Flag n flag b) = At T p (instruction.ExitFlag n flag b) nowhere
IsChangeCode T p (change.Add at n variable) = At T p (instruction.ExitAdd n variable) at
IsChangeCode T p (change.Clear n variable) = At T p (instruction.ExitClear n variable) nowhere

abbrev pub AreChanges : Text → ℕ → List Change → Type 0
AreChanges T p [] = Unit {0}
AreChanges T p (c ∷ cs) = IsChangeCode T p c × AreChanges T (p + 1) cs

abbrev mutual
  -- the code of a statement stands at p
  pub HasStatement : List TypedClass → Text → ℕ → TypedStatement → Type 0
  HasStatement K T p (Set slot e) = HasExpression K T p e × At T (after K p e) (instruction.Store slot) nowhere
  HasStatement K T p (NewTag at variable tag_type) = At T p (instruction.NewTag variable tag_type) at
  HasStatement K T p (SetField at object field e) =
      HasExpression K T p object × HasExpression K T (after K p object) e × At T (after K (after K p object) e) (instruction.SetField field) at
  HasStatement K T p (SetElem at array index e) =
      HasExpression K T p array
      × HasExpression K T (after K p array) index
      × HasExpression K T (after K (after K p array) index) e
      × At T (after K (after K (after K p array) index) e) instruction.SetElem at
  HasStatement K T p (Drop e) = HasExpression K T p e × At T (after K p e) instruction.Pop nowhere
  HasStatement K T p (Perform e) = HasExpression K T p e
  HasStatement K T p (If test body other) =
      HasExpression K T p test
      × At T (after K p test) (instruction.JumpIfNot (past_all K (after K p test + 1) body + 1)) nowhere
      × HasStatements K T (after K p test + 1) body
      × At T (past_all K (after K p test + 1) body) (instruction.Jump (past_all K (past_all K (after K p test + 1) body + 1) other)) nowhere
      × HasStatements K T (past_all K (after K p test + 1) body + 1) other
  HasStatement K T p (While at test body) =
      HasExpression K T p test
      × At T (after K p test) (instruction.JumpIfNot (past_all K (after K p test + 1 + 1) body + 1)) nowhere
      × At T (after K p test + 1) instruction.Turn at
      × HasStatements K T (after K p test + 1 + 1) body
      × At T (past_all K (after K p test + 1 + 1) body) (instruction.Jump p) nowhere
  HasStatement K T p (Return None) = At T p instruction.Return nowhere
  HasStatement K T p (Return (Some e)) = HasExpression K T p e × At T (after K p e) instruction.ReturnValue nowhere
  HasStatement K T p (Print at parts) = HasParts K T at p parts
  HasStatement K T p (Assert at e) = HasExpression K T p e × At T (after K p e) instruction.Assert at
  HasStatement K T p (Exit changes) = AreChanges T p changes × At T (behind_each changes p) instruction.Exit nowhere
  HasStatement K T p (Block body) = HasStatements K T p body

  pub HasStatements : List TypedClass → Text → ℕ → TypedStatements → Type 0
  HasStatements K T p Nothing = Unit {0}
  HasStatements K T p (Then front last) = HasStatements K T p front × HasStatement K T (past_all K p front) last

-- The code of a method without a result ends with a return. One with a result has left before its end.
abbrev pub IsEnd : Text → ℕ → Option Shape → Type 0
IsEnd T p None = At T p instruction.Return nowhere
IsEnd T p (Some sh) = At T p instruction.Null nowhere × At T (p + 1) instruction.ReturnValue nowhere

abbrev pub behind_end : Option Shape → ℕ → ℕ
behind_end None p = p + 1
behind_end (Some sh) p = p + 1 + 1

-- a unit has at most so many instructions, which a number of 32 bits counts
unfoldable pub most_instructions : ℕ
most_instructions = 4294967295

-- the unit of a task
pub record IsTaskUnit (K : List TypedClass) (t : TypedTask) (u : CodeUnit) : Type 0 where
  pub body : HasStatements K (text_of u) 0 t.body
  pub exit : At (text_of u) (past_all K 0 t.body) instruction.Exit nowhere
  pub ends : length u.code ≡ past_all K 0 t.body + 1
  pub places : length u.places ≡ length u.code
  pub short : length u.code ≤ most_instructions
  pub locals : u.locals ≡ t.locals
  pub tags : u.tags ≡ t.tags

-- the unit of a method or a constructor
pub record IsMethodUnit (K : List TypedClass) (m : TypedMethod) (u : CodeUnit) : Type 0 where
  pub body : HasStatements K (text_of u) 0 m.body
  pub end : IsEnd (text_of u) (past_all K 0 m.body) m.result
  pub ends : length u.code ≡ behind_end m.result (past_all K 0 m.body)
  pub places : length u.places ≡ length u.code
  pub short : length u.code ≤ most_instructions
  pub locals : u.locals ≡ m.locals
  pub tags : u.tags ≡ 0

-- the unit with this number is the method's
pub record HasMethodUnit (K : List TypedClass) (units : List CodeUnit) (n : ℕ) (m : TypedMethod) : Type 0 where
  pub unit : CodeUnit
  pub there : slice_get units n ≡ Some unit
  pub is : IsMethodUnit K m unit

abbrev pub makers : Option TypedMethod → ℕ
makers None = 0
makers (Some m) = 1

-- the constructor's unit is the first one of its class
abbrev pub IsMakerCode : List TypedClass → List CodeUnit → ℕ → Option TypedMethod → Option ℕ → Type 0
IsMakerCode K units n None None = Unit {0}
IsMakerCode K units n (Some m) (Some u) = (u ≡ n) × HasMethodUnit K units n m
IsMakerCode K units n None (Some u) = ⊥
IsMakerCode K units n (Some m) None = ⊥

-- the code of a class whose units begin with this one
pub record IsClassCode (K : List TypedClass) (units : List CodeUnit) (n : ℕ) (k : TypedClass) (d : ClassCode) : Type 0 where
  pub cells : d.cells ≡ map (λ (x : Field). zero_of x.shape) k.fields
  pub maker : IsMakerCode K units n k.maker d.maker
  pub methods : d.methods ≡ n + makers k.maker
  pub bodies : (i : ℕ) (m : TypedMethod) → slice_get k.methods i ≡ Some m → HasMethodUnit K units (d.methods + i) m

-- how many units the classes have
abbrev pub units_in : List TypedClass → ℕ
units_in [] = 0
units_in (k ∷ ks) = makers k.maker + length k.methods + units_in ks

-- The units of a class stand behind those of the tasks and of the classes before it.
abbrev pub first_unit : TypedProgram → ℕ → ℕ
first_unit P c = length P.tasks + units_in (take c P.classes)

-- The code is the program's.
pub record Translates (P : TypedProgram) (code : Code) : Type 0 where
  pub units : length code.units ≡ length P.tasks + units_in P.classes
  pub tasks : (n : ℕ) (t : TypedTask) → slice_get P.tasks n ≡ Some t → (u : CodeUnit) × (slice_get code.units n ≡ Some u) × IsTaskUnit P.classes t u
  pub same_classes : length code.classes ≡ length P.classes
  pub classes : (c : ℕ) (k : TypedClass) (d : ClassCode) → slice_get P.classes c ≡ Some k → slice_get code.classes c ≡ Some d → IsClassCode P.classes code.units (first_unit P c) k d
