-- The listing of a program's code. A unit is a line with its name, and a line for each instruction:
--
--     method Counter.add:
--       0 Load 0
--       1 Load 1
--       2 SetField 0
--       3 Return
use Rattle.std.specs.Prelude.{ℕ, Bool, true, false, List, [], ◌∷◌, ◌++◌, ◌==◌, map, codes, slice_get, Option, Some, None, if◌then◌else◌}
use Rattle.std.specs.List.{flat_map, zip, enumerate_from}
use Rattle.std.specs.Fmt.{decimal, signed_decimal}
use Rattle.bc_data.specs.Typed.{TypedClass, TypedMethod, TypedProgram, TypedTask}
use Rattle.bc_data.specs.declared.run.Kind.{Kind}
use Rattle.bc_data.specs.declared.run.Kind.TheVariants as kind
use Rattle.bc_code.specs.declared.code.Instruction.{Instruction}
use Rattle.bc_code.specs.declared.code.Instruction.TheVariants as instruction
use Rattle.bc_code.specs.declared.code.Unit.{Unit as CodeUnit}
use Rattle.bc_code.specs.declared.code.Code.{Code}

abbrev pub line_feed : List ℕ
line_feed = 10 ∷ []

abbrev pub truth_text : Bool → List ℕ
truth_text true = codes "true"
truth_text false = codes "false"

-- `\n`, `\t`, `\"` and `\\`, and every other byte as it is
abbrev pub escaped_byte : ℕ → List ℕ
escaped_byte b =
    if b == 10 then codes "\\n" else
    (if b == 9 then codes "\\t" else
    (if b == 34 then codes "\\\"" else
    (if b == 92 then codes "\\\\" else b ∷ [])))

-- a text between its quotes, as programs write it
abbrev pub text_literal : List ℕ → List ℕ
text_literal bytes = codes "\"" ++ flat_map escaped_byte bytes ++ codes "\""

-- No program's code has a number that no class has.
abbrev pub class_name : Option TypedClass → List ℕ
class_name None = []
class_name (Some k) = k.name

abbrev pub kind_text : TypedProgram → Kind → List ℕ
kind_text P (kind.Class c) = class_name (slice_get P.classes c)
kind_text P kind.Ints = codes "int[]"
kind_text P kind.Bools = codes "bool[]"
kind_text P (kind.Objects c) = class_name (slice_get P.classes c) ++ codes "[]"

-- the name of an instruction and its operands, in order
abbrev pub words_of : TypedProgram → Instruction → List (List ℕ)
words_of P (instruction.Int n) = codes "Int" ∷ signed_decimal n ∷ []
words_of P (instruction.Bool b) = codes "Bool" ∷ truth_text b ∷ []
words_of P instruction.Null = codes "Null" ∷ []
words_of P (instruction.Load slot) = codes "Load" ∷ decimal slot ∷ []
words_of P (instruction.Store slot) = codes "Store" ∷ decimal slot ∷ []
words_of P instruction.Pop = codes "Pop" ∷ []
words_of P instruction.Neg = codes "Neg" ∷ []
words_of P instruction.Not = codes "Not" ∷ []
words_of P instruction.Add = codes "Add" ∷ []
words_of P instruction.Sub = codes "Sub" ∷ []
words_of P instruction.Mul = codes "Mul" ∷ []
words_of P instruction.Div = codes "Div" ∷ []
words_of P instruction.Rem = codes "Rem" ∷ []
words_of P instruction.Less = codes "Less" ∷ []
words_of P instruction.LessEq = codes "LessEq" ∷ []
words_of P instruction.More = codes "More" ∷ []
words_of P instruction.MoreEq = codes "MoreEq" ∷ []
words_of P instruction.Same = codes "Same" ∷ []
words_of P instruction.Differ = codes "Differ" ∷ []
words_of P (instruction.Jump target) = codes "Jump" ∷ decimal target ∷ []
words_of P (instruction.JumpIf target) = codes "JumpIf" ∷ decimal target ∷ []
words_of P (instruction.JumpIfNot target) = codes "JumpIfNot" ∷ decimal target ∷ []
words_of P instruction.Turn = codes "Turn" ∷ []
words_of P (instruction.Field field) = codes "Field" ∷ decimal field ∷ []
words_of P (instruction.SetField field) = codes "SetField" ∷ decimal field ∷ []
words_of P instruction.Length = codes "Length" ∷ []
words_of P instruction.Elem = codes "Elem" ∷ []
words_of P instruction.SetElem = codes "SetElem" ∷ []
words_of P (instruction.NewObject class) = codes "NewObject" ∷ decimal class ∷ []
words_of P (instruction.NewArray elements) = codes "NewArray" ∷ kind_text P elements ∷ []
words_of P (instruction.SetFlag flag b) = codes "SetFlag" ∷ decimal flag ∷ truth_text b ∷ []
words_of P (instruction.AddTag variable) = codes "AddTag" ∷ decimal variable ∷ []
words_of P (instruction.Make class count) = codes "Make" ∷ decimal class ∷ decimal count ∷ []
words_of P (instruction.Call class method count) = codes "Call" ∷ decimal class ∷ decimal method ∷ decimal count ∷ []
words_of P instruction.Return = codes "Return" ∷ []
words_of P instruction.ReturnValue = codes "ReturnValue" ∷ []
words_of P (instruction.PrintText bytes) = codes "PrintText" ∷ text_literal bytes ∷ []
words_of P instruction.PrintInt = codes "PrintInt" ∷ []
words_of P instruction.PrintBool = codes "PrintBool" ∷ []
words_of P instruction.Assert = codes "Assert" ∷ []
words_of P (instruction.NewTag variable tag_type) = codes "NewTag" ∷ decimal variable ∷ decimal tag_type ∷ []
words_of P (instruction.ExitFlag parameter flag b) = codes "ExitFlag" ∷ decimal parameter ∷ decimal flag ∷ truth_text b ∷ []
words_of P (instruction.ExitClear parameter variable) = codes "ExitClear" ∷ decimal parameter ∷ decimal variable ∷ []
words_of P (instruction.ExitAdd parameter variable) = codes "ExitAdd" ∷ decimal parameter ∷ decimal variable ∷ []
words_of P instruction.Exit = codes "Exit" ∷ []

abbrev pub behind_space : List ℕ → List ℕ
behind_space word = codes " " ++ word

-- the line of an instruction with its number
abbrev pub instruction_line : TypedProgram → ℕ × Instruction → List ℕ
instruction_line P numbered = codes "  " ++ decimal numbered.0 ++ flat_map behind_space (words_of P numbered.1) ++ line_feed

-- The names of the units: of each task, and then of each class its constructor, if it has one, and its methods.
abbrev pub task_name : TypedTask → List ℕ
task_name t = codes "task " ++ t.name

abbrev pub maker_names : List ℕ → Option TypedMethod → List (List ℕ)
maker_names class None = []
maker_names class (Some m) = (codes "maker " ++ class) ∷ []

abbrev pub method_name : List ℕ → TypedMethod → List ℕ
method_name class m = codes "method " ++ class ++ codes "." ++ m.name

abbrev pub class_names : TypedClass → List (List ℕ)
class_names k = maker_names k.name k.maker ++ map (method_name k.name) k.methods

abbrev pub unit_names : TypedProgram → List (List ℕ)
unit_names P = map task_name P.tasks ++ flat_map class_names P.classes

-- the lines of a unit with its name
abbrev pub unit_text : TypedProgram → List ℕ × CodeUnit → List ℕ
unit_text P named = named.0 ++ codes ":" ++ line_feed ++ flat_map (instruction_line P) (enumerate_from 0 named.1.code)

abbrev pub listing_text : TypedProgram → Code → List ℕ
listing_text P code = flat_map (unit_text P) (zip (unit_names P) code.units)
