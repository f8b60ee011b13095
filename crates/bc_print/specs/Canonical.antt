-- The canonical text of a program.
--
-- What stands on one line is written from its parts. A statement, a member and an item is a line or several, and
-- each line begins with a margin: two spaces for every brace that is open.
use Rattle.std.specs.Prelude.{ℕ, Bool, true, false, List, [], ◌∷◌, ◌++◌, ◌==◌, Option, None, Some, codes, if◌then◌else◌}
use Rattle.std.specs.Fmt.{signed_decimal}
use Rattle.bc_data.specs.SourceTree.{Sequence, Empty, More, Expression, Int, Truth, Null, This, Var, Group, Neg, Not, Two, Field, Length, Elem, Call, Make, Array, Expressions, NoArg, Arg, GuardOp, AndOp, OrOp, Guard, FlagIs, FlagTruth, FlagNot, FlagTwo, FlagGroup, PrintItem, TextItem, ValueItem, Change, ChangeOf, Statement, Let, NewTag, Assign, Do, MakeDo, Block, If, IfElse, While, Return, ReturnValue, Print, Assert, Exit, Statements, Nothing, Then, Method, MethodOf, Member, FlagMember, FieldMember, MethodMember, MakerMember, Param, ParamOf, Item, TagTypeItem, ClassItem, TaskItem}
use Rattle.bc_data.specs.Grammar.{sign_of}
use Rattle.bc_data.specs.Spelling.{sign_text}
use Rattle.bc_data.specs.declared.program.Op.{Op}
use Rattle.bc_data.specs.declared.tree.TypeText.{TypeText}
use Rattle.bc_data.specs.declared.tree.Base.{Base}
use Rattle.bc_data.specs.declared.tree.Base.TheVariants as base
use Rattle.bc_data.specs.declared.tree.Formal.{Formal}
use Rattle.bc_data.specs.declared.tree.Bind.{Bind}
use Rattle.bc_data.specs.declared.tree.ActionText.{ActionText}
use Rattle.bc_data.specs.declared.tree.ActionText.TheVariants as action

-- Lists of parts: one behind another, with a separator behind each, and with a separator between each two.
abbrev pub each : {A : Type 0} → (A → List ℕ) → Sequence A → List ℕ
each text Empty = []
each text (More front last) = each text front ++ text last

abbrev pub ended : {A : Type 0} → (A → List ℕ) → List ℕ → Sequence A → List ℕ
ended text separator Empty = []
ended text separator (More front last) = ended text separator front ++ text last ++ separator

abbrev pub joined : {A : Type 0} → (A → List ℕ) → List ℕ → Sequence A → List ℕ
joined text separator Empty = []
joined text separator (More front last) = ended text separator front ++ text last

abbrev pub truth_text : Bool → List ℕ
truth_text true = codes "true"
truth_text false = codes "false"

-- `\n`, `\t`, `\"` and `\\`, and every other byte as it is
abbrev pub literal_byte : ℕ → List ℕ
literal_byte b =
    if b == 10 then 92 ∷ 110 ∷ [] else
    (if b == 9 then 92 ∷ 116 ∷ [] else
    (if b == 34 then 92 ∷ 34 ∷ [] else
    (if b == 92 then 92 ∷ 92 ∷ [] else b ∷ [])))

abbrev pub literal_bytes : List ℕ → List ℕ
literal_bytes [] = []
literal_bytes (b ∷ bs) = literal_byte b ++ literal_bytes bs

-- a text between its quotes
abbrev pub literal_text : List ℕ → List ℕ
literal_text meaning = 34 ∷ [] ++ literal_bytes meaning ++ 34 ∷ []

abbrev pub base_text : Base → List ℕ
base_text base.Int = codes "int"
base_text base.Bool = codes "bool"
base_text (base.Class name) = name

abbrev pub brackets : Bool → List ℕ
brackets true = codes "[]"
brackets false = []

abbrev pub type_text : TypeText → List ℕ
type_text kind = base_text kind.base ++ brackets kind.many

abbrev pub formal_text : Formal → List ℕ
formal_text x = type_text x.kind ++ codes " " ++ x.name.name

abbrev pub action_text : ActionText → List ℕ
action_text (action.Flag x b) = x.name ++ codes " := " ++ truth_text b
action_text (action.Add at x) = codes "add " ++ x.name
action_text (action.Clear at x) = codes "clear " ++ x.name

-- the braces behind a `new`, which aren't written when they are empty
abbrev pub tweaks_text : Sequence ActionText → List ℕ
tweaks_text Empty = []
tweaks_text (More front last) = codes "{" ++ joined action_text (codes ", ") (More front last) ++ codes "}"

abbrev pub operator_text : Op → List ℕ
operator_text op = codes " " ++ sign_text (sign_of op) ++ codes " "

abbrev mutual
  pub expression_text : Expression → List ℕ
  expression_text (Int at n) = signed_decimal n
  expression_text (Truth at b) = truth_text b
  expression_text (Null at) = codes "null"
  expression_text (This at) = codes "this"
  expression_text (Var x) = x.name
  expression_text (Group at e) = codes "(" ++ expression_text e ++ codes ")"
  expression_text (Neg at e) = codes "-" ++ expression_text e
  expression_text (Not at e) = codes "!" ++ expression_text e
  expression_text (Two at op a b) = expression_text a ++ operator_text op ++ expression_text b
  expression_text (Field at a x) = expression_text a ++ codes "." ++ x.name
  expression_text (Length at a) = expression_text a ++ codes ".length"
  expression_text (Elem at a i) = expression_text a ++ codes "[" ++ expression_text i ++ codes "]"
  expression_text (Call at a x args) = expression_text a ++ codes "." ++ x.name ++ codes "(" ++ arguments_text args ++ codes ")"
  expression_text (Make at x args tweaks) = codes "new " ++ x.name ++ codes "(" ++ arguments_text args ++ codes ")" ++ tweaks_text tweaks
  expression_text (Array at kind e) = codes "new " ++ base_text kind.base ++ codes "[" ++ expression_text e ++ codes "]"

  -- arguments with a comma between each two
  pub arguments_text : Expressions → List ℕ
  arguments_text NoArg = []
  arguments_text (Arg front last) = ended_arguments front ++ expression_text last

  -- the same with a comma behind each
  pub ended_arguments : Expressions → List ℕ
  ended_arguments NoArg = []
  ended_arguments (Arg front last) = ended_arguments front ++ expression_text last ++ codes ", "

abbrev pub guard_operator_text : GuardOp → List ℕ
guard_operator_text AndOp = codes " and "
guard_operator_text OrOp = codes " or "

abbrev pub guard_text : Guard → List ℕ
guard_text (FlagIs x) = x.name
guard_text (FlagTruth b) = truth_text b
guard_text (FlagNot g) = codes "!" ++ guard_text g
guard_text (FlagTwo op g h) = guard_text g ++ guard_operator_text op ++ guard_text h
guard_text (FlagGroup g) = codes "(" ++ guard_text g ++ codes ")"

abbrev pub bind_text : Bind → List ℕ
bind_text bind = bind.tag_type.name ++ codes " " ++ bind.variable.name

abbrev pub binds_text : Sequence Bind → List ℕ
binds_text Empty = []
binds_text (More front last) = codes " with " ++ joined bind_text (codes " and ") (More front last)

abbrev pub param_text : Param → List ℕ
param_text (ParamOf kind x guard binds) = kind.name ++ codes " " ++ x.name ++ codes " in " ++ guard_text guard ++ binds_text binds

abbrev pub print_item_text : PrintItem → List ℕ
print_item_text (TextItem meaning) = literal_text meaning
print_item_text (ValueItem e) = expression_text e

abbrev pub change_text : Change → List ℕ
change_text (ChangeOf x actions) = x.name ++ codes ": " ++ joined action_text (codes ", ") actions

-- Lines.
abbrev pub line : List ℕ → List ℕ → List ℕ
line margin text = margin ++ text ++ 10 ∷ []

abbrev pub deeper : List ℕ → List ℕ
deeper margin = margin ++ codes "  "

-- a head with lines in braces
abbrev pub braced : List ℕ → List ℕ → List ℕ → List ℕ
braced margin head lines = line margin (head ++ codes " {") ++ lines ++ line margin (codes "}")

abbrev mutual
  pub statement_text : List ℕ → Statement → List ℕ
  statement_text margin (Let x e) = line margin (formal_text x ++ codes " = " ++ expression_text e ++ codes ";")
  statement_text margin (NewTag at x kind) = line margin (codes "tag " ++ x.name ++ codes " = new tag(" ++ kind.name ++ codes ");")
  statement_text margin (Assign target e) = line margin (expression_text target ++ codes " = " ++ expression_text e ++ codes ";")
  statement_text margin (Do call) = line margin (expression_text call ++ codes ";")
  statement_text margin (MakeDo made) = line margin (expression_text made ++ codes ";")
  statement_text margin (Block at body) = line margin (codes "{") ++ statements_text (deeper margin) body ++ line margin (codes "}")
  statement_text margin (If at test body) = braced margin (codes "if (" ++ expression_text test ++ codes ")") (statements_text (deeper margin) body)
  statement_text margin (IfElse at test body other) = braced margin (codes "if (" ++ expression_text test ++ codes ")") (statements_text (deeper margin) body ++ line margin (codes "} else {") ++ statements_text (deeper margin) other)
  statement_text margin (While at test body) = braced margin (codes "while (" ++ expression_text test ++ codes ")") (statements_text (deeper margin) body)
  statement_text margin (Return at) = line margin (codes "return;")
  statement_text margin (ReturnValue at e) = line margin (codes "return " ++ expression_text e ++ codes ";")
  statement_text margin (Print at items) = line margin (codes "print(" ++ joined print_item_text (codes ", ") items ++ codes ");")
  statement_text margin (Assert at e) = line margin (codes "assert(" ++ expression_text e ++ codes ");")
  statement_text margin (Exit at changes) = line margin (codes "taskexit(" ++ joined change_text (codes "; ") changes ++ codes ");")

  pub statements_text : List ℕ → Statements → List ℕ
  statements_text margin Nothing = []
  statements_text margin (Then front last) = statements_text margin front ++ statement_text margin last

-- a name and the formals in parentheses
abbrev pub signature_text : List ℕ → Sequence Formal → List ℕ
signature_text name formals = name ++ codes "(" ++ joined formal_text (codes ", ") formals ++ codes ")"

abbrev pub result_text : Option TypeText → List ℕ
result_text None = codes "void"
result_text (Some kind) = type_text kind

abbrev pub method_text : List ℕ → Method → List ℕ
method_text margin (MethodOf result x formals body) = braced margin (result_text result ++ codes " " ++ signature_text x.name formals) (statements_text (deeper margin) body)

abbrev pub maker_text : List ℕ → Method → List ℕ
maker_text margin (MethodOf result x formals body) = braced margin (signature_text x.name formals) (statements_text (deeper margin) body)

abbrev pub member_text : List ℕ → Member → List ℕ
member_text margin (FlagMember x) = line margin (codes "flag " ++ x.name ++ codes ";")
member_text margin (FieldMember x) = line margin (formal_text x ++ codes ";")
member_text margin (MethodMember m) = method_text margin m
member_text margin (MakerMember m) = maker_text margin m

abbrev pub item_text : Item → List ℕ
item_text (TagTypeItem x) = line [] (codes "tagtype " ++ x.name ++ codes ";")
item_text (ClassItem x members) = braced [] (codes "class " ++ x.name) (each (member_text (deeper [])) members)
item_text (TaskItem at x params body) = braced [] (codes "task " ++ x.name ++ codes "(" ++ joined param_text (codes ", ") params ++ codes ")") (statements_text (deeper []) body)

-- the canonical text of a program's items
abbrev pub program_text : Sequence Item → List ℕ
program_text items = each item_text items
