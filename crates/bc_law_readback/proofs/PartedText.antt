-- A canonical text is what its parts are written as.
use Rattle.std.proofs.Common.{◌≡◌, ℕ, List, [], ◌∷◌, ◌++◌, Bool, true, false, None, Some, Option, refl, ap, sym, ◌∙◌, append_assoc}
use Rattle.std.specs.Prelude.{codes}
use Rattle.std.proofs.lemmas.List.{append-nil}
use Rattle.bc_data.specs.SourceTree.{Sequence, Empty, More, Expression, Int, Truth, Null, This, Var, Group, Neg, Not, Two, Field, Length, Elem, Call, Make, Array, Expressions, NoArg, Arg, AndOp, OrOp, Guard, FlagIs, FlagTruth, FlagNot, FlagTwo, FlagGroup, PrintItem, TextItem, ValueItem, Change, ChangeOf, Statement, Let, NewTag, Assign, Do, MakeDo, Block, If, IfElse, While, Return, ReturnValue, Print, Assert, Exit, Statements, Nothing, Then, Method, MethodOf, Member, FlagMember, FieldMember, MethodMember, MakerMember, Param, ParamOf, Item, TagTypeItem, ClassItem, TaskItem}
use Rattle.bc_data.specs.Grammar.{truth, base_lexeme}
use Rattle.bc_data.specs.declared.token.Word.TheVariants as word
use Rattle.bc_data.specs.declared.token.Sign.TheVariants as sign
use Rattle.bc_data.specs.declared.tree.TypeText.{TypeText}
use Rattle.bc_data.specs.declared.tree.Named.{Named}
use Rattle.bc_data.specs.declared.tree.Base.{Base}
use Rattle.bc_data.specs.declared.tree.Base.TheVariants as base
use Rattle.bc_data.specs.declared.tree.Formal.{Formal}
use Rattle.bc_data.specs.declared.tree.Bind.{Bind}
use Rattle.bc_data.specs.declared.tree.ActionText.{ActionText}
use Rattle.bc_data.specs.declared.tree.ActionText.TheVariants as action
use Rattle.bc_print.specs.Canonical.{braced, deeper, each, ended, joined, truth_text, base_text, brackets, type_text, formal_text, action_text, tweaks_text, expression_text, arguments_text, ended_arguments, guard_text, bind_text, binds_text, param_text, print_item_text, change_text, statement_text, statements_text, signature_text, result_text, method_text, maker_text, member_text, item_text, program_text}
use Rattle.bc_law_readback.specs.Parts.{Part, written, part_text, truth_parts, base_parts, bracket_parts, type_parts, formal_parts, action_parts, tweaks_parts, expression_parts, arguments_parts, ended_arguments_parts, guard_parts, bind_parts, binds_parts, param_parts, print_item_parts, change_parts, deeper_parts, statement_parts, statements_parts, signature_parts, result_parts, method_parts, maker_parts, member_parts, item_parts, program_parts, each_parts, ended_parts, joined_parts, comma, space, keyword, mark, name, lexeme_text, braced_parts}

pub written_append : (xs ys : List Part) → written (xs ++ ys) ≡ written xs ++ written ys
written_append [] ys = refl
written_append (x ∷ xs) ys = ap (λ t. part_text x ++ t) (written_append xs ys) ∙ sym (append_assoc (part_text x) (written xs) (written ys))

-- lists of parts, from what their elements are written as
each_written : {A : Type 0} → (parts : A → List Part) (text : A → List ℕ) → ((x : A) → written (parts x) ≡ text x) → (s : Sequence A) → written (each_parts parts s) ≡ each text s
each_written parts text h Empty = refl
each_written parts text h (More front last) = simp (written_append, each_written parts text h front, h last)

ended_written : {A : Type 0} → (parts : A → List Part) (text : A → List ℕ) → ((x : A) → written (parts x) ≡ text x) → (separator : List Part) (s : Sequence A) → written (ended_parts parts separator s) ≡ ended text (written separator) s
ended_written parts text h separator Empty = refl
ended_written parts text h separator (More front last) = simp (written_append, append_assoc, ended_written parts text h separator front, h last)

joined_written : {A : Type 0} → (parts : A → List Part) (text : A → List ℕ) → ((x : A) → written (parts x) ≡ text x) → (separator : List Part) (s : Sequence A) → written (joined_parts parts separator s) ≡ joined text (written separator) s
joined_written parts text h separator Empty = refl
joined_written parts text h separator (More front last) = simp (written_append, ended_written parts text h separator front, h last)

truth_spelled : (b : Bool) → lexeme_text (truth b) ≡ truth_text b
truth_spelled true = refl
truth_spelled false = refl

truth_written : (b : Bool) → written (truth_parts b) ≡ truth_text b
truth_written b = append-nil _ ∙ truth_spelled b

base_spelled : (b : Base) → lexeme_text (base_lexeme b) ≡ base_text b
base_spelled base.Int = refl
base_spelled base.Bool = refl
base_spelled (base.Class name) = refl

base_written : (b : Base) → written (base_parts b) ≡ base_text b
base_written b = append-nil _ ∙ base_spelled b

brackets_written : (b : Bool) → written (bracket_parts b) ≡ brackets b
brackets_written true = refl
brackets_written false = refl

type_written : (kind : TypeText) → written (type_parts kind) ≡ type_text kind
type_written kind = written_append (base_parts kind.base) (bracket_parts kind.many) ∙ simp (base_written kind.base, brackets_written kind.many)

formal_written : (x : Formal) → written (formal_parts x) ≡ formal_text x
formal_written x = simp (written_append, append_assoc, append-nil, type_written x.kind)

action_written : (x : ActionText) → written (action_parts x) ≡ action_text x
action_written (action.Flag x b) = simp (append_assoc, append-nil, truth_spelled b)
action_written (action.Add at x) = simp append-nil
action_written (action.Clear at x) = simp append-nil

tweaks_written : (s : Sequence ActionText) → written (tweaks_parts s) ≡ tweaks_text s
tweaks_written Empty = refl
tweaks_written (More front last) = simp (written_append, append_assoc, ended_written action_parts action_text action_written comma front, action_written last)

mutual
  expression_written : (e : Expression) → written (expression_parts e) ≡ expression_text e
  expression_written (Int at n) = append-nil _
  expression_written (Truth at b) = truth_written b
  expression_written (Null at) = refl
  expression_written (This at) = refl
  expression_written (Var x) = append-nil _
  expression_written (Group at e) = simp (written_append, expression_written e)
  expression_written (Neg at e) = simp (expression_written e)
  expression_written (Not at e) = simp (expression_written e)
  expression_written (Two at op a b) = simp (written_append, append_assoc, expression_written a, expression_written b)
  expression_written (Field at a x) = simp (written_append, append_assoc, append-nil, expression_written a)
  expression_written (Length at a) = simp (written_append, append_assoc, expression_written a)
  expression_written (Elem at a i) = simp (written_append, append_assoc, expression_written a, expression_written i)
  expression_written (Call at a x args) = simp (written_append, append_assoc, expression_written a, arguments_written args)
  expression_written (Make at x args tweaks) = simp (written_append (arguments_parts args), written_append, append_assoc, arguments_written args, tweaks_written tweaks)
  expression_written (Array at kind e) = simp (written_append (expression_parts e), append_assoc, base_spelled kind.base, expression_written e)

  arguments_written : (es : Expressions) → written (arguments_parts es) ≡ arguments_text es
  arguments_written NoArg = refl
  arguments_written (Arg front last) = simp (written_append, ended_arguments_written front, expression_written last)

  ended_arguments_written : (es : Expressions) → written (ended_arguments_parts es) ≡ ended_arguments es
  ended_arguments_written NoArg = refl
  ended_arguments_written (Arg front last) = simp (written_append, append_assoc, ended_arguments_written front, expression_written last)

guard_written : (g : Guard) → written (guard_parts g) ≡ guard_text g
guard_written (FlagIs x) = append-nil _
guard_written (FlagTruth b) = truth_written b
guard_written (FlagNot g) = simp (guard_written g)
guard_written (FlagTwo AndOp g h) = simp (written_append, append_assoc, guard_written g, guard_written h)
guard_written (FlagTwo OrOp g h) = simp (written_append, append_assoc, guard_written g, guard_written h)
guard_written (FlagGroup g) = simp (written_append, guard_written g)

bind_written : (x : Bind) → written (bind_parts x) ≡ bind_text x
bind_written x = simp (append_assoc, append-nil)

binds_written : (s : Sequence Bind) → written (binds_parts s) ≡ binds_text s
binds_written Empty = refl
binds_written (More front last) = simp (joined_written bind_parts bind_text bind_written (space ++ keyword word.And ++ space) (More front last))

param_written : (p : Param) → written (param_parts p) ≡ param_text p
param_written (ParamOf kind x guard binds) = simp (written_append, append_assoc, guard_written guard, binds_written binds)

print_item_written : (x : PrintItem) → written (print_item_parts x) ≡ print_item_text x
print_item_written (TextItem meaning) = append-nil _
print_item_written (ValueItem e) = expression_written e

change_written : (x : Change) → written (change_parts x) ≡ change_text x
change_written (ChangeOf x actions) = simp (append_assoc, joined_written action_parts action_text action_written comma actions)

-- Margins are texts of parts too.
mutual
  statement_written : (margin : List Part) (s : Statement) → written (statement_parts margin s) ≡ statement_text (written margin) s
  statement_written margin (Let x e) = simp (written_append, append_assoc, base_spelled x.kind.base, brackets_written x.kind.many, expression_written e)
  statement_written margin (NewTag at x kind) = simp (written_append, append_assoc)
  statement_written margin (Assign target e) = simp (written_append, append_assoc, expression_written target, expression_written e)
  statement_written margin (Do call) = simp (written_append, append_assoc, expression_written call)
  statement_written margin (MakeDo made) = simp (written_append, append_assoc, expression_written made)
  statement_written margin (Block at body) = simp (written_append, append_assoc, statements_written (deeper_parts margin) body)
  statement_written margin (If at test body) = simp (written_append, append_assoc, expression_written test, statements_written (deeper_parts margin) body)
  statement_written margin (IfElse at test body other) = simp (written_append, append_assoc, expression_written test, statements_written (deeper_parts margin) body, statements_written (deeper_parts margin) other)
  statement_written margin (While at test body) = simp (written_append, append_assoc, expression_written test, statements_written (deeper_parts margin) body)
  statement_written margin (Return at) = simp (written_append, append_assoc)
  statement_written margin (ReturnValue at e) = simp (written_append, append_assoc, expression_written e)
  statement_written margin (Print at items) = simp (written_append, append_assoc, joined_written print_item_parts print_item_text print_item_written comma items)
  statement_written margin (Assert at e) = simp (written_append, append_assoc, expression_written e)
  statement_written margin (Exit at changes) = simp (written_append, append_assoc, joined_written change_parts change_text change_written (mark sign.Semicolon ++ space) changes)

  statements_written : (margin : List Part) (ss : Statements) → written (statements_parts margin ss) ≡ statements_text (written margin) ss
  statements_written margin Nothing = refl
  statements_written margin (Then front last) = simp (written_append, statements_written margin front, statement_written margin last)

braced_written : (margin head lines : List Part) (a b : List ℕ) → written head ≡ a → written lines ≡ b → written (braced_parts margin head lines) ≡ braced (written margin) a b
braced_written margin head lines a b e f = simp (written_append, append_assoc, e, f)

result_written : (r : Option TypeText) → written (result_parts r) ≡ result_text r
result_written None = refl
result_written (Some kind) = type_written kind

signature_written : (x : Named) (formals : Sequence Formal) → written (signature_parts x formals) ≡ signature_text x.name formals
signature_written x formals = simp (written_append, append_assoc, joined_written formal_parts formal_text formal_written comma formals)

method_written : (margin : List Part) (m : Method) → written (method_parts margin m) ≡ method_text (written margin) m
method_written margin (MethodOf result x formals body) = simp (written_append, append_assoc, result_written result, joined_written formal_parts formal_text formal_written comma formals, statements_written (deeper_parts margin) body)

maker_written : (margin : List Part) (m : Method) → written (maker_parts margin m) ≡ maker_text (written margin) m
maker_written margin (MethodOf result x formals body) = simp (written_append, append_assoc, joined_written formal_parts formal_text formal_written comma formals, statements_written (deeper_parts margin) body)

member_written : (margin : List Part) (m : Member) → written (member_parts margin m) ≡ member_text (written margin) m
member_written margin (FlagMember x) = simp (written_append, append_assoc)
member_written margin (FieldMember x) = simp (written_append, append_assoc, base_spelled x.kind.base, brackets_written x.kind.many)
member_written margin (MethodMember m) = method_written margin m
member_written margin (MakerMember m) = maker_written margin m

abbrev class_head : Named → List Part
class_head x = keyword word.Class ++ space ++ name x

class_head_written : (x : Named) → written (class_head x) ≡ codes "class " ++ x.name
class_head_written x = simp append-nil

abbrev task_head : Named → Sequence Param → List Part
task_head x params = keyword word.Task ++ space ++ name x ++ mark sign.OpenParen ++ joined_parts param_parts comma params ++ mark sign.CloseParen

task_head_written : (x : Named) (params : Sequence Param) → written (task_head x params) ≡ codes "task " ++ x.name ++ codes "(" ++ joined param_text (codes ", ") params ++ codes ")"
task_head_written x params = simp (written_append (joined_parts param_parts comma params), append_assoc, joined_written param_parts param_text param_written comma params)

item_written : (i : Item) → written (item_parts i) ≡ item_text i
item_written (TagTypeItem x) = simp append_assoc
item_written (ClassItem x members) = braced_written [] (class_head x) (each_parts (member_parts (deeper_parts [])) members) _ _ (class_head_written x) (each_written (member_parts (deeper_parts [])) (member_text (deeper [])) (member_written (deeper_parts [])) members)
item_written (TaskItem at x params body) = braced_written [] (task_head x params) (statements_parts (deeper_parts []) body) _ _ (task_head_written x params) (statements_written (deeper_parts []) body)

pub program_written : (items : Sequence Item) → program_text items ≡ written (program_parts items)
program_written items = sym (each_written item_parts item_text item_written items)
