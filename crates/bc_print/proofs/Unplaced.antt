-- A text does not say the places of its tree.
use Rattle.std.proofs.Common.{◌≡◌, ℕ, List, [], ◌++◌, None, Some, Option, refl, ap, sym, ◌∙◌}
use Rattle.std.specs.Prelude.{codes}
use Rattle.bc_data.specs.SourceTree.{Sequence, Empty, More, Expression, Int, Truth, Null, This, Var, Group, Neg, Not, Two, Field, Length, Elem, Call, Make, Array, Expressions, NoArg, Arg, Guard, FlagIs, FlagTruth, FlagNot, FlagTwo, FlagGroup, PrintItem, TextItem, ValueItem, Change, ChangeOf, Statement, Let, NewTag, Assign, Do, MakeDo, Block, If, IfElse, While, Return, ReturnValue, Print, Assert, Exit, Statements, Nothing, Then, Method, MethodOf, Member, FlagMember, FieldMember, MethodMember, MakerMember, Param, ParamOf, Item, TagTypeItem, ClassItem, TaskItem}
use Rattle.bc_data.specs.declared.tree.ActionText.{ActionText}
use Rattle.bc_data.specs.declared.tree.ActionText.TheVariants as action
use Rattle.bc_data.specs.declared.tree.TypeText.{TypeText}
use Rattle.bc_data.specs.declared.tree.Formal.{Formal}
use Rattle.bc_data.specs.declared.tree.Bind.{Bind}
use Rattle.bc_print.specs.Canonical.{each, ended, joined, action_text, tweaks_text, expression_text, arguments_text, ended_arguments, operator_text, base_text, guard_text, guard_operator_text, bind_text, binds_text, param_text, print_item_text, change_text, formal_text, line, deeper, braced, statement_text, statements_text, signature_text, result_text, method_text, maker_text, member_text, item_text, program_text}
use Rattle.bc_print.specs.Laws.{mapped, unplaced, unplaced_formal, unplaced_bind, unplaced_action, unplaced_expression, unplaced_arguments, unplaced_guard, unplaced_print_item, unplaced_change, unplaced_statement, unplaced_statements, unplaced_result, unplaced_method, unplaced_member, unplaced_param, unplaced_item}

same_each : {A : Type 0} → (text : A → List ℕ) (f : A → A) → ((x : A) → text (f x) ≡ text x) → (s : Sequence A) → each text (mapped f s) ≡ each text s
same_each text f h Empty = refl
same_each text f h (More front last) = let a = same_each text f h front in let b = h last in cc

same_ended : {A : Type 0} → (text : A → List ℕ) (f : A → A) → ((x : A) → text (f x) ≡ text x) → (separator : List ℕ) (s : Sequence A) → ended text separator (mapped f s) ≡ ended text separator s
same_ended text f h separator Empty = refl
same_ended text f h separator (More front last) = let a = same_ended text f h separator front in let b = h last in cc

same_joined : {A : Type 0} → (text : A → List ℕ) (f : A → A) → ((x : A) → text (f x) ≡ text x) → (separator : List ℕ) (s : Sequence A) → joined text separator (mapped f s) ≡ joined text separator s
same_joined text f h separator Empty = refl
same_joined text f h separator (More front last) = let a = same_ended text f h separator front in let b = h last in cc

same_action : (x : ActionText) → action_text (unplaced_action x) ≡ action_text x
same_action (action.Flag x b) = refl
same_action (action.Add at x) = refl
same_action (action.Clear at x) = refl

same_tweaks : (s : Sequence ActionText) → tweaks_text (mapped unplaced_action s) ≡ tweaks_text s
same_tweaks Empty = refl
same_tweaks (More front last) = ap (λ t. codes "{" ++ t ++ codes "}") (same_joined action_text unplaced_action same_action (codes ", ") (More front last))

mutual
  same_expression : (e : Expression) → expression_text (unplaced_expression e) ≡ expression_text e
  same_expression (Int at n) = refl
  same_expression (Truth at b) = refl
  same_expression (Null at) = refl
  same_expression (This at) = refl
  same_expression (Var x) = refl
  same_expression (Group at e) = ap (λ t. codes "(" ++ t ++ codes ")") (same_expression e)
  same_expression (Neg at e) = ap (λ t. codes "-" ++ t) (same_expression e)
  same_expression (Not at e) = ap (λ t. codes "!" ++ t) (same_expression e)
  same_expression (Two at op a b) = ap (λ t. t ++ operator_text op ++ expression_text (unplaced_expression b)) (same_expression a) ∙ ap (λ t. expression_text a ++ operator_text op ++ t) (same_expression b)
  same_expression (Field at a x) = ap (λ t. t ++ codes "." ++ x.name) (same_expression a)
  same_expression (Length at a) = ap (λ t. t ++ codes ".length") (same_expression a)
  same_expression (Elem at a i) = ap (λ t. t ++ codes "[" ++ expression_text (unplaced_expression i) ++ codes "]") (same_expression a) ∙ ap (λ t. expression_text a ++ codes "[" ++ t ++ codes "]") (same_expression i)
  same_expression (Call at a x args) = ap (λ t. t ++ codes "." ++ x.name ++ codes "(" ++ arguments_text (unplaced_arguments args) ++ codes ")") (same_expression a) ∙ ap (λ t. expression_text a ++ codes "." ++ x.name ++ codes "(" ++ t ++ codes ")") (same_arguments args)
  same_expression (Make at x args tweaks) = ap (λ t. codes "new " ++ x.name ++ codes "(" ++ t ++ codes ")" ++ tweaks_text (mapped unplaced_action tweaks)) (same_arguments args) ∙ ap (λ t. codes "new " ++ x.name ++ codes "(" ++ arguments_text args ++ codes ")" ++ t) (same_tweaks tweaks)
  same_expression (Array at kind e) = ap (λ t. codes "new " ++ base_text kind.base ++ codes "[" ++ t ++ codes "]") (same_expression e)

  same_arguments : (es : Expressions) → arguments_text (unplaced_arguments es) ≡ arguments_text es
  same_arguments NoArg = refl
  same_arguments (Arg front last) = ap (λ t. t ++ expression_text (unplaced_expression last)) (same_ends front) ∙ ap (λ t. ended_arguments front ++ t) (same_expression last)

  same_ends : (es : Expressions) → ended_arguments (unplaced_arguments es) ≡ ended_arguments es
  same_ends NoArg = refl
  same_ends (Arg front last) = ap (λ t. t ++ expression_text (unplaced_expression last) ++ codes ", ") (same_ends front) ∙ ap (λ t. ended_arguments front ++ t ++ codes ", ") (same_expression last)

same_guard : (g : Guard) → guard_text (unplaced_guard g) ≡ guard_text g
same_guard (FlagIs x) = refl
same_guard (FlagTruth b) = refl
same_guard (FlagNot g) = ap (λ t. codes "!" ++ t) (same_guard g)
same_guard (FlagTwo op g h) = ap (λ t. t ++ guard_operator_text op ++ guard_text (unplaced_guard h)) (same_guard g) ∙ ap (λ t. guard_text g ++ guard_operator_text op ++ t) (same_guard h)
same_guard (FlagGroup g) = ap (λ t. codes "(" ++ t ++ codes ")") (same_guard g)

same_binds : (s : Sequence Bind) → binds_text (mapped unplaced_bind s) ≡ binds_text s
same_binds Empty = refl
same_binds (More front last) = ap (λ t. codes " with " ++ t) (same_joined bind_text unplaced_bind (λ x. refl) (codes " and ") (More front last))

same_param : (p : Param) → param_text (unplaced_param p) ≡ param_text p
same_param (ParamOf kind x guard binds) = ap (λ t. kind.name ++ codes " " ++ x.name ++ codes " in " ++ t ++ binds_text (mapped unplaced_bind binds)) (same_guard guard) ∙ ap (λ t. kind.name ++ codes " " ++ x.name ++ codes " in " ++ guard_text guard ++ t) (same_binds binds)

same_print_item : (x : PrintItem) → print_item_text (unplaced_print_item x) ≡ print_item_text x
same_print_item (TextItem meaning) = refl
same_print_item (ValueItem e) = same_expression e

same_change : (x : Change) → change_text (unplaced_change x) ≡ change_text x
same_change (ChangeOf x actions) = ap (λ t. x.name ++ codes ": " ++ t) (same_joined action_text unplaced_action same_action (codes ", ") actions)

mutual
  same_statement : (margin : List ℕ) (s : Statement) → statement_text margin (unplaced_statement s) ≡ statement_text margin s
  same_statement margin (Let x e) = ap (λ t. line margin (formal_text x ++ codes " = " ++ t ++ codes ";")) (same_expression e)
  same_statement margin (NewTag at x kind) = refl
  same_statement margin (Assign target e) = ap (λ t. line margin (t ++ codes " = " ++ expression_text (unplaced_expression e) ++ codes ";")) (same_expression target) ∙ ap (λ t. line margin (expression_text target ++ codes " = " ++ t ++ codes ";")) (same_expression e)
  same_statement margin (Do call) = ap (λ t. line margin (t ++ codes ";")) (same_expression call)
  same_statement margin (MakeDo made) = ap (λ t. line margin (t ++ codes ";")) (same_expression made)
  same_statement margin (Block at body) = ap (λ t. line margin (codes "{") ++ t ++ line margin (codes "}")) (same_statements (deeper margin) body)
  same_statement margin (If at test body) = ap (λ t. braced margin (codes "if (" ++ t ++ codes ")") (statements_text (deeper margin) (unplaced_statements body))) (same_expression test) ∙ ap (braced margin (codes "if (" ++ expression_text test ++ codes ")")) (same_statements (deeper margin) body)
  same_statement margin (IfElse at test body other) = ap (λ t. braced margin (codes "if (" ++ t ++ codes ")") (statements_text (deeper margin) (unplaced_statements body) ++ line margin (codes "} else {") ++ statements_text (deeper margin) (unplaced_statements other))) (same_expression test) ∙ ap (λ t. braced margin (codes "if (" ++ expression_text test ++ codes ")") (t ++ line margin (codes "} else {") ++ statements_text (deeper margin) (unplaced_statements other))) (same_statements (deeper margin) body) ∙ ap (λ t. braced margin (codes "if (" ++ expression_text test ++ codes ")") (statements_text (deeper margin) body ++ line margin (codes "} else {") ++ t)) (same_statements (deeper margin) other)
  same_statement margin (While at test body) = ap (λ t. braced margin (codes "while (" ++ t ++ codes ")") (statements_text (deeper margin) (unplaced_statements body))) (same_expression test) ∙ ap (braced margin (codes "while (" ++ expression_text test ++ codes ")")) (same_statements (deeper margin) body)
  same_statement margin (Return at) = refl
  same_statement margin (ReturnValue at e) = ap (λ t. line margin (codes "return " ++ t ++ codes ";")) (same_expression e)
  same_statement margin (Print at items) = ap (λ t. line margin (codes "print(" ++ t ++ codes ");")) (same_joined print_item_text unplaced_print_item same_print_item (codes ", ") items)
  same_statement margin (Assert at e) = ap (λ t. line margin (codes "assert(" ++ t ++ codes ");")) (same_expression e)
  same_statement margin (Exit at changes) = ap (λ t. line margin (codes "taskexit(" ++ t ++ codes ");")) (same_joined change_text unplaced_change same_change (codes "; ") changes)

  same_statements : (margin : List ℕ) (ss : Statements) → statements_text margin (unplaced_statements ss) ≡ statements_text margin ss
  same_statements margin Nothing = refl
  same_statements margin (Then front last) = ap (λ t. t ++ statement_text margin (unplaced_statement last)) (same_statements margin front) ∙ ap (λ t. statements_text margin front ++ t) (same_statement margin last)

same_signature : (name : List ℕ) (formals : Sequence Formal) → signature_text name (mapped unplaced_formal formals) ≡ signature_text name formals
same_signature name formals = ap (λ t. name ++ codes "(" ++ t ++ codes ")") (same_joined formal_text unplaced_formal (λ x. refl) (codes ", ") formals)

same_result : (r : Option TypeText) → result_text (unplaced_result r) ≡ result_text r
same_result None = refl
same_result (Some kind) = refl

same_method : (margin : List ℕ) (m : Method) → method_text margin (unplaced_method m) ≡ method_text margin m
same_method margin (MethodOf result x formals body) = ap (λ t. braced margin (t ++ codes " " ++ signature_text x.name (mapped unplaced_formal formals)) (statements_text (deeper margin) (unplaced_statements body))) (same_result result) ∙ ap (λ t. braced margin (result_text result ++ codes " " ++ t) (statements_text (deeper margin) (unplaced_statements body))) (same_signature x.name formals) ∙ ap (braced margin (result_text result ++ codes " " ++ signature_text x.name formals)) (same_statements (deeper margin) body)

same_maker : (margin : List ℕ) (m : Method) → maker_text margin (unplaced_method m) ≡ maker_text margin m
same_maker margin (MethodOf result x formals body) = ap (λ t. braced margin t (statements_text (deeper margin) (unplaced_statements body))) (same_signature x.name formals) ∙ ap (braced margin (signature_text x.name formals)) (same_statements (deeper margin) body)

same_member : (margin : List ℕ) (m : Member) → member_text margin (unplaced_member m) ≡ member_text margin m
same_member margin (FlagMember x) = refl
same_member margin (FieldMember x) = refl
same_member margin (MethodMember m) = same_method margin m
same_member margin (MakerMember m) = same_maker margin m

same_item : (i : Item) → item_text (unplaced_item i) ≡ item_text i
same_item (TagTypeItem x) = refl
same_item (ClassItem x members) = ap (braced [] (codes "class " ++ x.name)) (same_each (member_text (deeper [])) unplaced_member (same_member (deeper [])) members)
same_item (TaskItem at x params body) = ap (λ t. braced [] (codes "task " ++ x.name ++ codes "(" ++ t ++ codes ")") (statements_text (deeper []) (unplaced_statements body))) (same_joined param_text unplaced_param same_param (codes ", ") params) ∙ ap (braced [] (codes "task " ++ x.name ++ codes "(" ++ joined param_text (codes ", ") params ++ codes ")")) (same_statements (deeper []) body)

pub same_program : (items : Sequence Item) → program_text (unplaced items) ≡ program_text items
same_program items = same_each item_text unplaced_item same_item items

pub same_text : (one two : Sequence Item) → unplaced one ≡ unplaced two → program_text one ≡ program_text two
same_text one two h = sym (same_program one) ∙ ap program_text h ∙ same_program two
