-- Trees apart from places, and what reading a printed text gives.
use Rattle.std.specs.Prelude.{◌≡◌, ℕ, List, Option, None, Some}
use Rattle.bc_data.specs.SourceTree.{Sequence, Empty, More, Expression, Int, Truth, Null, This, Var, Group, Neg, Not, Two, Field, Length, Elem, Call, Make, Array, Expressions, NoArg, Arg, Guard, FlagIs, FlagTruth, FlagNot, FlagTwo, FlagGroup, PrintItem, TextItem, ValueItem, Change, ChangeOf, Statement, Let, NewTag, Assign, Do, MakeDo, Block, If, IfElse, While, Return, ReturnValue, Print, Assert, Exit, Statements, Nothing, Then, Method, MethodOf, Member, FlagMember, FieldMember, MethodMember, MakerMember, Param, ParamOf, Item, TagTypeItem, ClassItem, TaskItem}
use Rattle.bc_data.specs.Lexical.{AreTokensOf}
use Rattle.bc_data.specs.Refusal.{IsTreeOf}
use Rattle.bc_data.specs.Seen.{seen}
use Rattle.bc_data.specs.declared.run.Place.{Place}
use Rattle.bc_data.specs.declared.token.Token.{Token}
use Rattle.bc_data.specs.declared.tree.Named.{Named}
use Rattle.bc_data.specs.declared.tree.TypeText.{TypeText}
use Rattle.bc_data.specs.declared.tree.Formal.{Formal}
use Rattle.bc_data.specs.declared.tree.Bind.{Bind}
use Rattle.bc_data.specs.declared.tree.ActionText.{ActionText}
use Rattle.bc_data.specs.declared.tree.ActionText.TheVariants as action
use Rattle.bc_print.specs.Canonical.{program_text}

-- A tree apart from its places: all of them are the first one. Two trees that are one so differ in places alone.
abbrev pub nowhere : Place
nowhere = record { line = 1; column = 1 }

abbrev pub mapped : {A : Type 0} {B : Type 0} → (A → B) → Sequence A → Sequence B
mapped f Empty = Empty
mapped f (More front last) = More (mapped f front) (f last)

abbrev pub unplaced_name : Named → Named
unplaced_name x = record { name = x.name; at = nowhere }

abbrev pub unplaced_type : TypeText → TypeText
unplaced_type kind = record { base = kind.base; many = kind.many; at = nowhere }

abbrev pub unplaced_formal : Formal → Formal
unplaced_formal x = record { kind = unplaced_type x.kind; name = unplaced_name x.name }

abbrev pub unplaced_bind : Bind → Bind
unplaced_bind x = record { tag_type = unplaced_name x.tag_type; variable = unplaced_name x.variable }

abbrev pub unplaced_action : ActionText → ActionText
unplaced_action (action.Flag x b) = action.Flag (unplaced_name x) b
unplaced_action (action.Add at x) = action.Add nowhere (unplaced_name x)
unplaced_action (action.Clear at x) = action.Clear nowhere (unplaced_name x)

abbrev mutual
  pub unplaced_expression : Expression → Expression
  unplaced_expression (Int at n) = Int nowhere n
  unplaced_expression (Truth at b) = Truth nowhere b
  unplaced_expression (Null at) = Null nowhere
  unplaced_expression (This at) = This nowhere
  unplaced_expression (Var x) = Var (unplaced_name x)
  unplaced_expression (Group at e) = Group nowhere (unplaced_expression e)
  unplaced_expression (Neg at e) = Neg nowhere (unplaced_expression e)
  unplaced_expression (Not at e) = Not nowhere (unplaced_expression e)
  unplaced_expression (Two at op a b) = Two nowhere op (unplaced_expression a) (unplaced_expression b)
  unplaced_expression (Field at a x) = Field nowhere (unplaced_expression a) (unplaced_name x)
  unplaced_expression (Length at a) = Length nowhere (unplaced_expression a)
  unplaced_expression (Elem at a i) = Elem nowhere (unplaced_expression a) (unplaced_expression i)
  unplaced_expression (Call at a x args) = Call nowhere (unplaced_expression a) (unplaced_name x) (unplaced_arguments args)
  unplaced_expression (Make at x args tweaks) = Make nowhere (unplaced_name x) (unplaced_arguments args) (mapped unplaced_action tweaks)
  unplaced_expression (Array at kind e) = Array nowhere (unplaced_type kind) (unplaced_expression e)

  pub unplaced_arguments : Expressions → Expressions
  unplaced_arguments NoArg = NoArg
  unplaced_arguments (Arg front last) = Arg (unplaced_arguments front) (unplaced_expression last)

abbrev pub unplaced_guard : Guard → Guard
unplaced_guard (FlagIs x) = FlagIs (unplaced_name x)
unplaced_guard (FlagTruth b) = FlagTruth b
unplaced_guard (FlagNot g) = FlagNot (unplaced_guard g)
unplaced_guard (FlagTwo op g h) = FlagTwo op (unplaced_guard g) (unplaced_guard h)
unplaced_guard (FlagGroup g) = FlagGroup (unplaced_guard g)

abbrev pub unplaced_print_item : PrintItem → PrintItem
unplaced_print_item (TextItem meaning) = TextItem meaning
unplaced_print_item (ValueItem e) = ValueItem (unplaced_expression e)

abbrev pub unplaced_change : Change → Change
unplaced_change (ChangeOf x actions) = ChangeOf (unplaced_name x) (mapped unplaced_action actions)

abbrev mutual
  pub unplaced_statement : Statement → Statement
  unplaced_statement (Let x e) = Let (unplaced_formal x) (unplaced_expression e)
  unplaced_statement (NewTag at x kind) = NewTag nowhere (unplaced_name x) (unplaced_name kind)
  unplaced_statement (Assign target e) = Assign (unplaced_expression target) (unplaced_expression e)
  unplaced_statement (Do call) = Do (unplaced_expression call)
  unplaced_statement (MakeDo made) = MakeDo (unplaced_expression made)
  unplaced_statement (Block at body) = Block nowhere (unplaced_statements body)
  unplaced_statement (If at test body) = If nowhere (unplaced_expression test) (unplaced_statements body)
  unplaced_statement (IfElse at test body other) = IfElse nowhere (unplaced_expression test) (unplaced_statements body) (unplaced_statements other)
  unplaced_statement (While at test body) = While nowhere (unplaced_expression test) (unplaced_statements body)
  unplaced_statement (Return at) = Return nowhere
  unplaced_statement (ReturnValue at e) = ReturnValue nowhere (unplaced_expression e)
  unplaced_statement (Print at items) = Print nowhere (mapped unplaced_print_item items)
  unplaced_statement (Assert at e) = Assert nowhere (unplaced_expression e)
  unplaced_statement (Exit at changes) = Exit nowhere (mapped unplaced_change changes)

  pub unplaced_statements : Statements → Statements
  unplaced_statements Nothing = Nothing
  unplaced_statements (Then front last) = Then (unplaced_statements front) (unplaced_statement last)

abbrev pub unplaced_result : Option TypeText → Option TypeText
unplaced_result None = None
unplaced_result (Some kind) = Some (unplaced_type kind)

abbrev pub unplaced_method : Method → Method
unplaced_method (MethodOf result x formals body) = MethodOf (unplaced_result result) (unplaced_name x) (mapped unplaced_formal formals) (unplaced_statements body)

abbrev pub unplaced_member : Member → Member
unplaced_member (FlagMember x) = FlagMember (unplaced_name x)
unplaced_member (FieldMember x) = FieldMember (unplaced_formal x)
unplaced_member (MethodMember m) = MethodMember (unplaced_method m)
unplaced_member (MakerMember m) = MakerMember (unplaced_method m)

abbrev pub unplaced_param : Param → Param
unplaced_param (ParamOf kind x guard binds) = ParamOf (unplaced_name kind) (unplaced_name x) (unplaced_guard guard) (mapped unplaced_bind binds)

abbrev pub unplaced_item : Item → Item
unplaced_item (TagTypeItem x) = TagTypeItem (unplaced_name x)
unplaced_item (ClassItem x members) = ClassItem (unplaced_name x) (mapped unplaced_member members)
unplaced_item (TaskItem at x params body) = TaskItem nowhere (unplaced_name x) (mapped unplaced_param params) (unplaced_statements body)

abbrev pub unplaced : Sequence Item → Sequence Item
unplaced items = mapped unplaced_item items

-- That the text of a tree that the grammar gives to some text is read as that tree, apart from places. The crate
-- `bc_law_readback` proves it.
abbrev pub IsReadBack : Type 0
IsReadBack =
    (n : ℕ) (items : Sequence Item) (source : List ℕ) (tokens : List Token) → AreTokensOf source tokens → IsTreeOf n items (seen source tokens) →
    (again : Sequence Item) × (written : List Token) × AreTokensOf (program_text items) written × IsTreeOf n again (seen (program_text items) written) × (unplaced again ≡ unplaced items)
