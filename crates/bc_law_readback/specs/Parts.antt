-- The canonical text as tokens, spaces and line feeds.
--
-- Each part mirrors a text of the same name with `_text` for `_parts`. What a part is written as is the text; its
-- tokens are what the grammar reads.
use Rattle.std.specs.Prelude.{◌≡◌, ℕ, pos, ◌≤◌, Bool, true, false, not, ◌&&◌, ◌||◌, ◌==◌, IsTrue, List, [], ◌∷◌, ◌++◌, Option, None, Some, slice_index}
use Rattle.std.specs.Fmt.{signed_decimal}
use Rattle.bc_data.specs.SourceTree.{Sequence, Empty, More, Expression, Int, Truth, Null, This, Var, Group, Neg, Not, Two, Field, Length, Elem, Call, Make, Array, Expressions, NoArg, Arg, Guard, FlagIs, FlagTruth, FlagNot, FlagTwo, FlagGroup, PrintItem, TextItem, ValueItem, Change, ChangeOf, Statement, Let, NewTag, Assign, Do, MakeDo, Block, If, IfElse, While, Return, ReturnValue, Print, Assert, Exit, Statements, Nothing, Then, Method, MethodOf, Member, FlagMember, FieldMember, MethodMember, MakerMember, Param, ParamOf, Item, TagTypeItem, ClassItem, TaskItem}
use Rattle.bc_data.specs.Grammar.{sign_of, base_lexeme, guard_word, truth}
use Rattle.bc_data.specs.Lexical.{is_letter, is_name_byte, is_plain}
use Rattle.bc_data.specs.Seen.{Lexeme, Keyword, Name, Number, Text, Mark, End, Seen}
use Rattle.bc_data.specs.Spelling.{word_text, sign_text}
use Rattle.bc_data.specs.declared.token.Word.{Word}
use Rattle.bc_data.specs.declared.token.Word.TheVariants as word
use Rattle.bc_data.specs.declared.token.Sign.{Sign}
use Rattle.bc_data.specs.declared.token.Sign.TheVariants as sign
use Rattle.bc_data.specs.declared.program.Op.{Op}
use Rattle.bc_data.specs.declared.tree.Named.{Named}
use Rattle.bc_data.specs.declared.tree.TypeText.{TypeText}
use Rattle.bc_data.specs.declared.tree.Base.{Base}
use Rattle.bc_data.specs.declared.tree.Formal.{Formal}
use Rattle.bc_data.specs.declared.tree.Bind.{Bind}
use Rattle.bc_data.specs.declared.tree.ActionText.{ActionText}
use Rattle.bc_data.specs.declared.tree.ActionText.TheVariants as action
use Rattle.bc_print.specs.Canonical.{literal_text}

-- a token, a space, or a line feed
pub data Part : Type 0 where
  Token : (kind : Lexeme) → Part
  Space : Part
  LineFeed : Part

abbrev pub lexeme_text : Lexeme → List ℕ
lexeme_text (Keyword w) = word_text w
lexeme_text (Name spelling) = spelling
lexeme_text (Number n) = signed_decimal n
lexeme_text (Text meaning) = literal_text meaning
lexeme_text (Mark s) = sign_text s
lexeme_text End = []

abbrev pub part_text : Part → List ℕ
part_text (Token kind) = lexeme_text kind
part_text Space = 32 ∷ []
part_text LineFeed = 10 ∷ []

-- what parts are written as
abbrev pub written : List Part → List ℕ
written [] = []
written (p ∷ ps) = part_text p ++ written ps

-- the tokens among parts
abbrev pub tokens_of : List Part → List Lexeme
tokens_of [] = []
tokens_of (Token kind ∷ ps) = kind ∷ tokens_of ps
tokens_of (p ∷ ps) = tokens_of ps

-- the kinds of tokens, without their places
abbrev pub kinds : List Seen → List Lexeme
kinds [] = []
kinds (t ∷ ts) = t.kind ∷ kinds ts

-- Whether a token is written so that it is read as itself where it ends before the next part.
abbrev pub all_of : (ℕ → Bool) → List ℕ → Bool
all_of test [] = true
all_of test (b ∷ bs) = test b && all_of test bs

abbrev pub is_written_byte : ℕ → Bool
is_written_byte b = is_plain b || b == 34 || b == 92 || b == 10 || b == 9

abbrev pub IsSpellable : Lexeme → Type 0
IsSpellable (Keyword w) = Unit {0}
IsSpellable (Name spelling) = IsTrue (is_letter (slice_index spelling 0)) × IsTrue (all_of is_name_byte spelling) × ((w : Word) → spelling ≡ word_text w → ⊥)
IsSpellable (Number n) = (k : ℕ) × (n ≡ pos k) × (k ≤ 2147483647)
IsSpellable (Text meaning) = IsTrue (all_of is_written_byte meaning)
IsSpellable (Mark s) = Unit {0}
IsSpellable End = ⊥

abbrev pub AllSpellable : List Lexeme → Type 0
AllSpellable [] = Unit {0}
AllSpellable (x ∷ xs) = IsSpellable x × AllSpellable xs

-- Whether a part may stand right behind another: a name, a keyword or a number doesn't stand behind one of these, and a
-- mark that could be the beginning of a longer mark or of a comment stands before a space, but for `!`, which only
-- doesn't stand before `=` or `==`.
abbrev pub is_word_like : Lexeme → Bool
is_word_like (Keyword w) = true
is_word_like (Name spelling) = true
is_word_like (Number n) = true
is_word_like _ = false

abbrev pub is_open_mark : Sign → Bool
is_open_mark sign.Colon = true
is_open_mark sign.Equals = true
is_open_mark sign.Less = true
is_open_mark sign.More = true
is_open_mark sign.Slash = true
is_open_mark _ = false

abbrev pub begins_equal : Lexeme → Bool
begins_equal (Mark sign.Equals) = true
begins_equal (Mark sign.Same) = true
begins_equal _ = false

abbrev pub may_touch : Lexeme → Lexeme → Bool
may_touch (Mark sign.Bang) next = not (begins_equal next)
may_touch (Mark s) next = not (is_open_mark s)
may_touch (Text meaning) next = true
may_touch x next = not (is_word_like next)

abbrev pub may_follow : Part → Part → Bool
may_follow (Token x) (Token y) = may_touch x y
may_follow _ _ = true

abbrev pub AreApart : List Part → Type 0
AreApart [] = Unit {0}
AreApart (p ∷ []) = Unit {0}
AreApart (p ∷ q ∷ ps) = IsTrue (may_follow p q) × AreApart (q ∷ ps)

-- The parts of each text.
abbrev pub keyword : Word → List Part
keyword w = Token (Keyword w) ∷ []

abbrev pub mark : Sign → List Part
mark s = Token (Mark s) ∷ []

abbrev pub name : Named → List Part
name x = Token (Name x.name) ∷ []

abbrev pub space : List Part
space = Space ∷ []

-- lists of parts, as `each`, `ended` and `joined` are of texts
abbrev pub each_parts : {A : Type 0} → (A → List Part) → Sequence A → List Part
each_parts parts Empty = []
each_parts parts (More front last) = each_parts parts front ++ parts last

abbrev pub ended_parts : {A : Type 0} → (A → List Part) → List Part → Sequence A → List Part
ended_parts parts separator Empty = []
ended_parts parts separator (More front last) = ended_parts parts separator front ++ parts last ++ separator

abbrev pub joined_parts : {A : Type 0} → (A → List Part) → List Part → Sequence A → List Part
joined_parts parts separator Empty = []
joined_parts parts separator (More front last) = ended_parts parts separator front ++ parts last

abbrev pub comma : List Part
comma = Token (Mark sign.Comma) ∷ Space ∷ []

abbrev pub truth_parts : Bool → List Part
truth_parts b = Token (truth b) ∷ []

abbrev pub base_parts : Base → List Part
base_parts b = Token (base_lexeme b) ∷ []

abbrev pub bracket_parts : Bool → List Part
bracket_parts true = mark sign.OpenBracket ++ mark sign.CloseBracket
bracket_parts false = []

abbrev pub type_parts : TypeText → List Part
type_parts kind = base_parts kind.base ++ bracket_parts kind.many

abbrev pub formal_parts : Formal → List Part
formal_parts x = type_parts x.kind ++ space ++ name x.name

abbrev pub action_parts : ActionText → List Part
action_parts (action.Flag x b) = name x ++ space ++ mark sign.Becomes ++ space ++ truth_parts b
action_parts (action.Add at x) = keyword word.Add ++ space ++ name x
action_parts (action.Clear at x) = keyword word.Clear ++ space ++ name x

abbrev pub tweaks_parts : Sequence ActionText → List Part
tweaks_parts Empty = []
tweaks_parts (More front last) = mark sign.OpenBrace ++ joined_parts action_parts comma (More front last) ++ mark sign.CloseBrace

abbrev pub operator_parts : Op → List Part
operator_parts op = space ++ mark (sign_of op) ++ space

abbrev mutual
  pub expression_parts : Expression → List Part
  expression_parts (Int at n) = Token (Number n) ∷ []
  expression_parts (Truth at b) = truth_parts b
  expression_parts (Null at) = keyword word.Null
  expression_parts (This at) = keyword word.This
  expression_parts (Var x) = name x
  expression_parts (Group at e) = mark sign.OpenParen ++ expression_parts e ++ mark sign.CloseParen
  expression_parts (Neg at e) = mark sign.Minus ++ expression_parts e
  expression_parts (Not at e) = mark sign.Bang ++ expression_parts e
  expression_parts (Two at op a b) = expression_parts a ++ operator_parts op ++ expression_parts b
  expression_parts (Field at a x) = expression_parts a ++ mark sign.Dot ++ name x
  expression_parts (Length at a) = expression_parts a ++ mark sign.Dot ++ keyword word.Length
  expression_parts (Elem at a i) = expression_parts a ++ mark sign.OpenBracket ++ expression_parts i ++ mark sign.CloseBracket
  expression_parts (Call at a x args) = expression_parts a ++ mark sign.Dot ++ name x ++ mark sign.OpenParen ++ arguments_parts args ++ mark sign.CloseParen
  expression_parts (Make at x args tweaks) = keyword word.New ++ space ++ name x ++ mark sign.OpenParen ++ arguments_parts args ++ mark sign.CloseParen ++ tweaks_parts tweaks
  expression_parts (Array at kind e) = keyword word.New ++ space ++ base_parts kind.base ++ mark sign.OpenBracket ++ expression_parts e ++ mark sign.CloseBracket

  pub arguments_parts : Expressions → List Part
  arguments_parts NoArg = []
  arguments_parts (Arg front last) = ended_arguments_parts front ++ expression_parts last

  pub ended_arguments_parts : Expressions → List Part
  ended_arguments_parts NoArg = []
  ended_arguments_parts (Arg front last) = ended_arguments_parts front ++ expression_parts last ++ comma

abbrev pub guard_parts : Guard → List Part
guard_parts (FlagIs x) = name x
guard_parts (FlagTruth b) = truth_parts b
guard_parts (FlagNot g) = mark sign.Bang ++ guard_parts g
guard_parts (FlagTwo op g h) = guard_parts g ++ space ++ keyword (guard_word op) ++ space ++ guard_parts h
guard_parts (FlagGroup g) = mark sign.OpenParen ++ guard_parts g ++ mark sign.CloseParen

abbrev pub bind_parts : Bind → List Part
bind_parts bind = name bind.tag_type ++ space ++ name bind.variable

abbrev pub binds_parts : Sequence Bind → List Part
binds_parts Empty = []
binds_parts (More front last) = space ++ keyword word.With ++ space ++ joined_parts bind_parts (space ++ keyword word.And ++ space) (More front last)

abbrev pub param_parts : Param → List Part
param_parts (ParamOf kind x guard binds) = name kind ++ space ++ name x ++ space ++ keyword word.In ++ space ++ guard_parts guard ++ binds_parts binds

abbrev pub print_item_parts : PrintItem → List Part
print_item_parts (TextItem meaning) = Token (Text meaning) ∷ []
print_item_parts (ValueItem e) = expression_parts e

abbrev pub change_parts : Change → List Part
change_parts (ChangeOf x actions) = name x ++ mark sign.Colon ++ space ++ joined_parts action_parts comma actions

-- a margin is a number of spaces
abbrev pub line_parts : List Part → List Part → List Part
line_parts margin parts = margin ++ parts ++ LineFeed ∷ []

abbrev pub deeper_parts : List Part → List Part
deeper_parts margin = margin ++ Space ∷ Space ∷ []

abbrev pub braced_parts : List Part → List Part → List Part → List Part
braced_parts margin head lines = line_parts margin (head ++ space ++ mark sign.OpenBrace) ++ lines ++ line_parts margin (mark sign.CloseBrace)

-- a keyword and an expression in parentheses, behind a space
abbrev pub test_parts : Word → Expression → List Part
test_parts w test = keyword w ++ space ++ mark sign.OpenParen ++ expression_parts test ++ mark sign.CloseParen

abbrev mutual
  pub statement_parts : List Part → Statement → List Part
  statement_parts margin (Let x e) = line_parts margin (formal_parts x ++ space ++ mark sign.Equals ++ space ++ expression_parts e ++ mark sign.Semicolon)
  statement_parts margin (NewTag at x kind) = line_parts margin (keyword word.Tag ++ space ++ name x ++ space ++ mark sign.Equals ++ space ++ keyword word.New ++ space ++ keyword word.Tag ++ mark sign.OpenParen ++ name kind ++ mark sign.CloseParen ++ mark sign.Semicolon)
  statement_parts margin (Assign target e) = line_parts margin (expression_parts target ++ space ++ mark sign.Equals ++ space ++ expression_parts e ++ mark sign.Semicolon)
  statement_parts margin (Do call) = line_parts margin (expression_parts call ++ mark sign.Semicolon)
  statement_parts margin (MakeDo made) = line_parts margin (expression_parts made ++ mark sign.Semicolon)
  statement_parts margin (Block at body) = line_parts margin (mark sign.OpenBrace) ++ statements_parts (deeper_parts margin) body ++ line_parts margin (mark sign.CloseBrace)
  statement_parts margin (If at test body) = braced_parts margin (test_parts word.If test) (statements_parts (deeper_parts margin) body)
  statement_parts margin (IfElse at test body other) = braced_parts margin (test_parts word.If test) (statements_parts (deeper_parts margin) body ++ line_parts margin (mark sign.CloseBrace ++ space ++ keyword word.Else ++ space ++ mark sign.OpenBrace) ++ statements_parts (deeper_parts margin) other)
  statement_parts margin (While at test body) = braced_parts margin (test_parts word.While test) (statements_parts (deeper_parts margin) body)
  statement_parts margin (Return at) = line_parts margin (keyword word.Return ++ mark sign.Semicolon)
  statement_parts margin (ReturnValue at e) = line_parts margin (keyword word.Return ++ space ++ expression_parts e ++ mark sign.Semicolon)
  statement_parts margin (Print at items) = line_parts margin (keyword word.Print ++ mark sign.OpenParen ++ joined_parts print_item_parts comma items ++ mark sign.CloseParen ++ mark sign.Semicolon)
  statement_parts margin (Assert at e) = line_parts margin (keyword word.Assert ++ mark sign.OpenParen ++ expression_parts e ++ mark sign.CloseParen ++ mark sign.Semicolon)
  statement_parts margin (Exit at changes) = line_parts margin (keyword word.TaskExit ++ mark sign.OpenParen ++ joined_parts change_parts (mark sign.Semicolon ++ space) changes ++ mark sign.CloseParen ++ mark sign.Semicolon)

  pub statements_parts : List Part → Statements → List Part
  statements_parts margin Nothing = []
  statements_parts margin (Then front last) = statements_parts margin front ++ statement_parts margin last

abbrev pub signature_parts : Named → Sequence Formal → List Part
signature_parts x formals = name x ++ mark sign.OpenParen ++ joined_parts formal_parts comma formals ++ mark sign.CloseParen

abbrev pub result_parts : Option TypeText → List Part
result_parts None = keyword word.Void
result_parts (Some kind) = type_parts kind

abbrev pub method_parts : List Part → Method → List Part
method_parts margin (MethodOf result x formals body) = braced_parts margin (result_parts result ++ space ++ signature_parts x formals) (statements_parts (deeper_parts margin) body)

abbrev pub maker_parts : List Part → Method → List Part
maker_parts margin (MethodOf result x formals body) = braced_parts margin (signature_parts x formals) (statements_parts (deeper_parts margin) body)

abbrev pub member_parts : List Part → Member → List Part
member_parts margin (FlagMember x) = line_parts margin (keyword word.Flag ++ space ++ name x ++ mark sign.Semicolon)
member_parts margin (FieldMember x) = line_parts margin (formal_parts x ++ mark sign.Semicolon)
member_parts margin (MethodMember m) = method_parts margin m
member_parts margin (MakerMember m) = maker_parts margin m

abbrev pub item_parts : Item → List Part
item_parts (TagTypeItem x) = line_parts [] (keyword word.TagType ++ space ++ name x ++ mark sign.Semicolon)
item_parts (ClassItem x members) = braced_parts [] (keyword word.Class ++ space ++ name x) (each_parts (member_parts (deeper_parts [])) members)
item_parts (TaskItem at x params body) = braced_parts [] (keyword word.Task ++ space ++ name x ++ mark sign.OpenParen ++ joined_parts param_parts comma params ++ mark sign.CloseParen) (statements_parts (deeper_parts []) body)

-- the canonical text of a program's items, in parts
abbrev pub program_parts : Sequence Item → List Part
program_parts items = each_parts item_parts items
