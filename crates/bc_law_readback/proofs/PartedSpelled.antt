-- The tokens that spell a tree cover its parts.
use Rattle.std.proofs.Common.{List, [], ◌∷◌, ◌++◌, Bool, true, false, None, Some, Option, inl, inr}
use Rattle.bc_data.specs.SourceTree.{Sequence, Empty, More, Expression, Int, Truth, Null, This, Var, Group, Neg, Not, Two, Field, Length, Elem, Call, Make, Array, Expressions, NoArg, Arg, Guard, FlagIs, FlagTruth, FlagNot, FlagTwo, FlagGroup, PrintItem, TextItem, ValueItem, Change, ChangeOf, Statement, Let, NewTag, Assign, Do, MakeDo, Block, If, IfElse, While, Return, ReturnValue, Print, Assert, Exit, Statements, Nothing, Then, Method, MethodOf, Member, FlagMember, FieldMember, MethodMember, MakerMember, Param, ParamOf, Item, TagTypeItem, ClassItem, TaskItem}
use Rattle.bc_data.specs.Seen.{Seen, Keyword, Name, Number, Text, Mark}
use Rattle.bc_data.specs.Grammar.{token, name_token, truth, base_lexeme, sign_of, guard_word, Repeated, Separated, SpellsAction, SpellsTweaks, SpellsBrackets, SpellsType, Spells, SpellsArgs, SpellsFront, SpellsPrintItem, SpellsChange, SpellsTest, SpellsStat, SpellsStats, SpellsGuard, SpellsBind, SpellsBinds, SpellsParam, SpellsFormal, SpellsCode, SpellsResult, SpellsMethod, SpellsMaker, SpellsMember, SpellsItem}
use Rattle.bc_data.specs.declared.run.Place.{Place}
use Rattle.bc_data.specs.declared.token.Word.{Word}
use Rattle.bc_data.specs.declared.token.Word.TheVariants as word
use Rattle.bc_data.specs.declared.token.Sign.TheVariants as sign
use Rattle.bc_data.specs.declared.tree.TypeText.{TypeText}
use Rattle.bc_data.specs.declared.tree.Named.{Named}
use Rattle.bc_data.specs.declared.tree.Base.{Base}
use Rattle.bc_data.specs.declared.tree.Base.TheVariants as base
use Rattle.bc_data.specs.declared.tree.Formal.{Formal}
use Rattle.bc_data.specs.declared.tree.Bind.{Bind}
use Rattle.bc_data.specs.declared.tree.ActionText.{ActionText}
use Rattle.bc_data.specs.declared.tree.ActionText.TheVariants as action
use Rattle.bc_law_readback.specs.Parts.{Part, joined_parts, keyword, space, mark, name, comma, truth_parts, base_parts, bracket_parts, type_parts, formal_parts, action_parts, tweaks_parts, expression_parts, arguments_parts, ended_arguments_parts, guard_parts, bind_parts, binds_parts, param_parts, print_item_parts, change_parts, line_parts, deeper_parts, braced_parts, test_parts, statement_parts, statements_parts, signature_parts, result_parts, method_parts, maker_parts, member_parts, item_parts, program_parts, tokens_of, AllSpellable}
use Rattle.bc_law_readback.proofs.PartedCovers.{AllKnown, Covers, nothing, gap, line_end, taken, mark_taken, word_taken, also, along, until, IsBlank, repeated_covers, separated_covers, listed_covers}

name_taken : (x : Named) {rest : List Seen} → Covers (name_token x ∷ rest) (name x) rest
name_taken x = taken (Name x.name) (λ h. h)

truth_taken : (b : Bool) {at : Place} {rest : List Seen} → Covers (token (truth b) at ∷ rest) (truth_parts b) rest
truth_taken true = word_taken word.True
truth_taken false = word_taken word.False

base_taken : (b : Base) {at : Place} {rest : List Seen} → Covers (token (base_lexeme b) at ∷ rest) (base_parts b) rest
base_taken base.Int = word_taken word.Int
base_taken base.Bool = word_taken word.Bool
base_taken (base.Class x) = taken (Name x) (λ h. h)

comma_taken : (at : Place) (rest : List Seen) → Covers (token (Mark sign.Comma) at ∷ rest) comma rest
comma_taken at rest = also (mark_taken sign.Comma) gap

brackets_covers : (b : Bool) (ts rest : List Seen) → SpellsBrackets b ts rest → Covers ts (bracket_parts b) rest
brackets_covers true ts rest h = along h.2 (also (mark_taken sign.OpenBracket) (mark_taken sign.CloseBracket))
brackets_covers false ts rest h = along h nothing

type_covers : (kind : TypeText) (ts rest : List Seen) → SpellsType kind ts rest → Covers ts (type_parts kind) rest
type_covers kind ts rest h = also (along h.1 (base_taken kind.base)) (brackets_covers kind.many h.0 rest h.2)

formal_covers : (x : Formal) (ts rest : List Seen) → SpellsFormal x ts rest → Covers ts (formal_parts x) rest
formal_covers x ts rest h = also (also (type_covers x.kind ts (name_token x.name ∷ rest) h) gap) (name_taken x.name)

action_covers : (clears : Bool) (x : ActionText) (ts rest : List Seen) → SpellsAction clears x ts rest → Covers ts (action_parts x) rest
action_covers clears (action.Flag x b) ts rest h = along h.2 (also (also (also (also (name_taken x) gap) (mark_taken sign.Becomes)) gap) (truth_taken b))
action_covers clears (action.Add at x) ts rest h = along h (also (also (word_taken word.Add) gap) (name_taken x))
action_covers clears (action.Clear at x) ts rest h = along h.1 (also (also (word_taken word.Clear) gap) (name_taken x))

actions_cover : (clears : Bool) (s : Sequence ActionText) (ts rest : List Seen) → Separated (SpellsAction clears) (Mark sign.Comma) s ts rest → Covers ts (joined_parts action_parts comma s) rest
actions_cover clears s ts rest h = separated_covers (SpellsAction clears) action_parts (action_covers clears) (Mark sign.Comma) comma comma_taken s ts rest h

tweaks_covers : (s : Sequence ActionText) (ts rest : List Seen) → SpellsTweaks s ts rest → Covers ts (tweaks_parts s) rest
tweaks_covers Empty ts rest (inl h) = along h nothing
tweaks_covers Empty ts rest (inr h) = along h.2 (record { cover = λ known. (tt, known.1.1) })
tweaks_covers (More front last) ts rest h = along h.3 (also (also (mark_taken sign.OpenBrace) (actions_cover false (More front last) h.0 (token (Mark sign.CloseBrace) h.2 ∷ rest) h.4)) (mark_taken sign.CloseBrace))

mutual
  expression_covers : (e : Expression) (ts rest : List Seen) → Spells e ts rest → Covers ts (expression_parts e) rest
  expression_covers (Int at n) ts rest h = along h (taken (Number n) (λ k. k))
  expression_covers (Truth at b) ts rest h = along h (truth_taken b)
  expression_covers (Null at) ts rest h = along h (word_taken word.Null)
  expression_covers (This at) ts rest h = along h (word_taken word.This)
  expression_covers (Var x) ts rest h = along h (name_taken x)
  expression_covers (Group at e) ts rest h = along h.2 (also (also (mark_taken sign.OpenParen) (expression_covers e _ _ h.3)) (mark_taken sign.CloseParen))
  expression_covers (Neg at e) ts rest h = along h.1 (also (mark_taken sign.Minus) (expression_covers e _ _ h.3))
  expression_covers (Not at e) ts rest h = along h.1 (also (mark_taken sign.Bang) (expression_covers e _ _ h.3))
  expression_covers (Two at op a b) ts rest h = also (also (expression_covers a _ _ h.3) (also (also gap (mark_taken (sign_of op))) gap)) (expression_covers b _ _ h.4)
  expression_covers (Field at a x) ts rest h = also (also (expression_covers a _ _ h.1) (mark_taken sign.Dot)) (name_taken x)
  expression_covers (Length at a) ts rest h = also (also (expression_covers a _ _ h.2) (mark_taken sign.Dot)) (word_taken word.Length)
  expression_covers (Elem at a i) ts rest h = also (also (also (expression_covers a _ _ h.3) (mark_taken sign.OpenBracket)) (expression_covers i _ _ h.4)) (mark_taken sign.CloseBracket)
  expression_covers (Call at a x args) ts rest h = also (also (also (also (also (expression_covers a _ _ h.4) (mark_taken sign.Dot)) (name_taken x)) (mark_taken sign.OpenParen)) (arguments_cover args _ _ h.5)) (mark_taken sign.CloseParen)
  expression_covers (Make at x args tweaks) ts rest h = along h.4 (also (also (also (also (also (also (word_taken word.New) gap) (name_taken x)) (mark_taken sign.OpenParen)) (arguments_cover args _ _ h.5)) (mark_taken sign.CloseParen)) (tweaks_covers tweaks h.1 rest h.6))
  expression_covers (Array at kind e) ts rest h = along h.4 (also (also (also (also (also (word_taken word.New) gap) (base_taken kind.base)) (mark_taken sign.OpenBracket)) (expression_covers e _ _ h.5)) (mark_taken sign.CloseBracket))

  arguments_cover : (es : Expressions) (ts rest : List Seen) → SpellsArgs es ts rest → Covers ts (arguments_parts es) rest
  arguments_cover NoArg ts rest h = along h nothing
  arguments_cover (Arg front last) ts rest h = also (ended_arguments_cover front _ _ h.1) (expression_covers last _ _ h.2)

  ended_arguments_cover : (es : Expressions) (ts rest : List Seen) → SpellsFront es ts rest → Covers ts (ended_arguments_parts es) rest
  ended_arguments_cover NoArg ts rest h = along h nothing
  ended_arguments_cover (Arg front last) ts rest h = also (also (ended_arguments_cover front _ _ h.2) (expression_covers last _ _ h.3)) (comma_taken h.1 rest)

guard_covers : (g : Guard) (ts rest : List Seen) → SpellsGuard g ts rest → Covers ts (guard_parts g) rest
guard_covers (FlagIs x) ts rest h = along h (name_taken x)
guard_covers (FlagTruth b) ts rest h = along h.1 (truth_taken b)
guard_covers (FlagNot g) ts rest h = along h.2 (also (mark_taken sign.Bang) (guard_covers g _ _ h.4))
guard_covers (FlagTwo op g h) ts rest k = also (also (also (also (guard_covers g _ _ k.4) gap) (word_taken (guard_word op))) gap) (guard_covers h _ _ k.5)
guard_covers (FlagGroup g) ts rest h = along h.3 (also (also (mark_taken sign.OpenParen) (guard_covers g _ _ h.4)) (mark_taken sign.CloseParen))

bind_covers : (x : Bind) (ts rest : List Seen) → SpellsBind x ts rest → Covers ts (bind_parts x) rest
bind_covers x ts rest h = along h (also (also (name_taken x.tag_type) gap) (name_taken x.variable))

and_taken : (at : Place) (rest : List Seen) → Covers (token (Keyword word.And) at ∷ rest) (space ++ keyword word.And ++ space) rest
and_taken at rest = also (also gap (word_taken word.And)) gap

binds_cover : (s : Sequence Bind) (ts rest : List Seen) → SpellsBinds s ts rest → Covers ts (binds_parts s) rest
binds_cover Empty ts rest h = along h nothing
binds_cover (More front last) ts rest h = along h.2 (also (also (also gap (word_taken word.With)) gap) (separated_covers SpellsBind bind_parts bind_covers (Keyword word.And) (space ++ keyword word.And ++ space) and_taken (More front last) h.0 rest h.3))

param_covers : (p : Param) (ts rest : List Seen) → SpellsParam p ts rest → Covers ts (param_parts p) rest
param_covers (ParamOf kind x guard binds) ts rest h = along h.3 (also (also (also (also (also (also (also (name_taken kind) gap) (name_taken x)) gap) (word_taken word.In)) gap) (guard_covers guard _ _ h.4)) (binds_cover binds _ _ h.5))

print_item_covers : (x : PrintItem) (ts rest : List Seen) → SpellsPrintItem x ts rest → Covers ts (print_item_parts x) rest
print_item_covers (TextItem meaning) ts rest h = along h.1 (taken (Text meaning) (λ k. k))
print_item_covers (ValueItem e) ts rest h = expression_covers e ts rest h

change_covers : (x : Change) (ts rest : List Seen) → SpellsChange x ts rest → Covers ts (change_parts x) rest
change_covers (ChangeOf x actions) ts rest h = along h.2 (also (also (also (name_taken x) (mark_taken sign.Colon)) gap) (actions_cover true actions h.0 rest h.3))

no_margin : IsBlank []
no_margin = record { blank = λ ts. nothing }

deeper_blank : {margin : List Part} → IsBlank margin → IsBlank (deeper_parts margin)
deeper_blank m = record { blank = λ ts. also (m.blank ts) (also gap gap) }

line_covers : {margin parts : List Part} {ts rest : List Seen} → IsBlank margin → Covers ts parts rest → Covers ts (line_parts margin parts) rest
line_covers {ts = ts} m h = also (also (m.blank ts) h) line_end

braced_covers : {margin head lines : List Part} {ts inner rest : List Seen} {open_at close : Place} → IsBlank margin → Covers ts head (token (Mark sign.OpenBrace) open_at ∷ inner) → Covers inner lines (token (Mark sign.CloseBrace) close ∷ rest) → Covers ts (braced_parts margin head lines) rest
braced_covers m h k = also (also (line_covers m (also (also h gap) (mark_taken sign.OpenBrace))) k) (line_covers m (mark_taken sign.CloseBrace))

test_covers : (w : Word) (at : Place) (e : Expression) (ts rest : List Seen) → SpellsTest w at e ts rest → Covers ts (test_parts w e) rest
test_covers w at e ts rest h = along h.3 (also (also (also (also (word_taken w) gap) (mark_taken sign.OpenParen)) (expression_covers e _ _ h.4)) (mark_taken sign.CloseParen))

semicolon_taken : (at : Place) (rest : List Seen) → Covers (token (Mark sign.Semicolon) at ∷ rest) (mark sign.Semicolon ++ space) rest
semicolon_taken at rest = also (mark_taken sign.Semicolon) gap

mutual
  statement_covers : {margin : List Part} → IsBlank margin → (s : Statement) (ts rest : List Seen) → SpellsStat s ts rest → Covers ts (statement_parts margin s) rest
  statement_covers m (Let x e) ts rest h = line_covers m (also (also (also (also (also (also (also (until h.5 (type_covers x.kind ts h.0 h.4)) gap) (name_taken x.name)) gap) (mark_taken sign.Equals)) gap) (expression_covers e _ _ h.6)) (mark_taken sign.Semicolon))
  statement_covers m (NewTag at x kind) ts rest h = along h.6 (line_covers m (also (also (also (also (also (also (also (also (also (also (also (also (word_taken word.Tag) gap) (name_taken x)) gap) (mark_taken sign.Equals)) gap) (word_taken word.New)) gap) (word_taken word.Tag)) (mark_taken sign.OpenParen)) (name_taken kind)) (mark_taken sign.CloseParen)) (mark_taken sign.Semicolon)))
  statement_covers m (Assign target e) ts rest h = line_covers m (also (also (also (also (also (expression_covers target _ _ h.5) gap) (mark_taken sign.Equals)) gap) (expression_covers e _ _ h.6)) (mark_taken sign.Semicolon))
  statement_covers m (Do call) ts rest h = line_covers m (also (expression_covers call _ _ h.3) (mark_taken sign.Semicolon))
  statement_covers m (MakeDo made) ts rest h = line_covers m (also (expression_covers made _ _ h.2) (mark_taken sign.Semicolon))
  statement_covers m (Block at body) ts rest h = along h.2 (also (also (line_covers m (mark_taken sign.OpenBrace)) (statements_cover (deeper_blank m) body _ _ h.3)) (line_covers m (mark_taken sign.CloseBrace)))
  statement_covers m (If at test body) ts rest h = braced_covers m (until h.5 (test_covers word.If at test ts h.0 h.4)) (statements_cover (deeper_blank m) body _ _ h.6)
  statement_covers m (IfElse at test body other) ts rest h = braced_covers m (until h.9 (test_covers word.If at test ts h.0 h.8)) (also (also (statements_cover (deeper_blank m) body _ _ h.10) (line_covers m (also (also (also (also (mark_taken sign.CloseBrace) gap) (word_taken word.Else)) gap) (mark_taken sign.OpenBrace)))) (statements_cover (deeper_blank m) other _ _ h.11))
  statement_covers m (While at test body) ts rest h = braced_covers m (until h.5 (test_covers word.While at test ts h.0 h.4)) (statements_cover (deeper_blank m) body _ _ h.6)
  statement_covers m (Return at) ts rest h = along h.1 (line_covers m (also (word_taken word.Return) (mark_taken sign.Semicolon)))
  statement_covers m (ReturnValue at e) ts rest h = along h.2 (line_covers m (also (also (also (word_taken word.Return) gap) (expression_covers e _ _ h.3)) (mark_taken sign.Semicolon)))
  statement_covers m (Print at items) ts rest h = along h.4 (line_covers m (also (also (also (also (word_taken word.Print) (mark_taken sign.OpenParen)) (separated_covers SpellsPrintItem print_item_parts print_item_covers (Mark sign.Comma) comma comma_taken items _ _ h.5)) (mark_taken sign.CloseParen)) (mark_taken sign.Semicolon)))
  statement_covers m (Assert at e) ts rest h = along h.1.3 (line_covers m (also (also (also (also (word_taken word.Assert) (mark_taken sign.OpenParen)) (expression_covers e _ _ h.1.4)) (mark_taken sign.CloseParen)) (mark_taken sign.Semicolon)))
  statement_covers m (Exit at changes) ts rest h = along h.4 (line_covers m (also (also (also (also (word_taken word.TaskExit) (mark_taken sign.OpenParen)) (listed_covers SpellsChange change_parts change_covers (Mark sign.Semicolon) (mark sign.Semicolon ++ space) semicolon_taken changes _ _ h.5)) (mark_taken sign.CloseParen)) (mark_taken sign.Semicolon)))

  statements_cover : {margin : List Part} → IsBlank margin → (ss : Statements) (ts rest : List Seen) → SpellsStats ss ts rest → Covers ts (statements_parts margin ss) rest
  statements_cover m Nothing ts rest h = along h nothing
  statements_cover m (Then front last) ts rest h = also (statements_cover m front _ _ h.1) (statement_covers m last _ _ h.2)

result_covers : (r : Option TypeText) (ts rest : List Seen) → SpellsResult r ts rest → Covers ts (result_parts r) rest
result_covers None ts rest h = along h.1 (word_taken word.Void)
result_covers (Some kind) ts rest h = type_covers kind ts rest h

signature_covers : (x : Named) (formals : Sequence Formal) (body : Statements) (ts rest : List Seen) → (h : SpellsCode formals body ts rest) → Covers (name_token x ∷ ts) (signature_parts x formals) (token (Mark sign.OpenBrace) h.6.1 ∷ h.6.0)
signature_covers x formals body ts rest h = until h.6.3 (also (also (also (name_taken x) (along h.4 (mark_taken sign.OpenParen))) (listed_covers SpellsFormal formal_parts formal_covers (Mark sign.Comma) comma comma_taken formals _ _ h.5)) (mark_taken sign.CloseParen))

method_covers : {margin : List Part} → IsBlank margin → (x : Method) (ts rest : List Seen) → SpellsMethod x ts rest → Covers ts (method_parts margin x) rest
method_covers m (MethodOf result x formals body) ts rest h = braced_covers m (also (also (result_covers result ts _ h.1) gap) (signature_covers x formals body h.0 rest h.2)) (statements_cover (deeper_blank m) body _ _ h.2.6.4)

maker_covers : {margin : List Part} → IsBlank margin → (x : Method) (ts rest : List Seen) → SpellsMaker x ts rest → Covers ts (maker_parts margin x) rest
maker_covers m (MethodOf result x formals body) ts rest h = braced_covers m (along h.2 (signature_covers x formals body h.0 rest h.3)) (statements_cover (deeper_blank m) body _ _ h.3.6.4)

member_covers : {margin : List Part} → IsBlank margin → (x : Member) (ts rest : List Seen) → SpellsMember x ts rest → Covers ts (member_parts margin x) rest
member_covers m (FlagMember x) ts rest h = along h.2 (line_covers m (also (also (also (word_taken word.Flag) gap) (name_taken x)) (mark_taken sign.Semicolon)))
member_covers m (FieldMember x) ts rest h = line_covers m (also (formal_covers x ts _ h.1) (mark_taken sign.Semicolon))
member_covers m (MethodMember x) ts rest h = method_covers m x ts rest h
member_covers m (MakerMember x) ts rest h = maker_covers m x ts rest h

item_covers : (i : Item) (ts rest : List Seen) → SpellsItem i ts rest → Covers ts (item_parts i) rest
item_covers (TagTypeItem x) ts rest h = along h.2 (line_covers no_margin (also (also (also (word_taken word.TagType) gap) (name_taken x)) (mark_taken sign.Semicolon)))
item_covers (ClassItem x members) ts rest h = along h.4 (braced_covers no_margin (also (also (word_taken word.Class) gap) (name_taken x)) (repeated_covers SpellsMember (member_parts (deeper_parts [])) (member_covers (deeper_blank no_margin)) members _ _ h.5))
item_covers (TaskItem at x params body) ts rest h = along h.4 (braced_covers no_margin (until h.6.3 (also (also (also (also (also (word_taken word.Task) gap) (name_taken x)) (mark_taken sign.OpenParen)) (separated_covers SpellsParam param_parts param_covers (Mark sign.Comma) comma comma_taken params _ _ h.5)) (mark_taken sign.CloseParen))) (statements_cover (deeper_blank no_margin) body _ _ h.6.4))

-- the tokens of a tree can be spelled where all that are seen can
pub program_spellable : (items : Sequence Item) (ts rest : List Seen) → Repeated SpellsItem items ts rest → AllKnown ts → AllSpellable (tokens_of (program_parts items))
program_spellable items ts rest h known = let all = repeated_covers SpellsItem item_parts item_covers items ts rest h in let both = all.cover known in both.0
