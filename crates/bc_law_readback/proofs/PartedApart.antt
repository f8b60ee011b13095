-- The parts of every tree stand apart.
use Rattle.std.proofs.Common.{List, [], ◌++◌, Bool, true, false, None, Some, Option, refl}
use Rattle.std.proofs.lemmas.List.{append-nil}
use Rattle.bc_data.specs.SourceTree.{Sequence, Empty, More, Expression, Int, Truth, Null, This, Var, Group, Neg, Not, Two, Field, Length, Elem, Call, Make, Array, Expressions, NoArg, Arg, Guard, FlagIs, FlagTruth, FlagNot, FlagTwo, FlagGroup, PrintItem, TextItem, ValueItem, Change, ChangeOf, Statement, Let, NewTag, Assign, Do, MakeDo, Block, If, IfElse, While, Return, ReturnValue, Print, Assert, Exit, Statements, Nothing, Then, Method, MethodOf, Member, FlagMember, FieldMember, MethodMember, MakerMember, Param, ParamOf, Item, TagTypeItem, ClassItem, TaskItem}
use Rattle.bc_data.specs.Seen.{Mark}
use Rattle.bc_data.specs.Grammar.{sign_of, guard_word}
use Rattle.bc_data.specs.declared.program.Op.{Op}
use Rattle.bc_data.specs.declared.token.Word.{Word}
use Rattle.bc_data.specs.declared.token.Word.TheVariants as word
use Rattle.bc_data.specs.declared.token.Sign.TheVariants as sign
use Rattle.bc_data.specs.declared.tree.TypeText.{TypeText}
use Rattle.bc_data.specs.declared.tree.Named.{Named}
use Rattle.bc_data.specs.declared.tree.Base.{Base}
use Rattle.bc_data.specs.declared.tree.Base.TheVariants as base
use Rattle.bc_data.specs.declared.tree.Formal.{Formal}
use Rattle.bc_data.specs.declared.tree.Bind.{Bind}
use Rattle.bc_data.specs.declared.tree.ActionText.{ActionText}
use Rattle.bc_data.specs.declared.tree.ActionText.TheVariants as action
use Rattle.bc_law_readback.specs.Parts.{Part, LineFeed, AreApart, keyword, space, mark, name, comma, truth_parts, base_parts, bracket_parts, formal_parts, action_parts, tweaks_parts, operator_parts, expression_parts, arguments_parts, ended_arguments_parts, guard_parts, bind_parts, binds_parts, param_parts, print_item_parts, change_parts, line_parts, deeper_parts, braced_parts, test_parts, statement_parts, statements_parts, signature_parts, result_parts, method_parts, maker_parts, member_parts, item_parts, program_parts}
use Rattle.bc_law_readback.proofs.PartedEnds.{Anything, NoWord, NoEquals, Follows, follows_append, IsApart, empty, one, mark_end, word_end, name_end, space_end, spaced, loose, join, whole, each_apart, joined_apart}

truth_apart : (b : Bool) → IsApart NoWord (truth_parts b)
truth_apart true = word_end word.True
truth_apart false = word_end word.False

base_apart : (b : Base) → IsApart NoWord (base_parts b)
base_apart base.Int = word_end word.Int
base_apart base.Bool = word_end word.Bool
base_apart (base.Class x) = one _

type_parts_apart : (b : Base) (many : Bool) → IsApart NoWord (base_parts b ++ bracket_parts many)
type_parts_apart b true = loose (join (base_apart b) (join (mark_end sign.OpenBracket) (mark_end sign.CloseBracket) tt) refl)
type_parts_apart base.Int false = word_end word.Int
type_parts_apart base.Bool false = word_end word.Bool
type_parts_apart (base.Class x) false = one _

formal_apart : (x : Formal) → IsApart NoWord (formal_parts x)
formal_apart x = join (join (type_parts_apart x.kind.base x.kind.many) space_end tt) (name_end x.name) tt

action_apart : (x : ActionText) → IsApart NoWord (action_parts x)
action_apart (action.Flag x b) = join (join (join (join (name_end x) space_end tt) (mark_end sign.Becomes) tt) space_end tt) (truth_apart b) tt
action_apart (action.Add at x) = join (join (word_end word.Add) space_end tt) (name_end x) tt
action_apart (action.Clear at x) = join (join (word_end word.Clear) space_end tt) (name_end x) tt

comma_apart : IsApart Anything comma
comma_apart = join (mark_end sign.Comma) space_end tt

tweaks_apart : (s : Sequence ActionText) → IsApart Anything (tweaks_parts s)
tweaks_apart Empty = empty
tweaks_apart (More front last) = join (join (mark_end sign.OpenBrace) (joined_apart action_parts action_apart comma comma_apart refl (More front last)) tt) (mark_end sign.CloseBrace) refl

operator_apart : (op : Op) → IsApart Anything (operator_parts op)
operator_apart op = join (join space_end (spaced (Mark (sign_of op))) tt) space_end tt

before : (xs ys : List Part) → Follows NoEquals xs → Follows NoEquals (xs ++ ys)
before = follows_append NoEquals

-- an expression doesn't begin with `=` or `==`
begins : (e : Expression) → Follows NoEquals (expression_parts e)
begins (Int at n) = refl
begins (Truth at true) = refl
begins (Truth at false) = refl
begins (Null at) = refl
begins (This at) = refl
begins (Var x) = refl
begins (Group at e) = refl
begins (Neg at e) = refl
begins (Not at e) = refl
begins (Two at op a b) = before _ _ (before _ _ (begins a))
begins (Field at a x) = before _ _ (before _ _ (begins a))
begins (Length at a) = before _ _ (before _ _ (begins a))
begins (Elem at a i) = before _ _ (before _ _ (before _ _ (begins a)))
begins (Call at a x args) = before _ _ (before _ _ (before _ _ (before _ _ (before _ _ (begins a)))))
begins (Make at x args tweaks) = refl
begins (Array at kind e) = refl

mutual
  expression_apart : (e : Expression) → IsApart NoWord (expression_parts e)
  expression_apart (Int at n) = one _
  expression_apart (Truth at b) = truth_apart b
  expression_apart (Null at) = word_end word.Null
  expression_apart (This at) = word_end word.This
  expression_apart (Var x) = name_end x
  expression_apart (Group at e) = loose (join (join (mark_end sign.OpenParen) (expression_apart e) tt) (mark_end sign.CloseParen) refl)
  expression_apart (Neg at e) = join (mark_end sign.Minus) (expression_apart e) tt
  expression_apart (Not at e) = join (mark_end sign.Bang) (expression_apart e) (begins e)
  expression_apart (Two at op a b) = join (join (expression_apart a) (operator_apart op) tt) (expression_apart b) tt
  expression_apart (Field at a x) = join (join (expression_apart a) (mark_end sign.Dot) refl) (name_end x) tt
  expression_apart (Length at a) = join (join (expression_apart a) (mark_end sign.Dot) refl) (word_end word.Length) tt
  expression_apart (Elem at a i) = loose (join (join (join (expression_apart a) (mark_end sign.OpenBracket) refl) (expression_apart i) tt) (mark_end sign.CloseBracket) refl)
  expression_apart (Call at a x args) = loose (join (join (join (join (join (expression_apart a) (mark_end sign.Dot) refl) (name_end x) tt) (mark_end sign.OpenParen) refl) (arguments_apart args) tt) (mark_end sign.CloseParen) refl)
  expression_apart (Make at x args tweaks) = loose (join (join (join (join (join (join (word_end word.New) space_end tt) (name_end x) tt) (mark_end sign.OpenParen) refl) (arguments_apart args) tt) (mark_end sign.CloseParen) refl) (tweaks_apart tweaks) tt)
  expression_apart (Array at kind e) = loose (join (join (join (join (join (word_end word.New) space_end tt) (base_apart kind.base) tt) (mark_end sign.OpenBracket) refl) (expression_apart e) tt) (mark_end sign.CloseBracket) refl)

  arguments_apart : (es : Expressions) → IsApart NoWord (arguments_parts es)
  arguments_apart NoArg = empty
  arguments_apart (Arg front last) = join (ended_arguments_apart front) (expression_apart last) tt

  ended_arguments_apart : (es : Expressions) → IsApart Anything (ended_arguments_parts es)
  ended_arguments_apart NoArg = empty
  ended_arguments_apart (Arg front last) = join (join (ended_arguments_apart front) (expression_apart last) tt) comma_apart refl

guard_begins : (g : Guard) → Follows NoEquals (guard_parts g)
guard_begins (FlagIs x) = refl
guard_begins (FlagTruth true) = refl
guard_begins (FlagTruth false) = refl
guard_begins (FlagNot g) = refl
guard_begins (FlagTwo op g h) = before _ _ (before _ _ (before _ _ (before _ _ (guard_begins g))))
guard_begins (FlagGroup g) = refl

guard_apart : (g : Guard) → IsApart NoWord (guard_parts g)
guard_apart (FlagIs x) = name_end x
guard_apart (FlagTruth b) = truth_apart b
guard_apart (FlagNot g) = join (mark_end sign.Bang) (guard_apart g) (guard_begins g)
guard_apart (FlagTwo op g h) = join (join (join (join (guard_apart g) space_end tt) (word_end (guard_word op)) tt) space_end tt) (guard_apart h) tt
guard_apart (FlagGroup g) = loose (join (join (mark_end sign.OpenParen) (guard_apart g) tt) (mark_end sign.CloseParen) refl)

bind_apart : (x : Bind) → IsApart NoWord (bind_parts x)
bind_apart x = join (join (name_end x.tag_type) space_end tt) (name_end x.variable) tt

and_apart : IsApart Anything (space ++ keyword word.And ++ space)
and_apart = join (join space_end (word_end word.And) tt) space_end tt

binds_apart : (s : Sequence Bind) → IsApart NoWord (binds_parts s)
binds_apart Empty = empty
binds_apart (More front last) = join (join (join space_end (word_end word.With) tt) space_end tt) (joined_apart bind_parts bind_apart (space ++ keyword word.And ++ space) and_apart tt (More front last)) tt

param_front : (kind x : Named) (guard : Guard) → IsApart NoWord (name kind ++ space ++ name x ++ space ++ keyword word.In ++ space ++ guard_parts guard)
param_front kind x guard = join (join (join (join (join (join (name_end kind) space_end tt) (name_end x) tt) space_end tt) (word_end word.In) tt) space_end tt) (guard_apart guard) tt

bound : {parts : List Part} → IsApart NoWord parts → (s : Sequence Bind) → IsApart NoWord (parts ++ binds_parts s)
bound {parts} h Empty = rw (append-nil parts) h
bound h (More front last) = join h (binds_apart (More front last)) tt

param_apart : (p : Param) → IsApart NoWord (param_parts p)
param_apart (ParamOf kind x guard binds) = bound (param_front kind x guard) binds

print_item_apart : (x : PrintItem) → IsApart NoWord (print_item_parts x)
print_item_apart (TextItem meaning) = loose (one _)
print_item_apart (ValueItem e) = expression_apart e

change_apart : (x : Change) → IsApart NoWord (change_parts x)
change_apart (ChangeOf x actions) = join (join (join (name_end x) (mark_end sign.Colon) refl) space_end tt) (joined_apart action_parts action_apart comma comma_apart refl actions) tt

line_apart : {margin parts : List Part} → IsApart Anything margin → IsApart Anything parts → IsApart Anything (line_parts margin parts)
line_apart m h = join (join m h tt) (one LineFeed) tt

deeper_apart : {margin : List Part} → IsApart Anything margin → IsApart Anything (deeper_parts margin)
deeper_apart m = join m (join space_end space_end tt) tt

braced_apart : {margin head lines : List Part} → IsApart Anything margin → IsApart NoWord head → IsApart Anything lines → IsApart Anything (braced_parts margin head lines)
braced_apart m h k = join (join (line_apart m (join (join h space_end tt) (mark_end sign.OpenBrace) tt)) k tt) (line_apart m (mark_end sign.CloseBrace)) tt

test_apart : (w : Word) (test : Expression) → IsApart NoWord (test_parts w test)
test_apart w test = loose (join (join (join (join (word_end w) space_end tt) (mark_end sign.OpenParen) tt) (expression_apart test) tt) (mark_end sign.CloseParen) refl)

mutual
  statement_apart : {margin : List Part} → IsApart Anything margin → (s : Statement) → IsApart Anything (statement_parts margin s)
  statement_apart m (Let x e) = line_apart m (join (join (join (join (join (formal_apart x) space_end tt) (mark_end sign.Equals) tt) space_end tt) (expression_apart e) tt) (mark_end sign.Semicolon) refl)
  statement_apart m (NewTag at x kind) = line_apart m (join (join (join (join (join (join (join (join (join (join (join (join (word_end word.Tag) space_end tt) (name_end x) tt) space_end tt) (mark_end sign.Equals) tt) space_end tt) (word_end word.New) tt) space_end tt) (word_end word.Tag) tt) (mark_end sign.OpenParen) refl) (name_end kind) tt) (mark_end sign.CloseParen) refl) (mark_end sign.Semicolon) tt)
  statement_apart m (Assign target e) = line_apart m (join (join (join (join (join (expression_apart target) space_end tt) (mark_end sign.Equals) tt) space_end tt) (expression_apart e) tt) (mark_end sign.Semicolon) refl)
  statement_apart m (Do call) = line_apart m (join (expression_apart call) (mark_end sign.Semicolon) refl)
  statement_apart m (MakeDo made) = line_apart m (join (expression_apart made) (mark_end sign.Semicolon) refl)
  statement_apart m (Block at body) = join (join (line_apart m (mark_end sign.OpenBrace)) (statements_apart (deeper_apart m) body) tt) (line_apart m (mark_end sign.CloseBrace)) tt
  statement_apart m (If at test body) = braced_apart m (test_apart word.If test) (statements_apart (deeper_apart m) body)
  statement_apart m (IfElse at test body other) = braced_apart m (test_apart word.If test) (join (join (statements_apart (deeper_apart m) body) (line_apart m (join (join (join (join (mark_end sign.CloseBrace) space_end tt) (word_end word.Else) tt) space_end tt) (mark_end sign.OpenBrace) tt)) tt) (statements_apart (deeper_apart m) other) tt)
  statement_apart m (While at test body) = braced_apart m (test_apart word.While test) (statements_apart (deeper_apart m) body)
  statement_apart m (Return at) = line_apart m (join (word_end word.Return) (mark_end sign.Semicolon) refl)
  statement_apart m (ReturnValue at e) = line_apart m (join (join (join (word_end word.Return) space_end tt) (expression_apart e) tt) (mark_end sign.Semicolon) refl)
  statement_apart m (Print at items) = line_apart m (join (join (join (join (word_end word.Print) (mark_end sign.OpenParen) refl) (joined_apart print_item_parts print_item_apart comma comma_apart refl items) tt) (mark_end sign.CloseParen) refl) (mark_end sign.Semicolon) tt)
  statement_apart m (Assert at e) = line_apart m (join (join (join (join (word_end word.Assert) (mark_end sign.OpenParen) refl) (expression_apart e) tt) (mark_end sign.CloseParen) refl) (mark_end sign.Semicolon) tt)
  statement_apart m (Exit at changes) = line_apart m (join (join (join (join (word_end word.TaskExit) (mark_end sign.OpenParen) refl) (joined_apart change_parts change_apart (mark sign.Semicolon ++ space) (join (mark_end sign.Semicolon) space_end tt) refl changes) tt) (mark_end sign.CloseParen) refl) (mark_end sign.Semicolon) tt)

  statements_apart : {margin : List Part} → IsApart Anything margin → (ss : Statements) → IsApart Anything (statements_parts margin ss)
  statements_apart m Nothing = empty
  statements_apart m (Then front last) = join (statements_apart m front) (statement_apart m last) tt

signature_apart : (x : Named) (formals : Sequence Formal) → IsApart NoWord (signature_parts x formals)
signature_apart x formals = loose (join (join (join (name_end x) (mark_end sign.OpenParen) refl) (joined_apart formal_parts formal_apart comma comma_apart refl formals) tt) (mark_end sign.CloseParen) refl)

result_apart : (r : Option TypeText) → IsApart NoWord (result_parts r)
result_apart None = word_end word.Void
result_apart (Some kind) = type_parts_apart kind.base kind.many

method_apart : {margin : List Part} → IsApart Anything margin → (m : Method) → IsApart Anything (method_parts margin m)
method_apart m (MethodOf result x formals body) = braced_apart m (join (join (result_apart result) space_end tt) (signature_apart x formals) tt) (statements_apart (deeper_apart m) body)

maker_apart : {margin : List Part} → IsApart Anything margin → (m : Method) → IsApart Anything (maker_parts margin m)
maker_apart m (MethodOf result x formals body) = braced_apart m (signature_apart x formals) (statements_apart (deeper_apart m) body)

member_apart : {margin : List Part} → IsApart Anything margin → (m : Member) → IsApart Anything (member_parts margin m)
member_apart m (FlagMember x) = line_apart m (join (join (join (word_end word.Flag) space_end tt) (name_end x) tt) (mark_end sign.Semicolon) refl)
member_apart m (FieldMember x) = line_apart m (join (formal_apart x) (mark_end sign.Semicolon) refl)
member_apart m (MethodMember x) = method_apart m x
member_apart m (MakerMember x) = maker_apart m x

item_apart : (i : Item) → IsApart Anything (item_parts i)
item_apart (TagTypeItem x) = line_apart empty (join (join (join (word_end word.TagType) space_end tt) (name_end x) tt) (mark_end sign.Semicolon) refl)
item_apart (ClassItem x members) = braced_apart empty (join (join (word_end word.Class) space_end tt) (name_end x) tt) (each_apart (member_parts (deeper_parts [])) (member_apart (deeper_apart empty)) members)
item_apart (TaskItem at x params body) = braced_apart empty (loose (join (join (join (join (join (word_end word.Task) space_end tt) (name_end x) tt) (mark_end sign.OpenParen) refl) (joined_apart param_parts param_apart comma comma_apart refl params) tt) (mark_end sign.CloseParen) refl)) (statements_apart (deeper_apart empty) body)

pub program_apart : (items : Sequence Item) → AreApart (program_parts items)
program_apart items = whole (program_parts items) (each_apart item_parts item_apart items)
