-- The same grammar, a token at a time. A stack has what is open, the innermost first; where a construct is whole, a
-- function tells from its tree what comes next.
use Rattle.std.specs.Prelude.{ℕ, ◌+◌, ◌≤◌, ◌<◌, max, Bool, true, false, List, [], ◌∷◌, Some, None, if◌then◌else◌, nat_le}
use denote.Enum.Bare.{sameb}
use Rattle.bc_data.specs.Seen.{Lexeme, Seen, Keyword, Name, Number, Text, Mark, End}
use Rattle.bc_data.specs.SourceTree.{Sequence, Empty, More, Expression, Int, Truth, Null, This, Var, Group, Neg, Not, Two, Field, Length, Elem, Call, Make, Array, Expressions, NoArg, Arg, height, GuardOp, AndOp, OrOp, Guard, FlagIs, FlagTruth, FlagNot, FlagTwo, FlagGroup, guard_height, PrintItem, TextItem, ValueItem, Change, ChangeOf, Let, NewTag, Assign, Do, MakeDo, Block, If, IfElse, While, Return, ReturnValue, Print, Assert, Exit, Statements, Nothing, Then, MethodOf, Member, FlagMember, FieldMember, MethodMember, MakerMember, Param, ParamOf, Item, TagTypeItem, ClassItem, TaskItem}
use Rattle.bc_data.specs.Grammar.{looseness, guard_looseness}
use Rattle.bc_data.specs.declared.run.Place.{Place}
use Rattle.bc_data.specs.declared.program.Op.{Op}
use Rattle.bc_data.specs.declared.program.Op.TheVariants as op
use Rattle.bc_data.specs.declared.token.Word.{Word}
use Rattle.bc_data.specs.declared.token.Sign.{Sign}
use Rattle.bc_data.specs.declared.token.Word.TheVariants as word
use Rattle.bc_data.specs.declared.token.Sign.TheVariants as sign
use Rattle.bc_data.specs.contracts.token.Word as word_type
use Rattle.bc_data.specs.contracts.token.Sign as sign_type
use Rattle.bc_data.specs.declared.tree.Named.{Named}
use Rattle.bc_data.specs.declared.tree.TypeText.{TypeText}
use Rattle.bc_data.specs.declared.tree.Base.{Base}
use Rattle.bc_data.specs.declared.tree.Base.TheVariants as base
use Rattle.bc_data.specs.declared.tree.Formal.{Formal}
use Rattle.bc_data.specs.declared.tree.Bind.{Bind}
use Rattle.bc_data.specs.declared.tree.ActionText.{ActionText}
use Rattle.bc_data.specs.declared.tree.ActionText.TheVariants as action

-- what closes the place where an expression stands
pub data Closer : Type 0 where
  Paren : Closer
  Bracket : Closer
  Semicolon : Closer

mutual
  pub data Stack : Type 0 where
    -- the statements of a task, a method or a constructor
    Body : (next : Statements → State) → Stack
    -- the guard of a parameter: what comes behind `with`, `,` and `)`
    Guarded : (bound : Guard → State) (more : Guard → State) (last : Guard → State) → Stack
    InNeg : (at : Place) (st : Stack) → Stack
    InNot : (at : Place) (st : Stack) → Stack
    InTwo : (at : Place) (op : Op) (a : Expression) (st : Stack) → Stack
    -- an expression, up to the sign that closes its place
    Inside : (close : Closer) (next : Expression → State) (st : Stack) → Stack
    InArgs : (args : Expressions) (next : Expressions → State) (st : Stack) → Stack
    InPrint : (items : Sequence PrintItem) (next : Sequence PrintItem → State) (st : Stack) → Stack
    -- a statement that begins with a chain, and those before it
    InChain : (front : Statements) (st : Stack) → Stack
    -- a `new` that is a statement, and those before it
    InMade : (front : Statements) (st : Stack) → Stack
    InBlock : (next : Statements → State) (st : Stack) → Stack
    InFlagNot : (st : Stack) → Stack
    InFlagTwo : (op : GuardOp) (g : Guard) (st : Stack) → Stack
    InFlagGroup : (st : Stack) → Stack

  pub data State : Type 0 where
    Never : State
    -- the sign or keyword leads on, and with any other token it is as in the other state
    OnMark : (s : Sign) (next : Place → State) (other : State) → State
    OnWord : (w : Word) (next : Place → State) (other : State) → State
    OnName : (next : Named → State) (other : State) → State
    -- an operand is to come
    Want : (st : Stack) → State
    -- a primary with links, which more links may follow
    Got : (e : Expression) (st : Stack) → State
    -- an expression that no link follows
    After : (e : Expression) (st : Stack) → State
    -- behind a `.`
    Dotted : (at : Place) (e : Expression) (st : Stack) → State
    -- behind a name and `[` that begin a statement
    Bracketed : (at : Place) (kind : Named) (front : Statements) (st : Stack) → State
    -- a statement is to come, or the end of the list
    Stats : (ps : Statements) (st : Stack) → State
    -- an item of a `print` is to come
    Printing : (items : Sequence PrintItem) (next : Sequence PrintItem → State) (st : Stack) → State
    -- an action in the braces of a `new` is to come
    Tweaking : (tweaks : Sequence ActionText) (next : Sequence ActionText → State) → State
    -- an action of a change is to come: what comes behind `;` and `)`
    Acting : (actions : Sequence ActionText) (more : Sequence ActionText → State) (last : Sequence ActionText → State) → State
    Changing : (changes : Sequence Change) (next : Sequence Change → State) → State
    Declaring : (formals : Sequence Formal) (next : Sequence Formal → State) → State
    Parameters : (params : Sequence Param) (next : Sequence Param → State) → State
    -- a tag variable is to come: what comes behind `,` and `)`
    Binding : (binds : Sequence Bind) (more : Sequence Bind → State) (last : Sequence Bind → State) → State
    -- a part of a guard is to come
    WantFlag : (st : Stack) → State
    AfterFlag : (g : Guard) (st : Stack) → State
    Members : (members : Sequence Member) (next : Sequence Member → State) → State
    Items : (items : Sequence Item) → State
    Done : (items : Sequence Item) → State

-- how many levels are open
abbrev pub levels : Stack → ℕ
levels (Body next) = 0
levels (Guarded bound more last) = 0
levels (InNeg at st) = levels st + 1
levels (InNot at st) = levels st + 1
levels (InTwo at op a st) = levels st + 1
levels (Inside close next st) = levels st + 1
levels (InArgs args next st) = levels st + 1
levels (InPrint items next st) = levels st + 1
levels (InChain front st) = levels st + 1
levels (InMade front st) = levels st + 1
levels (InBlock next st) = levels st + 1
levels (InFlagNot st) = levels st + 1
levels (InFlagTwo op g st) = levels st + 1
levels (InFlagGroup st) = levels st + 1

-- where a token leads, and how many levels the tree then has at least
pub data Step : Type 0 where
  No : Step
  On : (s : State) → Step
  Deep : (s : State) (need : ℕ) → Step

abbrev pub raise : ℕ → Step → Step
raise m No = No
raise m (On s) = Deep s m
raise m (Deep s need) = Deep s (max m need)

-- rows of tokens

abbrev pub one_type : Base → Place → TypeText
one_type b at = record { base = b; many = false; at = at }

abbrev pub many_type : Base → Place → TypeText
many_type b at = record { base = b; many = true; at = at }

-- behind the first word of a type
abbrev pub brackets : Base → Place → (TypeText → State) → State
brackets b at next = OnMark sign.OpenBracket (λ _. OnMark sign.CloseBracket (λ _. next (many_type b at)) Never) (next (one_type b at))

abbrev pub args_row : (Expressions → State) → Stack → State
args_row next st = OnMark sign.CloseParen (λ _. next NoArg) (Want (InArgs NoArg next st))

abbrev pub tweaks_row : Place → Named → Expressions → Stack → State
tweaks_row at x args st =
    OnMark sign.OpenBrace (λ _. OnMark sign.CloseBrace (λ _. After (Make at x args Empty) st) (Tweaking Empty (λ tweaks. After (Make at x args tweaks) st)))
    (After (Make at x args Empty) st)

abbrev pub array : Place → TypeText → Stack → State
array at kind st = Want (Inside Bracket (λ e. After (Array at kind e) st) st)

abbrev pub array_row : Place → TypeText → Stack → State
array_row at kind st = OnMark sign.OpenBracket (λ _. array at kind st) Never

-- behind `new`
abbrev pub new_row : Place → Stack → State
new_row at st =
    OnName (λ x. OnMark sign.OpenParen (λ _. args_row (λ args. tweaks_row at x args st) st) (OnMark sign.OpenBracket (λ _. array at (one_type (base.Class x.name) x.at) st) Never))
    (OnWord word.Int (λ a. array_row at (one_type base.Int a) st) (OnWord word.Bool (λ a. array_row at (one_type base.Bool a) st) Never))

-- behind the type of a declaration
abbrev pub let_value : TypeText → Named → Statements → Stack → State
let_value kind x front st = OnMark sign.Equals (λ _. Want (Inside Semicolon (λ e. Stats (Then front (Let (record { kind = kind; name = x }) e)) st) st)) Never

abbrev pub let_row : TypeText → Statements → Stack → State
let_row kind front st = OnName (λ x. let_value kind x front st) Never

abbrev pub tag_row : Place → Statements → Stack → State
tag_row at front st =
    OnName (λ x. OnMark sign.Equals (λ _. OnWord word.New (λ _. OnWord word.Tag (λ _. OnMark sign.OpenParen (λ _.
    OnName (λ kind. OnMark sign.CloseParen (λ _. OnMark sign.Semicolon (λ _. Stats (Then front (NewTag at x kind)) st) Never) Never) Never) Never) Never) Never) Never) Never

-- behind a `new` that is a statement
abbrev pub made_row : Place → Statements → Stack → State
made_row at front st = OnName (λ x. OnMark sign.OpenParen (λ _. args_row (λ args. tweaks_row at x args (InMade front st)) (InMade front st)) Never) Never

abbrev pub test_row : (Expression → State) → Stack → State
test_row next st = OnMark sign.OpenParen (λ _. Want (Inside Paren next st)) Never

abbrev pub braces_row : (Statements → State) → Stack → State
braces_row next st = OnMark sign.OpenBrace (λ _. Stats Nothing (InBlock next st)) Never

abbrev pub else_row : Place → Expression → Statements → Statements → Stack → State
else_row at test body front st = OnWord word.Else (λ _. braces_row (λ other. Stats (Then front (IfElse at test body other)) st) st) (Stats (Then front (If at test body)) st)

abbrev pub return_row : Place → Statements → Stack → State
return_row at front st = OnMark sign.Semicolon (λ _. Stats (Then front (Return at)) st) (Want (Inside Semicolon (λ e. Stats (Then front (ReturnValue at e)) st) st))

abbrev pub print_ends : Place → Statements → Stack → Sequence PrintItem → State
print_ends at front st items = OnMark sign.Semicolon (λ _. Stats (Then front (Print at items)) st) Never

abbrev pub print_behind : Sequence PrintItem → (Sequence PrintItem → State) → Stack → State
print_behind items next st = OnMark sign.CloseParen (λ _. next items) (OnMark sign.Comma (λ _. Printing items next st) Never)

abbrev pub exit_ends : Place → Statements → Stack → Sequence Change → State
exit_ends at front st changes = OnMark sign.Semicolon (λ _. Stats (Then front (Exit at changes)) st) Never

abbrev pub exit_row : Place → Statements → Stack → State
exit_row at front st = OnMark sign.OpenParen (λ _. OnMark sign.CloseParen (λ _. exit_ends at front st Empty) (Changing Empty (exit_ends at front st))) Never

-- behind the flag of an action
abbrev pub truth_row : Named → (ActionText → State) → State
truth_row x next = OnMark sign.Becomes (λ _. OnWord word.True (λ _. next (action.Flag x true)) (OnWord word.False (λ _. next (action.Flag x false)) Never)) Never

abbrev pub tweak_behind : Sequence ActionText → (Sequence ActionText → State) → State
tweak_behind tweaks next = OnMark sign.CloseBrace (λ _. next tweaks) (OnMark sign.Comma (λ _. Tweaking tweaks next) Never)

abbrev pub act_behind : Sequence ActionText → (Sequence ActionText → State) → (Sequence ActionText → State) → State
act_behind actions more last = OnMark sign.CloseParen (λ _. last actions) (OnMark sign.Semicolon (λ _. more actions) (OnMark sign.Comma (λ _. Acting actions more last) Never))

abbrev pub formal_row : TypeText → Sequence Formal → (Sequence Formal → State) → State
formal_row kind formals next =
    OnName (λ x. OnMark sign.CloseParen (λ _. next (More formals (record { kind = kind; name = x }))) (OnMark sign.Comma (λ _. Declaring (More formals (record { kind = kind; name = x })) next) Never)) Never

abbrev pub body_row : (Statements → State) → State
body_row next = OnMark sign.OpenBrace (λ _. Stats Nothing (Body next)) Never

-- behind the `(` of a method or a constructor
abbrev pub code_row : (Sequence Formal → Statements → State) → State
code_row next = OnMark sign.CloseParen (λ _. body_row (next Empty)) (Declaring Empty (λ formals. body_row (next formals)))

abbrev pub bind_behind : Sequence Bind → (Sequence Bind → State) → (Sequence Bind → State) → State
bind_behind binds more last = OnMark sign.CloseParen (λ _. last binds) (OnMark sign.Comma (λ _. more binds) (OnWord word.And (λ _. Binding binds more last) Never))

-- behind the class of a parameter
abbrev pub param_row : Named → Sequence Param → (Sequence Param → State) → State
param_row kind params next =
    OnName (λ x. OnWord word.In (λ _. WantFlag (Guarded
    (λ g. Binding Empty (λ binds. Parameters (More params (ParamOf kind x g binds)) next) (λ binds. next (More params (ParamOf kind x g binds))))
    (λ g. Parameters (More params (ParamOf kind x g Empty)) next)
    (λ g. next (More params (ParamOf kind x g Empty))))) Never) Never

-- behind the type of a member
abbrev pub member_row : TypeText → Sequence Member → (Sequence Member → State) → State
member_row kind members next =
    OnName (λ x. OnMark sign.Semicolon (λ _. Members (More members (FieldMember (record { kind = kind; name = x }))) next)
    (OnMark sign.OpenParen (λ _. code_row (λ formals body. Members (More members (MethodMember (MethodOf (Some kind) x formals body))) next)) Never)) Never

-- behind a name that begins a member
abbrev pub maker_row : Named → Sequence Member → (Sequence Member → State) → State
maker_row x members next =
    OnMark sign.OpenParen (λ _. code_row (λ formals body. Members (More members (MakerMember (MethodOf None x formals body))) next))
    (brackets (base.Class x.name) x.at (λ kind. member_row kind members next))

-- behind `void`
abbrev pub void_row : Sequence Member → (Sequence Member → State) → State
void_row members next = OnName (λ x. OnMark sign.OpenParen (λ _. code_row (λ formals body. Members (More members (MethodMember (MethodOf None x formals body))) next)) Never) Never

abbrev pub flag_row : Sequence Member → (Sequence Member → State) → State
flag_row members next = OnName (λ x. OnMark sign.Semicolon (λ _. Members (More members (FlagMember x)) next) Never) Never

abbrev pub tag_type_row : Sequence Item → State
tag_type_row items = OnName (λ x. OnMark sign.Semicolon (λ _. Items (More items (TagTypeItem x))) Never) Never

abbrev pub class_row : Sequence Item → State
class_row items = OnName (λ x. OnMark sign.OpenBrace (λ _. Members Empty (λ members. Items (More items (ClassItem x members)))) Never) Never

abbrev pub task_row : Place → Sequence Item → State
task_row at items = OnName (λ x. OnMark sign.OpenParen (λ _. Parameters Empty (λ params. body_row (λ body. Items (More items (TaskItem at x params body))))) Never) Never

-- expressions

abbrev pub want : Lexeme → Place → Stack → Step
want (Number n) at st = On (Got (Int at n) st)
want (Keyword word.True) at st = On (Got (Truth at true) st)
want (Keyword word.False) at st = On (Got (Truth at false) st)
want (Keyword word.Null) at st = On (Got (Null at) st)
want (Keyword word.This) at st = On (Got (This at) st)
want (Keyword word.New) at st = Deep (new_row at st) (levels st + 1)
want (Name n) at st = On (Got (Var (record { name = n; at = at })) st)
want (Mark sign.OpenParen) at st = Deep (Want (Inside Paren (λ e. Got (Group at e) st) st)) (levels st + 1)
want (Mark sign.Minus) at st = Deep (Want (InNeg at st)) (levels st + 1)
want (Mark sign.Bang) at st = Deep (Want (InNot at st)) (levels st + 1)
want _ at st = No

-- how loose the expressions are that the token ends
abbrev pub reach : Lexeme → ℕ
reach (Mark sign.Star) = 2
reach (Mark sign.Slash) = 2
reach (Mark sign.Percent) = 2
reach (Mark sign.Plus) = 3
reach (Mark sign.Minus) = 3
reach (Mark sign.Less) = 4
reach (Mark sign.LessEq) = 4
reach (Mark sign.More) = 4
reach (Mark sign.MoreEq) = 4
reach (Mark sign.Same) = 5
reach (Mark sign.Differ) = 5
reach (Mark sign.Both) = 6
reach (Mark sign.Either) = 7
reach _ = 8

abbrev pub infix_step : Place → Op → Expression → Stack → Step
infix_step at op e st = Deep (Want (InTwo at op e st)) (height e + levels st + 1)

-- a token behind the expression that ended
abbrev pub outer : Lexeme → Expression → Stack → Step
outer (Mark sign.CloseParen) e (Inside Paren next st) = On (next e)
outer (Mark sign.CloseBracket) e (Inside Bracket next st) = On (next e)
outer (Mark sign.Semicolon) e (Inside Semicolon next st) = On (next e)
outer (Mark sign.Comma) e (InArgs args next st) = On (Want (InArgs (Arg args e) next st))
outer (Mark sign.CloseParen) e (InArgs args next st) = On (next (Arg args e))
outer (Mark sign.Comma) e (InPrint items next st) = On (Printing (More items (ValueItem e)) next st)
outer (Mark sign.CloseParen) e (InPrint items next st) = On (next (More items (ValueItem e)))
outer _ _ _ = No

abbrev pub push : Lexeme → Place → Expression → Stack → Step
push (Mark sign.Star) at e st = infix_step at op.Mul e st
push (Mark sign.Slash) at e st = infix_step at op.Div e st
push (Mark sign.Percent) at e st = infix_step at op.Rem e st
push (Mark sign.Plus) at e st = infix_step at op.Add e st
push (Mark sign.Minus) at e st = infix_step at op.Sub e st
push (Mark sign.Less) at e st = infix_step at op.Less e st
push (Mark sign.LessEq) at e st = infix_step at op.LessEq e st
push (Mark sign.More) at e st = infix_step at op.More e st
push (Mark sign.MoreEq) at e st = infix_step at op.MoreEq e st
push (Mark sign.Same) at e st = infix_step at op.Same e st
push (Mark sign.Differ) at e st = infix_step at op.Differ e st
push (Mark sign.Both) at e st = infix_step at op.And e st
push (Mark sign.Either) at e st = infix_step at op.Or e st
push k at e st = outer k e st

abbrev pub assign_value : Expression → Statements → Stack → State
assign_value target front st = Want (Inside Semicolon (λ e. Stats (Then front (Assign target e)) st) st)

abbrev pub assign : Expression → Statements → Stack → Step
assign (Var x) front st = On (assign_value (Var x) front st)
assign (Field at a x) front st = On (assign_value (Field at a x) front st)
assign (Elem at a i) front st = On (assign_value (Elem at a i) front st)
assign _ front st = No

abbrev pub call_ends : Expression → Statements → Stack → Step
call_ends (Call at a x args) front st = On (Stats (Then front (Do (Call at a x args))) st)
call_ends _ front st = No

abbrev pub declare : Named → Expression → Statements → Stack → Step
declare x (Var kind) front st = On (let_value (one_type (base.Class kind.name) kind.at) x front st)
declare x _ front st = No

-- a token behind the chain that begins a statement
abbrev pub chain_ends : Lexeme → Place → Expression → Statements → Stack → Step
chain_ends (Mark sign.Equals) at e front st = assign e front st
chain_ends (Mark sign.Semicolon) at e front st = call_ends e front st
chain_ends (Name n) at e front st = declare (record { name = n; at = at }) e front st
chain_ends _ at e front st = No

abbrev pub made_ends : Lexeme → Expression → Statements → Stack → Step
made_ends (Mark sign.Semicolon) e front st = On (Stats (Then front (MakeDo e)) st)
made_ends _ e front st = No

-- ends what the token ends, and goes on there
abbrev pub settle : Lexeme → Place → Expression → Stack → Step
settle k at e (InNeg m st) = settle k at (Neg m e) st
settle k at e (InNot m st) = settle k at (Not m e) st
settle k at e (InTwo m op a st) = if nat_le (looseness op) (reach k) then settle k at (Two m op a e) st else push k at e (InTwo m op a st)
settle k at e (InChain front st) = chain_ends k at e front st
settle k at e (InMade front st) = made_ends k e front st
settle k at e st = push k at e st

abbrev pub open_call : Expression → Stack → Step
open_call (Field dot a x) st = On (args_row (λ args. Got (Call dot a x args) st) st)
open_call e st = No

abbrev pub elem_value : Place → Expression → Stack → State
elem_value at e st = Want (Inside Bracket (λ i. Got (Elem at e i) st) st)

-- a type or an element, where they begin a statement
abbrev pub bracket : Place → Expression → Stack → Step
bracket at (Var kind) (InChain front st) = On (Bracketed at kind front st)
bracket at e st = Deep (elem_value at e st) (height e + levels st + 1)

-- a token behind a primary with links
abbrev pub link : Lexeme → Place → Expression → Stack → Step
link (Mark sign.Dot) at e st = Deep (Dotted at e st) (height e + levels st + 1)
link (Mark sign.OpenBracket) at e st = bracket at e st
link (Mark sign.OpenParen) at e st = open_call e st
link k at e st = settle k at e st

abbrev pub not_link : Lexeme → Place → Expression → Stack → Step
not_link (Mark sign.Dot) at e st = No
not_link (Mark sign.OpenBracket) at e st = No
not_link (Mark sign.OpenParen) at e st = No
not_link k at e st = settle k at e st

-- a length can't end the chain that begins a statement
abbrev pub length_step : Place → Expression → Stack → Step
length_step at e (InChain front st) = Deep (Got (Length at e) (InChain front st)) (height e + levels st + 3)
length_step at e st = On (Got (Length at e) st)

abbrev pub dotted : Lexeme → Place → Place → Expression → Stack → Step
dotted (Name n) here at e st = On (Got (Field at e (record { name = n; at = here })) st)
dotted (Keyword word.Length) here at e st = length_step at e st
dotted _ here at e st = No

abbrev pub bracketed : Lexeme → Place → Place → Named → Statements → Stack → Step
bracketed (Mark sign.CloseBracket) here at kind front st = On (let_row (many_type (base.Class kind.name) kind.at) front st)
bracketed k here at kind front st = raise (levels st + 2) (want k here (Inside Bracket (λ i. Got (Elem at (Var kind) i) (InChain front st)) (InChain front st)))

-- statements

abbrev pub close_brace : Statements → Stack → Step
close_brace ps (Body next) = On (next ps)
close_brace ps (InBlock next st) = On (next ps)
close_brace ps st = No

abbrev pub stat : Lexeme → Place → Statements → Stack → Step
stat (Name n) at ps st = Deep (Got (Var (record { name = n; at = at })) (InChain ps st)) (levels st + 1)
stat (Keyword word.This) at ps st = Deep (Got (This at) (InChain ps st)) (levels st + 2)
stat (Keyword word.Int) at ps st = Deep (brackets base.Int at (λ kind. let_row kind ps st)) (levels st + 1)
stat (Keyword word.Bool) at ps st = Deep (brackets base.Bool at (λ kind. let_row kind ps st)) (levels st + 1)
stat (Keyword word.Tag) at ps st = Deep (tag_row at ps st) (levels st + 1)
stat (Keyword word.New) at ps st = Deep (made_row at ps st) (levels st + 2)
stat (Keyword word.If) at ps st = Deep (test_row (λ test. braces_row (λ body. else_row at test body ps st) st) st) (levels st + 1)
stat (Keyword word.While) at ps st = Deep (test_row (λ test. braces_row (λ body. Stats (Then ps (While at test body)) st) st) st) (levels st + 1)
stat (Keyword word.Return) at ps st = Deep (return_row at ps st) (levels st + 1)
stat (Keyword word.Print) at ps st = Deep (OnMark sign.OpenParen (λ _. Printing Empty (print_ends at ps st) st) Never) (levels st + 1)
stat (Keyword word.Assert) at ps st = Deep (test_row (λ e. OnMark sign.Semicolon (λ _. Stats (Then ps (Assert at e)) st) Never) st) (levels st + 1)
stat (Keyword word.TaskExit) at ps st = Deep (exit_row at ps st) (levels st + 1)
stat (Mark sign.OpenBrace) at ps st = Deep (Stats Nothing (InBlock (λ body. Stats (Then ps (Block at body)) st) st)) (levels st + 1)
stat (Mark sign.CloseBrace) at ps st = close_brace ps st
stat _ at ps st = No

-- lists

abbrev pub printing : Lexeme → Place → Sequence PrintItem → (Sequence PrintItem → State) → Stack → Step
printing (Text meaning) at items next st = On (print_behind (More items (TextItem meaning)) next st)
printing k at items next st = want k at (InPrint items next st)

abbrev pub tweaking : Lexeme → Place → Sequence ActionText → (Sequence ActionText → State) → Step
tweaking (Name n) at tweaks next = On (truth_row (record { name = n; at = at }) (λ a. tweak_behind (More tweaks a) next))
tweaking (Keyword word.Add) at tweaks next = On (OnName (λ x. tweak_behind (More tweaks (action.Add at x)) next) Never)
tweaking _ at tweaks next = No

abbrev pub acting : Lexeme → Place → Sequence ActionText → (Sequence ActionText → State) → (Sequence ActionText → State) → Step
acting (Name n) at actions more last = On (truth_row (record { name = n; at = at }) (λ a. act_behind (More actions a) more last))
acting (Keyword word.Add) at actions more last = On (OnName (λ x. act_behind (More actions (action.Add at x)) more last) Never)
acting (Keyword word.Clear) at actions more last = On (OnName (λ x. act_behind (More actions (action.Clear at x)) more last) Never)
acting _ at actions more last = No

abbrev pub change_row : Named → Sequence Change → (Sequence Change → State) → State
change_row x changes next = OnMark sign.Colon (λ _. Acting Empty (λ actions. Changing (More changes (ChangeOf x actions)) next) (λ actions. next (More changes (ChangeOf x actions)))) Never

abbrev pub changing : Lexeme → Place → Sequence Change → (Sequence Change → State) → Step
changing (Name n) at changes next = On (change_row (record { name = n; at = at }) changes next)
changing _ at changes next = No

abbrev pub declaring : Lexeme → Place → Sequence Formal → (Sequence Formal → State) → Step
declaring (Name n) at formals next = On (brackets (base.Class n) at (λ kind. formal_row kind formals next))
declaring (Keyword word.Int) at formals next = On (brackets base.Int at (λ kind. formal_row kind formals next))
declaring (Keyword word.Bool) at formals next = On (brackets base.Bool at (λ kind. formal_row kind formals next))
declaring _ at formals next = No

abbrev pub parameters : Lexeme → Place → Sequence Param → (Sequence Param → State) → Step
parameters (Name n) at params next = On (param_row (record { name = n; at = at }) params next)
parameters _ at params next = No

abbrev pub binding : Lexeme → Place → Sequence Bind → (Sequence Bind → State) → (Sequence Bind → State) → Step
binding (Name n) at binds more last = On (OnName (λ x. bind_behind (More binds (record { tag_type = record { name = n; at = at }; variable = x })) more last) Never)
binding _ at binds more last = No

abbrev pub member : Lexeme → Place → Sequence Member → (Sequence Member → State) → Step
member (Mark sign.CloseBrace) at members next = On (next members)
member (Keyword word.Flag) at members next = On (flag_row members next)
member (Keyword word.Void) at members next = On (void_row members next)
member (Keyword word.Int) at members next = On (brackets base.Int at (λ kind. member_row kind members next))
member (Keyword word.Bool) at members next = On (brackets base.Bool at (λ kind. member_row kind members next))
member (Name n) at members next = On (maker_row (record { name = n; at = at }) members next)
member _ at members next = No

abbrev pub item : Lexeme → Place → Sequence Item → Step
item (Keyword word.TagType) at items = On (tag_type_row items)
item (Keyword word.Class) at items = On (class_row items)
item (Keyword word.Task) at items = On (task_row at items)
item End at items = On (Done items)
item _ at items = No

-- guards

abbrev pub want_flag : Lexeme → Place → Stack → Step
want_flag (Name n) at st = On (AfterFlag (FlagIs (record { name = n; at = at })) st)
want_flag (Keyword word.True) at st = On (AfterFlag (FlagTruth true) st)
want_flag (Keyword word.False) at st = On (AfterFlag (FlagTruth false) st)
want_flag (Mark sign.Bang) at st = Deep (WantFlag (InFlagNot st)) (levels st + 1)
want_flag (Mark sign.OpenParen) at st = Deep (WantFlag (InFlagGroup st)) (levels st + 1)
want_flag _ at st = No

abbrev pub flag_reach : Lexeme → ℕ
flag_reach (Keyword word.And) = 2
flag_reach (Keyword word.Or) = 3
flag_reach _ = 4

abbrev pub outer_flag : Lexeme → Guard → Stack → Step
outer_flag (Mark sign.CloseParen) g (InFlagGroup st) = On (AfterFlag (FlagGroup g) st)
outer_flag (Keyword word.With) g (Guarded bound more last) = On (bound g)
outer_flag (Mark sign.Comma) g (Guarded bound more last) = On (more g)
outer_flag (Mark sign.CloseParen) g (Guarded bound more last) = On (last g)
outer_flag _ _ _ = No

abbrev pub push_flag : Lexeme → Guard → Stack → Step
push_flag (Keyword word.And) g st = Deep (WantFlag (InFlagTwo AndOp g st)) (guard_height g + levels st + 1)
push_flag (Keyword word.Or) g st = Deep (WantFlag (InFlagTwo OrOp g st)) (guard_height g + levels st + 1)
push_flag k g st = outer_flag k g st

abbrev pub settle_flag : Lexeme → Guard → Stack → Step
settle_flag k g (InFlagNot st) = settle_flag k (FlagNot g) st
settle_flag k g (InFlagTwo op h st) = if nat_le (guard_looseness op) (flag_reach k) then settle_flag k (FlagTwo op h g) st else push_flag k g (InFlagTwo op h st)
settle_flag k g st = push_flag k g st

abbrev pub same_mark : Sign → Lexeme → Bool
same_mark s (Mark t) = sameb sign_type.the_type s t
same_mark s _ = false

abbrev pub same_word : Word → Lexeme → Bool
same_word w (Keyword v) = sameb word_type.the_type w v
same_word w _ = false

abbrev pub on_name : Lexeme → Place → (Named → State) → Step → Step
on_name (Name n) at next other = On (next (record { name = n; at = at }))
on_name _ at next other = other

abbrev pub step : State → Seen → Step
step Never t = No
step (OnMark s next other) t = if same_mark s t.kind then On (next t.at) else step other t
step (OnWord w next other) t = if same_word w t.kind then On (next t.at) else step other t
step (OnName next other) t = on_name t.kind t.at next (step other t)
step (Want st) t = want t.kind t.at st
step (Got e st) t = link t.kind t.at e st
step (After e st) t = not_link t.kind t.at e st
step (Dotted at e st) t = dotted t.kind t.at at e st
step (Bracketed at kind front st) t = bracketed t.kind t.at at kind front st
step (Stats ps st) t = stat t.kind t.at ps st
step (Printing items next st) t = printing t.kind t.at items next st
step (Tweaking tweaks next) t = tweaking t.kind t.at tweaks next
step (Acting actions more last) t = acting t.kind t.at actions more last
step (Changing changes next) t = changing t.kind t.at changes next
step (Declaring formals next) t = declaring t.kind t.at formals next
step (Parameters params next) t = parameters t.kind t.at params next
step (Binding binds more last) t = binding t.kind t.at binds more last
step (WantFlag st) t = want_flag t.kind t.at st
step (AfterFlag g st) t = settle_flag t.kind g st
step (Members members next) t = member t.kind t.at members next
step (Items items) t = item t.kind t.at items
step (Done items) t = No

pub data Why : Type 0 where
  Unexpected : Why
  TooDeep : Why

-- how it ends: at a token that stands at a place, with a tree, or without a token left
pub data Outcome : Type 0 where
  Refused : (why : Why) (at : Place) → Outcome
  Accepted : (items : Sequence Item) → Outcome
  Cut : Outcome

abbrev pub finish : State → Outcome
finish (Done items) = Accepted items
finish _ = Cut

-- goes on where the token leads, within n levels
abbrev pub follow : ℕ → Place → (State → Outcome) → Step → Outcome
follow n at go No = Refused Unexpected at
follow n at go (On next) = go next
follow n at go (Deep next need) = if nat_le need n then go next else Refused TooDeep at

-- the tokens within n levels
abbrev pub run : ℕ → State → List Seen → Outcome
run n s [] = finish s
run n s (t ∷ ts) = follow n t.at (λ next. run n next ts) (step s t)

abbrev pub kind_at : List Seen → Lexeme
kind_at [] = End
kind_at (t ∷ ts) = t.kind

-- whether an expression as loose as q may stand as the next part of what is open
abbrev pub Room : ℕ → Stack → Type 0
Room q (InNeg at st) = q ≤ 1
Room q (InNot at st) = q ≤ 1
Room q (InTwo at op a st) = q < looseness op
Room q (Inside close next st) = Unit {0}
Room q (InArgs args next st) = Unit {0}
Room q (InPrint items next st) = Unit {0}
Room q (InMade front st) = q ≤ 1
Room q _ = q ≤ 0

-- the same of guards
abbrev pub FlagRoom : ℕ → Stack → Type 0
FlagRoom q (InFlagNot st) = q ≤ 1
FlagRoom q (InFlagTwo op g st) = q < guard_looseness op
FlagRoom q (InFlagGroup st) = Unit {0}
FlagRoom q (Guarded bound more last) = Unit {0}
FlagRoom q _ = ⊥

-- a field that a `(` follows is not yet the whole
abbrev pub NoCall : Lexeme → Expression → Type 0
NoCall (Mark sign.OpenParen) (Field at a x) = ⊥
NoCall _ _ = Unit {0}

-- a name before a `[` that begins a statement may be a type
abbrev pub Unbracketed : Lexeme → Expression → Stack → Type 0
Unbracketed (Mark sign.OpenBracket) (Var x) (InChain front st) = ⊥
Unbracketed _ _ _ = Unit {0}
