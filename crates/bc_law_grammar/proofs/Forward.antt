-- Over the tokens that spell a tree the machine goes on with that tree.
use Rattle.std.proofs.Common.{◌<◌, max, inl, inr, if◌then◌else◌, ◌≡◌, ◌⊎◌, ℕ, List, [], ◌∷◌, refl, ap, sym, subst, ◌∙◌, ◌+◌, ◌≤◌, arith, Bool, true, false, IsTrue}
use Rattle.std.proofs.lemmas.Bool.{cases_lt, lt-leb, le-leb}
use Rattle.std.specs.Prelude.{Some, None}
use Rattle.bc_data.specs.Seen.{Lexeme, Seen, Keyword, Name, Number, Text, Mark, End}
use Rattle.bc_data.specs.SourceTree.{Sequence, Empty, More, largest, Expression, Int, Truth, Null, This, Var, Group, Neg, Not, Two, Field, Length, Elem, Call, Make, Array, Expressions, NoArg, Arg, height, tallest, GuardOp, AndOp, OrOp, Guard, FlagIs, FlagTruth, FlagNot, FlagTwo, FlagGroup, guard_height, PrintItem, TextItem, ValueItem, item_height, Change, ChangeOf, Statement, Let, NewTag, Assign, Do, MakeDo, Block, If, IfElse, While, Return, ReturnValue, Print, Assert, Exit, Statements, Nothing, Then, depth, deepest}
use Rattle.bc_data.specs.Grammar.{token, name_token, truth, sign_of, looseness, loose, Fronts, Separated, Listed, SpellsAction, SpellsTweaks, base_lexeme, SpellsBrackets, SpellsType, Spells, SpellsArgs, SpellsFront, IsChain, IsTarget, IsCall, IsMade, SpellsPrintItem, SpellsChange, SpellsTest, SpellsStat, SpellsStats, guard_looseness, guard_word, guard_loose, SpellsGuard}
use Rattle.bc_data.specs.declared.run.Place.{Place}
use Rattle.bc_data.specs.declared.program.Op.{Op}
use Rattle.bc_data.specs.declared.program.Op.TheVariants as op
use Rattle.bc_data.specs.declared.token.Word.{Word}
use Rattle.bc_data.specs.declared.token.Sign.{Sign}
use Rattle.bc_data.specs.declared.token.Word.TheVariants as word
use Rattle.bc_data.specs.declared.token.Sign.TheVariants as sign
use Rattle.bc_data.specs.declared.tree.Named.{Named}
use Rattle.bc_data.specs.declared.tree.TypeText.{TypeText}
use Rattle.bc_data.specs.declared.tree.Base.{Base}
use Rattle.bc_data.specs.declared.tree.Base.TheVariants as base
use Rattle.bc_data.specs.declared.tree.ActionText.{ActionText}
use Rattle.bc_data.specs.declared.tree.ActionText.TheVariants as action
use Rattle.bc_law_grammar.specs.Machine.{Paren, Bracket, Semicolon, Stack, Body, Guarded, InNeg, InNot, InTwo, Inside, InArgs, InPrint, InChain, InMade, InBlock, InFlagNot, InFlagTwo, InFlagGroup, State, Never, OnMark, OnWord, OnName, Want, Got, After, Dotted, Bracketed, Stats, Printing, Tweaking, Acting, Changing, WantFlag, AfterFlag, Step, No, On, Deep, levels, raise, one_type, many_type, brackets, args_row, tweaks_row, array, new_row, let_value, let_row, tag_row, made_row, test_row, braces_row, else_row, return_row, print_ends, print_behind, exit_ends, exit_row, tweak_behind, act_behind, change_row, assign_value, elem_value, want, reach, link, not_link, bracketed, bracket, printing, flag_reach, Refused, Unexpected, TooDeep, Outcome, run, follow, step, kind_at, Room, FlagRoom, Unbracketed, same_mark}
use Rattle.bc_law_grammar.proofs.Steps.{on, deep, skip_mark, skip_word, end_neg, end_not, end_two, push_two, looseness_low, looseness_high, reach_sign, assign_target, end_call, end_flag_not, end_flag_two, push_flag_two}

abbrev pub had : Expression → Stack → State
had (Neg at e) st = After (Neg at e) st
had (Not at e) st = After (Not at e) st
had (Two at op a b) st = After (Two at op a b) st
had (Make at x args tweaks) st = After (Make at x args tweaks) st
had (Array at kind e) st = After (Array at kind e) st
had e st = Got e st

-- neither a link nor the braces of a `new`
abbrev pub NotLink : Lexeme → Type 0
NotLink (Mark sign.Dot) = ⊥
NotLink (Mark sign.OpenBracket) = ⊥
NotLink (Mark sign.OpenParen) = ⊥
NotLink (Mark sign.OpenBrace) = ⊥
NotLink _ = Unit {0}

-- what an expression begins with
abbrev pub IsOperand : Lexeme → Type 0
IsOperand (Number n) = Unit {0}
IsOperand (Keyword word.True) = Unit {0}
IsOperand (Keyword word.False) = Unit {0}
IsOperand (Keyword word.Null) = Unit {0}
IsOperand (Keyword word.This) = Unit {0}
IsOperand (Keyword word.New) = Unit {0}
IsOperand (Name n) = Unit {0}
IsOperand (Mark sign.OpenParen) = Unit {0}
IsOperand (Mark sign.Minus) = Unit {0}
IsOperand (Mark sign.Bang) = Unit {0}
IsOperand _ = ⊥

abbrev pub NotBracketEnd : Lexeme → Type 0
NotBracketEnd (Mark sign.CloseBracket) = ⊥
NotBracketEnd _ = Unit {0}

-- the token behind a tree as loose as q doesn't become a part of it
abbrev pub Ends : ℕ → List Seen → Type 0
Ends q ts = 1 ≤ q → NotLink (kind_at ts) × (q ≤ reach (kind_at ts))

-- `this` and lengths can't end the chain that begins a statement
abbrev pub chain_extra : Expression → ℕ
chain_extra (This at) = 1
chain_extra (Length at a) = 1
chain_extra _ = 0

abbrev pub extra : Stack → Expression → ℕ
extra (InChain front st) e = chain_extra e
extra _ e = 0

pub chain_extra_low : (e : Expression) → chain_extra e ≤ 1
chain_extra_low (This at) = omega arith
chain_extra_low (Length at a) = omega arith
chain_extra_low _ = omega arith

pub extra_low : (st : Stack) (e : Expression) → extra st e ≤ 1
extra_low (InChain front st) e = chain_extra_low e
extra_low _ e = omega arith

link-not_link : (k : Lexeme) (at : Place) (e : Expression) (st : Stack) → NotLink k → link k at e st ≡ not_link k at e st
link-not_link (Mark sign.Dot) at e st h = absurd h
link-not_link (Mark sign.OpenBracket) at e st h = absurd h
link-not_link (Mark sign.OpenParen) at e st h = absurd h
link-not_link k at e st h = refl

pub got_after : (n : ℕ) (e : Expression) (st : Stack) (ts : List Seen) → NotLink (kind_at ts) → run n (Got e st) ts ≡ run n (After e st) ts
got_after n e st [] h = refl
got_after n e st (t ∷ ts) h = ap (follow n t.at (λ s. run n s ts)) (link-not_link t.kind t.at e st h)

pub had_after : (n : ℕ) (e : Expression) (st : Stack) (ts : List Seen) → NotLink (kind_at ts) → run n (had e st) ts ≡ run n (After e st) ts
had_after n (Neg at e) st ts h = refl
had_after n (Not at e) st ts h = refl
had_after n (Two at op a b) st ts h = refl
had_after n (Make at x args tweaks) st ts h = refl
had_after n (Array at kind e) st ts h = refl
had_after n e st ts h = got_after n e st ts h

tight_had : (e : Expression) (st : Stack) → loose e ≡ 0 → had e st ≡ Got e st
tight_had (Neg at e) st h = absurd (omega arith)
tight_had (Not at e) st h = absurd (omega arith)
tight_had (Make at x args tweaks) st h = absurd (omega arith)
tight_had (Array at kind e) st h = absurd (omega arith)
tight_had (Two at op a b) st h = absurd (omega (arith, looseness_low op))
tight_had e st h = refl

pub loose_high : (e : Expression) → loose e ≤ 7
loose_high (Two at op a b) = looseness_high op
loose_high (Neg at e) = omega arith
loose_high (Not at e) = omega arith
loose_high (Make at x args tweaks) = omega arith
loose_high (Array at kind e) = omega arith
loose_high _ = omega arith

pub tight_room : (st : Stack) → Room 0 st
tight_room (InNeg m st) = omega arith
tight_room (InNot m st) = omega arith
tight_room (InTwo m op a st) = omega (arith, looseness_low op)
tight_room (Inside close next st) = tt
tight_room (InArgs args next st) = tt
tight_room (InPrint items next st) = tt
tight_room (InMade front st) = omega arith
tight_room _ = omega arith

-- what is tighter has room where the looser has
pub room_down : (p q : ℕ) (st : Stack) → p ≤ q → Room q st → Room p st
room_down p q (InNeg m st) le room = omega arith
room_down p q (InNot m st) le room = omega arith
room_down p q (InTwo m op a st) le room = omega arith
room_down p q (Inside close next st) le room = tt
room_down p q (InArgs args next st) le room = tt
room_down p q (InPrint items next st) le room = tt
room_down p q (InMade front st) le room = omega arith
room_down p q _ le room = omega arith

pub flag_room_down : (p q : ℕ) (st : Stack) → p ≤ q → FlagRoom q st → FlagRoom p st
flag_room_down p q (InFlagNot st) le room = omega arith
flag_room_down p q (InFlagTwo op g st) le room = omega arith
flag_room_down p q (InFlagGroup st) le room = tt
flag_room_down p q (Guarded bound more last) le room = tt
flag_room_down p q _ le room = room

begins : (k : Lexeme) (at : Place) (ts rest : List Seen) → IsOperand k → ts ≡ token k at ∷ rest → IsOperand (kind_at ts)
begins k at ts rest op h = subst (λ ts. IsOperand (kind_at ts)) (sym h) op

pub starts : (e : Expression) (ts rest : List Seen) → Spells e ts rest → IsOperand (kind_at ts)
starts (Int at n) ts rest h = begins (Number n) at ts rest tt h
starts (Truth at true) ts rest h = begins (Keyword word.True) at ts rest tt h
starts (Truth at false) ts rest h = begins (Keyword word.False) at ts rest tt h
starts (Null at) ts rest h = begins (Keyword word.Null) at ts rest tt h
starts (This at) ts rest h = begins (Keyword word.This) at ts rest tt h
starts (Var x) ts rest h = begins (Name x.name) x.at ts rest tt h
starts (Group at e) ts rest h = begins (Mark sign.OpenParen) at ts h.0 tt h.2
starts (Neg at e) ts rest h = begins (Mark sign.Minus) at ts h.0 tt h.1
starts (Not at e) ts rest h = begins (Mark sign.Bang) at ts h.0 tt h.1
starts (Two at op a b) ts rest h = starts a ts (token (Mark (sign_of op)) at ∷ h.0) h.3
starts (Field at a x) ts rest h = starts a ts (token (Mark sign.Dot) at ∷ name_token x ∷ rest) h.1
starts (Length at a) ts rest h = starts a ts (token (Mark sign.Dot) at ∷ token (Keyword word.Length) h.0 ∷ rest) h.2
starts (Elem at a i) ts rest h = starts a ts (token (Mark sign.OpenBracket) at ∷ h.0) h.3
starts (Call at a x args) ts rest h = starts a ts (token (Mark sign.Dot) at ∷ name_token x ∷ token (Mark sign.OpenParen) h.1 ∷ h.0) h.4
starts (Make at x args tweaks) ts rest h = begins (Keyword word.New) at ts (name_token x ∷ token (Mark sign.OpenParen) h.2 ∷ h.0) tt h.4
starts (Array at kind e) ts rest h = begins (Keyword word.New) at ts (token (base_lexeme kind.base) kind.at ∷ token (Mark sign.OpenBracket) h.1 ∷ h.0) tt h.4

starts_front : (front : Expressions) (e : Expression) (ts mid rest : List Seen) → SpellsFront front ts mid → Spells e mid rest → IsOperand (kind_at ts)
starts_front NoArg e ts mid rest f h = subst (λ ts. IsOperand (kind_at ts)) (sym f) (starts e mid rest h)
starts_front (Arg front d) e ts mid rest f h = starts_front front d ts f.0 (token (Mark sign.Comma) f.1 ∷ mid) f.2 f.3

pub operand_not_paren : (k : Lexeme) → IsOperand k → same_mark sign.CloseParen k ≡ false
operand_not_paren (Number n) h = refl
operand_not_paren (Keyword w) h = refl
operand_not_paren (Name n) h = refl
operand_not_paren (Mark sign.OpenParen) h = refl
operand_not_paren (Mark sign.Minus) h = refl
operand_not_paren (Mark sign.Bang) h = refl
operand_not_paren _ h = absurd h

pub operand_not_semicolon : (k : Lexeme) → IsOperand k → same_mark sign.Semicolon k ≡ false
operand_not_semicolon (Number n) h = refl
operand_not_semicolon (Keyword w) h = refl
operand_not_semicolon (Name n) h = refl
operand_not_semicolon (Mark sign.OpenParen) h = refl
operand_not_semicolon (Mark sign.Minus) h = refl
operand_not_semicolon (Mark sign.Bang) h = refl
operand_not_semicolon _ h = absurd h

pub operand_no_end : (k : Lexeme) → IsOperand k → NotBracketEnd k
operand_no_end (Mark sign.CloseBracket) h = h
operand_no_end _ h = tt

pub printing-want : (k : Lexeme) (at : Place) (items : Sequence PrintItem) (next : Sequence PrintItem → State) (st : Stack) → IsOperand k → printing k at items next st ≡ want k at (InPrint items next st)
printing-want (Text meaning) at items next st h = absurd h
printing-want k at items next st h = refl

not_brace : (k : Lexeme) → NotLink k → same_mark sign.OpenBrace k ≡ false
not_brace (Mark sign.OpenBrace) h = absurd h
not_brace (Mark s) h = refl
not_brace k h = refl

raise-follow : (n m : ℕ) (at : Place) (f : State → Outcome) (x : Step) → m ≤ n → follow n at f (raise m x) ≡ follow n at f x
raise-follow n m at f No h = refl
raise-follow n m at f (On s) h = ap (λ v. if v then f s else Refused TooDeep at) (le-leb m n h)
raise-follow n m at f (Deep s need) h =
    ap (λ v. if v then f s else Refused TooDeep at)
    (elim (cases_lt n need) [
      | inl lt ↦ lt-leb (max m need) n (omega arith) ∙ sym (lt-leb need n lt)
      | inr ge ↦ le-leb (max m need) n (omega arith) ∙ sym (le-leb need n ge)
    ])

bracketed-want : (k : Lexeme) (here at : Place) (kind : Named) (front : Statements) (st : Stack) → NotBracketEnd k → bracketed k here at kind front st ≡ raise (levels st + 2) (want k here (Inside Bracket (λ i. Got (Elem at (Var kind) i) (InChain front st)) (InChain front st)))
bracketed-want (Mark sign.CloseBracket) here at kind front st h = absurd h
bracketed-want k here at kind front st h = refl

pub bracket_want : (n : ℕ) (at : Place) (kind : Named) (front : Statements) (st : Stack) (ts : List Seen) → levels st + 2 ≤ n → NotBracketEnd (kind_at ts) → run n (Bracketed at kind front st) ts ≡ run n (elem_value at (Var kind) (InChain front st)) ts
bracket_want n at kind front st [] low h = refl
bracket_want n at kind front st (t ∷ ts) low h =
    ap (follow n t.at (λ s. run n s ts)) (bracketed-want t.kind t.at at kind front st h)
    ∙ raise-follow n (levels st + 2) t.at (λ s. run n s ts) (want t.kind t.at (Inside Bracket (λ i. Got (Elem at (Var kind) i) (InChain front st)) (InChain front st))) low

pub bracket_plain : (at : Place) (e : Expression) (st : Stack) → Unbracketed (Mark sign.OpenBracket) e st → bracket at e st ≡ Deep (elem_value at e st) (height e + levels st + 1)
bracket_plain at (Var x) (InChain front st) h = absurd h
bracket_plain at e st h = refl

-- where an operand may come, no name before a `[` is a type
pub operand_unbracketed : (k : Lexeme) (e : Expression) (st : Stack) → Room 1 st → Unbracketed k e st
operand_unbracketed (Mark sign.OpenBracket) (Var x) (InChain front st) room = absurd (omega arith)
operand_unbracketed k e st room = tt

elem_opens : (n : ℕ) (at : Place) (a : Expression) (st : Stack) (ts : List Seen) → height a + levels st + 1 ≤ n → IsOperand (kind_at ts) → run n (Got a st) (token (Mark sign.OpenBracket) at ∷ ts) ≡ run n (elem_value at a st) ts
elem_opens n at (Var kind) (InChain front st) ts low h = bracket_want n at kind front st ts (omega arith) (operand_no_end (kind_at ts) h)
elem_opens n at a st ts low h = deep n (Got a st) (elem_value at a st) (height a + levels st + 1) (token (Mark sign.OpenBracket) at) ts refl low

-- what closes a place ends every expression
pub closer_ends : (e : Expression) (k : Lexeme) (at : Place) (rest : List Seen) → NotLink k → reach k ≡ 8 → Ends (loose e) (token k at ∷ rest)
closer_ends e k at rest l r = λ _. (l, omega (arith, loose_high e))

sign-not_link : (op : Op) → NotLink (Mark (sign_of op))
sign-not_link op.Or = tt
sign-not_link op.And = tt
sign-not_link op.Same = tt
sign-not_link op.Differ = tt
sign-not_link op.Less = tt
sign-not_link op.LessEq = tt
sign-not_link op.More = tt
sign-not_link op.MoreEq = tt
sign-not_link op.Add = tt
sign-not_link op.Sub = tt
sign-not_link op.Mul = tt
sign-not_link op.Div = tt
sign-not_link op.Rem = tt

sign_ends : (e : Expression) (op : Op) (at : Place) (rest : List Seen) → loose e ≤ looseness op → Ends (loose e) (token (Mark (sign_of op)) at ∷ rest)
sign_ends e op at rest h = λ _. (sign-not_link op, omega (arith, reach_sign op))

ends_down : (p q : ℕ) (ts : List Seen) → p ≤ q → Ends q ts → Ends p ts
ends_down p q ts le h = λ pos. let e = h (omega arith) in (e.0, omega (arith, e.1))

ends_zero : (e : Expression) (ts : List Seen) → loose e ≡ 0 → Ends (loose e) ts
ends_zero e ts z = λ pos. absurd (omega arith)

room_zero : (e : Expression) (st : Stack) → loose e ≡ 0 → Room (loose e) st
room_zero e st z = subst (λ q. Room q st) (sym z) (tight_room st)

abbrev kind_of : Base → Place → Bool → TypeText
kind_of b at m = record { base = b; many = m; at = at }

same_kind : (kind : TypeText) → kind.many ≡ false → one_type kind.base kind.at ≡ kind
same_kind kind e = ap (kind_of kind.base kind.at) (sym e)

array_opens : (n : ℕ) (b : Base) (at here open_at : Place) (st : Stack) (ts : List Seen) → run n (new_row at st) (token (base_lexeme b) here ∷ token (Mark sign.OpenBracket) open_at ∷ ts) ≡ run n (array at (one_type b here) st) ts
array_opens n base.Int at here open_at st ts = refl
array_opens n base.Bool at here open_at st ts = refl
array_opens n (base.Class c) at here open_at st ts = refl

pub never : IsTrue false → ⊥
never h = cc

-- the braces of a `new`
action_read : (n : ℕ) (a : ActionText) (tweaks : Sequence ActionText) (next : Sequence ActionText → State) (ts rest : List Seen) → SpellsAction false a ts rest → run n (Tweaking tweaks next) ts ≡ run n (tweak_behind (More tweaks a) next) rest
action_read n (action.Flag x true) tweaks next ts rest h = ap (λ ts. run n (Tweaking tweaks next) ts) h.2
action_read n (action.Flag x false) tweaks next ts rest h = ap (λ ts. run n (Tweaking tweaks next) ts) h.2
action_read n (action.Add at x) tweaks next ts rest h = ap (λ ts. run n (Tweaking tweaks next) ts) h
action_read n (action.Clear at x) tweaks next ts rest h = absurd (never h.0)

tweaks_read : (front : Sequence ActionText) (n : ℕ) (next : Sequence ActionText → State) (ts rest : List Seen) → Fronts (SpellsAction false) (Mark sign.Comma) front ts rest → run n (Tweaking Empty next) ts ≡ run n (Tweaking front next) rest
tweaks_read Empty n next ts rest h = ap (λ ts. run n (Tweaking Empty next) ts) h
tweaks_read (More front a) n next ts rest h =
    tweaks_read front n next ts h.0 h.2
    ∙ action_read n a front next h.0 (token (Mark sign.Comma) h.1 ∷ rest) h.3

-- a `}` begins no action
not_end : (n : ℕ) (a : ActionText) (next : Place → State) (other : State) (ts rest : List Seen) → SpellsAction false a ts rest → run n (OnMark sign.CloseBrace next other) ts ≡ run n other ts
not_end n (action.Flag x b) next other ts rest h = rw h.2 refl
not_end n (action.Add at x) next other ts rest h = rw h refl
not_end n (action.Clear at x) next other ts rest h = absurd (never h.0)

not_end_front : (front : Sequence ActionText) (a : ActionText) (n : ℕ) (next : Place → State) (other : State) (ts mid rest : List Seen) → Fronts (SpellsAction false) (Mark sign.Comma) front ts mid → SpellsAction false a mid rest → run n (OnMark sign.CloseBrace next other) ts ≡ run n other ts
not_end_front Empty a n next other ts mid rest f h = ap (λ ts. run n (OnMark sign.CloseBrace next other) ts) f ∙ not_end n a next other mid rest h ∙ ap (λ ts. run n other ts) (sym f)
not_end_front (More front b) a n next other ts mid rest f h = not_end_front front b n next other ts f.0 (token (Mark sign.Comma) f.1 ∷ mid) f.2 f.3

no_braces : (n : ℕ) (next : Place → State) (e : Expression) (st : Stack) (ts : List Seen) → NotLink (kind_at ts) → run n (OnMark sign.OpenBrace next (After e st)) ts ≡ run n (After e st) ts
no_braces n next e st [] h = refl
no_braces n next e st (t ∷ ts) h = skip_mark n sign.OpenBrace next (After e st) t ts (not_brace t.kind h)

pub braces_read : (tweaks : Sequence ActionText) (n : ℕ) (at : Place) (x : Named) (args : Expressions) (st : Stack) (ts rest : List Seen) → SpellsTweaks tweaks ts rest → NotLink (kind_at rest) → run n (tweaks_row at x args st) ts ≡ run n (After (Make at x args tweaks) st) rest
braces_read Empty n at x args st ts rest h l =
    elim h [
      | inl e ↦ ap (λ ts. run n (tweaks_row at x args st) ts) e ∙ no_braces n (λ _. OnMark sign.CloseBrace (λ _. After (Make at x args Empty) st) (Tweaking Empty (λ tweaks. After (Make at x args tweaks) st))) (Make at x args Empty) st rest l
      | inr b ↦ ap (λ ts. run n (tweaks_row at x args st) ts) b.2
    ]
braces_read (More front a) n at x args st ts rest h l =
    ap (λ ts. run n (tweaks_row at x args st) ts) h.3
    ∙ not_end_front front a n (λ _. After (Make at x args Empty) st) (Tweaking Empty (λ tweaks. After (Make at x args tweaks) st)) h.0 h.4.0 (token (Mark sign.CloseBrace) h.2 ∷ rest) h.4.1 h.4.2
    ∙ tweaks_read front n (λ tweaks. After (Make at x args tweaks) st) h.0 h.4.0 h.4.1
    ∙ action_read n a front (λ tweaks. After (Make at x args tweaks) st) h.4.0 (token (Mark sign.CloseBrace) h.2 ∷ rest) h.4.2

args_want : (n : ℕ) (next : Expressions → State) (st : Stack) (ts : List Seen) → IsOperand (kind_at ts) → run n (args_row next st) ts ≡ run n (Want (InArgs NoArg next st)) ts
args_want n next st [] h = absurd h
args_want n next st (t ∷ ts) h = skip_mark n sign.CloseParen (λ _. next NoArg) (Want (InArgs NoArg next st)) t ts (operand_not_paren t.kind h)

-- a length, where it does not end the chain of a statement at the limit
length_read : (n : ℕ) (at here : Place) (a : Expression) (st : Stack) (ts : List Seen) → height a + 1 + levels st + extra st (Length at a) ≤ n → run n (Dotted at a st) (token (Keyword word.Length) here ∷ ts) ≡ run n (Got (Length at a) st) ts
length_read n at here a (InChain front st) ts level = deep n (Dotted at a (InChain front st)) (Got (Length at a) (InChain front st)) (height a + levels st + 3) (token (Keyword word.Length) here) ts refl (omega arith)
length_read n at here a st ts level = refl

-- an operand that is a primary with links stands ready for one more
tight : (n : ℕ) (e : Expression) (st : Stack) (ts rest : List Seen) → loose e ≡ 0 → run n (Want st) ts ≡ run n (had e st) rest → run n (Want st) ts ≡ run n (Got e st) rest
tight n e st ts rest z h = h ∙ ap (λ s. run n s rest) (tight_had e st z)

mutual
  pub forward : (e : Expression) (n : ℕ) (st : Stack) (ts rest : List Seen) → Spells e ts rest → height e + levels st + extra st e ≤ n → Room (loose e) st → Ends (loose e) rest → run n (Want st) ts ≡ run n (had e st) rest
  forward (Int at k) n st ts rest h level room ends = ap (λ ts. run n (Want st) ts) h
  forward (Truth at true) n st ts rest h level room ends = ap (λ ts. run n (Want st) ts) h
  forward (Truth at false) n st ts rest h level room ends = ap (λ ts. run n (Want st) ts) h
  forward (Null at) n st ts rest h level room ends = ap (λ ts. run n (Want st) ts) h
  forward (This at) n st ts rest h level room ends = ap (λ ts. run n (Want st) ts) h
  forward (Var x) n st ts rest h level room ends = ap (λ ts. run n (Want st) ts) h
  forward (Group at e) n st ts rest h level room ends =
      ap (λ ts. run n (Want st) ts) h.2
      ∙ deep n (Want st) (Want (Inside Paren (λ e. Got (Group at e) st) st)) (levels st + 1) (token (Mark sign.OpenParen) at) h.0 refl (omega arith)
      ∙ forward e n (Inside Paren (λ e. Got (Group at e) st) st) h.0 (token (Mark sign.CloseParen) h.1 ∷ rest) h.3 (omega arith) tt (closer_ends e (Mark sign.CloseParen) h.1 rest tt refl)
      ∙ had_after n e (Inside Paren (λ e. Got (Group at e) st) st) (token (Mark sign.CloseParen) h.1 ∷ rest) tt
  forward (Neg at e) n st ts rest h level room ends =
      ap (λ ts. run n (Want st) ts) h.1
      ∙ deep n (Want st) (Want (InNeg at st)) (levels st + 1) (token (Mark sign.Minus) at) h.0 refl (omega arith)
      ∙ forward e n (InNeg at st) h.0 rest h.3 (omega arith) h.2 (ends_down (loose e) 1 rest h.2 ends)
      ∙ had_after n e (InNeg at st) rest (ends (omega arith)).0
      ∙ end_neg n at e st rest
  forward (Not at e) n st ts rest h level room ends =
      ap (λ ts. run n (Want st) ts) h.1
      ∙ deep n (Want st) (Want (InNot at st)) (levels st + 1) (token (Mark sign.Bang) at) h.0 refl (omega arith)
      ∙ forward e n (InNot at st) h.0 rest h.3 (omega arith) h.2 (ends_down (loose e) 1 rest h.2 ends)
      ∙ had_after n e (InNot at st) rest (ends (omega arith)).0
      ∙ end_not n at e st rest
  forward (Two at op a b) n st ts rest h level room ends =
      let last = ends (omega (arith, looseness_low op)) in
      forward a n st ts (token (Mark (sign_of op)) at ∷ h.0) h.3 (omega (arith, extra_low st a)) (room_down (loose a) (looseness op) st h.1 room) (sign_ends a op at h.0 h.1)
      ∙ had_after n a st (token (Mark (sign_of op)) at ∷ h.0) (sign-not_link op)
      ∙ push_two n op (token (Mark (sign_of op)) at) a st h.0 refl room (omega arith)
      ∙ forward b n (InTwo at op a st) h.0 rest h.4 (omega arith) h.2 (ends_down (loose b) (looseness op) rest (omega (arith, h.2)) ends)
      ∙ had_after n b (InTwo at op a st) rest last.0
      ∙ end_two n at op a b st rest last.1
  forward (Field at a x) n st ts rest h level room ends =
      tight n a st ts (token (Mark sign.Dot) at ∷ name_token x ∷ rest) h.0 (forward a n st ts (token (Mark sign.Dot) at ∷ name_token x ∷ rest) h.1 (omega (arith, extra_low st a)) (room_zero a st h.0) (ends_zero a (token (Mark sign.Dot) at ∷ name_token x ∷ rest) h.0))
      ∙ deep n (Got a st) (Dotted at a st) (height a + levels st + 1) (token (Mark sign.Dot) at) (name_token x ∷ rest) refl (omega arith)
  forward (Length at a) n st ts rest h level room ends =
      tight n a st ts (token (Mark sign.Dot) at ∷ token (Keyword word.Length) h.0 ∷ rest) h.1 (forward a n st ts (token (Mark sign.Dot) at ∷ token (Keyword word.Length) h.0 ∷ rest) h.2 (omega (arith, extra_low st a)) (room_zero a st h.1) (ends_zero a (token (Mark sign.Dot) at ∷ token (Keyword word.Length) h.0 ∷ rest) h.1))
      ∙ deep n (Got a st) (Dotted at a st) (height a + levels st + 1) (token (Mark sign.Dot) at) (token (Keyword word.Length) h.0 ∷ rest) refl (omega arith)
      ∙ length_read n at h.0 a st rest level
  forward (Elem at a i) n st ts rest h level room ends =
      tight n a st ts (token (Mark sign.OpenBracket) at ∷ h.0) h.2 (forward a n st ts (token (Mark sign.OpenBracket) at ∷ h.0) h.3 (omega (arith, extra_low st a)) (room_zero a st h.2) (ends_zero a (token (Mark sign.OpenBracket) at ∷ h.0) h.2))
      ∙ elem_opens n at a st h.0 (omega arith) (starts i h.0 (token (Mark sign.CloseBracket) h.1 ∷ rest) h.4)
      ∙ forward i n (Inside Bracket (λ i. Got (Elem at a i) st) st) h.0 (token (Mark sign.CloseBracket) h.1 ∷ rest) h.4 (omega arith) tt (closer_ends i (Mark sign.CloseBracket) h.1 rest tt refl)
      ∙ had_after n i (Inside Bracket (λ i. Got (Elem at a i) st) st) (token (Mark sign.CloseBracket) h.1 ∷ rest) tt
  forward (Call at a x args) n st ts rest h level room ends =
      tight n a st ts (token (Mark sign.Dot) at ∷ name_token x ∷ token (Mark sign.OpenParen) h.1 ∷ h.0) h.3 (forward a n st ts (token (Mark sign.Dot) at ∷ name_token x ∷ token (Mark sign.OpenParen) h.1 ∷ h.0) h.4 (omega (arith, extra_low st a)) (room_zero a st h.3) (ends_zero a (token (Mark sign.Dot) at ∷ name_token x ∷ token (Mark sign.OpenParen) h.1 ∷ h.0) h.3))
      ∙ deep n (Got a st) (Dotted at a st) (height a + levels st + 1) (token (Mark sign.Dot) at) (name_token x ∷ token (Mark sign.OpenParen) h.1 ∷ h.0) refl (omega arith)
      ∙ forward_args args n (λ args. Got (Call at a x args) st) st h.0 rest h.2 h.5 (omega arith)
  forward (Make at x args tweaks) n st ts rest h level room ends =
      ap (λ ts. run n (Want st) ts) h.4
      ∙ deep n (Want st) (new_row at st) (levels st + 1) (token (Keyword word.New) at) (name_token x ∷ token (Mark sign.OpenParen) h.2 ∷ h.0) refl (omega arith)
      ∙ forward_args args n (λ args. tweaks_row at x args st) st h.0 h.1 h.3 h.5 (omega arith)
      ∙ braces_read tweaks n at x args st h.1 rest h.6 (ends (omega arith)).0
  forward (Array at kind e) n st ts rest h level room ends =
      ap (λ ts. run n (Want st) ts) h.4
      ∙ deep n (Want st) (new_row at st) (levels st + 1) (token (Keyword word.New) at) (token (base_lexeme kind.base) kind.at ∷ token (Mark sign.OpenBracket) h.1 ∷ h.0) refl (omega arith)
      ∙ array_opens n kind.base at kind.at h.1 st h.0
      ∙ ap (λ kind. run n (array at kind st) h.0) (same_kind kind h.3)
      ∙ forward e n (Inside Bracket (λ e. After (Array at kind e) st) st) h.0 (token (Mark sign.CloseBracket) h.2 ∷ rest) h.5 (omega arith) tt (closer_ends e (Mark sign.CloseBracket) h.2 rest tt refl)
      ∙ had_after n e (Inside Bracket (λ e. After (Array at kind e) st) st) (token (Mark sign.CloseBracket) h.2 ∷ rest) tt

  pub forward_args : (args : Expressions) (n : ℕ) (next : Expressions → State) (st : Stack) (ts rest : List Seen) (close : Place) → SpellsArgs args ts (token (Mark sign.CloseParen) close ∷ rest) → tallest args + levels st + 1 ≤ n → run n (args_row next st) ts ≡ run n (next args) rest
  forward_args NoArg n next st ts rest close h level = ap (λ ts. run n (args_row next st) ts) h
  forward_args (Arg front last) n next st ts rest close h level =
      args_want n next st ts (starts_front front last ts h.0 (token (Mark sign.CloseParen) close ∷ rest) h.1 h.2)
      ∙ forward_front front n next st ts h.0 h.1 (omega arith)
      ∙ forward last n (InArgs front next st) h.0 (token (Mark sign.CloseParen) close ∷ rest) h.2 (omega arith) tt (closer_ends last (Mark sign.CloseParen) close rest tt refl)
      ∙ had_after n last (InArgs front next st) (token (Mark sign.CloseParen) close ∷ rest) tt

  pub forward_front : (front : Expressions) (n : ℕ) (next : Expressions → State) (st : Stack) (ts rest : List Seen) → SpellsFront front ts rest → tallest front + levels st + 1 ≤ n → run n (Want (InArgs NoArg next st)) ts ≡ run n (Want (InArgs front next st)) rest
  forward_front NoArg n next st ts rest h level = ap (λ ts. run n (Want (InArgs NoArg next st)) ts) h
  forward_front (Arg front e) n next st ts rest h level =
      forward_front front n next st ts h.0 h.2 (omega arith)
      ∙ forward e n (InArgs front next st) h.0 (token (Mark sign.Comma) h.1 ∷ rest) h.3 (omega arith) tt (closer_ends e (Mark sign.Comma) h.1 rest tt refl)
      ∙ had_after n e (InArgs front next st) (token (Mark sign.Comma) h.1 ∷ rest) tt

-- an expression, up to the sign that closes its place
pub forward_paren : (e : Expression) (n : ℕ) (next : Expression → State) (st : Stack) (ts rest : List Seen) (close : Place) → Spells e ts (token (Mark sign.CloseParen) close ∷ rest) → height e + levels st + 1 ≤ n → run n (Want (Inside Paren next st)) ts ≡ run n (next e) rest
forward_paren e n next st ts rest close h level =
    forward e n (Inside Paren next st) ts (token (Mark sign.CloseParen) close ∷ rest) h (omega arith) tt (closer_ends e (Mark sign.CloseParen) close rest tt refl)
    ∙ had_after n e (Inside Paren next st) (token (Mark sign.CloseParen) close ∷ rest) tt

pub forward_value : (e : Expression) (n : ℕ) (next : Expression → State) (st : Stack) (ts rest : List Seen) (close : Place) → Spells e ts (token (Mark sign.Semicolon) close ∷ rest) → height e + levels st + 1 ≤ n → run n (Want (Inside Semicolon next st)) ts ≡ run n (next e) rest
forward_value e n next st ts rest close h level =
    forward e n (Inside Semicolon next st) ts (token (Mark sign.Semicolon) close ∷ rest) h (omega arith) tt (closer_ends e (Mark sign.Semicolon) close rest tt refl)
    ∙ had_after n e (Inside Semicolon next st) (token (Mark sign.Semicolon) close ∷ rest) tt

-- guards
flag_reach_word : (op : GuardOp) → flag_reach (Keyword (guard_word op)) ≡ guard_looseness op
flag_reach_word AndOp = refl
flag_reach_word OrOp = refl

pub guard_loose_high : (g : Guard) → guard_loose g ≤ 3
guard_loose_high (FlagTwo AndOp g h) = omega arith
guard_loose_high (FlagTwo OrOp g h) = omega arith
guard_loose_high (FlagNot g) = omega arith
guard_loose_high _ = omega arith

pub forward_guard : (g : Guard) (n : ℕ) (st : Stack) (ts rest : List Seen) → SpellsGuard g ts rest → guard_height g + levels st ≤ n → FlagRoom (guard_loose g) st → guard_loose g ≤ flag_reach (kind_at rest) → run n (WantFlag st) ts ≡ run n (AfterFlag g st) rest
forward_guard (FlagIs x) n st ts rest h level room ends = ap (λ ts. run n (WantFlag st) ts) h
forward_guard (FlagTruth true) n st ts rest h level room ends = ap (λ ts. run n (WantFlag st) ts) h.1
forward_guard (FlagTruth false) n st ts rest h level room ends = ap (λ ts. run n (WantFlag st) ts) h.1
forward_guard (FlagNot g) n st ts rest h level room ends =
    ap (λ ts. run n (WantFlag st) ts) h.2
    ∙ deep n (WantFlag st) (WantFlag (InFlagNot st)) (levels st + 1) (token (Mark sign.Bang) h.1) h.0 refl (omega arith)
    ∙ forward_guard g n (InFlagNot st) h.0 rest h.4 (omega arith) h.3 (omega (arith, h.3))
    ∙ end_flag_not n g st rest
forward_guard (FlagTwo op g k) n st ts rest h level room ends =
    forward_guard g n st ts (token (Keyword (guard_word op)) h.1 ∷ h.0) h.4 (omega arith) (flag_room_down (guard_loose g) (guard_looseness op) st h.2 room) (omega (arith, h.2, flag_reach_word op))
    ∙ push_flag_two n op (token (Keyword (guard_word op)) h.1) g st h.0 refl room (omega arith)
    ∙ forward_guard k n (InFlagTwo op g st) h.0 rest h.5 (omega arith) h.3 (omega (arith, h.3))
    ∙ end_flag_two n op g k st rest ends
forward_guard (FlagGroup g) n st ts rest h level room ends =
    ap (λ ts. run n (WantFlag st) ts) h.3
    ∙ deep n (WantFlag st) (WantFlag (InFlagGroup st)) (levels st + 1) (token (Mark sign.OpenParen) h.1) h.0 refl (omega arith)
    ∙ forward_guard g n (InFlagGroup st) h.0 (token (Mark sign.CloseParen) h.2 ∷ rest) h.4 (omega arith) tt (omega (arith, guard_loose_high g))
