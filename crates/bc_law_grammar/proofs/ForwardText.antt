-- The same for statements and for whole texts.
use Rattle.std.proofs.Common.{◌<◌, max, ◌≡◌, ℕ, List, [], ◌∷◌, refl, ap, sym, subst, ◌∙◌, ◌+◌, ◌≤◌, arith, Bool, true, false}
use Rattle.std.specs.Prelude.{Some, None}
use Rattle.bc_data.specs.Seen.{Lexeme, Seen, Keyword, Name, Text, Mark, End}
use Rattle.bc_data.specs.SourceTree.{Sequence, Empty, More, largest, Expression, This, Var, Group, Neg, Not, Two, Field, Length, Elem, Call, Make, Array, height, Guard, guard_height, PrintItem, TextItem, ValueItem, item_height, Change, ChangeOf, Statement, Let, NewTag, Assign, Do, MakeDo, Block, If, IfElse, While, Return, ReturnValue, Print, Assert, Exit, Statements, Nothing, Then, depth, deepest, Method, MethodOf, Member, FlagMember, FieldMember, MethodMember, MakerMember, member_depth, Param, ParamOf, param_depth, Item, TagTypeItem, ClassItem, TaskItem, item_depth}
use Rattle.bc_data.specs.Grammar.{token, name_token, loose, Fronts, Separated, Listed, Repeated, SpellsAction, base_lexeme, SpellsBrackets, Spells, IsChain, IsTarget, IsCall, IsMade, SpellsPrintItem, SpellsChange, SpellsStat, SpellsStats, guard_loose, SpellsBind, SpellsBinds, SpellsParam, SpellsFormal, SpellsBody, SpellsCode, SpellsMember, SpellsItem}
use Rattle.bc_data.specs.declared.run.Place.{Place}
use Rattle.bc_data.specs.declared.token.Sign.{Sign}
use Rattle.bc_data.specs.declared.token.Word.TheVariants as word
use Rattle.bc_data.specs.declared.token.Sign.TheVariants as sign
use Rattle.bc_data.specs.declared.tree.Named.{Named}
use Rattle.bc_data.specs.declared.tree.TypeText.{TypeText}
use Rattle.bc_data.specs.declared.tree.Base.{Base}
use Rattle.bc_data.specs.declared.tree.Base.TheVariants as base
use Rattle.bc_data.specs.declared.tree.Formal.{Formal}
use Rattle.bc_data.specs.declared.tree.Bind.{Bind}
use Rattle.bc_data.specs.declared.tree.ActionText.{ActionText}
use Rattle.bc_data.specs.declared.tree.ActionText.TheVariants as action
use Rattle.bc_law_grammar.specs.Machine.{Paren, Bracket, Semicolon, Stack, Body, Guarded, Inside, InArgs, InPrint, InChain, InMade, InBlock, State, Never, OnMark, OnWord, OnName, Want, Got, After, Dotted, Bracketed, Stats, Printing, Tweaking, Acting, Changing, Declaring, Parameters, Binding, Members, Items, Done, WantFlag, AfterFlag, Deep, On, levels, one_type, many_type, brackets, args_row, tweaks_row, let_value, let_row, tag_row, made_row, test_row, braces_row, else_row, return_row, print_ends, print_behind, exit_ends, exit_row, act_behind, change_row, formal_row, body_row, code_row, bind_behind, param_row, member_row, maker_row, void_row, flag_row, tag_type_row, class_row, task_row, assign_value, want, printing, flag_reach, run, follow, kind_at, Room, FlagRoom, same_word}
use Rattle.bc_law_grammar.proofs.Steps.{on, deep, skip_mark, skip_word, assign_target, end_call}
use Rattle.bc_law_grammar.proofs.Forward.{had, NotLink, IsOperand, Ends, chain_extra, chain_extra_low, had_after, tight_room, starts, closer_ends, operand_not_semicolon, forward, forward_args, braces_read, forward_paren, forward_value, forward_guard, guard_loose_high, printing-want}

-- where no element begins with the sign, no list of them does
skip_front : {A : Type 0} (Spells : A → List Seen → List Seen → Type 0) (separator : Lexeme) (n : ℕ) (s : Sign) (next : Place → State) (other : State) → ((a : A) (ts rest : List Seen) → Spells a ts rest → run n (OnMark s next other) ts ≡ run n other ts)
    → (front : Sequence A) (a : A) (ts mid rest : List Seen) → Fronts Spells separator front ts mid → Spells a mid rest → run n (OnMark s next other) ts ≡ run n other ts
skip_front Spells separator n s next other one Empty a ts mid rest f h = ap (λ ts. run n (OnMark s next other) ts) f ∙ one a mid rest h ∙ ap (λ ts. run n other ts) (sym f)
skip_front Spells separator n s next other one (More front b) a ts mid rest f h = skip_front Spells separator n s next other one front b ts f.0 (token separator f.1 ∷ mid) f.2 f.3

-- chains

pub chain_tight : (e : Expression) → IsChain e → loose e ≡ 0
chain_tight (Neg at e) h = absurd h
chain_tight (Not at e) h = absurd h
chain_tight (Two at op a b) h = absurd h
chain_tight (Make at x args tweaks) h = absurd h
chain_tight (Array at kind e) h = absurd h
chain_tight _ h = refl

target_extra : (e : Expression) → IsTarget e → chain_extra e ≡ 0
target_extra (Var x) h = refl
target_extra (Field at a x) h = refl
target_extra (Elem at a i) h = refl
target_extra _ h = absurd h

call_extra : (e : Expression) → IsCall e → chain_extra e ≡ 0
call_extra (Call at a x args) h = refl
call_extra _ h = absurd h

chain_start : (e : Expression) (n : ℕ) (front : Statements) (st : Stack) (ts rest : List Seen) → IsChain e → Spells e ts rest → height e + levels st + 1 + chain_extra e ≤ n → run n (Stats front st) ts ≡ run n (Want (InChain front st)) ts
chain_start (This at) n front st ts rest c h level =
    ap (λ ts. run n (Stats front st) ts) h
    ∙ deep n (Stats front st) (Got (This at) (InChain front st)) (levels st + 2) (token (Keyword word.This) at) rest refl (omega arith)
    ∙ sym (ap (λ ts. run n (Want (InChain front st)) ts) h)
chain_start (Var x) n front st ts rest c h level =
    ap (λ ts. run n (Stats front st) ts) h
    ∙ deep n (Stats front st) (Got (Var x) (InChain front st)) (levels st + 1) (name_token x) rest refl (omega arith)
    ∙ sym (ap (λ ts. run n (Want (InChain front st)) ts) h)
chain_start (Field at a x) n front st ts rest c h level = chain_start a n front st ts (token (Mark sign.Dot) at ∷ name_token x ∷ rest) c h.1 (omega (arith, chain_extra_low a))
chain_start (Length at a) n front st ts rest c h level = chain_start a n front st ts (token (Mark sign.Dot) at ∷ token (Keyword word.Length) h.0 ∷ rest) c h.2 (omega (arith, chain_extra_low a))
chain_start (Elem at a i) n front st ts rest c h level = chain_start a n front st ts (token (Mark sign.OpenBracket) at ∷ h.0) c h.3 (omega (arith, chain_extra_low a))
chain_start (Call at a x args) n front st ts rest c h level = chain_start a n front st ts (token (Mark sign.Dot) at ∷ name_token x ∷ token (Mark sign.OpenParen) h.1 ∷ h.0) c h.4 (omega (arith, chain_extra_low a))
chain_start _ n front st ts rest c h level = absurd c

-- a chain, up to the token behind it
chain_read : (e : Expression) (n : ℕ) (front : Statements) (st : Stack) (ts rest : List Seen) → IsChain e → Spells e ts rest → height e + levels st + 1 + chain_extra e ≤ n → NotLink (kind_at rest) → run n (Stats front st) ts ≡ run n (After e (InChain front st)) rest
chain_read e n front st ts rest c h level ends =
    let zero : loose e ≡ 0 = chain_tight e c in
    chain_start e n front st ts rest c h level
    ∙ forward e n (InChain front st) ts rest h (omega arith) (subst (λ q. Room q (InChain front st)) (sym zero) (tight_room (InChain front st))) (λ pos. absurd (omega arith))
    ∙ had_after n e (InChain front st) rest ends

-- declarations

abbrev let_want : TypeText → Named → Statements → Stack → State
let_want kind x front st = Want (Inside Semicolon (λ e. Stats (Then front (Let (record { kind = kind; name = x }) e)) st) st)

abbrev kind_of : Base → Bool → Place → TypeText
kind_of b m at = record { base = b; many = m; at = at }

let_read : (b : Base) (m : Bool) (n : ℕ) (a : Place) (x : Named) (front : Statements) (st : Stack) (mid inner : List Seen) (equals : Place) → SpellsBrackets m mid (name_token x ∷ token (Mark sign.Equals) equals ∷ inner) → levels st + 1 ≤ n
    → run n (Stats front st) (token (base_lexeme b) a ∷ mid) ≡ run n (let_want (kind_of b m a) x front st) inner
let_read base.Int false n a x front st mid inner equals h le =
    ap (λ ts. run n (Stats front st) (token (Keyword word.Int) a ∷ ts)) h
    ∙ deep n (Stats front st) (brackets base.Int a (λ kind. let_row kind front st)) (levels st + 1) (token (Keyword word.Int) a) (name_token x ∷ token (Mark sign.Equals) equals ∷ inner) refl le
let_read base.Int true n a x front st mid inner equals h le =
    ap (λ ts. run n (Stats front st) (token (Keyword word.Int) a ∷ ts)) h.2
    ∙ deep n (Stats front st) (brackets base.Int a (λ kind. let_row kind front st)) (levels st + 1) (token (Keyword word.Int) a) (token (Mark sign.OpenBracket) h.0 ∷ token (Mark sign.CloseBracket) h.1 ∷ name_token x ∷ token (Mark sign.Equals) equals ∷ inner) refl le
let_read base.Bool false n a x front st mid inner equals h le =
    ap (λ ts. run n (Stats front st) (token (Keyword word.Bool) a ∷ ts)) h
    ∙ deep n (Stats front st) (brackets base.Bool a (λ kind. let_row kind front st)) (levels st + 1) (token (Keyword word.Bool) a) (name_token x ∷ token (Mark sign.Equals) equals ∷ inner) refl le
let_read base.Bool true n a x front st mid inner equals h le =
    ap (λ ts. run n (Stats front st) (token (Keyword word.Bool) a ∷ ts)) h.2
    ∙ deep n (Stats front st) (brackets base.Bool a (λ kind. let_row kind front st)) (levels st + 1) (token (Keyword word.Bool) a) (token (Mark sign.OpenBracket) h.0 ∷ token (Mark sign.CloseBracket) h.1 ∷ name_token x ∷ token (Mark sign.Equals) equals ∷ inner) refl le
let_read (base.Class c) false n a x front st mid inner equals h le =
    ap (λ ts. run n (Stats front st) (token (Name c) a ∷ ts)) h
    ∙ deep n (Stats front st) (Got (Var (record { name = c; at = a })) (InChain front st)) (levels st + 1) (token (Name c) a) (name_token x ∷ token (Mark sign.Equals) equals ∷ inner) refl le
let_read (base.Class c) true n a x front st mid inner equals h le =
    ap (λ ts. run n (Stats front st) (token (Name c) a ∷ ts)) h.2
    ∙ deep n (Stats front st) (Got (Var (record { name = c; at = a })) (InChain front st)) (levels st + 1) (token (Name c) a) (token (Mark sign.OpenBracket) h.0 ∷ token (Mark sign.CloseBracket) h.1 ∷ name_token x ∷ token (Mark sign.Equals) equals ∷ inner) refl le

-- items of a `print`

printing_want : (n : ℕ) (items : Sequence PrintItem) (next : Sequence PrintItem → State) (st : Stack) (ts : List Seen) → IsOperand (kind_at ts) → run n (Printing items next st) ts ≡ run n (Want (InPrint items next st)) ts
printing_want n items next st [] h = absurd h
printing_want n items next st (t ∷ ts) h = ap (follow n t.at (λ s. run n s ts)) (printing-want t.kind t.at items next st h)

item_comma : (n : ℕ) (i : PrintItem) (items : Sequence PrintItem) (next : Sequence PrintItem → State) (st : Stack) (ts rest : List Seen) (at : Place) → SpellsPrintItem i ts (token (Mark sign.Comma) at ∷ rest) → item_height i + levels st + 1 ≤ n → run n (Printing items next st) ts ≡ run n (Printing (More items i) next st) rest
item_comma n (TextItem meaning) items next st ts rest at h level = ap (λ ts. run n (Printing items next st) ts) h.1
item_comma n (ValueItem e) items next st ts rest at h level =
    printing_want n items next st ts (starts e ts (token (Mark sign.Comma) at ∷ rest) h)
    ∙ forward e n (InPrint items next st) ts (token (Mark sign.Comma) at ∷ rest) h (omega arith) tt (closer_ends e (Mark sign.Comma) at rest tt refl)
    ∙ had_after n e (InPrint items next st) (token (Mark sign.Comma) at ∷ rest) tt

item_last : (n : ℕ) (i : PrintItem) (items : Sequence PrintItem) (next : Sequence PrintItem → State) (st : Stack) (ts rest : List Seen) (at : Place) → SpellsPrintItem i ts (token (Mark sign.CloseParen) at ∷ rest) → item_height i + levels st + 1 ≤ n → run n (Printing items next st) ts ≡ run n (next (More items i)) rest
item_last n (TextItem meaning) items next st ts rest at h level = ap (λ ts. run n (Printing items next st) ts) h.1
item_last n (ValueItem e) items next st ts rest at h level =
    printing_want n items next st ts (starts e ts (token (Mark sign.CloseParen) at ∷ rest) h)
    ∙ forward e n (InPrint items next st) ts (token (Mark sign.CloseParen) at ∷ rest) h (omega arith) tt (closer_ends e (Mark sign.CloseParen) at rest tt refl)
    ∙ had_after n e (InPrint items next st) (token (Mark sign.CloseParen) at ∷ rest) tt

items_front : (front : Sequence PrintItem) (n : ℕ) (next : Sequence PrintItem → State) (st : Stack) (ts rest : List Seen) → Fronts SpellsPrintItem (Mark sign.Comma) front ts rest → largest item_height front + levels st + 1 ≤ n → run n (Printing Empty next st) ts ≡ run n (Printing front next st) rest
items_front Empty n next st ts rest h level = ap (λ ts. run n (Printing Empty next st) ts) h
items_front (More front i) n next st ts rest h level =
    items_front front n next st ts h.0 h.2 (omega arith)
    ∙ item_comma n i front next st h.0 rest h.1 h.3 (omega arith)

items_read : (items : Sequence PrintItem) (n : ℕ) (next : Sequence PrintItem → State) (st : Stack) (ts rest : List Seen) (at : Place) → Separated SpellsPrintItem (Mark sign.Comma) items ts (token (Mark sign.CloseParen) at ∷ rest) → largest item_height items + levels st + 1 ≤ n → run n (Printing Empty next st) ts ≡ run n (next items) rest
items_read Empty n next st ts rest at h level = absurd h
items_read (More front i) n next st ts rest at h level =
    items_front front n next st ts h.0 h.1 (omega arith)
    ∙ item_last n i front next st h.0 rest at h.2 (omega arith)

-- changes

act_read : (n : ℕ) (a : ActionText) (actions : Sequence ActionText) (more last : Sequence ActionText → State) (ts rest : List Seen) → SpellsAction true a ts rest → run n (Acting actions more last) ts ≡ run n (act_behind (More actions a) more last) rest
act_read n (action.Flag x true) actions more last ts rest h = ap (λ ts. run n (Acting actions more last) ts) h.2
act_read n (action.Flag x false) actions more last ts rest h = ap (λ ts. run n (Acting actions more last) ts) h.2
act_read n (action.Add at x) actions more last ts rest h = ap (λ ts. run n (Acting actions more last) ts) h
act_read n (action.Clear at x) actions more last ts rest h = ap (λ ts. run n (Acting actions more last) ts) h.1

acts_front : (front : Sequence ActionText) (n : ℕ) (more last : Sequence ActionText → State) (ts rest : List Seen) → Fronts (SpellsAction true) (Mark sign.Comma) front ts rest → run n (Acting Empty more last) ts ≡ run n (Acting front more last) rest
acts_front Empty n more last ts rest h = ap (λ ts. run n (Acting Empty more last) ts) h
acts_front (More front a) n more last ts rest h =
    acts_front front n more last ts h.0 h.2
    ∙ act_read n a front more last h.0 (token (Mark sign.Comma) h.1 ∷ rest) h.3

acts_read : (actions : Sequence ActionText) (n : ℕ) (more last : Sequence ActionText → State) (ts rest : List Seen) → Separated (SpellsAction true) (Mark sign.Comma) actions ts rest → run n (Acting Empty more last) ts ≡ run n (act_behind actions more last) rest
acts_read Empty n more last ts rest h = absurd h
acts_read (More front a) n more last ts rest h =
    acts_front front n more last ts h.0 h.1
    ∙ act_read n a front more last h.0 rest h.2

abbrev change_more : Named → Sequence Change → (Sequence Change → State) → Sequence ActionText → State
change_more x changes next actions = Changing (More changes (ChangeOf x actions)) next

abbrev change_last : Named → Sequence Change → (Sequence Change → State) → Sequence ActionText → State
change_last x changes next actions = next (More changes (ChangeOf x actions))

change_comma : (n : ℕ) (c : Change) (changes : Sequence Change) (next : Sequence Change → State) (ts rest : List Seen) (at : Place) → SpellsChange c ts (token (Mark sign.Semicolon) at ∷ rest) → run n (Changing changes next) ts ≡ run n (Changing (More changes c) next) rest
change_comma n (ChangeOf x actions) changes next ts rest at h =
    ap (λ ts. run n (Changing changes next) ts) h.2
    ∙ acts_read actions n (change_more x changes next) (change_last x changes next) h.0 (token (Mark sign.Semicolon) at ∷ rest) h.3

change_end : (n : ℕ) (c : Change) (changes : Sequence Change) (next : Sequence Change → State) (ts rest : List Seen) (at : Place) → SpellsChange c ts (token (Mark sign.CloseParen) at ∷ rest) → run n (Changing changes next) ts ≡ run n (next (More changes c)) rest
change_end n (ChangeOf x actions) changes next ts rest at h =
    ap (λ ts. run n (Changing changes next) ts) h.2
    ∙ acts_read actions n (change_more x changes next) (change_last x changes next) h.0 (token (Mark sign.CloseParen) at ∷ rest) h.3

changes_front : (front : Sequence Change) (n : ℕ) (next : Sequence Change → State) (ts rest : List Seen) → Fronts SpellsChange (Mark sign.Semicolon) front ts rest → run n (Changing Empty next) ts ≡ run n (Changing front next) rest
changes_front Empty n next ts rest h = ap (λ ts. run n (Changing Empty next) ts) h
changes_front (More front c) n next ts rest h =
    changes_front front n next ts h.0 h.2
    ∙ change_comma n c front next h.0 rest h.1 h.3

change_not_paren : (n : ℕ) (next : Place → State) (other : State) (c : Change) (ts rest : List Seen) → SpellsChange c ts rest → run n (OnMark sign.CloseParen next other) ts ≡ run n other ts
change_not_paren n next other (ChangeOf x actions) ts rest h = rw h.2 refl

exit_read : (changes : Sequence Change) (n : ℕ) (at : Place) (front : Statements) (st : Stack) (ts rest : List Seen) (close semicolon : Place) → Listed SpellsChange (Mark sign.Semicolon) changes ts (token (Mark sign.CloseParen) close ∷ token (Mark sign.Semicolon) semicolon ∷ rest)
    → run n (OnMark sign.CloseParen (λ _. exit_ends at front st Empty) (Changing Empty (exit_ends at front st))) ts ≡ run n (Stats (Then front (Exit at changes)) st) rest
exit_read Empty n at front st ts rest close semicolon h = ap (λ ts. run n (OnMark sign.CloseParen (λ _. exit_ends at front st Empty) (Changing Empty (exit_ends at front st))) ts) h
exit_read (More cs c) n at front st ts rest close semicolon h =
    skip_front SpellsChange (Mark sign.Semicolon) n sign.CloseParen (λ _. exit_ends at front st Empty) (Changing Empty (exit_ends at front st)) (change_not_paren n (λ _. exit_ends at front st Empty) (Changing Empty (exit_ends at front st))) cs c ts h.0 (token (Mark sign.CloseParen) close ∷ token (Mark sign.Semicolon) semicolon ∷ rest) h.1 h.2
    ∙ changes_front cs n (exit_ends at front st) ts h.0 h.1
    ∙ change_end n c cs (exit_ends at front st) h.0 (token (Mark sign.Semicolon) semicolon ∷ rest) close h.2

return_want : (n : ℕ) (at : Place) (front : Statements) (st : Stack) (ts : List Seen) → IsOperand (kind_at ts) → run n (return_row at front st) ts ≡ run n (Want (Inside Semicolon (λ e. Stats (Then front (ReturnValue at e)) st) st)) ts
return_want n at front st [] h = absurd h
return_want n at front st (t ∷ ts) h = skip_mark n sign.Semicolon (λ _. Stats (Then front (Return at)) st) (Want (Inside Semicolon (λ e. Stats (Then front (ReturnValue at e)) st) st)) t ts (operand_not_semicolon t.kind h)

-- what follows a statement is no `else`
abbrev pub NotElse : Lexeme → Type 0
NotElse (Keyword word.Else) = ⊥
NotElse _ = Unit {0}

not_else : (k : Lexeme) → NotElse k → same_word word.Else k ≡ false
not_else (Keyword word.Else) h = absurd h
not_else (Keyword w) h = refl
not_else k h = refl

operand_not_else : (k : Lexeme) → IsOperand k → NotElse k
operand_not_else (Keyword word.Else) h = h
operand_not_else k h = tt

base_not_else : (b : Base) → NotElse (base_lexeme b)
base_not_else base.Int = tt
base_not_else base.Bool = tt
base_not_else (base.Class c) = tt

begins_stat : (k : Lexeme) (at : Place) (ts rest : List Seen) → NotElse k → ts ≡ token k at ∷ rest → NotElse (kind_at ts)
begins_stat k at ts rest l h = subst (λ ts. NotElse (kind_at ts)) (sym h) l

starts_stat : (p : Statement) (ts rest : List Seen) → SpellsStat p ts rest → NotElse (kind_at ts)
starts_stat (Let x e) ts rest h = begins_stat (base_lexeme x.kind.base) x.kind.at ts h.4.0 (base_not_else x.kind.base) h.4.1
starts_stat (NewTag at x kind) ts rest h = subst (λ ts. NotElse (kind_at ts)) (sym h.6) tt
starts_stat (Assign target e) ts rest h = operand_not_else (kind_at ts) (starts target ts (token (Mark sign.Equals) h.1 ∷ h.0) h.5)
starts_stat (Do call) ts rest h = operand_not_else (kind_at ts) (starts call ts (token (Mark sign.Semicolon) h.0 ∷ rest) h.3)
starts_stat (MakeDo made) ts rest h = operand_not_else (kind_at ts) (starts made ts (token (Mark sign.Semicolon) h.0 ∷ rest) h.2)
starts_stat (Block at body) ts rest h = begins_stat (Mark sign.OpenBrace) at ts h.0 tt h.2
starts_stat (If at test body) ts rest h = subst (λ ts. NotElse (kind_at ts)) (sym h.4.3) tt
starts_stat (IfElse at test body other) ts rest h = subst (λ ts. NotElse (kind_at ts)) (sym h.8.3) tt
starts_stat (While at test body) ts rest h = subst (λ ts. NotElse (kind_at ts)) (sym h.4.3) tt
starts_stat (Return at) ts rest h = subst (λ ts. NotElse (kind_at ts)) (sym h.1) tt
starts_stat (ReturnValue at e) ts rest h = begins_stat (Keyword word.Return) at ts h.0 tt h.2
starts_stat (Print at items) ts rest h = subst (λ ts. NotElse (kind_at ts)) (sym h.4) tt
starts_stat (Assert at e) ts rest h = subst (λ ts. NotElse (kind_at ts)) (sym h.1.3) tt
starts_stat (Exit at changes) ts rest h = subst (λ ts. NotElse (kind_at ts)) (sym h.4) tt

-- behind the braces of an `if` without `else`
no_else : (n : ℕ) (at : Place) (test : Expression) (body front : Statements) (st : Stack) (rest : List Seen) → NotElse (kind_at rest) → run n (else_row at test body front st) rest ≡ run n (Stats (Then front (If at test body)) st) rest
no_else n at test body front st [] h = refl
no_else n at test body front st (t ∷ ts) h = skip_word n word.Else (λ _. braces_row (λ other. Stats (Then front (IfElse at test body other)) st) st) (Stats (Then front (If at test body)) st) t ts (not_else t.kind h)

mutual
  pub forward_stat : (p : Statement) (n : ℕ) (front : Statements) (st : Stack) (ts rest : List Seen) → SpellsStat p ts rest → depth p + levels st ≤ n → NotElse (kind_at rest) → run n (Stats front st) ts ≡ run n (Stats (Then front p) st) rest
  forward_stat (Let x e) n front st ts rest h level ends =
      ap (λ ts. run n (Stats front st) ts) h.4.1
      ∙ let_read x.kind.base x.kind.many n x.kind.at x.name front st h.4.0 h.1 h.2 (subst (λ b. SpellsBrackets x.kind.many h.4.0 b) h.5 h.4.2) (omega arith)
      ∙ forward_value e n (λ e. Stats (Then front (Let x e)) st) st h.1 rest h.3 h.6 (omega arith)
  forward_stat (NewTag at x kind) n front st ts rest h level ends =
      ap (λ ts. run n (Stats front st) ts) h.6
      ∙ deep n (Stats front st) (tag_row at front st) (levels st + 1) (token (Keyword word.Tag) at) (name_token x ∷ token (Mark sign.Equals) h.0 ∷ token (Keyword word.New) h.1 ∷ token (Keyword word.Tag) h.2 ∷ token (Mark sign.OpenParen) h.3 ∷ name_token kind ∷ token (Mark sign.CloseParen) h.4 ∷ token (Mark sign.Semicolon) h.5 ∷ rest) refl (omega arith)
  forward_stat (Assign target e) n front st ts rest h level ends =
      chain_read target n front st ts (token (Mark sign.Equals) h.1 ∷ h.0) h.3 h.5 (omega (arith, target_extra target h.4)) tt
      ∙ on n (After target (InChain front st)) (assign_value target front st) (token (Mark sign.Equals) h.1) h.0 (assign_target target front st h.4)
      ∙ forward_value e n (λ e. Stats (Then front (Assign target e)) st) st h.0 rest h.2 h.6 (omega arith)
  forward_stat (Do call) n front st ts rest h level ends =
      chain_read call n front st ts (token (Mark sign.Semicolon) h.0 ∷ rest) h.1 h.3 (omega (arith, call_extra call h.2)) tt
      ∙ on n (After call (InChain front st)) (Stats (Then front (Do call)) st) (token (Mark sign.Semicolon) h.0) rest (end_call call front st h.2)
  forward_stat (MakeDo (Make at x args tweaks)) n front st ts rest h level ends =
      let m = h.2 in
      ap (λ ts. run n (Stats front st) ts) m.4
      ∙ deep n (Stats front st) (made_row at front st) (levels st + 2) (token (Keyword word.New) at) (name_token x ∷ token (Mark sign.OpenParen) m.2 ∷ m.0) refl (omega arith)
      ∙ forward_args args n (λ args. tweaks_row at x args (InMade front st)) (InMade front st) m.0 m.1 m.3 m.5 (omega arith)
      ∙ braces_read tweaks n at x args (InMade front st) m.1 (token (Mark sign.Semicolon) h.0 ∷ rest) m.6 tt
  forward_stat (MakeDo _) n front st ts rest h level ends = absurd h.1
  forward_stat (Block at body) n front st ts rest h level ends =
      ap (λ ts. run n (Stats front st) ts) h.2
      ∙ deep n (Stats front st) (Stats Nothing (InBlock (λ body. Stats (Then front (Block at body)) st) st)) (levels st + 1) (token (Mark sign.OpenBrace) at) h.0 refl (omega arith)
      ∙ forward_stats body n (InBlock (λ body. Stats (Then front (Block at body)) st) st) h.0 (token (Mark sign.CloseBrace) h.1 ∷ rest) h.3 (omega arith) tt
  forward_stat (If at test body) n front st ts rest h level ends =
      let t = h.4 in
      ap (λ ts. run n (Stats front st) ts) t.3
      ∙ deep n (Stats front st) (test_row (λ test. braces_row (λ body. else_row at test body front st) st) st) (levels st + 1) (token (Keyword word.If) at) (token (Mark sign.OpenParen) t.1 ∷ t.0) refl (omega arith)
      ∙ forward_paren test n (λ test. braces_row (λ body. else_row at test body front st) st) st t.0 h.0 t.2 t.4 (omega arith)
      ∙ ap (λ ts. run n (braces_row (λ body. else_row at test body front st) st) ts) h.5
      ∙ forward_stats body n (InBlock (λ body. else_row at test body front st) st) h.1 (token (Mark sign.CloseBrace) h.3 ∷ rest) h.6 (omega arith) tt
      ∙ no_else n at test body front st rest ends
  forward_stat (IfElse at test body other) n front st ts rest h level ends =
      let t = h.8 in
      ap (λ ts. run n (Stats front st) ts) t.3
      ∙ deep n (Stats front st) (test_row (λ test. braces_row (λ body. else_row at test body front st) st) st) (levels st + 1) (token (Keyword word.If) at) (token (Mark sign.OpenParen) t.1 ∷ t.0) refl (omega arith)
      ∙ forward_paren test n (λ test. braces_row (λ body. else_row at test body front st) st) st t.0 h.0 t.2 t.4 (omega arith)
      ∙ ap (λ ts. run n (braces_row (λ body. else_row at test body front st) st) ts) h.9
      ∙ forward_stats body n (InBlock (λ body. else_row at test body front st) st) h.1 (token (Mark sign.CloseBrace) h.4 ∷ token (Keyword word.Else) h.5 ∷ token (Mark sign.OpenBrace) h.6 ∷ h.2) h.10 (omega arith) tt
      ∙ forward_stats other n (InBlock (λ other. Stats (Then front (IfElse at test body other)) st) st) h.2 (token (Mark sign.CloseBrace) h.7 ∷ rest) h.11 (omega arith) tt
  forward_stat (While at test body) n front st ts rest h level ends =
      let t = h.4 in
      ap (λ ts. run n (Stats front st) ts) t.3
      ∙ deep n (Stats front st) (test_row (λ test. braces_row (λ body. Stats (Then front (While at test body)) st) st) st) (levels st + 1) (token (Keyword word.While) at) (token (Mark sign.OpenParen) t.1 ∷ t.0) refl (omega arith)
      ∙ forward_paren test n (λ test. braces_row (λ body. Stats (Then front (While at test body)) st) st) st t.0 h.0 t.2 t.4 (omega arith)
      ∙ ap (λ ts. run n (braces_row (λ body. Stats (Then front (While at test body)) st) st) ts) h.5
      ∙ forward_stats body n (InBlock (λ body. Stats (Then front (While at test body)) st) st) h.1 (token (Mark sign.CloseBrace) h.3 ∷ rest) h.6 (omega arith) tt
  forward_stat (Return at) n front st ts rest h level ends =
      ap (λ ts. run n (Stats front st) ts) h.1
      ∙ deep n (Stats front st) (return_row at front st) (levels st + 1) (token (Keyword word.Return) at) (token (Mark sign.Semicolon) h.0 ∷ rest) refl (omega arith)
  forward_stat (ReturnValue at e) n front st ts rest h level ends =
      ap (λ ts. run n (Stats front st) ts) h.2
      ∙ deep n (Stats front st) (return_row at front st) (levels st + 1) (token (Keyword word.Return) at) h.0 refl (omega arith)
      ∙ return_want n at front st h.0 (starts e h.0 (token (Mark sign.Semicolon) h.1 ∷ rest) h.3)
      ∙ forward_value e n (λ e. Stats (Then front (ReturnValue at e)) st) st h.0 rest h.1 h.3 (omega arith)
  forward_stat (Print at items) n front st ts rest h level ends =
      ap (λ ts. run n (Stats front st) ts) h.4
      ∙ deep n (Stats front st) (OnMark sign.OpenParen (λ _. Printing Empty (print_ends at front st) st) Never) (levels st + 1) (token (Keyword word.Print) at) (token (Mark sign.OpenParen) h.1 ∷ h.0) refl (omega arith)
      ∙ items_read items n (print_ends at front st) st h.0 (token (Mark sign.Semicolon) h.3 ∷ rest) h.2 h.5 (omega arith)
  forward_stat (Assert at e) n front st ts rest h level ends =
      let t = h.1 in
      ap (λ ts. run n (Stats front st) ts) t.3
      ∙ deep n (Stats front st) (test_row (λ e. OnMark sign.Semicolon (λ _. Stats (Then front (Assert at e)) st) Never) st) (levels st + 1) (token (Keyword word.Assert) at) (token (Mark sign.OpenParen) t.1 ∷ t.0) refl (omega arith)
      ∙ forward_paren e n (λ e. OnMark sign.Semicolon (λ _. Stats (Then front (Assert at e)) st) Never) st t.0 (token (Mark sign.Semicolon) h.0 ∷ rest) t.2 t.4 (omega arith)
  forward_stat (Exit at changes) n front st ts rest h level ends =
      ap (λ ts. run n (Stats front st) ts) h.4
      ∙ deep n (Stats front st) (exit_row at front st) (levels st + 1) (token (Keyword word.TaskExit) at) (token (Mark sign.OpenParen) h.1 ∷ h.0) refl (omega arith)
      ∙ exit_read changes n at front st h.0 rest h.2 h.3 h.5

  pub forward_stats : (ps : Statements) (n : ℕ) (st : Stack) (ts rest : List Seen) → SpellsStats ps ts rest → deepest ps + levels st ≤ n → NotElse (kind_at rest) → run n (Stats Nothing st) ts ≡ run n (Stats ps st) rest
  forward_stats Nothing n st ts rest h level ends = ap (λ ts. run n (Stats Nothing st) ts) h
  forward_stats (Then front last) n st ts rest h level ends =
      forward_stats front n st ts h.0 h.1 (omega arith) (starts_stat last h.0 rest h.2)
      ∙ forward_stat last n front st h.0 rest h.2 (omega arith) ends

-- formals and bodies

abbrev formal_behind : Sequence Formal → (Sequence Formal → State) → State
formal_behind formals next = OnMark sign.CloseParen (λ _. next formals) (OnMark sign.Comma (λ _. Declaring formals next) Never)

formal_type : (b : Base) (m : Bool) (n : ℕ) (a : Place) (x : Named) (formals : Sequence Formal) (next : Sequence Formal → State) (mid rest : List Seen) → SpellsBrackets m mid (name_token x ∷ rest) → run n (Declaring formals next) (token (base_lexeme b) a ∷ mid) ≡ run n (formal_behind (More formals (record { kind = kind_of b m a; name = x })) next) rest
formal_type base.Int false n a x formals next mid rest h = ap (λ ts. run n (Declaring formals next) (token (Keyword word.Int) a ∷ ts)) h
formal_type base.Int true n a x formals next mid rest h = ap (λ ts. run n (Declaring formals next) (token (Keyword word.Int) a ∷ ts)) h.2
formal_type base.Bool false n a x formals next mid rest h = ap (λ ts. run n (Declaring formals next) (token (Keyword word.Bool) a ∷ ts)) h
formal_type base.Bool true n a x formals next mid rest h = ap (λ ts. run n (Declaring formals next) (token (Keyword word.Bool) a ∷ ts)) h.2
formal_type (base.Class c) false n a x formals next mid rest h = ap (λ ts. run n (Declaring formals next) (token (Name c) a ∷ ts)) h
formal_type (base.Class c) true n a x formals next mid rest h = ap (λ ts. run n (Declaring formals next) (token (Name c) a ∷ ts)) h.2

formal_read : (n : ℕ) (f : Formal) (formals : Sequence Formal) (next : Sequence Formal → State) (ts rest : List Seen) → SpellsFormal f ts rest → run n (Declaring formals next) ts ≡ run n (formal_behind (More formals f) next) rest
formal_read n f formals next ts rest h =
    ap (λ ts. run n (Declaring formals next) ts) h.1
    ∙ formal_type f.kind.base f.kind.many n f.kind.at f.name formals next h.0 rest h.2

formals_front : (front : Sequence Formal) (n : ℕ) (next : Sequence Formal → State) (ts rest : List Seen) → Fronts SpellsFormal (Mark sign.Comma) front ts rest → run n (Declaring Empty next) ts ≡ run n (Declaring front next) rest
formals_front Empty n next ts rest h = ap (λ ts. run n (Declaring Empty next) ts) h
formals_front (More front f) n next ts rest h =
    formals_front front n next ts h.0 h.2
    ∙ formal_read n f front next h.0 (token (Mark sign.Comma) h.1 ∷ rest) h.3

base_not_paren : (n : ℕ) (b : Base) (a : Place) (next : Place → State) (other : State) (ts : List Seen) → run n (OnMark sign.CloseParen next other) (token (base_lexeme b) a ∷ ts) ≡ run n other (token (base_lexeme b) a ∷ ts)
base_not_paren n base.Int a next other ts = refl
base_not_paren n base.Bool a next other ts = refl
base_not_paren n (base.Class c) a next other ts = refl

formal_not_paren : (n : ℕ) (next : Place → State) (other : State) (f : Formal) (ts rest : List Seen) → SpellsFormal f ts rest → run n (OnMark sign.CloseParen next other) ts ≡ run n other ts
formal_not_paren n next other f ts rest h = ap (λ ts. run n (OnMark sign.CloseParen next other) ts) h.1 ∙ base_not_paren n f.kind.base f.kind.at next other h.0 ∙ ap (λ ts. run n other ts) (sym h.1)

body_read : (body : Statements) (n : ℕ) (next : Statements → State) (ts rest : List Seen) → SpellsBody body ts rest → deepest body ≤ n → run n (body_row next) ts ≡ run n (next body) rest
body_read body n next ts rest h level =
    ap (λ ts. run n (body_row next) ts) h.3
    ∙ forward_stats body n (Body next) h.0 (token (Mark sign.CloseBrace) h.2 ∷ rest) h.4 (omega arith) tt

code_read : (formals : Sequence Formal) (body : Statements) (n : ℕ) (next : Sequence Formal → Statements → State) (inner behind rest : List Seen) (close : Place) → Listed SpellsFormal (Mark sign.Comma) formals inner (token (Mark sign.CloseParen) close ∷ behind) → SpellsBody body behind rest → deepest body ≤ n → run n (code_row next) inner ≡ run n (next formals body) rest
code_read Empty body n next inner behind rest close h b level =
    ap (λ ts. run n (code_row next) ts) h
    ∙ body_read body n (next Empty) behind rest b level
code_read (More front f) body n next inner behind rest close h b level =
    skip_front SpellsFormal (Mark sign.Comma) n sign.CloseParen (λ _. body_row (next Empty)) (Declaring Empty (λ formals. body_row (next formals))) (formal_not_paren n (λ _. body_row (next Empty)) (Declaring Empty (λ formals. body_row (next formals)))) front f inner h.0 (token (Mark sign.CloseParen) close ∷ behind) h.1 h.2
    ∙ formals_front front n (λ formals. body_row (next formals)) inner h.0 h.1
    ∙ formal_read n f front (λ formals. body_row (next formals)) h.0 (token (Mark sign.CloseParen) close ∷ behind) h.2
    ∙ body_read body n (next (More front f)) behind rest b level

-- members

abbrev member_behind : TypeText → Named → Sequence Member → (Sequence Member → State) → State
member_behind kind x members next =
    OnMark sign.Semicolon (λ _. Members (More members (FieldMember (record { kind = kind; name = x }))) next)
    (OnMark sign.OpenParen (λ _. code_row (λ formals body. Members (More members (MethodMember (MethodOf (Some kind) x formals body))) next)) Never)

member_type : (b : Base) (m : Bool) (n : ℕ) (a : Place) (x : Named) (members : Sequence Member) (next : Sequence Member → State) (mid rest : List Seen) → SpellsBrackets m mid (name_token x ∷ rest) → run n (Members members next) (token (base_lexeme b) a ∷ mid) ≡ run n (member_behind (kind_of b m a) x members next) rest
member_type base.Int false n a x members next mid rest h = ap (λ ts. run n (Members members next) (token (Keyword word.Int) a ∷ ts)) h
member_type base.Int true n a x members next mid rest h = ap (λ ts. run n (Members members next) (token (Keyword word.Int) a ∷ ts)) h.2
member_type base.Bool false n a x members next mid rest h = ap (λ ts. run n (Members members next) (token (Keyword word.Bool) a ∷ ts)) h
member_type base.Bool true n a x members next mid rest h = ap (λ ts. run n (Members members next) (token (Keyword word.Bool) a ∷ ts)) h.2
member_type (base.Class c) false n a x members next mid rest h = ap (λ ts. run n (Members members next) (token (Name c) a ∷ ts)) h
member_type (base.Class c) true n a x members next mid rest h = ap (λ ts. run n (Members members next) (token (Name c) a ∷ ts)) h.2

member_read : (m : Member) (n : ℕ) (members : Sequence Member) (next : Sequence Member → State) (ts rest : List Seen) → SpellsMember m ts rest → member_depth m ≤ n → run n (Members members next) ts ≡ run n (Members (More members m) next) rest
member_read (FlagMember x) n members next ts rest h level = ap (λ ts. run n (Members members next) ts) h.2
member_read (FieldMember x) n members next ts rest h level =
    ap (λ ts. run n (Members members next) ts) h.1.1
    ∙ member_type x.kind.base x.kind.many n x.kind.at x.name members next h.1.0 (token (Mark sign.Semicolon) h.0 ∷ rest) h.1.2
member_read (MethodMember (MethodOf None x formals body)) n members next ts rest h level =
    ap (λ ts. run n (Members members next) ts) (h.1.1 ∙ ap (λ b. token (Keyword word.Void) h.1.0 ∷ name_token x ∷ b) h.2.4)
    ∙ code_read formals body n (λ formals body. Members (More members (MethodMember (MethodOf None x formals body))) next) h.2.0 h.2.1 rest h.2.3 h.2.5 h.2.6 level
member_read (MethodMember (MethodOf (Some kind) x formals body)) n members next ts rest h level =
    ap (λ ts. run n (Members members next) ts) h.1.1
    ∙ member_type kind.base kind.many n kind.at x members next h.1.0 h.0 h.1.2
    ∙ ap (λ ts. run n (member_behind kind x members next) ts) h.2.4
    ∙ code_read formals body n (λ formals body. Members (More members (MethodMember (MethodOf (Some kind) x formals body))) next) h.2.0 h.2.1 rest h.2.3 h.2.5 h.2.6 level
member_read (MakerMember (MethodOf result x formals body)) n members next ts rest h level =
    ap (λ ts. run n (Members members next) ts) (h.2 ∙ ap (λ b. name_token x ∷ b) h.3.4)
    ∙ code_read formals body n (λ formals body. Members (More members (MakerMember (MethodOf None x formals body))) next) h.3.0 h.3.1 rest h.3.3 h.3.5 h.3.6 level
    ∙ ap (λ result. run n (Members (More members (MakerMember (MethodOf result x formals body))) next) rest) (sym h.1)

members_read : (members : Sequence Member) (n : ℕ) (next : Sequence Member → State) (ts rest : List Seen) → Repeated SpellsMember members ts rest → largest member_depth members ≤ n → run n (Members Empty next) ts ≡ run n (Members members next) rest
members_read Empty n next ts rest h level = ap (λ ts. run n (Members Empty next) ts) h
members_read (More front m) n next ts rest h level =
    members_read front n next ts h.0 h.1 (omega arith)
    ∙ member_read m n front next h.0 rest h.2 (omega arith)

-- parameters of tasks

bind_read : (n : ℕ) (b : Bind) (binds : Sequence Bind) (more last : Sequence Bind → State) (ts rest : List Seen) → SpellsBind b ts rest → run n (Binding binds more last) ts ≡ run n (bind_behind (More binds b) more last) rest
bind_read n b binds more last ts rest h = ap (λ ts. run n (Binding binds more last) ts) h

binds_front : (front : Sequence Bind) (n : ℕ) (more last : Sequence Bind → State) (ts rest : List Seen) → Fronts SpellsBind (Keyword word.And) front ts rest → run n (Binding Empty more last) ts ≡ run n (Binding front more last) rest
binds_front Empty n more last ts rest h = ap (λ ts. run n (Binding Empty more last) ts) h
binds_front (More front b) n more last ts rest h =
    binds_front front n more last ts h.0 h.2
    ∙ bind_read n b front more last h.0 (token (Keyword word.And) h.1 ∷ rest) h.3

abbrev guard_bound : Named → Named → Sequence Param → (Sequence Param → State) → Guard → State
guard_bound kind x params next g = Binding Empty (λ binds. Parameters (More params (ParamOf kind x g binds)) next) (λ binds. next (More params (ParamOf kind x g binds)))

abbrev guarded : Named → Named → Sequence Param → (Sequence Param → State) → Stack
guarded kind x params next =
    Guarded (guard_bound kind x params next)
    (λ g. Parameters (More params (ParamOf kind x g Empty)) next)
    (λ g. next (More params (ParamOf kind x g Empty)))

binds_comma : (binds : Sequence Bind) (n : ℕ) (kind x : Named) (g : Guard) (params : Sequence Param) (next : Sequence Param → State) (ts rest : List Seen) (at : Place) → SpellsBinds binds ts (token (Mark sign.Comma) at ∷ rest) → run n (AfterFlag g (guarded kind x params next)) ts ≡ run n (Parameters (More params (ParamOf kind x g binds)) next) rest
binds_comma Empty n kind x g params next ts rest at h = ap (λ ts. run n (AfterFlag g (guarded kind x params next)) ts) h
binds_comma (More front b) n kind x g params next ts rest at h =
    ap (λ ts. run n (AfterFlag g (guarded kind x params next)) ts) h.2
    ∙ binds_front front n (λ binds. Parameters (More params (ParamOf kind x g binds)) next) (λ binds. next (More params (ParamOf kind x g binds))) h.0 h.3.0 h.3.1
    ∙ bind_read n b front (λ binds. Parameters (More params (ParamOf kind x g binds)) next) (λ binds. next (More params (ParamOf kind x g binds))) h.3.0 (token (Mark sign.Comma) at ∷ rest) h.3.2

binds_last : (binds : Sequence Bind) (n : ℕ) (kind x : Named) (g : Guard) (params : Sequence Param) (next : Sequence Param → State) (ts rest : List Seen) (at : Place) → SpellsBinds binds ts (token (Mark sign.CloseParen) at ∷ rest) → run n (AfterFlag g (guarded kind x params next)) ts ≡ run n (next (More params (ParamOf kind x g binds))) rest
binds_last Empty n kind x g params next ts rest at h = ap (λ ts. run n (AfterFlag g (guarded kind x params next)) ts) h
binds_last (More front b) n kind x g params next ts rest at h =
    ap (λ ts. run n (AfterFlag g (guarded kind x params next)) ts) h.2
    ∙ binds_front front n (λ binds. Parameters (More params (ParamOf kind x g binds)) next) (λ binds. next (More params (ParamOf kind x g binds))) h.0 h.3.0 h.3.1
    ∙ bind_read n b front (λ binds. Parameters (More params (ParamOf kind x g binds)) next) (λ binds. next (More params (ParamOf kind x g binds))) h.3.0 (token (Mark sign.CloseParen) at ∷ rest) h.3.2

guard_ends : (binds : Sequence Bind) (g : Guard) (k : Lexeme) (at : Place) (ts rest : List Seen) → flag_reach k ≡ 4 → SpellsBinds binds ts (token k at ∷ rest) → guard_loose g ≤ flag_reach (kind_at ts)
guard_ends Empty g k at ts rest r h = omega (arith, ap (λ ts. flag_reach (kind_at ts)) h, guard_loose_high g)
guard_ends (More front b) g k at ts rest r h = omega (arith, ap (λ ts. flag_reach (kind_at ts)) h.2, guard_loose_high g)

param_comma : (p : Param) (n : ℕ) (params : Sequence Param) (next : Sequence Param → State) (ts rest : List Seen) (at : Place) → SpellsParam p ts (token (Mark sign.Comma) at ∷ rest) → param_depth p ≤ n → run n (Parameters params next) ts ≡ run n (Parameters (More params p) next) rest
param_comma (ParamOf kind x g binds) n params next ts rest at h level =
    ap (λ ts. run n (Parameters params next) ts) h.3
    ∙ forward_guard g n (guarded kind x params next) h.0 h.1 h.4 (omega arith) tt (guard_ends binds g (Mark sign.Comma) at h.1 rest refl h.5)
    ∙ binds_comma binds n kind x g params next h.1 rest at h.5

param_last : (p : Param) (n : ℕ) (params : Sequence Param) (next : Sequence Param → State) (ts rest : List Seen) (at : Place) → SpellsParam p ts (token (Mark sign.CloseParen) at ∷ rest) → param_depth p ≤ n → run n (Parameters params next) ts ≡ run n (next (More params p)) rest
param_last (ParamOf kind x g binds) n params next ts rest at h level =
    ap (λ ts. run n (Parameters params next) ts) h.3
    ∙ forward_guard g n (guarded kind x params next) h.0 h.1 h.4 (omega arith) tt (guard_ends binds g (Mark sign.CloseParen) at h.1 rest refl h.5)
    ∙ binds_last binds n kind x g params next h.1 rest at h.5

params_front : (front : Sequence Param) (n : ℕ) (next : Sequence Param → State) (ts rest : List Seen) → Fronts SpellsParam (Mark sign.Comma) front ts rest → largest param_depth front ≤ n → run n (Parameters Empty next) ts ≡ run n (Parameters front next) rest
params_front Empty n next ts rest h level = ap (λ ts. run n (Parameters Empty next) ts) h
params_front (More front p) n next ts rest h level =
    params_front front n next ts h.0 h.2 (omega arith)
    ∙ param_comma p n front next h.0 rest h.1 h.3 (omega arith)

params_read : (params : Sequence Param) (n : ℕ) (next : Sequence Param → State) (ts rest : List Seen) (at : Place) → Separated SpellsParam (Mark sign.Comma) params ts (token (Mark sign.CloseParen) at ∷ rest) → largest param_depth params ≤ n → run n (Parameters Empty next) ts ≡ run n (next params) rest
params_read Empty n next ts rest at h level = absurd h
params_read (More front p) n next ts rest at h level =
    params_front front n next ts h.0 h.1 (omega arith)
    ∙ param_last p n front next h.0 rest at h.2 (omega arith)

-- items

item_read : (i : Item) (n : ℕ) (items : Sequence Item) (ts rest : List Seen) → SpellsItem i ts rest → item_depth i ≤ n → run n (Items items) ts ≡ run n (Items (More items i)) rest
item_read (TagTypeItem x) n items ts rest h level = ap (λ ts. run n (Items items) ts) h.2
item_read (ClassItem x members) n items ts rest h level =
    ap (λ ts. run n (Items items) ts) h.4
    ∙ members_read members n (λ members. Items (More items (ClassItem x members))) h.0 (token (Mark sign.CloseBrace) h.3 ∷ rest) h.5 level
item_read (TaskItem at x params body) n items ts rest h level =
    ap (λ ts. run n (Items items) ts) h.4
    ∙ params_read params n (λ params. body_row (λ body. Items (More items (TaskItem at x params body)))) h.0 h.1 h.3 h.5 (omega arith)
    ∙ body_read body n (λ body. Items (More items (TaskItem at x params body))) h.1 rest h.6 (omega arith)

pub forward_items : (items : Sequence Item) (n : ℕ) (ts rest : List Seen) → Repeated SpellsItem items ts rest → largest item_depth items ≤ n → run n (Items Empty) ts ≡ run n (Items items) rest
forward_items Empty n ts rest h level = ap (λ ts. run n (Items Empty) ts) h
forward_items (More front i) n ts rest h level =
    forward_items front n ts h.0 h.1 (omega arith)
    ∙ item_read i n front h.0 rest h.2 (omega arith)
