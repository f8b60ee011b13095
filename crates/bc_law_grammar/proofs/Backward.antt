-- What the machine has read spells what it holds.
use Rattle.std.proofs.Common.{◌≡◌, ℕ, List, [], ◌∷◌, refl, ap, sym, subst, ◌∙◌, ◌+◌, ◌≤◌, ◌<◌, max, arith, Bool, true, false, nat_le, if◌then◌else◌, inl, inr}
use Rattle.std.proofs.lemmas.Bool.{leb-true, leb-false}
use Rattle.std.specs.Prelude.{Some, None, Option}
use denote.Enum.Bare.{same_true}
use Rattle.bc_data.specs.Seen.{Lexeme, Seen, Keyword, Name, Number, Text, Mark, End}
use Rattle.bc_data.specs.SourceTree.{Sequence, Empty, More, largest, Expression, Int, Truth, Null, This, Var, Group, Neg, Not, Two, Field, Length, Elem, Call, Make, Array, Expressions, NoArg, Arg, height, tallest, GuardOp, AndOp, OrOp, Guard, FlagIs, FlagTruth, FlagNot, FlagTwo, FlagGroup, guard_height, PrintItem, TextItem, ValueItem, item_height, Change, ChangeOf, Statement, Let, NewTag, Assign, Do, MakeDo, Block, If, IfElse, While, Return, ReturnValue, Print, Assert, Exit, Statements, Nothing, Then, depth, deepest, Method, MethodOf, Member, FlagMember, FieldMember, MethodMember, MakerMember, member_depth, Param, ParamOf, param_depth, Item, TagTypeItem, ClassItem, TaskItem, item_depth}
use Rattle.bc_data.specs.Grammar.{token, name_token, sign_of, looseness, loose, Fronts, Separated, Listed, Repeated, SpellsAction, SpellsTweaks, base_lexeme, SpellsType, Spells, SpellsArgs, SpellsFront, IsChain, IsTarget, IsMade, SpellsPrintItem, SpellsChange, SpellsTest, SpellsStat, SpellsStats, guard_looseness, guard_word, guard_loose, SpellsGuard, SpellsBind, SpellsBinds, SpellsParam, SpellsFormal, SpellsBody, SpellsCode, SpellsResult, SpellsMember, SpellsItem}
use Rattle.bc_data.specs.declared.run.Place.{Place}
use Rattle.bc_data.specs.declared.program.Op.{Op}
use Rattle.bc_data.specs.declared.program.Op.TheVariants as op
use Rattle.bc_data.specs.declared.token.Word.{Word}
use Rattle.bc_data.specs.declared.token.Sign.{Sign}
use Rattle.bc_data.specs.declared.token.Word.TheVariants as word
use Rattle.bc_data.specs.declared.token.Sign.TheVariants as sign
use Rattle.bc_data.specs.contracts.token.Word as word_type
use Rattle.bc_data.specs.contracts.token.Sign as sign_type
use Rattle.bc_data.specs.declared.tree.Named.{Named}
use Rattle.bc_data.specs.declared.tree.TypeText.{TypeText}
use Rattle.bc_data.specs.declared.tree.Base.{Base}
use Rattle.bc_data.specs.declared.tree.Base.TheVariants as base
use Rattle.bc_data.specs.declared.tree.Formal.{Formal}
use Rattle.bc_data.specs.declared.tree.Bind.{Bind}
use Rattle.bc_data.specs.declared.tree.ActionText.{ActionText}
use Rattle.bc_data.specs.declared.tree.ActionText.TheVariants as action
use Rattle.bc_law_grammar.specs.Machine.{Closer, Paren, Bracket, Semicolon, Stack, Body, Guarded, InNeg, InNot, InTwo, Inside, InArgs, InPrint, InChain, InMade, InBlock, InFlagNot, InFlagTwo, InFlagGroup, State, Never, OnMark, OnWord, OnName, Want, Got, After, Dotted, Bracketed, Stats, Printing, Tweaking, Acting, Changing, Declaring, Parameters, Binding, WantFlag, AfterFlag, Members, Items, Done, Step, No, On, Deep, levels, raise, one_type, many_type, brackets, args_row, tweaks_row, array, array_row, new_row, let_value, let_row, tag_row, made_row, test_row, braces_row, else_row, return_row, print_ends, print_behind, exit_ends, exit_row, truth_row, tweak_behind, act_behind, change_row, formal_row, body_row, code_row, bind_behind, param_row, member_row, maker_row, void_row, flag_row, tag_type_row, class_row, task_row, assign_value, elem_value, want, reach, outer, push, assign, call_ends, declare, chain_ends, made_ends, settle, open_call, bracket, link, not_link, length_step, dotted, bracketed, close_brace, stat, printing, tweaking, acting, changing, declaring, parameters, binding, member, item, want_flag, flag_reach, outer_flag, push_flag, settle_flag, same_mark, same_word, on_name, step, Room, FlagRoom}
use Rattle.bc_law_grammar.proofs.Steps.{looseness_low}
use Rattle.bc_law_grammar.proofs.Forward.{tight_room, room_down, flag_room_down, chain_extra, chain_extra_low, guard_loose_high, loose_high}

-- where a list of statements stands
abbrev pub Floor : Stack → Type 0
Floor (Body next) = Unit {0}
Floor (InBlock next st) = Unit {0}
Floor _ = ⊥

-- where any operand may stand
abbrev pub Wants : Stack → Type 0
Wants (InNeg at st) = Unit {0}
Wants (InNot at st) = Unit {0}
Wants (InTwo at op a st) = Unit {0}
Wants (Inside close next st) = Unit {0}
Wants (InArgs args next st) = Unit {0}
Wants (InPrint items next st) = Unit {0}
Wants _ = ⊥

-- what begins a statement is a chain, with room for the link that may have to follow, or a `new`
abbrev pub Fits : ℕ → Expression → Stack → Type 0
Fits n e (InChain front st) = IsChain e × (height e + levels st + 1 + chain_extra e ≤ n)
Fits n e (InMade front st) = IsMade e
Fits n e (InNeg at st) = Unit {0}
Fits n e (InNot at st) = Unit {0}
Fits n e (InTwo at op a st) = Unit {0}
Fits n e (Inside close next st) = Unit {0}
Fits n e (InArgs args next st) = Unit {0}
Fits n e (InPrint items next st) = Unit {0}
Fits n e _ = ⊥

abbrev pub closing : Closer → Sign
closing Paren = sign.CloseParen
closing Bracket = sign.CloseBracket
closing Semicolon = sign.Semicolon

abbrev mutual
  -- from the start of all to rest the tokens spell what is open, within n levels
  pub Leads : ℕ → List Seen → Stack → List Seen → Type 0
  Leads n all (Body next) rest = (ps : Statements) (close : Place) (ts : List Seen) → deepest ps ≤ n → SpellsStats ps rest (token (Mark sign.CloseBrace) close ∷ ts) → Has n all (next ps) ts
  Leads n all (Guarded bound more last) rest =
      ((g : Guard) (at : Place) (ts : List Seen) → guard_height g ≤ n → SpellsGuard g rest (token (Keyword word.With) at ∷ ts) → Has n all (bound g) ts)
      × ((g : Guard) (at : Place) (ts : List Seen) → guard_height g ≤ n → SpellsGuard g rest (token (Mark sign.Comma) at ∷ ts) → Has n all (more g) ts)
      × ((g : Guard) (at : Place) (ts : List Seen) → guard_height g ≤ n → SpellsGuard g rest (token (Mark sign.CloseParen) at ∷ ts) → Has n all (last g) ts)
  Leads n all (InNeg at st) rest = (levels st + 1 ≤ n) × Wants st × Leads n all st (token (Mark sign.Minus) at ∷ rest)
  Leads n all (InNot at st) rest = (levels st + 1 ≤ n) × Wants st × Leads n all st (token (Mark sign.Bang) at ∷ rest)
  Leads n all (InTwo at op a st) rest = (mid : List Seen) × (height a + levels st + 1 ≤ n) × (loose a ≤ looseness op) × Room (looseness op) st × Leads n all st mid × Spells a mid (token (Mark (sign_of op)) at ∷ rest)
  Leads n all (Inside close next st) rest = (levels st + 1 ≤ n) × ((e : Expression) (at : Place) (ts : List Seen) → height e + levels st + 1 ≤ n → Spells e rest (token (Mark (closing close)) at ∷ ts) → Has n all (next e) ts)
  Leads n all (InArgs args next st) rest = (start : List Seen) × (tallest args + levels st + 1 ≤ n) × SpellsFront args start rest × ((args : Expressions) (at : Place) (ts : List Seen) → tallest args + levels st + 1 ≤ n → SpellsArgs args start (token (Mark sign.CloseParen) at ∷ ts) → Has n all (next args) ts)
  Leads n all (InPrint items next st) rest = (start : List Seen) × (largest item_height items + levels st + 1 ≤ n) × Fronts SpellsPrintItem (Mark sign.Comma) items start rest × ((items : Sequence PrintItem) (at : Place) (ts : List Seen) → largest item_height items + levels st + 1 ≤ n → Separated SpellsPrintItem (Mark sign.Comma) items start (token (Mark sign.CloseParen) at ∷ ts) → Has n all (next items) ts)
  Leads n all (InChain front st) rest = (mid : List Seen) × (levels st + 1 ≤ n) × (deepest front + levels st ≤ n) × Floor st × Leads n all st mid × SpellsStats front mid rest
  Leads n all (InMade front st) rest = (mid : List Seen) × (levels st + 1 ≤ n) × (deepest front + levels st ≤ n) × Floor st × Leads n all st mid × SpellsStats front mid rest
  Leads n all (InBlock next st) rest = (levels st + 1 ≤ n) × ((ps : Statements) (close : Place) (ts : List Seen) → deepest ps + levels st + 1 ≤ n → SpellsStats ps rest (token (Mark sign.CloseBrace) close ∷ ts) → Has n all (next ps) ts)
  Leads n all (InFlagNot st) rest = (at : Place) × (levels st + 1 ≤ n) × FlagRoom 1 st × Leads n all st (token (Mark sign.Bang) at ∷ rest)
  Leads n all (InFlagTwo op g st) rest = (mid : List Seen) × (at : Place) × (guard_height g + levels st + 1 ≤ n) × (guard_loose g ≤ guard_looseness op) × FlagRoom (guard_looseness op) st × Leads n all st mid × SpellsGuard g mid (token (Keyword (guard_word op)) at ∷ rest)
  Leads n all (InFlagGroup st) rest = (at : Place) × (levels st + 1 ≤ n) × FlagRoom 1 st × Leads n all st (token (Mark sign.OpenParen) at ∷ rest)

  -- the same of a state; a row has it where what it awaits leads to a state that has it
  pub Has : ℕ → List Seen → State → List Seen → Type 0
  Has n all Never rest = ⊥
  Has n all (OnMark s next Never) rest = (at : Place) (ts : List Seen) → rest ≡ token (Mark s) at ∷ ts → Has n all (next at) ts
  Has n all (OnMark s next other) rest = ((at : Place) (ts : List Seen) → rest ≡ token (Mark s) at ∷ ts → Has n all (next at) ts) × Has n all other rest
  Has n all (OnWord w next Never) rest = (at : Place) (ts : List Seen) → rest ≡ token (Keyword w) at ∷ ts → Has n all (next at) ts
  Has n all (OnWord w next other) rest = ((at : Place) (ts : List Seen) → rest ≡ token (Keyword w) at ∷ ts → Has n all (next at) ts) × Has n all other rest
  Has n all (OnName next Never) rest = (x : Named) (ts : List Seen) → rest ≡ name_token x ∷ ts → Has n all (next x) ts
  Has n all (OnName next other) rest = ((x : Named) (ts : List Seen) → rest ≡ name_token x ∷ ts → Has n all (next x) ts) × Has n all other rest
  Has n all (Want st) rest = Wants st × Leads n all st rest
  Has n all (Got e st) rest = (mid : List Seen) × (height e + levels st ≤ n) × (loose e ≡ 0) × Fits n e st × Leads n all st mid × Spells e mid rest
  Has n all (After e st) rest = (mid : List Seen) × (height e + levels st ≤ n) × Room (loose e) st × Fits n e st × Leads n all st mid × Spells e mid rest × (loose e ≡ 1)
  Has n all (Dotted at e st) rest = (mid : List Seen) × (height e + levels st + 1 ≤ n) × (loose e ≡ 0) × Fits n e st × Leads n all st mid × Spells e mid (token (Mark sign.Dot) at ∷ rest)
  Has n all (Bracketed at kind front st) rest = (mid : List Seen) × (levels st + 1 ≤ n) × (deepest front + levels st ≤ n) × Floor st × Leads n all st mid × SpellsStats front mid (name_token kind ∷ token (Mark sign.OpenBracket) at ∷ rest)
  Has n all (Stats ps st) rest = (mid : List Seen) × (deepest ps + levels st ≤ n) × Floor st × Leads n all st mid × SpellsStats ps mid rest
  Has n all (Printing items next st) rest = (start : List Seen) × (largest item_height items + levels st + 1 ≤ n) × Fronts SpellsPrintItem (Mark sign.Comma) items start rest × ((items : Sequence PrintItem) (at : Place) (ts : List Seen) → largest item_height items + levels st + 1 ≤ n → Separated SpellsPrintItem (Mark sign.Comma) items start (token (Mark sign.CloseParen) at ∷ ts) → Has n all (next items) ts)
  Has n all (Tweaking tweaks next) rest = (start : List Seen) × Fronts (SpellsAction false) (Mark sign.Comma) tweaks start rest × ((tweaks : Sequence ActionText) (at : Place) (ts : List Seen) → Separated (SpellsAction false) (Mark sign.Comma) tweaks start (token (Mark sign.CloseBrace) at ∷ ts) → Has n all (next tweaks) ts)
  Has n all (Acting actions more last) rest = (start : List Seen) × Fronts (SpellsAction true) (Mark sign.Comma) actions start rest
      × ((actions : Sequence ActionText) (at : Place) (ts : List Seen) → Separated (SpellsAction true) (Mark sign.Comma) actions start (token (Mark sign.Semicolon) at ∷ ts) → Has n all (more actions) ts)
      × ((actions : Sequence ActionText) (at : Place) (ts : List Seen) → Separated (SpellsAction true) (Mark sign.Comma) actions start (token (Mark sign.CloseParen) at ∷ ts) → Has n all (last actions) ts)
  Has n all (Changing changes next) rest = (start : List Seen) × Fronts SpellsChange (Mark sign.Semicolon) changes start rest × ((changes : Sequence Change) (at : Place) (ts : List Seen) → Separated SpellsChange (Mark sign.Semicolon) changes start (token (Mark sign.CloseParen) at ∷ ts) → Has n all (next changes) ts)
  Has n all (Declaring formals next) rest = (start : List Seen) × Fronts SpellsFormal (Mark sign.Comma) formals start rest × ((formals : Sequence Formal) (at : Place) (ts : List Seen) → Separated SpellsFormal (Mark sign.Comma) formals start (token (Mark sign.CloseParen) at ∷ ts) → Has n all (next formals) ts)
  Has n all (Parameters params next) rest = (start : List Seen) × (largest param_depth params ≤ n) × Fronts SpellsParam (Mark sign.Comma) params start rest × ((params : Sequence Param) (at : Place) (ts : List Seen) → largest param_depth params ≤ n → Separated SpellsParam (Mark sign.Comma) params start (token (Mark sign.CloseParen) at ∷ ts) → Has n all (next params) ts)
  Has n all (Binding binds more last) rest = (start : List Seen) × Fronts SpellsBind (Keyword word.And) binds start rest
      × ((binds : Sequence Bind) (at : Place) (ts : List Seen) → Separated SpellsBind (Keyword word.And) binds start (token (Mark sign.Comma) at ∷ ts) → Has n all (more binds) ts)
      × ((binds : Sequence Bind) (at : Place) (ts : List Seen) → Separated SpellsBind (Keyword word.And) binds start (token (Mark sign.CloseParen) at ∷ ts) → Has n all (last binds) ts)
  Has n all (WantFlag st) rest = FlagRoom 1 st × Leads n all st rest
  Has n all (AfterFlag g st) rest = (mid : List Seen) × (guard_height g + levels st ≤ n) × FlagRoom (guard_loose g) st × Leads n all st mid × SpellsGuard g mid rest × (guard_loose g ≡ 0)
  Has n all (Members members next) rest = (start : List Seen) × (largest member_depth members ≤ n) × Repeated SpellsMember members start rest × ((members : Sequence Member) (at : Place) (ts : List Seen) → largest member_depth members ≤ n → Repeated SpellsMember members start (token (Mark sign.CloseBrace) at ∷ ts) → Has n all (next members) ts)
  Has n all (Items items) rest = (largest item_depth items ≤ n) × Repeated SpellsItem items all rest
  Has n all (Done items) rest = (at : Place) × (largest item_depth items ≤ n) × Repeated SpellsItem items all (token End at ∷ rest)

-- an expression that no link follows
abbrev pub Ended : ℕ → List Seen → Expression → Stack → List Seen → Type 0
Ended n all e st rest = (mid : List Seen) × (height e + levels st ≤ n) × Room (loose e) st × Fits n e st × Leads n all st mid × Spells e mid rest

abbrev pub EndedFlag : ℕ → List Seen → Guard → Stack → List Seen → Type 0
EndedFlag n all g st rest = (mid : List Seen) × (guard_height g + levels st ≤ n) × FlagRoom (guard_loose g) st × Leads n all st mid × SpellsGuard g mid rest

-- the same of where a token leads
abbrev pub HasStep : ℕ → List Seen → Step → List Seen → Type 0
HasStep n all No rest = Unit {0}
HasStep n all (On next) rest = Has n all next rest
HasStep n all (Deep next need) rest = need ≤ n → Has n all next rest

pub wants_room : (st : Stack) → Wants st → Room 1 st
wants_room (InNeg at st) w = omega arith
wants_room (InNot at st) w = omega arith
wants_room (InTwo at op a st) w = omega (arith, looseness_low op)
wants_room (Inside close next st) w = tt
wants_room (InArgs args next st) w = tt
wants_room (InPrint items next st) w = tt
wants_room _ w = absurd w

pub wants_fits : (n : ℕ) (e : Expression) (st : Stack) → Wants st → Fits n e st
wants_fits n e (InNeg at st) w = tt
wants_fits n e (InNot at st) w = tt
wants_fits n e (InTwo at op a st) w = tt
wants_fits n e (Inside close next st) w = tt
wants_fits n e (InArgs args next st) w = tt
wants_fits n e (InPrint items next st) w = tt
wants_fits n e _ w = absurd w

pub room_wants : (q : ℕ) (st : Stack) → 2 ≤ q → Room q st → Wants st
room_wants q (InNeg at st) two room = tt
room_wants q (InNot at st) two room = tt
room_wants q (InTwo at op a st) two room = tt
room_wants q (Inside close next st) two room = tt
room_wants q (InArgs args next st) two room = tt
room_wants q (InPrint items next st) two room = tt
room_wants q (InMade front st) two room = absurd (omega arith)
room_wants q _ two room = absurd (omega arith)

made_loose : (e : Expression) → IsMade e → loose e ≡ 1
made_loose (Make at x args tweaks) h = refl
made_loose _ h = absurd h

pub longer : (n : ℕ) (a e : Expression) (st : Stack) → (IsChain a → IsChain e) → height e + levels st ≤ n → chain_extra e ≡ 0 → loose a ≡ 0 → Fits n a st → Fits n e st
longer n a e (InChain front st) f level zero tight h = (f h.0, omega arith)
longer n a e (InMade front st) f level zero tight h = absurd (omega (arith, made_loose a h))
longer n a e (InNeg at st) f level zero tight h = tt
longer n a e (InNot at st) f level zero tight h = tt
longer n a e (InTwo at op b st) f level zero tight h = tt
longer n a e (Inside close next st) f level zero tight h = tt
longer n a e (InArgs args next st) f level zero tight h = tt
longer n a e (InPrint items next st) f level zero tight h = tt
longer n a e _ f level zero tight h = h

pub mark_true : (s : Sign) (k : Lexeme) → same_mark s k ≡ true → k ≡ Mark s
mark_true s (Mark t) h = ap Mark (sym (same_true sign_type.the_type tt s t h))
mark_true s (Keyword w) h = absurd (cc)
mark_true s (Name x) h = absurd (cc)
mark_true s (Number x) h = absurd (cc)
mark_true s (Text x) h = absurd (cc)
mark_true s End h = absurd (cc)

pub word_true : (w : Word) (k : Lexeme) → same_word w k ≡ true → k ≡ Keyword w
word_true w (Keyword v) h = ap Keyword (sym (same_true word_type.the_type tt w v h))
word_true w (Mark s) h = absurd (cc)
word_true w (Name x) h = absurd (cc)
word_true w (Number x) h = absurd (cc)
word_true w (Text x) h = absurd (cc)
word_true w End h = absurd (cc)

tweaks_of : (tweaks : Sequence ActionText) (ts inner rest : List Seen) (open_at close : Place) → ts ≡ token (Mark sign.OpenBrace) open_at ∷ inner → Separated (SpellsAction false) (Mark sign.Comma) tweaks inner (token (Mark sign.CloseBrace) close ∷ rest) → SpellsTweaks tweaks ts rest
tweaks_of Empty ts inner rest open_at close e h = absurd h
tweaks_of (More front a) ts inner rest open_at close e h = (inner, open_at, close, e, h)

pub listed_of : {A : Type 0} (Item : A → List Seen → List Seen → Type 0) (separator : Lexeme) (xs : Sequence A) (ts rest : List Seen) → Separated Item separator xs ts rest → Listed Item separator xs ts rest
listed_of Item separator Empty ts rest h = absurd h
listed_of Item separator (More front x) ts rest h = h

pub binds_of : (binds : Sequence Bind) (ts inner rest : List Seen) (at : Place) → ts ≡ token (Keyword word.With) at ∷ inner → Separated SpellsBind (Keyword word.And) binds inner rest → SpellsBinds binds ts rest
binds_of Empty ts inner rest at e h = absurd h
binds_of (More front b) ts inner rest at e h = (inner, at, e, h)

module _ (n : ℕ) (all : List Seen) where
  pub leads_level : (st : Stack) (rest : List Seen) → Leads n all st rest → levels st ≤ n
  leads_level (Body next) rest h = omega arith
  leads_level (Guarded bound more last) rest h = omega arith
  leads_level (InNeg at st) rest h = omega (arith, h.0)
  leads_level (InNot at st) rest h = omega (arith, h.0)
  leads_level (InTwo at op a st) rest h = omega (arith, h.1)
  leads_level (Inside close next st) rest h = omega (arith, h.0)
  leads_level (InArgs args next st) rest h = omega (arith, h.1)
  leads_level (InPrint items next st) rest h = omega (arith, h.1)
  leads_level (InChain front st) rest h = omega (arith, h.1)
  leads_level (InMade front st) rest h = omega (arith, h.1)
  leads_level (InBlock next st) rest h = omega (arith, h.0)
  leads_level (InFlagNot st) rest h = omega (arith, h.1)
  leads_level (InFlagTwo op g st) rest h = omega (arith, h.2)
  leads_level (InFlagGroup st) rest h = omega (arith, h.1)

  pub by_bool : (b : Bool) (x y : Step) (ts : List Seen) → (b ≡ true → HasStep n all x ts) → (b ≡ false → HasStep n all y ts) → HasStep n all (if b then x else y) ts
  by_bool true x y ts f g = f refl
  by_bool false x y ts f g = g refl

  pub by_test : (a b : ℕ) (x y : Step) (ts : List Seen) → (a ≤ b → HasStep n all x ts) → (b < a → HasStep n all y ts) → HasStep n all (if nat_le a b then x else y) ts
  by_test a b x y ts f g = by_bool (nat_le a b) x y ts (λ e. f (leb-true a b e)) (λ e. g (leb-false a b e))

  -- expressions

  pub has_args : (next : Expressions → State) (st : Stack) (ts : List Seen) → levels st + 1 ≤ n → ((args : Expressions) (at : Place) (rest : List Seen) → tallest args + levels st + 1 ≤ n → SpellsArgs args ts (token (Mark sign.CloseParen) at ∷ rest) → Has n all (next args) rest) → Has n all (args_row next st) ts
  has_args next st ts le f = (λ at rest e. f NoArg at rest (omega arith) e, (tt, (ts, omega arith, refl, f)))

  pub has_tweaks : (at : Place) (x : Named) (args : Expressions) (st : Stack) (mid inner behind : List Seen) (open_at close : Place) → tallest args + levels st + 1 ≤ n → Room 1 st → ((tweaks : Sequence ActionText) → Fits n (Make at x args tweaks) st) → Leads n all st mid
      → mid ≡ token (Keyword word.New) at ∷ name_token x ∷ token (Mark sign.OpenParen) open_at ∷ inner → SpellsArgs args inner (token (Mark sign.CloseParen) close ∷ behind) → Has n all (tweaks_row at x args st) behind
  has_tweaks at x args st mid inner behind open_at close level room fits leads e h =
      let made : (tweaks : Sequence ActionText) (rest : List Seen) → SpellsTweaks tweaks behind rest → Has n all (After (Make at x args tweaks) st) rest = λ tweaks rest t. (mid, omega arith, room, fits tweaks, leads, (inner, behind, open_at, close, e, h, t), omega arith) in (
        λ o ts e1. (λ c rest e2. made Empty rest (inr (o, c, e1 ∙ ap (λ l. token (Mark sign.OpenBrace) o ∷ l) e2)), (ts, refl, λ tweaks c rest s. made tweaks rest (tweaks_of tweaks behind ts rest o c e1 s))),
        made Empty behind (inl refl),
      )

  has_array : (b : Base) (at here open_at : Place) (st : Stack) (mid inner : List Seen) → levels st + 1 ≤ n → Wants st → Leads n all st mid → mid ≡ token (Keyword word.New) at ∷ token (base_lexeme b) here ∷ token (Mark sign.OpenBracket) open_at ∷ inner → Has n all (array at (one_type b here) st) inner
  has_array b at here open_at st mid inner le w leads e = (tt, (le, λ a c rest level s. (mid, omega arith, wants_room st w, wants_fits n (Array at (one_type b here) a) st w, leads, (inner, open_at, c, refl, e, s), omega arith)))

  has_new : (at : Place) (st : Stack) (ts : List Seen) → levels st + 1 ≤ n → Wants st → Leads n all st (token (Keyword word.New) at ∷ ts) → Has n all (new_row at st) ts
  has_new at st ts le w leads = (
    λ x ts1 e1. (
      λ o ts2 e2. has_args (λ args. tweaks_row at x args st) st ts2 le (λ args c rest level s. has_tweaks at x args st (token (Keyword word.New) at ∷ ts) ts2 rest o c level (wants_room st w) (λ tweaks. wants_fits n (Make at x args tweaks) st w) leads (ap (λ l. token (Keyword word.New) at ∷ l) (e1 ∙ ap (λ l. name_token x ∷ l) e2)) s),
      λ o ts2 e2. has_array (base.Class x.name) at x.at o st (token (Keyword word.New) at ∷ ts) ts2 le w leads (ap (λ l. token (Keyword word.New) at ∷ l) (e1 ∙ ap (λ l. name_token x ∷ l) e2)),
    ),
    (
      λ a ts1 e1. λ o ts2 e2. has_array base.Int at a o st (token (Keyword word.New) at ∷ ts) ts2 le w leads (ap (λ l. token (Keyword word.New) at ∷ l) (e1 ∙ ap (λ l. token (Keyword word.Int) a ∷ l) e2)),
      λ a ts1 e1. λ o ts2 e2. has_array base.Bool at a o st (token (Keyword word.New) at ∷ ts) ts2 le w leads (ap (λ l. token (Keyword word.New) at ∷ l) (e1 ∙ ap (λ l. token (Keyword word.Bool) a ∷ l) e2)),
    ),
  )

  has_leaf : (e : Expression) (st : Stack) (mid ts : List Seen) → height e ≡ 0 → loose e ≡ 0 → Wants st → Leads n all st mid → Spells e mid ts → Has n all (Got e st) ts
  has_leaf e st mid ts low zero w leads s = (mid, omega (arith, leads_level st mid leads), zero, wants_fits n e st w, leads, s)

  pub has_want : (k : Lexeme) (at : Place) (st : Stack) (ts : List Seen) → Wants st → Leads n all st (token k at ∷ ts) → HasStep n all (want k at st) ts
  has_want (Number k) at st ts w h = has_leaf (Int at k) st (token (Number k) at ∷ ts) ts refl refl w h refl
  has_want (Keyword word.True) at st ts w h = has_leaf (Truth at true) st (token (Keyword word.True) at ∷ ts) ts refl refl w h refl
  has_want (Keyword word.False) at st ts w h = has_leaf (Truth at false) st (token (Keyword word.False) at ∷ ts) ts refl refl w h refl
  has_want (Keyword word.Null) at st ts w h = has_leaf (Null at) st (token (Keyword word.Null) at ∷ ts) ts refl refl w h refl
  has_want (Keyword word.This) at st ts w h = has_leaf (This at) st (token (Keyword word.This) at ∷ ts) ts refl refl w h refl
  has_want (Keyword word.New) at st ts w h = λ le. has_new at st ts le w h
  has_want (Name k) at st ts w h = has_leaf (Var (record { name = k; at = at })) st (token (Name k) at ∷ ts) ts refl refl w h refl
  has_want (Mark sign.OpenParen) at st ts w h = λ le. (tt, (le, λ e c rest level s. (token (Mark sign.OpenParen) at ∷ ts, omega arith, refl, wants_fits n (Group at e) st w, h, (ts, c, refl, s))))
  has_want (Mark sign.Minus) at st ts w h = λ le. (tt, (le, w, h))
  has_want (Mark sign.Bang) at st ts w h = λ le. (tt, (le, w, h))
  has_want _ at st ts w h = tt

  has_outer : (k : Lexeme) (at : Place) (e : Expression) (st : Stack) (ts mid : List Seen) → height e + levels st ≤ n → Leads n all st mid → Spells e mid (token k at ∷ ts) → HasStep n all (outer k e st) ts
  has_outer (Mark sign.CloseParen) at e (Inside Paren next st) ts mid level leads s = leads.1 e at ts (omega arith) s
  has_outer (Mark sign.CloseBracket) at e (Inside Bracket next st) ts mid level leads s = leads.1 e at ts (omega arith) s
  has_outer (Mark sign.Semicolon) at e (Inside Semicolon next st) ts mid level leads s = leads.1 e at ts (omega arith) s
  has_outer (Mark sign.Comma) at e (InArgs args next st) ts mid level leads s = (tt, (leads.0, omega (arith, leads.1), (mid, at, leads.2, s), leads.3))
  has_outer (Mark sign.CloseParen) at e (InArgs args next st) ts mid level leads s = leads.3 (Arg args e) at ts (omega (arith, leads.1)) (mid, leads.2, s)
  has_outer (Mark sign.Comma) at e (InPrint items next st) ts mid level leads s = (leads.0, omega (arith, leads.1), (mid, at, leads.2, s), leads.3)
  has_outer (Mark sign.CloseParen) at e (InPrint items next st) ts mid level leads s = leads.3 (More items (ValueItem e)) at ts (omega (arith, leads.1)) (mid, leads.2, s)
  has_outer _ at e st ts mid level leads s = tt

  has_infix : (op : Op) (at : Place) (e : Expression) (st : Stack) (ts mid : List Seen) → loose e ≤ looseness op → Room (looseness op) st → Leads n all st mid → Spells e mid (token (Mark (sign_of op)) at ∷ ts) → height e + levels st + 1 ≤ n → Has n all (Want (InTwo at op e st)) ts
  has_infix op at e st ts mid l room leads s le = (tt, (mid, le, l, room, leads, s))

  has_push : (k : Lexeme) (at : Place) (e : Expression) (st : Stack) (ts mid : List Seen) → height e + levels st ≤ n → loose e ≤ reach k → Room (reach k) st → Leads n all st mid → Spells e mid (token k at ∷ ts) → HasStep n all (push k at e st) ts
  has_push (Mark sign.Star) at e st ts mid level l room leads s = has_infix op.Mul at e st ts mid l room leads s
  has_push (Mark sign.Slash) at e st ts mid level l room leads s = has_infix op.Div at e st ts mid l room leads s
  has_push (Mark sign.Percent) at e st ts mid level l room leads s = has_infix op.Rem at e st ts mid l room leads s
  has_push (Mark sign.Plus) at e st ts mid level l room leads s = has_infix op.Add at e st ts mid l room leads s
  has_push (Mark sign.Minus) at e st ts mid level l room leads s = has_infix op.Sub at e st ts mid l room leads s
  has_push (Mark sign.Less) at e st ts mid level l room leads s = has_infix op.Less at e st ts mid l room leads s
  has_push (Mark sign.LessEq) at e st ts mid level l room leads s = has_infix op.LessEq at e st ts mid l room leads s
  has_push (Mark sign.More) at e st ts mid level l room leads s = has_infix op.More at e st ts mid l room leads s
  has_push (Mark sign.MoreEq) at e st ts mid level l room leads s = has_infix op.MoreEq at e st ts mid l room leads s
  has_push (Mark sign.Same) at e st ts mid level l room leads s = has_infix op.Same at e st ts mid l room leads s
  has_push (Mark sign.Differ) at e st ts mid level l room leads s = has_infix op.Differ at e st ts mid l room leads s
  has_push (Mark sign.Both) at e st ts mid level l room leads s = has_infix op.And at e st ts mid l room leads s
  has_push (Mark sign.Either) at e st ts mid level l room leads s = has_infix op.Or at e st ts mid l room leads s
  has_push k at e st ts mid level l room leads s = has_outer k at e st ts mid level leads s

  -- statements

  pub stat_ends : (front : Statements) (st : Stack) (start : List Seen) → Has n all (Stats front st) start → (p : Statement) (rest : List Seen) → depth p + levels st ≤ n → SpellsStat p start rest → Has n all (Stats (Then front p) st) rest
  stat_ends front st start h p rest level s = (h.0, omega (arith, h.1), h.2, h.3, (start, h.4, s))

  has_let_value : (kind : TypeText) (x : Named) (front : Statements) (st : Stack) (start ts : List Seen) → levels st + 1 ≤ n → Has n all (Stats front st) start → SpellsType kind start (name_token x ∷ ts) → Has n all (let_value kind x front st) ts
  has_let_value kind x front st start ts le h s = λ q ts1 e1. (tt, (le, λ e c rest level t. stat_ends front st start h (Let (record { kind = kind; name = x }) e) rest (omega arith) (name_token x ∷ ts, ts1, q, c, s, ap (λ l. name_token x ∷ l) e1, t)))

  pub has_let : (kind : TypeText) (front : Statements) (st : Stack) (start ts : List Seen) → levels st + 1 ≤ n → Has n all (Stats front st) start → SpellsType kind start ts → Has n all (let_row kind front st) ts
  has_let kind front st start ts le h s = λ x ts1 e1. has_let_value kind x front st start ts1 le h (subst (λ l. SpellsType kind start l) e1 s)

  -- the types that a base may begin
  pub has_brackets : (b : Base) (at : Place) (next : TypeText → State) (start ts : List Seen) → start ≡ token (base_lexeme b) at ∷ ts → ((kind : TypeText) (rest : List Seen) → SpellsType kind start rest → Has n all (next kind) rest)
      → ((o : Place) (ts1 : List Seen) → ts ≡ token (Mark sign.OpenBracket) o ∷ ts1 → (c : Place) (rest : List Seen) → ts1 ≡ token (Mark sign.CloseBracket) c ∷ rest → Has n all (next (many_type b at)) rest) × Has n all (next (one_type b at)) ts
  has_brackets b at next start ts e f = (λ o ts1 e1 c rest e2. f (many_type b at) rest (ts, e, (o, c, e1 ∙ ap (λ l. token (Mark sign.OpenBracket) o ∷ l) e2)), f (one_type b at) ts (ts, e, refl))

  has_assign_value : (target : Expression) (front : Statements) (st : Stack) (at : Place) (ts mid : List Seen) → IsTarget target → height target + levels st + 1 ≤ n → Fits n target (InChain front st) → Leads n all (InChain front st) mid → Spells target mid (token (Mark sign.Equals) at ∷ ts) → Has n all (assign_value target front st) ts
  has_assign_value target front st at ts mid t level fits leads s = (tt, (leads.1, λ e c rest low u. stat_ends front st mid (leads.0, leads.2, leads.3, leads.4, leads.5) (Assign target e) rest (omega arith) (ts, at, c, fits.0, t, s, u)))

  has_assign : (at : Place) (e : Expression) (front : Statements) (st : Stack) (ts mid : List Seen) → height e + levels st + 1 ≤ n → Fits n e (InChain front st) → Leads n all (InChain front st) mid → Spells e mid (token (Mark sign.Equals) at ∷ ts) → HasStep n all (assign e front st) ts
  has_assign at (Var x) front st ts mid level fits leads s = has_assign_value (Var x) front st at ts mid tt level fits leads s
  has_assign at (Field m a x) front st ts mid level fits leads s = has_assign_value (Field m a x) front st at ts mid tt level fits leads s
  has_assign at (Elem m a i) front st ts mid level fits leads s = has_assign_value (Elem m a i) front st at ts mid tt level fits leads s
  has_assign at _ front st ts mid level fits leads s = tt

  has_call : (at : Place) (e : Expression) (front : Statements) (st : Stack) (ts mid : List Seen) → height e + levels st + 1 ≤ n → Fits n e (InChain front st) → Leads n all (InChain front st) mid → Spells e mid (token (Mark sign.Semicolon) at ∷ ts) → HasStep n all (call_ends e front st) ts
  has_call at (Call m a x args) front st ts mid level fits leads s = stat_ends front st mid (leads.0, leads.2, leads.3, leads.4, leads.5) (Do (Call m a x args)) ts (omega arith) (at, fits.0, tt, s)
  has_call at _ front st ts mid level fits leads s = tt

  has_declare : (x : Named) (e : Expression) (front : Statements) (st : Stack) (ts mid : List Seen) → Leads n all (InChain front st) mid → Spells e mid (name_token x ∷ ts) → HasStep n all (declare x e front st) ts
  has_declare x (Var kind) front st ts mid leads s = has_let_value (one_type (base.Class kind.name) kind.at) x front st mid ts leads.1 (leads.0, leads.2, leads.3, leads.4, leads.5) (name_token x ∷ ts, s, refl)
  has_declare x _ front st ts mid leads s = tt

  has_chain : (k : Lexeme) (at : Place) (e : Expression) (front : Statements) (st : Stack) (ts mid : List Seen) → height e + levels st + 1 ≤ n → Fits n e (InChain front st) → Leads n all (InChain front st) mid → Spells e mid (token k at ∷ ts) → HasStep n all (chain_ends k at e front st) ts
  has_chain (Mark sign.Equals) at e front st ts mid level fits leads s = has_assign at e front st ts mid level fits leads s
  has_chain (Mark sign.Semicolon) at e front st ts mid level fits leads s = has_call at e front st ts mid level fits leads s
  has_chain (Name k) at e front st ts mid level fits leads s = has_declare (record { name = k; at = at }) e front st ts mid leads s
  has_chain _ at e front st ts mid level fits leads s = tt

  has_made : (k : Lexeme) (at : Place) (e : Expression) (front : Statements) (st : Stack) (ts mid : List Seen) → height e + levels st + 1 ≤ n → Fits n e (InMade front st) → Leads n all (InMade front st) mid → Spells e mid (token k at ∷ ts) → HasStep n all (made_ends k e front st) ts
  has_made (Mark sign.Semicolon) at e front st ts mid level fits leads s = stat_ends front st mid (leads.0, leads.2, leads.3, leads.4, leads.5) (MakeDo e) ts (omega arith) (at, fits, s)
  has_made _ at e front st ts mid level fits leads s = tt

  pub after_neg : (m : Place) (e : Expression) (st : Stack) (rest : List Seen) → Ended n all e (InNeg m st) rest → Ended n all (Neg m e) st rest
  after_neg m e st rest h = let l = h.4 in (token (Mark sign.Minus) m ∷ h.0, omega (arith, h.1), wants_room st l.1, wants_fits n (Neg m e) st l.1, l.2, (h.0, refl, h.2, h.5))

  pub after_not : (m : Place) (e : Expression) (st : Stack) (rest : List Seen) → Ended n all e (InNot m st) rest → Ended n all (Not m e) st rest
  after_not m e st rest h = let l = h.4 in (token (Mark sign.Bang) m ∷ h.0, omega (arith, h.1), wants_room st l.1, wants_fits n (Not m e) st l.1, l.2, (h.0, refl, h.2, h.5))

  pub after_two : (m : Place) (op : Op) (a e : Expression) (st : Stack) (rest : List Seen) → Ended n all e (InTwo m op a st) rest → Ended n all (Two m op a e) st rest
  after_two m op a e st rest h =
      let l = h.4 in
      (l.0, omega (arith, h.1, l.1), l.3, wants_fits n (Two m op a e) st (room_wants (looseness op) st (looseness_low op) l.3), l.4, (h.0, l.2, h.2, l.5, h.5))

  has_settle : (st : Stack) (k : Lexeme) (at : Place) (e : Expression) (ts : List Seen) → loose e ≤ reach k → 2 ≤ reach k → Ended n all e st (token k at ∷ ts) → HasStep n all (settle k at e st) ts
  has_settle (InNeg m st) k at e ts l two h = has_settle st k at (Neg m e) ts (omega arith) two (after_neg m e st (token k at ∷ ts) h)
  has_settle (InNot m st) k at e ts l two h = has_settle st k at (Not m e) ts (omega arith) two (after_not m e st (token k at ∷ ts) h)
  has_settle (InTwo m op a st) k at e ts l two h =
      by_test (looseness op) (reach k) (settle k at (Two m op a e) st) (push k at e (InTwo m op a st)) ts
      (λ le. has_settle st k at (Two m op a e) ts le two (after_two m op a e st (token k at ∷ ts) h))
      (λ lt. has_push k at e (InTwo m op a st) ts h.0 h.1 l lt h.4 h.5)
  has_settle (InChain front st) k at e ts l two h = has_chain k at e front st ts h.0 (omega (arith, h.1)) h.3 h.4 h.5
  has_settle (InMade front st) k at e ts l two h = has_made k at e front st ts h.0 (omega (arith, h.1)) h.3 h.4 h.5
  has_settle (Inside close next st) k at e ts l two h = has_push k at e (Inside close next st) ts h.0 h.1 l tt h.4 h.5
  has_settle (InArgs args next st) k at e ts l two h = has_push k at e (InArgs args next st) ts h.0 h.1 l tt h.4 h.5
  has_settle (InPrint items next st) k at e ts l two h = has_push k at e (InPrint items next st) ts h.0 h.1 l tt h.4 h.5
  has_settle _ k at e ts l two h = absurd h.3

  reach-bound : (k : Lexeme) → 2 ≤ reach k
  reach-bound (Mark sign.Star) = omega arith
  reach-bound (Mark sign.Slash) = omega arith
  reach-bound (Mark sign.Percent) = omega arith
  reach-bound (Mark sign.Plus) = omega arith
  reach-bound (Mark sign.Minus) = omega arith
  reach-bound (Mark sign.Less) = omega arith
  reach-bound (Mark sign.LessEq) = omega arith
  reach-bound (Mark sign.More) = omega arith
  reach-bound (Mark sign.MoreEq) = omega arith
  reach-bound (Mark sign.Same) = omega arith
  reach-bound (Mark sign.Differ) = omega arith
  reach-bound (Mark sign.Both) = omega arith
  reach-bound (Mark sign.Either) = omega arith
  reach-bound _ = omega arith

  pub got_has : (e : Expression) (st : Stack) (rest : List Seen) → Has n all (Got e st) rest → Ended n all e st rest
  got_has e st rest h = (h.0, h.1, subst (λ q. Room q st) (sym h.2) (tight_room st), h.3, h.4, h.5)

  has_open : (at : Place) (e : Expression) (st : Stack) (ts : List Seen) → Has n all (Got e st) (token (Mark sign.OpenParen) at ∷ ts) → HasStep n all (open_call e st) ts
  has_open at (Field dot a x) st ts h =
      has_args (λ args. Got (Call dot a x args) st) st ts (omega (arith, h.1))
      (λ args c rest level s. let low : height (Call dot a x args) + levels st ≤ n = omega (arith, h.1) in (h.0, low, refl, longer n (Field dot a x) (Call dot a x args) st (λ c. c) low refl refl h.3, h.4, (ts, at, c, h.5.0, h.5.1, s)))
  has_open at _ st ts h = tt

  has_elem : (at : Place) (e : Expression) (st : Stack) (ts mid : List Seen) → height e + levels st + 1 ≤ n → loose e ≡ 0 → Fits n e st → Leads n all st mid → Spells e mid (token (Mark sign.OpenBracket) at ∷ ts) → Has n all (elem_value at e st) ts
  has_elem at e st ts mid le zero fits leads s = (tt, (omega arith, λ i c rest level t. let low : height (Elem at e i) + levels st ≤ n = omega arith in (mid, low, refl, longer n e (Elem at e i) st (λ c. c) low refl zero fits, leads, (ts, c, zero, s, t))))

  has_bracket : (at : Place) (e : Expression) (st : Stack) (ts : List Seen) → Has n all (Got e st) (token (Mark sign.OpenBracket) at ∷ ts) → HasStep n all (bracket at e st) ts
  has_bracket at (Var kind) (InChain front st) ts h = let l = h.4 in (l.0, l.1, l.2, l.3, l.4, subst (λ m. SpellsStats front l.0 m) h.5 l.5)
  has_bracket at e st ts h = λ le. has_elem at e st ts h.0 le h.2 h.3 h.4 h.5

  pub has_link : (k : Lexeme) (at : Place) (e : Expression) (st : Stack) (ts : List Seen) → Has n all (Got e st) (token k at ∷ ts) → HasStep n all (link k at e st) ts
  has_link (Mark sign.Dot) at e st ts h = λ le. (h.0, le, h.2, h.3, h.4, h.5)
  has_link (Mark sign.OpenBracket) at e st ts h = has_bracket at e st ts h
  has_link (Mark sign.OpenParen) at e st ts h = has_open at e st ts h
  has_link k at e st ts h = has_settle st k at e ts (omega (arith, h.2)) (reach-bound k) (got_has e st (token k at ∷ ts) h)

  pub has_after : (k : Lexeme) (at : Place) (e : Expression) (st : Stack) (ts : List Seen) → Has n all (After e st) (token k at ∷ ts) → HasStep n all (not_link k at e st) ts
  has_after (Mark sign.Dot) at e st ts h = tt
  has_after (Mark sign.OpenBracket) at e st ts h = tt
  has_after (Mark sign.OpenParen) at e st ts h = tt
  has_after k at e st ts h = has_settle st k at e ts (omega (arith, h.6, reach-bound k)) (reach-bound k) (h.0, h.1, h.2, h.3, h.4, h.5)

  has_length : (here at : Place) (e : Expression) (st : Stack) (ts : List Seen) → Has n all (Dotted at e st) (token (Keyword word.Length) here ∷ ts) → HasStep n all (length_step at e st) ts
  has_length here at e (InChain front st) ts h = λ le. (h.0, omega (arith, h.1), refl, (h.3.0, omega arith), h.4, (here, h.2, h.5))
  has_length here at e (InMade front st) ts h = absurd (omega (arith, h.2, made_loose e h.3))
  has_length here at e (InNeg m st) ts h = (h.0, omega (arith, h.1), refl, tt, h.4, (here, h.2, h.5))
  has_length here at e (InNot m st) ts h = (h.0, omega (arith, h.1), refl, tt, h.4, (here, h.2, h.5))
  has_length here at e (InTwo m op a st) ts h = (h.0, omega (arith, h.1), refl, tt, h.4, (here, h.2, h.5))
  has_length here at e (Inside close next st) ts h = (h.0, omega (arith, h.1), refl, tt, h.4, (here, h.2, h.5))
  has_length here at e (InArgs args next st) ts h = (h.0, omega (arith, h.1), refl, tt, h.4, (here, h.2, h.5))
  has_length here at e (InPrint items next st) ts h = (h.0, omega (arith, h.1), refl, tt, h.4, (here, h.2, h.5))
  has_length here at e _ ts h = absurd h.3

  pub has_dotted : (k : Lexeme) (here at : Place) (e : Expression) (st : Stack) (ts : List Seen) → Has n all (Dotted at e st) (token k here ∷ ts) → HasStep n all (dotted k here at e st) ts
  has_dotted (Name k) here at e st ts h = let x : Named = record { name = k; at = here } in let low : height (Field at e x) + levels st ≤ n = omega (arith, h.1) in (h.0, low, refl, longer n e (Field at e x) st (λ c. c) low refl h.2 h.3, h.4, (h.2, h.5))
  has_dotted (Keyword word.Length) here at e st ts h = has_length here at e st ts h
  has_dotted _ here at e st ts h = tt

  has_raise : (m : ℕ) (x : Step) (ts : List Seen) → (m ≤ n → HasStep n all x ts) → HasStep n all (raise m x) ts
  has_raise m No ts f = tt
  has_raise m (On s) ts f = λ le. f le
  has_raise m (Deep s need) ts f = λ le. f (omega arith) (omega arith)

  pub has_bracketed : (k : Lexeme) (here at : Place) (kind : Named) (front : Statements) (st : Stack) (ts : List Seen) → Has n all (Bracketed at kind front st) (token k here ∷ ts) → HasStep n all (bracketed k here at kind front st) ts
  has_bracketed (Mark sign.CloseBracket) here at kind front st ts h =
      has_let (many_type (base.Class kind.name) kind.at) front st (name_token kind ∷ token (Mark sign.OpenBracket) at ∷ token (Mark sign.CloseBracket) here ∷ ts) ts h.1 (h.0, h.2, h.3, h.4, h.5)
      (token (Mark sign.OpenBracket) at ∷ token (Mark sign.CloseBracket) here ∷ ts, refl, (at, here, refl))
  has_bracketed k here at kind front st ts h =
      let mid = name_token kind ∷ token (Mark sign.OpenBracket) at ∷ token k here ∷ ts in
      has_raise (levels st + 2) (want k here (Inside Bracket (λ i. Got (Elem at (Var kind) i) (InChain front st)) (InChain front st))) ts
      (λ le. has_want k here (Inside Bracket (λ i. Got (Elem at (Var kind) i) (InChain front st)) (InChain front st)) ts tt
      (has_elem at (Var kind) (InChain front st) (token k here ∷ ts) mid (omega arith) refl (tt, omega (arith, h.1)) (h.0, omega (arith, h.1), h.2, h.3, h.4, h.5) refl).1)
