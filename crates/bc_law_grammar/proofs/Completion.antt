-- Whatever the machine has read can be completed.
use Rattle.std.proofs.Common.{◌≡◌, ℕ, List, [], ◌∷◌, refl, ap, sym, subst, ◌∙◌, ◌+◌, ◌≤◌, arith, true, if◌then◌else◌}
use Rattle.std.specs.Prelude.{pos}
use denote.Enum.Bare.{true_same}
use Rattle.std.proofs.lemmas.Bool.{leb-true, leb-false}
use Rattle.std.specs.Prelude.{Some, None, Option}
use denote.Enum.Bare.{same_true}
use Rattle.bc_data.specs.Seen.{Lexeme, Seen, Keyword, Name, Number, Text, Mark, End}
use Rattle.bc_data.specs.SourceTree.{Sequence, Empty, More, largest, Expression, Int, Truth, Null, This, Var, Group, Neg, Not, Two, Field, Length, Elem, Call, Make, Array, Expressions, NoArg, Arg, height, tallest, GuardOp, AndOp, OrOp, Guard, FlagIs, FlagTruth, FlagNot, FlagTwo, FlagGroup, guard_height, PrintItem, TextItem, ValueItem, item_height, Change, ChangeOf, Statement, Let, NewTag, Assign, Do, MakeDo, Block, If, IfElse, While, Return, ReturnValue, Print, Assert, Exit, Statements, Nothing, Then, depth, deepest, Method, MethodOf, Member, FlagMember, FieldMember, MethodMember, MakerMember, member_depth, Param, ParamOf, param_depth, Item, TagTypeItem, ClassItem, TaskItem, item_depth}
use Rattle.bc_data.specs.Grammar.{token, name_token, sign_of, looseness, loose, Fronts, Separated, Listed, Repeated, SpellsAction, SpellsTweaks, base_lexeme, SpellsType, Spells, SpellsArgs, SpellsFront, IsChain, IsTarget, IsMade, SpellsPrintItem, SpellsChange, SpellsTest, SpellsStat, SpellsStats, guard_looseness, guard_word, guard_loose, SpellsGuard, SpellsBind, SpellsBinds, SpellsParam, SpellsFormal, SpellsBody, SpellsCode, SpellsResult, SpellsMember, SpellsItem}
use Rattle.bc_data.specs.declared.run.Place.{Place}
use Rattle.bc_data.specs.declared.program.Op.{Op}
use Rattle.bc_data.specs.declared.program.Op.TheVariants as op
use Rattle.bc_data.specs.declared.token.Word.{Word}
use Rattle.bc_data.specs.declared.token.Sign.{Sign}
use Rattle.bc_data.specs.declared.token.Word.TheVariants as word
use Rattle.bc_data.specs.declared.token.Sign.TheVariants as sign
use Rattle.bc_data.specs.contracts.token.Word as word_type
use Rattle.bc_data.specs.contracts.token.Sign as sign_type
use Rattle.bc_data.specs.declared.tree.Named.{Named}
use Rattle.bc_data.specs.declared.tree.TypeText.{TypeText}
use Rattle.bc_data.specs.declared.tree.Base.{Base}
use Rattle.bc_data.specs.declared.tree.Base.TheVariants as base
use Rattle.bc_data.specs.declared.tree.Formal.{Formal}
use Rattle.bc_data.specs.declared.tree.Bind.{Bind}
use Rattle.bc_data.specs.declared.tree.ActionText.{ActionText}
use Rattle.bc_data.specs.declared.tree.ActionText.TheVariants as action
use Rattle.bc_law_grammar.proofs.Steps.{looseness_low}
use Rattle.bc_law_grammar.proofs.Forward.{tight_room, room_down, flag_room_down, chain_extra, chain_extra_low, guard_loose_high, loose_high}
use Rattle.bc_law_grammar.specs.Machine.{Closer, Paren, Bracket, Semicolon, Stack, Body, Guarded, InNeg, InNot, InTwo, Inside, InArgs, InPrint, InChain, InMade, InBlock, InFlagNot, InFlagTwo, InFlagGroup, State, Never, OnMark, OnWord, OnName, Want, Got, After, Dotted, Bracketed, Stats, Printing, Tweaking, Acting, Changing, Declaring, Parameters, Binding, WantFlag, AfterFlag, Members, Items, Done, Step, No, On, Deep, levels, raise, one_type, many_type, brackets, args_row, tweaks_row, array, array_row, new_row, let_value, let_row, tag_row, made_row, test_row, braces_row, else_row, return_row, print_ends, print_behind, exit_ends, exit_row, truth_row, tweak_behind, act_behind, change_row, formal_row, body_row, code_row, bind_behind, param_row, member_row, maker_row, void_row, flag_row, tag_type_row, class_row, task_row, assign_value, elem_value, want, reach, outer, push, assign, call_ends, declare, chain_ends, made_ends, settle, open_call, bracket, link, not_link, length_step, dotted, bracketed, close_brace, stat, printing, tweaking, acting, changing, declaring, parameters, binding, member, item, want_flag, flag_reach, outer_flag, push_flag, settle_flag, same_mark, same_word, on_name, step, Room, FlagRoom, Outcome, Accepted, Refused, Cut, run, kind_at}
use Rattle.bc_law_grammar.proofs.Steps.{on, deep, end_neg, end_not, end_two, end_flag_not, end_flag_two, looseness_high}
use Rattle.bc_law_grammar.proofs.Forward.{NotLink, got_after}
use Rattle.bc_law_grammar.proofs.ForwardText.{chain_tight}
use Rattle.bc_law_grammar.proofs.Backward.{Floor, Wants, Fits, Leads, Has, Ended, EndedFlag, wants_fits, room_wants, longer, leads_level, got_has, after_neg, after_not, after_two}
use Rattle.bc_law_grammar.proofs.BackwardText.{after_flag_not, after_flag_two, has_step}

abbrev pub Completes : ℕ → State → Type 0
Completes n s = (more : List Seen) × (items : Sequence Item) × (run n s more ≡ Accepted items)

-- the same, beginning with a token that ends any expression
abbrev Closes : ℕ → Expression → Stack → Type 0
Closes n e st = (more : List Seen) × (items : Sequence Item) × NotLink (kind_at more) × (reach (kind_at more) ≡ 8) × (run n (After e st) more ≡ Accepted items)

abbrev ClosesFlag : ℕ → Guard → Stack → Type 0
ClosesFlag n g st = (more : List Seen) × (items : Sequence Item) × (flag_reach (kind_at more) ≡ 4) × (run n (AfterFlag g st) more ≡ Accepted items)

-- a target or a call
abbrev Closable : Expression → Type 0
Closable (Var x) = Unit {0}
Closable (Field at a x) = Unit {0}
Closable (Elem at a i) = Unit {0}
Closable (Call at a x args) = Unit {0}
Closable _ = ⊥

abbrev Ready : Expression → Stack → Type 0
Ready e (InChain front st) = Closable e
Ready e _ = Unit {0}

wants_ready : (e : Expression) (st : Stack) → Wants st → Ready e st
wants_ready e (InChain front st) w = absurd w
wants_ready e _ w = tt

closable_ready : (e : Expression) (st : Stack) → Closable e → Ready e st
closable_ready e (InChain front st) c = c
closable_ready e _ c = tt

after_ready : (n : ℕ) (e : Expression) (st : Stack) → Fits n e st → loose e ≡ 1 → Ready e st
after_ready n e (InChain front st) h one = absurd (omega (arith, chain_tight e h.0))
after_ready n e _ h one = tt

-- `this` and lengths alone begin no statement that ends behind them
abbrev NotBare : Expression → Stack → Type 0
NotBare (This at) (InChain front st) = ⊥
NotBare (Length at a) (InChain front st) = ⊥
NotBare _ _ = Unit {0}

chain_ready : (e : Expression) (front : Statements) (st : Stack) → NotBare e (InChain front st) → IsChain e → Closable e
chain_ready (Var x) front st b h = tt
chain_ready (Field at a x) front st b h = tt
chain_ready (Elem at a i) front st b h = tt
chain_ready (Call at a x args) front st b h = tt
chain_ready (This at) front st b h = b
chain_ready (Length at a) front st b h = b
chain_ready _ front st b h = h

got_ready : (n : ℕ) (e : Expression) (st : Stack) → NotBare e st → Fits n e st → Ready e st
got_ready n e (InChain front st) b h = chain_ready e front st b h.0
got_ready n e _ b h = tt

abbrev origin : Place
origin = record { line = 1; column = 1 }

abbrev a_name : Named
a_name = record { name = 120 ∷ []; at = origin }

abbrev mark : Sign → Seen
mark s = token (Mark s) origin

abbrev word_token : Word → Seen
word_token w = token (Keyword w) origin

abbrev zero_token : Seen
zero_token = token (Number (pos 0)) origin

abbrev a_zero : Expression
a_zero = Int origin (pos 0)

mark_step : (s : Sign) (next : Place → State) (other : State) → step (OnMark s next other) (mark s) ≡ On (next origin)
mark_step s next other = ap (λ b. if b then On (next origin) else step other (mark s)) (true_same sign_type.the_type s s refl)

word_step : (w : Word) (next : Place → State) (other : State) → step (OnWord w next other) (word_token w) ≡ On (next origin)
word_step w next other = ap (λ b. if b then On (next origin) else step other (word_token w)) (true_same word_type.the_type w w refl)

guard_low : (op : GuardOp) → guard_looseness op ≤ 4
guard_low AndOp = omega arith
guard_low OrOp = omega arith

module _ (n : ℕ) where
  -- a field of what has been read
  field_ended : (all : List Seen) (e : Expression) (st : Stack) (rest : List Seen) → height e + levels st + 1 ≤ n → Has n all (Got e st) (mark sign.Dot ∷ name_token a_name ∷ rest) → Ended n all (Field origin e a_name) st rest
  field_ended all e st rest le h = let low : height e + 1 + levels st ≤ n = omega arith in (h.0, low, tight_room st, longer n e (Field origin e a_name) st (λ c. c) low refl h.2 h.3, h.4, (h.2, h.5))

  mutual
    pub completes : (s : State) (whole : List Seen → List Seen) → ((rest : List Seen) → Has n (whole rest) s rest) → Completes n s
    completes Never whole h = absurd (h [])
    completes (OnMark s next Never) whole h =
        let c = completes (next origin) (λ r. whole (mark s ∷ r)) (λ r. h (mark s ∷ r) origin r refl) in
        (mark s ∷ c.0, c.1, on n (OnMark s next Never) (next origin) (mark s) c.0 (mark_step s next Never) ∙ c.2)
    completes (OnMark s next other) whole h =
        let c = completes (next origin) (λ r. whole (mark s ∷ r)) (λ r. (h (mark s ∷ r)).0 origin r refl) in
        (mark s ∷ c.0, c.1, on n (OnMark s next other) (next origin) (mark s) c.0 (mark_step s next other) ∙ c.2)
    completes (OnWord w next Never) whole h =
        let c = completes (next origin) (λ r. whole (word_token w ∷ r)) (λ r. h (word_token w ∷ r) origin r refl) in
        (word_token w ∷ c.0, c.1, on n (OnWord w next Never) (next origin) (word_token w) c.0 (word_step w next Never) ∙ c.2)
    completes (OnWord w next other) whole h =
        let c = completes (next origin) (λ r. whole (word_token w ∷ r)) (λ r. (h (word_token w ∷ r)).0 origin r refl) in
        (word_token w ∷ c.0, c.1, on n (OnWord w next other) (next origin) (word_token w) c.0 (word_step w next other) ∙ c.2)
    completes (OnName next Never) whole h =
        let c = completes (next a_name) (λ r. whole (name_token a_name ∷ r)) (λ r. h (name_token a_name ∷ r) a_name r refl) in
        (name_token a_name ∷ c.0, c.1, c.2)
    completes (OnName next other) whole h =
        let c = completes (next a_name) (λ r. whole (name_token a_name ∷ r)) (λ r. (h (name_token a_name ∷ r)).0 a_name r refl) in
        (name_token a_name ∷ c.0, c.1, c.2)
    completes (Want st) whole h =
        let c = closes st a_zero (λ r. whole (zero_token ∷ r))
        (λ r. let l = h (zero_token ∷ r) in (zero_token ∷ r, omega (arith, leads_level n (whole (zero_token ∷ r)) st (zero_token ∷ r) l.1), tight_room st, wants_fits n a_zero st l.0, l.1, refl))
        (wants_ready a_zero st (h []).0) in
        (zero_token ∷ c.0, c.1, got_after n a_zero st c.0 c.2 ∙ c.4)
    completes (Got (This at) (InChain front st)) whole h =
        let e = This at in
        let c = closes (InChain front st) (Field origin e a_name) (λ r. whole (mark sign.Dot ∷ name_token a_name ∷ r)) (λ r. field_ended (whole (mark sign.Dot ∷ name_token a_name ∷ r)) e (InChain front st) r (omega (arith, (h []).3.1)) (h (mark sign.Dot ∷ name_token a_name ∷ r))) tt in
        (mark sign.Dot ∷ name_token a_name ∷ c.0, c.1, deep n (Got e (InChain front st)) (Dotted origin e (InChain front st)) (0 + levels (InChain front st) + 1) (mark sign.Dot) (name_token a_name ∷ c.0) refl (omega (arith, (h []).3.1)) ∙ got_after n (Field origin e a_name) (InChain front st) c.0 c.2 ∙ c.4)
    completes (Got (Length at a) (InChain front st)) whole h =
        let e = Length at a in
        let c = closes (InChain front st) (Field origin e a_name) (λ r. whole (mark sign.Dot ∷ name_token a_name ∷ r)) (λ r. field_ended (whole (mark sign.Dot ∷ name_token a_name ∷ r)) e (InChain front st) r (omega (arith, (h []).3.1)) (h (mark sign.Dot ∷ name_token a_name ∷ r))) tt in
        (mark sign.Dot ∷ name_token a_name ∷ c.0, c.1, deep n (Got e (InChain front st)) (Dotted origin e (InChain front st)) (height a + 1 + levels (InChain front st) + 1) (mark sign.Dot) (name_token a_name ∷ c.0) refl (omega (arith, (h []).3.1)) ∙ got_after n (Field origin e a_name) (InChain front st) c.0 c.2 ∙ c.4)
    completes (Got e st) whole h =
        let c = closes st e whole (λ r. got_has n (whole r) e st r (h r)) (got_ready n e st tt (h []).3) in
        (c.0, c.1, got_after n e st c.0 c.2 ∙ c.4)
    completes (After e st) whole h =
        let c = closes st e whole (λ r. let l = h r in (l.0, l.1, l.2, l.3, l.4, l.5)) (after_ready n e st (h []).3 (h []).6) in
        (c.0, c.1, c.4)
    completes (Dotted at e st) whole h =
        let c = closes st (Field at e a_name) (λ r. whole (name_token a_name ∷ r))
        (λ r. let l = h (name_token a_name ∷ r) in let low : height e + 1 + levels st ≤ n = omega (arith, l.1) in (l.0, low, tight_room st, longer n e (Field at e a_name) st (λ c. c) low refl l.2 l.3, l.4, (l.2, l.5)))
        (closable_ready (Field at e a_name) st tt) in
        (name_token a_name ∷ c.0, c.1, got_after n (Field at e a_name) st c.0 c.2 ∙ c.4)
    completes (Bracketed at kind front st) whole h =
        let x : TypeText = many_type (base.Class kind.name) kind.at in
        let c = stats_complete st (Then front (Let (record { kind = x; name = a_name }) a_zero)) (λ r. whole (mark sign.CloseBracket ∷ name_token a_name ∷ mark sign.Equals ∷ zero_token ∷ mark sign.Semicolon ∷ r))
        (λ r. let l = h (mark sign.CloseBracket ∷ name_token a_name ∷ mark sign.Equals ∷ zero_token ∷ mark sign.Semicolon ∷ r) in (
          l.0,
          omega (arith, l.1, l.2),
          l.3,
          l.4,
          (
            name_token kind ∷ token (Mark sign.OpenBracket) at ∷ mark sign.CloseBracket ∷ name_token a_name ∷ mark sign.Equals ∷ zero_token ∷ mark sign.Semicolon ∷ r,
            l.5,
            (name_token a_name ∷ mark sign.Equals ∷ zero_token ∷ mark sign.Semicolon ∷ r, zero_token ∷ mark sign.Semicolon ∷ r, origin, origin, (token (Mark sign.OpenBracket) at ∷ mark sign.CloseBracket ∷ name_token a_name ∷ mark sign.Equals ∷ zero_token ∷ mark sign.Semicolon ∷ r, refl, (at, origin, refl)), refl, refl),
          ),
        )) in
        (mark sign.CloseBracket ∷ name_token a_name ∷ mark sign.Equals ∷ zero_token ∷ mark sign.Semicolon ∷ c.0, c.1, c.2)
    completes (Stats ps st) whole h = stats_complete st ps whole h
    completes (Printing items next st) whole h =
        let t = token (Text []) origin in
        let c = completes (next (More items (TextItem []))) (λ r. whole (t ∷ mark sign.CloseParen ∷ r))
        (λ r. let l = h (t ∷ mark sign.CloseParen ∷ r) in l.3 (More items (TextItem [])) origin r (omega (arith, l.1)) (t ∷ mark sign.CloseParen ∷ r, l.2, (origin, refl))) in
        (t ∷ mark sign.CloseParen ∷ c.0, c.1, c.2)
    completes (Tweaking tweaks next) whole h =
        let c = completes (next (More tweaks (action.Add origin a_name))) (λ r. whole (word_token word.Add ∷ name_token a_name ∷ mark sign.CloseBrace ∷ r))
        (λ r. let l = h (word_token word.Add ∷ name_token a_name ∷ mark sign.CloseBrace ∷ r) in l.2 (More tweaks (action.Add origin a_name)) origin r (word_token word.Add ∷ name_token a_name ∷ mark sign.CloseBrace ∷ r, l.1, refl)) in
        (word_token word.Add ∷ name_token a_name ∷ mark sign.CloseBrace ∷ c.0, c.1, c.2)
    completes (Acting actions more last) whole h =
        let c = completes (last (More actions (action.Add origin a_name))) (λ r. whole (word_token word.Add ∷ name_token a_name ∷ mark sign.CloseParen ∷ r))
        (λ r. let l = h (word_token word.Add ∷ name_token a_name ∷ mark sign.CloseParen ∷ r) in l.3 (More actions (action.Add origin a_name)) origin r (word_token word.Add ∷ name_token a_name ∷ mark sign.CloseParen ∷ r, l.1, refl)) in
        (word_token word.Add ∷ name_token a_name ∷ mark sign.CloseParen ∷ c.0, c.1, c.2)
    completes (Changing changes next) whole h =
        let x : Change = ChangeOf a_name (More Empty (action.Add origin a_name)) in
        let c = completes (next (More changes x)) (λ r. whole (name_token a_name ∷ mark sign.Colon ∷ word_token word.Add ∷ name_token a_name ∷ mark sign.CloseParen ∷ r))
        (λ r. let l = h (name_token a_name ∷ mark sign.Colon ∷ word_token word.Add ∷ name_token a_name ∷ mark sign.CloseParen ∷ r) in
        l.2 (More changes x) origin r (name_token a_name ∷ mark sign.Colon ∷ word_token word.Add ∷ name_token a_name ∷ mark sign.CloseParen ∷ r, l.1, (word_token word.Add ∷ name_token a_name ∷ mark sign.CloseParen ∷ r, origin, refl, (word_token word.Add ∷ name_token a_name ∷ mark sign.CloseParen ∷ r, refl, refl)))) in
        (name_token a_name ∷ mark sign.Colon ∷ word_token word.Add ∷ name_token a_name ∷ mark sign.CloseParen ∷ c.0, c.1, c.2)
    completes (Declaring formals next) whole h =
        let f : Formal = record { kind = one_type base.Int origin; name = a_name } in
        let c = completes (next (More formals f)) (λ r. whole (word_token word.Int ∷ name_token a_name ∷ mark sign.CloseParen ∷ r))
        (λ r. let l = h (word_token word.Int ∷ name_token a_name ∷ mark sign.CloseParen ∷ r) in
        l.2 (More formals f) origin r (word_token word.Int ∷ name_token a_name ∷ mark sign.CloseParen ∷ r, l.1, (name_token a_name ∷ mark sign.CloseParen ∷ r, refl, refl))) in
        (word_token word.Int ∷ name_token a_name ∷ mark sign.CloseParen ∷ c.0, c.1, c.2)
    completes (Parameters params next) whole h =
        let p : Param = ParamOf a_name a_name (FlagIs a_name) Empty in
        let c = completes (next (More params p)) (λ r. whole (name_token a_name ∷ name_token a_name ∷ word_token word.In ∷ name_token a_name ∷ mark sign.CloseParen ∷ r))
        (λ r. let l = h (name_token a_name ∷ name_token a_name ∷ word_token word.In ∷ name_token a_name ∷ mark sign.CloseParen ∷ r) in
        l.3 (More params p) origin r (omega (arith, l.1)) (name_token a_name ∷ name_token a_name ∷ word_token word.In ∷ name_token a_name ∷ mark sign.CloseParen ∷ r, l.2, (name_token a_name ∷ mark sign.CloseParen ∷ r, mark sign.CloseParen ∷ r, origin, refl, refl, refl))) in
        (name_token a_name ∷ name_token a_name ∷ word_token word.In ∷ name_token a_name ∷ mark sign.CloseParen ∷ c.0, c.1, c.2)
    completes (Binding binds more last) whole h =
        let b : Bind = record { tag_type = a_name; variable = a_name } in
        let c = completes (last (More binds b)) (λ r. whole (name_token a_name ∷ name_token a_name ∷ mark sign.CloseParen ∷ r))
        (λ r. let l = h (name_token a_name ∷ name_token a_name ∷ mark sign.CloseParen ∷ r) in l.3 (More binds b) origin r (name_token a_name ∷ name_token a_name ∷ mark sign.CloseParen ∷ r, l.1, refl)) in
        (name_token a_name ∷ name_token a_name ∷ mark sign.CloseParen ∷ c.0, c.1, c.2)
    completes (WantFlag st) whole h =
        let c = closes_flag st (FlagIs a_name) (λ r. whole (name_token a_name ∷ r))
        (λ r. let l = h (name_token a_name ∷ r) in (name_token a_name ∷ r, omega (arith, leads_level n (whole (name_token a_name ∷ r)) st (name_token a_name ∷ r) l.1), flag_room_down 0 1 st (omega arith) l.0, l.1, refl)) in
        (name_token a_name ∷ c.0, c.1, c.3)
    completes (AfterFlag g st) whole h =
        let c = closes_flag st g whole (λ r. let l = h r in (l.0, l.1, l.2, l.3, l.4)) in
        (c.0, c.1, c.3)
    completes (Members members next) whole h =
        let c = completes (next members) (λ r. whole (mark sign.CloseBrace ∷ r)) (λ r. let l = h (mark sign.CloseBrace ∷ r) in l.3 members origin r l.1 l.2) in
        (mark sign.CloseBrace ∷ c.0, c.1, c.2)
    completes (Items items) whole h = (token End origin ∷ [], items, refl)
    completes (Done items) whole h = ([], items, refl)

    stats_complete : (st : Stack) (ps : Statements) (whole : List Seen → List Seen) → ((rest : List Seen) → Has n (whole rest) (Stats ps st) rest) → Completes n (Stats ps st)
    stats_complete (Body next) ps whole h =
        let c = completes (next ps) (λ r. whole (mark sign.CloseBrace ∷ r)) (λ r. let l = h (mark sign.CloseBrace ∷ r) in l.3 ps origin r (omega (arith, l.1)) l.4) in
        (mark sign.CloseBrace ∷ c.0, c.1, c.2)
    stats_complete (InBlock next st) ps whole h =
        let c = completes (next ps) (λ r. whole (mark sign.CloseBrace ∷ r)) (λ r. let l = h (mark sign.CloseBrace ∷ r) in l.3.1 ps origin r (omega (arith, l.1)) l.4) in
        (mark sign.CloseBrace ∷ c.0, c.1, c.2)
    stats_complete _ ps whole h = absurd (h []).2

    closes : (st : Stack) (e : Expression) (whole : List Seen → List Seen) → ((rest : List Seen) → Ended n (whole rest) e st rest) → Ready e st → Closes n e st
    closes (InNeg m st) e whole h ready =
        let c = closes st (Neg m e) whole (λ r. after_neg n (whole r) m e st r (h r)) (wants_ready (Neg m e) st (h []).4.1) in
        (c.0, c.1, c.2, c.3, end_neg n m e st c.0 ∙ c.4)
    closes (InNot m st) e whole h ready =
        let c = closes st (Not m e) whole (λ r. after_not n (whole r) m e st r (h r)) (wants_ready (Not m e) st (h []).4.1) in
        (c.0, c.1, c.2, c.3, end_not n m e st c.0 ∙ c.4)
    closes (InTwo m op a st) e whole h ready =
        let c = closes st (Two m op a e) whole (λ r. after_two n (whole r) m op a e st r (h r)) (wants_ready (Two m op a e) st (room_wants (looseness op) st (looseness_low op) (h []).4.3)) in
        (c.0, c.1, c.2, c.3, end_two n m op a e st c.0 (omega (arith, c.3, looseness_high op)) ∙ c.4)
    closes (Inside Paren next st) e whole h ready =
        let c = completes (next e) (λ r. whole (mark sign.CloseParen ∷ r)) (λ r. let l = h (mark sign.CloseParen ∷ r) in l.4.1 e origin r (omega (arith, l.1)) l.5) in
        (mark sign.CloseParen ∷ c.0, c.1, tt, refl, c.2)
    closes (Inside Bracket next st) e whole h ready =
        let c = completes (next e) (λ r. whole (mark sign.CloseBracket ∷ r)) (λ r. let l = h (mark sign.CloseBracket ∷ r) in l.4.1 e origin r (omega (arith, l.1)) l.5) in
        (mark sign.CloseBracket ∷ c.0, c.1, tt, refl, c.2)
    closes (Inside Semicolon next st) e whole h ready =
        let c = completes (next e) (λ r. whole (mark sign.Semicolon ∷ r)) (λ r. let l = h (mark sign.Semicolon ∷ r) in l.4.1 e origin r (omega (arith, l.1)) l.5) in
        (mark sign.Semicolon ∷ c.0, c.1, tt, refl, c.2)
    closes (InArgs args next st) e whole h ready =
        let c = completes (next (Arg args e)) (λ r. whole (mark sign.CloseParen ∷ r)) (λ r. let l = h (mark sign.CloseParen ∷ r) in l.4.3 (Arg args e) origin r (omega (arith, l.1, l.4.1)) (l.0, l.4.2, l.5)) in
        (mark sign.CloseParen ∷ c.0, c.1, tt, refl, c.2)
    closes (InPrint items next st) e whole h ready =
        let c = completes (next (More items (ValueItem e))) (λ r. whole (mark sign.CloseParen ∷ r)) (λ r. let l = h (mark sign.CloseParen ∷ r) in l.4.3 (More items (ValueItem e)) origin r (omega (arith, l.1, l.4.1)) (l.0, l.4.2, l.5)) in
        (mark sign.CloseParen ∷ c.0, c.1, tt, refl, c.2)
    closes (InChain front st) (Call m a x args) whole h ready =
        let c = stats_complete st (Then front (Do (Call m a x args))) (λ r. whole (mark sign.Semicolon ∷ r))
        (λ r. let l = h (mark sign.Semicolon ∷ r) in (l.4.0, omega (arith, l.1, l.4.2), l.4.3, l.4.4, (l.0, l.4.5, (origin, l.3.0, tt, l.5)))) in
        (mark sign.Semicolon ∷ c.0, c.1, tt, refl, c.2)
    closes (InChain front st) (Var x) whole h ready =
        let c = stats_complete st (Then front (Assign (Var x) a_zero)) (λ r. whole (mark sign.Equals ∷ zero_token ∷ mark sign.Semicolon ∷ r))
        (λ r. let l = h (mark sign.Equals ∷ zero_token ∷ mark sign.Semicolon ∷ r) in (l.4.0, omega (arith, l.1, l.4.2), l.4.3, l.4.4, (l.0, l.4.5, (zero_token ∷ mark sign.Semicolon ∷ r, origin, origin, l.3.0, tt, l.5, refl)))) in
        (mark sign.Equals ∷ zero_token ∷ mark sign.Semicolon ∷ c.0, c.1, tt, refl, c.2)
    closes (InChain front st) (Field m a x) whole h ready =
        let c = stats_complete st (Then front (Assign (Field m a x) a_zero)) (λ r. whole (mark sign.Equals ∷ zero_token ∷ mark sign.Semicolon ∷ r))
        (λ r. let l = h (mark sign.Equals ∷ zero_token ∷ mark sign.Semicolon ∷ r) in (l.4.0, omega (arith, l.1, l.4.2), l.4.3, l.4.4, (l.0, l.4.5, (zero_token ∷ mark sign.Semicolon ∷ r, origin, origin, l.3.0, tt, l.5, refl)))) in
        (mark sign.Equals ∷ zero_token ∷ mark sign.Semicolon ∷ c.0, c.1, tt, refl, c.2)
    closes (InChain front st) (Elem m a i) whole h ready =
        let c = stats_complete st (Then front (Assign (Elem m a i) a_zero)) (λ r. whole (mark sign.Equals ∷ zero_token ∷ mark sign.Semicolon ∷ r))
        (λ r. let l = h (mark sign.Equals ∷ zero_token ∷ mark sign.Semicolon ∷ r) in (l.4.0, omega (arith, l.1, l.4.2), l.4.3, l.4.4, (l.0, l.4.5, (zero_token ∷ mark sign.Semicolon ∷ r, origin, origin, l.3.0, tt, l.5, refl)))) in
        (mark sign.Equals ∷ zero_token ∷ mark sign.Semicolon ∷ c.0, c.1, tt, refl, c.2)
    closes (InChain front st) _ whole h ready = absurd ready
    closes (InMade front st) e whole h ready =
        let c = stats_complete st (Then front (MakeDo e)) (λ r. whole (mark sign.Semicolon ∷ r))
        (λ r. let l = h (mark sign.Semicolon ∷ r) in (l.4.0, omega (arith, l.1, l.4.2), l.4.3, l.4.4, (l.0, l.4.5, (origin, l.3, l.5)))) in
        (mark sign.Semicolon ∷ c.0, c.1, tt, refl, c.2)
    closes _ e whole h ready = absurd (h []).3

    closes_flag : (st : Stack) (g : Guard) (whole : List Seen → List Seen) → ((rest : List Seen) → EndedFlag n (whole rest) g st rest) → ClosesFlag n g st
    closes_flag (InFlagNot st) g whole h =
        let c = closes_flag st (FlagNot g) whole (λ r. after_flag_not n (whole r) g st r (h r)) in
        (c.0, c.1, c.2, end_flag_not n g st c.0 ∙ c.3)
    closes_flag (InFlagTwo op f st) g whole h =
        let c = closes_flag st (FlagTwo op f g) whole (λ r. after_flag_two n (whole r) op f g st r (h r)) in
        (c.0, c.1, c.2, end_flag_two n op f g st c.0 (omega (arith, c.2, guard_low op)) ∙ c.3)
    closes_flag (InFlagGroup st) g whole h =
        let c = closes_flag st (FlagGroup g) (λ r. whole (mark sign.CloseParen ∷ r))
        (λ r. let l = h (mark sign.CloseParen ∷ r) in (token (Mark sign.OpenParen) l.3.0 ∷ l.0, omega (arith, l.1), flag_room_down 0 1 st (omega arith) l.3.2, l.3.3, (l.0, l.3.0, origin, refl, l.4))) in
        (mark sign.CloseParen ∷ c.0, c.1, refl, c.3)
    closes_flag (Guarded bound more last) g whole h =
        let c = completes (last g) (λ r. whole (mark sign.CloseParen ∷ r)) (λ r. let l = h (mark sign.CloseParen ∷ r) in l.3.2 g origin r (omega (arith, l.1)) l.4) in
        (mark sign.CloseParen ∷ c.0, c.1, refl, c.2)
    closes_flag _ g whole h = absurd (h []).2
