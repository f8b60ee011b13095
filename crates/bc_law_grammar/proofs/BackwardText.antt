-- The same for statements, lists and whole texts.
use Rattle.std.proofs.Common.{◌≡◌, ℕ, List, [], ◌∷◌, refl, ap, sym, subst, ◌∙◌, ◌+◌, ◌≤◌, ◌<◌, max, arith, Bool, true, false, nat_le, if◌then◌else◌, inl, inr}
use Rattle.std.proofs.lemmas.Bool.{leb-true, leb-false}
use Rattle.std.specs.Prelude.{Some, None, Option}
use denote.Enum.Bare.{same_true}
use Rattle.bc_data.specs.Seen.{Lexeme, Seen, Keyword, Name, Number, Text, Mark, End}
use Rattle.bc_data.specs.SourceTree.{Sequence, Empty, More, largest, Expression, Int, Truth, Null, This, Var, Group, Neg, Not, Two, Field, Length, Elem, Call, Make, Array, Expressions, NoArg, Arg, height, tallest, GuardOp, AndOp, OrOp, Guard, FlagIs, FlagTruth, FlagNot, FlagTwo, FlagGroup, guard_height, PrintItem, TextItem, ValueItem, item_height, Change, ChangeOf, Statement, Let, NewTag, Assign, Do, MakeDo, Block, If, IfElse, While, Return, ReturnValue, Print, Assert, Exit, Statements, Nothing, Then, depth, deepest, Method, MethodOf, Member, FlagMember, FieldMember, MethodMember, MakerMember, member_depth, Param, ParamOf, param_depth, Item, TagTypeItem, ClassItem, TaskItem, item_depth}
use Rattle.bc_data.specs.Grammar.{token, name_token, sign_of, looseness, loose, Fronts, Separated, Listed, Repeated, SpellsAction, SpellsTweaks, base_lexeme, SpellsType, Spells, SpellsArgs, SpellsFront, IsChain, IsTarget, IsMade, SpellsPrintItem, SpellsChange, SpellsTest, SpellsStat, SpellsStats, guard_looseness, guard_word, guard_loose, SpellsGuard, SpellsBind, SpellsBinds, SpellsParam, SpellsFormal, SpellsBody, SpellsCode, SpellsResult, SpellsMember, SpellsItem}
use Rattle.bc_data.specs.declared.run.Place.{Place}
use Rattle.bc_data.specs.declared.program.Op.{Op}
use Rattle.bc_data.specs.declared.program.Op.TheVariants as op
use Rattle.bc_data.specs.declared.token.Word.{Word}
use Rattle.bc_data.specs.declared.token.Sign.{Sign}
use Rattle.bc_data.specs.declared.token.Word.TheVariants as word
use Rattle.bc_data.specs.declared.token.Sign.TheVariants as sign
use Rattle.bc_data.specs.contracts.token.Word as word_type
use Rattle.bc_data.specs.contracts.token.Sign as sign_type
use Rattle.bc_data.specs.declared.tree.Named.{Named}
use Rattle.bc_data.specs.declared.tree.TypeText.{TypeText}
use Rattle.bc_data.specs.declared.tree.Base.{Base}
use Rattle.bc_data.specs.declared.tree.Base.TheVariants as base
use Rattle.bc_data.specs.declared.tree.Formal.{Formal}
use Rattle.bc_data.specs.declared.tree.Bind.{Bind}
use Rattle.bc_data.specs.declared.tree.ActionText.{ActionText}
use Rattle.bc_data.specs.declared.tree.ActionText.TheVariants as action
use Rattle.bc_law_grammar.specs.Machine.{Closer, Paren, Bracket, Semicolon, Stack, Body, Guarded, InNeg, InNot, InTwo, Inside, InArgs, InPrint, InChain, InMade, InBlock, InFlagNot, InFlagTwo, InFlagGroup, State, Never, OnMark, OnWord, OnName, Want, Got, After, Dotted, Bracketed, Stats, Printing, Tweaking, Acting, Changing, Declaring, Parameters, Binding, WantFlag, AfterFlag, Members, Items, Done, Step, No, On, Deep, levels, raise, one_type, many_type, brackets, args_row, tweaks_row, array, array_row, new_row, let_value, let_row, tag_row, made_row, test_row, braces_row, else_row, return_row, print_ends, print_behind, exit_ends, exit_row, truth_row, tweak_behind, act_behind, change_row, formal_row, body_row, code_row, bind_behind, param_row, member_row, maker_row, void_row, flag_row, tag_type_row, class_row, task_row, assign_value, elem_value, want, reach, outer, push, assign, call_ends, declare, chain_ends, made_ends, settle, open_call, bracket, link, not_link, length_step, dotted, bracketed, close_brace, stat, printing, tweaking, acting, changing, declaring, parameters, binding, member, item, want_flag, flag_reach, outer_flag, push_flag, settle_flag, same_mark, same_word, on_name, step, Room, FlagRoom}
use Rattle.bc_law_grammar.proofs.Steps.{looseness_low}
use Rattle.bc_law_grammar.proofs.Forward.{tight_room, room_down, flag_room_down, chain_extra, chain_extra_low, guard_loose_high, loose_high}
use Rattle.bc_law_grammar.proofs.Backward.{Floor, Wants, Leads, Has, HasStep, EndedFlag, Fits, by_bool, by_test, has_args, has_tweaks, has_brackets, stat_ends, has_let, has_want, has_link, has_after, has_dotted, has_bracketed, listed_of, binds_of, mark_true, word_true, leads_level}

module _ (n : ℕ) (all : List Seen) where
  has_test : (w : Word) (at : Place) (next : Expression → State) (st : Stack) (ts : List Seen) → levels st + 1 ≤ n → ((e : Expression) (rest : List Seen) → height e + levels st + 1 ≤ n → SpellsTest w at e (token (Keyword w) at ∷ ts) rest → Has n all (next e) rest) → Has n all (test_row next st) ts
  has_test w at next st ts le f = λ p ts1 e1. (tt, (le, λ e c rest level s. f e rest level (ts1, p, c, ap (λ l. token (Keyword w) at ∷ l) e1, s)))

  has_braces : (next : Statements → State) (st : Stack) (ts : List Seen) → levels st + 1 ≤ n → ((ps : Statements) (rest inner : List Seen) (o c : Place) → ts ≡ token (Mark sign.OpenBrace) o ∷ inner → deepest ps + levels st + 1 ≤ n → SpellsStats ps inner (token (Mark sign.CloseBrace) c ∷ rest) → Has n all (next ps) rest) → Has n all (braces_row next st) ts
  has_braces next st ts le f = λ o ts1 e1. (ts1, omega arith, tt, (le, λ ps c rest level s. f ps rest ts1 o c e1 level s), refl)

  has_close : (at : Place) (ps : Statements) (st : Stack) (ts : List Seen) → Has n all (Stats ps st) (token (Mark sign.CloseBrace) at ∷ ts) → HasStep n all (close_brace ps st) ts
  has_close at ps (Body next) ts h = h.3 ps at ts (omega (arith, h.1)) h.4
  has_close at ps (InBlock next st) ts h = h.3.1 ps at ts (omega (arith, h.1)) h.4
  has_close at ps _ ts h = tt

  has_if : (at : Place) (ps : Statements) (st : Stack) (ts : List Seen) → Has n all (Stats ps st) (token (Keyword word.If) at ∷ ts) → levels st + 1 ≤ n → Has n all (test_row (λ test. braces_row (λ body. else_row at test body ps st) st) st) ts
  has_if at ps st ts h le =
      let start = token (Keyword word.If) at ∷ ts in
      has_test word.If at (λ test. braces_row (λ body. else_row at test body ps st) st) st ts le
      (λ test behind low t. has_braces (λ body. else_row at test body ps st) st behind le
      (λ body rest inner o c e low2 s. (
        λ w ts1 e1. has_braces (λ other. Stats (Then ps (IfElse at test body other)) st) st ts1 le
            (λ other rest2 last o2 c2 e2 low3 s2. stat_ends n all ps st start h (IfElse at test body other) rest2 (omega arith)
            (behind, inner, last, o, c, w, o2, c2, t, e, subst (λ l. SpellsStats body inner (token (Mark sign.CloseBrace) c ∷ l)) (e1 ∙ ap (λ l. token (Keyword word.Else) w ∷ l) e2) s, s2)),
        stat_ends n all ps st start h (If at test body) rest (omega arith) (behind, inner, o, c, t, e, s),
      )))

  has_while : (at : Place) (ps : Statements) (st : Stack) (ts : List Seen) → Has n all (Stats ps st) (token (Keyword word.While) at ∷ ts) → levels st + 1 ≤ n → Has n all (test_row (λ test. braces_row (λ body. Stats (Then ps (While at test body)) st) st) st) ts
  has_while at ps st ts h le =
      has_test word.While at (λ test. braces_row (λ body. Stats (Then ps (While at test body)) st) st) st ts le
      (λ test behind low t. has_braces (λ body. Stats (Then ps (While at test body)) st) st behind le
      (λ body rest inner o c e low2 s. stat_ends n all ps st (token (Keyword word.While) at ∷ ts) h (While at test body) rest (omega arith) (behind, inner, o, c, t, e, s)))

  has_tag : (at : Place) (ps : Statements) (st : Stack) (ts : List Seen) → Has n all (Stats ps st) (token (Keyword word.Tag) at ∷ ts) → levels st + 1 ≤ n → Has n all (tag_row at ps st) ts
  has_tag at ps st ts h le =
      λ x ts1 e1. λ a2 ts2 e2. λ a3 ts3 e3. λ a4 ts4 e4. λ a5 ts5 e5. λ kind ts6 e6. λ a7 ts7 e7. λ a8 ts8 e8.
      stat_ends n all ps st (token (Keyword word.Tag) at ∷ ts) h (NewTag at x kind) ts8 (omega arith) (
        a2,
        a3,
        a4,
        a5,
        a7,
        a8,
        ap (λ l. token (Keyword word.Tag) at ∷ l) (e1 ∙ ap (λ l. name_token x ∷ l) (e2 ∙ ap (λ l. token (Mark sign.Equals) a2 ∷ l) (e3 ∙ ap (λ l. token (Keyword word.New) a3 ∷ l) (e4 ∙ ap (λ l. token (Keyword word.Tag) a4 ∷ l)
            (e5 ∙ ap (λ l. token (Mark sign.OpenParen) a5 ∷ l) (e6 ∙ ap (λ l. name_token kind ∷ l) (e7 ∙ ap (λ l. token (Mark sign.CloseParen) a7 ∷ l) e8))))))),
      )

  has_made_row : (at : Place) (ps : Statements) (st : Stack) (ts : List Seen) → Has n all (Stats ps st) (token (Keyword word.New) at ∷ ts) → levels st + 2 ≤ n → Has n all (made_row at ps st) ts
  has_made_row at ps st ts h le =
      λ x ts1 e1. λ o ts2 e2. has_args n all (λ args. tweaks_row at x args (InMade ps st)) (InMade ps st) ts2 (omega arith)
      (λ args c rest level s. has_tweaks n all at x args (InMade ps st) (token (Keyword word.New) at ∷ ts) ts2 rest o c level (omega arith) (λ tweaks. tt) (h.0, omega arith, h.1, h.2, h.3, h.4)
      (ap (λ l. token (Keyword word.New) at ∷ l) (e1 ∙ ap (λ l. name_token x ∷ l) e2)) s)

  has_print : (at : Place) (ps : Statements) (st : Stack) (ts : List Seen) → Has n all (Stats ps st) (token (Keyword word.Print) at ∷ ts) → levels st + 1 ≤ n → Has n all (OnMark sign.OpenParen (λ _. Printing Empty (print_ends at ps st) st) Never) ts
  has_print at ps st ts h le =
      λ p ts1 e1. (
        ts1,
        omega arith,
        refl,
        λ items c rest level s. λ m ts2 e2. stat_ends n all ps st (token (Keyword word.Print) at ∷ ts) h (Print at items) ts2 (omega arith)
            (ts1, p, c, m, ap (λ l. token (Keyword word.Print) at ∷ l) e1, subst (λ l. Separated SpellsPrintItem (Mark sign.Comma) items ts1 (token (Mark sign.CloseParen) c ∷ l)) e2 s),
      )

  has_exit : (at : Place) (ps : Statements) (st : Stack) (ts : List Seen) → Has n all (Stats ps st) (token (Keyword word.TaskExit) at ∷ ts) → levels st + 1 ≤ n → Has n all (exit_row at ps st) ts
  has_exit at ps st ts h le =
      let start = token (Keyword word.TaskExit) at ∷ ts in
      λ p ts1 e1. (
        λ c ts2 e2. λ m ts3 e3. stat_ends n all ps st start h (Exit at Empty) ts3 (omega arith) (ts1, p, c, m, ap (λ l. token (Keyword word.TaskExit) at ∷ l) e1, e2 ∙ ap (λ l. token (Mark sign.CloseParen) c ∷ l) e3),
        (
          ts1,
          refl,
          λ changes c rest s. λ m ts3 e3. stat_ends n all ps st start h (Exit at changes) ts3 (omega arith)
              (ts1, p, c, m, ap (λ l. token (Keyword word.TaskExit) at ∷ l) e1, subst (λ l. Listed SpellsChange (Mark sign.Semicolon) changes ts1 (token (Mark sign.CloseParen) c ∷ l)) e3 (listed_of SpellsChange (Mark sign.Semicolon) changes ts1 (token (Mark sign.CloseParen) c ∷ rest) s)),
        ),
      )

  has_stat : (k : Lexeme) (at : Place) (ps : Statements) (st : Stack) (ts : List Seen) → Has n all (Stats ps st) (token k at ∷ ts) → HasStep n all (stat k at ps st) ts
  has_stat (Name k) at ps st ts h = λ le. (token (Name k) at ∷ ts, omega arith, refl, (tt, omega arith), (h.0, omega arith, h.1, h.2, h.3, h.4), refl)
  has_stat (Keyword word.This) at ps st ts h = λ le. (token (Keyword word.This) at ∷ ts, omega arith, refl, (tt, omega arith), (h.0, omega arith, h.1, h.2, h.3, h.4), refl)
  has_stat (Keyword word.Int) at ps st ts h = λ le. has_brackets n all base.Int at (λ kind. let_row kind ps st) (token (Keyword word.Int) at ∷ ts) ts refl (λ kind rest s. has_let n all kind ps st (token (Keyword word.Int) at ∷ ts) rest le h s)
  has_stat (Keyword word.Bool) at ps st ts h = λ le. has_brackets n all base.Bool at (λ kind. let_row kind ps st) (token (Keyword word.Bool) at ∷ ts) ts refl (λ kind rest s. has_let n all kind ps st (token (Keyword word.Bool) at ∷ ts) rest le h s)
  has_stat (Keyword word.Tag) at ps st ts h = λ le. has_tag at ps st ts h le
  has_stat (Keyword word.New) at ps st ts h = λ le. has_made_row at ps st ts h le
  has_stat (Keyword word.If) at ps st ts h = λ le. has_if at ps st ts h le
  has_stat (Keyword word.While) at ps st ts h = λ le. has_while at ps st ts h le
  has_stat (Keyword word.Return) at ps st ts h = λ le. (
    λ c rest e. stat_ends n all ps st (token (Keyword word.Return) at ∷ ts) h (Return at) rest (omega arith) (c, ap (λ l. token (Keyword word.Return) at ∷ l) e),
    (tt, (le, λ e c rest level s. stat_ends n all ps st (token (Keyword word.Return) at ∷ ts) h (ReturnValue at e) rest (omega arith) (ts, c, refl, s))),
  )
  has_stat (Keyword word.Print) at ps st ts h = λ le. has_print at ps st ts h le
  has_stat (Keyword word.Assert) at ps st ts h = λ le. has_test word.Assert at (λ e. OnMark sign.Semicolon (λ _. Stats (Then ps (Assert at e)) st) Never) st ts le
      (λ e behind level t. λ m rest e1. stat_ends n all ps st (token (Keyword word.Assert) at ∷ ts) h (Assert at e) rest (omega arith) (m, subst (λ l. SpellsTest word.Assert at e (token (Keyword word.Assert) at ∷ ts) l) e1 t))
  has_stat (Keyword word.TaskExit) at ps st ts h = λ le. has_exit at ps st ts h le
  has_stat (Mark sign.OpenBrace) at ps st ts h = λ le. (ts, omega arith, tt, (le, λ body c rest level s. stat_ends n all ps st (token (Mark sign.OpenBrace) at ∷ ts) h (Block at body) rest (omega arith) (ts, c, refl, s)), refl)
  has_stat (Mark sign.CloseBrace) at ps st ts h = has_close at ps st ts h
  has_stat _ at ps st ts h = tt

  -- lists

  has_printing : (k : Lexeme) (at : Place) (items : Sequence PrintItem) (next : Sequence PrintItem → State) (st : Stack) (ts : List Seen) → Has n all (Printing items next st) (token k at ∷ ts) → HasStep n all (printing k at items next st) ts
  has_printing (Text m) at items next st ts h = (
    λ c rest e. h.3 (More items (TextItem m)) c rest (omega (arith, h.1)) (token (Text m) at ∷ ts, h.2, (at, ap (λ l. token (Text m) at ∷ l) e)),
    λ c rest e. (h.0, omega (arith, h.1), (token (Text m) at ∷ ts, c, h.2, (at, ap (λ l. token (Text m) at ∷ l) e)), h.3),
  )
  has_printing k at items next st ts h = has_want n all k at (InPrint items next st) ts tt h

  has_tweak_behind : (tweaks : Sequence ActionText) (a : ActionText) (next : Sequence ActionText → State) (mid ts : List Seen) → Has n all (Tweaking tweaks next) mid → SpellsAction false a mid ts → Has n all (tweak_behind (More tweaks a) next) ts
  has_tweak_behind tweaks a next mid ts h s = (
    λ c rest e. h.2 (More tweaks a) c rest (mid, h.1, subst (λ l. SpellsAction false a mid l) e s),
    λ c rest e. (h.0, (mid, c, h.1, subst (λ l. SpellsAction false a mid l) e s), h.2),
  )

  has_tweaking : (k : Lexeme) (at : Place) (tweaks : Sequence ActionText) (next : Sequence ActionText → State) (ts : List Seen) → Has n all (Tweaking tweaks next) (token k at ∷ ts) → HasStep n all (tweaking k at tweaks next) ts
  has_tweaking (Name k) at tweaks next ts h = λ b ts1 e1. (
    λ w ts2 e2. has_tweak_behind tweaks (action.Flag (record { name = k; at = at }) true) next (token (Name k) at ∷ ts) ts2 h (b, w, ap (λ l. token (Name k) at ∷ l) (e1 ∙ ap (λ l. token (Mark sign.Becomes) b ∷ l) e2)),
    λ w ts2 e2. has_tweak_behind tweaks (action.Flag (record { name = k; at = at }) false) next (token (Name k) at ∷ ts) ts2 h (b, w, ap (λ l. token (Name k) at ∷ l) (e1 ∙ ap (λ l. token (Mark sign.Becomes) b ∷ l) e2)),
  )
  has_tweaking (Keyword word.Add) at tweaks next ts h = λ x ts1 e1. has_tweak_behind tweaks (action.Add at x) next (token (Keyword word.Add) at ∷ ts) ts1 h (ap (λ l. token (Keyword word.Add) at ∷ l) e1)
  has_tweaking _ at tweaks next ts h = tt

  has_act_behind : (actions : Sequence ActionText) (a : ActionText) (more last : Sequence ActionText → State) (mid ts : List Seen) → Has n all (Acting actions more last) mid → SpellsAction true a mid ts → Has n all (act_behind (More actions a) more last) ts
  has_act_behind actions a more last mid ts h s = (
    λ c rest e. h.3 (More actions a) c rest (mid, h.1, subst (λ l. SpellsAction true a mid l) e s),
    (
      λ c rest e. h.2 (More actions a) c rest (mid, h.1, subst (λ l. SpellsAction true a mid l) e s),
      λ c rest e. (h.0, (mid, c, h.1, subst (λ l. SpellsAction true a mid l) e s), h.2, h.3),
    ),
  )

  has_acting : (k : Lexeme) (at : Place) (actions : Sequence ActionText) (more last : Sequence ActionText → State) (ts : List Seen) → Has n all (Acting actions more last) (token k at ∷ ts) → HasStep n all (acting k at actions more last) ts
  has_acting (Name k) at actions more last ts h = λ b ts1 e1. (
    λ w ts2 e2. has_act_behind actions (action.Flag (record { name = k; at = at }) true) more last (token (Name k) at ∷ ts) ts2 h (b, w, ap (λ l. token (Name k) at ∷ l) (e1 ∙ ap (λ l. token (Mark sign.Becomes) b ∷ l) e2)),
    λ w ts2 e2. has_act_behind actions (action.Flag (record { name = k; at = at }) false) more last (token (Name k) at ∷ ts) ts2 h (b, w, ap (λ l. token (Name k) at ∷ l) (e1 ∙ ap (λ l. token (Mark sign.Becomes) b ∷ l) e2)),
  )
  has_acting (Keyword word.Add) at actions more last ts h = λ x ts1 e1. has_act_behind actions (action.Add at x) more last (token (Keyword word.Add) at ∷ ts) ts1 h (ap (λ l. token (Keyword word.Add) at ∷ l) e1)
  has_acting (Keyword word.Clear) at actions more last ts h = λ x ts1 e1. has_act_behind actions (action.Clear at x) more last (token (Keyword word.Clear) at ∷ ts) ts1 h (refl, ap (λ l. token (Keyword word.Clear) at ∷ l) e1)
  has_acting _ at actions more last ts h = tt

  has_changing : (k : Lexeme) (at : Place) (changes : Sequence Change) (next : Sequence Change → State) (ts : List Seen) → Has n all (Changing changes next) (token k at ∷ ts) → HasStep n all (changing k at changes next) ts
  has_changing (Name k) at changes next ts h = λ c ts1 e1. (
    ts1,
    refl,
    λ actions m rest s. (h.0, (token (Name k) at ∷ ts, m, h.1, (ts1, c, ap (λ l. token (Name k) at ∷ l) e1, s)), h.2),
    λ actions m rest s. h.2 (More changes (ChangeOf (record { name = k; at = at }) actions)) m rest (token (Name k) at ∷ ts, h.1, (ts1, c, ap (λ l. token (Name k) at ∷ l) e1, s)),
  )
  has_changing _ at changes next ts h = tt

  has_formal_row : (kind : TypeText) (formals : Sequence Formal) (next : Sequence Formal → State) (mid ts : List Seen) → Has n all (Declaring formals next) mid → SpellsType kind mid ts → Has n all (formal_row kind formals next) ts
  has_formal_row kind formals next mid ts h s = λ x ts1 e1. (
    λ c rest e. h.2 (More formals (record { kind = kind; name = x })) c rest (mid, h.1, subst (λ l. SpellsType kind mid l) (e1 ∙ ap (λ l. name_token x ∷ l) e) s),
    λ c rest e. (h.0, (mid, c, h.1, subst (λ l. SpellsType kind mid l) (e1 ∙ ap (λ l. name_token x ∷ l) e) s), h.2),
  )

  has_declaring : (k : Lexeme) (at : Place) (formals : Sequence Formal) (next : Sequence Formal → State) (ts : List Seen) → Has n all (Declaring formals next) (token k at ∷ ts) → HasStep n all (declaring k at formals next) ts
  has_declaring (Name k) at formals next ts h = has_brackets n all (base.Class k) at (λ kind. formal_row kind formals next) (token (Name k) at ∷ ts) ts refl (λ kind rest s. has_formal_row kind formals next (token (Name k) at ∷ ts) rest h s)
  has_declaring (Keyword word.Int) at formals next ts h = has_brackets n all base.Int at (λ kind. formal_row kind formals next) (token (Keyword word.Int) at ∷ ts) ts refl (λ kind rest s. has_formal_row kind formals next (token (Keyword word.Int) at ∷ ts) rest h s)
  has_declaring (Keyword word.Bool) at formals next ts h = has_brackets n all base.Bool at (λ kind. formal_row kind formals next) (token (Keyword word.Bool) at ∷ ts) ts refl (λ kind rest s. has_formal_row kind formals next (token (Keyword word.Bool) at ∷ ts) rest h s)
  has_declaring _ at formals next ts h = tt

  has_parameters : (k : Lexeme) (at : Place) (params : Sequence Param) (next : Sequence Param → State) (ts : List Seen) → Has n all (Parameters params next) (token k at ∷ ts) → HasStep n all (parameters k at params next) ts
  has_parameters (Name k) at params next ts h =
      let mid = token (Name k) at ∷ ts in
      let kind : Named = record { name = k; at = at } in
      λ x ts1 e1. λ i ts2 e2. (
        tt,
        (
          λ g w ts3 low s. (
            ts3,
            refl,
            λ binds c rest b. (h.0, omega (arith, h.1), (mid, c, h.2, (ts2, token (Keyword word.With) w ∷ ts3, i, ap (λ l. token (Name k) at ∷ l) (e1 ∙ ap (λ l. name_token x ∷ l) e2), s, binds_of binds (token (Keyword word.With) w ∷ ts3) ts3 (token (Mark sign.Comma) c ∷ rest) w refl b)), h.3),
            λ binds c rest b. h.3 (More params (ParamOf kind x g binds)) c rest (omega (arith, h.1)) (mid, h.2, (ts2, token (Keyword word.With) w ∷ ts3, i, ap (λ l. token (Name k) at ∷ l) (e1 ∙ ap (λ l. name_token x ∷ l) e2), s, binds_of binds (token (Keyword word.With) w ∷ ts3) ts3 (token (Mark sign.CloseParen) c ∷ rest) w refl b)),
          ),
          λ g c rest low s. (h.0, omega (arith, h.1), (mid, c, h.2, (ts2, token (Mark sign.Comma) c ∷ rest, i, ap (λ l. token (Name k) at ∷ l) (e1 ∙ ap (λ l. name_token x ∷ l) e2), s, refl)), h.3),
          λ g c rest low s. h.3 (More params (ParamOf kind x g Empty)) c rest (omega (arith, h.1)) (mid, h.2, (ts2, token (Mark sign.CloseParen) c ∷ rest, i, ap (λ l. token (Name k) at ∷ l) (e1 ∙ ap (λ l. name_token x ∷ l) e2), s, refl)),
        ),
      )
  has_parameters _ at params next ts h = tt

  has_binding : (k : Lexeme) (at : Place) (binds : Sequence Bind) (more last : Sequence Bind → State) (ts : List Seen) → Has n all (Binding binds more last) (token k at ∷ ts) → HasStep n all (binding k at binds more last) ts
  has_binding (Name k) at binds more last ts h =
      let mid = token (Name k) at ∷ ts in
      λ x ts1 e1. (
        λ c rest e. h.3 (More binds (record { tag_type = record { name = k; at = at }; variable = x })) c rest (mid, h.1, ap (λ l. token (Name k) at ∷ l) (e1 ∙ ap (λ l. name_token x ∷ l) e)),
        (
          λ c rest e. h.2 (More binds (record { tag_type = record { name = k; at = at }; variable = x })) c rest (mid, h.1, ap (λ l. token (Name k) at ∷ l) (e1 ∙ ap (λ l. name_token x ∷ l) e)),
          λ c rest e. (h.0, (mid, c, h.1, ap (λ l. token (Name k) at ∷ l) (e1 ∙ ap (λ l. name_token x ∷ l) e)), h.2, h.3),
        ),
      )
  has_binding _ at binds more last ts h = tt

  -- guards

  has_want_flag : (k : Lexeme) (at : Place) (st : Stack) (ts : List Seen) → FlagRoom 1 st → Leads n all st (token k at ∷ ts) → HasStep n all (want_flag k at st) ts
  has_want_flag (Name k) at st ts room h = (token (Name k) at ∷ ts, omega (arith, leads_level n all st (token (Name k) at ∷ ts) h), flag_room_down 0 1 st (omega arith) room, h, refl, refl)
  has_want_flag (Keyword word.True) at st ts room h = (token (Keyword word.True) at ∷ ts, omega (arith, leads_level n all st (token (Keyword word.True) at ∷ ts) h), flag_room_down 0 1 st (omega arith) room, h, (at, refl), refl)
  has_want_flag (Keyword word.False) at st ts room h = (token (Keyword word.False) at ∷ ts, omega (arith, leads_level n all st (token (Keyword word.False) at ∷ ts) h), flag_room_down 0 1 st (omega arith) room, h, (at, refl), refl)
  has_want_flag (Mark sign.Bang) at st ts room h = λ le. (omega arith, (at, le, room, h))
  has_want_flag (Mark sign.OpenParen) at st ts room h = λ le. (tt, (at, le, room, h))
  has_want_flag _ at st ts room h = tt

  has_outer_flag : (k : Lexeme) (at : Place) (g : Guard) (st : Stack) (ts mid : List Seen) → guard_height g + levels st ≤ n → Leads n all st mid → SpellsGuard g mid (token k at ∷ ts) → HasStep n all (outer_flag k g st) ts
  has_outer_flag (Mark sign.CloseParen) at g (InFlagGroup st) ts mid level leads s = (token (Mark sign.OpenParen) leads.0 ∷ mid, omega arith, flag_room_down 0 1 st (omega arith) leads.2, leads.3, (mid, leads.0, at, refl, s), refl)
  has_outer_flag (Keyword word.With) at g (Guarded bound more last) ts mid level leads s = leads.0 g at ts (omega arith) s
  has_outer_flag (Mark sign.Comma) at g (Guarded bound more last) ts mid level leads s = leads.1 g at ts (omega arith) s
  has_outer_flag (Mark sign.CloseParen) at g (Guarded bound more last) ts mid level leads s = leads.2 g at ts (omega arith) s
  has_outer_flag _ at g st ts mid level leads s = tt

  has_push_flag : (k : Lexeme) (at : Place) (g : Guard) (st : Stack) (ts mid : List Seen) → guard_height g + levels st ≤ n → guard_loose g ≤ flag_reach k → FlagRoom (flag_reach k) st → Leads n all st mid → SpellsGuard g mid (token k at ∷ ts) → HasStep n all (push_flag k g st) ts
  has_push_flag (Keyword word.And) at g st ts mid level l room leads s = λ le. (omega arith, (mid, at, le, l, room, leads, s))
  has_push_flag (Keyword word.Or) at g st ts mid level l room leads s = λ le. (omega arith, (mid, at, le, l, room, leads, s))
  has_push_flag k at g st ts mid level l room leads s = has_outer_flag k at g st ts mid level leads s

  pub after_flag_not : (g : Guard) (st : Stack) (rest : List Seen) → EndedFlag n all g (InFlagNot st) rest → EndedFlag n all (FlagNot g) st rest
  after_flag_not g st rest h = let l = h.3 in (token (Mark sign.Bang) l.0 ∷ h.0, omega (arith, h.1), l.2, l.3, (h.0, l.0, refl, h.2, h.4))

  pub after_flag_two : (op : GuardOp) (g k : Guard) (st : Stack) (rest : List Seen) → EndedFlag n all k (InFlagTwo op g st) rest → EndedFlag n all (FlagTwo op g k) st rest
  after_flag_two op g k st rest h = let l = h.3 in (l.0, omega (arith, h.1, l.2), l.4, l.5, (h.0, l.1, l.3, h.2, l.6, h.4))

  has_settle_flag : (st : Stack) (k : Lexeme) (at : Place) (g : Guard) (ts : List Seen) → guard_loose g ≤ flag_reach k → 2 ≤ flag_reach k → EndedFlag n all g st (token k at ∷ ts) → HasStep n all (settle_flag k g st) ts
  has_settle_flag (InFlagNot st) k at g ts l two h = has_settle_flag st k at (FlagNot g) ts (omega arith) two (after_flag_not g st (token k at ∷ ts) h)
  has_settle_flag (InFlagTwo op f st) k at g ts l two h =
      by_test n all (guard_looseness op) (flag_reach k) (settle_flag k (FlagTwo op f g) st) (push_flag k g (InFlagTwo op f st)) ts
      (λ le. has_settle_flag st k at (FlagTwo op f g) ts le two (after_flag_two op f g st (token k at ∷ ts) h))
      (λ lt. has_push_flag k at g (InFlagTwo op f st) ts h.0 h.1 l lt h.3 h.4)
  has_settle_flag (InFlagGroup st) k at g ts l two h = has_push_flag k at g (InFlagGroup st) ts h.0 h.1 l tt h.3 h.4
  has_settle_flag (Guarded bound more last) k at g ts l two h = has_push_flag k at g (Guarded bound more last) ts h.0 h.1 l tt h.3 h.4
  has_settle_flag _ k at g ts l two h = absurd h.2

  flag_reach-bound : (k : Lexeme) → 2 ≤ flag_reach k
  flag_reach-bound (Keyword word.And) = omega arith
  flag_reach-bound (Keyword word.Or) = omega arith
  flag_reach-bound _ = omega arith

  -- members and items

  has_body : (next : Statements → State) (ts : List Seen) → ((body : Statements) (rest : List Seen) → deepest body ≤ n → SpellsBody body ts rest → Has n all (next body) rest) → Has n all (body_row next) ts
  has_body next ts f = λ o ts1 e1. (ts1, omega arith, tt, λ ps c rest level s. f ps rest level (ts1, o, c, e1, s), refl)

  has_code : (next : Sequence Formal → Statements → State) (ts : List Seen) → ((formals : Sequence Formal) (body : Statements) (behind rest : List Seen) (c : Place) → deepest body ≤ n → Listed SpellsFormal (Mark sign.Comma) formals ts (token (Mark sign.CloseParen) c ∷ behind) → SpellsBody body behind rest → Has n all (next formals body) rest) → Has n all (code_row next) ts
  has_code next ts f = (
    λ c ts1 e1. has_body (next Empty) ts1 (λ body rest level s. f Empty body ts1 rest c level e1 s),
    (ts, refl, λ formals c rest s. has_body (next formals) rest (λ body rest2 level b. f formals body rest rest2 c level (listed_of SpellsFormal (Mark sign.Comma) formals ts (token (Mark sign.CloseParen) c ∷ rest) s) b)),
  )

  member_had : (m : Member) (members : Sequence Member) (next : Sequence Member → State) (mid rest : List Seen) → Has n all (Members members next) mid → member_depth m ≤ n → SpellsMember m mid rest → Has n all (Members (More members m) next) rest
  member_had m members next mid rest h level s = (h.0, omega (arith, h.1), (mid, h.2, s), h.3)

  has_member_row : (kind : TypeText) (members : Sequence Member) (next : Sequence Member → State) (mid ts : List Seen) → Has n all (Members members next) mid → SpellsType kind mid ts → Has n all (member_row kind members next) ts
  has_member_row kind members next mid ts h s = λ x ts1 e1. (
    λ c ts2 e2. member_had (FieldMember (record { kind = kind; name = x })) members next mid ts2 h (omega arith) (c, subst (λ l. SpellsType kind mid l) (e1 ∙ ap (λ l. name_token x ∷ l) e2) s),
    λ o ts2 e2. has_code (λ formals body. Members (More members (MethodMember (MethodOf (Some kind) x formals body))) next) ts2
        (λ formals body behind rest c level f b. member_had (MethodMember (MethodOf (Some kind) x formals body)) members next mid rest h level (ts1, subst (λ l. SpellsType kind mid l) e1 s, (ts2, behind, o, c, e2, f, b))),
  )

  has_member : (k : Lexeme) (at : Place) (members : Sequence Member) (next : Sequence Member → State) (ts : List Seen) → Has n all (Members members next) (token k at ∷ ts) → HasStep n all (member k at members next) ts
  has_member (Mark sign.CloseBrace) at members next ts h = h.3 members at ts h.1 h.2
  has_member (Keyword word.Flag) at members next ts h = λ x ts1 e1. λ c ts2 e2. member_had (FlagMember x) members next (token (Keyword word.Flag) at ∷ ts) ts2 h (omega arith) (at, c, ap (λ l. token (Keyword word.Flag) at ∷ l) (e1 ∙ ap (λ l. name_token x ∷ l) e2))
  has_member (Keyword word.Void) at members next ts h = λ x ts1 e1. λ o ts2 e2. has_code (λ formals body. Members (More members (MethodMember (MethodOf None x formals body))) next) ts2
      (λ formals body behind rest c level f b. member_had (MethodMember (MethodOf None x formals body)) members next (token (Keyword word.Void) at ∷ ts) rest h level (ts1, (at, ap (λ l. token (Keyword word.Void) at ∷ l) e1), (ts2, behind, o, c, e2, f, b)))
  has_member (Keyword word.Int) at members next ts h = has_brackets n all base.Int at (λ kind. member_row kind members next) (token (Keyword word.Int) at ∷ ts) ts refl (λ kind rest s. has_member_row kind members next (token (Keyword word.Int) at ∷ ts) rest h s)
  has_member (Keyword word.Bool) at members next ts h = has_brackets n all base.Bool at (λ kind. member_row kind members next) (token (Keyword word.Bool) at ∷ ts) ts refl (λ kind rest s. has_member_row kind members next (token (Keyword word.Bool) at ∷ ts) rest h s)
  has_member (Name k) at members next ts h = (
    λ o ts2 e2. has_code (λ formals body. Members (More members (MakerMember (MethodOf None (record { name = k; at = at }) formals body))) next) ts2
        (λ formals body behind rest c level f b. member_had (MakerMember (MethodOf None (record { name = k; at = at }) formals body)) members next (token (Name k) at ∷ ts) rest h level (ts, refl, refl, (ts2, behind, o, c, e2, f, b))),
    has_brackets n all (base.Class k) at (λ kind. member_row kind members next) (token (Name k) at ∷ ts) ts refl (λ kind rest s. has_member_row kind members next (token (Name k) at ∷ ts) rest h s),
  )
  has_member _ at members next ts h = tt

  item_had : (i : Item) (items : Sequence Item) (mid rest : List Seen) → Has n all (Items items) mid → item_depth i ≤ n → SpellsItem i mid rest → Has n all (Items (More items i)) rest
  item_had i items mid rest h level s = (omega (arith, h.0), (mid, h.1, s))

  has_item : (k : Lexeme) (at : Place) (items : Sequence Item) (ts : List Seen) → Has n all (Items items) (token k at ∷ ts) → HasStep n all (item k at items) ts
  has_item (Keyword word.TagType) at items ts h = λ x ts1 e1. λ c ts2 e2. item_had (TagTypeItem x) items (token (Keyword word.TagType) at ∷ ts) ts2 h (omega arith) (at, c, ap (λ l. token (Keyword word.TagType) at ∷ l) (e1 ∙ ap (λ l. name_token x ∷ l) e2))
  has_item (Keyword word.Class) at items ts h = λ x ts1 e1. λ o ts2 e2. (ts2, omega arith, refl, λ members c rest level s. item_had (ClassItem x members) items (token (Keyword word.Class) at ∷ ts) rest h level (ts2, at, o, c, ap (λ l. token (Keyword word.Class) at ∷ l) (e1 ∙ ap (λ l. name_token x ∷ l) e2), s))
  has_item (Keyword word.Task) at items ts h = λ x ts1 e1. λ o ts2 e2. (
    ts2,
    omega arith,
    refl,
    λ params c rest level s. has_body (λ body. Items (More items (TaskItem at x params body))) rest
        (λ body rest2 low b. item_had (TaskItem at x params body) items (token (Keyword word.Task) at ∷ ts) rest2 h (omega arith) (ts2, rest, o, c, ap (λ l. token (Keyword word.Task) at ∷ l) (e1 ∙ ap (λ l. name_token x ∷ l) e2), s, b)),
  )
  has_item End at items ts h = (at, h.0, h.1)
  has_item _ at items ts h = tt

  -- every step

  seen_mark : (s : Sign) (t : Seen) (ts : List Seen) → same_mark s t.kind ≡ true → t ∷ ts ≡ token (Mark s) t.at ∷ ts
  seen_mark s t ts b = ap (λ k. token k t.at ∷ ts) (mark_true s t.kind b)

  seen_word : (w : Word) (t : Seen) (ts : List Seen) → same_word w t.kind ≡ true → t ∷ ts ≡ token (Keyword w) t.at ∷ ts
  seen_word w t ts b = ap (λ k. token k t.at ∷ ts) (word_true w t.kind b)

  by_name : (k : Lexeme) (at : Place) (next : Named → State) (other : Step) (ts : List Seen) → ((x : Named) → token k at ∷ ts ≡ name_token x ∷ ts → Has n all (next x) ts) → HasStep n all other ts → HasStep n all (on_name k at next other) ts
  by_name (Name x) at next other ts f g = f (record { name = x; at = at }) refl
  by_name _ at next other ts f g = g

  pub has_step : (s : State) (t : Seen) (ts : List Seen) → Has n all s (t ∷ ts) → HasStep n all (step s t) ts
  has_step Never t ts h = absurd h
  has_step (OnMark s next Never) t ts h = by_bool n all (same_mark s t.kind) (On (next t.at)) No ts (λ b. h t.at ts (seen_mark s t ts b)) (λ b. tt)
  has_step (OnMark s next other) t ts h = by_bool n all (same_mark s t.kind) (On (next t.at)) (step other t) ts (λ b. h.0 t.at ts (seen_mark s t ts b)) (λ b. has_step other t ts h.1)
  has_step (OnWord w next Never) t ts h = by_bool n all (same_word w t.kind) (On (next t.at)) No ts (λ b. h t.at ts (seen_word w t ts b)) (λ b. tt)
  has_step (OnWord w next other) t ts h = by_bool n all (same_word w t.kind) (On (next t.at)) (step other t) ts (λ b. h.0 t.at ts (seen_word w t ts b)) (λ b. has_step other t ts h.1)
  has_step (OnName next Never) t ts h = by_name t.kind t.at next No ts (λ x e. h x ts e) tt
  has_step (OnName next other) t ts h = by_name t.kind t.at next (step other t) ts (λ x e. h.0 x ts e) (has_step other t ts h.1)
  has_step (Want st) t ts h = has_want n all t.kind t.at st ts h.0 h.1
  has_step (Got e st) t ts h = has_link n all t.kind t.at e st ts h
  has_step (After e st) t ts h = has_after n all t.kind t.at e st ts h
  has_step (Dotted at e st) t ts h = has_dotted n all t.kind t.at at e st ts h
  has_step (Bracketed at kind front st) t ts h = has_bracketed n all t.kind t.at at kind front st ts h
  has_step (Stats ps st) t ts h = has_stat t.kind t.at ps st ts h
  has_step (Printing items next st) t ts h = has_printing t.kind t.at items next st ts h
  has_step (Tweaking tweaks next) t ts h = has_tweaking t.kind t.at tweaks next ts h
  has_step (Acting actions more last) t ts h = has_acting t.kind t.at actions more last ts h
  has_step (Changing changes next) t ts h = has_changing t.kind t.at changes next ts h
  has_step (Declaring formals next) t ts h = has_declaring t.kind t.at formals next ts h
  has_step (Parameters params next) t ts h = has_parameters t.kind t.at params next ts h
  has_step (Binding binds more last) t ts h = has_binding t.kind t.at binds more last ts h
  has_step (WantFlag st) t ts h = has_want_flag t.kind t.at st ts h.0 h.1
  has_step (AfterFlag g st) t ts h = has_settle_flag st t.kind t.at g ts (omega (arith, h.5)) (flag_reach-bound t.kind) (h.0, h.1, h.2, h.3, h.4)
  has_step (Members members next) t ts h = has_member t.kind t.at members next ts h
  has_step (Items items) t ts h = has_item t.kind t.at items ts h
  has_step (Done items) t ts h = tt
