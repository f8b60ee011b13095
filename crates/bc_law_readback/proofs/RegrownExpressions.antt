-- Expressions from tokens of the same kinds.
use Rattle.std.proofs.Common.{◌≡◌, ◌≤◌, ◌<◌, ◌∷◌, ◌++◌, refl, ap, ap₂, ◌∙◌, inl, false, Bool}
use Rattle.bc_data.specs.Seen.{Keyword, Name, Number, Mark}
use Rattle.bc_data.specs.SourceTree.{Sequence, Empty, More, Expression, Int, Truth, Null, This, Var, Group, Neg, Not, Two, Field, Length, Elem, Call, Make, Array, Expressions, NoArg, Arg}
use Rattle.bc_data.specs.Grammar.{token, name_token, truth, sign_of, looseness, Separated, SpellsAction, SpellsTweaks, base_lexeme, Spells, SpellsArgs, SpellsFront}
use Rattle.bc_data.specs.declared.run.Place.{Place}
use Rattle.bc_data.specs.declared.token.Sign.TheVariants as sign
use Rattle.bc_data.specs.declared.token.Word.TheVariants as word
use Rattle.bc_data.specs.declared.tree.Named.{Named}
use Rattle.bc_data.specs.declared.tree.ActionText.{ActionText}
use Rattle.bc_data.specs.declared.tree.ActionText.TheVariants as action
use Rattle.bc_print.specs.Laws.{nowhere, mapped, unplaced_name, unplaced_type, unplaced_action, unplaced_expression, unplaced_arguments}
use Rattle.bc_law_readback.specs.Parts.{tokens_of, keyword, mark, name, space, comma, base_parts, action_parts, tweaks_parts, joined_parts, operator_parts, expression_parts, arguments_parts, ended_arguments_parts}
use Rattle.bc_law_readback.proofs.Regrown.{Regrows, next, next_two, next_three, of_two, of_three, of_four, regrow_more}
use Rattle.bc_law_readback.proofs.RegrownShapes.{loose_kept}

-- the name at another place
abbrev pub named : Named → Place → Named
named x at = record { name = x.name; at = at }

pub regrow_action : (clears : Bool) (x : ActionText) → Regrows (SpellsAction clears) unplaced_action action_parts x
regrow_action clears (action.Flag x b) old rest new ys s h =
    let (at, becomes, value, ts1, e1, k1) = next_three (λ r. new ≡ r) (Name x.name) (Mark sign.Becomes) (truth b) new ys refl h in
    (action.Flag (named x at) b, ts1, (becomes, value, e1), k1, refl)
regrow_action clears (action.Add at x) old rest new ys s h =
    let (at, name_at, ts1, e1, k1) = next_two (λ r. new ≡ r) (Keyword word.Add) (Name x.name) new ys refl h in
    (action.Add at (named x name_at), ts1, e1, k1, refl)
regrow_action clears (action.Clear at x) old rest new ys s h =
    let (at, name_at, ts1, e1, k1) = next_two (λ r. new ≡ r) (Keyword word.Clear) (Name x.name) new ys refl h in
    (action.Clear at (named x name_at), ts1, (s.0, e1), k1, refl)

-- empty braces are not written
regrow_tweaks : (xs : Sequence ActionText) → Regrows SpellsTweaks (mapped unplaced_action) tweaks_parts xs
regrow_tweaks Empty old rest new ys s h = (Empty, new, inl refl, h, refl)
regrow_tweaks (More front last) old rest new ys (inner, open_at, close, e, s) h =
    let (open_again, ts1, e1, k1) = next (λ r. new ≡ r) (Mark sign.OpenBrace) new _ refl (h ∙ of_three (mark sign.OpenBrace) (joined_parts action_parts comma (More front last)) (mark sign.CloseBrace) ys) in
    let (front_again, last_again, ts2, s2, k2, u) = regrow_more (SpellsAction false) unplaced_action action_parts (regrow_action false) comma (Mark sign.Comma) refl front last inner (token (Mark sign.CloseBrace) close ∷ rest) ts1 (Mark sign.CloseBrace ∷ ys) s k1 in
    let (close_again, ts3, s3, k3) = next (Separated (SpellsAction false) (Mark sign.Comma) (More front_again last_again) ts1) (Mark sign.CloseBrace) ts2 ys s2 k2 in
    (More front_again last_again, ts3, (ts1, open_again, close_again, e1, s3), k3, u)

mutual
  pub regrow : (e : Expression) → Regrows Spells unplaced_expression expression_parts e
  regrow (Int at n) old rest new ys s h =
      let (at, ts1, e1, k1) = next (λ r. new ≡ r) (Number n) new ys refl h in
      (Int at n, ts1, e1, k1, refl)
  regrow (Truth at b) old rest new ys s h =
      let (at, ts1, e1, k1) = next (λ r. new ≡ r) (truth b) new ys refl h in
      (Truth at b, ts1, e1, k1, refl)
  regrow (Null at) old rest new ys s h =
      let (at, ts1, e1, k1) = next (λ r. new ≡ r) (Keyword word.Null) new ys refl h in
      (Null at, ts1, e1, k1, refl)
  regrow (This at) old rest new ys s h =
      let (at, ts1, e1, k1) = next (λ r. new ≡ r) (Keyword word.This) new ys refl h in
      (This at, ts1, e1, k1, refl)
  regrow (Var x) old rest new ys s h =
      let (at, ts1, e1, k1) = next (λ r. new ≡ r) (Name x.name) new ys refl h in
      (Var (named x at), ts1, e1, k1, refl)
  regrow (Group at e) old rest new ys (inner, close, is, s) h =
      let (open_again, ts1, e1, k1) = next (λ r. new ≡ r) (Mark sign.OpenParen) new _ refl (h ∙ of_three (mark sign.OpenParen) (expression_parts e) (mark sign.CloseParen) ys) in
      let (again, ts2, s2, k2, u) = regrow e inner (token (Mark sign.CloseParen) close ∷ rest) ts1 (Mark sign.CloseParen ∷ ys) s k1 in
      let (close_again, ts3, s3, k3) = next (Spells again ts1) (Mark sign.CloseParen) ts2 ys s2 k2 in
      (Group open_again again, ts3, (ts1, close_again, e1, s3), k3, ap (Group nowhere) u)
  regrow (Neg at e) old rest new ys (inner, is, low, s) h =
      let (at, ts1, e1, k1) = next (λ r. new ≡ r) (Mark sign.Minus) new _ refl h in
      let (again, ts2, s2, k2, u) = regrow e inner rest ts1 ys s k1 in
      (Neg at again, ts2, (ts1, e1, loose_kept e again u (λ n. n ≤ 1) low, s2), k2, ap (Neg nowhere) u)
  regrow (Not at e) old rest new ys (inner, is, low, s) h =
      let (at, ts1, e1, k1) = next (λ r. new ≡ r) (Mark sign.Bang) new _ refl h in
      let (again, ts2, s2, k2, u) = regrow e inner rest ts1 ys s k1 in
      (Not at again, ts2, (ts1, e1, loose_kept e again u (λ n. n ≤ 1) low, s2), k2, ap (Not nowhere) u)
  regrow (Two at op a b) old rest new ys (mid, low, lower, s, t) h =
      let (a_again, ts1, s1, k1, u) = regrow a old (token (Mark (sign_of op)) at ∷ mid) new (Mark (sign_of op) ∷ tokens_of (expression_parts b) ++ ys) s (h ∙ of_three (expression_parts a) (operator_parts op) (expression_parts b) ys) in
      let (at, ts2, s2, k2) = next (Spells a_again new) (Mark (sign_of op)) ts1 _ s1 k1 in
      let (b_again, ts3, s3, k3, v) = regrow b mid rest ts2 ys t k2 in
      (Two at op a_again b_again, ts3, (ts2, loose_kept a a_again u (λ n. n ≤ looseness op) low, loose_kept b b_again v (λ n. n < looseness op) lower, s2, s3), k3, ap₂ (Two nowhere op) u v)
  regrow (Field at a x) old rest new ys (low, s) h =
      let (again, ts1, s1, k1, u) = regrow a old (token (Mark sign.Dot) at ∷ name_token x ∷ rest) new (Mark sign.Dot ∷ Name x.name ∷ ys) s (h ∙ of_three (expression_parts a) (mark sign.Dot) (name x) ys) in
      let (dot, name_at, ts2, s2, k2) = next_two (Spells again new) (Mark sign.Dot) (Name x.name) ts1 ys s1 k1 in
      (Field dot again (named x name_at), ts2, (loose_kept a again u (λ n. n ≡ 0) low, s2), k2, ap (λ e. Field nowhere e (unplaced_name x)) u)
  regrow (Length at a) old rest new ys (word_at, low, s) h =
      let (again, ts1, s1, k1, u) = regrow a old (token (Mark sign.Dot) at ∷ token (Keyword word.Length) word_at ∷ rest) new (Mark sign.Dot ∷ Keyword word.Length ∷ ys) s (h ∙ of_three (expression_parts a) (mark sign.Dot) (keyword word.Length) ys) in
      let (dot, word_again, ts2, s2, k2) = next_two (Spells again new) (Mark sign.Dot) (Keyword word.Length) ts1 ys s1 k1 in
      (Length dot again, ts2, (word_again, loose_kept a again u (λ n. n ≡ 0) low, s2), k2, ap (Length nowhere) u)
  regrow (Elem at a i) old rest new ys (mid, close, low, s, t) h =
      let (a_again, ts1, s1, k1, u) = regrow a old (token (Mark sign.OpenBracket) at ∷ mid) new (Mark sign.OpenBracket ∷ tokens_of (expression_parts i) ++ (Mark sign.CloseBracket ∷ ys)) s (h ∙ of_four (expression_parts a) (mark sign.OpenBracket) (expression_parts i) (mark sign.CloseBracket) ys) in
      let (at, ts2, s2, k2) = next (Spells a_again new) (Mark sign.OpenBracket) ts1 _ s1 k1 in
      let (i_again, ts3, s3, k3, v) = regrow i mid (token (Mark sign.CloseBracket) close ∷ rest) ts2 (Mark sign.CloseBracket ∷ ys) t k2 in
      let (close_again, ts4, s4, k4) = next (Spells i_again ts2) (Mark sign.CloseBracket) ts3 ys s3 k3 in
      (Elem at a_again i_again, ts4, (ts2, close_again, loose_kept a a_again u (λ n. n ≡ 0) low, s2, s4), k4, ap₂ (Elem nowhere) u v)
  regrow (Call at a x args) old rest new ys (mid, open_at, close, low, s, t) h =
      let split = of_three (expression_parts a ++ mark sign.Dot ++ name x ++ mark sign.OpenParen) (arguments_parts args) (mark sign.CloseParen) ys ∙ of_four (expression_parts a) (mark sign.Dot) (name x) (mark sign.OpenParen) (tokens_of (arguments_parts args) ++ (Mark sign.CloseParen ∷ ys)) in
      let (again, ts1, s1, k1, u) = regrow a old (token (Mark sign.Dot) at ∷ name_token x ∷ token (Mark sign.OpenParen) open_at ∷ mid) new (Mark sign.Dot ∷ Name x.name ∷ Mark sign.OpenParen ∷ tokens_of (arguments_parts args) ++ (Mark sign.CloseParen ∷ ys)) s (h ∙ split) in
      let (dot, name_at, open_again, ts2, s2, k2) = next_three (Spells again new) (Mark sign.Dot) (Name x.name) (Mark sign.OpenParen) ts1 _ s1 k1 in
      let (args_again, ts3, s3, k3, v) = regrow_arguments args mid (token (Mark sign.CloseParen) close ∷ rest) ts2 (Mark sign.CloseParen ∷ ys) t k2 in
      let (close_again, ts4, s4, k4) = next (SpellsArgs args_again ts2) (Mark sign.CloseParen) ts3 ys s3 k3 in
      (Call dot again (named x name_at) args_again, ts4, (ts2, open_again, close_again, loose_kept a again u (λ n. n ≡ 0) low, s2, s4), k4, ap₂ (λ e es. Call nowhere e (unplaced_name x) es) u v)
  regrow (Make at x args tweaks) old rest new ys (inner, behind, open_at, close, is, s, t) h =
      let split = of_three (keyword word.New ++ space ++ name x ++ mark sign.OpenParen ++ arguments_parts args) (mark sign.CloseParen) (tweaks_parts tweaks) ys ∙ of_two (keyword word.New ++ space ++ name x ++ mark sign.OpenParen) (arguments_parts args) (Mark sign.CloseParen ∷ tokens_of (tweaks_parts tweaks) ++ ys) in
      let (at, name_at, open_again, ts1, e1, k1) = next_three (λ r. new ≡ r) (Keyword word.New) (Name x.name) (Mark sign.OpenParen) new _ refl (h ∙ split) in
      let (args_again, ts2, s2, k2, u) = regrow_arguments args inner (token (Mark sign.CloseParen) close ∷ behind) ts1 (Mark sign.CloseParen ∷ tokens_of (tweaks_parts tweaks) ++ ys) s k1 in
      let (close_again, ts3, s3, k3) = next (SpellsArgs args_again ts1) (Mark sign.CloseParen) ts2 _ s2 k2 in
      let (tweaks_again, ts4, s4, k4, v) = regrow_tweaks tweaks behind rest ts3 ys t k3 in
      (Make at (named x name_at) args_again tweaks_again, ts4, (ts1, ts3, open_again, close_again, e1, s3, s4), k4, ap₂ (Make nowhere (unplaced_name x)) u v)
  regrow (Array at kind e) old rest new ys (inner, open_at, close, one, is, s) h =
      let split = of_three (keyword word.New ++ space ++ base_parts kind.base ++ mark sign.OpenBracket) (expression_parts e) (mark sign.CloseBracket) ys in
      let (at, kind_at, open_again, ts1, e1, k1) = next_three (λ r. new ≡ r) (Keyword word.New) (base_lexeme kind.base) (Mark sign.OpenBracket) new _ refl (h ∙ split) in
      let (again, ts2, s2, k2, u) = regrow e inner (token (Mark sign.CloseBracket) close ∷ rest) ts1 (Mark sign.CloseBracket ∷ ys) s k1 in
      let (close_again, ts3, s3, k3) = next (Spells again ts1) (Mark sign.CloseBracket) ts2 ys s2 k2 in
      (Array at (record kind { at = kind_at }) again, ts3, (ts1, open_again, close_again, one, e1, s3), k3, ap (Array nowhere (unplaced_type kind)) u)

  pub regrow_arguments : (es : Expressions) → Regrows SpellsArgs unplaced_arguments arguments_parts es
  regrow_arguments NoArg old rest new ys s h = (NoArg, new, refl, h, refl)
  regrow_arguments (Arg front last) old rest new ys (mid, s, t) h =
      let (front_again, ts1, s1, k1, u) = regrow_front front old mid new (tokens_of (expression_parts last) ++ ys) s (h ∙ of_two (ended_arguments_parts front) (expression_parts last) ys) in
      let (last_again, ts2, s2, k2, v) = regrow last mid rest ts1 ys t k1 in
      (Arg front_again last_again, ts2, (ts1, s1, s2), k2, ap₂ Arg u v)

  regrow_front : (es : Expressions) → Regrows SpellsFront unplaced_arguments ended_arguments_parts es
  regrow_front NoArg old rest new ys s h = (NoArg, new, refl, h, refl)
  regrow_front (Arg front last) old rest new ys (mid, at, s, t) h =
      let (front_again, ts1, s1, k1, u) = regrow_front front old mid new (tokens_of (expression_parts last) ++ (Mark sign.Comma ∷ ys)) s (h ∙ of_three (ended_arguments_parts front) (expression_parts last) comma ys) in
      let (last_again, ts2, s2, k2, v) = regrow last mid (token (Mark sign.Comma) at ∷ rest) ts1 (Mark sign.Comma ∷ ys) t k1 in
      let (comma_at, ts3, s3, k3) = next (Spells last_again ts1) (Mark sign.Comma) ts2 ys s2 k2 in
      (Arg front_again last_again, ts3, (ts1, comma_at, s1, s3), k3, ap₂ Arg u v)
