-- Statements from tokens of the same kinds.
use Rattle.std.proofs.Common.{◌≡◌, Bool, true, false, List, [], ◌∷◌, ◌++◌, refl, ap, ap₂, subst, ◌∙◌}
use Rattle.bc_data.specs.Seen.{Lexeme, Seen, Keyword, Name, Text, Mark}
use Rattle.bc_data.specs.SourceTree.{Expression, PrintItem, TextItem, ValueItem, Change, ChangeOf, Statement, Let, NewTag, Assign, Do, MakeDo, Block, If, IfElse, While, Return, ReturnValue, Print, Assert, Exit, Statements, Nothing, Then}
use Rattle.bc_data.specs.Grammar.{token, name_token, SpellsAction, base_lexeme, SpellsBrackets, SpellsType, SpellsFormal, Spells, SpellsPrintItem, SpellsChange, SpellsTest, SpellsStat, SpellsStats, SpellsBody, Separated, Listed}
use Rattle.bc_data.specs.declared.run.Place.{Place}
use Rattle.bc_data.specs.declared.token.Sign.TheVariants as sign
use Rattle.bc_data.specs.declared.token.Word.{Word}
use Rattle.bc_data.specs.declared.token.Word.TheVariants as word
use Rattle.bc_data.specs.declared.tree.Formal.{Formal}
use Rattle.bc_data.specs.declared.tree.TypeText.{TypeText}
use Rattle.bc_print.specs.Laws.{nowhere, unplaced_name, unplaced_type, unplaced_formal, unplaced_action, unplaced_expression, unplaced_print_item, unplaced_change, unplaced_statement, unplaced_statements}
use Rattle.bc_law_readback.specs.Parts.{Part, Space, LineFeed, tokens_of, kinds, keyword, mark, name, space, comma, base_parts, bracket_parts, type_parts, formal_parts, action_parts, joined_parts, expression_parts, print_item_parts, change_parts, line_parts, deeper_parts, braced_parts, test_parts, statement_parts, statements_parts}
use Rattle.bc_law_readback.proofs.Regrown.{Regrows, Regrown, next, next_two, next_three, tokens_append, of_two, of_three, of_four, of_five, regrow_separated, regrow_listed, same_of_three}
use Rattle.bc_law_readback.proofs.RegrownShapes.{chain_kept, target_kept, call_kept, made_kept}
use Rattle.bc_law_readback.proofs.RegrownExpressions.{named, regrow_action, regrow}

-- lines
pub of_line : (margin parts : List Part) (ys : List Lexeme) → tokens_of margin ≡ [] → tokens_of (line_parts margin parts) ++ ys ≡ tokens_of parts ++ ys
of_line margin parts ys empty = of_three margin parts (LineFeed ∷ []) ys ∙ ap (λ ks. ks ++ (tokens_of parts ++ ys)) empty

pub of_braced : (margin head lines : List Part) (ys : List Lexeme) → tokens_of margin ≡ [] → tokens_of (braced_parts margin head lines) ++ ys ≡ tokens_of head ++ (Mark sign.OpenBrace ∷ tokens_of lines ++ (Mark sign.CloseBrace ∷ ys))
of_braced margin head lines ys empty =
    let first = line_parts margin (head ++ space ++ mark sign.OpenBrace) in
    of_three first lines (line_parts margin (mark sign.CloseBrace)) ys ∙ ap (λ ks. tokens_of first ++ (tokens_of lines ++ ks)) (of_line margin (mark sign.CloseBrace) ys empty) ∙ of_line margin (head ++ space ++ mark sign.OpenBrace) (tokens_of lines ++ (Mark sign.CloseBrace ∷ ys)) empty ∙ of_three head space (mark sign.OpenBrace) (tokens_of lines ++ (Mark sign.CloseBrace ∷ ys))

pub deeper_empty : (margin : List Part) → tokens_of margin ≡ [] → tokens_of (deeper_parts margin) ≡ []
deeper_empty margin empty = tokens_append margin (Space ∷ Space ∷ []) ∙ ap (λ ks. ks ++ []) empty

-- types and declarations
regrow_brackets : (many : Bool) (old rest new : List Seen) (ys : List Lexeme) → SpellsBrackets many old rest → kinds new ≡ tokens_of (bracket_parts many) ++ ys → (rest_again : List Seen) × SpellsBrackets many new rest_again × (kinds rest_again ≡ ys)
regrow_brackets false old rest new ys s h = (new, refl, h)
regrow_brackets true old rest new ys s h =
    let (open_again, close_again, ts1, e1, k1) = next_two (λ r. new ≡ r) (Mark sign.OpenBracket) (Mark sign.CloseBracket) new ys refl h in
    (ts1, (open_again, close_again, e1), k1)

pub regrow_type : (kind : TypeText) → Regrows SpellsType unplaced_type type_parts kind
regrow_type kind old rest new ys (mid, is, s) h =
    let (at, ts1, e1, k1) = next (λ r. new ≡ r) (base_lexeme kind.base) new _ refl (h ∙ of_two (base_parts kind.base) (bracket_parts kind.many) ys) in
    let (ts2, s2, k2) = regrow_brackets kind.many mid rest ts1 ys s k1 in
    (record kind { at = at }, ts2, (ts1, e1, s2), k2, refl)

pub regrow_formal : (x : Formal) → Regrows SpellsFormal unplaced_formal formal_parts x
regrow_formal x old rest new ys s h =
    let (kind_again, ts1, s1, k1, u) = regrow_type x.kind old (name_token x.name ∷ rest) new (Name x.name.name ∷ ys) s (h ∙ of_three (type_parts x.kind) space (name x.name) ys) in
    let (at, ts2, s2, k2) = next (SpellsType kind_again new) (Name x.name.name) ts1 ys s1 k1 in
    (record { kind = kind_again; name = named x.name at }, ts2, s2, k2, ap (λ kind. record { kind = kind; name = unplaced_name x.name }) u)

regrow_print_item : (x : PrintItem) → Regrows SpellsPrintItem unplaced_print_item print_item_parts x
regrow_print_item (TextItem meaning) old rest new ys s h =
    let (at, ts1, e1, k1) = next (λ r. new ≡ r) (Text meaning) new ys refl h in
    (TextItem meaning, ts1, (at, e1), k1, refl)
regrow_print_item (ValueItem e) old rest new ys s h =
    let (again, ts1, s1, k1, u) = regrow e old rest new ys s h in
    (ValueItem again, ts1, s1, k1, ap ValueItem u)

regrow_change : (x : Change) → Regrows SpellsChange unplaced_change change_parts x
regrow_change (ChangeOf x actions) old rest new ys (inner, colon, is, s) h =
    let (at, colon_again, ts1, e1, k1) = next_two (λ r. new ≡ r) (Name x.name) (Mark sign.Colon) new _ refl (h ∙ of_four (name x) (mark sign.Colon) space (joined_parts action_parts comma actions) ys) in
    let (again, ts2, s2, k2, u) = regrow_separated (SpellsAction true) unplaced_action action_parts (regrow_action true) comma (Mark sign.Comma) refl actions inner rest ts1 ys s k1 in
    (ChangeOf (named x at) again, ts2, (ts1, colon_again, e1, s2), k2, ap (ChangeOf (unplaced_name x)) u)

-- a test in parentheses, and statements in braces
regrow_test : (w : Word) (at : Place) (e : Expression) (old rest new : List Seen) (ys : List Lexeme) → SpellsTest w at e old rest → kinds new ≡ Keyword w ∷ Mark sign.OpenParen ∷ tokens_of (expression_parts e) ++ (Mark sign.CloseParen ∷ ys) →
    (at_again : Place) × Regrown (SpellsTest w at_again) unplaced_expression e new ys
regrow_test w at e old rest new ys (inner, paren, close, is, s) h =
    let (at_again, open_again, ts1, e1, k1) = next_two (λ r. new ≡ r) (Keyword w) (Mark sign.OpenParen) new _ refl h in
    let (again, ts2, s2, k2, u) = regrow e inner (token (Mark sign.CloseParen) close ∷ rest) ts1 (Mark sign.CloseParen ∷ ys) s k1 in
    let (close_again, ts3, s3, k3) = next (Spells again ts1) (Mark sign.CloseParen) ts2 ys s2 k2 in
    (at_again, (again, ts3, (ts1, open_again, close_again, e1, s3), k3, u))

pub regrow_body : (margin : List Part) (body : Statements) → Regrows SpellsStats unplaced_statements (statements_parts margin) body →
    (old rest new : List Seen) (ys : List Lexeme) → SpellsBody body old rest → kinds new ≡ Mark sign.OpenBrace ∷ tokens_of (statements_parts margin body) ++ (Mark sign.CloseBrace ∷ ys) → Regrown SpellsBody unplaced_statements body new ys
regrow_body margin body regrow_it old rest new ys (inner, brace, close, is, s) h =
    let (open_again, ts1, e1, k1) = next (λ r. new ≡ r) (Mark sign.OpenBrace) new _ refl h in
    let (again, ts2, s2, k2, u) = regrow_it inner (token (Mark sign.CloseBrace) close ∷ rest) ts1 (Mark sign.CloseBrace ∷ ys) s k1 in
    let (close_again, ts3, s3, k3) = next (SpellsStats again ts1) (Mark sign.CloseBrace) ts2 ys s2 k2 in
    (again, ts3, (ts1, open_again, close_again, e1, s3), k3, u)

-- a head with a test, and statements in braces
of_tested : (margin : List Part) (w : Word) (test : Expression) (lines : List Part) (ys : List Lexeme) → tokens_of margin ≡ [] → tokens_of (braced_parts margin (test_parts w test) lines) ++ ys ≡ Keyword w ∷ Mark sign.OpenParen ∷ tokens_of (expression_parts test) ++ (Mark sign.CloseParen ∷ Mark sign.OpenBrace ∷ tokens_of lines ++ (Mark sign.CloseBrace ∷ ys))
of_tested margin w test lines ys empty = of_braced margin (test_parts w test) lines ys empty ∙ of_five (keyword w) space (mark sign.OpenParen) (expression_parts test) (mark sign.CloseParen) (Mark sign.OpenBrace ∷ tokens_of lines ++ (Mark sign.CloseBrace ∷ ys))

mutual
  regrow_statement : (margin : List Part) (s : Statement) → tokens_of margin ≡ [] → Regrows SpellsStat unplaced_statement (statement_parts margin) s
  regrow_statement margin (Let x e) empty old rest new ys (behind, inner, equals, semicolon, s, is, t) h =
      let front = formal_parts x ++ space ++ mark sign.Equals ++ space in
      let split = of_line margin (front ++ expression_parts e ++ mark sign.Semicolon) ys empty ∙ of_three front (expression_parts e) (mark sign.Semicolon) ys ∙ of_four (formal_parts x) space (mark sign.Equals) space (tokens_of (expression_parts e) ++ (Mark sign.Semicolon ∷ ys)) in
      let (x_again, ts1, s1, k1, u) = regrow_formal x old (token (Mark sign.Equals) equals ∷ inner) new (Mark sign.Equals ∷ tokens_of (expression_parts e) ++ (Mark sign.Semicolon ∷ ys)) (subst (SpellsType x.kind old) is s) (h ∙ split) in
      let (at, ts2, s2, k2) = next (SpellsFormal x_again new) (Mark sign.Equals) ts1 _ s1 k1 in
      let (again, ts3, s3, k3, v) = regrow e inner (token (Mark sign.Semicolon) semicolon ∷ rest) ts2 (Mark sign.Semicolon ∷ ys) t k2 in
      let (ends, ts4, s4, k4) = next (Spells again ts2) (Mark sign.Semicolon) ts3 ys s3 k3 in
      (Let x_again again, ts4, (name_token x_again.name ∷ token (Mark sign.Equals) at ∷ ts2, ts2, at, ends, s2, refl, s4), k4, ap₂ Let u v)
  regrow_statement margin (NewTag at x kind) empty old rest new ys s h =
      let (at, name_at, equals, ts1, e1, k1) = next_three (λ r. new ≡ r) (Keyword word.Tag) (Name x.name) (Mark sign.Equals) new _ refl (h ∙ of_line margin _ ys empty) in
      let (new_at, tag, paren, ts2, e2, k2) = next_three (λ r. new ≡ token (Keyword word.Tag) at ∷ token (Name x.name) name_at ∷ token (Mark sign.Equals) equals ∷ r) (Keyword word.New) (Keyword word.Tag) (Mark sign.OpenParen) ts1 _ e1 k1 in
      let (kind_at, close, semicolon, ts3, e3, k3) = next_three (λ r. new ≡ token (Keyword word.Tag) at ∷ token (Name x.name) name_at ∷ token (Mark sign.Equals) equals ∷ token (Keyword word.New) new_at ∷ token (Keyword word.Tag) tag ∷ token (Mark sign.OpenParen) paren ∷ r) (Name kind.name) (Mark sign.CloseParen) (Mark sign.Semicolon) ts2 ys e2 k2 in
      (NewTag at (named x name_at) (named kind kind_at), ts3, (equals, new_at, tag, paren, close, semicolon, e3), k3, refl)
  regrow_statement margin (Assign target e) empty old rest new ys (inner, equals, semicolon, chain, is_target, s, t) h =
      let front = expression_parts target ++ space ++ mark sign.Equals ++ space in
      let split = of_line margin (front ++ expression_parts e ++ mark sign.Semicolon) ys empty ∙ of_three front (expression_parts e) (mark sign.Semicolon) ys ∙ of_four (expression_parts target) space (mark sign.Equals) space (tokens_of (expression_parts e) ++ (Mark sign.Semicolon ∷ ys)) in
      let (target_again, ts1, s1, k1, u) = regrow target old (token (Mark sign.Equals) equals ∷ inner) new (Mark sign.Equals ∷ tokens_of (expression_parts e) ++ (Mark sign.Semicolon ∷ ys)) s (h ∙ split) in
      let (at, ts2, s2, k2) = next (Spells target_again new) (Mark sign.Equals) ts1 _ s1 k1 in
      let (again, ts3, s3, k3, v) = regrow e inner (token (Mark sign.Semicolon) semicolon ∷ rest) ts2 (Mark sign.Semicolon ∷ ys) t k2 in
      let (ends, ts4, s4, k4) = next (Spells again ts2) (Mark sign.Semicolon) ts3 ys s3 k3 in
      (Assign target_again again, ts4, (ts2, at, ends, chain_kept target target_again u chain, target_kept target target_again u is_target, s2, s4), k4, ap₂ Assign u v)
  regrow_statement margin (Do call) empty old rest new ys (semicolon, chain, is_call, s) h =
      let (again, ts1, s1, k1, u) = regrow call old (token (Mark sign.Semicolon) semicolon ∷ rest) new (Mark sign.Semicolon ∷ ys) s (h ∙ of_line margin (expression_parts call ++ mark sign.Semicolon) ys empty ∙ of_two (expression_parts call) (mark sign.Semicolon) ys) in
      let (ends, ts2, s2, k2) = next (Spells again new) (Mark sign.Semicolon) ts1 ys s1 k1 in
      (Do again, ts2, (ends, chain_kept call again u chain, call_kept call again u is_call, s2), k2, ap Do u)
  regrow_statement margin (MakeDo made) empty old rest new ys (semicolon, is_made, s) h =
      let (again, ts1, s1, k1, u) = regrow made old (token (Mark sign.Semicolon) semicolon ∷ rest) new (Mark sign.Semicolon ∷ ys) s (h ∙ of_line margin (expression_parts made ++ mark sign.Semicolon) ys empty ∙ of_two (expression_parts made) (mark sign.Semicolon) ys) in
      let (ends, ts2, s2, k2) = next (Spells again new) (Mark sign.Semicolon) ts1 ys s1 k1 in
      (MakeDo again, ts2, (ends, made_kept made again u is_made, s2), k2, ap MakeDo u)
  regrow_statement margin (Block at body) empty old rest new ys (inner, close, is, s) h =
      let deeper = deeper_parts margin in
      let lines = statements_parts deeper body in
      let split = of_three (line_parts margin (mark sign.OpenBrace)) lines (line_parts margin (mark sign.CloseBrace)) ys ∙ of_line margin (mark sign.OpenBrace) _ empty ∙ ap (λ ks. Mark sign.OpenBrace ∷ tokens_of lines ++ ks) (of_line margin (mark sign.CloseBrace) ys empty) in
      let (again, ts1, (ts2, open_again, close_again, e1, s1), k1, u) = regrow_body deeper body (regrow_statements deeper body (deeper_empty margin empty)) old rest new ys (inner, at, close, is, s) (h ∙ split) in
      (Block open_again again, ts1, (ts2, close_again, e1, s1), k1, ap (Block nowhere) u)
  regrow_statement margin (If at test body) empty old rest new ys (behind, inner, brace, close, s, is, t) h =
      let deeper = deeper_parts margin in
      let lines = statements_parts deeper body in
      let (at_again, (test_again, ts1, s1, k1, u)) = regrow_test word.If at test old behind new (Mark sign.OpenBrace ∷ tokens_of lines ++ (Mark sign.CloseBrace ∷ ys)) s (h ∙ of_tested margin word.If test lines ys empty) in
      let (again, ts2, (ts3, brace_again, close_again, e2, s2), k2, v) = regrow_body deeper body (regrow_statements deeper body (deeper_empty margin empty)) behind rest ts1 ys (inner, brace, close, is, t) k1 in
      (If at_again test_again again, ts2, (ts1, ts3, brace_again, close_again, s1, e2, s2), k2, ap₂ (If nowhere) u v)
  regrow_statement margin (IfElse at test body other) empty old rest new ys (behind, inner, last, brace, close, else_at, brace_2, close_2, s, is, t, v) h =
      let deeper = deeper_parts margin in
      let lines = statements_parts deeper body in
      let line = line_parts margin (mark sign.CloseBrace ++ space ++ keyword word.Else ++ space ++ mark sign.OpenBrace) in
      let other_lines = statements_parts deeper other in
      let behind_body = Mark sign.CloseBrace ∷ Keyword word.Else ∷ Mark sign.OpenBrace ∷ tokens_of other_lines ++ (Mark sign.CloseBrace ∷ ys) in
      let inside = of_three lines line other_lines (Mark sign.CloseBrace ∷ ys) ∙ ap (λ ks. tokens_of lines ++ ks) (of_line margin (mark sign.CloseBrace ++ space ++ keyword word.Else ++ space ++ mark sign.OpenBrace) (tokens_of other_lines ++ (Mark sign.CloseBrace ∷ ys)) empty) in
      let split = of_tested margin word.If test (lines ++ line ++ other_lines) ys empty ∙ ap (λ ks. Keyword word.If ∷ Mark sign.OpenParen ∷ tokens_of (expression_parts test) ++ (Mark sign.CloseParen ∷ Mark sign.OpenBrace ∷ ks)) inside in
      let (at_again, (test_again, ts1, s1, k1, u1)) = regrow_test word.If at test old behind new (Mark sign.OpenBrace ∷ tokens_of lines ++ behind_body) s (h ∙ split) in
      let (brace_again, ts2, e2, k2) = next (λ r. ts1 ≡ r) (Mark sign.OpenBrace) ts1 _ refl k1 in
      let (body_again, ts3, s3, k3, u3) = regrow_statements deeper body (deeper_empty margin empty) inner (token (Mark sign.CloseBrace) close ∷ token (Keyword word.Else) else_at ∷ token (Mark sign.OpenBrace) brace_2 ∷ last) ts2 behind_body t k2 in
      let (close_again, else_again, brace_2_again, ts4, s4, k4) = next_three (SpellsStats body_again ts2) (Mark sign.CloseBrace) (Keyword word.Else) (Mark sign.OpenBrace) ts3 _ s3 k3 in
      let (other_again, ts5, s5, k5, u5) = regrow_statements deeper other (deeper_empty margin empty) last (token (Mark sign.CloseBrace) close_2 ∷ rest) ts4 (Mark sign.CloseBrace ∷ ys) v k4 in
      let (close_2_again, ts6, s6, k6) = next (SpellsStats other_again ts4) (Mark sign.CloseBrace) ts5 ys s5 k5 in
      (IfElse at_again test_again body_again other_again, ts6, (ts1, ts2, ts4, brace_again, close_again, else_again, brace_2_again, close_2_again, s1, e2, s4, s6), k6, same_of_three (IfElse nowhere) (unplaced_expression test) (unplaced_expression test_again) (unplaced_statements body) (unplaced_statements body_again) (unplaced_statements other) (unplaced_statements other_again) u1 u3 u5)
  regrow_statement margin (While at test body) empty old rest new ys (behind, inner, brace, close, s, is, t) h =
      let deeper = deeper_parts margin in
      let lines = statements_parts deeper body in
      let (at_again, (test_again, ts1, s1, k1, u)) = regrow_test word.While at test old behind new (Mark sign.OpenBrace ∷ tokens_of lines ++ (Mark sign.CloseBrace ∷ ys)) s (h ∙ of_tested margin word.While test lines ys empty) in
      let (again, ts2, (ts3, brace_again, close_again, e2, s2), k2, v) = regrow_body deeper body (regrow_statements deeper body (deeper_empty margin empty)) behind rest ts1 ys (inner, brace, close, is, t) k1 in
      (While at_again test_again again, ts2, (ts1, ts3, brace_again, close_again, s1, e2, s2), k2, ap₂ (While nowhere) u v)
  regrow_statement margin (Return at) empty old rest new ys s h =
      let (at, semicolon, ts1, e1, k1) = next_two (λ r. new ≡ r) (Keyword word.Return) (Mark sign.Semicolon) new ys refl (h ∙ of_line margin (keyword word.Return ++ mark sign.Semicolon) ys empty) in
      (Return at, ts1, (semicolon, e1), k1, refl)
  regrow_statement margin (ReturnValue at e) empty old rest new ys (inner, semicolon, is, s) h =
      let (at, ts1, e1, k1) = next (λ r. new ≡ r) (Keyword word.Return) new _ refl (h ∙ of_line margin (keyword word.Return ++ space ++ expression_parts e ++ mark sign.Semicolon) ys empty ∙ of_four (keyword word.Return) space (expression_parts e) (mark sign.Semicolon) ys) in
      let (again, ts2, s2, k2, u) = regrow e inner (token (Mark sign.Semicolon) semicolon ∷ rest) ts1 (Mark sign.Semicolon ∷ ys) s k1 in
      let (ends, ts3, s3, k3) = next (Spells again ts1) (Mark sign.Semicolon) ts2 ys s2 k2 in
      (ReturnValue at again, ts3, (ts1, ends, e1, s3), k3, ap (ReturnValue nowhere) u)
  regrow_statement margin (Print at items) empty old rest new ys (inner, paren, close, semicolon, is, s) h =
      let joined = joined_parts print_item_parts comma items in
      let split = of_line margin (keyword word.Print ++ mark sign.OpenParen ++ joined ++ mark sign.CloseParen ++ mark sign.Semicolon) ys empty ∙ of_five (keyword word.Print) (mark sign.OpenParen) joined (mark sign.CloseParen) (mark sign.Semicolon) ys in
      let (at, open_again, ts1, e1, k1) = next_two (λ r. new ≡ r) (Keyword word.Print) (Mark sign.OpenParen) new _ refl (h ∙ split) in
      let (again, ts2, s2, k2, u) = regrow_separated SpellsPrintItem unplaced_print_item print_item_parts regrow_print_item comma (Mark sign.Comma) refl items inner (token (Mark sign.CloseParen) close ∷ token (Mark sign.Semicolon) semicolon ∷ rest) ts1 (Mark sign.CloseParen ∷ Mark sign.Semicolon ∷ ys) s k1 in
      let (close_again, ends, ts3, s3, k3) = next_two (Separated SpellsPrintItem (Mark sign.Comma) again ts1) (Mark sign.CloseParen) (Mark sign.Semicolon) ts2 ys s2 k2 in
      (Print at again, ts3, (ts1, open_again, close_again, ends, e1, s3), k3, ap (Print nowhere) u)
  regrow_statement margin (Assert at e) empty old rest new ys (semicolon, s) h =
      let split = of_line margin (keyword word.Assert ++ mark sign.OpenParen ++ expression_parts e ++ mark sign.CloseParen ++ mark sign.Semicolon) ys empty ∙ of_five (keyword word.Assert) (mark sign.OpenParen) (expression_parts e) (mark sign.CloseParen) (mark sign.Semicolon) ys in
      let (at_again, (again, ts1, s1, k1, u)) = regrow_test word.Assert at e old (token (Mark sign.Semicolon) semicolon ∷ rest) new (Mark sign.Semicolon ∷ ys) s (h ∙ split) in
      let (ends, ts2, s2, k2) = next (SpellsTest word.Assert at_again again new) (Mark sign.Semicolon) ts1 ys s1 k1 in
      (Assert at_again again, ts2, (ends, s2), k2, ap (Assert nowhere) u)
  regrow_statement margin (Exit at changes) empty old rest new ys (inner, paren, close, semicolon, is, s) h =
      let joined = joined_parts change_parts (mark sign.Semicolon ++ space) changes in
      let split = of_line margin (keyword word.TaskExit ++ mark sign.OpenParen ++ joined ++ mark sign.CloseParen ++ mark sign.Semicolon) ys empty ∙ of_five (keyword word.TaskExit) (mark sign.OpenParen) joined (mark sign.CloseParen) (mark sign.Semicolon) ys in
      let (at, open_again, ts1, e1, k1) = next_two (λ r. new ≡ r) (Keyword word.TaskExit) (Mark sign.OpenParen) new _ refl (h ∙ split) in
      let (again, ts2, s2, k2, u) = regrow_listed SpellsChange unplaced_change change_parts regrow_change (mark sign.Semicolon ++ space) (Mark sign.Semicolon) refl changes inner (token (Mark sign.CloseParen) close ∷ token (Mark sign.Semicolon) semicolon ∷ rest) ts1 (Mark sign.CloseParen ∷ Mark sign.Semicolon ∷ ys) s k1 in
      let (close_again, ends, ts3, s3, k3) = next_two (Listed SpellsChange (Mark sign.Semicolon) again ts1) (Mark sign.CloseParen) (Mark sign.Semicolon) ts2 ys s2 k2 in
      (Exit at again, ts3, (ts1, open_again, close_again, ends, e1, s3), k3, ap (Exit nowhere) u)

  pub regrow_statements : (margin : List Part) (ss : Statements) → tokens_of margin ≡ [] → Regrows SpellsStats unplaced_statements (statements_parts margin) ss
  regrow_statements margin Nothing empty old rest new ys s h = (Nothing, new, refl, h, refl)
  regrow_statements margin (Then front last) empty old rest new ys (mid, s, t) h =
      let (front_again, ts1, s1, k1, u) = regrow_statements margin front empty old mid new (tokens_of (statement_parts margin last) ++ ys) s (h ∙ of_two (statements_parts margin front) (statement_parts margin last) ys) in
      let (last_again, ts2, s2, k2, v) = regrow_statement margin last empty mid rest ts1 ys t k1 in
      (Then front_again last_again, ts2, (ts1, s1, s2), k2, ap₂ Then u v)
