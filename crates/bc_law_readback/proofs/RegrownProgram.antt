-- Items and whole programs from tokens of the same kinds.
use Rattle.std.proofs.Common.{◌≡◌, ◌≤◌, ◌<◌, List, [], ◌∷◌, ◌++◌, Option, None, Some, refl, ap, ap₂, sym, ◌∙◌}
use Rattle.bc_data.specs.Seen.{Lexeme, Seen, Keyword, Name, Mark, End}
use Rattle.bc_data.specs.SourceTree.{Sequence, Empty, More, Guard, FlagIs, FlagTruth, FlagNot, FlagTwo, FlagGroup, Statements, Method, MethodOf, Member, FlagMember, FieldMember, MethodMember, MakerMember, Param, ParamOf, Item, TagTypeItem, ClassItem, TaskItem}
use Rattle.bc_data.specs.Grammar.{token, name_token, truth, Separated, Listed, Repeated, SpellsFormal, guard_looseness, guard_word, SpellsGuard, SpellsBind, SpellsBinds, SpellsParam, SpellsCode, SpellsResult, SpellsMethod, SpellsMaker, SpellsMember, SpellsItem}
use Rattle.bc_data.specs.declared.token.Sign.TheVariants as sign
use Rattle.bc_data.specs.declared.token.Word.TheVariants as word
use Rattle.bc_data.specs.declared.tree.Named.{Named}
use Rattle.bc_data.specs.declared.tree.Formal.{Formal}
use Rattle.bc_data.specs.declared.tree.Bind.{Bind}
use Rattle.bc_data.specs.declared.tree.TypeText.{TypeText}
use Rattle.bc_print.specs.Laws.{nowhere, mapped, unplaced_name, unplaced_formal, unplaced_bind, unplaced_guard, unplaced_statements, unplaced_result, unplaced_method, unplaced_member, unplaced_param, unplaced_item}
use Rattle.bc_law_readback.specs.Parts.{Part, tokens_of, kinds, keyword, mark, name, space, comma, formal_parts, joined_parts, each_parts, guard_parts, bind_parts, binds_parts, param_parts, statements_parts, deeper_parts, signature_parts, result_parts, method_parts, maker_parts, member_parts, item_parts}
use Rattle.bc_law_readback.specs.Steps.{KindsAreTree}
use Rattle.bc_law_readback.proofs.Regrown.{Regrows, next, next_two, next_three, of_two, of_three, of_four, regrow_more, regrow_separated, regrow_listed, regrow_repeated, same_of_three}
use Rattle.bc_law_readback.proofs.RegrownShapes.{guard_loose_kept, depth_kept}
use Rattle.bc_law_readback.proofs.RegrownExpressions.{named}
use Rattle.bc_law_readback.proofs.RegrownStatements.{of_line, of_braced, deeper_empty, regrow_type, regrow_formal, regrow_body, regrow_statements}

regrow_guard : (g : Guard) → Regrows SpellsGuard unplaced_guard guard_parts g
regrow_guard (FlagIs x) old rest new ys s h =
    let (at, ts1, e1, k1) = next (λ r. new ≡ r) (Name x.name) new ys refl h in
    (FlagIs (named x at), ts1, e1, k1, refl)
regrow_guard (FlagTruth b) old rest new ys s h =
    let (at, ts1, e1, k1) = next (λ r. new ≡ r) (truth b) new ys refl h in
    (FlagTruth b, ts1, (at, e1), k1, refl)
regrow_guard (FlagNot g) old rest new ys (inner, at, is, low, s) h =
    let (bang, ts1, e1, k1) = next (λ r. new ≡ r) (Mark sign.Bang) new _ refl h in
    let (again, ts2, s2, k2, u) = regrow_guard g inner rest ts1 ys s k1 in
    (FlagNot again, ts2, (ts1, bang, e1, guard_loose_kept g again u (λ n. n ≤ 1) low, s2), k2, ap FlagNot u)
regrow_guard (FlagTwo op g h) old rest new ys (mid, at, low, lower, s, t) k =
    let front = guard_parts g ++ space ++ keyword (guard_word op) ++ space in
    let split = of_two front (guard_parts h) ys ∙ of_four (guard_parts g) space (keyword (guard_word op)) space (tokens_of (guard_parts h) ++ ys) in
    let (g_again, ts1, s1, k1, u) = regrow_guard g old (token (Keyword (guard_word op)) at ∷ mid) new (Keyword (guard_word op) ∷ tokens_of (guard_parts h) ++ ys) s (k ∙ split) in
    let (word_at, ts2, s2, k2) = next (SpellsGuard g_again new) (Keyword (guard_word op)) ts1 _ s1 k1 in
    let (h_again, ts3, s3, k3, v) = regrow_guard h mid rest ts2 ys t k2 in
    (FlagTwo op g_again h_again, ts3, (ts2, word_at, guard_loose_kept g g_again u (λ n. n ≤ guard_looseness op) low, guard_loose_kept h h_again v (λ n. n < guard_looseness op) lower, s2, s3), k3, ap₂ (FlagTwo op) {v = unplaced_guard h_again} u v)
regrow_guard (FlagGroup g) old rest new ys (inner, open_at, close, is, s) h =
    let (open_again, ts1, e1, k1) = next (λ r. new ≡ r) (Mark sign.OpenParen) new _ refl (h ∙ of_three (mark sign.OpenParen) (guard_parts g) (mark sign.CloseParen) ys) in
    let (again, ts2, s2, k2, u) = regrow_guard g inner (token (Mark sign.CloseParen) close ∷ rest) ts1 (Mark sign.CloseParen ∷ ys) s k1 in
    let (close_again, ts3, s3, k3) = next (SpellsGuard again ts1) (Mark sign.CloseParen) ts2 ys s2 k2 in
    (FlagGroup again, ts3, (ts1, open_again, close_again, e1, s3), k3, ap FlagGroup u)

regrow_bind : (x : Bind) → Regrows SpellsBind unplaced_bind bind_parts x
regrow_bind x old rest new ys s h =
    let (type_at, variable_at, ts1, e1, k1) = next_two (λ r. new ≡ r) (Name x.tag_type.name) (Name x.variable.name) new ys refl h in
    (record { tag_type = named x.tag_type type_at; variable = named x.variable variable_at }, ts1, e1, k1, refl)

regrow_binds : (xs : Sequence Bind) → Regrows SpellsBinds (mapped unplaced_bind) binds_parts xs
regrow_binds Empty old rest new ys s h = (Empty, new, refl, h, refl)
regrow_binds (More front last) old rest new ys (inner, at, is, s) h =
    let separator = space ++ keyword word.And ++ space in
    let (with_at, ts1, e1, k1) = next (λ r. new ≡ r) (Keyword word.With) new _ refl (h ∙ of_four space (keyword word.With) space (joined_parts bind_parts separator (More front last)) ys) in
    let (front_again, last_again, ts2, s2, k2, u) = regrow_more SpellsBind unplaced_bind bind_parts regrow_bind separator (Keyword word.And) refl front last inner rest ts1 ys s k1 in
    (More front_again last_again, ts2, (ts1, with_at, e1, s2), k2, u)

regrow_param : (p : Param) → Regrows SpellsParam unplaced_param param_parts p
regrow_param (ParamOf kind x guard binds) old rest new ys (inner, behind, in_at, is, s, t) h =
    let front = name kind ++ space ++ name x ++ space ++ keyword word.In ++ space in
    let (kind_at, name_at, in_again, ts1, e1, k1) = next_three (λ r. new ≡ r) (Name kind.name) (Name x.name) (Keyword word.In) new _ refl (h ∙ of_three front (guard_parts guard) (binds_parts binds) ys) in
    let (guard_again, ts2, s2, k2, u) = regrow_guard guard inner behind ts1 (tokens_of (binds_parts binds) ++ ys) s k1 in
    let (binds_again, ts3, s3, k3, v) = regrow_binds binds behind rest ts2 ys t k2 in
    (ParamOf (named kind kind_at) (named x name_at) guard_again binds_again, ts3, (ts1, ts2, in_again, e1, s2, s3), k3, ap₂ (ParamOf (unplaced_name kind) (unplaced_name x)) u v)

-- formals in parentheses, and statements in braces
regrow_code : (margin : List Part) (formals : Sequence Formal) (body : Statements) → tokens_of margin ≡ [] → (old rest new : List Seen) (ys : List Lexeme) → SpellsCode formals body old rest →
    kinds new ≡ Mark sign.OpenParen ∷ tokens_of (joined_parts formal_parts comma formals) ++ (Mark sign.CloseParen ∷ Mark sign.OpenBrace ∷ tokens_of (statements_parts margin body) ++ (Mark sign.CloseBrace ∷ ys)) →
    (formals_again : Sequence Formal) × (body_again : Statements) × (rest_again : List Seen) × SpellsCode formals_again body_again new rest_again × (kinds rest_again ≡ ys) × (mapped unplaced_formal formals ≡ mapped unplaced_formal formals_again) × (unplaced_statements body ≡ unplaced_statements body_again)
regrow_code margin formals body empty old rest new ys (inner, behind, paren, close, is, s, t) h =
    let behind_formals = Mark sign.CloseParen ∷ Mark sign.OpenBrace ∷ tokens_of (statements_parts margin body) ++ (Mark sign.CloseBrace ∷ ys) in
    let (open_again, ts1, e1, k1) = next (λ r. new ≡ r) (Mark sign.OpenParen) new _ refl h in
    let (formals_again, ts2, s2, k2, u) = regrow_listed SpellsFormal unplaced_formal formal_parts regrow_formal comma (Mark sign.Comma) refl formals inner (token (Mark sign.CloseParen) close ∷ behind) ts1 behind_formals s k1 in
    let (close_again, ts3, s3, k3) = next (Listed SpellsFormal (Mark sign.Comma) formals_again ts1) (Mark sign.CloseParen) ts2 _ s2 k2 in
    let (body_again, ts4, s4, k4, v) = regrow_body margin body (regrow_statements margin body empty) behind rest ts3 ys t k3 in
    (formals_again, body_again, ts4, (ts1, ts3, open_again, close_again, e1, s3, s4), k4, u, v)

regrow_result : (result : Option TypeText) → Regrows SpellsResult unplaced_result result_parts result
regrow_result None old rest new ys s h =
    let (at, ts1, e1, k1) = next (λ r. new ≡ r) (Keyword word.Void) new ys refl h in
    (None, ts1, (at, e1), k1, refl)
regrow_result (Some kind) old rest new ys s h =
    let (again, ts1, s1, k1, u) = regrow_type kind old rest new ys s h in
    (Some again, ts1, s1, k1, ap Some u)

of_signature : (x : Named) (formals : Sequence Formal) (ys : List Lexeme) → tokens_of (signature_parts x formals) ++ ys ≡ Name x.name ∷ Mark sign.OpenParen ∷ tokens_of (joined_parts formal_parts comma formals) ++ (Mark sign.CloseParen ∷ ys)
of_signature x formals ys = of_four (name x) (mark sign.OpenParen) (joined_parts formal_parts comma formals) (mark sign.CloseParen) ys

module _ (margin : List Part) (empty : tokens_of margin ≡ []) where
  regrow_method : (m : Method) → Regrows SpellsMethod unplaced_method (method_parts margin) m
  regrow_method (MethodOf result x formals body) old rest new ys (behind, s, t) h =
      let deeper = deeper_parts margin in
      let behind_head = Mark sign.OpenBrace ∷ tokens_of (statements_parts deeper body) ++ (Mark sign.CloseBrace ∷ ys) in
      let split = of_braced margin (result_parts result ++ space ++ signature_parts x formals) (statements_parts deeper body) ys empty ∙ of_three (result_parts result) space (signature_parts x formals) behind_head ∙ ap (λ ks. tokens_of (result_parts result) ++ ks) (of_signature x formals behind_head) in
      let (result_again, ts1, s1, k1, u) = regrow_result result old (name_token x ∷ behind) new (Name x.name ∷ Mark sign.OpenParen ∷ tokens_of (joined_parts formal_parts comma formals) ++ (Mark sign.CloseParen ∷ behind_head)) s (h ∙ split) in
      let (name_at, ts2, s2, k2) = next (SpellsResult result_again new) (Name x.name) ts1 _ s1 k1 in
      let (formals_again, body_again, ts3, s3, k3, v, w) = regrow_code deeper formals body (deeper_empty margin empty) behind rest ts2 ys t k2 in
      (MethodOf result_again (named x name_at) formals_again body_again, ts3, (ts2, s2, s3), k3, same_of_three (λ r fs b. MethodOf r (unplaced_name x) fs b) (unplaced_result result) (unplaced_result result_again) (mapped unplaced_formal formals) (mapped unplaced_formal formals_again) (unplaced_statements body) (unplaced_statements body_again) u v w)

  regrow_maker : (m : Method) → Regrows SpellsMaker unplaced_method (maker_parts margin) m
  regrow_maker (MethodOf result x formals body) old rest new ys (behind, none, is, t) h =
      let deeper = deeper_parts margin in
      let behind_head = Mark sign.OpenBrace ∷ tokens_of (statements_parts deeper body) ++ (Mark sign.CloseBrace ∷ ys) in
      let split = of_braced margin (signature_parts x formals) (statements_parts deeper body) ys empty ∙ of_signature x formals behind_head in
      let (name_at, ts1, e1, k1) = next (λ r. new ≡ r) (Name x.name) new _ refl (h ∙ split) in
      let (formals_again, body_again, ts2, s2, k2, v, w) = regrow_code deeper formals body (deeper_empty margin empty) behind rest ts1 ys t k1 in
      (MethodOf result (named x name_at) formals_again body_again, ts2, (ts1, none, e1, s2), k2, ap₂ (MethodOf (unplaced_result result) (unplaced_name x)) v w)

  regrow_member : (m : Member) → Regrows SpellsMember unplaced_member (member_parts margin) m
  regrow_member (FlagMember x) old rest new ys s h =
      let (at, name_at, semicolon, ts1, e1, k1) = next_three (λ r. new ≡ r) (Keyword word.Flag) (Name x.name) (Mark sign.Semicolon) new ys refl (h ∙ of_line margin (keyword word.Flag ++ space ++ name x ++ mark sign.Semicolon) ys empty) in
      (FlagMember (named x name_at), ts1, (at, semicolon, e1), k1, refl)
  regrow_member (FieldMember x) old rest new ys (semicolon, s) h =
      let (again, ts1, s1, k1, u) = regrow_formal x old (token (Mark sign.Semicolon) semicolon ∷ rest) new (Mark sign.Semicolon ∷ ys) s (h ∙ of_line margin (formal_parts x ++ mark sign.Semicolon) ys empty ∙ of_two (formal_parts x) (mark sign.Semicolon) ys) in
      let (ends, ts2, s2, k2) = next (SpellsFormal again new) (Mark sign.Semicolon) ts1 ys s1 k1 in
      (FieldMember again, ts2, (ends, s2), k2, ap FieldMember u)
  regrow_member (MethodMember m) old rest new ys s h =
      let (again, ts1, s1, k1, u) = regrow_method m old rest new ys s h in
      (MethodMember again, ts1, s1, k1, ap MethodMember u)
  regrow_member (MakerMember m) old rest new ys s h =
      let (again, ts1, s1, k1, u) = regrow_maker m old rest new ys s h in
      (MakerMember again, ts1, s1, k1, ap MakerMember u)

regrow_item : (i : Item) → Regrows SpellsItem unplaced_item item_parts i
regrow_item (TagTypeItem x) old rest new ys s h =
    let (at, name_at, semicolon, ts1, e1, k1) = next_three (λ r. new ≡ r) (Keyword word.TagType) (Name x.name) (Mark sign.Semicolon) new ys refl h in
    (TagTypeItem (named x name_at), ts1, (at, semicolon, e1), k1, refl)
regrow_item (ClassItem x members) old rest new ys (inner, at, brace, close, is, s) h =
    let deeper = deeper_parts [] in
    let parts = member_parts deeper in
    let (at_again, name_at, brace_again, ts1, e1, k1) = next_three (λ r. new ≡ r) (Keyword word.Class) (Name x.name) (Mark sign.OpenBrace) new _ refl (h ∙ of_braced [] (keyword word.Class ++ space ++ name x) (each_parts parts members) ys refl) in
    let (again, ts2, s2, k2, u) = regrow_repeated SpellsMember unplaced_member parts (regrow_member deeper refl) members inner (token (Mark sign.CloseBrace) close ∷ rest) ts1 (Mark sign.CloseBrace ∷ ys) s k1 in
    let (close_again, ts3, s3, k3) = next (Repeated SpellsMember again ts1) (Mark sign.CloseBrace) ts2 ys s2 k2 in
    (ClassItem (named x name_at) again, ts3, (ts1, at_again, brace_again, close_again, e1, s3), k3, ap (ClassItem (unplaced_name x)) u)
regrow_item (TaskItem at x params body) old rest new ys (inner, behind, paren, close, is, s, t) h =
    let deeper = deeper_parts [] in
    let joined = joined_parts param_parts comma params in
    let front = keyword word.Task ++ space ++ name x ++ mark sign.OpenParen in
    let behind_head = Mark sign.OpenBrace ∷ tokens_of (statements_parts deeper body) ++ (Mark sign.CloseBrace ∷ ys) in
    let split = of_braced [] (front ++ joined ++ mark sign.CloseParen) (statements_parts deeper body) ys refl ∙ of_three front joined (mark sign.CloseParen) behind_head in
    let (at_again, name_at, open_again, ts1, e1, k1) = next_three (λ r. new ≡ r) (Keyword word.Task) (Name x.name) (Mark sign.OpenParen) new _ refl (h ∙ split) in
    let (params_again, ts2, s2, k2, u) = regrow_separated SpellsParam unplaced_param param_parts regrow_param comma (Mark sign.Comma) refl params inner (token (Mark sign.CloseParen) close ∷ behind) ts1 (Mark sign.CloseParen ∷ behind_head) s k1 in
    let (close_again, ts3, s3, k3) = next (Separated SpellsParam (Mark sign.Comma) params_again ts1) (Mark sign.CloseParen) ts2 _ s2 k2 in
    let (body_again, ts4, s4, k4, v) = regrow_body deeper body (regrow_statements deeper body refl) behind rest ts3 ys t k3 in
    (TaskItem at_again (named x name_at) params_again body_again, ts4, (ts1, ts3, open_again, close_again, e1, s3, s4), k4, ap₂ (TaskItem nowhere (unplaced_name x)) {y = mapped unplaced_param params_again} {v = unplaced_statements body_again} u v)

-- behind the token of the end there is nothing
only_end : (P : List Seen → Type 0) (ts : List Seen) → P ts → kinds ts ≡ [] → P []
only_end P [] p h = p
only_end P (t ∷ ts) p h = absurd (cc)

pub kinds_are_tree : KindsAreTree
kinds_are_tree n items old new (at, low, s) h =
    let (again, ts1, s1, k1, u) = regrow_repeated SpellsItem unplaced_item item_parts regrow_item items old (token End at ∷ []) new (End ∷ []) s h in
    let (end, ts2, s2, k2) = next (Repeated SpellsItem again new) End ts1 [] s1 k1 in
    (again, (end, depth_kept items again u (λ d. d ≤ n) low, only_end (λ r. Repeated SpellsItem again new (token End end ∷ r)) ts2 s2 k2), sym u)
