-- What the tokens in and behind statements do.
use Rattle.std.proofs.Common.{◌<◌, ◌≡◌, ℕ, List, [], ◌∷◌, ◌++◌, refl, ap, sym, subst, ◌∙◌, ◌+◌, ◌≤◌, arith, Bool, true, false, if◌then◌else◌}
use Rattle.bc_data.specs.Seen.{Lexeme, Seen, Keyword, Name, Number, Text, Mark, End, lexeme, seen, seen_token}
use Rattle.bc_data.specs.SourceTree.{Sequence, Empty, More, Expression, PrintItem, TextItem, ValueItem, Change, Statements, Then, MakeDo}
use Rattle.bc_data.specs.View.{view_item, view_change, onto_by, stat_views, view_stat}
use Rattle.bc_data.specs.declared.run.Place.{Place}
use Rattle.bc_data.specs.declared.tree.ItemText.{ItemText}
use Rattle.bc_data.specs.declared.tree.ChangeText.{ChangeText}
use Rattle.bc_data.specs.declared.tree.StatText.{StatText}
use Rattle.bc_data.specs.declared.token.Sign.TheVariants as sign
use Rattle.bc_data.specs.declared.token.Token.{Token}
use Rattle.bc_data.specs.declared.token.TokenKind.{TokenKind}
use Rattle.bc_data.specs.declared.token.TokenKind.TheVariants as token_kind
use Rattle.bc_law_grammar.specs.Machine.{Stack, InPrint, InMade, Body, InBlock, State, Never, OnMark, Want, After, Stats, Printing, Step, No, On, run, follow, step, not_link, stat, want, printing, print_behind, reach, same_mark, close_brace}
use Rattle.bc_parse_expr.specs.Contract.{first_kind, reach_of}
use Rattle.bc_parse_expr.proofs.Expressions.{reach_lexeme}
use Rattle.bc_parse_stat.specs.Reading.{ClosesTo}

-- the items of a `print`

item_step : (k : Lexeme) (at : Place) (e : Expression) (items : Sequence PrintItem) (next : Sequence PrintItem → State) (st : Stack) → 7 < reach k
    → not_link k at e (InPrint items next st) ≡ (if same_mark sign.CloseParen k then On (next (More items (ValueItem e))) else (if same_mark sign.Comma k then On (Printing (More items (ValueItem e)) next st) else No))
item_step (Mark sign.Star) at e items next st h = absurd (omega arith)
item_step (Mark sign.Slash) at e items next st h = absurd (omega arith)
item_step (Mark sign.Percent) at e items next st h = absurd (omega arith)
item_step (Mark sign.Plus) at e items next st h = absurd (omega arith)
item_step (Mark sign.Minus) at e items next st h = absurd (omega arith)
item_step (Mark sign.Less) at e items next st h = absurd (omega arith)
item_step (Mark sign.LessEq) at e items next st h = absurd (omega arith)
item_step (Mark sign.More) at e items next st h = absurd (omega arith)
item_step (Mark sign.MoreEq) at e items next st h = absurd (omega arith)
item_step (Mark sign.Same) at e items next st h = absurd (omega arith)
item_step (Mark sign.Differ) at e items next st h = absurd (omega arith)
item_step (Mark sign.Both) at e items next st h = absurd (omega arith)
item_step (Mark sign.Either) at e items next st h = absurd (omega arith)
item_step k at e items next st h = refl

pub item_end : (text : List ℕ) (e : Expression) (items : Sequence PrintItem) (next : Sequence PrintItem → State) (st : Stack) (ts : List Token) → 7 < reach_of ts → run 64 (After e (InPrint items next st)) (seen text ts) ≡ run 64 (print_behind (More items (ValueItem e)) next st) (seen text ts)
item_end text e items next st [] h = refl
item_end text e items next st (t ∷ ts) h = ap (follow 64 t.at (λ s. run 64 s (seen text ts))) (item_step (lexeme text t.start t.end t.kind) t.at e items next st (omega (arith, reach_lexeme text t.start t.end t.kind)))

value_step : (text : List ℕ) (start stop : ℕ) (k : TokenKind) (at : Place) (items : Sequence PrintItem) (next : Sequence PrintItem → State) (st : Stack) → (k ≡ token_kind.Text → ⊥) → printing (lexeme text start stop k) at items next st ≡ want (lexeme text start stop k) at (InPrint items next st)
value_step text start stop token_kind.Text at items next st h = absurd (h refl)
value_step text start stop (token_kind.Keyword w) at items next st h = refl
value_step text start stop token_kind.Name at items next st h = refl
value_step text start stop (token_kind.Number n) at items next st h = refl
value_step text start stop (token_kind.Mark s) at items next st h = refl
value_step text start stop token_kind.End at items next st h = refl

pub printing_value : (text : List ℕ) (items : Sequence PrintItem) (next : Sequence PrintItem → State) (st : Stack) (ts : List Token) → (first_kind ts ≡ token_kind.Text → ⊥) → run 64 (Printing items next st) (seen text ts) ≡ run 64 (Want (InPrint items next st)) (seen text ts)
printing_value text items next st [] h = refl
printing_value text items next st (t ∷ ts) h = ap (follow 64 t.at (λ s. run 64 s (seen text ts))) (value_step text t.start t.end t.kind t.at items next st h)

pub items_push : (xs : List ItemText) (x : ItemText) (front : Sequence PrintItem) → onto_by view_item (xs ++ x ∷ []) front ≡ More (onto_by view_item xs front) (view_item x)
items_push [] x front = refl
items_push (y ∷ xs) x front = items_push xs x (More front (view_item y))

pub changes_push : (xs : List ChangeText) (x : ChangeText) (front : Sequence Change) → onto_by view_change (xs ++ x ∷ []) front ≡ More (onto_by view_change xs front) (view_change x)
changes_push [] x front = refl
changes_push (y ∷ xs) x front = changes_push xs x (More front (view_change y))

pub stats_push : (xs : List StatText) (x : StatText) (front : Statements) → stat_views (xs ++ x ∷ []) front ≡ Then (stat_views xs front) (view_stat x)
stats_push [] x front = refl
stats_push (y ∷ xs) x front = stats_push xs x (Then front (view_stat y))

-- behind a `new` that is a statement

made_step : (k : Lexeme) (at : Place) (e : Expression) (front : Statements) (st : Stack) → not_link k at e (InMade front st) ≡ (if same_mark sign.Semicolon k then On (Stats (Then front (MakeDo e)) st) else No)
made_step (Mark sign.Semicolon) at e front st = refl
made_step (Mark s) at e front st = refl
made_step k at e front st = refl

pub made_end : (text : List ℕ) (e : Expression) (front : Statements) (st : Stack) (ts : List Token) → run 64 (After e (InMade front st)) (seen text ts) ≡ run 64 (OnMark sign.Semicolon (λ _. Stats (Then front (MakeDo e)) st) Never) (seen text ts)
made_end text e front st [] = refl
made_end text e front st (t ∷ ts) = ap (follow 64 t.at (λ s. run 64 s (seen text ts))) (made_step (lexeme text t.start t.end t.kind) t.at e front st)

-- the `}` of statements

closed_step : (ps : Statements) (st : Stack) (onward : Statements → State) → ClosesTo st onward → close_brace ps st ≡ On (onward ps)
closed_step ps (Body next) onward h = ap (λ f. On (f ps)) h
closed_step ps (InBlock next st) onward h = ap (λ f. On (f ps)) h
closed_step ps _ onward h = absurd h

pub closed : (text : List ℕ) (ps : Statements) (st : Stack) (onward : Statements → State) (t : Token) (ts : List Token) → t.kind ≡ token_kind.Mark sign.CloseBrace → ClosesTo st onward → run 64 (Stats ps st) (seen text (t ∷ ts)) ≡ run 64 (onward ps) (seen text ts)
closed text ps st onward t ts e h = ap (follow 64 t.at (λ s. run 64 s (seen text ts))) (ap (λ k. stat (lexeme text t.start t.end k) t.at ps st) e ∙ closed_step ps st onward h)
