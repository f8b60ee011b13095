-- What the tokens behind a guard do.
use Rattle.std.proofs.Common.{◌<◌, ◌≡◌, ℕ, List, [], ◌∷◌, refl, ap, sym, ◌∙◌, ◌+◌, ◌≤◌, arith, if◌then◌else◌}
use Rattle.bc_data.specs.Seen.{Lexeme, Seen, Keyword, Name, Number, Text, Mark, End, lexeme, seen, seen_token}
use Rattle.bc_data.specs.SourceTree.{Guard, GuardOp, AndOp, OrOp, FlagTwo, FlagGroup, guard_height}
use Rattle.bc_data.specs.Grammar.{guard_looseness, guard_word}
use Rattle.bc_data.specs.declared.token.Word.TheVariants as word
use Rattle.bc_data.specs.declared.token.Sign.TheVariants as sign
use Rattle.bc_data.specs.declared.token.Token.{Token}
use Rattle.bc_data.specs.declared.token.TokenKind.{TokenKind}
use Rattle.bc_data.specs.declared.token.TokenKind.TheVariants as token_kind
use Rattle.bc_law_grammar.specs.Machine.{Stack, Guarded, InFlagTwo, InFlagGroup, State, Never, OnMark, OnWord, WantFlag, AfterFlag, Step, No, On, levels, run, follow, settle_flag, flag_reach, FlagRoom, kind_at, same_mark, same_word, Refused, TooDeep}
use Rattle.bc_law_grammar.proofs.Steps.{push_flag_two, blocked_flag_two, end_flag_two}
use Rattle.bc_parse_expr.specs.Contract.{first_kind}
use Rattle.bc_parse.specs.Guards.{flag_reach_of}

pub guard_low : (op : GuardOp) → 2 ≤ guard_looseness op
guard_low AndOp = omega arith
guard_low OrOp = omega arith

reach_lexeme : (text : List ℕ) (start stop : ℕ) (k : TokenKind) → flag_reach (lexeme text start stop k) ≡ flag_reach (lexeme [] 0 0 k)
reach_lexeme text start stop (token_kind.Keyword w) = refl
reach_lexeme text start stop token_kind.Name = refl
reach_lexeme text start stop (token_kind.Number n) = refl
reach_lexeme text start stop token_kind.Text = refl
reach_lexeme text start stop (token_kind.Mark s) = refl
reach_lexeme text start stop token_kind.End = refl

reach_seen : (text : List ℕ) (ts : List Token) → flag_reach (kind_at (seen text ts)) ≡ flag_reach_of ts
reach_seen text [] = refl
reach_seen text (t ∷ ts) = reach_lexeme text t.start t.end t.kind

pub push_seen : (text : List ℕ) (op : GuardOp) (t : Token) (g : Guard) (st : Stack) (ts : List Token) → t.kind ≡ token_kind.Keyword (guard_word op) → FlagRoom (guard_looseness op) st → guard_height g + levels st + 1 ≤ 64 → run 64 (AfterFlag g st) (seen text (t ∷ ts)) ≡ run 64 (WantFlag (InFlagTwo op g st)) (seen text ts)
push_seen text op t g st ts e room h = push_flag_two 64 op (seen_token text t) g st (seen text ts) (ap (lexeme text t.start t.end) e) room h

pub blocked_seen : (text : List ℕ) (op : GuardOp) (t : Token) (g : Guard) (st : Stack) (ts : List Token) → t.kind ≡ token_kind.Keyword (guard_word op) → FlagRoom (guard_looseness op) st → 64 < guard_height g + levels st + 1 → run 64 (AfterFlag g st) (seen text (t ∷ ts)) ≡ Refused TooDeep t.at
blocked_seen text op t g st ts e room h = blocked_flag_two 64 op (seen_token text t) g st (seen text ts) (ap (lexeme text t.start t.end) e) room h

pub end_seen : (text : List ℕ) (op : GuardOp) (g k : Guard) (st : Stack) (ts : List Token) → guard_looseness op ≤ flag_reach_of ts → run 64 (AfterFlag k (InFlagTwo op g st)) (seen text ts) ≡ run 64 (AfterFlag (FlagTwo op g k) st) (seen text ts)
end_seen text op g k st ts h = end_flag_two 64 op g k st (seen text ts) (omega (arith, reach_seen text ts))

group_step : (k : Lexeme) (g : Guard) (st : Stack) → 3 < flag_reach k → settle_flag k g (InFlagGroup st) ≡ (if same_mark sign.CloseParen k then On (AfterFlag (FlagGroup g) st) else No)
group_step (Keyword word.And) g st h = absurd (omega arith)
group_step (Keyword word.Or) g st h = absurd (omega arith)
group_step (Mark sign.CloseParen) g st h = refl
group_step k g st h = refl

pub group_end : (text : List ℕ) (g : Guard) (st : Stack) (ts : List Token) → 3 < flag_reach_of ts → run 64 (AfterFlag g (InFlagGroup st)) (seen text ts) ≡ run 64 (OnMark sign.CloseParen (λ _. AfterFlag (FlagGroup g) st) Never) (seen text ts)
group_end text g st [] h = refl
group_end text g st (t ∷ ts) h = ap (follow 64 t.at (λ s. run 64 s (seen text ts))) (group_step (lexeme text t.start t.end t.kind) g st (omega (arith, reach_lexeme text t.start t.end t.kind)))

guarded_step : (k : Lexeme) (g : Guard) (bound more last : Guard → State) → 3 < flag_reach k
    → settle_flag k g (Guarded bound more last) ≡ (if same_mark sign.CloseParen k then On (last g) else (if same_mark sign.Comma k then On (more g) else (if same_word word.With k then On (bound g) else No)))
guarded_step (Keyword word.And) g bound more last h = absurd (omega arith)
guarded_step (Keyword word.Or) g bound more last h = absurd (omega arith)
guarded_step (Keyword word.With) g bound more last h = refl
guarded_step (Mark sign.CloseParen) g bound more last h = refl
guarded_step (Mark sign.Comma) g bound more last h = refl
guarded_step k g bound more last h = refl

pub guarded_end : (text : List ℕ) (g : Guard) (bound more last : Guard → State) (ts : List Token) → 3 < flag_reach_of ts
    → run 64 (AfterFlag g (Guarded bound more last)) (seen text ts) ≡ run 64 (OnMark sign.CloseParen (λ _. last g) (OnMark sign.Comma (λ _. more g) (OnWord word.With (λ _. bound g) Never))) (seen text ts)
guarded_end text g bound more last [] h = refl
guarded_end text g bound more last (t ∷ ts) h = ap (follow 64 t.at (λ s. run 64 s (seen text ts))) (guarded_step (lexeme text t.start t.end t.kind) g bound more last (omega (arith, reach_lexeme text t.start t.end t.kind)))
