-- Single tokens, and what a token ends.
use Rattle.std.proofs.Common.{◌<◌, ◌≡◌, ℕ, List, [], ◌∷◌, refl, ap, sym, subst, ◌∙◌, ◌+◌, ◌≤◌, nat_le, Bool, true, false, arith, if◌then◌else◌}
use Rattle.std.proofs.lemmas.Bool.{lt-leb, le-leb}
use Rattle.bc_data.specs.Seen.{Lexeme, Seen, Keyword, Name, Number, Text, Mark, End}
use Rattle.bc_data.specs.SourceTree.{Expression, Var, Field, Elem, Call, Neg, Not, Two, height, Guard, FlagNot, FlagTwo, GuardOp, AndOp, OrOp, guard_height, Do, Statements, Then}
use Rattle.bc_data.specs.Grammar.{token, looseness, sign_of, loose, guard_looseness, guard_word, IsTarget, IsCall}
use Rattle.bc_data.specs.declared.run.Place.{Place}
use Rattle.bc_data.specs.declared.program.Op.{Op}
use Rattle.bc_data.specs.declared.program.Op.TheVariants as op
use Rattle.bc_data.specs.declared.token.Word.{Word}
use Rattle.bc_data.specs.declared.token.Sign.{Sign}
use Rattle.bc_data.specs.declared.token.Word.TheVariants as word
use Rattle.bc_data.specs.declared.token.Sign.TheVariants as sign
use Rattle.bc_data.specs.declared.tree.Named.{Named}
use Rattle.bc_law_grammar.specs.Machine.{Stack, Body, Guarded, InNeg, InNot, InTwo, Inside, InArgs, InPrint, InChain, InMade, InBlock, InFlagNot, InFlagTwo, InFlagGroup, State, OnMark, OnWord, OnName, Want, After, Stats, WantFlag, AfterFlag, Step, No, On, Deep, levels, run, follow, step, settle, not_link, push, reach, infix_step, kind_at, Room, FlagRoom, same_mark, same_word, settle_flag, push_flag, flag_reach, assign, assign_value, call_ends, Refused, TooDeep, Outcome}

module _ (n : ℕ) where
  pub on : (s next : State) (t : Seen) (ts : List Seen) → step s t ≡ On next → run n s (t ∷ ts) ≡ run n next ts
  on s next t ts e = ap (follow n t.at (λ s. run n s ts)) e

  pub deep : (s next : State) (need : ℕ) (t : Seen) (ts : List Seen) → step s t ≡ Deep next need → need ≤ n → run n s (t ∷ ts) ≡ run n next ts
  deep s next need t ts e h = ap (follow n t.at (λ s. run n s ts)) e ∙ ap (λ v. if v then run n next ts else Refused TooDeep t.at) (le-leb need n h)

  pub too_deep : (s next : State) (need : ℕ) (t : Seen) (ts : List Seen) → step s t ≡ Deep next need → n < need → run n s (t ∷ ts) ≡ Refused TooDeep t.at
  too_deep s next need t ts e h = ap (follow n t.at (λ s. run n s ts)) e ∙ ap (λ v. if v then run n next ts else Refused TooDeep t.at) (lt-leb need n h)

  pub skip_mark : (s : Sign) (next : Place → State) (other : State) (t : Seen) (ts : List Seen) → same_mark s t.kind ≡ false → run n (OnMark s next other) (t ∷ ts) ≡ run n other (t ∷ ts)
  skip_mark s next other t ts h = ap (λ b. follow n t.at (λ s. run n s ts) (if b then On (next t.at) else step other t)) h

  pub skip_word : (w : Word) (next : Place → State) (other : State) (t : Seen) (ts : List Seen) → same_word w t.kind ≡ false → run n (OnWord w next other) (t ∷ ts) ≡ run n other (t ∷ ts)
  skip_word w next other t ts h = ap (λ b. follow n t.at (λ s. run n s ts) (if b then On (next t.at) else step other t)) h

not_link-neg : (k : Lexeme) (at m : Place) (e : Expression) (st : Stack) → not_link k at e (InNeg m st) ≡ not_link k at (Neg m e) st
not_link-neg (Mark sign.Dot) at m e st = refl
not_link-neg (Mark sign.OpenBracket) at m e st = refl
not_link-neg (Mark sign.OpenParen) at m e st = refl
not_link-neg k at m e st = refl

not_link-not : (k : Lexeme) (at m : Place) (e : Expression) (st : Stack) → not_link k at e (InNot m st) ≡ not_link k at (Not m e) st
not_link-not (Mark sign.Dot) at m e st = refl
not_link-not (Mark sign.OpenBracket) at m e st = refl
not_link-not (Mark sign.OpenParen) at m e st = refl
not_link-not k at m e st = refl

pub end_neg : (n : ℕ) (m : Place) (e : Expression) (st : Stack) (ts : List Seen) → run n (After e (InNeg m st)) ts ≡ run n (After (Neg m e) st) ts
end_neg n m e st [] = refl
end_neg n m e st (t ∷ ts) = ap (follow n t.at (λ s. run n s ts)) (not_link-neg t.kind t.at m e st)

pub end_not : (n : ℕ) (m : Place) (e : Expression) (st : Stack) (ts : List Seen) → run n (After e (InNot m st)) ts ≡ run n (After (Not m e) st) ts
end_not n m e st [] = refl
end_not n m e st (t ∷ ts) = ap (follow n t.at (λ s. run n s ts)) (not_link-not t.kind t.at m e st)

settle-two : (k : Lexeme) (at m : Place) (op : Op) (a b : Expression) (st : Stack) → looseness op ≤ reach k → settle k at b (InTwo m op a st) ≡ settle k at (Two m op a b) st
settle-two k at m op a b st h = ap (λ v. if v then settle k at (Two m op a b) st else push k at b (InTwo m op a st)) (le-leb (looseness op) (reach k) h)

not_link-two : (k : Lexeme) (at m : Place) (op : Op) (a b : Expression) (st : Stack) → looseness op ≤ reach k → not_link k at b (InTwo m op a st) ≡ not_link k at (Two m op a b) st
not_link-two (Mark sign.Dot) at m op a b st h = refl
not_link-two (Mark sign.OpenBracket) at m op a b st h = refl
not_link-two (Mark sign.OpenParen) at m op a b st h = refl
not_link-two k at m op a b st h = settle-two k at m op a b st h

pub end_two : (n : ℕ) (m : Place) (op : Op) (a b : Expression) (st : Stack) (ts : List Seen) → looseness op ≤ reach (kind_at ts) → run n (After b (InTwo m op a st)) ts ≡ run n (After (Two m op a b) st) ts
end_two n m op a b st [] h = refl
end_two n m op a b st (t ∷ ts) h = ap (follow n t.at (λ s. run n s ts)) (not_link-two t.kind t.at m op a b st h)

pub looseness_low : (op : Op) → 2 ≤ looseness op
looseness_low op.Or = omega arith
looseness_low op.And = omega arith
looseness_low op.Same = omega arith
looseness_low op.Differ = omega arith
looseness_low op.Less = omega arith
looseness_low op.LessEq = omega arith
looseness_low op.More = omega arith
looseness_low op.MoreEq = omega arith
looseness_low op.Add = omega arith
looseness_low op.Sub = omega arith
looseness_low op.Mul = omega arith
looseness_low op.Div = omega arith
looseness_low op.Rem = omega arith

pub reach_sign : (op : Op) → reach (Mark (sign_of op)) ≡ looseness op
reach_sign op.Or = refl
reach_sign op.And = refl
reach_sign op.Same = refl
reach_sign op.Differ = refl
reach_sign op.Less = refl
reach_sign op.LessEq = refl
reach_sign op.More = refl
reach_sign op.MoreEq = refl
reach_sign op.Add = refl
reach_sign op.Sub = refl
reach_sign op.Mul = refl
reach_sign op.Div = refl
reach_sign op.Rem = refl

pub looseness_high : (op : Op) → looseness op ≤ 7
looseness_high op.Or = omega arith
looseness_high op.And = omega arith
looseness_high op.Same = omega arith
looseness_high op.Differ = omega arith
looseness_high op.Less = omega arith
looseness_high op.LessEq = omega arith
looseness_high op.More = omega arith
looseness_high op.MoreEq = omega arith
looseness_high op.Add = omega arith
looseness_high op.Sub = omega arith
looseness_high op.Mul = omega arith
looseness_high op.Div = omega arith
looseness_high op.Rem = omega arith

-- an operator makes a node, once what it ends has ended
push-sign : (op : Op) (at : Place) (a : Expression) (st : Stack) → push (Mark (sign_of op)) at a st ≡ infix_step at op a st
push-sign op.Or at a st = refl
push-sign op.And at a st = refl
push-sign op.Same at a st = refl
push-sign op.Differ at a st = refl
push-sign op.Less at a st = refl
push-sign op.LessEq at a st = refl
push-sign op.More at a st = refl
push-sign op.MoreEq at a st = refl
push-sign op.Add at a st = refl
push-sign op.Sub at a st = refl
push-sign op.Mul at a st = refl
push-sign op.Div at a st = refl
push-sign op.Rem at a st = refl

not_link-sign : (op : Op) (at : Place) (a : Expression) (st : Stack) → not_link (Mark (sign_of op)) at a st ≡ settle (Mark (sign_of op)) at a st
not_link-sign op.Or at a st = refl
not_link-sign op.And at a st = refl
not_link-sign op.Same at a st = refl
not_link-sign op.Differ at a st = refl
not_link-sign op.Less at a st = refl
not_link-sign op.LessEq at a st = refl
not_link-sign op.More at a st = refl
not_link-sign op.MoreEq at a st = refl
not_link-sign op.Add at a st = refl
not_link-sign op.Sub at a st = refl
not_link-sign op.Mul at a st = refl
not_link-sign op.Div at a st = refl
not_link-sign op.Rem at a st = refl

settle-push : (k : Lexeme) (at : Place) (a : Expression) (st : Stack) → 2 ≤ reach k → Room (reach k) st → settle k at a st ≡ push k at a st
settle-push k at a (InNeg m st) two room = absurd (omega arith)
settle-push k at a (InNot m st) two room = absurd (omega arith)
settle-push k at a (InTwo m op b st) two room = ap (λ v. if v then settle k at (Two m op b a) st else push k at a (InTwo m op b st)) (lt-leb (looseness op) (reach k) room)
settle-push k at a (InChain front st) two room = absurd (omega arith)
settle-push k at a (InMade front st) two room = absurd (omega arith)
settle-push k at a st two room = refl

pub sign_step : (op : Op) (at : Place) (a : Expression) (st : Stack) → Room (looseness op) st → not_link (Mark (sign_of op)) at a st ≡ infix_step at op a st
sign_step op at a st room =
    not_link-sign op at a st
    ∙ settle-push (Mark (sign_of op)) at a st (omega (arith, reach_sign op, looseness_low op)) (subst (λ q. Room q st) (sym (reach_sign op)) room)
    ∙ push-sign op at a st

pub push_two : (n : ℕ) (op : Op) (t : Seen) (a : Expression) (st : Stack) (ts : List Seen) → t.kind ≡ Mark (sign_of op) → Room (looseness op) st → height a + levels st + 1 ≤ n → run n (After a st) (t ∷ ts) ≡ run n (Want (InTwo t.at op a st)) ts
push_two n op t a st ts e room h = deep n (After a st) (Want (InTwo t.at op a st)) (height a + levels st + 1) t ts (ap (λ k. not_link k t.at a st) e ∙ sign_step op t.at a st room) h

pub blocked_two : (n : ℕ) (op : Op) (t : Seen) (a : Expression) (st : Stack) (ts : List Seen) → t.kind ≡ Mark (sign_of op) → Room (looseness op) st → n < height a + levels st + 1 → run n (After a st) (t ∷ ts) ≡ Refused TooDeep t.at
blocked_two n op t a st ts e room h = too_deep n (After a st) (Want (InTwo t.at op a st)) (height a + levels st + 1) t ts (ap (λ k. not_link k t.at a st) e ∙ sign_step op t.at a st room) h

-- guards

pub end_flag_not : (n : ℕ) (g : Guard) (st : Stack) (ts : List Seen) → run n (AfterFlag g (InFlagNot st)) ts ≡ run n (AfterFlag (FlagNot g) st) ts
end_flag_not n g st [] = refl
end_flag_not n g st (t ∷ ts) = refl

pub end_flag_two : (n : ℕ) (op : GuardOp) (g h : Guard) (st : Stack) (ts : List Seen) → guard_looseness op ≤ flag_reach (kind_at ts) → run n (AfterFlag h (InFlagTwo op g st)) ts ≡ run n (AfterFlag (FlagTwo op g h) st) ts
end_flag_two n op g h st [] le = refl
end_flag_two n op g h st (t ∷ ts) le = ap (λ v. follow n t.at (λ s. run n s ts) (if v then settle_flag t.kind (FlagTwo op g h) st else push_flag t.kind h (InFlagTwo op g st))) (le-leb (guard_looseness op) (flag_reach t.kind) le)

settle_flag-push : (k : Lexeme) (g : Guard) (st : Stack) → 2 ≤ flag_reach k → FlagRoom (flag_reach k) st → settle_flag k g st ≡ push_flag k g st
settle_flag-push k g (InFlagNot st) two room = absurd (omega arith)
settle_flag-push k g (InFlagTwo op h st) two room = ap (λ v. if v then settle_flag k (FlagTwo op h g) st else push_flag k g (InFlagTwo op h st)) (lt-leb (guard_looseness op) (flag_reach k) room)
settle_flag-push k g st two room = refl

pub flag_step : (op : GuardOp) (g : Guard) (st : Stack) → FlagRoom (guard_looseness op) st → settle_flag (Keyword (guard_word op)) g st ≡ Deep (WantFlag (InFlagTwo op g st)) (guard_height g + levels st + 1)
flag_step AndOp g st room = settle_flag-push (Keyword word.And) g st (omega arith) room
flag_step OrOp g st room = settle_flag-push (Keyword word.Or) g st (omega arith) room

pub push_flag_two : (n : ℕ) (op : GuardOp) (t : Seen) (g : Guard) (st : Stack) (ts : List Seen) → t.kind ≡ Keyword (guard_word op) → FlagRoom (guard_looseness op) st → guard_height g + levels st + 1 ≤ n → run n (AfterFlag g st) (t ∷ ts) ≡ run n (WantFlag (InFlagTwo op g st)) ts
push_flag_two n op t g st ts e room h = deep n (AfterFlag g st) (WantFlag (InFlagTwo op g st)) (guard_height g + levels st + 1) t ts (ap (λ k. settle_flag k g st) e ∙ flag_step op g st room) h

pub blocked_flag_two : (n : ℕ) (op : GuardOp) (t : Seen) (g : Guard) (st : Stack) (ts : List Seen) → t.kind ≡ Keyword (guard_word op) → FlagRoom (guard_looseness op) st → n < guard_height g + levels st + 1 → run n (AfterFlag g st) (t ∷ ts) ≡ Refused TooDeep t.at
blocked_flag_two n op t g st ts e room h = too_deep n (AfterFlag g st) (WantFlag (InFlagTwo op g st)) (guard_height g + levels st + 1) t ts (ap (λ k. settle_flag k g st) e ∙ flag_step op g st room) h

-- behind a chain

pub assign_target : (e : Expression) (front : Statements) (st : Stack) → IsTarget e → assign e front st ≡ On (assign_value e front st)
assign_target (Var x) front st h = refl
assign_target (Field at a x) front st h = refl
assign_target (Elem at a i) front st h = refl
assign_target _ front st h = absurd h

pub assign_other : (e : Expression) (front : Statements) (st : Stack) → (IsTarget e → ⊥) → assign e front st ≡ No
assign_other (Var x) front st h = absurd (h tt)
assign_other (Field at a x) front st h = absurd (h tt)
assign_other (Elem at a i) front st h = absurd (h tt)
assign_other _ front st h = refl

pub end_call : (e : Expression) (front : Statements) (st : Stack) → IsCall e → call_ends e front st ≡ On (Stats (Then front (Do e)) st)
end_call (Call at a x args) front st h = refl
end_call _ front st h = absurd h

pub end_other : (e : Expression) (front : Statements) (st : Stack) → (IsCall e → ⊥) → call_ends e front st ≡ No
end_other (Call at a x args) front st h = absurd (h tt)
end_other _ front st h = refl
