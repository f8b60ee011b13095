-- Rows of tokens.
use Rattle.bc_data.specs.SourceTree.{Sequence, More}
use Rattle.bc_data.specs.View.{onto}
use Rattle.std.proofs.Common.{◌++◌, inl, inr, length, take, drop, min, arith, ◌≡◌, ℕ, List, [], ◌∷◌, refl, ap, sym, ◌∙◌, false, if◌then◌else◌}
use Rattle.std.proofs.lemmas.Bool.{cases_lt}
use Rattle.std.proofs.lemmas.List.{drop_all, take_all}
use denote.Enum.Bare.{true_same, false_same}
use Rattle.bc_data.specs.Seen.{Lexeme, Seen, Keyword, Name, Number, Text, Mark, End}
use Rattle.bc_data.specs.declared.run.Place.{Place}
use Rattle.bc_data.specs.declared.token.Word.{Word}
use Rattle.bc_data.specs.declared.token.Sign.{Sign}
use Rattle.bc_data.specs.contracts.token.Word as word_type
use Rattle.bc_data.specs.contracts.token.Sign as sign_type
use Rattle.bc_parse_expr.specs.Contract.{IsOpen}
use Rattle.bc_law_grammar.specs.Machine.{State, Done, OnMark, OnWord, On, step, run, follow, same_mark, same_word}

pub on_mark : (s : Sign) (next : Place → State) (other : State) (t : Seen) (ts : List Seen) → t.kind ≡ Mark s → run 64 (OnMark s next other) (t ∷ ts) ≡ run 64 (next t.at) ts
on_mark s next other t ts e = ap (λ b. follow 64 t.at (λ s. run 64 s ts) (if b then On (next t.at) else step other t)) (ap (same_mark s) e ∙ true_same sign_type.the_type s s refl)

differs : (s : Sign) (k : Lexeme) → (k ≡ Mark s → ⊥) → same_mark s k ≡ false
differs s (Mark r) h = false_same sign_type.the_type tt s r (λ e. h (ap Mark (sym e)))
differs s (Keyword w) h = refl
differs s (Name x) h = refl
differs s (Number n) h = refl
differs s (Text m) h = refl
differs s End h = refl

pub not_mark : (s : Sign) (next : Place → State) (other : State) (t : Seen) (ts : List Seen) → (t.kind ≡ Mark s → ⊥) → run 64 (OnMark s next other) (t ∷ ts) ≡ run 64 other (t ∷ ts)
not_mark s next other t ts h = ap (λ b. follow 64 t.at (λ s. run 64 s ts) (if b then On (next t.at) else step other t)) (differs s t.kind h)

pub on_word : (w : Word) (next : Place → State) (other : State) (t : Seen) (ts : List Seen) → t.kind ≡ Keyword w → run 64 (OnWord w next other) (t ∷ ts) ≡ run 64 (next t.at) ts
on_word w next other t ts e = ap (λ b. follow 64 t.at (λ s. run 64 s ts) (if b then On (next t.at) else step other t)) (ap (same_word w) e ∙ true_same word_type.the_type w w refl)

differs_word : (w : Word) (k : Lexeme) → (k ≡ Keyword w → ⊥) → same_word w k ≡ false
differs_word w (Keyword v) h = false_same word_type.the_type tt w v (λ e. h (ap Keyword (sym e)))
differs_word w (Mark s) h = refl
differs_word w (Name x) h = refl
differs_word w (Number n) h = refl
differs_word w (Text m) h = refl
differs_word w End h = refl

pub not_word : (w : Word) (next : Place → State) (other : State) (t : Seen) (ts : List Seen) → (t.kind ≡ Keyword w → ⊥) → run 64 (OnWord w next other) (t ∷ ts) ≡ run 64 other (t ∷ ts)
not_word w next other t ts h = ap (λ b. follow 64 t.at (λ s. run 64 s ts) (if b then On (next t.at) else step other t)) (differs_word w t.kind h)

pub drop_min : (n : ℕ) (l : List ℕ) → drop (min n (length l)) l ≡ drop n l
drop_min n l =
    elim (cases_lt n (length l)) [
      | inl lt ↦ ap (λ k. drop k l) (omega arith)
      | inr ge ↦ drop_all (min n (length l)) l (omega arith) ∙ sym (drop_all n l ge)
    ]

pub take_min : (n : ℕ) (l : List ℕ) → take (min n (length l)) l ≡ take n l
take_min n l =
    elim (cases_lt n (length l)) [
      | inl lt ↦ ap (λ k. take k l) (omega arith)
      | inr ge ↦ take_all (min n (length l)) l (omega arith) ∙ sym (take_all n l ge)
    ]

pub onto_push : {A : Type 0} → (xs : List A) (x : A) (front : Sequence A) → onto (xs ++ x ∷ []) front ≡ More (onto xs front) x
onto_push [] x front = refl
onto_push (y ∷ xs) x front = onto_push xs x (More front y)

pub no_mark : (s : Sign) (next : Place → State) (other : State) → IsOpen other → run 64 (OnMark s next other) [] ≡ run 64 other []
no_mark s next (Done items) h = absurd h
no_mark s next _ h = refl

pub no_word : (w : Word) (next : Place → State) (other : State) → IsOpen other → run 64 (OnWord w next other) [] ≡ run 64 other []
no_word w next (Done items) h = absurd h
no_word w next _ h = refl
