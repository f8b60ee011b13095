-- The tables answer for every keyword and every mark.
use Rattle.std.proofs.Common.{◌≡◌, ℕ, ◌<◌, ◌≤◌, inl, inr, List, length, slice_index_or, sym, ap, ◌∙◌, Option, Some, None, arith, subst}
use Rattle.std.specs.Prelude.{IfSome, IfNone}
use Rattle.std.specs.List.{Contains}
use Rattle.bc_data.specs.declared.token.Word.{Word}
use Rattle.bc_data.specs.declared.token.Sign.{Sign}
use Rattle.bc_data.specs.Spelling.{word_text, sign_text}
use Rattle.bc_data.specs.Lexical.{StandsAt, IsMarkAt}
use Rattle.bc_lex.specs.declared.spelling.TheConstants.{WORDS, LONG_MARKS, SHORT_MARKS}
use Rattle.bc_lex.proofs.Tables.{every_word, every_mark, mark_most, mark_some, long_two}

-- the bytes are none of the words
abbrev pub NoWordOf : List ℕ → List Word → Type 0
NoWordOf bytes words = (k : ℕ) (d : Word) → k < length words → bytes ≡ word_text (slice_index_or words k d) → ⊥

pub no_word : (o : Option Word) (bytes : List ℕ) → IfNone o (NoWordOf bytes WORDS) → IfNone o ((w : Word) → bytes ≡ word_text w → ⊥)
no_word None bytes h = λ w e. let at = every_word w in h at.0 w at.1 (e ∙ ap word_text (sym at.2))
no_word (Some w) bytes h = h

-- none of the marks stands at the offset
abbrev pub NoMarkOf : List ℕ → ℕ → List Sign → Type 0
NoMarkOf text i marks = (k : ℕ) (d : Sign) → k < length marks → StandsAt text i (sign_text (slice_index_or marks k d)) → ⊥

not_listed : (text : List ℕ) (i : ℕ) (marks : List Sign) (s : Sign) → NoMarkOf text i marks → Contains marks s → StandsAt text i (sign_text s) → ⊥
not_listed text i marks s none at h = none at.0 s at.1 (subst (λ m. StandsAt text i (sign_text m)) (sym at.2) h)

pub no_mark : (o : Option Sign) (text : List ℕ) (i : ℕ) → NoMarkOf text i LONG_MARKS → IfNone o (NoMarkOf text i SHORT_MARKS) → IfNone o ((s : Sign) → StandsAt text i (sign_text s) → ⊥)
no_mark None text i long short = λ s h. elim (every_mark s) [ inl at ↦ not_listed text i LONG_MARKS s long at h | inr at ↦ not_listed text i SHORT_MARKS s short at.0 h ]
no_mark (Some s) text i long short = short

-- a long mark is the longest, and so is a short one where no long one stands
pub long_mark : (text : List ℕ) (i : ℕ) (m : Sign) → Contains LONG_MARKS m → StandsAt text i (sign_text m) → IsMarkAt text i m
long_mark text i m at h =
    let two : length (sign_text m) ≡ 2 = ap (λ s. length (sign_text s)) (sym at.2) ∙ long_two at.0 m at.1 in
    record { stands = h; longest = λ other _. (let most : length (sign_text other) ≤ 2 = mark_most other in omega arith) }

pub short_mark : (text : List ℕ) (i : ℕ) (m : Sign) → NoMarkOf text i LONG_MARKS → StandsAt text i (sign_text m) → IsMarkAt text i m
short_mark text i m long h = record {
  stands = h;
  longest = λ other k. elim (every_mark other) [
    | inl at ↦ absurd (not_listed text i LONG_MARKS other long at k)
    | inr at ↦ (let one : length (sign_text other) ≡ 1 = at.1 in let some : 0 < length (sign_text m) = mark_some m in omega arith)
  ];
}

pub longest_mark : (o : Option Sign) (text : List ℕ) (i : ℕ) → NoMarkOf text i LONG_MARKS → IfSome o (λ m. Contains SHORT_MARKS m × StandsAt text i (sign_text m)) → IfSome o (λ m. IsMarkAt text i m)
longest_mark None text i long h = tt
longest_mark (Some m) text i long h = short_mark text i m long h.1
