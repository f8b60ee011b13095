-- A mark is the longest where it ends.
use Rattle.std.proofs.Common.{◌≡◌, ℕ, ◌+◌, ◌-◌, ◌<◌, ◌≤◌, ◌==◌, ◌&&◌, ◌||◌, ◌⊎◌, inl, inr, Bool, true, false, List, ◌++◌, length, slice_index, drop, refl, ap, sym, ◌∙◌, subst, arith, lit≤}
use Rattle.std.proofs.lemmas.Bool.{or_cases, eqb-true, not-true, false≢true}
use Rattle.std.proofs.lemmas.List.{get_or-take, get_or-drop, get_or_append_left}
use Rattle.bc_data.specs.Lexical.{StandsAt, IsMarkAt, Other, start_of}
use Rattle.bc_data.specs.Seen.{Mark}
use Rattle.bc_data.specs.Spelling.{sign_text}
use Rattle.bc_data.specs.declared.token.Sign.{Sign}
use Rattle.bc_data.specs.declared.token.Sign.TheVariants as sign
use Rattle.bc_law_readback.proofs.LexingBytes.{byte_behind, byte_after, range_here}
use Rattle.bc_law_readback.proofs.LexingTouch.{ends_before}

-- whether two bytes are a mark
abbrev pub are_mark : ℕ → ℕ → Bool
are_mark b c = ((b == 58 || b == 61 || b == 33 || b == 60 || b == 62) && c == 61) || (b == 38 && c == 38) || (b == 124 && c == 124)

pub some_bytes : (s : Sign) → 1 ≤ length (sign_text s)
some_bytes sign.Dot = lit≤ tt
some_bytes _ = lit≤ tt

long_bytes : (s : Sign) → (length (sign_text s) ≤ 1) ⊎ ((length (sign_text s) ≡ 2) × (are_mark (slice_index (sign_text s) 0) (slice_index (sign_text s) 1) ≡ true))
long_bytes sign.Becomes = inr (refl, refl)
long_bytes sign.Same = inr (refl, refl)
long_bytes sign.Differ = inr (refl, refl)
long_bytes sign.LessEq = inr (refl, refl)
long_bytes sign.MoreEq = inr (refl, refl)
long_bytes sign.Both = inr (refl, refl)
long_bytes sign.Either = inr (refl, refl)
long_bytes _ = inl (lit≤ tt)

-- what holds of a space, a line feed and the end holds of a byte that is one of them
gap_byte : (P : ℕ → Type 0) (c : ℕ) → (c == 0 || c == 10 || c == 32) ≡ true → P 0 → P 10 → P 32 → P c
gap_byte P c h none feed space = elim (or_cases (c == 0 || c == 10) (c == 32) h) [
  | inl k ↦ elim (or_cases (c == 0) (c == 10) k) [ inl e ↦ subst P (sym (eqb-true c 0 e)) none | inr e ↦ subst P (sym (eqb-true c 10 e)) feed ]
  | inr e ↦ subst P (sym (eqb-true c 32 e)) space
]

gap_equal : (c : ℕ) → (c == 0 || c == 10 || c == 32) ≡ true → (c == 61) ≡ false
gap_equal c h = gap_byte (λ b. (b == 61) ≡ false) c h refl refl refl

-- a mark of two bytes, or of one that isn't the beginning of a longer mark before this byte
abbrev pub IsWhole : Sign → ℕ → Type 0
IsWhole s c = (length (sign_text s) ≡ 2) ⊎ ((length (sign_text s) ≡ 1) × (are_mark (slice_index (sign_text s) 0) c ≡ false))

whole_mark : (s : Sign) (c : ℕ) → ends_before (Mark s) c ≡ true → IsWhole s c
whole_mark sign.Bang c h = inr (refl, rw (not-true (c == 61) h) refl)
whole_mark sign.Colon c h = inr (refl, rw (gap_equal c h) refl)
whole_mark sign.Equals c h = inr (refl, rw (gap_equal c h) refl)
whole_mark sign.Less c h = inr (refl, rw (gap_equal c h) refl)
whole_mark sign.More c h = inr (refl, rw (gap_equal c h) refl)
whole_mark sign.Becomes c h = inl refl
whole_mark sign.Same c h = inl refl
whole_mark sign.Differ c h = inl refl
whole_mark sign.LessEq c h = inl refl
whole_mark sign.MoreEq c h = inl refl
whole_mark sign.Both c h = inl refl
whole_mark sign.Either c h = inl refl
whole_mark _ c h = inr (refl, refl)

-- a byte of a part that stands at an offset
standing_byte : (text : List ℕ) (i k : ℕ) (bytes : List ℕ) → StandsAt text i bytes → k < length bytes → slice_index bytes k ≡ slice_index text (i + k)
standing_byte text i k bytes stands h =
    ap (λ bs. slice_index bs k) (sym stands) ∙ get_or-take (i + length bytes - i) (drop i text) k 0 (omega arith) ∙ get_or-drop i text k 0

-- no longer mark stands where this one ends
no_longer : (s other : Sign) (before after : List ℕ) → IsWhole s (slice_index after 0) → StandsAt (before ++ (sign_text s ++ after)) (length before) (sign_text other) → length (sign_text other) ≤ length (sign_text s)
no_longer s other before after whole stands =
    elim (long_bytes other) [
      | inl short ↦ (let some : 1 ≤ length (sign_text s) = some_bytes s in omega arith)
      | inr long ↦ elim whole [
        | inl two ↦ (let other_two : length (sign_text other) ≡ 2 = long.0 in omega arith)
        | inr one ↦
            let text : List ℕ = before ++ (sign_text s ++ after) in
            let two : length (sign_text other) ≡ 2 = long.0 in
            let single : length (sign_text s) ≡ 1 = one.0 in
            let first : slice_index (sign_text other) 0 ≡ slice_index (sign_text s) 0 = standing_byte text (length before) 0 (sign_text other) stands (omega arith) ∙ byte_behind before (sign_text s ++ after) 0 ∙ get_or_append_left (sign_text s) after 0 0 (omega arith) in
            let second : slice_index (sign_text other) 1 ≡ slice_index after 0 = standing_byte text (length before) 1 (sign_text other) stands (omega arith) ∙ ap (λ n. slice_index text (length before + n)) (sym single) ∙ byte_after before (sign_text s) after in
            absurd (false≢true (sym one.1 ∙ ap (λ b. are_mark b (slice_index after 0)) (sym first) ∙ ap (λ c. are_mark (slice_index (sign_text other) 0) c) (sym second) ∙ long.1))
      ]
    ]

pub mark_here : (s : Sign) (before after : List ℕ) → ends_before (Mark s) (slice_index after 0) ≡ true → IsMarkAt (before ++ (sign_text s ++ after)) (length before) s
mark_here s before after ends = record {
  stands = range_here before (sign_text s) after;
  longest = λ other stands. no_longer s other before after (whole_mark s (slice_index after 0) ends) stands;
}

-- a mark is not the beginning of a comment
pub mark_start : (s : Sign) (after : List ℕ) → ends_before (Mark s) (slice_index after 0) ≡ true → start_of (slice_index (sign_text s ++ after) 0) (slice_index (sign_text s ++ after) 1) ≡ Other
unfolding start_of
mark_start sign.Slash after h = gap_byte (λ c. start_of 47 c ≡ Other) (slice_index after 0) h refl refl refl
mark_start _ after h = refl
