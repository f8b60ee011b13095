-- Names, as a text spells them.
use Rattle.std.specs.Prelude.{◌≡◌, ◌≢◌, ◌<◌, ℕ, true, List, length, slice_index, All, AllPairs}
use Rattle.bc_data.specs.declared.token.Word.{Word}
use Rattle.bc_data.specs.Lexical.{is_letter, is_name_byte}
use Rattle.bc_data.specs.Spelling.{word_text}

-- a letter or `_`, and then letters, digits and `_`
pub record IsName (bytes : List ℕ) : Type 0 where
  pub first : is_letter (slice_index bytes 0) ≡ true
  pub all : (k : ℕ) → k < length bytes → is_name_byte (slice_index bytes k) ≡ true

-- such bytes that are no keyword
abbrev pub IsIdentifier : List ℕ → Type 0
IsIdentifier bytes = IsName bytes × ((word : Word) → bytes ≢ word_text word)

-- names, each of them once
pub record AreNames (names : List (List ℕ)) : Type 0 where
  pub each : All IsIdentifier names
  pub once : AllPairs (λ x y. x ≢ y) names
