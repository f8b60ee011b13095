-- The names of the class that each program has from the start.
use Rattle.std.proofs.Common.{◌≡◌, ℕ, zero, suc, ◌<◌, Bool, true, false, not, ◌&&◌, ◌==◌, codes, List, [], ◌∷◌, length, slice_index, refl, ap, sym, ◌∙◌, arith}
use Rattle.std.specs.Prelude.{nat_le}
use Rattle.std.specs.List.{list_all}
use Rattle.std.proofs.lemmas.Bool.{and_parts}
use Rattle.bc_data.specs.declared.token.Word.{Word}
use Rattle.bc_data.specs.declared.token.Word.TheVariants as word
use Rattle.bc_data.specs.Lexical.{is_letter, is_name_byte}
use Rattle.bc_data.specs.Names.{IsIdentifier}
use Rattle.bc_data.specs.Spelling.{word_text}

-- bytes that no keyword has: more than eight, or `p` in the third place
abbrev is_apart : List ℕ → Bool
is_apart bytes = not (nat_le (length bytes) 8 && not (slice_index bytes 2 == 112))

words : (w : Word) → is_apart (word_text w) ≡ false
words word.Add = refl
words word.And = refl
words word.Assert = refl
words word.Bool = refl
words word.Class = refl
words word.Clear = refl
words word.Else = refl
words word.False = refl
words word.Flag = refl
words word.If = refl
words word.In = refl
words word.Int = refl
words word.Length = refl
words word.New = refl
words word.Null = refl
words word.Or = refl
words word.Print = refl
words word.Return = refl
words word.Tag = refl
words word.TagType = refl
words word.Task = refl
words word.TaskExit = refl
words word.This = refl
words word.True = refl
words word.Void = refl
words word.While = refl
words word.With = refl

bytes_pass : (bytes : List ℕ) → list_all is_name_byte bytes ≡ true → (k : ℕ) → k < length bytes → is_name_byte (slice_index bytes k) ≡ true
bytes_pass [] e k within = absurd (omega arith)
bytes_pass (b ∷ bs) e zero within = (and_parts _ _ e).0
bytes_pass (b ∷ bs) e (suc k) within = bytes_pass bs (and_parts _ _ e).1 k (omega arith)

name : (bytes : List ℕ) → is_letter (slice_index bytes 0) ≡ true → list_all is_name_byte bytes ≡ true → is_apart bytes ≡ true → IsIdentifier bytes
name bytes first all apart = (record { first = first; all = bytes_pass bytes all }, λ w same. differ (sym apart ∙ ap is_apart same ∙ words w))
  where
    differ : true ≡ false → ⊥
    differ e = cc

pub startup_object : IsIdentifier (codes "StartupObject")
startup_object = name (codes "StartupObject") refl refl refl

pub initialstate : IsIdentifier (codes "initialstate")
initialstate = name (codes "initialstate") refl refl refl

pub input : IsIdentifier (codes "input")
input = name (codes "input") refl refl refl
