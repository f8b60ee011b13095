-- The tables have every keyword and every mark.
use Rattle.std.proofs.Common.{◌≡◌, ℕ, ◌<◌, ◌≤◌, ◌⊎◌, inl, inr, List, length, refl, sym, ap, ◌∙◌, lit<, lit≤, ◌++◌, zero, suc, slice_index_or, arith, Option, Some, nat_eq}
use Rattle.std.specs.List.{Contains, find}
use Rattle.std.specs.Cmp.Lexicographic.{pointwise}
use Rattle.bc_data.specs.declared.token.Word.{Word}
use Rattle.bc_data.specs.declared.token.Word.TheVariants as word
use Rattle.bc_data.specs.declared.token.Sign.{Sign}
use Rattle.bc_data.specs.declared.token.Sign.TheVariants as sign
use Rattle.bc_data.specs.Spelling.{word_text, sign_text}
use Rattle.bc_lex.specs.declared.spelling.TheConstants.{WORDS, LONG_MARKS, SHORT_MARKS}

pub every_word : (w : Word) → Contains WORDS w
every_word word.Add = (0, lit< tt, refl)
every_word word.And = (1, lit< tt, refl)
every_word word.Assert = (2, lit< tt, refl)
every_word word.Bool = (3, lit< tt, refl)
every_word word.Class = (4, lit< tt, refl)
every_word word.Clear = (5, lit< tt, refl)
every_word word.Else = (6, lit< tt, refl)
every_word word.False = (7, lit< tt, refl)
every_word word.Flag = (8, lit< tt, refl)
every_word word.If = (9, lit< tt, refl)
every_word word.In = (10, lit< tt, refl)
every_word word.Int = (11, lit< tt, refl)
every_word word.Length = (12, lit< tt, refl)
every_word word.New = (13, lit< tt, refl)
every_word word.Null = (14, lit< tt, refl)
every_word word.Or = (15, lit< tt, refl)
every_word word.Print = (16, lit< tt, refl)
every_word word.Return = (17, lit< tt, refl)
every_word word.Tag = (18, lit< tt, refl)
every_word word.TagType = (19, lit< tt, refl)
every_word word.Task = (20, lit< tt, refl)
every_word word.TaskExit = (21, lit< tt, refl)
every_word word.This = (22, lit< tt, refl)
every_word word.True = (23, lit< tt, refl)
every_word word.Void = (24, lit< tt, refl)
every_word word.While = (25, lit< tt, refl)
every_word word.With = (26, lit< tt, refl)

pub every_mark : (s : Sign) → Contains LONG_MARKS s ⊎ (Contains SHORT_MARKS s × (length (sign_text s) ≡ 1))
every_mark sign.Becomes = inl (0, lit< tt, refl)
every_mark sign.Same = inl (1, lit< tt, refl)
every_mark sign.Differ = inl (2, lit< tt, refl)
every_mark sign.LessEq = inl (3, lit< tt, refl)
every_mark sign.MoreEq = inl (4, lit< tt, refl)
every_mark sign.Both = inl (5, lit< tt, refl)
every_mark sign.Either = inl (6, lit< tt, refl)
every_mark sign.OpenBrace = inr ((0, lit< tt, refl), refl)
every_mark sign.CloseBrace = inr ((1, lit< tt, refl), refl)
every_mark sign.OpenParen = inr ((2, lit< tt, refl), refl)
every_mark sign.CloseParen = inr ((3, lit< tt, refl), refl)
every_mark sign.OpenBracket = inr ((4, lit< tt, refl), refl)
every_mark sign.CloseBracket = inr ((5, lit< tt, refl), refl)
every_mark sign.Semicolon = inr ((6, lit< tt, refl), refl)
every_mark sign.Comma = inr ((7, lit< tt, refl), refl)
every_mark sign.Dot = inr ((8, lit< tt, refl), refl)
every_mark sign.Colon = inr ((9, lit< tt, refl), refl)
every_mark sign.Equals = inr ((10, lit< tt, refl), refl)
every_mark sign.Bang = inr ((11, lit< tt, refl), refl)
every_mark sign.Less = inr ((12, lit< tt, refl), refl)
every_mark sign.More = inr ((13, lit< tt, refl), refl)
every_mark sign.Plus = inr ((14, lit< tt, refl), refl)
every_mark sign.Minus = inr ((15, lit< tt, refl), refl)
every_mark sign.Star = inr ((16, lit< tt, refl), refl)
every_mark sign.Slash = inr ((17, lit< tt, refl), refl)
every_mark sign.Percent = inr ((18, lit< tt, refl), refl)

pub mark_most : (s : Sign) → length (sign_text s) ≤ 2
mark_most sign.Becomes = lit≤ tt
mark_most sign.Same = lit≤ tt
mark_most sign.Differ = lit≤ tt
mark_most sign.LessEq = lit≤ tt
mark_most sign.MoreEq = lit≤ tt
mark_most sign.Both = lit≤ tt
mark_most sign.Either = lit≤ tt
mark_most sign.OpenBrace = lit≤ tt
mark_most sign.CloseBrace = lit≤ tt
mark_most sign.OpenParen = lit≤ tt
mark_most sign.CloseParen = lit≤ tt
mark_most sign.OpenBracket = lit≤ tt
mark_most sign.CloseBracket = lit≤ tt
mark_most sign.Semicolon = lit≤ tt
mark_most sign.Comma = lit≤ tt
mark_most sign.Dot = lit≤ tt
mark_most sign.Colon = lit≤ tt
mark_most sign.Equals = lit≤ tt
mark_most sign.Bang = lit≤ tt
mark_most sign.Less = lit≤ tt
mark_most sign.More = lit≤ tt
mark_most sign.Plus = lit≤ tt
mark_most sign.Minus = lit≤ tt
mark_most sign.Star = lit≤ tt
mark_most sign.Slash = lit≤ tt
mark_most sign.Percent = lit≤ tt

-- a mark of the table of long ones has two bytes
pub long_two : (k : ℕ) (d : Sign) → k < length LONG_MARKS → length (sign_text (slice_index_or LONG_MARKS k d)) ≡ 2
long_two zero d h = refl
long_two (suc zero) d h = refl
long_two (suc (suc zero)) d h = refl
long_two (suc (suc (suc zero))) d h = refl
long_two (suc (suc (suc (suc zero)))) d h = refl
long_two (suc (suc (suc (suc (suc zero))))) d h = refl
long_two (suc (suc (suc (suc (suc (suc zero)))))) d h = refl
long_two (suc (suc (suc (suc (suc (suc (suc k))))))) d h = absurd (omega arith)

pub mark_some : (s : Sign) → 0 < length (sign_text s)
mark_some sign.Becomes = lit< tt
mark_some sign.Same = lit< tt
mark_some sign.Differ = lit< tt
mark_some sign.LessEq = lit< tt
mark_some sign.MoreEq = lit< tt
mark_some sign.Both = lit< tt
mark_some sign.Either = lit< tt
mark_some sign.OpenBrace = lit< tt
mark_some sign.CloseBrace = lit< tt
mark_some sign.OpenParen = lit< tt
mark_some sign.CloseParen = lit< tt
mark_some sign.OpenBracket = lit< tt
mark_some sign.CloseBracket = lit< tt
mark_some sign.Semicolon = lit< tt
mark_some sign.Comma = lit< tt
mark_some sign.Dot = lit< tt
mark_some sign.Colon = lit< tt
mark_some sign.Equals = lit< tt
mark_some sign.Bang = lit< tt
mark_some sign.Less = lit< tt
mark_some sign.More = lit< tt
mark_some sign.Plus = lit< tt
mark_some sign.Minus = lit< tt
mark_some sign.Star = lit< tt
mark_some sign.Slash = lit< tt
mark_some sign.Percent = lit< tt

word_of : List ℕ → Option Word
word_of bytes = find (λ w. pointwise nat_eq (word_text w) bytes) WORDS

word_again : (w : Word) → word_of (word_text w) ≡ Some w
unfolding word_of
word_again word.Add = refl
word_again word.And = refl
word_again word.Assert = refl
word_again word.Bool = refl
word_again word.Class = refl
word_again word.Clear = refl
word_again word.Else = refl
word_again word.False = refl
word_again word.Flag = refl
word_again word.If = refl
word_again word.In = refl
word_again word.Int = refl
word_again word.Length = refl
word_again word.New = refl
word_again word.Null = refl
word_again word.Or = refl
word_again word.Print = refl
word_again word.Return = refl
word_again word.Tag = refl
word_again word.TagType = refl
word_again word.Task = refl
word_again word.TaskExit = refl
word_again word.This = refl
word_again word.True = refl
word_again word.Void = refl
word_again word.While = refl
word_again word.With = refl

-- two keywords are spelled differently
pub word_same : (v w : Word) → word_text v ≡ word_text w → v ≡ w
word_same v w e = let same : Some v ≡ Some w = sym (word_again v) ∙ ap word_of e ∙ word_again w in cc

mark_of : List ℕ → Option Sign
mark_of bytes = find (λ s. pointwise nat_eq (sign_text s) bytes) (LONG_MARKS ++ SHORT_MARKS)

mark_again : (s : Sign) → mark_of (sign_text s) ≡ Some s
unfolding mark_of
mark_again sign.Becomes = refl
mark_again sign.Same = refl
mark_again sign.Differ = refl
mark_again sign.LessEq = refl
mark_again sign.MoreEq = refl
mark_again sign.Both = refl
mark_again sign.Either = refl
mark_again sign.OpenBrace = refl
mark_again sign.CloseBrace = refl
mark_again sign.OpenParen = refl
mark_again sign.CloseParen = refl
mark_again sign.OpenBracket = refl
mark_again sign.CloseBracket = refl
mark_again sign.Semicolon = refl
mark_again sign.Comma = refl
mark_again sign.Dot = refl
mark_again sign.Colon = refl
mark_again sign.Equals = refl
mark_again sign.Bang = refl
mark_again sign.Less = refl
mark_again sign.More = refl
mark_again sign.Plus = refl
mark_again sign.Minus = refl
mark_again sign.Star = refl
mark_again sign.Slash = refl
mark_again sign.Percent = refl

-- two marks are spelled differently
pub mark_same : (s t : Sign) → sign_text s ≡ sign_text t → s ≡ t
mark_same s t e = let same : Some s ≡ Some t = sym (mark_again s) ∙ ap mark_of e ∙ mark_again t in cc
