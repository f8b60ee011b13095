-- The causes of a call's statuses exclude each other.
use Rattle.std.proofs.Common.{◌≡◌, ℕ, ◌<◌, ◌≤◌, List, [], length, get_or, inl, inr, refl, sym, ◌∙◌, ap, subst, arith}
use Rattle.std.specs.Prelude.{Option, None, Some, IfSome, IsSome, IsSomeAnd}
use Rattle.bc_data.specs.declared.run.Place.{Place}
use Rattle.bc_base.specs.Files.{Told, file_of}
use Rattle.bc_words.specs.declared.commands.Command.{Command}
use Rattle.bc_words.specs.declared.commands.Command.TheVariants as command
use Rattle.bc_words.specs.Commands.{IsCommand, IsNoCommand, words_of, file_name, file_limit}
use Rattle.bc_texts.specs.declared.refused.RefusedKind.{RefusedKind}
use Rattle.bc_read.specs.Reading.{IsRefused}
use Rattle.bc_commands.specs.declared.answer.Refusal.TheVariants as refusal
use Rattle.bc_commands.specs.Contract.{Side, Inputs, IsFile, IsLongFile, IsLongInput, IsRunOn, IsCause, input_limit}
use Rattle.bc_commands.specs.Statuses.{HasText, HasInput, HasProgram, HasRefusedText}
use Rattle.bc_commands.proofs.Texts.{Laws, program_or_refused}

name_in_words : (c : Command) → get_or (words_of c) 1 [] ≡ file_name c
name_in_words (command.Serial file commits) = refl
name_in_words (command.Show file) = refl
name_in_words (command.Check file) = refl
name_in_words (command.Code file) = refl

-- words name one file
one_file : (words : List (List ℕ)) (a b : Command) → IsCommand words a → IsCommand words b → file_name a ≡ file_name b
one_file words a b (is, range) (is_2, range_2) =
    sym (name_in_words a) ∙ ap (λ ws. get_or ws 1 []) (sym is ∙ is_2) ∙ name_in_words b

same_some : (o : Option (List ℕ)) (a b : List ℕ) → o ≡ Some a → o ≡ Some b → a ≡ b
same_some None a b x y = cc
same_some (Some c) a b x y = cc

-- a name has one content
one_content : (told : Option Told) (file a b : List ℕ) → IsSome told → IsFile told file a → IsFile told file b → a ≡ b
one_content None file a b told x y = cc
one_content (Some t) file a b told x y = same_some (file_of t.files file) a b x y

-- the same words, the same text
one_text :
    (words : List (List ℕ)) (told : Option Told) (a b : Command) (x y : List ℕ) → IsSome told → IsCommand words a
    → IsCommand words b → IsFile told (file_name a) x → IsFile told (file_name b) y → x ≡ y
one_text words told a b x y tells is is_2 content content_2 =
    one_content told (file_name b) x y tells
    (subst (λ name. IsFile told name x) (one_file words a b is is_2) content) content_2

longer :
    (o : Option (List ℕ)) (text : List ℕ) → o ≡ Some text → IsSomeAnd o (λ content. file_limit < length content)
    → file_limit < length text
longer o text is long = subst (λ (x : Option (List ℕ)). IsSomeAnd x (λ content. file_limit < length content)) is long

long_or_short :
    (told : Option Told) (file text : List ℕ) → IsSome told → IsFile told file text → IsLongFile told file
    → length text ≤ file_limit → ⊥
long_or_short None file text told content long short = cc
long_or_short (Some t) file text told content long short =
    let over : file_limit < length text = longer (file_of t.files file) text content long in
    omega (arith, over, short)

-- the file of a text that is not too long isn't too long by any command of the words
file_is_short :
    (words : List (List ℕ)) (i : Inputs) (c d : Command) (text : List ℕ) → IsSome i.told → HasText words i c text
    → IsCommand words d → IsLongFile i.told (file_name d) → ⊥
file_is_short words i c d text told has is long =
    long_or_short i.told (file_name c) text told has.content
    (subst (λ name. IsLongFile i.told name) (one_file words d c is has.is) long) has.within

runs_or_refused :
    Laws → (c : Command) (text : List ℕ) (kind : RefusedKind) (at : Place) → IsRunOn c text → IsRefused text kind at
    → ⊥
runs_or_refused laws (command.Serial file commits) text kind at (items, program, is) refused =
    program_or_refused laws text items program kind at is refused
runs_or_refused laws (command.Show file) text kind at runs refused = runs
runs_or_refused laws (command.Check file) text kind at runs refused = runs
runs_or_refused laws (command.Code file) text kind at runs refused = runs

length_of_word :
    (words : List (List ℕ)) (a b : Command) → words ≡ words_of a → words ≡ words_of b
    → length (get_or (words_of a) 0 []) ≡ length (get_or (words_of b) 0 [])
length_of_word words a b is is_2 = ap (λ ws. length (get_or ws 0 [])) (sym is ∙ is_2)

short_input :
    (told : Option (List ℕ)) → IsSome told → IfSome told (λ left. length left ≤ input_limit)
    → IfSome told (λ left. input_limit < length left) → ⊥
short_input None tells short long = cc
short_input (Some left) tells short long = omega (arith, short, long)

-- the input of a command that has it isn't too long for a command of the words that runs
input_is_short :
    (words : List (List ℕ)) (c d : Command) (text : List ℕ) (s : Side) → IsSome s.old → IsCommand words c
    → IsCommand words d → IsRunOn d text → HasInput c s → IsLongInput s → ⊥
input_is_short words (command.Serial file commits) (command.Serial name most) text s told is is_2 runs short long =
    short_input s.old told short long
input_is_short words (command.Show file) (command.Serial name most) text s told (is, range) (is_2, range_2) runs short long =
    absurd (omega (arith, length_of_word words (command.Show file) (command.Serial name most) is is_2))
input_is_short words (command.Check file) (command.Serial name most) text s told (is, range) (is_2, range_2) runs short long =
    absurd (omega (arith, length_of_word words (command.Check file) (command.Serial name most) is is_2))
input_is_short words (command.Code file) (command.Serial name most) text s told (is, range) (is_2, range_2) runs short long =
    absurd (omega (arith, length_of_word words (command.Code file) (command.Serial name most) is is_2))
input_is_short words c (command.Show file) text s told is is_2 runs short long = runs
input_is_short words c (command.Check file) text s told is is_2 runs short long = runs
input_is_short words c (command.Code file) text s told is is_2 runs short long = runs

pub program_or_none : (words : List (List ℕ)) (i : Inputs) → HasProgram words i → IsNoCommand words → ⊥
program_or_none words i (c, text, items, program, has, is, input) none = none c has.is

pub refused_or_none : (words : List (List ℕ)) (i : Inputs) → HasRefusedText words i → IsNoCommand words → ⊥
refused_or_none words i (c, text, kind, at, has, refused) none = none c has.is

pub long_or_none : (words : List (List ℕ)) (i : Inputs) → IsCause words i refusal.TooLong → IsNoCommand words → ⊥
long_or_none words i (inl (c, is, long)) none = none c is
long_or_none words i (inr ((c, text, is, content, runs), long)) none = none c is

pub refused_or_long :
    Laws → (words : List (List ℕ)) (i : Inputs) → IsSome i.told → HasRefusedText words i
    → IsCause words i refusal.TooLong → ⊥
refused_or_long laws words i told (c, text, kind, at, has, refused) (inl (d, is, long)) =
    file_is_short words i c d text told has is long
refused_or_long laws words i told (c, text, kind, at, has, refused) (inr ((d, other, is, content, runs), long)) =
    let same : other ≡ text = one_text words i.told d c other text told is has.is content has.content in
    runs_or_refused laws d text kind at (subst (IsRunOn d) same runs) refused

pub program_or_long :
    (words : List (List ℕ)) (i : Inputs) → IsSome i.told → IsSome i.source.old → HasProgram words i
    → IsCause words i refusal.TooLong → ⊥
program_or_long words i told left (c, text, items, program, has, is, input) (inl (d, is_2, long)) =
    file_is_short words i c d text told has is_2 long
program_or_long words i told left (c, text, items, program, has, is, input) (inr ((d, other, is_2, content, runs), long)) =
    input_is_short words c d other i.source left has.is is_2 runs input long

pub program_or_refusal :
    Laws → (words : List (List ℕ)) (i : Inputs) → IsSome i.told → HasProgram words i → HasRefusedText words i → ⊥
program_or_refusal laws words i told (c, text, items, program, has, is, input) (d, other, kind, at, has_2, refused) =
    let same : other ≡ text = one_text words i.told d c other text told has_2.is has.is has_2.content has.content in
    program_or_refused laws text items program kind at is (subst (λ t. IsRefused t kind at) same refused)
