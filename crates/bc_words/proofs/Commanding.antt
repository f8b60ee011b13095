-- Words that are a command, and words that are none.
use Rattle.std.proofs.Common.{◌≡◌, ℕ, ◌<◌, ◌^◌, Bool, true, false, not, List, [], ◌∷◌, length, get_or, ◌⊎◌, ⊎_elim, refl, sym, ◌∙◌, ap, arith}
use Rattle.std.specs.Prelude.{codes, nat_eq}
use Rattle.std.specs.Fmt.{decimal}
use Rattle.std.specs.Cmp.Lexicographic.{pointwise, same_text}
use Rattle.std.proofs.lemmas.Fmt.{decimal_injective}
use Rattle.bc_words.specs.declared.commands.Command.TheVariants as command
use Rattle.bc_words.specs.Commands.{IsNoCommand, IsNoSerial, AreNone}

pub matched : (xs ys : List ℕ) → false ≡ not (pointwise nat_eq xs ys) → xs ≡ ys
matched xs ys h = same_text xs ys (turned (pointwise nat_eq xs ys) h)
  where
    turned : (b : Bool) → false ≡ not b → true ≡ b
    turned true h = refl
    turned false h = cc

-- a list of three, by its elements
pub three : (words : List (List ℕ)) (x y z : List ℕ) → length words ≡ 3 → x ≡ get_or words 0 x → y ≡ get_or words 1 y → z ≡ get_or words 2 z → words ≡ x ∷ y ∷ z ∷ []
three [] x y z h a b c = absurd (omega arith)
three (p ∷ []) x y z h a b c = absurd (omega arith)
three (p ∷ q ∷ []) x y z h a b c = absurd (omega arith)
three (p ∷ q ∷ r ∷ []) x y z h a b c =
    ap (λ w. w ∷ q ∷ r ∷ []) (sym a) ∙ ap (λ w. x ∷ w ∷ r ∷ []) (sym b) ∙ ap (λ w. x ∷ y ∷ w ∷ []) (sym c)
three (p ∷ q ∷ r ∷ s ∷ rest) x y z h a b c = absurd (omega arith)

-- a list of two, by its elements
pub two : (words : List (List ℕ)) (x y : List ℕ) → length words ≡ 2 → x ≡ get_or words 0 x → y ≡ get_or words 1 y → words ≡ x ∷ y ∷ []
two [] x y h a b = absurd (omega arith)
two (p ∷ []) x y h a b = absurd (omega arith)
two (p ∷ q ∷ []) x y h a b = ap (λ w. w ∷ q ∷ []) (sym a) ∙ ap (λ w. x ∷ w ∷ []) (sym b)
two (p ∷ q ∷ r ∷ rest) x y h a b = absurd (omega arith)

pub accepts : (words : List (List ℕ)) (x y z : List ℕ) (n : ℕ) → length words ≡ 3 → x ≡ get_or words 0 x → y ≡ get_or words 1 y → z ≡ get_or words 2 z → x ≡ codes "serial" → z ≡ decimal n → words ≡ codes "serial" ∷ y ∷ decimal n ∷ []
accepts words x y z n h a b c serial number =
    three words x y z h a b c
    ∙ ap (λ w. w ∷ y ∷ z ∷ []) serial
    ∙ ap (λ w. codes "serial" ∷ y ∷ w ∷ []) number

pub refuses : (words : List (List ℕ)) (z : List ℕ) (n : ℕ) → z ≡ get_or words 2 z → z ≡ decimal n → n < 2 ^ 64 → n < 1 ⊎ 1000000 < n → IsNoSerial words
refuses words z n c number fits out file m is some few =
    let third : get_or words 2 z ≡ decimal m = ap (λ ws. get_or ws 2 z) is in
    let same : n ≡ m = decimal_injective n m fits (omega arith) (sym number ∙ c ∙ third) in
    ⊎_elim (λ low. omega arith) (λ high. omega arith) out

pub no_command : (words : List (List ℕ)) → IsNoSerial words → AreNone words (codes "show") → AreNone words (codes "check") → AreNone words (codes "code") → IsNoCommand words
no_command words serial show check code (command.Serial file commits) is = serial file.now commits is.0 is.1.0 is.1.1
no_command words serial show check code (command.Show file) is = show file.now is.0
no_command words serial show check code (command.Check file) is = check file.now is.0
no_command words serial show check code (command.Code file) is = code file.now is.0
