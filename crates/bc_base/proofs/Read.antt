-- What a source gave in several reads, one behind the other.
use Rattle.std.proofs.Common.{◌≡◌, ℕ, ◌+◌, ◌<◌, ◌≤◌, List, [], ◌++◌, length, refl, ap, sym, ◌∙◌, arith, append_assoc, append-nil, length-append}
use Rattle.std.specs.Prelude.{Option, None, Some, IfSome}
use Rattle.bc_base.specs.Outside.{Consumes, IsAtEnd, GivesAll, Loses, LosesUpTo, led_by}

led_by-twice : (told : Option (List ℕ)) (a b : List ℕ) → led_by a (led_by b told) ≡ led_by (a ++ b) told
led_by-twice None a b = refl
led_by-twice (Some after) a b = ap Some (sym (append_assoc a b after))

-- a source that gave nothing is as it was
pub Consumes-nothing : (told : Option (List ℕ)) → Consumes told told []
Consumes-nothing None = refl
Consumes-nothing (Some after) = refl

-- one text, and then another
pub Consumes-then : (old mid new : Option (List ℕ)) (a b : List ℕ) → Consumes old mid a → Consumes mid new b → Consumes old new (a ++ b)
Consumes-then old mid new a b first second =
    first ∙ ap (λ told. led_by a told) second ∙ led_by-twice new a b

-- one text, which ends the source
pub GivesAll-end : (old new : Option (List ℕ)) (text : List ℕ) → Consumes old new text → IsAtEnd new → GivesAll old new text
GivesAll-end None None text given end = refl
GivesAll-end None (Some after) text given end = cc
GivesAll-end (Some left) None text given end = cc
GivesAll-end (Some left) (Some after) text given end =
    let e : left ≡ text ++ after = cc in
    (sym (e ∙ ap (λ (r : List ℕ). text ++ r) end ∙ append-nil text), ap Some end)

-- one text, and then so many bytes
pub Loses-behind : (old mid new : Option (List ℕ)) (text : List ℕ) (n m : ℕ) → Consumes old mid text → Loses mid new n → length text + n ≡ m → Loses old new m
Loses-behind old mid new text n m first (b, len, second) all =
    (text ++ b, omega (arith, length-append text b), Consumes-then old mid new text b first second)

-- one text, and then at most so many bytes
pub LosesUpTo-behind : (old mid new : Option (List ℕ)) (text : List ℕ) (n m : ℕ) → Consumes old mid text → LosesUpTo mid new n → length text + n ≤ m → LosesUpTo old new m
LosesUpTo-behind old mid new text n m first (b, few, second) all =
    (text ++ b, omega (arith, length-append text b), Consumes-then old mid new text b first second)

-- what lost so many bytes had as many
pub Loses-longer : (old new : Option (List ℕ)) (n : ℕ) → Loses old new (n + 1) → IfSome old (λ left. n < length left)
Loses-longer None new n lost = tt
Loses-longer (Some left) None n (text, len, given) = cc
Loses-longer (Some left) (Some after) n (text, len, given) =
    let e : left ≡ text ++ after = cc in
    omega (arith, ap length e, length-append text after)
