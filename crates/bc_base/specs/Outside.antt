-- What the calls of a sink and of a source do to the bytes that it tells, and to its count of faults.
use Rattle.std.specs.Prelude.{◌≡◌, ◌⊎◌, ℕ, ◌<◌, ◌≤◌, List, [], ◌++◌, length, take, ⊤, Option, None, Some}
use Rattle.std.specs.Option.{option_map}

-- a count rose, or stands at the last value of its type
abbrev pub Rose : ℕ → ℕ → Type 0
Rose old new = (old < new) ⊎ (18446744073709551615 ≤ new)

-- what was told, and then this text; what tells nothing goes on to tell nothing
abbrev pub followed_by : Option (List ℕ) → List ℕ → Option (List ℕ)
followed_by told text = option_map (λ before. before ++ text) told

-- this text, and then what is told
abbrev pub led_by : List ℕ → Option (List ℕ) → Option (List ℕ)
led_by text told = option_map (λ after. text ++ after) told

-- a sink took this text and nothing else
abbrev pub Appends : Option (List ℕ) → Option (List ℕ) → List ℕ → Type 0
Appends old new text = new ≡ followed_by old text

-- a sink took a part of this text from its front
abbrev pub AppendsPart : Option (List ℕ) → Option (List ℕ) → List ℕ → Type 0
AppendsPart old new text = (n : ℕ) × (n ≤ length text) × Appends old new (take n text)

-- a source gave this text and lost nothing else
abbrev pub Consumes : Option (List ℕ) → Option (List ℕ) → List ℕ → Type 0
Consumes old new text = old ≡ led_by text new

-- nothing is left
abbrev pub IsAtEnd : Option (List ℕ) → Type 0
IsAtEnd None = ⊤
IsAtEnd (Some left) = left ≡ []

-- a source gave this text, and it was all that was left; what tells nothing goes on to tell nothing
abbrev pub GivesAll : Option (List ℕ) → Option (List ℕ) → List ℕ → Type 0
GivesAll None new text = new ≡ None
GivesAll (Some left) new text = (text ≡ left) × (new ≡ Some [])

-- a source gave a text of so many bytes and lost nothing else
abbrev pub Loses : Option (List ℕ) → Option (List ℕ) → ℕ → Type 0
Loses old new n = (text : List ℕ) × (length text ≡ n) × Consumes old new text

-- a source gave a text of at most so many bytes and lost nothing else
abbrev pub LosesUpTo : Option (List ℕ) → Option (List ℕ) → ℕ → Type 0
LosesUpTo old new most = (text : List ℕ) × (length text ≤ most) × Consumes old new text
