-- Which tokens have a tree, and where the others are refused.
use Rattle.std.specs.Prelude.{◌≡◌, ℕ, ◌≤◌, List, [], ◌∷◌, ◌++◌}
use Rattle.bc_data.specs.Seen.{Seen, End}
use Rattle.bc_data.specs.SourceTree.{Sequence, Item, item_depth, largest}
use Rattle.bc_data.specs.Grammar.{token, Repeated, SpellsItem}
use Rattle.bc_data.specs.declared.run.Place.{Place}

-- all of the tokens spell the tree, and it has at most n levels
abbrev pub IsTreeOf : ℕ → Sequence Item → List Seen → Type 0
IsTreeOf n items tokens = (at : Place) × (largest item_depth items ≤ n) × Repeated SpellsItem items tokens (token End at ∷ [])

-- some tokens complete these to a tree
abbrev pub Continues : ℕ → List Seen → Type 0
Continues n front = (more : List Seen) × (items : Sequence Item) × IsTreeOf n items (front ++ more)

-- behind front a tree continues within n levels, and behind the next token none
abbrev pub IsFirstRefused : ℕ → List Seen → List Seen → Seen → Type 0
IsFirstRefused n tokens front next = (behind : List Seen) × (tokens ≡ front ++ next ∷ behind) × Continues n front × (Continues n (front ++ next ∷ []) → ⊥)

-- the first refused token stands at this place, and without the limit it is refused too
abbrev pub IsUnexpected : ℕ → List Seen → Place → Type 0
IsUnexpected n tokens at = (front : List Seen) × (next : Seen) × (next.at ≡ at) × IsFirstRefused n tokens front next × ((m : ℕ) → Continues m (front ++ next ∷ []) → ⊥)

-- the same, but without the limit a tree continues behind it
abbrev pub IsTooDeep : ℕ → List Seen → Place → Type 0
IsTooDeep n tokens at = (front : List Seen) × (next : Seen) × (next.at ≡ at) × IsFirstRefused n tokens front next × ((m : ℕ) × Continues m (front ++ next ∷ []))

-- the list ends with the token of the end
abbrev pub IsEnded : List Seen → Type 0
IsEnded tokens = (front : List Seen) × (at : Place) × (tokens ≡ front ++ token End at ∷ [])
