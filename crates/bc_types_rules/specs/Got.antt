-- A result of checking, or the first fault with its place.
use Rattle.std.specs.Prelude.{Bool, true, false, Option, Some, None}
use Rattle.bc_data.specs.declared.run.Place.{Place}

pub data Kind : Type 0 where
  Twice : Kind
  TooMany : Kind
  Unknown : Kind
  Mismatch : Kind
  Arity : Kind
  Fixed : Kind
  Misplaced : Kind
  NoReturn : Kind

pub data Got (A : Type 0) : Type 0 where
  Gives : (x : A) → Got A
  Fails : (kind : Kind) (at : Place) → Got A

infixl 1 ◌>>=◌
infixl 1 ◌>>◌
-- first the one, then the other with its result
abbrev pub ◌>>=◌ : {A B : Type 0} → Got A → (A → Got B) → Got B
Gives x >>= go = go x
Fails kind at >>= go = Fails kind at

abbrev pub ◌>>◌ : {A B : Type 0} → Got A → Got B → Got B
g >> h = g >>= λ _. h

abbrev pub ask : Bool → Kind → Place → Got (Unit {0})
ask true kind at = Gives tt
ask false kind at = Fails kind at

abbrev pub find : {A : Type 0} → Option A → Kind → Place → Got A
find (Some x) kind at = Gives x
find None kind at = Fails kind at
