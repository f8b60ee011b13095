-- A function's answer is the definition's: its value, or its fault with its place. Want of memory alone is free.
use Rattle.std.specs.Prelude.{◌≡◌, Result, Ok, Err}
use Rattle.bc_types_rules.specs.Got as rules
use Rattle.bc_types_rules.specs.Got.{Got, Gives, Fails}
use Rattle.bc_names.specs.declared.fault.TypeKind.{TypeKind}
use Rattle.bc_names.specs.declared.fault.TypeKind.TheVariants as kind
use Rattle.bc_names.specs.declared.fault.TypeFault.{TypeFault}
use Rattle.bc_names.specs.declared.fault.TypeFault.TheVariants as fault

abbrev pub kind_of : TypeKind → rules.Kind
kind_of kind.Twice = rules.Twice
kind_of kind.TooMany = rules.TooMany
kind_of kind.Unknown = rules.Unknown
kind_of kind.Mismatch = rules.Mismatch
kind_of kind.Arity = rules.Arity
kind_of kind.Fixed = rules.Fixed
kind_of kind.Misplaced = rules.Misplaced
kind_of kind.NoReturn = rules.NoReturn

abbrev pub Stops : {A : Type 0} → TypeFault → Got A → Type 0
Stops (fault.Refused kind at) g = g ≡ Fails (kind_of kind) at
Stops fault.Memory g = Unit {0}

abbrev pub Answers : {X A : Type 0} → Result X TypeFault → (X → A) → Got A → Type 0
Answers (Ok x) see g = g ≡ Gives (see x)
Answers (Err f) see g = Stops f g
