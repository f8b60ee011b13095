-- What a reader says: the machine answers from where the reader began what it answers from where the reader stopped, or
-- the fault.
use Rattle.std.specs.Prelude.{◌≡◌, ℕ, ◌+◌, ◌≤◌, Bool, true, false, List, [], ◌∷◌, Result, Ok, Err}
use Rattle.bc_data.specs.Seen.{lexeme, seen}
use Rattle.bc_data.specs.SourceTree.{Expression, Field, Elem, Call, Length, height}
use Rattle.bc_data.specs.declared.token.Sign.{Sign}
use Rattle.bc_data.specs.declared.token.Token.{Token}
use Rattle.bc_data.specs.declared.token.TokenKind.{TokenKind}
use Rattle.bc_data.specs.declared.token.TokenKind.TheVariants as token_kind
use Rattle.bc_data.specs.declared.token.Sign.TheVariants as sign
use Rattle.bc_law_grammar.specs.Machine.{State, Done, Closer, Paren, Bracket, Semicolon, Stack, InChain, reach, run, Outcome, Refused, Cut, Unexpected, TooDeep}
use Rattle.bc_parse_expr.specs.declared.cursor.Fault.{Fault}
use Rattle.bc_parse_expr.specs.declared.cursor.Fault.TheVariants as fault
use Rattle.bc_parse_expr.specs.declared.cursor.Close.{Close}
use Rattle.bc_parse_expr.specs.declared.cursor.Close.TheVariants as close

abbrev pub Stops : Fault → Outcome → Type 0
Stops fault.Memory from = Unit {0}
Stops fault.Cut from = from ≡ Cut
Stops (fault.Unexpected at) from = from ≡ Refused Unexpected at
Stops (fault.TooDeep at) from = from ≡ Refused TooDeep at

abbrev pub Answers : {X : Type 0} → Result X Fault → (X → Outcome) → Outcome → Type 0
Answers (Ok x) onward from = from ≡ onward x
Answers (Err f) onward from = Stops f from

-- What is read leads from this state, at these tokens, to the next one, at the rest; or the fault is told.
abbrev pub Reads : {X : Type 0} → List ℕ → Result X Fault → State → List Token → (X → State) → (X → List Token) → Type 0
Reads text result here tokens next rest = Answers result (λ x. run 64 (next x) (seen text (rest x))) (run 64 here (seen text tokens))

-- the height that the code counted, below so many levels
abbrev pub IsMeasured : ℕ → ℕ → Expression → Type 0
IsMeasured base h e = (h ≡ height e) × (h + base ≤ 64)

abbrev pub first_kind : List Token → TokenKind
first_kind [] = token_kind.End
first_kind (t ∷ ts) = t.kind

-- how loose the expressions are that the first token ends
abbrev pub reach_of : List Token → ℕ
reach_of ts = reach (lexeme [] 0 0 (first_kind ts))

abbrev pub IsLinked : Expression → Type 0
IsLinked (Field at a x) = Unit {0}
IsLinked (Length at a) = Unit {0}
IsLinked (Elem at a i) = Unit {0}
IsLinked (Call at a x args) = Unit {0}
IsLinked _ = ⊥

-- whether the chain that begins a statement is read
abbrev pub ChainIs : Bool → Stack → Type 0
ChainIs true (InChain front st) = Unit {0}
ChainIs true _ = ⊥
ChainIs false (InChain front st) = ⊥
ChainIs false _ = Unit {0}

abbrev pub closer_of : Close → Closer
closer_of close.Paren = Paren
closer_of close.Bracket = Bracket
closer_of close.Semicolon = Semicolon

abbrev pub closing_of : Close → Sign
closing_of close.Paren = sign.CloseParen
closing_of close.Bracket = sign.CloseBracket
closing_of close.Semicolon = sign.Semicolon

-- an operator that stands before its operand
abbrev pub IsPrefix : TokenKind → Type 0
IsPrefix (token_kind.Mark sign.Minus) = Unit {0}
IsPrefix (token_kind.Mark sign.Bang) = Unit {0}
IsPrefix _ = ⊥

-- not the state behind the end
abbrev pub IsOpen : State → Type 0
IsOpen (Done items) = ⊥
IsOpen _ = Unit {0}
