-- What the contracts of the readers of statements cite.
use Rattle.std.specs.Prelude.{◌≡◌, ℕ, Bool, true, false, List, Result, if◌then◌else◌}
use Rattle.bc_data.specs.Seen.{Seen, seen}
use Rattle.bc_data.specs.SourceTree.{Statement, Statements, Nothing, Then}
use Rattle.bc_data.specs.declared.token.Token.{Token}
use Rattle.bc_data.specs.declared.token.TokenKind.{TokenKind}
use Rattle.bc_data.specs.declared.token.TokenKind.TheVariants as token_kind
use Rattle.bc_data.specs.declared.token.Word.TheVariants as word
use Rattle.bc_data.specs.declared.token.Sign.TheVariants as sign
use Rattle.bc_law_grammar.specs.Machine.{State, Stack, Stats, Body, InBlock, levels, run}
use Rattle.bc_parse_expr.specs.Contract.{Answers}
use Rattle.bc_parse_expr.specs.declared.cursor.Fault.{Fault}

-- behind the `}` of these statements comes next
abbrev pub ClosesTo : Stack → (Statements → State) → Type 0
ClosesTo (Body next) onward = next ≡ onward
ClosesTo (InBlock next st) onward = next ≡ onward
ClosesTo _ onward = ⊥

-- what begins an expression
abbrev pub IsOperandKind : TokenKind → Type 0
IsOperandKind (token_kind.Number n) = Unit {0}
IsOperandKind token_kind.Name = Unit {0}
IsOperandKind (token_kind.Keyword word.True) = Unit {0}
IsOperandKind (token_kind.Keyword word.False) = Unit {0}
IsOperandKind (token_kind.Keyword word.Null) = Unit {0}
IsOperandKind (token_kind.Keyword word.This) = Unit {0}
IsOperandKind (token_kind.Keyword word.New) = Unit {0}
IsOperandKind (token_kind.Mark sign.OpenParen) = Unit {0}
IsOperandKind (token_kind.Mark sign.Minus) = Unit {0}
IsOperandKind (token_kind.Mark sign.Bang) = Unit {0}
IsOperandKind _ = ⊥
