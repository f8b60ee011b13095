-- What `tokens` answers.
use Rattle.std.specs.Prelude.{ℕ, List, Result, Ok, Err}
use Rattle.bc_data.specs.declared.token.Token.{Token}
use Rattle.bc_data.specs.Lexical.{AreTokensOf, HasTokenFault, BadByte, OpenComment, OpenText, NumberRange}
use Rattle.bc_lex.specs.declared.lexer.LexFault.{LexFault}
use Rattle.bc_lex.specs.declared.lexer.LexFault.TheVariants as fault

-- the tokens or the fault of the text; only for want of memory neither
abbrev pub IsLexed : List ℕ → Result (List Token) LexFault → Type 0
IsLexed text (Ok tokens) = AreTokensOf text tokens
IsLexed text (Err (fault.BadByte at)) = HasTokenFault text BadByte at
IsLexed text (Err (fault.OpenComment at)) = HasTokenFault text OpenComment at
IsLexed text (Err (fault.OpenText at)) = HasTokenFault text OpenText at
IsLexed text (Err (fault.NumberRange at)) = HasTokenFault text NumberRange at
IsLexed text (Err fault.Memory) = Unit {0}
