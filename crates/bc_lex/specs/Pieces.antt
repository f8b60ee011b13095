-- The code's pieces, as the definition has them.
use Rattle.std.specs.Prelude.{ℕ, ◌<◌, ◌≤◌, List, length}
use Rattle.bc_data.specs.Lexical as lexical
use Rattle.bc_lex.specs.declared.scan.Piece.{Piece}
use Rattle.bc_lex.specs.declared.scan.Piece.TheVariants as piece
use Rattle.bc_lex.specs.declared.scan.Character.{Character}
use Rattle.bc_lex.specs.declared.scan.Character.TheVariants as character
use Rattle.bc_lex.specs.declared.piece.Start.{Start}
use Rattle.bc_lex.specs.declared.piece.Start.TheVariants as start

-- a piece that begins at an offset
abbrev pub piece_view : ℕ → Piece → lexical.Piece
piece_view i (piece.Gap end) = lexical.Gap end
piece_view i (piece.Lexeme kind end) = lexical.Lexeme kind end
piece_view i (piece.BadByte offset) = lexical.Broken lexical.BadByte offset
piece_view i piece.OpenComment = lexical.Broken lexical.OpenComment i
piece_view i piece.OpenText = lexical.Broken lexical.OpenText i
piece_view i piece.NumberRange = lexical.Broken lexical.NumberRange i

abbrev pub character_view : Character → lexical.Character
character_view (character.Whole len) = lexical.Whole len
character_view character.Quote = lexical.Quote
character_view character.Missing = lexical.Missing
character_view (character.Wrong offset) = lexical.Wrong offset

abbrev pub start_view : Start → lexical.Start
start_view start.Blank = lexical.Blank
start_view start.LineComment = lexical.LineComment
start_view start.BlockComment = lexical.BlockComment
start_view start.Digits = lexical.Digits
start_view start.Letters = lexical.Letters
start_view start.Opening = lexical.Opening
start_view start.Other = lexical.Other

-- A piece is not empty and ends within the text; a fault is within the text.
abbrev pub IsInside : List ℕ → ℕ → lexical.Piece → Type 0
IsInside text i (lexical.Gap end) = (i < end) × (end ≤ length text)
IsInside text i (lexical.Lexeme kind end) = (i < end) × (end ≤ length text)
IsInside text i (lexical.Broken fault offset) = (i ≤ offset) × (offset < length text)
