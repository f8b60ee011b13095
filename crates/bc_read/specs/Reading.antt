-- The tree of a program's text, and the one fault of a text that has none.
use Rattle.std.specs.Prelude.{◌≡◌, ℕ, List}
use Rattle.bc_data.specs.SourceTree.{Sequence, Item}
use Rattle.bc_data.specs.Lexical.{AreTokensOf, HasTokenFault}
use Rattle.bc_data.specs.Lexical as lexical
use Rattle.bc_data.specs.Refusal.{IsTreeOf, IsUnexpected, IsTooDeep}
use Rattle.bc_data.specs.Seen.{Seen, seen}
use Rattle.bc_data.specs.declared.run.Place.{Place}
use Rattle.bc_data.specs.declared.token.Token.{Token}
use Rattle.bc_lex.specs.declared.lexer.LexFault.{LexFault}
use Rattle.bc_lex.specs.declared.lexer.LexFault.TheVariants as lex_fault
use Rattle.bc_parse.specs.declared.ParseFault.{ParseFault}
use Rattle.bc_parse.specs.declared.ParseFault.TheVariants as parse_fault
use Rattle.bc_types_rules.specs.Got as rules
use Rattle.bc_data.specs.Typed.{TypedProgram}
use Rattle.bc_types_rules.specs.Walk.{Accepts, HasTypeFault}
use Rattle.bc_names.specs.declared.fault.TypeKind.{TypeKind}
use Rattle.bc_names.specs.declared.fault.TypeKind.TheVariants as type_kind
use Rattle.bc_names.specs.declared.fault.TypeFault.{TypeFault}
use Rattle.bc_names.specs.declared.fault.TypeFault.TheVariants as type_fault
use Rattle.bc_read.specs.declared.reader.TextFault.{TextFault}
use Rattle.bc_read.specs.declared.reader.TextFault.TheVariants as fault
use Rattle.bc_texts.specs.declared.refused.RefusedKind.{RefusedKind}
use Rattle.bc_texts.specs.declared.refused.RefusedKind.TheVariants as kind

-- the text has tokens, and they spell this tree within 64 levels
abbrev pub IsText : List ℕ → Sequence Item → Type 0
IsText text items = (tokens : List Token) × AreTokensOf text tokens × IsTreeOf 64 items (seen text tokens)

-- the text's tree is accepted as this program
abbrev pub IsProgramText : List ℕ → Sequence Item → TypedProgram → Type 0
IsProgramText text items program = IsText text items × Accepts items program

-- the text has a tree, whose first fault of names and types this is
abbrev pub IsMistyped : List ℕ → rules.Kind → Place → Type 0
IsMistyped text kind at = (items : Sequence Item) × IsText text items × HasTypeFault items kind at

-- the text has tokens, and they are refused so at this place
abbrev pub HasTokens : List ℕ → (List Seen → Type 0) → Type 0
HasTokens text AreRefused = (tokens : List Token) × AreTokensOf text tokens × AreRefused (seen text tokens)

-- The fault of a text that is no program: that of its tokens, else the first token that is refused, else the first fault of
-- names and types, with its place.
abbrev pub IsRefused : List ℕ → RefusedKind → Place → Type 0
IsRefused text kind.BadByte at = HasTokenFault text lexical.BadByte at
IsRefused text kind.OpenComment at = HasTokenFault text lexical.OpenComment at
IsRefused text kind.OpenText at = HasTokenFault text lexical.OpenText at
IsRefused text kind.NumberRange at = HasTokenFault text lexical.NumberRange at
IsRefused text kind.Unexpected at = HasTokens text (λ tokens. IsUnexpected 64 tokens at)
IsRefused text kind.TooDeep at = HasTokens text (λ tokens. IsTooDeep 64 tokens at)
IsRefused text kind.Twice at = IsMistyped text rules.Twice at
IsRefused text kind.TooMany at = IsMistyped text rules.TooMany at
IsRefused text kind.Unknown at = IsMistyped text rules.Unknown at
IsRefused text kind.Mismatch at = IsMistyped text rules.Mismatch at
IsRefused text kind.Arity at = IsMistyped text rules.Arity at
IsRefused text kind.Fixed at = IsMistyped text rules.Fixed at
IsRefused text kind.Misplaced at = IsMistyped text rules.Misplaced at
IsRefused text kind.NoReturn at = IsMistyped text rules.NoReturn at

-- the same of what the reader answers; want of memory alone is free
abbrev pub IsFault : List ℕ → TextFault → Type 0
IsFault text (fault.Refused kind at) = IsRefused text kind at
IsFault text fault.Memory = Unit {0}

-- faults of tokens and of the grammar, by their names
abbrev pub IsLexicalFault : LexFault → TextFault → Type 0
IsLexicalFault (lex_fault.BadByte at) f = f ≡ fault.Refused kind.BadByte at
IsLexicalFault (lex_fault.OpenComment at) f = f ≡ fault.Refused kind.OpenComment at
IsLexicalFault (lex_fault.OpenText at) f = f ≡ fault.Refused kind.OpenText at
IsLexicalFault (lex_fault.NumberRange at) f = f ≡ fault.Refused kind.NumberRange at
IsLexicalFault lex_fault.Memory f = f ≡ fault.Memory

abbrev pub IsGrammarFault : ParseFault → TextFault → Type 0
IsGrammarFault (parse_fault.Unexpected at) f = f ≡ fault.Refused kind.Unexpected at
IsGrammarFault (parse_fault.TooDeep at) f = f ≡ fault.Refused kind.TooDeep at
IsGrammarFault parse_fault.Memory f = f ≡ fault.Memory

abbrev pub refused_as : TypeKind → RefusedKind
refused_as type_kind.Twice = kind.Twice
refused_as type_kind.TooMany = kind.TooMany
refused_as type_kind.Unknown = kind.Unknown
refused_as type_kind.Mismatch = kind.Mismatch
refused_as type_kind.Arity = kind.Arity
refused_as type_kind.Fixed = kind.Fixed
refused_as type_kind.Misplaced = kind.Misplaced
refused_as type_kind.NoReturn = kind.NoReturn

abbrev pub fault_of_types : TypeFault → TextFault
fault_of_types (type_fault.Refused k at) = fault.Refused (refused_as k) at
fault_of_types type_fault.Memory = fault.Memory
