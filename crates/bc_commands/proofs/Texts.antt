-- No text is a program and refused, and a call's causes exclude each other.
use Rattle.std.proofs.Common.{◌≡◌, ℕ, List, subst}
use Rattle.bc_data.specs.SourceTree.{Sequence, Item}
use Rattle.bc_data.specs.Lexical.{AreTokensOf, HasTokenFault, TokenFault}
use Rattle.bc_data.specs.Lexical as lexical
use Rattle.bc_data.specs.Refusal.{IsTreeOf, IsFirstRefused}
use Rattle.bc_data.specs.Seen.{Seen, seen}
use Rattle.bc_data.specs.Typed.{TypedProgram}
use Rattle.bc_data.specs.declared.run.Place.{Place}
use Rattle.bc_data.specs.declared.token.Token.{Token}
use Rattle.bc_lex.specs.Laws.{OneList, NotBoth}
use Rattle.bc_types_rules.specs.Got as rules
use Rattle.bc_types_rules.specs.Laws.{AcceptsIsProgram, ProgramOrFault}
use Rattle.bc_types_rules.specs.Walk.{Accepts}
use Rattle.bc_texts.specs.declared.refused.RefusedKind.{RefusedKind}
use Rattle.bc_texts.specs.declared.refused.RefusedKind.TheVariants as kinds
use Rattle.bc_read.specs.Reading.{IsText, IsProgramText, IsMistyped, IsRefused}

-- the laws of tokens, trees and types
pub record Laws : Type 0 where
  pub one_list : OneList
  pub not_both : NotBoth
  pub one_tree :
      (m n : ℕ) (one two : Sequence Item) (tokens : List Seen) → IsTreeOf m one tokens → IsTreeOf n two tokens
      → one ≡ two
  pub tree :
      (n : ℕ) (items : Sequence Item) (tokens front : List Seen) (next : Seen) → IsTreeOf n items tokens
      → IsFirstRefused n tokens front next → ⊥
  pub accepts : AcceptsIsProgram
  pub types : ProgramOrFault

-- the tree of a text is that of any tokens of the text
tree_over :
    Laws → (text : List ℕ) (items : Sequence Item) (tokens : List Token) → IsText text items
    → AreTokensOf text tokens → IsTreeOf 64 items (seen text tokens)
tree_over laws text items tokens (own, are, tree) others =
    subst (λ (ts : List Token). IsTreeOf 64 items (seen text ts)) (laws.one_list text own tokens are others) tree

text_or_fault :
    Laws → (text : List ℕ) (items : Sequence Item) (fault : TokenFault) (at : Place) → IsText text items
    → HasTokenFault text fault at → ⊥
text_or_fault laws text items fault at (tokens, are, tree) faulty = laws.not_both text tokens fault at are faulty

text_or_refused :
    Laws → (text : List ℕ) (items : Sequence Item) (tokens : List Token) (front : List Seen) (next : Seen)
    → IsText text items → AreTokensOf text tokens → IsFirstRefused 64 (seen text tokens) front next → ⊥
text_or_refused laws text items tokens front next is others refused =
    laws.tree 64 items (seen text tokens) front next (tree_over laws text items tokens is others) refused

one_text : Laws → (text : List ℕ) (one two : Sequence Item) → IsText text one → IsText text two → one ≡ two
one_text laws text one two is (tokens, are, tree) =
    laws.one_tree 64 64 one two (seen text tokens) (tree_over laws text one tokens is are) tree

program_or_mistyped :
    Laws → (text : List ℕ) (items : Sequence Item) (program : TypedProgram) (kind : rules.Kind) (at : Place)
    → IsText text items → Accepts items program → IsMistyped text kind at → ⊥
program_or_mistyped laws text items program kind at is accepted (other, is_2, faulty) =
    let same : items ≡ other = one_text laws text items other is is_2 in
    let accepts : Accepts other program = subst (λ (its : Sequence Item). Accepts its program) same accepted in
    laws.types.not_both other program kind at ((laws.accepts other program).0 accepts) faulty

-- no text is a program and refused
pub program_or_refused :
    Laws → (text : List ℕ) (items : Sequence Item) (program : TypedProgram) (kind : RefusedKind) (at : Place)
    → IsProgramText text items program → IsRefused text kind at → ⊥
program_or_refused laws text items program kinds.BadByte at (is, accepted) r =
    text_or_fault laws text items lexical.BadByte at is r
program_or_refused laws text items program kinds.OpenComment at (is, accepted) r =
    text_or_fault laws text items lexical.OpenComment at is r
program_or_refused laws text items program kinds.OpenText at (is, accepted) r =
    text_or_fault laws text items lexical.OpenText at is r
program_or_refused laws text items program kinds.NumberRange at (is, accepted) r =
    text_or_fault laws text items lexical.NumberRange at is r
program_or_refused laws text items program kinds.Unexpected at (is, accepted) (tokens, are, (front, next, stands, refused, never)) =
    text_or_refused laws text items tokens front next is are refused
program_or_refused laws text items program kinds.TooDeep at (is, accepted) (tokens, are, (front, next, stands, refused, deeper)) =
    text_or_refused laws text items tokens front next is are refused
program_or_refused laws text items program kinds.Twice at (is, accepted) r =
    program_or_mistyped laws text items program rules.Twice at is accepted r
program_or_refused laws text items program kinds.TooMany at (is, accepted) r =
    program_or_mistyped laws text items program rules.TooMany at is accepted r
program_or_refused laws text items program kinds.Unknown at (is, accepted) r =
    program_or_mistyped laws text items program rules.Unknown at is accepted r
program_or_refused laws text items program kinds.Mismatch at (is, accepted) r =
    program_or_mistyped laws text items program rules.Mismatch at is accepted r
program_or_refused laws text items program kinds.Arity at (is, accepted) r =
    program_or_mistyped laws text items program rules.Arity at is accepted r
program_or_refused laws text items program kinds.Fixed at (is, accepted) r =
    program_or_mistyped laws text items program rules.Fixed at is accepted r
program_or_refused laws text items program kinds.Misplaced at (is, accepted) r =
    program_or_mistyped laws text items program rules.Misplaced at is accepted r
program_or_refused laws text items program kinds.NoReturn at (is, accepted) r =
    program_or_mistyped laws text items program rules.NoReturn at is accepted r
