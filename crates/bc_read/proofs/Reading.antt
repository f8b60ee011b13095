-- A text that the grammar refuses, and one that has a tree.
use Rattle.std.proofs.Common.{ℕ, suc, ◌<◌, List, [], ◌∷◌, length, All, arith}
use Rattle.std.specs.Prelude.{slice_index_or, slice_range}
use Rattle.std.proofs.lemmas.List.Elements.{All-cons, All-nil}
use Rattle.bc_data.specs.Lexical.{AreTokensOf}
use Rattle.bc_data.specs.Seen.{lexeme, seen, seen_token}
use Rattle.bc_data.specs.SourceTree.{Item, Sequence}
use Rattle.bc_data.specs.declared.run.Place.{Place}
use Rattle.bc_data.specs.declared.token.Token.{Token}
use Rattle.bc_data.specs.declared.token.TokenKind.{TokenKind}
use Rattle.bc_data.specs.declared.token.TokenKind.TheVariants as token_kind
use Rattle.bc_law_accepted.specs.Laws.{IsGrammatical, IsNamed}
use Rattle.bc_lex.specs.Laws.{IsSpelled, IsWithin}
use Rattle.bc_lex.proofs.Order.{tokens_within}
use Rattle.bc_parse.specs.Fault.{IsFault as IsRefusedToken}
use Rattle.bc_parse.specs.declared.ParseFault.{ParseFault}
use Rattle.bc_parse.specs.declared.ParseFault.TheVariants as parse_fault
use Rattle.bc_read.specs.Reading.{IsFault, IsGrammarFault, IsText}
use Rattle.bc_read.specs.declared.reader.TextFault.{TextFault}

pub refused_by_grammar : (text : List ℕ) (tokens : List Token) (f : ParseFault) (r : TextFault) → AreTokensOf text tokens → IsRefusedToken f (seen text tokens) → IsGrammarFault f r → IsFault text r
refused_by_grammar text tokens (parse_fault.Unexpected at) r lexed h is = rw is (tokens, lexed, h)
refused_by_grammar text tokens (parse_fault.TooDeep at) r lexed h is = rw is (tokens, lexed, h)
refused_by_grammar text tokens parse_fault.Memory r lexed h is = rw is tt

-- a token of a text has a name, if any, that the text spells
named_token : (kind : TokenKind) (text : List ℕ) (start stop : ℕ) (at : Place) → IsSpelled kind (slice_range text start stop) → IsNamed (record { kind = lexeme text start stop kind; at = at })
named_token (token_kind.Keyword w) text start stop at h = tt
named_token token_kind.Name text start stop at h = h
named_token (token_kind.Number n) text start stop at h = tt
named_token token_kind.Text text start stop at h = tt
named_token (token_kind.Mark s) text start stop at h = tt
named_token token_kind.End text start stop at h = tt

named_tokens : (text : List ℕ) (ts : List Token) → ((k : ℕ) (d : Token) → k < length ts → IsWithin text (slice_index_or ts k d)) → All IsNamed (seen text ts)
named_tokens text [] h = All-nil IsNamed
named_tokens text (t ∷ ts) h =
    All-cons IsNamed (seen_token text t) (seen text ts) (named_token t.kind text t.start t.end t.at (h 0 t (omega arith)).spelled)
    (named_tokens text ts (λ k d within. h (suc k) d (omega arith)))

pub text_is_grammatical : (text : List ℕ) (items : Sequence Item) → IsText text items → IsGrammatical items
text_is_grammatical text items h = record {
  levels = 64;
  tokens = seen text h.0;
  named = named_tokens text h.0 (tokens_within text h.0 h.1);
  tree = h.2;
}
