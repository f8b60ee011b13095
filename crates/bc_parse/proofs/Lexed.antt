-- The tokens of a text end with the token of its end.
use Rattle.std.proofs.Common.{◌≡◌, ℕ, List, [], ◌∷◌, ◌++◌, refl, sym, ap, ◌∙◌, subst}
use Rattle.bc_data.specs.declared.run.Place.{Place}
use Rattle.bc_data.specs.declared.token.TokenKind.{TokenKind}
use Rattle.bc_data.specs.declared.token.TokenKind.TheVariants as token_kind
use Rattle.bc_data.specs.declared.token.Token.{Token}
use Rattle.bc_data.specs.Lexical.{Lexing, Tokens, Refused, with_token, token_at, place_at, Lexes, finished, gap, token, broken, AreTokensOf}
use Rattle.bc_data.specs.Seen.{Seen, seen, seen_token}
use Rattle.bc_data.specs.Refusal.{IsEnded}

in_front : (text : List ℕ) (t : Token) (ts : List Token) → IsEnded (seen text ts) → IsEnded (seen text (t ∷ ts))
in_front text t ts (front, at, is) = (seen_token text t ∷ front, at, ap (λ rest. seen_token text t ∷ rest) is)

behind : (text : List ℕ) (t : Token) (s : Lexing) (ts : List Token) → ((us : List Token) → s ≡ Tokens us → IsEnded (seen text us)) → with_token t s ≡ Tokens ts → IsEnded (seen text ts)
behind text t (Tokens us) ts next is =
    let same : t ∷ us ≡ ts = cc in
    subst (λ xs. IsEnded (seen text xs)) same (in_front text t us (next us refl))
behind text t (Refused fault at) ts next is = absurd (cc)

ended_from : (text : List ℕ) {i : ℕ} {r : Lexing} → Lexes text i r → (ts : List Token) → r ≡ Tokens ts → IsEnded (seen text ts)
ended_from text (finished {i} whole made) ts is =
    let both : Tokens (token_at text token_kind.End i i ∷ []) ≡ Tokens ts = sym made ∙ is in
    let same : token_at text token_kind.End i i ∷ [] ≡ ts = cc in
    subst (λ xs. IsEnded (seen text xs)) same ([], place_at text i, refl)
ended_from text (gap piece rest) ts is = ended_from text rest ts is
ended_from text (token {i} kind end {rest = s} piece rest made) ts is =
    behind text (token_at text kind i end) s ts (ended_from text rest) (sym made ∙ is)
ended_from text (broken fault offset piece made) ts is = absurd (cc)

-- the tokens of every text are tokens that `parse` takes
pub ended : (text : List ℕ) (tokens : List Token) → AreTokensOf text tokens → IsEnded (seen text tokens)
ended text tokens h = ended_from text h tokens refl
