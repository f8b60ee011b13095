-- Trees from tokens of the same kinds at other places: what every construct shares, and lists.
use Rattle.std.proofs.Common.{◌≡◌, List, [], ◌∷◌, ◌++◌, refl, ap, ap₂, sym, subst, ◌∙◌, append_assoc}
use Rattle.bc_data.specs.Seen.{Lexeme, Seen}
use Rattle.bc_data.specs.SourceTree.{Sequence, Empty, More}
use Rattle.bc_data.specs.Grammar.{token, Fronts, Separated, Listed, Repeated}
use Rattle.bc_data.specs.declared.run.Place.{Place}
use Rattle.bc_print.specs.Laws.{mapped}
use Rattle.bc_law_readback.specs.Parts.{Part, Token, Space, LineFeed, tokens_of, kinds, each_parts, ended_parts, joined_parts}

-- The new tokens spell a tree that is the old one apart from places, and behind it come tokens of these kinds.
abbrev pub Regrown : {A : Type 0} → (A → List Seen → List Seen → Type 0) → (A → A) → A → List Seen → List Lexeme → Type 0
Regrown {A} Spells apart x new ys = (again : A) × (rest : List Seen) × Spells again new rest × (kinds rest ≡ ys) × (apart x ≡ apart again)

abbrev pub Regrows : {A : Type 0} → (A → List Seen → List Seen → Type 0) → (A → A) → (A → List Part) → A → Type 0
Regrows Spells apart parts x = (old rest new : List Seen) (ys : List Lexeme) → Spells x old rest → kinds new ≡ tokens_of (parts x) ++ ys → Regrown Spells apart x new ys

-- a function of three arguments, at equal ones
pub same_of_three : {A B C D : Type 0} → (f : A → B → C → D) (a1 a2 : A) (b1 b2 : B) (c1 c2 : C) → a1 ≡ a2 → b1 ≡ b2 → c1 ≡ c2 → f a1 b1 c1 ≡ f a2 b2 c2
same_of_three f a1 a2 b1 b2 c1 c2 a b c = ap₂ (λ x y. f x y c1) a b ∙ ap (f a2 b2) c

-- what does not depend on places is the same of two trees that differ in places alone
pub kept {ℓ} : {A : Type 0} {B : Type ℓ} → (f : A → B) (apart : A → A) → ((x : A) → f (apart x) ≡ f x) → (one two : A) → apart one ≡ apart two → f one ≡ f two
kept f apart same one two u = sym (same one) ∙ ap f u ∙ same two

-- the next token
pub next : (P : List Seen → Type 0) (kind : Lexeme) (ts : List Seen) (ys : List Lexeme) → P ts → kinds ts ≡ kind ∷ ys → (at : Place) × (rest : List Seen) × P (token kind at ∷ rest) × (kinds rest ≡ ys)
next P kind [] ys p h = absurd (cc)
next P kind (t ∷ ts) ys p h =
    let first : t.kind ≡ kind = cc in
    let behind : kinds ts ≡ ys = cc in
    (t.at, ts, subst (λ k. P (token k t.at ∷ ts)) first p, behind)

-- the next two, and the next three
pub next_two : (P : List Seen → Type 0) (k l : Lexeme) (ts : List Seen) (ys : List Lexeme) → P ts → kinds ts ≡ k ∷ l ∷ ys → (a b : Place) × (rest : List Seen) × P (token k a ∷ token l b ∷ rest) × (kinds rest ≡ ys)
next_two P k l ts ys p h =
    let (a, ts1, p1, h1) = next P k ts (l ∷ ys) p h in
    let (b, ts2, p2, h2) = next (λ r. P (token k a ∷ r)) l ts1 ys p1 h1 in
    (a, b, ts2, p2, h2)

pub next_three : (P : List Seen → Type 0) (k l m : Lexeme) (ts : List Seen) (ys : List Lexeme) → P ts → kinds ts ≡ k ∷ l ∷ m ∷ ys → (a b c : Place) × (rest : List Seen) × P (token k a ∷ token l b ∷ token m c ∷ rest) × (kinds rest ≡ ys)
next_three P k l m ts ys p h =
    let (a, ts1, p1, h1) = next P k ts (l ∷ m ∷ ys) p h in
    let (b, c, ts2, p2, h2) = next_two (λ r. P (token k a ∷ r)) l m ts1 ys p1 h1 in
    (a, b, c, ts2, p2, h2)

-- the tokens of parts that stand one behind another
pub tokens_append : (a b : List Part) → tokens_of (a ++ b) ≡ tokens_of a ++ tokens_of b
tokens_append [] b = refl
tokens_append (Token kind ∷ ps) b = ap (λ ks. kind ∷ ks) (tokens_append ps b)
tokens_append (Space ∷ ps) b = tokens_append ps b
tokens_append (LineFeed ∷ ps) b = tokens_append ps b

pub of_two : (a b : List Part) (ys : List Lexeme) → tokens_of (a ++ b) ++ ys ≡ tokens_of a ++ (tokens_of b ++ ys)
of_two a b ys = ap (λ ks. ks ++ ys) (tokens_append a b) ∙ append_assoc (tokens_of a) (tokens_of b) ys

pub of_three : (a b c : List Part) (ys : List Lexeme) → tokens_of (a ++ b ++ c) ++ ys ≡ tokens_of a ++ (tokens_of b ++ (tokens_of c ++ ys))
of_three a b c ys = of_two (a ++ b) c ys ∙ of_two a b (tokens_of c ++ ys)

pub of_four : (a b c d : List Part) (ys : List Lexeme) → tokens_of (a ++ b ++ c ++ d) ++ ys ≡ tokens_of a ++ (tokens_of b ++ (tokens_of c ++ (tokens_of d ++ ys)))
of_four a b c d ys = of_two (a ++ b ++ c) d ys ∙ of_three a b c (tokens_of d ++ ys)

pub of_five : (a b c d e : List Part) (ys : List Lexeme) → tokens_of (a ++ b ++ c ++ d ++ e) ++ ys ≡ tokens_of a ++ (tokens_of b ++ (tokens_of c ++ (tokens_of d ++ (tokens_of e ++ ys))))
of_five a b c d e ys = of_two (a ++ b ++ c ++ d) e ys ∙ of_four a b c d (tokens_of e ++ ys)

-- lists of what grows again
module _ {A : Type 0} (Spells : A → List Seen → List Seen → Type 0) (apart : A → A) (parts : A → List Part) (regrow : (x : A) → Regrows Spells apart parts x) where
  module _ (separator : List Part) (kind : Lexeme) (one : tokens_of separator ≡ kind ∷ []) where
    regrow_fronts : (xs : Sequence A) → Regrows (Fronts Spells kind) (mapped apart) (ended_parts parts separator) xs
    regrow_fronts Empty old rest new ys s h = (Empty, new, refl, h, refl)
    regrow_fronts (More front last) old rest new ys (mid, at, s, t) h =
        let (front_again, mid_again, s1, k1, u1) = regrow_fronts front old mid new (tokens_of (parts last) ++ (tokens_of separator ++ ys)) s (h ∙ of_three (ended_parts parts separator front) (parts last) separator ys) in
        let (last_again, behind, s2, k2, u2) = regrow last mid (token kind at ∷ rest) mid_again (tokens_of separator ++ ys) t k1 in
        let (place, rest_again, s3, k3) = next (Spells last_again mid_again) kind behind ys s2 (k2 ∙ ap (λ ks. ks ++ ys) one) in
        (More front_again last_again, rest_again, (mid_again, place, s1, s3), k3, ap₂ More u1 u2)

    -- a list that is not empty, in the pieces that a definition by cases wants to see
    pub regrow_more : (front : Sequence A) (last : A) (old rest new : List Seen) (ys : List Lexeme) → Separated Spells kind (More front last) old rest → kinds new ≡ tokens_of (joined_parts parts separator (More front last)) ++ ys →
        (front_again : Sequence A) × (last_again : A) × (rest_again : List Seen) × Separated Spells kind (More front_again last_again) new rest_again × (kinds rest_again ≡ ys) × (mapped apart (More front last) ≡ mapped apart (More front_again last_again))
    regrow_more front last old rest new ys s h =
        let (mid, t, v) = s in
        let (front_again, mid_again, s1, k1, u1) = regrow_fronts front old mid new (tokens_of (parts last) ++ ys) t (h ∙ of_two (ended_parts parts separator front) (parts last) ys) in
        let (last_again, rest_again, s2, k2, u2) = regrow last mid rest mid_again ys v k1 in
        (front_again, last_again, rest_again, (mid_again, s1, s2), k2, ap₂ More u1 u2)

    pub regrow_separated : (xs : Sequence A) → Regrows (Separated Spells kind) (mapped apart) (joined_parts parts separator) xs
    regrow_separated Empty old rest new ys s h = absurd s
    regrow_separated (More front last) old rest new ys s h =
        let (front_again, last_again, rest_again, s1, k1, u1) = regrow_more front last old rest new ys s h in
        (More front_again last_again, rest_again, s1, k1, u1)

    pub regrow_listed : (xs : Sequence A) → Regrows (Listed Spells kind) (mapped apart) (joined_parts parts separator) xs
    regrow_listed Empty old rest new ys s h = (Empty, new, refl, h, refl)
    regrow_listed (More front last) old rest new ys s h =
        let (front_again, last_again, rest_again, s1, k1, u1) = regrow_more front last old rest new ys s h in
        (More front_again last_again, rest_again, s1, k1, u1)

  pub regrow_repeated : (xs : Sequence A) → Regrows (Repeated Spells) (mapped apart) (each_parts parts) xs
  regrow_repeated Empty old rest new ys s h = (Empty, new, refl, h, refl)
  regrow_repeated (More front last) old rest new ys (mid, s, t) h =
      let (front_again, mid_again, s1, k1, u1) = regrow_repeated front old mid new (tokens_of (parts last) ++ ys) s (h ∙ of_two (each_parts parts front) (parts last) ys) in
      let (last_again, rest_again, s2, k2, u2) = regrow last mid rest mid_again ys t k1 in
      (More front_again last_again, rest_again, (mid_again, s1, s2), k2, ap₂ More u1 u2)
