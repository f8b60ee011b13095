-- Lists of the numbers of bodies that are given.
use Rattle.std.proofs.Common.{◌≡◌, ℕ, Bool, true, false, cond, ◌==◌, ◌||◌, List, [], ◌∷◌, ◌++◌, refl, sym, ap, ◌∙◌, subst}
use Rattle.std.specs.Prelude.{not, Some, None, is_some, IsSome}
use Rattle.std.proofs.lemmas.Bool.{and_parts, eq-eqb, eqb-true, false≢true, not-true, or_from, or_parts}
use Rattle.bc_data.specs.declared.run.Written.{Written}
use Rattle.bc_mean.specs.Enabled.{are_different}
use Rattle.bc_mean.specs.Work.{Look}
use Rattle.bc_mean.proofs.Lists.{each_weaker}
use Rattle.bc_law_locality.specs.Growth.{has}
use Rattle.bc_law_locality.proofs.Lists.{has_here, one_of}
use Rattle.bc_law_locality.proofs.Tied.{Known}
use Rattle.bc_code.specs.Given.{given_look, ids_of}

pub known_front : (L : Look) (xs ys : List ℕ) → Known L (xs ++ ys) → Known L xs
known_front L [] ys k = tt
known_front L (x ∷ xs) ys k = (k.0, known_front L xs ys k.1)

-- an object in front does not come again
not_again : (xs : List ℕ) (id : ℕ) (ys : List ℕ) → are_different (xs ++ id ∷ ys) ≡ true → has xs id ≡ false
not_again [] id ys d = refl
not_again (x ∷ xs) id ys d =
    let p = and_parts (not (has (xs ++ id ∷ ys) x)) (are_different (xs ++ id ∷ ys)) d in
    or_from (x == id) (has xs id) (first (x == id) refl (not-true (has (xs ++ id ∷ ys) x) p.0)) (not_again xs id ys p.1)
  where
    first : (b : Bool) → (x == id) ≡ b → has (xs ++ id ∷ ys) x ≡ false → b ≡ false
    first true e h = absurd (false≢true (sym h ∙ subst (λ (n : ℕ). has (xs ++ id ∷ ys) n ≡ true) (sym (eqb-true x id e)) (has_here xs ys id)))
    first false e h = refl

-- a list that begins with xs and ends with an object that isn't in xs
pub cut_last : (xs front ys : List ℕ) (id : ℕ) → xs ++ ys ≡ front ++ id ∷ [] → has xs id ≡ false → (more : List ℕ) × (front ≡ xs ++ more)
cut_last [] front ys id e h = (front, refl)
cut_last (x ∷ xs) [] ys id e h =
    let same : x ≡ id = cc in
    absurd (false≢true (sym (or_parts (x == id) (has xs id) h).0 ∙ eq-eqb x id same))
cut_last (x ∷ xs) (f ∷ front) ys id e h =
    let first : x ≡ f = cc in
    let later : xs ++ ys ≡ front ++ id ∷ [] = cc in
    let r = cut_last xs front ys id later (or_parts (x == id) (has xs id) h).1 in
    (r.0, ap (λ (n : ℕ). n ∷ front) (sym first) ∙ ap (λ (l : List ℕ). x ∷ l) r.1)

-- each body that is given is known
pub given_known : (gs : List Written) → Known (given_look gs) (ids_of gs)
given_known [] = tt
given_known (g ∷ gs) = (
  ap (λ (b : Bool). is_some (cond b (Some g.body) (given_look gs g.id))) (eq-eqb g.id g.id refl),
  each_weaker (λ id. IsSome (given_look gs id)) (λ id. IsSome (given_look (g ∷ gs) id)) (λ id k. at id (g.id == id) k) (ids_of gs) (given_known gs),
)
  where
    at : (id : ℕ) (b : Bool) → IsSome (given_look gs id) → IsSome (cond b (Some g.body) (given_look gs id))
    at id true k = refl
    at id false k = k

-- and what is known is given
pub known_given : (gs : List Written) (id : ℕ) → IsSome (given_look gs id) → has (ids_of gs) id ≡ true
known_given [] id k = absurd (false≢true k)
known_given (g ∷ gs) id k = at (g.id == id) (known_given gs id) k
  where
    at : (b : Bool) → (IsSome (given_look gs id) → has (ids_of gs) id ≡ true) → IsSome (cond b (Some g.body) (given_look gs id)) → (b || has (ids_of gs) id) ≡ true
    at true later k = refl
    at false later k = later k

pub not_given : (gs : List Written) (id : ℕ) → given_look gs id ≡ None → has (ids_of gs) id ≡ false
not_given gs id e = at (has (ids_of gs) id) refl
  where
    at : (b : Bool) → has (ids_of gs) id ≡ b → b ≡ false
    at true h = absurd (false≢true (sym (ap is_some e) ∙ one_of (λ other. IsSome (given_look gs other)) (ids_of gs) id (given_known gs) h))
    at false h = refl

-- Behind those given nothing else is known, where each is there once.
pub none_behind : (gs : List Written) (rest tail : List ℕ) → Known (given_look gs) (ids_of gs ++ rest) → are_different (ids_of gs ++ (rest ++ tail)) ≡ true → rest ≡ []
none_behind gs [] tail k d = refl
none_behind gs (id ∷ rest) tail k d =
    let there = known_given gs id (one_of (λ other. IsSome (given_look gs other)) (ids_of gs ++ id ∷ rest) id k (has_here (ids_of gs) rest id)) in
    absurd (false≢true (sym (not_again (ids_of gs) id (rest ++ tail) d) ∙ there))
