-- Texts with the same instructions and places from one position to another, and lists with the same elements.
use Rattle.std.proofs.Common.{◌≡◌, ◌⊎◌, inl, inr, ℕ, suc, ◌+◌, ◌<◌, ◌≤◌, List, [], ◌∷◌, length, refl, sym, ap, ◌∙◌, subst, arith}
use Rattle.std.proofs.lemmas.Bool.{cases_lt}
use Rattle.std.specs.Prelude.{slice_get, Some}
use Rattle.bc_data.specs.declared.run.Place.{Place}
use Rattle.bc_code.specs.declared.code.Instruction.{Instruction}
use Rattle.bc_code.specs.Emitted.{Agree}
use Rattle.bc_code.specs.Translation.{At, Text}

-- from p to before q
pub record Same (T V : Text) (p q : ℕ) : Type 0 where
  pub all : Agree T V p q

-- the same instruction at j, with the same place
abbrev AgreeAt : Text → Text → ℕ → Type 0
AgreeAt T V j = (V.instruction j ≡ T.instruction j) × (V.place j ≡ T.place j)

module _ {T V : Text} where
  -- nothing lies between
  pub none : (p : ℕ) → Same T V p p
  none p = record { all = λ j from to. absurd (omega arith) }

  -- one instruction, which stands there in both
  pub one : (p : ℕ) {i : Instruction} {at : Place} → At T p i at → At V p i at → Same T V p (p + 1)
  one p {i} {at} h g = record { all = λ j from to. there j (omega arith) }
    where
      there : (j : ℕ) → p ≡ j → AgreeAt T V j
      there j e = subst (AgreeAt T V) e (g.0 ∙ sym h.0, g.1 ∙ sym h.1)

  -- one stretch, and then the next
  pub join : {p q r : ℕ} → Same T V p q → Same T V q r → Same T V p r
  join {p} {q} {r} s t = record { all = λ j from to. which j from to (cases_lt j q) }
    where
      which : (j : ℕ) → p ≤ j → j < r → (j < q) ⊎ (q ≤ j) → AgreeAt T V j
      which j from to (inl before) = s.all j from before
      which j from to (inr behind) = t.all j behind to

-- lists of one length with the same element at each place
pub same_lists :
    {A : Type 0} (xs ys : List A) → length xs ≡ length ys
    → ((j : ℕ) → j < length xs → slice_get xs j ≡ slice_get ys j) → xs ≡ ys
same_lists [] [] long same = refl
same_lists [] (y ∷ ys) long same = absurd (omega (arith, long))
same_lists (x ∷ xs) [] long same = absurd (omega (arith, long))
same_lists {A = A} (x ∷ xs) (y ∷ ys) long same =
    let first : Some x ≡ Some y = same 0 (omega arith) in
    let rest = same_lists xs ys (omega (arith, long)) (λ j h. same (suc j) (omega (arith, h))) in
    let e : x ≡ y = cc in
    ap (λ (z : A). z ∷ xs) e ∙ ap (λ (zs : List A). y ∷ zs) rest
