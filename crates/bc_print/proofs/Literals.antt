-- A text between quotes means what was written there.
use Rattle.std.proofs.Common.{◌≡◌, ℕ, List, [], ◌∷◌, ◌++◌, refl, ap, sym, ◌∙◌, false, inl, inr}
use Rattle.std.proofs.lemmas.Bool.Decides.{eqb_tells}
use Rattle.bc_data.specs.Seen.{meaning}
use Rattle.bc_print.specs.Canonical.{literal_byte, literal_bytes}

byte_read : (b : ℕ) (rest : List ℕ) → meaning false (literal_byte b ++ rest) ≡ b ∷ meaning false rest
byte_read b rest =
    elim (eqb_tells b 10) [
      | inl (t, e) ↦ rw t (ap (λ x. x ∷ meaning false rest) (sym e))
      | inr (f, n) ↦ elim (eqb_tells b 9) [
        | inl (t, e) ↦ rw (f, t) (ap (λ x. x ∷ meaning false rest) (sym e))
        | inr (g, m) ↦ elim (eqb_tells b 34) [
          | inl (t, e) ↦ rw (f, g, t) (ap (λ x. x ∷ meaning false rest) (sym e))
          | inr (h, k) ↦ elim (eqb_tells b 92) [
            | inl (t, e) ↦ rw (f, g, h, t) (ap (λ x. x ∷ meaning false rest) (sym e))
            | inr (i, o) ↦ simp (f, g, h, i)
          ]
        ]
      ]
    ]

pub same_meaning : (bytes : List ℕ) → meaning false (literal_bytes bytes) ≡ bytes
same_meaning [] = refl
same_meaning (b ∷ bs) = byte_read b (literal_bytes bs) ∙ ap (λ t. b ∷ t) (same_meaning bs)
