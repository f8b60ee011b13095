-- What a run joins has the wanted truth.
use Rattle.std.proofs.Common.{◌≡◌, ℕ, ◌^◌, ◌<◌, Bool, true, false, not, ◌&&◌, ◌||◌, ◌∙◌, ap, IfOk, Result}
use Rattle.std.proofs.lemmas.Result.{IfOk-weaker}
use Rattle.bc_flags.specs.declared.guard.Form.{Form}
use Rattle.bc_flags.specs.declared.guard.Run.{Run}
use Rattle.bc_flags.specs.Met.{is_met, agree, joined}

-- a run that suits an `and`
abbrev pub Suits : Run → Bool → Type 0
Suits r wanted = (x y : Bool) → joined r (agree wanted x) (agree wanted y) ≡ agree wanted (x && y)

-- where the opposite is wanted it suits an `or`
pub or_suits : (r : Run) (wanted x y : Bool) → Suits r (not wanted) → joined r (agree wanted x) (agree wanted y) ≡ agree wanted (x || y)
or_suits r true true true h = h false false
or_suits r true true false h = h false true
or_suits r true false true h = h true false
or_suits r true false false h = h true true
or_suits r false true true h = h false false
or_suits r false true false h = h false true
or_suits r false false true h = h true false
or_suits r false false false h = h true true

pub joins : {E : Type 0} (r : Run) (f g : Form) (wanted : Bool) (x y z : ℕ → Bool) (result : Result Form E)
    → ((mask : ℕ) → mask < 2 ^ 32 → is_met f mask ≡ agree wanted (x mask))
    → ((mask : ℕ) → mask < 2 ^ 32 → is_met g mask ≡ agree wanted (y mask))
    → ((mask : ℕ) → joined r (agree wanted (x mask)) (agree wanted (y mask)) ≡ agree wanted (z mask))
    → IfOk result (λ h. (mask : ℕ) → is_met h mask ≡ joined r (is_met f mask) (is_met g mask))
    → IfOk result (λ h. (mask : ℕ) → mask < 2 ^ 32 → is_met h mask ≡ agree wanted (z mask))
joins r f g wanted x y z result p q s t =
    IfOk-weaker result _ _ (λ h k mask small. k mask ∙ ap (λ b. joined r b (is_met g mask)) (p mask small) ∙ ap (λ b. joined r (agree wanted (x mask)) b) (q mask small) ∙ s mask) t
