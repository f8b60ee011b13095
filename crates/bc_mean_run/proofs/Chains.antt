-- Chains of what things come to, and answers of the code along them.
use Rattle.std.proofs.Common.{◌≡◌, Result, refl, ap, sym, ◌∙◌, subst}
use Rattle.bc_mean.specs.Work.{Work, Got, Gives, Stops, and_then}
use Rattle.bc_mean_run.specs.Tree.{Halts, Mirrors}
use Rattle.bc_mean_run.specs.declared.halt.Interrupt.{Interrupt}
use Rattle.bc_mean_run.specs.declared.halt.Interrupt.TheVariants as interrupt

pub assoc : {A B C : Type 0} (g : Got A) (f : A → Work → Got B) (h : B → Work → Got C) → and_then (and_then g f) h ≡ and_then g (λ x w. and_then (f x w) h)
assoc (Gives x w) f h = refl
assoc (Stops i w) f h = refl

pub ext : {A B : Type 0} (g : Got A) (f h : A → Work → Got B) → ((x : A) (w : Work) → f x w ≡ h x w) → and_then g f ≡ and_then g h
ext (Gives x w) f h e = e x w
ext (Stops i w) f h e = refl

-- the first that halts
pub halts : {A B : Type 0} (i : Interrupt) (w : Work) (g : Got A) (go : A → Work → Got B) (h : Got B) → h ≡ and_then g go → Halts i w g → Halts i w h
halts interrupt.Memory w g go h e stop = tt
halts (interrupt.Halted halt) w g go h e stop = e ∙ ap (λ g. and_then g go) stop

-- a halt of the same
pub halts_same : {A : Type 0} (i : Interrupt) (w : Work) (g h : Got A) → h ≡ g → Halts i w g → Halts i w h
halts_same i w g h e stop = subst (Halts i w) (sym e) stop

-- and what is behind it where it doesn't
pub mirrors : {X A B : Type 0} (r : Result X Interrupt) (see : X → B) (w : Work) (g : Got A) (go : A → Work → Got B) (h : Got B) (x : A) (v : Work) → h ≡ and_then g go → g ≡ Gives x v → Mirrors r see w (go x v) → Mirrors r see w h
mirrors r see w g go h x v e k rest = subst (Mirrors r see w) (sym (e ∙ ap (λ g. and_then g go) k)) rest

pub mirrors_same : {X B : Type 0} (r : Result X Interrupt) (see : X → B) (w : Work) (g h : Got B) → h ≡ g → Mirrors r see w g → Mirrors r see w h
mirrors_same r see w g h e rest = subst (Mirrors r see w) (sym e) rest
