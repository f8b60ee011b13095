-- Chains of results.
use Rattle.std.proofs.Common.{◌≡◌, Result, Ok, Err, refl, ap}
use Rattle.bc_types_rules.specs.Got.{Got, Gives, Fails, ◌>>=◌}
use Rattle.bc_types_rules.specs.Context as rules
use Rattle.bc_data.specs.Typed.{TypedStatement}
use Rattle.bc_names.specs.Answers.{Answers, Stops}
use Rattle.bc_names.specs.declared.fault.TypeFault.{TypeFault}
use Rattle.bc_names.specs.declared.fault.TypeFault.TheVariants as fault
use Rattle.bc_types_stat.specs.Bodies.{stated}

pub assoc : {A B C : Type 0} (g : Got A) (f : A → Got B) (h : B → Got C) → ((g >>= f) >>= h) ≡ (g >>= λ x. (f x >>= h))
assoc (Gives x) f h = refl
assoc (Fails kind at) f h = refl

pub ext : {A B : Type 0} (g : Got A) (f h : A → Got B) → ((x : A) → f x ≡ h x) → (g >>= f) ≡ (g >>= h)
ext (Gives x) f h e = e x
ext (Fails kind at) f h e = refl

pub goes_on : {A B : Type 0} (g : Got A) (go : A → Got B) (x : A) → g ≡ Gives x → (g >>= go) ≡ go x
goes_on g go x e = ap (λ g. g >>= go) e

-- a fault of the first is a fault of the whole
pub stops_then : {A B : Type 0} (f : TypeFault) (g : Got A) (go : A → Got B) → Stops f g → Stops f (g >>= go)
stops_then fault.Memory g go h = tt
stops_then (fault.Refused kind at) g go h = ap (λ g. g >>= go) h

-- a statement's code, and the scope behind it
pub answers_stated : {X : Type 0} (r : Result X TypeFault) (see : X → TypedStatement) (t : rules.Scope) (g : Got TypedStatement) → Answers r see g → Answers r (λ x. stated (see x) t) (g >>= λ d. Gives (stated d t))
answers_stated (Ok x) see t g h = ap (λ g. g >>= λ d. Gives (stated d t)) h
answers_stated (Err f) see t g h = stops_then f g (λ d. Gives (stated d t)) h
