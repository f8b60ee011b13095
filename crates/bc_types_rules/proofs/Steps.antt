-- What a result has to be made of, step by step.
use Rattle.std.proofs.Common.{◌≡◌, Bool, true, false, Option, Some, None, is_some, not, refl, ap, sym, ◌∙◌}
use Rattle.bc_data.specs.SourceTree.{Sequence, Empty, More}
use Rattle.bc_data.specs.declared.run.Place.{Place}
use Rattle.bc_types_rules.specs.Got.{Got, Gives, Fails, Kind, ◌>>=◌, ask, find}
use Rattle.bc_types_rules.specs.Numbering.{try_fold}
use Rattle.bc_types_rules.specs.ExpressionRules.{Each}

pub step_back : {A B : Type 0} (g : Got A) (go : A → Got B) (y : B) → (g >>= go) ≡ Gives y → (x : A) × (g ≡ Gives x) × (go x ≡ Gives y)
step_back (Gives x) go y h = (x, refl, h)
step_back (Fails k at) go y h = cc

pub step_on : {A B : Type 0} (g : Got A) (go : A → Got B) (x : A) (r : Got B) → g ≡ Gives x → go x ≡ r → (g >>= go) ≡ r
step_on g go x r e f = ap (λ g. g >>= go) e ∙ f

pub gives_eq : {A : Type 0} (x y : A) → Gives x ≡ Gives y → x ≡ y
gives_eq x y h = cc

pub asked : (b : Bool) (k : Kind) (at : Place) (x : Unit {0}) → ask b k at ≡ Gives x → b ≡ true
asked true k at x h = refl
asked false k at x h = cc

pub ask_ok : (b : Bool) (k : Kind) (at : Place) → b ≡ true → ask b k at ≡ Gives tt
ask_ok b k at h = ap (λ b. ask b k at) h

pub was_found : {A : Type 0} (o : Option A) (k : Kind) (at : Place) (x : A) → find o k at ≡ Gives x → o ≡ Some x
was_found (Some y) k at x h = cc
was_found None k at x h = cc

pub find_ok : {A : Type 0} (o : Option A) (k : Kind) (at : Place) (x : A) → o ≡ Some x → find o k at ≡ Gives x
find_ok o k at x h = ap (λ o. find o k at) h

pub some_of : {A : Type 0} (o : Option A) → is_some o ≡ true → (x : A) × (o ≡ Some x)
some_of (Some x) h = (x, refl)
some_of None h = cc

pub none_of : {A : Type 0} (o : Option A) → not (is_some o) ≡ true → o ≡ None
none_of None h = refl
none_of (Some x) h = cc

-- a walk over a sequence, where each step is known
pub fold_back :
    {S A : Type 0} (step : S → A → Got S) (Step : S → A → S → Type 0)
    → ((s : S) (a : A) (t : S) → step s a ≡ Gives t → Step s a t)
    → (s : S) (xs : Sequence A) (t : S)
    → try_fold step s xs ≡ Gives t
    → Each Step s xs t
fold_back step Step one s Empty t h = sym (gives_eq _ _ h)
fold_back step Step one s (More front last) t h =
    let u = step_back (try_fold step s front) _ _ h in
    (u.0, fold_back step Step one s front u.0 u.1, one u.0 last t u.2)

pub fold_on :
    {S A : Type 0} (step : S → A → Got S) (Step : S → A → S → Type 0)
    → ((s : S) (a : A) (t : S) → Step s a t → step s a ≡ Gives t)
    → (s : S) (xs : Sequence A) (t : S)
    → Each Step s xs t
    → try_fold step s xs ≡ Gives t
fold_on step Step one s Empty t h = ap Gives (sym h)
fold_on step Step one s (More front last) t h =
    step_on (try_fold step s front) _ h.0 _ (fold_on step Step one s front h.0 h.1) (one h.0 last t h.2)
