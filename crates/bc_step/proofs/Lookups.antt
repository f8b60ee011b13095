-- Objects that were given, by their numbers: looking one up, writing one, and one more.
use Rattle.std.proofs.Common.{◌≡◌, ℕ, zero, suc, ◌<◌, Bool, true, false, ◌==◌, ◌||◌, if◌then◌else◌, List, [], ◌∷◌, length, get_or, refl, sym, ap, ◌∙◌, Option, Some, None, arith}
use Rattle.std.specs.Prelude.{slice_set, OnOk, Result, Ok, Err}
use Rattle.std.specs.List.{list_any, position}
use Rattle.std.proofs.lemmas.Bool.{eq-eqb, eqb-true, or_parts}
use Rattle.std.proofs.lemmas.Bool.Decides.{nat_tests}
use Rattle.std.proofs.lemmas.List.Quantifiers.{position-Some}
use Rattle.bc_data.specs.declared.run.Body.{Body}
use Rattle.bc_step.specs.declared.held.Given.{Given}
use Rattle.bc_step.specs.Held.{latest, look_in, write_in}

-- the first of the numbers that is this one stands at this place
pub record IsFirst (id : ℕ) (ids : List ℕ) (i : ℕ) : Type 0 where
  pub within : i < length ids
  pub here : (id == get_or ids i 0) ≡ true
  pub before : (k : ℕ) → k < i → (id == get_or ids k 0) ≡ false

pub first_from : (id : ℕ) (ids : List ℕ) (i : ℕ) → position (λ k. id == k) ids ≡ Some i → IsFirst id ids i
first_from id ids i e =
    let p = position-Some (λ k. id == k) ids i 0 e in
    record { within = p.0; here = p.1; before = p.2 }

pub flip : (a b : ℕ) (r : Bool) → (a == b) ≡ r → (b == a) ≡ r
flip a b true e = eq-eqb b a (sym (eqb-true a b e))
flip a b false e = grind (arith, nat_tests)

pub any_flip : (id : ℕ) (ids : List ℕ) → list_any (λ k. id == k) ids ≡ list_any (λ k. k == id) ids
any_flip id [] = refl
any_flip id (k ∷ ks) = ap (λ (b : Bool). b || list_any (λ k. id == k) ks) (flip k id (k == id) refl) ∙ ap (λ (b : Bool). (k == id) || b) (any_flip id ks)

pub later : (id k : ℕ) (ks : List ℕ) (i : ℕ) → IsFirst id (k ∷ ks) (suc i) → IsFirst id ks i
later id k ks i f = record { within = omega (arith, f.within); here = f.here; before = λ j h. f.before (suc j) (omega arith) }

pub looked_up : (id : ℕ) (ids : List ℕ) (gs : List Given) (i : ℕ) (d : Given) → length ids ≡ length gs → IsFirst id ids i → look_in ids gs id ≡ Some (get_or gs i d)
looked_up id [] gs i d len f = absurd (omega (arith, f.within))
looked_up id (k ∷ ks) [] i d len f = absurd (omega (arith, len))
looked_up id (k ∷ ks) (g ∷ gs) zero d len f = ap (λ (b : Bool). if b then Some g else look_in ks gs id) (flip id k true f.here)
looked_up id (k ∷ ks) (g ∷ gs) (suc i) d len f =
    ap (λ (b : Bool). if b then Some g else look_in ks gs id) (flip id k false (f.before 0 (omega arith)))
    ∙ looked_up id ks gs i d (omega (arith, len)) (later id k ks i f)

pub not_found : (id : ℕ) (ids : List ℕ) (gs : List Given) → list_any (λ k. id == k) ids ≡ false → look_in ids gs id ≡ None
not_found id [] gs h = refl
not_found id (k ∷ ks) [] h = refl
not_found id (k ∷ ks) (g ∷ gs) h =
    let p = or_parts (id == k) (list_any (λ k. id == k) ks) h in
    ap (λ (b : Bool). if b then Some g else look_in ks gs id) (flip id k false p.0) ∙ not_found id ks gs p.1

pub written_there : (id : ℕ) (ids : List ℕ) (gs : List Given) (i : ℕ) (g : Given) (b : Body) → length ids ≡ length gs → IsFirst id ids i → look_in ids gs id ≡ Some g → slice_set gs i (record g { copy = Some b }) ≡ write_in ids gs id b
written_there id [] gs i g b len f e = absurd (omega (arith, f.within))
written_there id (k ∷ ks) [] i g b len f e = absurd (omega (arith, len))
written_there id (k ∷ ks) (h ∷ gs) zero g b len f e =
    let here = flip id k true f.here in
    let same : h ≡ g = some_is h g (ap (λ (r : Bool). if r then Some h else look_in ks gs id) (sym here) ∙ e) in
    ap (λ (x : Given). record x { copy = Some b } ∷ gs) (sym same)
    ∙ ap (λ (r : Bool). if r then record h { copy = Some b } ∷ gs else h ∷ write_in ks gs id b) (sym here)
  where
    some_is : (x y : Given) → ◌≡◌ {A = Option Given} (Some x) (Some y) → x ≡ y
    some_is x y h = cc
written_there id (k ∷ ks) (h ∷ gs) (suc i) g b len f e =
    let other = flip id k false (f.before 0 (omega arith)) in
    let rest : look_in ks gs id ≡ Some g = ap (λ (r : Bool). if r then Some h else look_in ks gs id) (sym other) ∙ e in
    ap (λ (l : List Given). h ∷ l) (written_there id ks gs i g b (omega (arith, len)) (later id k ks i f) rest)
    ∙ ap (λ (r : Bool). if r then record h { copy = Some b } ∷ gs else h ∷ write_in ks gs id b) (sym other)

-- the answers of a look-up by its place

pub found : (id : ℕ) (ids : List ℕ) (gs : List Given) (i : ℕ) (g : Given) → length ids ≡ length gs → position (λ k. id == k) ids ≡ Some i → g ≡ get_or gs i g → look_in ids gs id ≡ Some g
found id ids gs i g len p is = looked_up id ids gs i g len (first_from id ids i p) ∙ ap (λ (x : Given). Some x) (sym is)

pub same_given : (x y : Given) → ◌≡◌ {A = Option Given} (Some x) (Some y) → x ≡ y
same_given x y h = cc

pub written_here : (id : ℕ) (ids : List ℕ) (gs : List Given) (i : ℕ) (d g h : Given) (f : Body → Body) → length ids ≡ length gs → position (λ k. id == k) ids ≡ Some i → d ≡ get_or gs i d → look_in ids gs id ≡ Some g → h ≡ record d { copy = Some (f (latest d.copy d.body)) } → slice_set gs i h ≡ write_in ids gs id (f (latest g.copy g.body))
written_here id ids gs i d g h f len p is e new =
    let same : d ≡ g = same_given d g (sym (found id ids gs i d len p is) ∙ e) in
    ap (λ (x : Given). slice_set gs i x) (new ∙ ap (λ (x : Given). record x { copy = Some (f (latest x.copy x.body)) }) same)
    ∙ written_there id ids gs i g (f (latest g.copy g.body)) len (first_from id ids i p) e

pub none_there : (g : Given) → ◌≡◌ {A = Option Given} None (Some g) → ⊥
none_there g h = cc

-- what follows where there was memory
pub on_ok : {X E : Type 0} (r : Result X E) (P Q : Type 0) → OnOk r P → (P → Q) → OnOk r Q
on_ok (Ok x) P Q h f = f h
on_ok (Err e) P Q h f = tt
