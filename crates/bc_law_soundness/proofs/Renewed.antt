-- Bodies of which some have been replaced.
use Rattle.std.proofs.Common.{◌≡◌, ◌⊎◌, inl, inr, ℕ, zero, suc, ◌+◌, Bool, true, false, List, [], ◌∷◌, ◌++◌, length, set, Option, Some, None, All, slice_get, if◌then◌else◌, refl, ap, subst, ◌∙◌, arith}
use Rattle.std.specs.List.{AllByRecursion, cons_option, filter_map}
use Rattle.std.proofs.lemmas.List.{length-set}
use Rattle.std.proofs.lemmas.List.Elements.{All-nil, All-cons}
use Rattle.std.proofs.lemmas.List.Sums.{sum_by-cons}
use Rattle.std.proofs.lemmas.Option.{slice_get_within}
use Rattle.bc_data.specs.declared.run.Body.{Body}
use Rattle.bc_data.specs.declared.run.Kind.{Kind}
use Rattle.bc_data.specs.declared.run.Written.{Written}
use Rattle.bc_mean.specs.declared.plain.Plain.{Plain}
use Rattle.bc_mean.specs.Changes.{same_body, written_of, body_in, put_bodies}
use Rattle.bc_mean.specs.Store.{cells_in}
use Rattle.bc_mean.specs.Work.{Work, newest}
use Rattle.bc_law_soundness.specs.Fitting.{IsKindAt}
use Rattle.bc_law_soundness.proofs.Lists.{element_within, set_or_other}

-- an element behind those of another list
pub behind : {A : Type 0} (xs ys : List A) (n : ℕ) → slice_get (xs ++ ys) (length xs + n) ≡ slice_get ys n
behind [] ys n = ap (slice_get ys) (let same : 0 + n ≡ n = omega arith in same)
behind (x ∷ xs) ys n = ap (slice_get (x ∷ (xs ++ ys))) (let same : suc (length xs) + n ≡ suc (length xs + n) = omega arith in same) ∙ behind xs ys n

-- what holds of what stands at each place holds of each element
pub all_from : {A : Type 0} (P : A → Type 0) (xs : List A) → ((i : ℕ) (x : A) → slice_get xs i ≡ Some x → P x) → All P xs
all_from P [] h = All-nil P
all_from P (x ∷ xs) h = All-cons P x xs (h zero x refl) (all_from P xs (λ i y at. h (suc i) y at))

pub each_filter_map : {X Y : Type 0} (h : X → Option Y) (P : Y → Type 0) → ((x : X) (y : Y) → h x ≡ Some y → P y) → (xs : List X) → AllByRecursion P (filter_map h xs)
each_filter_map h P k [] = tt
each_filter_map {X} {Y} h P k (x ∷ xs) = either (h x) refl (each_filter_map h P k xs)
  where
    either : (o : Option Y) → h x ≡ o → AllByRecursion P (filter_map h xs) → AllByRecursion P (cons_option o (filter_map h xs))
    either (Some y) e rest = (k x y e, rest)
    either None e rest = rest

-- lists of one length, whose bodies at each place are related
pub record Renewed (Q : Body → Body → Type 0) (xs ys : List Body) : Type 0 where
  pub size : length ys ≡ length xs
  pub each : (i : ℕ) (x y : Body) → slice_get xs i ≡ Some x → slice_get ys i ≡ Some y → Q x y

pub renewed_same : (Q : Body → Body → Type 0) (xs : List Body) → ((i : ℕ) (x : Body) → slice_get xs i ≡ Some x → Q x x) → Renewed Q xs xs
renewed_same Q xs h = record { size = refl; each = λ i x y at there. subst (Q x) (let same : x ≡ y = cc in same) (h i x at) }

renewed_set : (Q : Body → Body → Type 0) (xs ys : List Body) (i : ℕ) (y : Body) → Renewed Q xs ys → ((x : Body) → slice_get xs i ≡ Some x → Q x y) → Renewed Q xs (set ys i y)
renewed_set Q xs ys i y r h = record { size = length-set ys i y ∙ r.size; each = λ j x z at there. one j x z at (set_or_other ys i j y z there) }
  where
    one : (j : ℕ) (x z : Body) → slice_get xs j ≡ Some x → ((i ≡ j) × (y ≡ z)) ⊎ ((i ≡ j → ⊥) × (slice_get ys j ≡ Some z)) → Q x z
    one j x z at (inl e) = subst (Q x) e.1 (h x (ap (slice_get xs) e.0 ∙ at))
    one j x z at (inr e) = r.each j x z at e.1

pub renewed_put :
    (S : Plain) (Q : Body → Body → Type 0) (xs : List Body) (cs : List Written) (ys : List Body)
    → AllByRecursion (λ (c : Written). (x : Body) → slice_get xs c.id ≡ Some x → Q x (body_in S c.body)) cs → Renewed Q xs ys → Renewed Q xs (put_bodies S cs ys)
renewed_put S Q xs [] ys h r = r
renewed_put S Q xs (c ∷ cs) ys h r = renewed_put S Q xs cs (set ys c.id (body_in S c.body)) h.1 (renewed_set Q xs ys c.id (body_in S c.body) r h.0)

-- the same kind and as many cells
abbrev pub IsLike : Body → Body → Type 0
IsLike x y = (y.kind ≡ x.kind) × (length y.cells ≡ length x.cells)

pub renewed_kind : (xs ys : List Body) (k : Kind) (n : ℕ) → Renewed IsLike xs ys → IsKindAt xs k n → IsKindAt ys k n
renewed_kind xs ys k n r h =
    let within = slice_get_within xs n h.0 h.1 in
    let size = r.size in
    let y = element_within ys n (omega arith) in
    (y.0, y.1, (r.each n h.0 y.0 h.1 y.1).0 ∙ h.2)

renewed_tail : (Q : Body → Body → Type 0) (x y : Body) (xs ys : List Body) → Renewed Q (x ∷ xs) (y ∷ ys) → Renewed Q xs ys
renewed_tail Q x y xs ys r = record { size = let size = r.size in omega arith; each = λ i u v at there. r.each (suc i) u v at there }

pub renewed_cells : (xs ys : List Body) → Renewed IsLike xs ys → cells_in ys ≡ cells_in xs
renewed_cells [] [] r = refl
renewed_cells [] (y ∷ ys) r = let size = r.size in absurd (omega arith)
renewed_cells (x ∷ xs) [] r = let size = r.size in absurd (omega arith)
renewed_cells (x ∷ xs) (y ∷ ys) r =
    let one = sum_by-cons (λ (b : Body). length b.cells) y ys in
    let two = sum_by-cons (λ (b : Body). length b.cells) x xs in
    let head : length y.cells ≡ length x.cells = (r.each zero x y refl refl).1 in
    let tail : cells_in ys ≡ cells_in xs = renewed_cells xs ys (renewed_tail IsLike x y xs ys r) in
    omega arith

-- what is written is the newest copy of a body of the store
pub written_is : (w : Work) (id : ℕ) (o : Option Body) (c : Written) → written_of w id o ≡ Some c → (b : Body) × (o ≡ Some b) × (record { id = id; body = newest w.changed id b } ≡ c)
written_is w id None c h = cc
written_is w id (Some b) c h = either (same_body b (newest w.changed id b)) h
  where
    either :
        (t : Bool) → (if t then None else Some (record { id = id; body = newest w.changed id b })) ≡ Some c
        → (d : Body) × (Some b ≡ Some d) × (record { id = id; body = newest w.changed id d } ≡ c)
    either true h = cc
    either false h = (b, refl, cc)
