-- Values of shapes, and lists of them.
use Rattle.std.proofs.Common.{◌≡◌, inl, inr, ℕ, zero, suc, ◌≤◌, ◌&&◌, true, List, [], ◌∷◌, ◌++◌, length, map, set, Option, Some, None, slice_get, pos, refl, ap, sym, subst, arith}
use Rattle.std.specs.Int.{w32}
use Rattle.std.specs.Prelude.{FitsSigned}
use Rattle.std.proofs.lemmas.Bool.{and_parts, eqb-true, or_cases}
use Rattle.std.proofs.lemmas.Int.{ints}
use Rattle.bc_data.specs.declared.program.Field.{Field}
use Rattle.bc_data.specs.declared.program.Shape.{Shape}
use Rattle.bc_data.specs.declared.program.Shape.TheVariants as shape
use Rattle.bc_data.specs.declared.run.Kind.{Kind}
use Rattle.bc_data.specs.declared.run.Kind.TheVariants as kind
use Rattle.bc_data.specs.declared.run.Value.{Value}
use Rattle.bc_data.specs.declared.run.Value.TheVariants as value
use Rattle.bc_data.specs.Shapes.{same_shape, is_null, is_reference, fits_shape, element_shape, shape_of_kind}
use Rattle.bc_data.specs.TypedBodies.{FitAll}
use Rattle.bc_mean.specs.declared.plain.Plain.{Plain}
use Rattle.bc_mean.specs.Values.{zero_of}
use Rattle.bc_mean.specs.Work.{Work}
use Rattle.bc_law_soundness.specs.Fitting.{Refers, Shaped, Fill}

pub same_shape_eq : (a b : Shape) → same_shape a b ≡ true → a ≡ b
same_shape_eq shape.Int shape.Int h = refl
same_shape_eq shape.Bool shape.Bool h = refl
same_shape_eq shape.Null shape.Null h = refl
same_shape_eq (shape.Class c) (shape.Class d) h = ap shape.Class (eqb-true c d h)
same_shape_eq shape.Ints shape.Ints h = refl
same_shape_eq shape.Bools shape.Bools h = refl
same_shape_eq (shape.Objects c) (shape.Objects d) h = ap shape.Objects (eqb-true c d h)
same_shape_eq a b h = cc

pub small_int : (n : ℕ) → n ≤ 65536 → FitsSigned w32 (pos n)
small_int n h = omega (arith, ints)

module _ (S : Plain) (w : Work) where
  null_shaped : (sh : Shape) → is_reference sh ≡ true → Shaped S w sh value.Null
  null_shaped shape.Int h = cc
  null_shaped shape.Bool h = cc
  null_shaped shape.Null h = refl
  null_shaped (shape.Class c) h = tt
  null_shaped shape.Ints h = tt
  null_shaped shape.Bools h = tt
  null_shaped (shape.Objects c) h = tt

  -- a value of a shape that fits another
  pub shaped_fits : (u sh : Shape) (x : Value) → Shaped S w u x → fits_shape u sh ≡ true → Shaped S w sh x
  shaped_fits u sh x h fits = elim (or_cases (same_shape u sh) (is_null u && is_reference sh) fits) [
    | inl same ↦ subst (λ sh. Shaped S w sh x) (same_shape_eq u sh same) h
    | inr null ↦
        let parts = and_parts (is_null u) (is_reference sh) null in
        let nothing : x ≡ value.Null = subst (λ u. Shaped S w u x) (same_shape_eq u shape.Null parts.0) h in
        subst (Shaped S w sh) (sym nothing) (null_shaped sh parts.1)
  ]

  pub zero_shaped : (sh : Shape) → Shaped S w sh (zero_of sh)
  zero_shaped shape.Int = small_int 0 (omega arith)
  zero_shaped shape.Bool = tt
  zero_shaped shape.Null = refl
  zero_shaped (shape.Class c) = tt
  zero_shaped shape.Ints = tt
  zero_shaped shape.Bools = tt
  zero_shaped (shape.Objects c) = tt

  pub fill_zero : (fields : List Field) → Fill S w (map (λ (x : Field). x.shape) fields) (map (λ (x : Field). zero_of x.shape) fields)
  fill_zero [] = tt
  fill_zero (x ∷ fields) = (zero_shaped x.shape, fill_zero fields)

  pub fill_at : (shs : List Shape) (xs : List Value) (i : ℕ) (sh : Shape) → Fill S w shs xs → slice_get shs i ≡ Some sh → (x : Value) × (slice_get xs i ≡ Some x) × Shaped S w sh x
  fill_at [] [] i sh h at = cc
  fill_at [] (x ∷ xs) i sh h at = absurd h
  fill_at (u ∷ shs) [] i sh h at = absurd h
  fill_at (u ∷ shs) (x ∷ xs) zero sh h at = (x, refl, subst (λ u. Shaped S w u x) (let same : u ≡ sh = cc in same) h.0)
  fill_at (u ∷ shs) (x ∷ xs) (suc i) sh h at = fill_at shs xs i sh h.1 at

  pub fill_set : (shs : List Shape) (xs : List Value) (i : ℕ) (sh : Shape) (y : Value) → Fill S w shs xs → slice_get shs i ≡ Some sh → Shaped S w sh y → Fill S w shs (set xs i y)
  fill_set [] [] i sh y h at q = tt
  fill_set [] (x ∷ xs) i sh y h at q = absurd h
  fill_set (u ∷ shs) [] i sh y h at q = absurd h
  fill_set (u ∷ shs) (x ∷ xs) zero sh y h at q = (subst (λ u. Shaped S w u y) (let same : sh ≡ u = cc in same) q, h.1)
  fill_set (u ∷ shs) (x ∷ xs) (suc i) sh y h at q = (h.0, fill_set shs xs i sh y h.1 at q)

  pub fill_length : (shs : List Shape) (xs : List Value) → Fill S w shs xs → length xs ≡ length shs
  fill_length [] [] h = refl
  fill_length [] (x ∷ xs) h = absurd h
  fill_length (u ∷ shs) [] h = absurd h
  fill_length (u ∷ shs) (x ∷ xs) h = ap (λ n. suc n) (fill_length shs xs h.1)

  pub fill_push : (shs : List Shape) (xs : List Value) (sh : Shape) (x : Value) → Fill S w shs xs → Shaped S w sh x → Fill S w (shs ++ sh ∷ []) (xs ++ x ∷ [])
  fill_push [] [] sh x h q = (q, tt)
  fill_push [] (y ∷ xs) sh x h q = absurd h
  fill_push (u ∷ shs) [] sh x h q = absurd h
  fill_push (u ∷ shs) (y ∷ xs) sh x h q = (h.0, fill_push shs xs sh x h.1 q)

  -- values of shapes that fit others one by one
  pub fill_fits : (us : List Shape) (shs : List Shape) (xs : List Value) → Fill S w us xs → FitAll us shs → Fill S w shs xs
  fill_fits [] [] [] h f = tt
  fill_fits [] [] (x ∷ xs) h f = absurd h
  fill_fits [] (sh ∷ shs) xs h f = absurd f
  fill_fits (u ∷ us) [] xs h f = absurd f
  fill_fits (u ∷ us) (sh ∷ shs) [] h f = absurd h
  fill_fits (u ∷ us) (sh ∷ shs) (x ∷ xs) h f = (shaped_fits u sh x h.0 f.0, fill_fits us shs xs h.1 f.1)

  -- the kind of the objects to which values of this shape refer, and what their elements are
  pub refers_to : (u v : Shape) → element_shape u ≡ Some v → (k : Kind) × ((x : Value) → Shaped S w u x → Refers S w k x) × (element_shape (shape_of_kind k) ≡ Some v)
  refers_to shape.Int v h = cc
  refers_to shape.Bool v h = cc
  refers_to shape.Null v h = cc
  refers_to (shape.Class c) v h = cc
  refers_to shape.Ints v h = (kind.Ints, (λ x q. q), h)
  refers_to shape.Bools v h = (kind.Bools, (λ x q. q), h)
  refers_to (shape.Objects c) v h = (kind.Objects c, (λ x q. q), h)

pub field_at : (fields : List Field) (i : ℕ) (x : Field) → slice_get fields i ≡ Some x → slice_get (map (λ (x : Field). x.shape) fields) i ≡ Some x.shape
field_at [] i x h = cc
field_at (y ∷ fields) zero x h = ap (λ (o : Option Field). shape_of o) h
  where
    shape_of : Option Field → Option Shape
    shape_of (Some x) = Some x.shape
    shape_of None = None
field_at (y ∷ fields) (suc i) x h = field_at fields i x h
