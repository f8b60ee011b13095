-- The cells of objects and arrays, and new ones.
use Rattle.std.proofs.Common.{◌≡◌, ℕ, pos, negsuc, ◌≤◌, Bool, true, false, length, set, Some, slice_get, nat_le, if◌then◌else◌, refl, ap, sym, subst, ◌∙◌, arith}
use Rattle.std.proofs.lemmas.Bool.{leb-true}
use Rattle.std.proofs.lemmas.List.{length-set, length-replicate}
use Rattle.std.proofs.lemmas.List.Elements.{All-replicate, All-set}
use Rattle.std.proofs.lemmas.Nat.{pow_pos}
use Rattle.bc_data.specs.declared.program.Shape.{Shape}
use Rattle.bc_data.specs.declared.program.Shape.TheVariants as shape
use Rattle.bc_data.specs.declared.run.Body.{Body}
use Rattle.bc_data.specs.declared.run.FaultKind.TheVariants as fault
use Rattle.bc_data.specs.declared.run.Kind.{Kind}
use Rattle.bc_data.specs.declared.run.Kind.TheVariants as kind
use Rattle.bc_data.specs.declared.run.Place.{Place}
use Rattle.bc_data.specs.declared.run.Value.{Value}
use Rattle.bc_data.specs.declared.run.Value.TheVariants as value
use Rattle.bc_data.specs.Shapes.{element_shape, shape_of_kind}
use Rattle.bc_data.specs.Typed.{TypedClass, TypedProgram}
use Rattle.bc_data.specs.TypedBodies.{IsField, IsArrayKind}
use Rattle.bc_mean.specs.declared.plain.Plain.{Plain}
use Rattle.bc_mean.specs.Store.{IsInt}
use Rattle.bc_mean.specs.Values.{zero_in}
use Rattle.bc_mean.specs.Work.{Work, Gives, Reached, and_then, faults, known, make}
use Rattle.bc_mean.specs.Evaluate.{make_array, zero_array, zero_object}
use Rattle.bc_mean.specs.Execute.{write_cell}
use Rattle.bc_law_soundness.specs.Fitting.{IsKindAt, Shaped, field_shapes, FitsObject, FitsArray, FitsBody, FitsWork, Well}
use Rattle.bc_law_soundness.proofs.Cells.{field_at, fill_at, fill_set, fill_zero, small_int}
use Rattle.bc_law_soundness.proofs.Lists.{holds_at}
use Rattle.bc_law_soundness.proofs.Objects.{IsReached, make_well, write_well}
use Rattle.bc_law_soundness.proofs.Operators.{IsOf}
use Rattle.bc_law_soundness.proofs.Steps.{faulted, stays_here, and_well, known_well}

module _ (P : TypedProgram) (S : Plain) where
  -- the shape of a field's cell in an object that fits
  shape_there : (w : Work) (c : ℕ) (b : Body) (i : ℕ) (sh : Shape) (h : FitsObject P.classes S w c b) → IsField P.classes c i sh → slice_get (field_shapes h.class) i ≡ Some sh
  shape_there w c b i sh h field =
      let same : field.0 ≡ h.class = let one = h.declared in let two = field.2 in cc in
      let at : slice_get h.class.fields i ≡ Some field.1 = subst (λ (k : TypedClass). slice_get k.fields i ≡ Some field.1) same field.3 in
      field_at h.class.fields i field.1 at ∙ ap Some field.4

  pub field_well : (w : Work) (c : ℕ) (o : Reached) (i : ℕ) (sh : Shape) → FitsWork P S w → IsReached P S (kind.Class c) w o → IsField P.classes c i sh → Well P S w (IsOf S sh) (known (slice_get o.body.cells i) w)
  field_well w c o i sh h r field =
      let fits : FitsObject P.classes S w c o.body = r.fits in
      let x = fill_at S w (field_shapes fits.class) o.body.cells i sh fits.cells (shape_there w c o.body i sh fits field) in
      known_well P S w (IsOf S sh) (slice_get o.body.cells i) x.0 h x.1 x.2

  pub set_field_well : (w : Work) (c : ℕ) (o : Reached) (i : ℕ) (sh : Shape) (y : Value) → FitsWork P S w → IsReached P S (kind.Class c) w o → IsField P.classes c i sh → Shaped S w sh y → Well P S w (λ v u. Unit {0}) (write_cell o i y w)
  set_field_well w c o i sh y h r field q =
      let fits : FitsObject P.classes S w c o.body = r.fits in
      let next : FitsObject P.classes S w c (record o.body { cells = set o.body.cells i y }) = record {
        class = fits.class;
        declared = fits.declared;
        cells = fill_set S w (field_shapes fits.class) o.body.cells i sh y fits.cells (shape_there w c o.body i sh fits field) q;
        flags = fits.flags;
        few_tags = fits.few_tags;
        present_tags = fits.present_tags;
        different_tags = fits.different_tags;
      } in
      write_well P S w (kind.Class c) o _ h r (record { kind = r.kind; size = length-set o.body.cells i y; fits = next })

  -- A body of an array's kind is an array, and an array of that kind fits.
  array_of : (w : Work) (k : Kind) (sh : Shape) (b : Body) → element_shape (shape_of_kind k) ≡ Some sh → FitsBody P.classes S w k b → FitsArray S w sh b
  array_of w (kind.Class c) sh b e h = cc
  array_of w kind.Ints sh b e h = subst (λ sh. FitsArray S w sh b) (let same : shape.Int ≡ sh = cc in same) h
  array_of w kind.Bools sh b e h = subst (λ sh. FitsArray S w sh b) (let same : shape.Bool ≡ sh = cc in same) h
  array_of w (kind.Objects c) sh b e h = subst (λ sh. FitsArray S w sh b) (let same : shape.Class c ≡ sh = cc in same) h.1

  as_array : (w : Work) (k : Kind) (sh : Shape) (b c : Body) → element_shape (shape_of_kind k) ≡ Some sh → FitsBody P.classes S w k b → FitsArray S w sh c → FitsBody P.classes S w k c
  as_array w (kind.Class d) sh b c e h q = cc
  as_array w kind.Ints sh b c e h q = subst (λ sh. FitsArray S w sh c) (let same : sh ≡ shape.Int = cc in same) q
  as_array w kind.Bools sh b c e h q = subst (λ sh. FitsArray S w sh c) (let same : sh ≡ shape.Bool = cc in same) q
  as_array w (kind.Objects d) sh b c e h q = (h.0, subst (λ sh. FitsArray S w sh c) (let same : sh ≡ shape.Class d = cc in same) q)

  pub length_well : (w : Work) (k : Kind) (o : Reached) (sh : Shape) → FitsWork P S w → IsReached P S k w o → element_shape (shape_of_kind k) ≡ Some sh → Well P S w (IsOf S shape.Int) (Gives (value.Int (pos (length o.body.cells))) w)
  length_well w k o sh h r e = stays_here P S w (IsOf S shape.Int) (value.Int (pos (length o.body.cells))) h (small_int (length o.body.cells) (array_of w k sh o.body e r.fits).short)

  pub element_well :
      (w : Work) (k : Kind) (o : Reached) (sh : Shape) (n : ℕ) (x : Value) → FitsWork P S w → IsReached P S k w o → element_shape (shape_of_kind k) ≡ Some sh
      → slice_get o.body.cells n ≡ Some x → Well P S w (IsOf S sh) (known (slice_get o.body.cells n) w)
  element_well w k o sh n x h r e at = known_well P S w (IsOf S sh) (slice_get o.body.cells n) x h at (holds_at (Shaped S w sh) o.body.cells n x (array_of w k sh o.body e r.fits).cells at)

  pub set_element_well :
      (w : Work) (k : Kind) (o : Reached) (sh : Shape) (n : ℕ) (y : Value) → FitsWork P S w → IsReached P S k w o → element_shape (shape_of_kind k) ≡ Some sh
      → Shaped S w sh y → Well P S w (λ v u. Unit {0}) (write_cell o n y w)
  set_element_well w k o sh n y h r e q =
      let before = array_of w k sh o.body e r.fits in
      let next : FitsArray S w sh (record o.body { cells = set o.body.cells n y }) = record {
        cells = All-set (Shaped S w sh) o.body.cells n y q before.cells;
        short = subst (λ m. m ≤ 65536) (sym (length-set o.body.cells n y)) before.short;
        flags = before.flags;
        tags = before.tags;
      } in
      write_well P S w k o _ h r (record { kind = r.kind; size = length-set o.body.cells n y; fits = as_array w k sh o.body _ e r.fits next })

  -- new objects and arrays
  pub zero_object_fits : (w : Work) (c : ℕ) (k : TypedClass) → slice_get P.classes c ≡ Some k → FitsObject P.classes S w c (zero_object c k)
  zero_object_fits w c k declared = record {
    class = k;
    declared = declared;
    cells = fill_zero S w k.fields;
    flags = pow_pos (length k.flags);
    few_tags = omega arith;
    present_tags = λ i d within. absurd (omega arith);
    different_tags = λ i j d before within. absurd (omega arith);
  }

  zero_array_is : (w : Work) (k : Kind) (sh : Shape) (n : ℕ) → n ≤ 65536 → Shaped S w sh (zero_in k) → FitsArray S w sh (zero_array k n)
  zero_array_is w k sh n few q = record {
    cells = All-replicate (Shaped S w sh) n (zero_in k) q;
    short = subst (λ m. m ≤ 65536) (sym (length-replicate n (zero_in k))) few;
    flags = refl;
    tags = refl;
  }

  zero_array_fits : (w : Work) (k : Kind) (n : ℕ) → IsArrayKind (length P.classes) k → n ≤ 65536 → FitsBody P.classes S w k (zero_array k n)
  zero_array_fits w (kind.Class c) n q few = absurd q
  zero_array_fits w kind.Ints n q few = zero_array_is w kind.Ints shape.Int n few (small_int 0 (omega arith))
  zero_array_fits w kind.Bools n q few = zero_array_is w kind.Bools shape.Bool n few tt
  zero_array_fits w (kind.Objects c) n q few = (q, zero_array_is w (kind.Objects c) (shape.Class c) n few tt)

  refers_new : (w : Work) (k : Kind) (n : ℕ) → IsKindAt w.made k n → Shaped S w (shape_of_kind k) (value.New n)
  refers_new w (kind.Class c) n h = h
  refers_new w kind.Ints n h = h
  refers_new w kind.Bools n h = h
  refers_new w (kind.Objects c) n h = h

  pub make_array_well : (w : Work) (at : Place) (k : Kind) (x : Value) → FitsWork P S w → IsArrayKind (length P.classes) k → IsInt x → Well P S w (IsOf S (shape_of_kind k)) (make_array at k x w)
  make_array_well w at k (value.Int (pos n)) h q i = either (nat_le n 65536) refl
    where
      either : (t : Bool) → nat_le n 65536 ≡ t → Well P S w (IsOf S (shape_of_kind k)) (if t then and_then (make at (zero_array k n) w) (λ i v. Gives (value.New i) v) else faults fault.Size at w)
      either true few =
          and_well P S w (λ v i. IsKindAt v.made k i) (IsOf S (shape_of_kind k)) (make at (zero_array k n) w) _
          (make_well P S w at (zero_array k n) h (zero_array_fits w k n q (leb-true n 65536 few)))
          (λ i v f there. stays_here P S v (IsOf S (shape_of_kind k)) (value.New i) f.fits (refers_new v k i there))
      either false few = faulted P S w (IsOf S (shape_of_kind k)) fault.Size at w
  make_array_well w at k (value.Int (negsuc n)) h q i = faulted P S w (IsOf S (shape_of_kind k)) fault.Size at w
  make_array_well w at k (value.Bool b) h q i = absurd i
  make_array_well w at k value.Null h q i = absurd i
  make_array_well w at k (value.Old id) h q i = absurd i
  make_array_well w at k (value.New n) h q i = absurd i
