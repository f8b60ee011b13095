-- The worked examples of pending lists, of changes and of stores that fit hold.
use Rattle.std.proofs.Common.{refl, ◌≡◌, ℕ, ◌<◌, ◌≤◌, ◌^◌, ◌∙◌, ap, sym, subst, List, [], ◌∷◌, length, arith, lit<, lit≤}
use Rattle.std.specs.Prelude.{All, FitsSigned, Option, Some, None, codes, get_or, pos, slice_get}
use Rattle.std.specs.Int.{w32}
use Rattle.std.proofs.lemmas.Int.{fits_signed_from_abs}
use Rattle.std.proofs.lemmas.List.{length-map}
use Rattle.std.proofs.lemmas.List.Elements.{All-cons, All-map, All-nil}
use Rattle.bc_data.specs.Startup.{startup_class}
use Rattle.bc_data.specs.Typed.{TypedClass, TypedProgram, TypedTask}
use Rattle.bc_data.specs.declared.program.Shape.TheVariants as shape
use Rattle.bc_data.specs.declared.run.Body.{Body}
use Rattle.bc_data.specs.declared.run.Kind.TheVariants as kind
use Rattle.bc_data.specs.declared.run.TagRef.TheVariants as tag
use Rattle.bc_data.specs.declared.run.Value.TheVariants as value
use Rattle.bc_mean.specs.declared.plain.Plain.{Plain}
use Rattle.bc_mean.specs.Enabled.{all_enabled}
use Rattle.bc_mean.specs.Store.{Fits, FitsAs, HasShape, HaveShapes, IsArray, IsObject, IsPresentTag, input_array, start_store, startup_object}
use Rattle.bc_mean.specs.Examples.{ChangeExamples, FitExamples, PendingExamples, cleared_startup, flagged, flagged_class, joins, program, with_object}

pub pending_holds : PendingExamples
unfolding all_enabled
pending_holds = record {
  ascending = refl;
  kept_first = refl;
  not_running = refl;
  not_failed = refl;
  no_longer_enabled = refl;
  one_failure_dropped = refl;
}

pub changes_hold : ChangeExamples
changes_hold = record { applied = refl; order_of_tags = refl; changed = refl }

-- an object 0 of the startup class that names an array at 1
startup_fits : (P : TypedProgram) (S : Plain) (array : Body) (mask : ℕ) → slice_get P.classes 0 ≡ Some (startup_class) → slice_get S.bodies 1 ≡ Some array → array.kind ≡ kind.Ints → mask < 2 → IsObject P S 0 (record { kind = kind.Class 0; cells = value.Old 1 ∷ []; flags = mask; tags = [] })
startup_fits P S array mask e f k m = record {
  class = startup_class;
  declared = e;
  cells = ((array, f, k), tt);
  flags = m;
  few_tags = lit≤ tt;
  present_tags = All-nil _;
  different_tags = λ i j d a b. absurd (omega arith);
}

byte_fits : (b : ℕ) → b < 256 → FitsSigned w32 (pos b)
byte_fits b h = fits_signed_from_abs w32 (pos b) (omega arith)

ints_fit : (S : Plain) (input : List ℕ) → All (λ b. b < 256) input → length input ≤ 65536 → IsArray S shape.Int (input_array input)
ints_fit S input bytes h = record {
  cells = All-map (HasShape S shape.Int) (λ b. value.Int (pos b)) input (λ k d l. byte_fits (get_or input k d) (bytes k d l));
  short = simp length-map h;
  flags = refl;
  tags = refl;
}

start_fits : (tasks : List TypedTask) (input : List ℕ) → All (λ b. b < 256) input → length input ≤ 65536 → Fits (program tasks) (start_store input)
start_fits tasks input bytes h =
    let P = program tasks in
    let S = start_store input in
    let fits : Body → Type 0 = λ b. FitsAs P S b.kind b in
    record {
      bodies =
          All-cons fits startup_object (input_array input ∷ []) (startup_fits P S (input_array input) 1 refl refl refl (lit< tt))
          (All-cons fits (input_array input) [] (ints_fit S input bytes h) (All-nil fits));
      types = All-nil _;
      objects = lit≤ tt;
      cells = simp length-map (omega arith);
      instances = lit≤ tt;
      output = lit≤ tt;
    }

tagged_fits : Fits joins (with_object (flagged 1 (tag.Old 0 ∷ [])))
tagged_fits =
    let P = joins in
    let b = flagged 1 (tag.Old 0 ∷ []) in
    let S = with_object b in
    let fits : Body → Type 0 = λ b. FitsAs P S b.kind b in
    record {
      bodies =
          All-cons fits cleared_startup (input_array [] ∷ b ∷ []) (startup_fits P S (input_array []) 0 refl refl refl (lit< tt))
          (All-cons fits (input_array []) (b ∷ []) (ints_fit S [] (All-nil _) (lit≤ tt))
          (All-cons fits b []
          (record {
            class = flagged_class (codes "L");
            declared = refl;
            cells = tt;
            flags = lit< tt;
            few_tags = lit≤ tt;
            present_tags = All-cons (IsPresentTag S) (tag.Old 0) [] (lit< tt) (All-nil (IsPresentTag S));
            different_tags = λ i j d l m. absurd (omega arith);
          })
          (All-nil fits)));
      types = All-cons (λ t. t < 2) 0 [] (lit< tt) (All-nil (λ t. t < 2));
      objects = lit≤ tt;
      cells = lit≤ tt;
      instances = lit≤ tt;
      output = lit≤ tt;
    }

from_some : {A : Type 0} {x y : A} → Some x ≡ Some y → x ≡ y
from_some e = cc

no_some : {A : Type 0} {x : A} → ◌≡◌ {A = Option A} None (Some x) → ⊥
no_some e = cc

too_large : FitsSigned w32 (pos 2147483648) → ⊥
too_large h = absurd (omega (arith, h))

not_ints : (c : ℕ) → kind.Ints ≡ kind.Class c → ⊥
not_ints c e = cc

-- the object in question
object_of : (b : Body) → Fits joins (with_object b) → FitsAs joins (with_object b) b.kind b
object_of b h = h.bodies 2 b (lit< tt)

pub fits_hold : FitExamples
fits_hold = record {
  start = start_fits;
  tagged = tagged_fits;
  unknown_flag = λ h.
      let o = object_of _ h in
      let m : 2 < 2 ^ 1 = subst (λ (c : TypedClass). 2 < 2 ^ length c.flags) (sym (from_some o.declared)) o.flags in
      absurd (omega arith);
  unknown_instance = λ h.
      let o = object_of _ h in
      let m : 1 < 1 = o.present_tags 0 (tag.Old 0) (lit< tt) in
      absurd (omega arith);
  one_instance_twice = λ h.
      let o = object_of _ h in
      o.different_tags 0 1 (tag.Old 0) (lit< tt) (lit< tt) refl;
  unknown_class = λ h.
      let o = object_of _ h in
      no_some o.declared;
  cell_too_many = λ h.
      let o = object_of _ h in
      subst (λ (c : TypedClass). HaveShapes (with_object (record { kind = kind.Class 1; cells = value.Null ∷ []; flags = 1; tags = [] })) c.fields (value.Null ∷ [])) (sym (from_some o.declared)) o.cells;
  int_too_large = λ h.
      let o = object_of _ h in
      too_large (o.cells 0 value.Null (lit< tt));
  wrong_element = λ h.
      let o = object_of _ h in
      let k = o.1.cells 0 value.Null (lit< tt) in
      not_ints 1 (ap (λ (b : Body). b.kind) (from_some k.1) ∙ k.2);
}
