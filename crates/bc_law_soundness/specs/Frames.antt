-- Frames, results and the ends of statements that fit, and calls that keep a work fitting.
use Rattle.std.specs.Prelude.{◌≡◌, ℕ, Bool, false, List, ◌∷◌, length, Option, Some, None, slice_get, Contains}
use Rattle.bc_data.specs.declared.program.Shape.{Shape}
use Rattle.bc_data.specs.declared.program.Shape.TheVariants as shape
use Rattle.bc_data.specs.declared.run.Kind.TheVariants as kind
use Rattle.bc_data.specs.declared.run.Place.{Place}
use Rattle.bc_data.specs.declared.run.TagRef.{TagRef}
use Rattle.bc_data.specs.declared.run.Value.{Value}
use Rattle.bc_data.specs.Typed.{TypedMethod, TypedProgram}
use Rattle.bc_data.specs.TypedBodies.{Assigned, Around, InMethod, InTask, Setting, shape_of_slot}
use Rattle.bc_data.specs.WellTyped.{IsMethod}
use Rattle.bc_mean.specs.declared.plain.Plain.{Plain}
use Rattle.bc_mean.specs.Work.{Work}
use Rattle.bc_mean.specs.Evaluate.{Frame, Calls}
use Rattle.bc_mean.specs.Execute.{Flow, Goes, Returns, Leaves}
use Rattle.bc_law_soundness.specs.Fitting.{IsKindAt, Shaped, Fill, IsPresent, Ready, Well}

-- A frame has so many slots and tag variables. Those that have been set hold a value of their shape, and an instance.
pub record FitsFrame (S : Plain) (w : Work) (locals : ℕ) (variables : ℕ) (a : Assigned) (f : Frame) : Type 0 where
  pub slots : (slot : ℕ) (sh : Shape) → shape_of_slot a.slots slot ≡ Some sh → (x : Value) × (slice_get f.slots slot ≡ Some x) × Shaped S w sh x
  pub tags : (v : ℕ) → Contains a.tags v → (t : TagRef) × (slice_get f.tags v ≡ Some t) × IsPresent S w t
  pub all_slots : length f.slots ≡ locals
  pub all_tags : length f.tags ≡ variables

-- a result of this shape, where one is asked for
abbrev pub FitsResult : Plain → Work → Option Shape → Option Value → Type 0
FitsResult S w (Some sh) (Some x) = Shaped S w sh x
FitsResult S w (Some sh) None = ⊥
FitsResult S w None (Some x) = ⊥
FitsResult S w None None = Unit {0}

-- How statements may end where this has been set behind them. Where they surely leave no other follows.
abbrev pub FitsFlow : Plain → Setting → Assigned → Bool → Work → Flow → Type 0
FitsFlow S B b leaves w (Goes f) = (leaves ≡ false) × FitsFrame S w B.locals B.tags b f
FitsFlow S B b leaves w (Returns r) = (o : Option Shape) × (B.around ≡ InMethod o) × FitsResult S w o r
FitsFlow S B b leaves w Leaves = (params : List ℕ) × (B.around ≡ InTask params)

-- a method of some class, and values for `this` and its formals
pub record IsCallable (P : TypedProgram) (S : Plain) (w : Work) (m : TypedMethod) (xs : List Value) : Type 0 where
  pub me : ℕ
  pub method : IsMethod P me m
  pub values : Fill S w (shape.Class me ∷ m.formals) xs

-- where at most so many turns are left, calls come to a result that fits, or to a fault
abbrev pub CallsFit : TypedProgram → Plain → ℕ → Calls → Type 0
CallsFit P S n C =
    (at : Place) (m : TypedMethod) (xs : List Value) (w : Work) → Ready P S n w → IsCallable P S w m xs
    → Well P S w (λ v r. FitsResult S v m.result r) (C at m xs w)

-- The objects of an invocation's parameters are there, each of its class.
abbrev pub AreParameters : Plain → List ℕ → Around → Type 0
AreParameters S objects (InMethod result) = Unit {0}
AreParameters S objects (InTask params) =
    (p : ℕ) (c : ℕ) → slice_get params p ≡ Some c → (id : ℕ) × (slice_get objects p ≡ Some id) × IsKindAt S.bodies (kind.Class c) id
