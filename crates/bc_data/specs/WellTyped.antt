-- What every program keeps: the facts that running and compiling it need, so that nothing tests them again.
use Rattle.std.specs.Prelude.{◌≡◌, ◌≢◌, ◌<◌, ◌≤◌, ◌+◌, ℕ, true, length, List, [], ◌∷◌, map, Some, None, slice_get, All, AllPairs, Contains}
use Rattle.std.specs.List.{range_with_len}
use Rattle.bc_data.specs.declared.program.Field.{Field}
use Rattle.bc_data.specs.declared.program.Shape.{Shape}
use Rattle.bc_data.specs.declared.program.Shape.TheVariants as shape
use Rattle.bc_data.specs.Typed.{TypedGuard, FlagIs, FlagTruth, FlagNot, FlagAnd, FlagOr, TypedMethod, TypedClass, TypedParam, TypedTask, TypedProgram}
use Rattle.bc_data.specs.Shapes.{IsDeclared}
use Rattle.bc_data.specs.Startup.{startup_class}
use Rattle.bc_data.specs.Names.{AreNames}
use Rattle.bc_data.specs.TypedBodies.{Assigned, AssignedSlot, Setting, InMethod, InTask, AreTyped, surely_leave}
use Rattle.bc_data.specs.TypedExits.{HoldsInAll, NamesOnce, SetsBehind}

-- slots of these shapes, numbered from this one on
abbrev pub slots_from : ℕ → List Shape → List AssignedSlot
slots_from n [] = []
slots_from n (sh ∷ shs) = record { slot = n; shape = sh } ∷ slots_from (n + 1) shs

-- Slot 0 of a method is `this`, and behind it stand the formals.
abbrev pub method_start : ℕ → TypedMethod → Assigned
method_start me m = record { slots = slots_from 0 (shape.Class me ∷ m.formals); tags = [] }

abbrev pub method_setting : TypedProgram → TypedMethod → Setting
method_setting P m = record { classes = P.classes; tag_types = length P.tag_types; around = InMethod m.result; locals = m.locals; tags = 0 }

-- a method or a constructor of the class with this number
pub record IsMethod (P : TypedProgram) (me : ℕ) (m : TypedMethod) : Type 0 where
  pub few_formals : length m.formals ≤ 16
  pub formals : All (IsDeclared (length P.classes)) m.formals
  pub result : (sh : Shape) → m.result ≡ Some sh → IsDeclared (length P.classes) sh
  pub slots : length m.formals < m.locals
  pub few_slots : m.locals ≤ 257
  pub behind : Assigned
  pub body : AreTyped (method_setting P m) (method_start me m) m.body behind
  pub leaves : (sh : Shape) → m.result ≡ Some sh → surely_leave m.body ≡ true

-- a constructor has no result
pub record IsMaker (P : TypedProgram) (me : ℕ) (m : TypedMethod) : Type 0 where
  pub method : IsMethod P me m
  pub result : m.result ≡ None

pub record IsClass (P : TypedProgram) (me : ℕ) (k : TypedClass) : Type 0 where
  pub few_flags : length k.flags ≤ 32
  pub few_fields : length k.fields ≤ 256
  pub few_methods : length k.methods ≤ 256
  pub flag_names : AreNames k.flags
  pub field_names : AreNames (map (λ (x : Field). x.name) k.fields)
  pub method_names : AreNames (map (λ (m : TypedMethod). m.name) k.methods)
  pub maker_name : (m : TypedMethod) → k.maker ≡ Some m → m.name ≡ k.name
  pub fields : All (λ (x : Field). IsDeclared (length P.classes) x.shape) k.fields
  pub maker : (m : TypedMethod) → k.maker ≡ Some m → IsMaker P me m
  pub methods : All (IsMethod P me) k.methods

-- a guard over so many flags
abbrev pub IsGuard : ℕ → TypedGuard → Type 0
IsGuard flags (FlagIs f) = f < flags
IsGuard flags (FlagTruth b) = Unit {0}
IsGuard flags (FlagNot g) = IsGuard flags g
IsGuard flags (FlagAnd g h) = IsGuard flags g × IsGuard flags h
IsGuard flags (FlagOr g h) = IsGuard flags g × IsGuard flags h

pub record IsParam (P : TypedProgram) (t : TypedTask) (p : TypedParam) : Type 0 where
  pub class : TypedClass
  pub declared : slice_get P.classes p.class ≡ Some class
  pub guard : IsGuard (length class.flags) p.guard
  pub binds : All (λ v. v < length t.variables) p.binds
  pub binds_once : AllPairs (λ v w. v ≢ w) p.binds

-- The parameters of a task are its first slots, and the tag variables that they bind its first tag variables.
abbrev pub task_start : TypedTask → Assigned
task_start t = record { slots = slots_from 0 (map (λ (p : TypedParam). shape.Class p.class) t.params); tags = range_with_len 0 (length t.variables) }

abbrev pub task_setting : TypedProgram → TypedTask → Setting
task_setting P t = record {
  classes = P.classes;
  tag_types = length P.tag_types;
  around = InTask (map (λ (p : TypedParam). p.class) t.params);
  locals = t.locals;
  tags = t.tags;
}

pub record IsTask (P : TypedProgram) (t : TypedTask) : Type 0 where
  pub some_params : 0 < length t.params
  pub few_params : length t.params ≤ 4
  pub params : All (IsParam P t) t.params
  pub few_variables : length t.variables ≤ 4
  pub variables : All (λ k. k < length P.tag_types) t.variables
  -- each of them is bound by a parameter
  pub bound : (v : ℕ) → v < length t.variables → (p : TypedParam) × Contains t.params p × Contains p.binds v
  pub slots : length t.params ≤ t.locals
  pub tags : length t.variables ≤ t.tags
  pub few_names : t.locals + t.tags ≤ 256
  pub behind : Assigned
  pub body : AreTyped (task_setting P t) (task_start t) t.body behind
  -- its body sets no parameter, and each `taskexit` in it names a parameter once
  pub fixed : HoldsInAll (SetsBehind (length t.params)) t.body
  pub exits : HoldsInAll NamesOnce t.body

-- What is accepted keeps these facts. They don't say all that is asked of a text: nothing is said of the levels of its
-- trees, nor of the types of the tag variables that bodies set.
pub record IsWellTyped (P : TypedProgram) : Type 0 where
  pub startup : slice_get P.classes 0 ≡ Some startup_class
  pub few_classes : length P.classes ≤ 256
  pub few_tag_types : length P.tag_types ≤ 64
  pub few_tasks : length P.tasks ≤ 256
  pub class_names : AreNames (map (λ (k : TypedClass). k.name) P.classes)
  pub tag_type_names : AreNames P.tag_types
  pub task_names : AreNames (map (λ (t : TypedTask). t.name) P.tasks)
  pub classes : (me : ℕ) (k : TypedClass) → slice_get P.classes me ≡ Some k → IsClass P me k
  pub tasks : All (IsTask P) P.tasks
