-- What a run depends on, as facts that contracts name.
use Rattle.std.specs.Prelude.{◌≡◌, ℕ, true, List, [], ◌∷◌, ◌++◌, Some, None, slice_get, All, IsSome}
use Rattle.bc_data.specs.Typed.{TypedStatements, TypedTask, TypedProgram}
use Rattle.bc_data.specs.declared.run.Body.{Body}
use Rattle.bc_data.specs.declared.run.Changes.{Changes}
use Rattle.bc_data.specs.declared.run.Invocation.{Invocation}
use Rattle.bc_data.specs.declared.run.Ran.TheVariants as ran
use Rattle.bc_mean.specs.declared.plain.Plain.{Plain}
use Rattle.bc_mean.specs.Enabled.{are_different}
use Rattle.bc_mean.specs.Work.{Look, Work, Got, Gives, Stops, Faulted, Missing, Wrong}
use Rattle.bc_mean.specs.Evaluate.{World, Frame}
use Rattle.bc_mean.specs.Execute.{execute_all, execute_task, calls}
use Rattle.bc_mean.specs.Outcome.{body_outcome, body_run, outcome, work_at_start}
use Rattle.bc_law_locality.specs.Growth.{AreIn, Grows, has, work_of}

-- whatever L knows, M knows too
abbrev pub Extends : Look → Look → Type 0
Extends L M = (id : ℕ) (b : Body) → L id ≡ Some b → M id ≡ Some b

abbrev pub AllKnown : Look → List ℕ → Type 0
AllKnown L ids = All (λ id. IsSome (L id)) ids

-- A run that touched its own objects is missing the body of the last one, and knew all before. A run over more bodies
-- touches these too, in this order, before any others.
pub record Asks (L : Look) (id : ℕ) (own more : List ℕ) : Type 0 where
  pub front : List ℕ
  pub ends : own ≡ front ++ id ∷ []
  pub known : AllKnown L front
  pub unknown : L id ≡ None
  pub rest : List ℕ
  pub begins : more ≡ own ++ rest

-- what a run over L says of the same run over more bodies
abbrev pub Says : {A : Type 0} → Look → Got A → Got A → Type 0
Says L (Gives x w) h = (h ≡ Gives x w) × AllKnown L w.touched
Says L (Stops (Faulted f) w) h = (h ≡ Stops (Faulted f) w) × AllKnown L w.touched
Says L (Stops (Missing id) w) h = Asks L id w.touched (work_of h).touched
Says L (Stops Wrong w) h = (h ≡ Stops Wrong w) × AllKnown L w.touched

abbrev pub over : World → Look → World
over W M = record W { look = M }

-- A run over some bodies tells of the run over more: of statements, with so many calls and rounds left and so many calls
-- around them, from a work that touched the parameters' objects and known ones alone; and of a task from its start.
pub record RunsSay : Type 0 where
  pub statements :
      (W : World) (M : Look) (n depth rounds : ℕ) (f : Frame) (s : TypedStatements) (w : Work)
      → Extends W.look M
      → AreIn W.objects w.touched
      → AllKnown W.look w.touched
      → Says W.look (execute_all W (calls W n depth) rounds f s w) (execute_all (over W M) (calls (over W M) n depth) rounds f s w)
  pub task :
      (W : World) (M : Look) (t : TypedTask) (v : Invocation)
      → Extends W.look M
      → W.objects ≡ v.objects
      → AllKnown W.look v.objects
      → Says W.look (execute_task W t v (work_at_start v)) (execute_task (over W M) t v (work_at_start v))

-- the two stores have the same bodies for these objects, or both have none
abbrev pub AgreeOn : Plain → Plain → List ℕ → Type 0
AgreeOn S T ids = All (λ id. slice_get S.bodies id ≡ slice_get T.bodies id) ids

-- Where two stores agree on the objects that an invocation touches in the one, it runs alike in both, its work included, and
-- comes to the same outcome.
pub record RunsAreLocal : Type 0 where
  pub run :
      (P : TypedProgram) (S T : Plain) (v : Invocation)
      → AgreeOn S T (body_outcome P S v).touched
      → body_run P S (slice_get P.tasks v.task) v ≡ body_run P T (slice_get P.tasks v.task) v
  pub outcome :
      (P : TypedProgram) (S T : Plain) (v : Invocation)
      → AgreeOn S T (body_outcome P S v).touched
      → body_outcome P S v ≡ body_outcome P T v

-- The work of a run grows: of statements from any work, and of an invocation from its start, where the parameters' objects
-- are those touched.
pub record WorkGrows : Type 0 where
  pub statements :
      (W : World) (n depth rounds : ℕ) (f : Frame) (s : TypedStatements) (w : Work)
      → Grows W.objects w (work_of (execute_all W (calls W n depth) rounds f s w))
  pub invocation :
      (P : TypedProgram) (S : Plain) (v : Invocation)
      → Grows v.objects (work_at_start v) (work_of (body_run P S (slice_get P.tasks v.task) v))

-- The bodies that a commit writes are those of objects that the invocation touched.
pub record ChangesAreTouched : Type 0 where
  pub body :
      (P : TypedProgram) (S : Plain) (v : Invocation) (c : Changes)
      → (body_outcome P S v).ran ≡ ran.Commit c
      → All (λ b. has (body_outcome P S v).touched b.id ≡ true) c.bodies
  pub commit :
      (P : TypedProgram) (S : Plain) (v : Invocation) (c : Changes)
      → (outcome P S v).ran ≡ ran.Commit c
      → All (λ b. has (outcome P S v).touched b.id ≡ true) c.bodies

-- The objects that an invocation touched begin with those of its parameters, in their order, and each is there once where
-- these are different. Want of room at its end changes nothing about them.
pub record TouchedFromTheParameters : Type 0 where
  pub begins : (P : TypedProgram) (S : Plain) (v : Invocation) → (rest : List ℕ) × ((body_outcome P S v).touched ≡ v.objects ++ rest)
  pub once : (P : TypedProgram) (S : Plain) (v : Invocation) → are_different v.objects ≡ true → are_different (body_outcome P S v).touched ≡ true
  pub with_room : (P : TypedProgram) (S : Plain) (v : Invocation) → (outcome P S v).touched ≡ (body_outcome P S v).touched
