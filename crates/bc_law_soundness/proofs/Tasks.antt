-- The body of an enabled invocation's task ends in a work that fits, or in a fault.
use Rattle.std.proofs.Common.{◌≡◌, ℕ, zero, suc, ◌-◌, ◌<◌, nat_lt, Bool, true, List, [], ◌∷◌, ◌++◌, length, map, replicate, Option, Some, None, get_or, slice_get, pos, refl, ap, sym, subst, arith}
use Rattle.std.specs.Prelude.{Contains}
use Rattle.std.specs.List.{range_with_len, list_all}
use Rattle.std.proofs.lemmas.Bool.{and_parts, eqb-true, ltb-true}
use Rattle.std.proofs.lemmas.List.{length-map}
use Rattle.std.proofs.lemmas.List.FromFn.{length-range_with_len, get_or-range_with_len}
use Rattle.bc_data.specs.declared.program.Shape.TheVariants as shape
use Rattle.bc_data.specs.declared.run.Invocation.{Invocation}
use Rattle.bc_data.specs.declared.run.Kind.{Kind}
use Rattle.bc_data.specs.declared.run.Kind.TheVariants as kind
use Rattle.bc_data.specs.declared.run.TagRef.TheVariants as tag
use Rattle.bc_data.specs.declared.run.Value.TheVariants as value
use Rattle.bc_data.specs.Typed.{TypedParam, TypedProgram, TypedTask}
use Rattle.bc_data.specs.TypedBodies.{InTask, surely_leave}
use Rattle.bc_data.specs.WellTyped.{IsWellTyped, IsTask, task_start}
use Rattle.bc_mean.specs.declared.plain.Plain.{Plain}
use Rattle.bc_mean.specs.Enabled.{is_some_and, is_class, takes, take_all, IsEnabled}
use Rattle.bc_mean.specs.Execute.{Flow, calls, execute_task, most_turns, task_frame}
use Rattle.bc_mean.specs.Outcome.{body_run, work_at_start, world_of}
use Rattle.bc_mean.specs.Store.{Fits}
use Rattle.bc_mean.specs.Work.{Work}
use Rattle.bc_law_soundness.specs.Fitting.{IsKindAt, Fill, Ready, Well}
use Rattle.bc_law_soundness.specs.Frames.{FitsFrame, FitsFlow, AreParameters}
use Rattle.bc_law_soundness.proofs.Calls.{calls_fit, padded, slot_at}
use Rattle.bc_law_soundness.proofs.Lists.{element_within, holds_at, stays}
use Rattle.bc_law_soundness.proofs.Starting.{map_at, start_fits}
use Rattle.bc_law_soundness.proofs.Statements.{setting, execute_all_well}
use Rattle.bc_law_soundness.proofs.Steps.{weaker}

some_and : {A : Type 0} (o : Option A) (test : A → Bool) → is_some_and o test ≡ true → (x : A) × (o ≡ Some x) × (test x ≡ true)
some_and None test h = cc
some_and (Some x) test h = (x, refl, h)

class_of : (c : ℕ) (k : Kind) → is_class c k ≡ true → k ≡ kind.Class c
class_of c (kind.Class d) h = ap kind.Class (eqb-true d c h)
class_of c kind.Ints h = cc
class_of c kind.Bools h = cc
class_of c (kind.Objects d) h = cc

-- the classes of parameters
abbrev classes_of : List TypedParam → List ℕ
classes_of ps = map (λ (p : TypedParam). p.class) ps

module _ (S : Plain) (t : TypedTask) (tags : List ℕ) where
  taken : (p : TypedParam) (id : ℕ) → takes S t tags p id ≡ true → IsKindAt S.bodies (kind.Class p.class) id
  taken p id h =
      let b = some_and (slice_get S.bodies id) _ h in
      let parts = and_parts _ _ b.2 in
      let first = and_parts _ _ parts.0 in
      (b.0, b.1, class_of p.class b.0.kind first.0)

  objects_fill : (w : Work) (ps : List TypedParam) (ids : List ℕ) → take_all S t tags ps ids ≡ true → Fill S w (map (λ (p : TypedParam). shape.Class p.class) ps) (map value.Old ids)
  objects_fill w [] [] h = tt
  objects_fill w (p ∷ ps) (id ∷ ids) h = let parts = and_parts (takes S t tags p id) (take_all S t tags ps ids) h in (taken p id parts.0, objects_fill w ps ids parts.1)
  objects_fill w [] (id ∷ ids) h = cc
  objects_fill w (p ∷ ps) [] h = cc

  as_many : (ps : List TypedParam) (ids : List ℕ) → take_all S t tags ps ids ≡ true → length ids ≡ length ps
  as_many [] [] h = refl
  as_many (p ∷ ps) (id ∷ ids) h = let parts = and_parts (takes S t tags p id) (take_all S t tags ps ids) h in ap (λ n. suc n) (as_many ps ids parts.1)
  as_many [] (id ∷ ids) h = cc
  as_many (p ∷ ps) [] h = cc

  parameter_at : (ps : List TypedParam) (ids : List ℕ) (i c : ℕ) → take_all S t tags ps ids ≡ true → slice_get (classes_of ps) i ≡ Some c → (id : ℕ) × (slice_get ids i ≡ Some id) × IsKindAt S.bodies (kind.Class c) id
  parameter_at [] [] i c h at = cc
  parameter_at (p ∷ ps) (id ∷ ids) zero c h at =
      let parts = and_parts (takes S t tags p id) (take_all S t tags ps ids) h in
      (id, refl, subst (λ c. IsKindAt S.bodies (kind.Class c) id) (let same : p.class ≡ c = cc in same) (taken p id parts.0))
  parameter_at (p ∷ ps) (id ∷ ids) (suc i) c h at = let parts = and_parts (takes S t tags p id) (take_all S t tags ps ids) h in parameter_at ps ids i c parts.1 at
  parameter_at [] (id ∷ ids) i c h at = cc
  parameter_at (p ∷ ps) [] i c h at = cc

all_below : (m : ℕ) (ns : List ℕ) (i n : ℕ) → list_all (λ k. nat_lt k m) ns ≡ true → slice_get ns i ≡ Some n → n < m
all_below m [] i n h at = cc
all_below m (k ∷ ns) zero n h at =
    let parts = and_parts (nat_lt k m) (list_all (λ k. nat_lt k m) ns) h in
    subst (λ n. n < m) (let same : k ≡ n = cc in same) (ltb-true k m parts.0)
all_below m (k ∷ ns) (suc i) n h at = let parts = and_parts (nat_lt k m) (list_all (λ k. nat_lt k m) ns) h in all_below m ns i n parts.1 at

in_range : (n v : ℕ) → Contains (range_with_len 0 n) v → v < n
in_range n v h =
    let size = length-range_with_len 0 n in
    let inside = h.1 in
    let within : h.0 < n = omega arith in
    let here = get_or-range_with_len 0 n h.0 v within in
    let there : get_or (range_with_len 0 n) h.0 v ≡ v = h.2 in
    omega arith

-- what is known of an enabled invocation of a task
record IsReady (S : Plain) (t : TypedTask) (v : Invocation) : Type 0 where
  pub instances : length v.tags ≡ length t.variables
  pub objects : take_all S t v.tags t.params v.objects ≡ true
  pub present : list_all (λ n. nat_lt n (length S.tags)) v.tags ≡ true

enabled_task : (P : TypedProgram) (S : Plain) (v : Invocation) → IsEnabled P S v → (t : TypedTask) × (slice_get P.tasks v.task ≡ Some t) × IsReady S t v
enabled_task P S v h =
    let t = some_and (slice_get P.tasks v.task) _ h in
    let one = and_parts _ _ t.2 in
    let two = and_parts _ _ one.0 in
    let three = and_parts _ _ two.0 in
    (t.0, t.1, record { instances = eqb-true (length v.tags) (length t.0.variables) three.0; objects = three.1; present = one.1 })

task_fits : (P : TypedProgram) (S : Plain) (w : Work) (t : TypedTask) (v : Invocation) → IsTask P t → IsReady S t v → FitsFrame S w t.locals t.tags (task_start t) (task_frame t v)
task_fits P S w t v typed r =
    let count = as_many S t v.tags t.params v.objects r.objects in
    let objects = length-map v.objects value.Old in
    let tags = length-map v.tags tag.Old in
    let many = r.instances in
    let slots = typed.slots in
    let variables = typed.tags in
    record {
      slots = λ slot sh at.
          let found = slot_at S w 0 (map (λ (p : TypedParam). shape.Class p.class) t.params) (map value.Old v.objects) slot sh (objects_fill S t v.tags w t.params v.objects r.objects) at in
          let place = found.2 in
          let here : found.0 ≡ slot = omega arith in
          (found.1, subst (λ i. slice_get (map value.Old v.objects ++ replicate (t.locals - length v.objects) (value.Int (pos 0))) i ≡ Some found.1) here (stays (map value.Old v.objects) _ found.0 found.1 found.3), found.4);
      tags = λ x at.
          let below = in_range (length t.variables) x at in
          let n = element_within v.tags x (omega arith) in
          (tag.Old n.0, stays (map tag.Old v.tags) _ x (tag.Old n.0) (map_at tag.Old v.tags x n.0 n.1), all_below (length S.tags) v.tags x n.0 r.present n.1);
      all_slots = subst (λ k. length (map value.Old v.objects ++ replicate (t.locals - k) (value.Int (pos 0))) ≡ t.locals) objects (padded (map value.Old v.objects) t.locals (value.Int (pos 0)) (omega arith));
      all_tags = subst (λ k. length (map tag.Old v.tags ++ replicate (t.tags - k) (tag.New 0)) ≡ t.tags) tags (padded (map tag.Old v.tags) t.tags (tag.New 0) (omega arith));
    }

-- nothing more than a later work
abbrev pub Ended : Work → Flow → Type 0
Ended w fl = Unit {0}

pub body_well : (P : TypedProgram) (S : Plain) (v : Invocation) → IsWellTyped P → Fits P S → IsEnabled P S v → Well P S (work_at_start v) Ended (body_run P S (slice_get P.tasks v.task) v)
body_well P S v well fits enabled =
    let t = enabled_task P S v enabled in
    let typed : IsTask P t.0 = holds_at (IsTask P) P.tasks v.task t.0 well.tasks t.1 in
    let w = work_at_start v in
    let ready : Ready P S most_turns w = record { fits = start_fits P S v fits; turns = omega arith } in
    let around = InTask (classes_of t.0.params) in
    let there : AreParameters S v.objects around = λ p c at. parameter_at S t.0 v.tags t.0.params v.objects p c t.2.objects at in
    subst (λ o. Well P S w Ended (body_run P S o v)) (sym t.1)
    (weaker P S w (FitsFlow S (setting P around t.0.locals t.0.tags) typed.behind (surely_leave t.0.body)) Ended
    (execute_task (world_of P S v) t.0 v w)
    (execute_all_well P well S v.objects most_turns (calls (world_of P S v) most_turns 0) (calls_fit P well S v.objects most_turns 0) around there
    t.0.locals t.0.tags t.0.body w (task_start t.0) typed.behind (task_frame t.0 v) ready (task_fits P S w t.0 v typed t.2) typed.body)
    (λ fl u f q. tt))
