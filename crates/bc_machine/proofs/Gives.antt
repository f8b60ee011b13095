-- A run before its first instruction, and with one body more.
use Rattle.std.proofs.Common.{◌≡◌, ℕ, Bool, true, ◌==◌, List, [], ◌∷◌, ◌++◌, length, map, refl, sym, ◌∙◌, ap, subst, append-nil, append_assoc, arith}
use Rattle.std.specs.Prelude.{◌&&◌, nat_lt, slice_get, Option, Some, None}
use Rattle.std.specs.List.{list_all}
use Rattle.std.specs.Option.{option_map}
use Rattle.std.proofs.lemmas.Bool.{and_parts, false≢true}
use Rattle.std.proofs.lemmas.List.{length-map}
use Rattle.std.proofs.lemmas.Option.{slice_get-map}
use Rattle.std.proofs.lemmas.List.Elements.{All-cons, All-nil, All-push}
use Rattle.bc_data.specs.Typed.{TypedProgram, TypedTask}
use Rattle.bc_data.specs.declared.run.Body.{Body}
use Rattle.bc_data.specs.declared.run.Invocation.{Invocation}
use Rattle.bc_data.specs.declared.run.Written.{Written}
use Rattle.bc_mean.specs.declared.plain.Plain.{Plain}
use Rattle.bc_mean.specs.Enabled.{IsEnabled, are_different, is_some_and, take_all}
use Rattle.bc_mean.specs.Work.{newest}
use Rattle.bc_code.specs.declared.code.Code.{Code}
use Rattle.bc_code.specs.Given.{given_look, ids_of}
use Rattle.bc_code.specs.Instructions.{On, more, start}
use Rattle.bc_code.specs.Runs.{reads_over, run_over}
use Rattle.bc_law_code.specs.Laws.{Asked, and_body}
use Rattle.bc_law_code.proofs.Asked.{asked_in_order, ids_more, look_more}
use Rattle.bc_law_code.proofs.MoreBodies.{code_over_more}
use Rattle.bc_step.specs.declared.state.State.{State}
use Rattle.bc_step.specs.Area.{AgreesWith, AreaParts, Held, IsFresh, copies_of, copied, given_of, with_id}
use Rattle.bc_step.specs.State.{state_with}
use Rattle.bc_step.specs.Stepping.{CanBegin, StandsAtStart}
use Rattle.bc_machine.specs.declared.machine.Machine.{Machine}
use Rattle.bc_machine.specs.Running.{AreBodiesOf, IsRunOf, IsRunning, Needs}

-- the objects of an enabled invocation are different
pub objects_differ : (P : TypedProgram) (S : Plain) (v : Invocation) → IsEnabled P S v → are_different v.objects ≡ true
objects_differ P S v e = at (slice_get P.tasks v.task) e
  where
    at :
        (o : Option TypedTask)
        → is_some_and o (λ t.
        (length v.tags == length t.variables) && take_all S t v.tags t.params v.objects && are_different v.objects
        && list_all (λ n. nat_lt n (length S.tags)) v.tags) ≡ true
        → are_different v.objects ≡ true
    at None h = absurd (false≢true h)
    at (Some t) h =
        let long = length v.tags == length t.variables in
        let fits = take_all S t v.tags t.params v.objects in
        let front = and_parts (long && fits && are_different v.objects) (list_all (λ n. nat_lt n (length S.tags)) v.tags) h in
        (and_parts (long && fits) (are_different v.objects) front.0).1

there : {A : Type 0} (o : Option A) (test : A → Bool) → is_some_and o test ≡ true → (x : A) × (o ≡ Some x)
there None test h = absurd (false≢true h)
there (Some x) test h = (x, refl)

-- an enabled invocation is of a task of the program
pub can_begin : (P : TypedProgram) (S : Plain) (code : Code) (v : Invocation) → IsRunOf P S code v → CanBegin code v
can_begin P S code v run =
    let task = there (slice_get P.tasks v.task) _ run.enabled in
    record {
      generated = record { program = P; well_typed = run.well_typed; translated = run.translated };
      task = task.0;
      there = task.1;
    }

-- an object that was given without a copy
abbrev uncopied : ℕ → Body → Held
uncopied id b = record { id = id; body = b; copy = None }

given_more : (hs : List Held) (id : ℕ) (b : Body) → given_of (hs ++ uncopied id b ∷ []) ≡ and_body (given_of hs) id b
given_more [] id b = refl
given_more (h ∷ hs) id b = ap (λ (gs : List Written). record { id = h.id; body = h.body } ∷ gs) (given_more hs id b)

copies_more : (hs : List Held) (id : ℕ) (b : Body) → copies_of (hs ++ uncopied id b ∷ []) ≡ copies_of hs
copies_more [] id b = refl
copies_more (h ∷ hs) id b = ap (copied h.id h.copy) (copies_more hs id b)

-- the area with one body more, and some room left
abbrev pub with_body : AreaParts → ℕ → Body → ℕ → AreaParts
with_body a id b spare = record a { held = a.held ++ uncopied id b ∷ []; spare = spare }

module _ (P : TypedProgram) (S : Plain) (code : Code) (m : Machine) where
  -- Room for more changes nothing else.
  pub spare_runs : (b : AreaParts) → b ≡ record m.area { spare = b.spare } → IsRunning P S code m → IsRunning P S code (record { state = m.state; area = b })
  spare_runs b e r =
      subst (λ (a : AreaParts). IsRunning P S code (record { state = m.state; area = a })) (sym e)
      (record {
        run = r.run;
        agrees = r.agrees;
        others = r.others;
        first = r.first;
        copies = r.copies;
        are = r.are;
        touched = r.touched;
        steps = r.steps;
        reached = r.reached;
        going_on = r.going_on;
        asked = r.asked;
      })

  module _ (id : ℕ) (body : Body) (r : IsRunning P S code m) (need : Needs P m.area id) (there : slice_get S.bodies id ≡ Some body) (spare : ℕ) where
    abbrev v : Invocation
    v = m.area.invocation

    abbrev gs : List Written
    gs = given_of m.area.held

    abbrev hs : List Written
    hs = and_body (given_of m.area.held) id body

    one_given : IsRunning P S code (record { state = m.state; area = with_body m.area id body spare })
    one_given =
        let is : given_of (m.area.held ++ uncopied id body ∷ []) ≡ hs = given_more m.area.held id body in
        record {
          run = r.run;
          agrees = subst (AgreesWith S) (sym is) (All-push (λ (g : Written). slice_get S.bodies g.id ≡ Some g.body) gs (record { id = id; body = body }) r.agrees there);
          others = r.others ++ id ∷ [];
          first = ap ids_of is ∙ ids_more gs id body ∙ ap (λ (ids : List ℕ). ids ++ id ∷ []) r.first ∙ append_assoc v.objects r.others (id ∷ []);
          copies = r.copies;
          are = λ i b. r.are i b ∙ ap (λ (cs : List Written). newest cs i b) (sym (copies_more m.area.held id body));
          touched = r.touched;
          steps = r.steps;
          reached =
              subst (λ (l : List Written). more (reads_over (given_look l) v) code r.steps (start code v) ≡ On (state_with m.state m.area r.copies r.touched)) (sym is)
              (code_over_more code (given_look gs) (given_look hs) v r.steps (state_with m.state m.area r.copies r.touched) (look_more gs id body) r.reached);
          going_on = r.going_on;
          asked =
              subst (λ (l : List Written). Asked l (run_over P (given_look l) v)) (sym is)
              (asked_in_order.next P v gs id body need.0 r.others r.first (objects_differ P S v r.run.enabled) r.asked need.1);
        }

  pub given_runs : (id : ℕ) (body : Body) (b : AreaParts) → b ≡ with_body m.area id body b.spare → IsRunning P S code m → Needs P m.area id → slice_get S.bodies id ≡ Some body → IsRunning P S code (record { state = m.state; area = b })
  given_runs id body b e r need there =
      subst (λ (a : AreaParts). IsRunning P S code (record { state = m.state; area = a })) (sym e) (one_given id body r need there b.spare)

-- the bodies of the parameters' objects, before the first write
fresh_ids : (ids : List ℕ) (bodies : List Body) → length bodies ≡ length ids → ids_of (given_of (with_id ids bodies)) ≡ ids
fresh_ids [] bodies e = refl
fresh_ids (id ∷ ids) [] e = absurd (cc)
fresh_ids (id ∷ ids) (b ∷ bodies) e =
    let later : length bodies ≡ length ids = omega (arith, e) in
    ap (λ (l : List ℕ). id ∷ l) (fresh_ids ids bodies later)

fresh_copies : (ids : List ℕ) (bodies : List Body) → copies_of (with_id ids bodies) ≡ []
fresh_copies [] bodies = refl
fresh_copies (id ∷ ids) [] = refl
fresh_copies (id ∷ ids) (b ∷ bodies) = fresh_copies ids bodies

fresh_agrees : (S : Plain) (ids : List ℕ) (bodies : List Body) → AreBodiesOf S ids bodies → AgreesWith S (given_of (with_id ids bodies))
fresh_agrees S [] bodies e = All-nil (λ (g : Written). slice_get S.bodies g.id ≡ Some g.body)
fresh_agrees S (id ∷ ids) [] e = All-nil (λ (g : Written). slice_get S.bodies g.id ≡ Some g.body)
fresh_agrees S (id ∷ ids) (b ∷ bodies) e =
    let first : slice_get S.bodies id ≡ Some b = cc in
    let later : map (slice_get S.bodies) ids ≡ map (λ (c : Body). Some c) bodies = cc in
    All-cons (λ (g : Written). slice_get S.bodies g.id ≡ Some g.body) (record { id = id; body = b }) (given_of (with_id ids bodies)) first (fresh_agrees S ids bodies later)

pub as_many : (S : Plain) (ids : List ℕ) (bodies : List Body) → AreBodiesOf S ids bodies → length bodies ≡ length ids
as_many S ids bodies e = sym (length-map bodies (λ (b : Body). Some b)) ∙ sym (ap length e) ∙ length-map ids (slice_get S.bodies)

pub fresh_given : (v : Invocation) (bodies : List Body) (a : AreaParts) → length bodies ≡ length v.objects → IsFresh v bodies a → ids_of (given_of a.held) ≡ v.objects
fresh_given v bodies a e f = ap (λ (hs : List Held). ids_of (given_of hs)) f.held ∙ fresh_ids v.objects bodies e

-- the machine before the first instruction
module _ (P : TypedProgram) (S : Plain) (code : Code) (bodies : List Body) (s : State) (a : AreaParts) where
  fresh_runs :
      (f : IsFresh a.invocation bodies a) → start code a.invocation ≡ On (state_with s a [] a.invocation.objects) → IsRunOf P S code a.invocation → AreBodiesOf S a.invocation.objects bodies
      → IsRunning P S code (record { state = s; area = a })
  fresh_runs f starts run are =
      let ids : ids_of (given_of a.held) ≡ a.invocation.objects = fresh_given a.invocation bodies a (as_many S a.invocation.objects bodies are) f in
      record {
        run = run;
        agrees = subst (λ (hs : List Held). AgreesWith S (given_of hs)) (sym f.held) (fresh_agrees S a.invocation.objects bodies are);
        others = [];
        first = ids ∙ sym (append-nil a.invocation.objects);
        copies = [];
        are = λ i b. sym (ap (λ (cs : List Written). newest cs i b) (ap copies_of f.held ∙ fresh_copies a.invocation.objects bodies));
        touched = a.invocation.objects;
        steps = 0;
        reached = starts;
        going_on = f.end;
        asked = asked_in_order.first P a.invocation (given_of a.held) ids (objects_differ P S a.invocation run.enabled);
      }

  pub start_runs :
      (v : Invocation) → IsFresh v bodies a → StandsAtStart code v s → IsRunOf P S code v → AreBodiesOf S v.objects bodies
      → IsRunning P S code (record { state = s; area = a })
  start_runs v f starts run are =
      let F : Invocation → Type 0 = λ u.
      IsFresh u bodies a × (start code u ≡ On (state_with s a [] u.objects)) × IsRunOf P S code u × AreBodiesOf S u.objects bodies in
      let h = subst F (sym f.invocation) (f, starts a bodies f, run, are) in
      fresh_runs h.0 h.1 h.2 h.3
