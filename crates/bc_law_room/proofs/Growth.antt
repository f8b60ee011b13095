-- What a commit and a history leave as it was.
use Rattle.std.proofs.Common.{◌≡◌, ℕ, zero, suc, ◌+◌, Bool, true, false, cond, List, [], ◌∷◌, ◌++◌, length, map, refl, sym, ap, ◌∙◌, subst, append-nil, append_assoc, arith, length-append}
use Rattle.std.proofs.lemmas.List.{length-map}
use Rattle.std.proofs.lemmas.List.Elements.{All-from_recursion}
use Rattle.std.proofs.lemmas.List.Sums.{sum_by-append}
use Rattle.std.proofs.lemmas.Option.{none-some, option_and_then_some, same_Some}
use Rattle.std.specs.List.{AllByRecursion, cons_option, filter_map, range_with_len}
use Rattle.std.specs.Prelude.{slice_get, Option, Some, None}
use Rattle.bc_data.specs.Typed.{TypedProgram, TypedTask}
use Rattle.bc_data.specs.declared.run.Body.{Body}
use Rattle.bc_data.specs.declared.run.Changes.{Changes}
use Rattle.bc_data.specs.declared.run.Invocation.{Invocation}
use Rattle.bc_data.specs.declared.run.Ran.{Ran}
use Rattle.bc_data.specs.declared.run.Ran.TheVariants as ran
use Rattle.bc_data.specs.declared.run.Written.{Written}
use Rattle.bc_mean.specs.declared.plain.Plain.{Plain}
use Rattle.bc_mean.specs.Changes.{apply_changes, body_in, changes_between, put_bodies, same_body, written_of}
use Rattle.bc_mean.specs.Enabled.{is_enabled}
use Rattle.bc_mean.specs.Execute.{Flow, most_turns, task_frame}
use Rattle.bc_mean.specs.Outcome.{body_outcome, body_run, ending, outcome, work_at_start, world_of}
use Rattle.bc_mean.specs.Serial.{after_commit, after_ran, is_crowded, replay_from}
use Rattle.bc_mean.specs.Store.{cells_in}
use Rattle.bc_mean.specs.Work.{Got, Gives, Stops, Work, look_of, newest}
use Rattle.bc_law_locality.specs.Growth.{work_of}
use Rattle.bc_law_locality.proofs.Runs.{outcome_commits}
use Rattle.bc_law_room.specs.Laws.{HistoriesGrow, KeepsKinds}
use Rattle.bc_law_room.specs.Sizes.{AddsUp, HasLike, KeepsSizes, Outgrows}
use Rattle.bc_law_room.proofs.Bodies.{AreAlike, alike_cells, alike_get, alike_itself, alike_length, like_back, like_itself, like_then, made_cells, put_alike}
use Rattle.bc_law_room.proofs.Statements.{statements_keep}
use Rattle.bc_law_room.proofs.Steps.{AllSuit, Keeps, keeps_wrong, suits_newest}

body_keeps : (P : TypedProgram) (S : Plain) (o : Option TypedTask) (v : Invocation) → Keeps (look_of S) (work_at_start v) (body_run P S o v)
body_keeps P S None v = keeps_wrong (work_at_start v)
body_keeps P S (Some t) v = statements_keep (world_of P S v) most_turns 0 most_turns (task_frame t v) t.body (work_at_start v)

each_given : {X Y : Type 0} (P : Y → Type 0) (f : X → Option Y) → ((x : X) (y : Y) → f x ≡ Some y → P y) → (xs : List X) → AllByRecursion P (filter_map f xs)
each_given P f h [] = tt
each_given {X = X} {Y = Y} P f h (x ∷ xs) = at (f x) (h x) (each_given P f h xs)
  where
    at : (o : Option Y) → ((y : Y) → o ≡ Some y → P y) → AllByRecursion P (filter_map f xs) → AllByRecursion P (cons_option o (filter_map f xs))
    at None k later = later
    at (Some y) k later = (k y refl, later)

-- a body that is written is like that of its object
written_like : (S : Plain) (w : Work) → AllSuit (look_of S) w.changed → (id : ℕ) (o : Option Body) (c : Written) → slice_get S.bodies id ≡ o → written_of w id o ≡ Some c → HasLike S c.id c.body
written_like S w s id None c e f = absurd (none-some c f)
written_like S w s id (Some b) c e f = at (same_body b (newest w.changed id b)) f
  where
    at : (same : Bool) → cond same None (Some (record { id = id; body = newest w.changed id b })) ≡ Some c → HasLike S c.id c.body
    at true f = absurd (none-some c f)
    at false f =
        subst (λ (d : Written). HasLike S d.id d.body) (same_Some (record { id = id; body = newest w.changed id b }) c f)
        (b, e, like_back b (newest w.changed id b) (suits_newest (look_of S) id b w.changed s e b e))

all_written_like : (S : Plain) (g : Got Flow) (c : Changes) → AllSuit (look_of S) (work_of g).changed → (ending S g).ran ≡ ran.Commit c → AllByRecursion (λ w. HasLike S w.id w.body) c.bodies
all_written_like S (Gives f w) c s e =
    let same : changes_between S w ≡ c = cc in
    subst (λ (d : Changes). AllByRecursion (λ (w : Written). HasLike S w.id w.body) d.bodies) same
    (each_given (λ (w : Written). HasLike S w.id w.body) (λ id. written_of w id (slice_get S.bodies id)) (λ id c f. written_like S w s id (slice_get S.bodies id) c refl f) (range_with_len 0 (length S.bodies)))
all_written_like S (Stops h w) c s e = absurd (cc)

adds_up : (S : Plain) (c : Changes) → AreAlike S.bodies (put_bodies S c.bodies S.bodies) → AddsUp S c (apply_changes S c)
adds_up S c h = record {
  objects = length-append (put_bodies S c.bodies S.bodies) (map (body_in S) c.made)
      ∙ ap (λ (n : ℕ). n + length (map (body_in S) c.made)) (alike_length S.bodies (put_bodies S c.bodies S.bodies) h)
      ∙ ap (λ (n : ℕ). length S.bodies + n) (length-map c.made (body_in S));
  cells = sum_by-append (λ (b : Body). length b.cells) (put_bodies S c.bodies S.bodies) (map (body_in S) c.made)
      ∙ ap (λ (n : ℕ). n + cells_in (map (body_in S) c.made)) (alike_cells S.bodies (put_bodies S c.bodies S.bodies) h)
      ∙ ap (λ (n : ℕ). cells_in S.bodies + n) (made_cells S c.made);
  instances = length-append S.tags c.tags;
  output = length-append S.output c.text;
}

get_more : {X : Type 0} (xs ys : List X) (n : ℕ) (x : X) → slice_get xs n ≡ Some x → slice_get (xs ++ ys) n ≡ Some x
get_more [] ys n x e = absurd (none-some x e)
get_more (y ∷ xs) ys zero x e = e
get_more (y ∷ xs) ys (suc n) x e = get_more xs ys n x e

keeps_sizes : (S : Plain) (c : Changes) → AllByRecursion (λ w. HasLike S w.id w.body) c.bodies → KeepsSizes S c
keeps_sizes S c h =
    let k : AreAlike S.bodies (put_bodies S c.bodies S.bodies) = put_alike S c.bodies S.bodies h (alike_itself S.bodies) in
    let s : AddsUp S c (apply_changes S c) = adds_up S c k in
    record {
      changed = All-from_recursion (λ (w : Written). HasLike S w.id w.body) c.bodies h;
      outgrown = record {
        objects = omega (arith, s.objects);
        bodies = λ id a e. alike_get S.bodies (put_bodies S c.bodies S.bodies) (map (body_in S) c.made) id a k e;
        cells = omega (arith, s.cells);
        instances = omega (arith, s.instances);
        types = λ n type e. get_more S.tags c.tags n type e;
        more = c.text;
        output = refl;
      };
      sums = s;
    }

body_sizes : (P : TypedProgram) (S : Plain) (v : Invocation) (c : Changes) → (body_outcome P S v).ran ≡ ran.Commit c → KeepsSizes S c
body_sizes P S v c e =
    let g : Got Flow = body_run P S (slice_get P.tasks v.task) v in
    keeps_sizes S c (all_written_like S g c ((body_keeps P S (slice_get P.tasks v.task) v).keeps tt) e)

pub keeps_kinds : KeepsKinds
keeps_kinds = record {
  body = body_sizes;
  commit = λ P S v c e. body_sizes P S v c (outcome_commits P S v c e);
}

grown_itself : (S : Plain) → Outgrows S S
grown_itself S = record {
  objects = omega arith;
  bodies = λ id a e. (a, e, like_itself a);
  cells = omega arith;
  instances = omega arith;
  types = λ n type e. e;
  more = [];
  output = sym (append-nil S.output);
}

grown_then : (S T U : Plain) → Outgrows S T → Outgrows T U → Outgrows S U
grown_then S T U g h = record {
  objects = omega (arith, g.objects, h.objects);
  bodies = λ id a e.
      let b : HasLike T id a = g.bodies id a e in
      let c : HasLike U id b.0 = h.bodies id b.0 b.1 in
      (c.0, c.1, like_then a b.0 c.0 b.2 c.2);
  cells = omega (arith, g.cells, h.cells);
  instances = omega (arith, g.instances, h.instances);
  types = λ n type e. h.types n type (g.types n type e);
  more = g.more ++ h.more;
  output = h.output ∙ ap (λ (l : List ℕ). l ++ h.more) g.output ∙ append_assoc S.output g.more h.more;
}

after_grows : (P : TypedProgram) (S : Plain) (r : Ran) (T : Plain) → ((c : Changes) → r ≡ ran.Commit c → Outgrows S (apply_changes S c)) → after_ran P S r ≡ Some T → Outgrows S T
after_grows P S (ran.Commit c) T h e = at (is_crowded P (apply_changes S c)) e
  where
    at : (crowded : Bool) → cond crowded None (Some (apply_changes S c)) ≡ Some T → Outgrows S T
    at true e = absurd (none-some T e)
    at false e = subst (Outgrows S) (same_Some (apply_changes S c) T e) (h c refl)
after_grows P S (ran.Faulted f) T h e = absurd (none-some T e)

commit_grows : (P : TypedProgram) (S : Plain) (v : Invocation) (T : Plain) → after_commit P S v ≡ Some T → Outgrows S T
commit_grows P S v T e = at (is_enabled P S v) e
  where
    at : (enabled : Bool) → cond enabled (after_ran P S (outcome P S v).ran) None ≡ Some T → Outgrows S T
    at true e = after_grows P S (outcome P S v).ran T (λ c f. (body_sizes P S v c (outcome_commits P S v c f)).outgrown) e
    at false e = absurd (none-some T e)

pub history_grows : (P : TypedProgram) (S T : Plain) (history : List Invocation) → replay_from P S history ≡ Some T → Outgrows S T
history_grows P S T [] e = subst (Outgrows S) (same_Some S T e) (grown_itself S)
history_grows P S T (v ∷ vs) e =
    option_and_then_some (λ (U : Plain). replay_from P U vs) (after_commit P S v) T e
    (λ U f h. grown_then S U T (commit_grows P S v U f) (history_grows P U T vs h))

pub histories_grow : HistoriesGrow
histories_grow = record { same = grown_itself; onward = grown_then; history = history_grows }
