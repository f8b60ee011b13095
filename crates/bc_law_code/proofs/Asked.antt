-- Runs over the bodies given so far: they touch those objects in their order, and then the one that is asked for.
use Rattle.std.proofs.Common.{◌≡◌, ℕ, Bool, true, false, cond, ◌==◌, List, [], ◌∷◌, ◌++◌, refl, sym, ap, ◌∙◌, subst, append-nil, append_assoc}
use Rattle.std.specs.Prelude.{slice_get, Option, Some, None, IsSome}
use Rattle.std.proofs.lemmas.Bool.{eq-eqb}
use Rattle.std.proofs.lemmas.List.Elements.{All-from_recursion}
use Rattle.bc_data.specs.Typed.{TypedTask, TypedProgram}
use Rattle.bc_data.specs.declared.run.Body.{Body}
use Rattle.bc_data.specs.declared.run.Invocation.{Invocation}
use Rattle.bc_data.specs.declared.run.Written.{Written}
use Rattle.bc_mean.specs.Enabled.{are_different}
use Rattle.bc_mean.specs.Execute.{Flow, most_turns, task_frame}
use Rattle.bc_mean.specs.Outcome.{work_at_start}
use Rattle.bc_mean.specs.Work.{Look, Work, Got, Gives, Stops, Faulted, Missing, Wrong}
use Rattle.bc_law_locality.specs.Growth.{Grows, work_of}
use Rattle.bc_law_locality.specs.Laws.{AllKnown, Asks, Extends, Says}
use Rattle.bc_law_locality.proofs.Lists.{in_itself}
use Rattle.bc_law_locality.proofs.Runs.{runs_say}
use Rattle.bc_law_locality.proofs.Statements.{statements_tied}
use Rattle.bc_law_locality.proofs.Tied.{Known, Knows, Looks, Tied, tied_wrong}
use Rattle.bc_code.specs.Given.{given_look, ids_of}
use Rattle.bc_code.specs.Runs.{ended, run_over, task_over, world_over}
use Rattle.bc_law_code.specs.Laws.{Asked, AskedInOrder, and_body}
use Rattle.bc_law_code.proofs.Lists.{cut_last, given_known, known_front, none_behind, not_given}

-- Given one body more, all that was known is known as it was.
pub look_more : (gs : List Written) (id : ℕ) (b : Body) → Extends (given_look gs) (given_look (and_body gs id b))
look_more [] id b i c e = absurd (cc)
look_more (g ∷ gs) id b i c e = at (g.id == i) (look_more gs id b i c) e
  where
    at : (same : Bool) → (given_look gs i ≡ Some c → given_look (and_body gs id b) i ≡ Some c) → cond same (Some g.body) (given_look gs i) ≡ Some c → cond same (Some g.body) (given_look (and_body gs id b) i) ≡ Some c
    at true later e = e
    at false later e = later e

-- the body that is given last is the one found, where none was known before
pub look_at_last : (gs : List Written) (id : ℕ) (b : Body) → given_look gs id ≡ None → given_look (and_body gs id b) id ≡ Some b
look_at_last [] id b e = ap (λ (same : Bool). cond same (Some b) None) (eq-eqb id id refl)
look_at_last (g ∷ gs) id b e = at (g.id == id) (look_at_last gs id b) e
  where
    at : (same : Bool) → (given_look gs id ≡ None → given_look (and_body gs id b) id ≡ Some b) → cond same (Some g.body) (given_look gs id) ≡ None → cond same (Some g.body) (given_look (and_body gs id b) id) ≡ Some b
    at true later e = absurd (cc)
    at false later e = later e

pub ids_more : (gs : List Written) (id : ℕ) (b : Body) → ids_of (and_body gs id b) ≡ ids_of gs ++ id ∷ []
ids_more [] id b = refl
ids_more (g ∷ gs) id b = ap (λ (l : List ℕ). g.id ∷ l) (ids_more gs id b)

-- one look-up on both sides
abbrev alone : Look → List ℕ → Looks
alone L objects = record { left = L; right = L; is_open = λ id. false; alike = λ id e. refl; objects = objects }

own_tied : (P : TypedProgram) (L : Look) (o : Option TypedTask) (v : Invocation) → Tied (alone L v.objects) (work_at_start v) (task_over P L o v) (task_over P L o v)
own_tied P L None v = tied_wrong (work_at_start v)
own_tied P L (Some t) v = statements_tied (alone L v.objects) P.classes most_turns 0 most_turns (task_frame t v) t.body (work_at_start v)

-- What a run did stays done, over any bodies.
pub run_over_grows : (P : TypedProgram) (L : Look) (v : Invocation) → Grows v.objects (work_at_start v) (work_of (run_over P L v))
run_over_grows P L v = (own_tied P L (slice_get P.tasks v.task) v).left

run_knows : (P : TypedProgram) (L : Look) (v : Invocation) → Known L v.objects → Knows L (run_over P L v)
run_knows P L v k = (own_tied P L (slice_get P.tasks v.task) v).knows (in_itself v.objects) k

task_says : (P : TypedProgram) (L M : Look) (o : Option TypedTask) (v : Invocation) → Extends L M → AllKnown L v.objects → Says L (task_over P L o v) (task_over P M o v)
task_says P L M None v x k = (refl, k)
task_says P L M (Some t) v x k = runs_say.task (world_over P L v) M t v x refl k

-- what a run over some bodies says of the run over more
pub run_over_says : (P : TypedProgram) (L M : Look) (v : Invocation) → Extends L M → AllKnown L v.objects → Says L (run_over P L v) (run_over P M v)
run_over_says P L M v x k = task_says P L M (slice_get P.tasks v.task) v x k

all_known : (L : Look) (ids : List ℕ) → Known L ids → AllKnown L ids
all_known L ids k = All-from_recursion (λ id. IsSome (L id)) ids k

-- every object whose body is given is known
pub all_given : (gs : List Written) → AllKnown (given_look gs) (ids_of gs)
all_given gs = all_known (given_look gs) (ids_of gs) (given_known gs)

objects_known : (gs : List Written) (objects rest : List ℕ) → ids_of gs ≡ objects ++ rest → Known (given_look gs) objects
objects_known gs objects rest e = known_front (given_look gs) objects rest (subst (Known (given_look gs)) e (given_known gs))

-- those of the parameters too, where the bodies given begin with theirs
pub parameters_known : (gs : List Written) (objects rest : List ℕ) → ids_of gs ≡ objects ++ rest → AllKnown (given_look gs) objects
parameters_known gs objects rest e = all_known (given_look gs) objects (objects_known gs objects rest e)

-- objects that begin with those given are all known only where they are those given
all_of : (gs : List Written) (ids rest tail : List ℕ) → ids ≡ ids_of gs ++ rest → Known (given_look gs) ids → are_different (ids ++ tail) ≡ true → ids ≡ ids_of gs
all_of gs ids rest tail e k d =
    let different : are_different (ids_of gs ++ (rest ++ tail)) ≡ true =
    subst (λ (l : List ℕ). are_different l ≡ true) (ap (λ (l : List ℕ). l ++ tail) e ∙ append_assoc (ids_of gs) rest tail) d in
    let none = none_behind gs rest tail (subst (Known (given_look gs)) e k) different in
    e ∙ ap (λ (l : List ℕ). ids_of gs ++ l) none ∙ append-nil (ids_of gs)

whole : (gs : List Written) (ids rest : List ℕ) → ids ≡ ids_of gs ++ rest → Known (given_look gs) ids → are_different ids ≡ true → ids ≡ ids_of gs
whole gs ids rest e k d = all_of gs ids rest [] e k (subst (λ (l : List ℕ). are_different l ≡ true) (sym (append-nil ids)) d)

asked_of : (gs : List Written) (g : Got Flow) (rest : List ℕ) → (work_of g).touched ≡ ids_of gs ++ rest → Knows (given_look gs) g → are_different (work_of g).touched ≡ true → Asked gs g
asked_of gs (Gives x w) rest e k d = whole gs w.touched rest e k d
asked_of gs (Stops (Faulted f) w) rest e k d = whole gs w.touched rest e k d
asked_of gs (Stops Wrong w) rest e k d = whole gs w.touched rest e k d
asked_of gs (Stops (Missing id) w) rest e k d =
    let r = cut_last (ids_of gs) k.front rest id (sym e ∙ k.is) (not_given gs id k.unknown) in
    let different : are_different (k.front ++ id ∷ []) ≡ true = subst (λ (l : List ℕ). are_different l ≡ true) k.is d in
    k.is ∙ ap (λ (l : List ℕ). l ++ id ∷ []) (all_of gs k.front r.0 (id ∷ []) r.1 k.known different)

-- a run over the bodies given touches these first, and then no other that is known
asked : (P : TypedProgram) (v : Invocation) (gs : List Written) (front rest : List ℕ) → ids_of gs ≡ v.objects ++ front → (work_of (run_over P (given_look gs) v)).touched ≡ ids_of gs ++ rest → are_different v.objects ≡ true → Asked gs (run_over P (given_look gs) v)
asked P v gs front rest s e d =
    asked_of gs (run_over P (given_look gs) v) rest e (run_knows P (given_look gs) v (objects_known gs v.objects front s)) ((run_over_grows P (given_look gs) v).once d)

first : (P : TypedProgram) (v : Invocation) (gs : List Written) → ids_of gs ≡ v.objects → are_different v.objects ≡ true → Asked gs (run_over P (given_look gs) v)
first P v gs e d =
    let t = run_over_grows P (given_look gs) v in
    asked P v gs [] t.rest (e ∙ sym (append-nil v.objects)) (t.touched ∙ ap (λ (l : List ℕ). l ++ t.rest) (sym e)) d

-- what a run over the bodies given asks for: the first object that any run over more touches and that isn't given
pub record AsksFor (gs : List Written) (id : ℕ) (touched : List ℕ) : Type 0 where
  pub rest : List ℕ
  pub begins : touched ≡ ids_of gs ++ id ∷ rest
  pub unknown : given_look gs id ≡ None

asks_for : (gs : List Written) (id : ℕ) (own more : List ℕ) → own ≡ ids_of gs ++ id ∷ [] → Asks (given_look gs) id own more → AsksFor gs id more
asks_for gs id own more e a = record {
  rest = a.rest;
  begins = a.begins ∙ ap (λ (l : List ℕ). l ++ a.rest) e ∙ append_assoc (ids_of gs) (id ∷ []) a.rest;
  unknown = a.unknown;
}

-- Where a run over the bodies given is missing a body, every run over more touches that object first behind those given.
pub asks_over_more :
    (P : TypedProgram) (v : Invocation) (gs : List Written) (M : Look) (id : ℕ) (w : Work) (rest : List ℕ)
    → ids_of gs ≡ v.objects ++ rest
    → Extends (given_look gs) M
    → Asked gs (run_over P (given_look gs) v)
    → run_over P (given_look gs) v ≡ Stops (Missing id) w
    → AsksFor gs id (work_of (run_over P M v)).touched
asks_over_more P v gs M id w rest s x a e =
    let own : w.touched ≡ ids_of gs ++ id ∷ [] = subst (Asked gs) e a in
    let says : Asks (given_look gs) id w.touched (work_of (run_over P M v)).touched =
    subst (λ (g : Got Flow). Says (given_look gs) g (run_over P M v)) e (run_over_says P (given_look gs) M v x (parameters_known gs v.objects rest s)) in
    asks_for gs id w.touched (work_of (run_over P M v)).touched own says

next :
    (P : TypedProgram) (v : Invocation) (gs : List Written) (id : ℕ) (b : Body) (w : Work) (rest : List ℕ)
    → ids_of gs ≡ v.objects ++ rest
    → are_different v.objects ≡ true
    → Asked gs (run_over P (given_look gs) v)
    → run_over P (given_look gs) v ≡ Stops (Missing id) w
    → Asked (and_body gs id b) (run_over P (given_look (and_body gs id b)) v)
next P v gs id b w rest s d a e =
    let hs = and_body gs id b in
    let f = asks_over_more P v gs (given_look hs) id w rest s (look_more gs id b) a e in
    let begins : ids_of hs ≡ v.objects ++ (rest ++ id ∷ []) = ids_more gs id b ∙ ap (λ (l : List ℕ). l ++ id ∷ []) s ∙ append_assoc v.objects rest (id ∷ []) in
    let touched : (work_of (run_over P (given_look hs) v)).touched ≡ ids_of hs ++ f.rest =
    f.begins ∙ sym (append_assoc (ids_of gs) (id ∷ []) f.rest) ∙ ap (λ (l : List ℕ). l ++ f.rest) (sym (ids_more gs id b)) in
    asked P v hs (rest ++ id ∷ []) f.rest begins touched d

pub asked_in_order : AskedInOrder
asked_in_order = record { first = first; next = next }

-- a run that was missing no body
abbrev pub IsWhole : {A : Type 0} → Got A → Type 0
IsWhole (Gives x w) = Unit {0}
IsWhole (Stops (Faulted f) w) = Unit {0}
IsWhole (Stops (Missing id) w) = ⊥
IsWhole (Stops Wrong w) = Unit {0}

whole_touched : (gs : List Written) (g : Got Flow) → IsWhole g → Asked gs g → (work_of g).touched ≡ ids_of gs
whole_touched gs (Gives x w) i a = a
whole_touched gs (Stops (Faulted f) w) i a = a
whole_touched gs (Stops (Missing id) w) i a = absurd i
whole_touched gs (Stops Wrong w) i a = a

whole_says : (L : Look) (g h : Got Flow) → IsWhole g → Says L g h → (h ≡ g) × AllKnown L (work_of g).touched
whole_says L (Gives x w) h i s = s
whole_says L (Stops (Faulted f) w) h i s = s
whole_says L (Stops (Missing id) w) h i s = absurd i
whole_says L (Stops Wrong w) h i s = s

-- what a run over the bodies given says of a run over more, where it was missing none: it is the same run, which touches
-- those given and no others
pub record SameOverMore (gs : List Written) (own more : Got Flow) : Type 0 where
  pub same : more ≡ own
  pub touched : (work_of more).touched ≡ ids_of gs
  pub known : AllKnown (given_look gs) (work_of more).touched

-- Where a run over the bodies given is missing none, it is the run over all that extend them.
pub same_over_more :
    (P : TypedProgram) (v : Invocation) (gs : List Written) (M : Look)
    → Extends (given_look gs) M
    → Asked gs (run_over P (given_look gs) v)
    → IsWhole (run_over P (given_look gs) v)
    → SameOverMore gs (run_over P (given_look gs) v) (run_over P M v)
same_over_more P v gs M x a i =
    let own = run_over P (given_look gs) v in
    let t = run_over_grows P (given_look gs) v in
    let touched : (work_of own).touched ≡ ids_of gs = whole_touched gs own i a in
    let says = whole_says (given_look gs) own (run_over P M v) i (run_over_says P (given_look gs) M v x (parameters_known gs v.objects t.rest (sym touched ∙ t.touched))) in
    let more : (work_of (run_over P M v)).touched ≡ ids_of gs = ap (λ (g : Got Flow). (work_of g).touched) says.0 ∙ touched in
    record {
      same = says.0;
      touched = more;
      known = subst (AllKnown (given_look gs)) (sym more) (all_given gs);
    }

-- the same of the end alone, which is what the machine comes to
pub asked_ended : (gs : List Written) (g : Got Flow) → Asked gs g → Asked gs (ended g)
asked_ended gs (Gives x w) a = a
asked_ended gs (Stops (Faulted f) w) a = a
asked_ended gs (Stops (Missing id) w) a = a
asked_ended gs (Stops Wrong w) a = a

pub whole_ended : (g : Got Flow) → IsWhole (ended g) → IsWhole g
whole_ended (Gives x w) i = i
whole_ended (Stops (Faulted f) w) i = i
whole_ended (Stops (Missing id) w) i = i
whole_ended (Stops Wrong w) i = i

pub missing_ended : (g : Got Flow) (id : ℕ) (w : Work) → ended g ≡ Stops (Missing id) w → g ≡ Stops (Missing id) w
missing_ended (Gives x v) id w e = absurd (cc)
missing_ended (Stops h v) id w e =
    let halt : h ≡ Missing id = cc in
    let work : v ≡ w = cc in
    cc
