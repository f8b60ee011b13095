-- Two runs over two look-ups, from one work on: what holds of them, and how it passes from step to step.
use Rattle.std.proofs.Common.{◌≡◌, ℕ, ◌⊎◌, inl, inr, Bool, true, false, List, [], ◌∷◌, ◌++◌, refl, sym, ap, ◌∙◌, subst, append-nil, append_assoc, arith}
use Rattle.std.specs.Prelude.{None, IsSome}
use Rattle.std.specs.List.{AllByRecursion}
use Rattle.bc_data.specs.declared.run.Place.{Place}
use Rattle.bc_data.specs.declared.run.FaultKind.{FaultKind}
use Rattle.bc_mean.specs.Work.{Look, Work, Halt, Faulted, Missing, Wrong, Got, Gives, Stops, and_then, faults}
use Rattle.bc_law_locality.specs.Growth.{AreIn, Grows, has, work_of}
use Rattle.bc_law_locality.proofs.Lists.{in_more}

pub moved : (objects : List ℕ) (w v : Work) → Grows objects w v → AreIn objects w.touched → AreIn objects v.touched
moved objects w v g p = subst (AreIn objects) (sym g.touched) (in_more objects w.touched g.rest p)

pub stays : (objects : List ℕ) (w : Work) → Grows objects w w
stays objects w = record {
  rest = [];
  touched = sym (append-nil w.touched);
  once = λ d. d;
  turns = omega arith;
  made = omega arith;
  new_instances = [];
  instances = sym (append-nil w.instances);
  new_text = [];
  text = sym (append-nil w.text);
  within = λ p c. c;
}

longer : {X : Type 0} (xs ys zs more rest : List X) → ys ≡ xs ++ more → zs ≡ ys ++ rest → zs ≡ xs ++ (more ++ rest)
longer {X = X} xs ys zs more rest e f = f ∙ ap (λ (l : List X). l ++ rest) e ∙ append_assoc xs more rest

pub chain : (objects : List ℕ) (u v w : Work) → Grows objects u v → Grows objects v w → Grows objects u w
chain objects u v w g h = record {
  rest = g.rest ++ h.rest;
  touched = longer u.touched v.touched w.touched g.rest h.rest g.touched h.touched;
  once = λ d. h.once (g.once d);
  turns = omega (arith, g.turns, h.turns);
  made = omega (arith, g.made, h.made);
  new_instances = g.new_instances ++ h.new_instances;
  instances = longer u.instances v.instances w.instances g.new_instances h.new_instances g.instances h.instances;
  new_text = g.new_text ++ h.new_text;
  text = longer u.text v.text w.text g.new_text h.new_text g.text h.text;
  within = λ p c. h.within (moved objects u v g p) (g.within p c);
}

pub grows_then : {A B : Type 0} (objects : List ℕ) (w : Work) (g : Got A) (go : A → Work → Got B) → Grows objects w (work_of g) → ((x : A) (v : Work) → Grows objects v (work_of (go x v))) → Grows objects w (work_of (and_then g go))
grows_then objects w (Gives x v) go t k = chain objects w v (work_of (go x v)) t (k x v)
grows_then objects w (Stops h v) go t k = t

-- two look-ups, which are alike apart from objects that are open, and the objects of the parameters
pub record Looks : Type 0 where
  pub left : Look
  pub right : Look
  pub is_open : ℕ → Bool
  pub alike : (id : ℕ) → is_open id ≡ false → left id ≡ right id
  pub objects : List ℕ

-- two runs that came to one work, in which an open object is touched, and went on apart
pub record Apart (K : Looks) (v w : Work) : Type 0 where
  pub fork : Work
  pub id : ℕ
  pub opens : K.is_open id ≡ true
  pub touched : has fork.touched id ≡ true
  pub left : Grows K.objects fork v
  pub right : Grows K.objects fork w

abbrev pub Agrees : {A : Type 0} → Looks → Got A → Got A → Type 0
Agrees K g h = (h ≡ g) ⊎ Apart K (work_of g) (work_of h)

abbrev pub Known : Look → List ℕ → Type 0
Known L ids = AllByRecursion (λ id. IsSome (L id)) ids

-- the touched objects of a stop for an object: known ones, and that one
pub record Ends (L : Look) (id : ℕ) (ids : List ℕ) : Type 0 where
  pub front : List ℕ
  pub is : ids ≡ front ++ id ∷ []
  pub known : Known L front
  pub unknown : L id ≡ None

abbrev pub KnowsAtHalt : Look → Halt → List ℕ → Type 0
KnowsAtHalt L (Faulted f) ids = Known L ids
KnowsAtHalt L (Missing id) ids = Ends L id ids
KnowsAtHalt L Wrong ids = Known L ids

abbrev pub Knows : {A : Type 0} → Look → Got A → Type 0
Knows L (Gives x w) = Known L w.touched
Knows L (Stops h w) = KnowsAtHalt L h w.touched

-- All that is needed of a run over the left look-up and the same run over the right one, both from w on.
pub record Tied (K : Looks) {A : Type 0} (w : Work) (g h : Got A) : Type 0 where
  pub left : Grows K.objects w (work_of g)
  pub right : Grows K.objects w (work_of h)
  pub agrees : AreIn K.objects w.touched → Agrees K g h
  pub knows : AreIn K.objects w.touched → Known K.left w.touched → Knows K.left g

-- a step that is one over both, and touches no object
pub tied_here : {A : Type 0} {K : Looks} (w v : Work) (x : A) → Grows K.objects w v → v.touched ≡ w.touched → Tied K w (Gives x v) (Gives x v)
tied_here {K = K} w v x g e = record { left = g; right = g; agrees = λ p. inl refl; knows = λ p k. subst (Known K.left) (sym e) k }

pub tied_same : {A : Type 0} {K : Looks} (w : Work) (x : A) → Tied K w (Gives x w) (Gives x w)
tied_same {K = K} w x = tied_here w w x (stays K.objects w) refl

pub tied_fault : {A : Type 0} {K : Looks} (w : Work) (k : FaultKind) (at : Place) → Tied K {A = A} w (faults k at w) (faults k at w)
tied_fault {K = K} w k at = record { left = stays K.objects w; right = stays K.objects w; agrees = λ p. inl refl; knows = λ p k. k }

pub tied_wrong : {A : Type 0} {K : Looks} (w : Work) → Tied K {A = A} w (Stops Wrong w) (Stops Wrong w)
tied_wrong {K = K} w = record { left = stays K.objects w; right = stays K.objects w; agrees = λ p. inl refl; knows = λ p k. k }

agrees_then : {A B : Type 0} (K : Looks) (w : Work) (g h : Got A) (go to : A → Work → Got B) → h ≡ g → Grows K.objects w (work_of g) → ((x : A) (v : Work) → Tied K v (go x v) (to x v)) → AreIn K.objects w.touched → Agrees K (and_then g go) (and_then h to)
agrees_then {A = A} K w (Gives x v) h go to e t k p =
    subst (λ (m : Got A). Agrees K (go x v) (and_then m to)) (sym e) ((k x v).agrees (moved K.objects w v t p))
agrees_then {A = A} K w (Stops s v) h go to e t k p = inl (ap (λ (m : Got A). and_then m to) e)

knows_then : {A B : Type 0} (K : Looks) (w : Work) (g : Got A) (go to : A → Work → Got B) → Grows K.objects w (work_of g) → ((x : A) (v : Work) → Tied K v (go x v) (to x v)) → AreIn K.objects w.touched → Knows K.left g → Knows K.left (and_then g go)
knows_then K w (Gives x v) go to t k p n = (k x v).knows (moved K.objects w v t p) n
knows_then K w (Stops s v) go to t k p n = n

pub tied_then : {A B : Type 0} {K : Looks} {w : Work} {g h : Got A} {go to : A → Work → Got B} → Tied K w g h → ((x : A) (v : Work) → Tied K v (go x v) (to x v)) → Tied K w (and_then g go) (and_then h to)
tied_then {K = K} {w = w} {g = g} {h = h} {go = go} {to = to} t k = record {
  left = grows_then K.objects w g go t.left (λ x v. (k x v).left);
  right = grows_then K.objects w h to t.right (λ x v. (k x v).right);
  agrees = λ p. elim (t.agrees p) [
    | inl e ↦ agrees_then K w g h go to e t.left k p
    | inr a ↦ inr (record {
      fork = a.fork;
      id = a.id;
      opens = a.opens;
      touched = a.touched;
      left = grows_then K.objects a.fork g go a.left (λ x v. (k x v).left);
      right = grows_then K.objects a.fork h to a.right (λ x v. (k x v).right);
    })
  ];
  knows = λ p n. knows_then K w g go to t.left k p (t.knows p n);
}

-- the same from an earlier work on
pub tied_after : {A : Type 0} {K : Looks} {g h : Got A} (w v : Work) → Grows K.objects w v → (Known K.left w.touched → Known K.left v.touched) → Tied K v g h → Tied K w g h
tied_after {K = K} {g = g} {h = h} w v step keeps t = record {
  left = chain K.objects w v (work_of g) step t.left;
  right = chain K.objects w v (work_of h) step t.right;
  agrees = λ p. t.agrees (moved K.objects w v step p);
  knows = λ p n. t.knows (moved K.objects w v step p) (keeps n);
}
