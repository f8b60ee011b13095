-- From a state of the machine to what the meaning gives there, in a bounded number of instructions.
use Rattle.std.proofs.Common.{◌≡◌, ℕ, zero, suc, ◌+◌, ◌*◌, ◌≤◌, List, refl, ap, ◌∙◌, arith}
use Rattle.std.proofs.Math.Nat.{mul-le-mul_left}
use Rattle.bc_data.specs.Typed.{TypedProgram}
use Rattle.bc_mean.specs.Evaluate.{World}
use Rattle.bc_mean.specs.Work.{Look, Work, Got, Gives, Stops, Wrong, and_then}
use Rattle.bc_law_locality.specs.Growth.{work_of}
use Rattle.bc_code.specs.declared.code.Code.{Code}
use Rattle.bc_code.specs.Instructions.{Reads, Did, Over, Stuck, goes, next_of, more}
use Rattle.bc_code.specs.Runs.{IsRight}

-- A program, its code, the bodies over which both run, the objects of the invocation's parameters, and for how many
-- instructions a turn pays.
pub record Ground : Type 0 where
  pub program : TypedProgram
  pub code : Code
  pub look : Look
  pub objects : List ℕ
  pub most : ℕ

abbrev pub reads : Ground → Reads
reads G = record { look = G.look; objects = G.objects }

abbrev pub world : Ground → World
world G = record { look = G.look; classes = G.program.classes; objects = G.objects }

pub more_sum : (R : Reads) (code : Code) (m n : ℕ) (a : Did) → more R code (m + n) a ≡ more R code n (more R code m a)
more_sum R code zero n a = let e : zero + n ≡ n = omega arith in ap (λ k. more R code k a) e
more_sum R code (suc m) n a =
    let e : suc m + n ≡ suc (m + n) = omega arith in
    ap (λ k. more R code k a) e ∙ more_sum R code m n (next_of R code a)

pub over_stays : (R : Reads) (code : Code) (n : ℕ) (g : Got (Unit {0})) → more R code n (Over g) ≡ Over g
over_stays R code zero g = refl
over_stays R code (suc n) g = over_stays R code n g

pub stuck_stays : (R : Reads) (code : Code) (n : ℕ) → more R code n Stuck ≡ Stuck
stuck_stays R code zero = refl
stuck_stays R code (suc n) = stuck_stays R code n

mul_le : (k a b : ℕ) → a ≤ b → k * a ≤ k * b
mul_le k a b h = mul-le-mul_left k h

pub below : {a b c : ℕ} → a ≤ b → b ≤ c → a ≤ c
below h k = omega arith

-- turns are only used up, never added
pub record Lower (w : Work) {A : Type 0} (g : Got A) : Type 0 where
  pub turns : (work_of g).turns ≤ w.turns

-- what is known of what is given, and of the work then
abbrev pub Gave : {A : Type 0} → (A → Work → Type 0) → Got A → Type 0
Gave T (Gives x w) = T x w
Gave T (Stops h w) = Unit {0}

-- a turn was used
abbrev pub Used : {A : Type 0} → Work → Got A → Type 0
Used w g = Gave (λ _ v. v.turns + 1 ≤ w.turns) g

-- From a the machine comes to what g says, with t turns before, unless g stops where a form has no meaning. A turn that is
-- used pays for the instructions of a unit, and c more are done at most.
pub record Leads (G : Ground) (t c : ℕ) {A : Type 0} (a : Did) (g : Got A) (out : A → Work → Did) : Type 0 where
  pub steps : ℕ
  pub is : IsRight g → more (reads G) G.code steps a ≡ goes g out
  pub bound : IsRight g → steps + G.most * (work_of g).turns ≤ c + G.most * t

gave_any : {A : Type 0} (g : Got A) → Gave (λ _ _. Unit {0}) g
gave_any (Gives x w) = tt
gave_any (Stops h w) = tt

-- at most one instruction behind
pub record Near (G : Ground) (a b : Did) : Type 0 where
  pub steps : ℕ
  pub is : more (reads G) G.code steps a ≡ b
  pub few : steps ≤ 1

module _ {G : Ground} where
  pub wrong_now : {A : Type 0} {t c : ℕ} {a : Did} {w : Work} {out : A → Work → Did} → Leads G t c a (Stops Wrong w) out
  wrong_now = record { steps = 0; is = λ r. absurd r; bound = λ r. absurd r }

  pub here_now : {A : Type 0} {t c : ℕ} {x : A} {w : Work} {out : A → Work → Did} → w.turns ≤ t → Leads G t c (out x w) (Gives x w) out
  here_now {t = t} {w = w} le =
      let m = mul_le G.most w.turns t le in
      record { steps = 0; is = λ r. refl; bound = λ r. omega arith }

  -- one instruction first
  pub step_on : {A : Type 0} {t c : ℕ} {a b : Did} {g : Got A} {out : A → Work → Did} → more (reads G) G.code 1 a ≡ b → Leads G t c b g out → Leads G t (1 + c) a g out
  step_on {a = a} e l = record {
    steps = 1 + l.steps;
    is = λ r. more_sum (reads G) G.code 1 l.steps a ∙ ap (more (reads G) G.code l.steps) e ∙ l.is r;
    bound = λ r. omega (arith, l.bound r);
  }

  -- one instruction alone
  pub step_to : {A : Type 0} {w : Work} {a : Did} {g : Got A} {out : A → Work → Did} → more (reads G) G.code 1 a ≡ goes g out → Lower w g → Leads G w.turns 1 a g out
  step_to {w = w} {g = g} e le =
      let m = mul_le G.most (work_of g).turns w.turns le.turns in
      record { steps = 1; is = λ r. e; bound = λ r. omega arith }

  pub wider : {A : Type 0} {t c d : ℕ} {a : Did} {g : Got A} {out : A → Work → Did} → c ≤ d → Leads G t c a g out → Leads G t d a g out
  wider le l = record { steps = l.steps; is = l.is; bound = λ r. omega (arith, l.bound r) }

  then_at :
      {A B : Type 0} (T : A → Work → Type 0) (t c d : ℕ) (a : Did) (g : Got A) (go : A → Work → Got B) (mid : A → Work → Did) (out : B → Work → Did)
      → Gave T g → Leads G t c a g mid → ((x : A) (v : Work) → T x v → Leads G v.turns d (mid x v) (go x v) out)
      → Leads G t (c + d) a (and_then g go) out
  then_at T t c d a (Gives x v) go mid out gave l k =
      let m = k x v gave in
      record {
        steps = l.steps + m.steps;
        is = λ r. more_sum (reads G) G.code l.steps m.steps a ∙ ap (more (reads G) G.code m.steps) (l.is tt) ∙ m.is r;
        bound = λ r. omega (arith, l.bound tt, m.bound r);
      }
  then_at T t c d a (Stops h v) go mid out gave l k = record {
    steps = l.steps;
    is = λ r. l.is r;
    bound = λ r. omega (arith, l.bound r);
  }

  -- one after the other, with what is known of what the first gave
  pub goes_with :
      {A B : Type 0} (T : A → Work → Type 0) {t c d : ℕ} {a : Did} {g : Got A} {go : A → Work → Got B} {mid : A → Work → Did} {out : B → Work → Did}
      → Gave T g → Leads G t c a g mid → ((x : A) (v : Work) → T x v → Leads G v.turns d (mid x v) (go x v) out)
      → Leads G t (c + d) a (and_then g go) out
  goes_with T {t = t} {c = c} {d = d} {a = a} {g = g} {go = go} {mid = mid} {out = out} gave l k =
      then_at T t c d a g go mid out gave l k

  pub goes_then :
      {A B : Type 0} {t c d : ℕ} {a : Did} {g : Got A} {go : A → Work → Got B} {mid : A → Work → Did} {out : B → Work → Did}
      → Leads G t c a g mid → ((x : A) (v : Work) → Leads G v.turns d (mid x v) (go x v) out)
      → Leads G t (c + d) a (and_then g go) out
  goes_then {A = A} {t = t} {c = c} {d = d} {a = a} {g = g} {go = go} {mid = mid} {out = out} l k =
      then_at (λ (x : A) (v : Work). Unit {0}) t c d a g go mid out (gave_any g) l (λ x v _. k x v)

  mapped_at :
      {A B : Type 0} (t c : ℕ) (a : Did) (g : Got A) (h : A → B) (out : B → Work → Did) → Leads G t c a g (λ x v. out (h x) v)
      → Leads G t c a (and_then g (λ x v. Gives (h x) v)) out
  mapped_at t c a (Gives x v) h out l = record { steps = l.steps; is = l.is; bound = l.bound }
  mapped_at t c a (Stops s v) h out l = record { steps = l.steps; is = λ r. l.is r; bound = λ r. l.bound r }

  -- the same, with another value
  pub mapped :
      {A B : Type 0} {t c : ℕ} {a : Did} {g : Got A} (h : A → B) {out : B → Work → Did} → Leads G t c a g (λ x v. out (h x) v)
      → Leads G t c a (and_then g (λ x v. Gives (h x) v)) out
  mapped {t = t} {c = c} {a = a} {g = g} h {out = out} l = mapped_at t c a g h out l

  alike_at : {A : Type 0} (t c : ℕ) (a : Did) (g : Got A) (mid out : A → Work → Did) → Leads G t c a g mid → ((x : A) (v : Work) → mid x v ≡ out x v) → Leads G t c a g out
  alike_at t c a (Gives x v) mid out l k = record { steps = l.steps; is = λ r. l.is r ∙ k x v; bound = l.bound }
  alike_at t c a (Stops h v) mid out l k = record { steps = l.steps; is = λ r. l.is r; bound = λ r. l.bound r }

  -- the same state, otherwise written
  pub alike : {A : Type 0} {t c : ℕ} {a : Did} {g : Got A} {mid out : A → Work → Did} → Leads G t c a g mid → ((x : A) (v : Work) → mid x v ≡ out x v) → Leads G t c a g out
  alike {t = t} {c = c} {a = a} {g = g} {mid = mid} {out = out} l k = alike_at t c a g mid out l k

  pays_at :
      {A B : Type 0} (t c d j : ℕ) (a : Did) (g : Got A) (go : A → Work → Got B) (mid : A → Work → Did) (out : B → Work → Did) → j ≤ c → d ≤ G.most
      → Gave (λ _ v. v.turns + 1 ≤ t) g → (work_of g).turns ≤ t → more (reads G) G.code j a ≡ goes g mid
      → ((x : A) (v : Work) → Leads G v.turns d (mid x v) (go x v) out)
      → Leads G t c a (and_then g go) out
  pays_at t c d j a (Gives x v) go mid out jc dk gave le e k =
      let m = k x v in
      let p = mul_le G.most (v.turns + 1) t gave in
      record {
        steps = j + m.steps;
        is = λ r. more_sum (reads G) G.code j m.steps a ∙ ap (more (reads G) G.code m.steps) e ∙ m.is r;
        bound = λ r. omega (arith, m.bound r, p);
      }
  pays_at t c d j a (Stops h v) go mid out jc dk gave le e k =
      let p = mul_le G.most v.turns t le in
      record { steps = j; is = λ r. e; bound = λ r. omega arith }

  -- one after the other, where the first uses a turn
  pub pays_then :
      {A B : Type 0} {w : Work} {c d : ℕ} (j : ℕ) {a : Did} {g : Got A} {go : A → Work → Got B} {mid : A → Work → Did} {out : B → Work → Did} → j ≤ c → d ≤ G.most
      → Used w g → Lower w g → more (reads G) G.code j a ≡ goes g mid
      → ((x : A) (v : Work) → Leads G v.turns d (mid x v) (go x v) out)
      → Leads G w.turns c a (and_then g go) out
  pays_then {w = w} {c = c} {d = d} j {a = a} {g = g} {go = go} {mid = mid} {out = out} jc dk gave le e k =
      pays_at w.turns c d j a g go mid out jc dk gave le.turns e k

  near_at : {A : Type 0} (t c : ℕ) (a : Did) (g : Got A) (mid out : A → Work → Did) → Leads G t c a g mid → ((x : A) (v : Work) → Near G (mid x v) (out x v)) → Leads G t (c + 1) a g out
  near_at t c a (Gives x v) mid out l k =
      let m = k x v in
      let few = m.few in
      record {
        steps = l.steps + m.steps;
        is = λ r. more_sum (reads G) G.code l.steps m.steps a ∙ ap (more (reads G) G.code m.steps) (l.is r) ∙ m.is;
        bound = λ r. omega (arith, l.bound r);
      }
  near_at t c a (Stops h v) mid out l k = record { steps = l.steps; is = λ r. l.is r; bound = λ r. omega (arith, l.bound r) }

  -- and at most one instruction more
  pub goes_near : {A : Type 0} {t c : ℕ} {a : Did} {g : Got A} {mid out : A → Work → Did} → Leads G t c a g mid → ((x : A) (v : Work) → Near G (mid x v) (out x v)) → Leads G t (c + 1) a g out
  goes_near {t = t} {c = c} {a = a} {g = g} {mid = mid} {out = out} l k = near_at t c a g mid out l k

pub goes_and_then : {A B : Type 0} (g : Got A) (f : A → Work → Got B) (k : B → Work → Did) → goes (and_then g f) k ≡ goes g (λ x v. goes (f x v) k)
goes_and_then (Gives x v) f k = refl
goes_and_then (Stops h v) f k = refl

pub regroup : {A B C : Type 0} (g : Got A) (f : A → Work → Got B) (h : B → Work → Got C) → and_then (and_then g f) h ≡ and_then g (λ x v. and_then (f x v) h)
regroup (Gives x v) f h = refl
regroup (Stops s v) f h = refl

pub regroup_twice :
    {A B C D : Type 0} (g : Got A) (f : A → Work → Got B) (h : A → B → Work → Got C) (k : C → Work → Got D)
    → and_then (and_then g (λ x v. and_then (f x v) (h x))) k ≡ and_then g (λ x v. and_then (f x v) (λ y u. and_then (h x y u) k))
regroup_twice (Gives x v) f h k = regroup (f x v) (h x) k
regroup_twice (Stops s v) f h k = refl
