-- Parts of an instruction against the meaning's steps, and a whole instruction of them.
use Rattle.std.proofs.Common.{◌≡◌, ℕ, ℤ, ◌<◌, ◌≤◌, Bool, true, false, if◌then◌else◌, ◌==◌, List, [], ◌∷◌, ◌++◌, reverse, refl, sym, ◌∙◌, ap, arith, subst, Option, Some, None}
use Rattle.std.specs.Prelude.{pos, nat_lt, take, length, option_map, slice_get}
use Rattle.std.proofs.lemmas.Bool.{le-leb, le-ltb, lt-ltb}
use Rattle.std.specs.Global.{Vec}
use Rattle.std.specs.Global.{Vec}
use Rattle.std.specs.Global.{Vec}
use Rattle.std.specs.Global.{Vec}
use Rattle.std.specs.Global.{Vec}
use Rattle.std.specs.List.{list_any}
use Rattle.bc_data.specs.declared.run.Body.{Body}
use Rattle.bc_data.specs.declared.run.FaultKind.{FaultKind}
use Rattle.bc_data.specs.declared.run.FaultKind.TheVariants as fault
use Rattle.bc_data.specs.declared.run.Kind.{Kind}
use Rattle.bc_data.specs.declared.run.Place.{Place}
use Rattle.bc_data.specs.declared.run.TagRef.{TagRef}
use Rattle.bc_data.specs.declared.run.Value.{Value}
use Rattle.bc_data.specs.declared.run.Value.TheVariants as value
use Rattle.bc_data.specs.declared.run.Written.{Written}
use Rattle.bc_mean.specs.Work.{Work, Got, Gives, Stops, Faulted, Wrong, OldObject, and_then, known, newest, reach, seen, made_one, make, make_instance, faults, parameter, touch, write, with_body, bind}
use Rattle.bc_mean.specs.Values.{same_tag}
use Rattle.bc_mean.specs.Evaluate.{make_array, zero_array}
use Rattle.bc_code.specs.Given.{given_look}
use Rattle.bc_code.specs.Instructions.{Did, On, Over, Stuck, goes, new_object, next}
use Rattle.bc_code.specs.Instructions as rules
use Rattle.bc_step.specs.declared.answer.Halt.{Halt}
use Rattle.bc_step.specs.declared.answer.Halt.TheVariants as halt
use Rattle.bc_step.specs.declared.area.ObjectRef.{ObjectRef}
use Rattle.bc_step.specs.declared.area.ObjectRef.TheVariants as object
use Rattle.bc_step.specs.declared.state.Did.{Did as Answer}
use Rattle.bc_step.specs.declared.state.Did.TheVariants as answer
use Rattle.bc_step.specs.declared.state.Call.{Call}
use Rattle.bc_step.specs.declared.state.State.{State}
use Rattle.bc_step.specs.Area.{AreaParts, AreCopies, HasNow, IsSame, MakesObject, MakesInstance, given_of, copies_of, copies_with, body_in, reads_of, work_with}
use Rattle.bc_step.specs.Parts.{halt_of, reached_at, reference_of, Does, Halts, GoesBehind}
use Rattle.bc_step.specs.State.{AnswersIf, HasRule, KeepsGiven, StaysPut, activation, activations, state_with}

-- one step behind another

pub does_then : {A B : Type 0} (a b c : AreaParts) (x : A) (y : B) (m : Work → Got A) (k : A → Work → Got B) → Does x a b m → Does y b c (k x) → Does y a c (λ w. and_then (m w) k)
does_then a b c x y m k d e turns cs ts are =
    let f = d turns cs ts are in
    let g = e turns f.copies f.touched f.are in
    record { copies = g.copies; touched = g.touched; are = g.are; is = ap (λ r. and_then r k) f.is ∙ g.is }

pub halts_then : {A B : Type 0} (a b : AreaParts) (x : A) (h : Halt) (m : Work → Got A) (k : A → Work → Got B) → Does x a b m → Halts h b (k x) → Halts h a (λ w. and_then (m w) k)
halts_then a b x h m k d e turns cs ts are =
    let f = d turns cs ts are in
    let g = e turns f.copies f.touched f.are in
    (g.0, ap (λ r. and_then r k) f.is ∙ g.1)

pub halts_first : {A B : Type 0} (a : AreaParts) (h : Halt) (m : Work → Got A) (k : A → Work → Got B) → Halts h a m → Halts h a (λ w. and_then (m w) k)
halts_first a h m k d turns cs ts are = let f = d turns cs ts are in (f.0, ap (λ r. and_then r k) f.1)

-- a step that any work takes alike, which changes nothing

pub any_does : {A : Type 0} (a : AreaParts) (x : A) (m : Work → Got A) → ((w : Work) → m w ≡ Gives x w) → Does x a a m
any_does a x m e turns cs ts are = record { copies = cs; touched = ts; are = are; is = e (work_with a turns cs ts) }

pub any_halts : {A : Type 0} (a : AreaParts) (h : Halt) (m : Work → Got A) → ((w : Work) → m w ≡ Stops (halt_of h) w) → Halts h a m
any_halts a h m e turns cs ts are = (work_with a turns cs ts, e (work_with a turns cs ts))

-- what is known, as a step

pub gives : {A : Type 0} (a : AreaParts) (x : A) → Does x a a (Gives x)
gives a x turns cs ts are = record { copies = cs; touched = ts; are = are; is = refl }

pub known_does : {A : Type 0} (a : AreaParts) (x : A) (o : Option A) → o ≡ Some x → Does x a a (known o)
known_does a x o e turns cs ts are = record { copies = cs; touched = ts; are = are; is = ap (λ p. known p (work_with a turns cs ts)) e }

pub unknown_halts : {A : Type 0} (a : AreaParts) (h : Halt) (o : Option A) → halt_of h ≡ Wrong → o ≡ None → Halts h a (known o)
unknown_halts a h o e n turns cs ts are = (work_with a turns cs ts, ap (λ p. known p (work_with a turns cs ts)) n ∙ ap (λ z. Stops z (work_with a turns cs ts)) (sym e))

-- objects

-- the objects touched then
abbrev pub touching : ℕ → List ℕ → List ℕ
touching id ts = if list_any (λ other. other == id) ts then ts else ts ++ id ∷ []

touch_either : (a : AreaParts) (turns : ℕ) (cs : List Written) (id : ℕ) (ts : List ℕ) (b : Bool) →
    (if b then work_with a turns cs ts else record (work_with a turns cs ts) { touched = ts ++ id ∷ [] }) ≡ work_with a turns cs (if b then ts else ts ++ id ∷ [])
touch_either a turns cs id ts true = refl
touch_either a turns cs id ts false = refl

pub touch_is : (a : AreaParts) (turns : ℕ) (cs : List Written) (id : ℕ) (ts : List ℕ) → touch id (work_with a turns cs ts) ≡ work_with a turns cs (touching id ts)
touch_is a turns cs id ts = touch_either a turns cs id ts (list_any (λ other. other == id) ts)

mapped : {A B : Type 0} (f : A → B) (o : Option A) (y : B) → option_map f o ≡ Some y → (x : A) × (o ≡ Some x) × (f x ≡ y)
mapped f None y e = absurd (cc)
mapped f (Some x) y e = (x, refl, cc)

unmapped : {A B : Type 0} (f : A → B) (o : Option A) → option_map f o ≡ None → o ≡ None
unmapped f None e = refl
unmapped f (Some x) e = absurd (cc)

-- a body that is seen in its copies, or as it was
sees : (a : AreaParts) (turns id : ℕ) (cs : List Written) (ts : List ℕ) (b : Body) → AreCopies cs a.held → body_in a (object.Old id) ≡ Some b
    → seen id (given_look (given_of a.held) id) (work_with a turns cs ts) ≡ Gives (record { object = OldObject id; body = b }) (work_with a turns cs ts)
sees a turns id cs ts b are e =
    let m = mapped (λ b. newest (copies_of a.held) id b) (given_look (given_of a.held) id) b e in
    ap (λ o. seen id o (work_with a turns cs ts)) m.1 ∙ ap (λ c. Gives (record { object = OldObject id; body = c }) (work_with a turns cs ts)) (are id m.0 ∙ m.2)

pub reach_old : (a : AreaParts) (p : Place) (id : ℕ) (b : Body) → body_in a (object.Old id) ≡ Some b → Does (reached_at (object.Old id) b) a a (λ w. reach (reads_of a).look p (value.Old id) w)
reach_old a p id b e turns cs ts are = record {
  copies = cs;
  touched = touching id ts;
  are = are;
  is = ap (λ w. seen id (given_look (given_of a.held) id) w) (touch_is a turns cs id ts) ∙ sees a turns id cs (touching id ts) b are e;
}

pub reach_new : (a : AreaParts) (p : Place) (n : ℕ) (b : Body) → body_in a (object.New n) ≡ Some b → Does (reached_at (object.New n) b) a a (λ w. reach (reads_of a).look p (value.New n) w)
reach_new a p n b e turns cs ts are = record { copies = cs; touched = ts; are = are; is = ap (λ o. made_one n o (work_with a turns cs ts)) e }

pub parameter_does : (a : AreaParts) (p id : ℕ) (b : Body) → Some id ≡ slice_get a.invocation.objects p → body_in a (object.Old id) ≡ Some b
    → Does (reached_at (object.Old id) b) a a (λ w. parameter (reads_of a).look (slice_get (reads_of a).objects p) w)
parameter_does a p id b e is turns cs ts are = record {
  copies = cs;
  touched = ts;
  are = are;
  is = ap (λ o. parameter (reads_of a).look o (work_with a turns cs ts)) (sym e) ∙ sees a turns id cs ts b are is;
}

pub reach_null : (a : AreaParts) (p : Place) (x : Value) (h : Halt) → x ≡ value.Null → h ≡ halt.Fault (record { kind = fault.Null; at = p })
    → Halts h a (λ w. reach (reads_of a).look p x w)
reach_null a p x h e i turns cs ts are = let w = work_with a turns cs ts in (w, ap (λ y. reach (reads_of a).look p y w) e ∙ ap (λ k. Stops (halt_of k) w) (sym i))

pub reach_missing : (a : AreaParts) (p : Place) (x : Value) (id : ℕ) → x ≡ value.Old id → body_in a (object.Old id) ≡ None → Halts (halt.Need id) a (λ w. reach (reads_of a).look p x w)
reach_missing a p x id e n turns cs ts are =
    let w = work_with a turns cs ts in (
      touch id w,
      ap (λ y. reach (reads_of a).look p y w) e ∙ ap (λ o. seen id o (touch id w)) (unmapped (λ b. newest (copies_of a.held) id b) (given_look (given_of a.held) id) n),
    )

pub reach_unmade : (a : AreaParts) (p : Place) (x : Value) (n : ℕ) → x ≡ value.New n → body_in a (object.New n) ≡ None → Halts halt.Wrong a (λ w. reach (reads_of a).look p x w)
reach_unmade a p x n e i turns cs ts are =
    let w = work_with a turns cs ts in (w, ap (λ y. reach (reads_of a).look p y w) e ∙ ap (λ o. made_one n o w) i)

pub reach_int : (a : AreaParts) (p : Place) {x : Value} {n : ℤ} → x ≡ value.Int n → Halts halt.Wrong a (λ w. reach (reads_of a).look p x w)
reach_int a p e turns cs ts are = let w = work_with a turns cs ts in (w, ap (λ y. reach (reads_of a).look p y w) e)

pub reach_bool : (a : AreaParts) (p : Place) {x : Value} {b : Bool} → x ≡ value.Bool b → Halts halt.Wrong a (λ w. reach (reads_of a).look p x w)
reach_bool a p e turns cs ts are = let w = work_with a turns cs ts in (w, ap (λ y. reach (reads_of a).look p y w) e)

pub parameter_unknown : (a : AreaParts) (p : ℕ) → None ≡ slice_get a.invocation.objects p → Halts halt.Wrong a (λ w. parameter (reads_of a).look (slice_get (reads_of a).objects p) w)
parameter_unknown a p e turns cs ts are = let w = work_with a turns cs ts in (w, ap (λ o. parameter (reads_of a).look o w) (sym e))

pub parameter_missing : (a : AreaParts) (p id : ℕ) → Some id ≡ slice_get a.invocation.objects p → body_in a (object.Old id) ≡ None
    → Halts (halt.Need id) a (λ w. parameter (reads_of a).look (slice_get (reads_of a).objects p) w)
parameter_missing a p id e n turns cs ts are =
    let w = work_with a turns cs ts in (
      w,
      ap (λ o. parameter (reads_of a).look o w) (sym e) ∙ ap (λ o. seen id o w) (unmapped (λ b. newest (copies_of a.held) id b) (given_look (given_of a.held) id) n),
    )

-- a write

with_body_is : (a b : AreaParts) (turns : ℕ) (cs : List Written) (ts : List ℕ) (o : ObjectRef) (c : Body) → HasNow a b o c
    → with_body (reference_of o) c (work_with a turns cs ts) ≡ work_with b turns (copies_with o c cs) ts
with_body_is a b turns cs ts (object.Old id) c h =
    ap (λ m. record { changed = copies_with (object.Old id) c cs; made = m; instances = a.instances; text = a.text; turns = turns; touched = ts }) (sym h.made)
    ∙ ap (λ i. record { changed = copies_with (object.Old id) c cs; made = b.made; instances = i; text = a.text; turns = turns; touched = ts }) (sym h.instances)
    ∙ ap (λ t. record { changed = copies_with (object.Old id) c cs; made = b.made; instances = b.instances; text = t; turns = turns; touched = ts }) (sym h.text)
with_body_is a b turns cs ts (object.New n) c h =
    ap (λ m. record { changed = cs; made = m; instances = a.instances; text = a.text; turns = turns; touched = ts }) (sym h.made)
    ∙ ap (λ i. record { changed = cs; made = b.made; instances = i; text = a.text; turns = turns; touched = ts }) (sym h.instances)
    ∙ ap (λ t. record { changed = cs; made = b.made; instances = b.instances; text = t; turns = turns; touched = ts }) (sym h.text)

pub write_does : (a b : AreaParts) (o : ObjectRef) (c : Body) → HasNow a b o c → Does (tt {0}) a b (λ w. write (reference_of o) c w)
write_does a b o c h turns cs ts are = record {
  copies = copies_with o c cs;
  touched = ts;
  are = h.copies cs are;
  is = ap (λ w. Gives (tt {0}) w) (with_body_is a b turns cs ts o c h);
}

-- what is made

pub does_as : {A : Type 0} (a b : AreaParts) (x : A) (m n : Work → Got A) → ((w : Work) → m w ≡ n w) → Does x a b n → Does x a b m
does_as a b x m n same d turns cs ts are =
    let f = d turns cs ts are in
    record { copies = f.copies; touched = f.touched; are = f.are; is = same (work_with a turns cs ts) ∙ f.is }

pub halts_as : {A : Type 0} (a : AreaParts) (h : Halt) (m n : Work → Got A) → ((w : Work) → m w ≡ n w) → Halts h a n → Halts h a m
halts_as a h m n same d turns cs ts are = let f = d turns cs ts are in (f.0, same (work_with a turns cs ts) ∙ f.1)

pub make_does : (a b : AreaParts) (p : Place) (c : Body) (n : ℕ) → MakesObject (Some n) c a b → Does n a b (λ w. make p c w)
make_does a b p c n made = subst (λ b. Does n a b (λ w. make p c w)) (sym made.2) there
  where
    there : Does n a (record a { made = a.made ++ c ∷ [] }) (λ w. make p c w)
    there turns cs ts are = record {
      copies = cs;
      touched = ts;
      are = are;
      is = ap (λ t. if t then Gives (length a.made) (record (work_with a turns cs ts) { made = a.made ++ c ∷ [] }) else faults fault.Size p (work_with a turns cs ts)) made.0
          ∙ ap (λ k. Gives k (record (work_with a turns cs ts) { made = a.made ++ c ∷ [] })) (sym made.1);
    }

pub make_halts : (a b : AreaParts) (p : Place) (c : Body) → MakesObject None c a b → Halts (halt.Fault (record { kind = fault.Size; at = p })) a (λ w. make p c w)
make_halts a b p c none turns cs ts are = (
  work_with a turns cs ts,
  ap (λ t. if t then Gives (length a.made) (record (work_with a turns cs ts) { made = a.made ++ c ∷ [] }) else faults fault.Size p (work_with a turns cs ts)) none.0,
)

pub instance_does : (a b : AreaParts) (p : Place) (t n : ℕ) → MakesInstance (Some n) t a b → Does n a b (λ w. make_instance p t w)
instance_does a b p t n made = subst (λ b. Does n a b (λ w. make_instance p t w)) (sym made.2) there
  where
    there : Does n a (record a { instances = a.instances ++ t ∷ [] }) (λ w. make_instance p t w)
    there turns cs ts are = record {
      copies = cs;
      touched = ts;
      are = are;
      is = ap
          (λ z. if z then Gives (length a.instances) (record (work_with a turns cs ts) { instances = a.instances ++ t ∷ [] }) else faults fault.Size p (work_with a turns cs ts))
          made.0
          ∙ ap (λ k. Gives k (record (work_with a turns cs ts) { instances = a.instances ++ t ∷ [] })) (sym made.1);
    }

pub instance_halts : (a b : AreaParts) (p : Place) (t : ℕ) → MakesInstance None t a b → Halts (halt.Fault (record { kind = fault.Size; at = p })) a (λ w. make_instance p t w)
instance_halts a b p t none turns cs ts are = (
  work_with a turns cs ts,
  ap (λ z. if z then Gives (length a.instances) (record (work_with a turns cs ts) { instances = a.instances ++ t ∷ [] }) else faults fault.Size p (work_with a turns cs ts)) none.0,
)

pub array_is : (p : Place) (k : Kind) (x : Value) (n : ℕ) (w : Work) → x ≡ value.Int (pos n) → n ≤ 65536
    → make_array p k x w ≡ and_then (make p (zero_array k n) w) (λ i v. Gives (value.New i) v)
array_is p k x n w e few =
    ap (λ y. make_array p k y w) e
    ∙ ap (λ b. if b then and_then (make p (zero_array k n) w) (λ i v. Gives (value.New i) v) else faults fault.Size p w) (le-leb n 65536 few)

-- a new object, and the instances of an object

pub unmade_halts : (a : AreaParts) (x : Value) (n : ℕ) → x ≡ value.New n → body_in a (object.New n) ≡ None → Halts halt.Wrong a (λ w. new_object x w)
unmade_halts a x n e i turns cs ts are = let w = work_with a turns cs ts in (w, ap (λ y. new_object y w) e ∙ ap (λ o. made_one n o w) i)

pub other_halts : (a : AreaParts) (x : Value) → ((n : ℕ) → x ≡ value.New n → ⊥) → Halts halt.Wrong a (λ w. new_object x w)
other_halts a (value.Int n) not turns cs ts are = (work_with a turns cs ts, refl)
other_halts a (value.Bool b) not turns cs ts are = (work_with a turns cs ts, refl)
other_halts a value.Null not turns cs ts are = (work_with a turns cs ts, refl)
other_halts a (value.Old id) not turns cs ts are = (work_with a turns cs ts, refl)
other_halts a (value.New n) not turns cs ts are = absurd (not n refl)

pub bind_full : (a : AreaParts) (p : Place) (o : ObjectRef) (b : Body) (t : TagRef) → list_any (same_tag t) b.tags ≡ false → 16 ≤ length b.tags
    → Halts (halt.Fault (record { kind = fault.TagSlots; at = p })) a (λ w. bind p (reached_at o b) t w)
bind_full a p o b t new full turns cs ts are =
    let w = work_with a turns cs ts in
    let put = write (reference_of o) (record b { tags = b.tags ++ t ∷ [] }) w in (
      w,
      ap (λ z. if z then Gives (tt {0}) w else if nat_lt (length b.tags) 16 then put else faults fault.TagSlots p w) new
          ∙ ap (λ z. if z then put else faults fault.TagSlots p w) (le-ltb (length b.tags) 16 full),
    )

pub bind_does : (a c : AreaParts) (p : Place) (o : ObjectRef) (b : Body) (t : TagRef) → list_any (same_tag t) b.tags ≡ false → length b.tags < 16
    → HasNow a c o (record b { tags = b.tags ++ t ∷ [] }) → Does (tt {0}) a c (λ w. bind p (reached_at o b) t w)
bind_does a c p o b t new few has =
    does_as a c (tt {0}) (λ w. bind p (reached_at o b) t w) (λ w. write (reference_of o) (record b { tags = b.tags ++ t ∷ [] }) w) same (write_does a c o _ has)
  where
    same : (w : Work) → bind p (reached_at o b) t w ≡ write (reference_of o) (record b { tags = b.tags ++ t ∷ [] }) w
    same w =
        let put = write (reference_of o) (record b { tags = b.tags ++ t ∷ [] }) w in
        ap (λ z. if z then Gives (tt {0}) w else if nat_lt (length b.tags) 16 then put else faults fault.TagSlots p w) new
        ∙ ap (λ z. if z then put else faults fault.TagSlots p w) (lt-ltb (length b.tags) 16 few)

-- a whole instruction

-- a state in its parts
abbrev view : Call → List Call → List Value → List TagRef → List Value → Work → rules.State
view c callers slots tags st w = record {
  current = activation c (reverse callers) slots tags;
  callers = activations (reverse callers) (take c.base slots) tags;
  stack = st;
  work = w;
}

pub next_is : (s t : State) (a b : AreaParts) (cs ds : List Written) (ts us : List ℕ) (st : List Value) → GoesBehind s t → reverse t.stack.items ≡ st
    → next (state_with s a cs ts) st (work_with b s.turns ds us) ≡ On (state_with t b ds us)
next_is s t a b cs ds ts us st g e =
    ap (λ c. On (view c s.callers.items s.slots.items s.tags.items st (work_with b s.turns ds us))) (sym g.current)
    ∙ ap (λ c. On (view t.current c s.slots.items s.tags.items st (work_with b s.turns ds us))) (sym g.callers)
    ∙ ap (λ l. On (view t.current t.callers.items l s.tags.items st (work_with b s.turns ds us))) (sym g.slots)
    ∙ ap (λ l. On (view t.current t.callers.items t.slots.items l st (work_with b s.turns ds us))) (sym g.tags)
    ∙ ap (λ l. On (view t.current t.callers.items t.slots.items t.tags.items l (work_with b s.turns ds us))) (sym e)
    ∙ ap (λ n. On (view t.current t.callers.items t.slots.items t.tags.items (reverse t.stack.items) (work_with b n ds us))) (sym g.turns)

-- The stack has changed meanwhile.
pub goes_on : {A : Type 0} {z : Vec Value} (s t : State) (a b : AreaParts) (x : A) (m : Work → Got A) (f : A → List Value) (d : Did) (cs : List Written) (ts : List ℕ)
    → d ≡ goes (m (work_with a s.turns cs ts)) (λ y w. next (state_with s a cs ts) (f y) w)
    → Does x a b m → GoesBehind (record s { stack = z }) t → reverse t.stack.items ≡ f x → b.end ≡ a.end → AreCopies cs a.held
    → AnswersIf (Some answer.On) s a t b d
goes_on s t a b x m f d cs ts is does moved st end are =
    let g = does s.turns cs ts are in
    let behind : GoesBehind s t = record { current = moved.current; callers = moved.callers; slots = moved.slots; tags = moved.tags; turns = moved.turns } in (
      record {
        copies = g.copies;
        touched = g.touched;
        are = g.are;
        is = is ∙ ap (λ r. goes r (λ y w. next (state_with s a cs ts) (f y) w)) g.is ∙ next_is s t a b cs g.copies ts g.touched (f x) behind st;
      },
      end,
    )

pub stops : {A : Type 0} (s t : State) (a b : AreaParts) (h : Halt) (m : Work → Got A) (k : A → Work → Did) (did : Option Answer) (d : Did) (cs : List Written) (ts : List ℕ)
    → d ≡ goes (m (work_with a s.turns cs ts)) k → Halts h a m → ((w : Work) → AnswersIf did s a t b (Over (Stops (halt_of h) w))) → AreCopies cs a.held
    → AnswersIf did s a t b d
stops s t a b h m k did d cs ts is halts answers are =
    let g = halts s.turns cs ts are in
    subst (AnswersIf did s a t b) (sym (is ∙ ap (λ r. goes r k) g.1)) (answers g.0)

pub no_rule : (d : Did) → d ≡ Stuck → HasRule d → ⊥
no_rule d e h = subst HasRule e h

-- nothing changed

pub same_area : (a b : AreaParts) → b ≡ a → IsSame a b
same_area a b e = subst (IsSame a) (sym e) (record { copies = λ cs are. are; made = refl; invocation = refl; given = refl; instances = refl; text = refl; end = refl; spare = omega arith })

pub stays_put : (s t : State) (a b : AreaParts) → IsSame a b → t ≡ s → StaysPut s a t b
stays_put s t a b same e = record {
  area = same;
  state = λ cs ts. ap (λ u. state_with u b cs ts) e ∙ ap (λ w. record (state_with s b cs ts) { work = w }) (same_work s.turns cs ts);
}
  where
    same_work : (turns : ℕ) (cs : List Written) (ts : List ℕ) → work_with b turns cs ts ≡ work_with a turns cs ts
    same_work turns cs ts =
        ap (λ m. record { changed = cs; made = m; instances = b.instances; text = b.text; turns = turns; touched = ts }) same.made
        ∙ ap (λ i. record { changed = cs; made = a.made; instances = i; text = b.text; turns = turns; touched = ts }) same.instances
        ∙ ap (λ t. record { changed = cs; made = a.made; instances = a.instances; text = t; turns = turns; touched = ts }) same.text

pub kept_by : (a b : AreaParts) (o : ObjectRef) (c : Body) → HasNow a b o c → KeepsGiven a b
kept_by a b o c h = record { invocation = h.invocation; given = h.given; spare = omega (arith, h.spare) }

pub faults_so : {A : Type 0} (s t : State) (a b : AreaParts) (did : Answer) (p : Place) (kind : FaultKind) (m : Work → Got A) (k : A → Work → Did) (d : Did) (cs : List Written) (ts : List ℕ)
    → d ≡ goes (m (work_with a s.turns cs ts)) k → Halts (halt.Fault (record { kind = kind; at = p })) a m
    → ((w : Work) → AnswersIf (Some did) s a t b (Over (Stops (Faulted (record { kind = kind; at = p })) w))) → AreCopies cs a.held
    → AnswersIf (Some did) s a t b d
faults_so s t a b did p kind m k d cs ts is halts answers are = stops s t a b (halt.Fault (record { kind = kind; at = p })) m k (Some did) d cs ts is halts answers are

pub made_end : (a b : AreaParts) (c : Body) (n : ℕ) → MakesObject (Some n) c a b → b.end ≡ a.end
made_end a b c n made = ap (λ x. x.end) made.2
