-- The instruction that puts a new instance into a tag variable, and what follows an instance that is bound.
use Rattle.std.proofs.Common.{◌≡◌, ℕ, ◌+◌, List, [], ◌∷◌, reverse, refl, sym, ◌∙◌, ap, Some, Result, Ok, Err}
use Rattle.std.specs.Prelude.{IfOk, slice_set, take}
use Rattle.std.specs.Global.{Vec}
use Rattle.bc_data.specs.declared.run.Place.{Place}
use Rattle.bc_data.specs.declared.run.TagRef.{TagRef}
use Rattle.bc_data.specs.declared.run.TagRef.TheVariants as tag
use Rattle.bc_data.specs.declared.run.Value.{Value}
use Rattle.bc_data.specs.declared.run.Written.{Written}
use Rattle.bc_mean.specs.Work.{Work, make_instance}
use Rattle.bc_mean.specs.Execute.{set_tag}
use Rattle.bc_code.specs.Instructions.{Activation, On, goes, next_in}
use Rattle.bc_step.specs.declared.state.Call.{Call}
use Rattle.bc_step.specs.declared.state.Did.TheVariants as answer
use Rattle.bc_step.specs.declared.state.State.{State}
use Rattle.bc_step.specs.Area.{AreaParts, AreCopies, MakesInstance, work_with}
use Rattle.bc_step.specs.Parts.{GoesBehind, tags_set}
use Rattle.bc_step.specs.State.{AnswersIf, activations, state_with, tags_in}
use Rattle.bc_step.proofs.Parts.{instance_does, next_is}

pub ok_then : {A E : Type 0} (P Q : A → Type 0) (r : Result A E) → IfOk r P → ((x : A) → P x → Q x) → IfOk r Q
ok_then P Q (Ok x) p go = go x p
ok_then P Q (Err e) p go = tt {0}

set_in : (cs : List Call) (variable : ℕ) (t : TagRef) (tags : List TagRef) → tags_in cs (tags_set cs variable t tags) ≡ slice_set (tags_in cs tags) variable t
set_in [] variable t tags = refl
set_in (c ∷ cs) variable t tags = refl

set_around : (cs : List Call) (variable : ℕ) (t : TagRef) (slots : List Value) (tags : List TagRef) → activations cs slots (tags_set cs variable t tags) ≡ activations cs slots tags
set_around [] variable t slots tags = refl
set_around (c ∷ cs) variable t slots tags = refl

next_in_is : (s t : State) (z : Vec TagRef) (a b : AreaParts) (cs ds : List Written) (ts us : List ℕ) (variable : ℕ) (x : TagRef)
    → GoesBehind (record s { tags = z }) t → z.items ≡ tags_set (reverse s.callers.items) variable x s.tags.items → reverse t.stack.items ≡ reverse s.stack.items
    → next_in (state_with s a cs ts) (set_tag (state_with s a cs ts).current.frame variable x) (reverse s.stack.items) (work_with b s.turns ds us) ≡ On (state_with t b ds us)
next_in_is s t z a b cs ds ts us variable x behind set stack =
    let calls = reverse s.callers.items in
    let u = record s { tags = z } in
    let st = reverse s.stack.items in
    let w = work_with b s.turns ds us in
    let slots = take s.current.base s.slots.items in
    let mine = ap (tags_in calls) set ∙ set_in calls variable x s.tags.items in
    let around = ap (activations calls slots) set ∙ set_around calls variable x slots s.tags.items in
    ap
    (λ l. On (record (state_with s a cs ts) { current = record { unit = s.current.unit; next = s.current.next + 1; frame = record (state_with s a cs ts).current.frame { tags = l } }; stack = st; work = w }))
    (sym mine)
    ∙ ap
    (λ (l : List Activation). On (record { current = (record (state_with u a cs ts).current { next = s.current.next + 1 }); callers = l; stack = st; work = w }))
    (sym around)
    ∙ next_is u t a b cs ds ts us st behind stack

pub tag_set : (s t : State) (z : Vec TagRef) (a b : AreaParts) (p : Place) (tag_type variable n : ℕ) (cs : List Written) (ts : List ℕ)
    → MakesInstance (Some n) tag_type a b
    → GoesBehind (record s { tags = z }) t → z.items ≡ tags_set (reverse s.callers.items) variable (tag.New n) s.tags.items → reverse t.stack.items ≡ reverse s.stack.items
    → AreCopies cs a.held
    → AnswersIf
    (Some answer.On)
    s
    a
    t
    b
    (goes
    (make_instance p tag_type (work_with a s.turns cs ts))
    (λ i w. next_in (state_with s a cs ts) (set_tag (state_with s a cs ts).current.frame variable (tag.New i)) (state_with s a cs ts).stack w))
tag_set s t z a b p tag_type variable n cs ts made behind set stack are =
    let g = instance_does a b p tag_type n made s.turns cs ts are in
    let k = λ (i : ℕ) (w : Work). next_in (state_with s a cs ts) (set_tag (state_with s a cs ts).current.frame variable (tag.New i)) (state_with s a cs ts).stack w in (
      record {
        copies = g.copies;
        touched = g.touched;
        are = g.are;
        is = ap (λ r. goes r k) g.is ∙ next_in_is s t z a b cs g.copies ts g.touched variable (tag.New n) behind set stack;
      },
      ap (λ x. x.end) made.2,
    )
