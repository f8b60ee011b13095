-- Frames in which slots and tag variables are set, and what has been set behind statements.
use Rattle.std.proofs.Common.{◌≡◌, ◌⊎◌, inl, inr, ℕ, ◌<◌, ◌==◌, Bool, true, false, List, [], ◌∷◌, ◌++◌, length, set, Some, None, slice_get, if◌then◌else◌, refl, ap, sym, subst, ◌∙◌, arith}
use Rattle.std.specs.Prelude.{Contains}
use Rattle.std.proofs.lemmas.Bool.{cases_eq, eqb-true}
use Rattle.std.proofs.lemmas.List.{length-set}
use Rattle.std.proofs.lemmas.List.Elements.{Contains-append_left, Contains-push_cases}
use Rattle.std.proofs.lemmas.Option.{slice_get_within}
use Rattle.bc_data.specs.declared.program.Shape.{Shape}
use Rattle.bc_data.specs.declared.run.TagRef.{TagRef}
use Rattle.bc_data.specs.declared.run.Value.{Value}
use Rattle.bc_data.specs.Typed.{TypedStatement, Set, NewTag, SetField, SetElem, Drop, Perform, If, While, Return, Print, Assert, Exit, Block, TypedStatements, Nothing, Then}
use Rattle.bc_data.specs.TypedBodies.{AssignedSlot, Assigned, Setting, shape_of_slot, assign_slot, assign_tag, TakesValue, IsTyped, AreTyped}
use Rattle.bc_mean.specs.declared.plain.Plain.{Plain}
use Rattle.bc_mean.specs.Work.{Work}
use Rattle.bc_mean.specs.Evaluate.{Frame}
use Rattle.bc_mean.specs.Execute.{set_slot, set_tag}
use Rattle.bc_law_soundness.specs.Fitting.{Shaped, IsPresent}
use Rattle.bc_law_soundness.specs.Frames.{FitsFrame}
use Rattle.bc_law_soundness.proofs.Lists.{element_within, set_same, set_other}

-- What has been set stays set, in its shape.
pub record Extends (a b : Assigned) : Type 0 where
  pub slots : (slot : ℕ) (sh : Shape) → shape_of_slot a.slots slot ≡ Some sh → shape_of_slot b.slots slot ≡ Some sh
  pub tags : (v : ℕ) → Contains a.tags v → Contains b.tags v

pub extends_refl : (a : Assigned) → Extends a a
extends_refl a = record { slots = λ slot sh h. h; tags = λ v h. h }

extends_same : (a b : Assigned) → b ≡ a → Extends a b
extends_same a b e = subst (Extends a) (sym e) (extends_refl a)

extends_trans : (a b c : Assigned) → Extends a b → Extends b c → Extends a c
extends_trans a b c h k = record { slots = λ slot sh at. k.slots slot sh (h.slots slot sh at); tags = λ v at. k.tags v (h.tags v at) }

-- one more slot that is set
shape_stays : (ss : List AssignedSlot) (x : AssignedSlot) (slot : ℕ) (sh : Shape) → shape_of_slot ss slot ≡ Some sh → shape_of_slot (ss ++ x ∷ []) slot ≡ Some sh
shape_stays [] x slot sh h = cc
shape_stays (s ∷ ss) x slot sh h = either (s.slot == slot) (λ e. shape_stays ss x slot sh e) h
  where
    either :
        (t : Bool) → (shape_of_slot ss slot ≡ Some sh → shape_of_slot (ss ++ x ∷ []) slot ≡ Some sh) → (if t then Some s.shape else shape_of_slot ss slot) ≡ Some sh
        → (if t then Some s.shape else shape_of_slot (ss ++ x ∷ []) slot) ≡ Some sh
    either true later h = h
    either false later h = later h

shape_before_or_last : (ss : List AssignedSlot) (x : AssignedSlot) (slot : ℕ) (sh : Shape) → shape_of_slot (ss ++ x ∷ []) slot ≡ Some sh → (shape_of_slot ss slot ≡ Some sh) ⊎ ((x.slot ≡ slot) × (x.shape ≡ sh))
shape_before_or_last [] x slot sh h = either (x.slot == slot) refl h
  where
    either : (t : Bool) → (x.slot == slot) ≡ t → (if t then Some x.shape else None) ≡ Some sh → (None ≡ Some sh) ⊎ ((x.slot ≡ slot) × (x.shape ≡ sh))
    either true e h = inr (eqb-true x.slot slot e, cc)
    either false e h = cc
shape_before_or_last (s ∷ ss) x slot sh h = either (s.slot == slot) (λ e. shape_before_or_last ss x slot sh e) h
  where
    either :
        (t : Bool) → (shape_of_slot (ss ++ x ∷ []) slot ≡ Some sh → (shape_of_slot ss slot ≡ Some sh) ⊎ ((x.slot ≡ slot) × (x.shape ≡ sh)))
        → (if t then Some s.shape else shape_of_slot (ss ++ x ∷ []) slot) ≡ Some sh
        → ((if t then Some s.shape else shape_of_slot ss slot) ≡ Some sh) ⊎ ((x.slot ≡ slot) × (x.shape ≡ sh))
    either true later h = inl h
    either false later h = later h

assign_extends : (B : Setting) (a b : Assigned) (slot : ℕ) (sh : Shape) → TakesValue B a slot sh b → Extends a b
assign_extends B a b slot sh (inl h) = extends_same a b h.1
assign_extends B a b slot sh (inr h) =
    subst (Extends a) (sym h.3) (record { slots = λ other u at. shape_stays a.slots (record { slot = slot; shape = sh }) other u at; tags = λ v at. at })

-- what has been set before a statement is set behind it
pub statement_extends : (B : Setting) (s : TypedStatement) (a b : Assigned) → IsTyped B a s b → Extends a b
statement_extends B (Set slot e) a b h = assign_extends B a b slot h.1 h.4
statement_extends B (NewTag at v tag_type) a b h = subst (Extends a) (sym h.4) (record { slots = λ slot sh at. at; tags = λ u at. Contains-append_left a.tags (v ∷ []) u at })
statement_extends B (SetField at object i e) a b h = extends_same a b h.7
statement_extends B (SetElem at array index e) a b h = extends_same a b h.8
statement_extends B (Drop e) a b h = extends_same a b h.2
statement_extends B (Perform e) a b h = extends_same a b h.1
statement_extends B (If test body other) a b h = extends_same a b h.5
statement_extends B (While at test body) a b h = extends_same a b h.3
statement_extends B (Return None) a b h = extends_same a b h.1
statement_extends B (Return (Some e)) a b h = extends_same a b h.5
statement_extends B (Print at parts) a b h = extends_same a b h.1
statement_extends B (Assert at e) a b h = extends_same a b h.1
statement_extends B (Exit changes) a b h = extends_same a b h.3
statement_extends B (Block body) a b h = extends_same a b h.2

pub statements_extend : (B : Setting) (ss : TypedStatements) (a b : Assigned) → AreTyped B a ss b → Extends a b
statements_extend B Nothing a b h = extends_same a b h
statements_extend B (Then front last) a b h = extends_trans a h.0 b (statements_extend B front a h.0 h.1) (statement_extends B last h.0 b h.2)

module _ (S : Plain) (w : Work) (locals variables : ℕ) where
  pub frame_narrows : (a b : Assigned) (f : Frame) → Extends a b → FitsFrame S w locals variables b f → FitsFrame S w locals variables a f
  frame_narrows a b f e h = record {
    slots = λ slot sh at. h.slots slot sh (e.slots slot sh at);
    tags = λ v at. h.tags v (e.tags v at);
    all_slots = h.all_slots;
    all_tags = h.all_tags;
  }

  -- A slot of the frame is set, and each slot that has been set then is this one, or was set before.
  slot_fits :
      (a b : Assigned) (f : Frame) (slot : ℕ) (sh : Shape) (x : Value) → FitsFrame S w locals variables a f → slot < length f.slots → Shaped S w sh x
      → ((other : ℕ) (u : Shape) → shape_of_slot b.slots other ≡ Some u → ((slot ≡ other) × (sh ≡ u)) ⊎ ((slot ≡ other → ⊥) × (shape_of_slot a.slots other ≡ Some u)))
      → ((v : ℕ) → Contains b.tags v → Contains a.tags v)
      → FitsFrame S w locals variables b (set_slot f slot x)
  slot_fits a b f slot sh x h within q which tags = record {
    slots = λ other u at. one other u (which other u at);
    tags = λ v at. h.tags v (tags v at);
    all_slots = length-set f.slots slot x ∙ h.all_slots;
    all_tags = h.all_tags;
  }
    where
      one : (other : ℕ) (u : Shape) → ((slot ≡ other) × (sh ≡ u)) ⊎ ((slot ≡ other → ⊥) × (shape_of_slot a.slots other ≡ Some u)) → (y : Value) × (slice_get (set f.slots slot x) other ≡ Some y) × Shaped S w u y
      one other u (inl e) =
          let before = element_within f.slots slot within in
          (x, ap (slice_get (set f.slots slot x)) (sym e.0) ∙ set_same f.slots slot before.0 x before.1, subst (λ u. Shaped S w u x) e.1 q)
      one other u (inr e) =
          let before = h.slots other u e.1 in
          (before.0, set_other f.slots slot other x e.0 ∙ before.1, before.2)

  pub set_slot_fits :
      (B : Setting) (a b : Assigned) (f : Frame) (slot : ℕ) (sh : Shape) (x : Value) → locals ≡ B.locals → FitsFrame S w locals variables a f
      → TakesValue B a slot sh b → Shaped S w sh x → FitsFrame S w locals variables b (set_slot f slot x)
  set_slot_fits B a b f slot sh x size h (inl takes) q =
      let there = h.slots slot sh takes.0 in
      let within = slice_get_within f.slots slot there.0 there.1 in
      subst (λ b. FitsFrame S w locals variables b (set_slot f slot x)) (sym takes.1)
      (slot_fits a a f slot sh x h within q (λ other u at. which other u at (cases_eq slot other)) (λ v at. at))
    where
      which : (other : ℕ) (u : Shape) → shape_of_slot a.slots other ≡ Some u → (slot ≡ other) ⊎ (slot ≡ other → ⊥) → ((slot ≡ other) × (sh ≡ u)) ⊎ ((slot ≡ other → ⊥) × (shape_of_slot a.slots other ≡ Some u))
      which other u at (inl e) = let known = takes.0 in inl (e, cc)
      which other u at (inr e) = inr (e, at)
  set_slot_fits B a b f slot sh x size h (inr takes) q =
      let all = h.all_slots in
      let below = takes.1 in
      let within : slot < length f.slots = omega arith in
      subst (λ b. FitsFrame S w locals variables b (set_slot f slot x)) (sym takes.3)
      (slot_fits a (assign_slot a slot sh) f slot sh x h within q (λ other u at. which other u (shape_before_or_last a.slots (record { slot = slot; shape = sh }) other u at)) (λ v at. at))
    where
      which : (other : ℕ) (u : Shape) → (shape_of_slot a.slots other ≡ Some u) ⊎ ((slot ≡ other) × (sh ≡ u)) → ((slot ≡ other) × (sh ≡ u)) ⊎ ((slot ≡ other → ⊥) × (shape_of_slot a.slots other ≡ Some u))
      which other u (inl at) = inr ((λ e. let free = takes.0 in cc), at)
      which other u (inr e) = inl e

  pub set_tag_fits : (a : Assigned) (f : Frame) (v : ℕ) (t : TagRef) → FitsFrame S w locals variables a f → v < variables → IsPresent S w t → FitsFrame S w locals variables (assign_tag a v) (set_tag f v t)
  set_tag_fits a f v t h below present = record {
    slots = h.slots;
    tags = λ u at. one u (cases_eq v u) (Contains-push_cases a.tags v u at);
    all_slots = h.all_slots;
    all_tags = length-set f.tags v t ∙ h.all_tags;
  }
    where
      within : v < length f.tags
      within = let all = h.all_tags in omega arith

      one : (u : ℕ) → (v ≡ u) ⊎ (v ≡ u → ⊥) → Contains a.tags u ⊎ (v ≡ u) → (s : TagRef) × (slice_get (set f.tags v t) u ≡ Some s) × IsPresent S w s
      one u (inl e) at =
          let before = element_within f.tags v within in
          (t, ap (slice_get (set f.tags v t)) (sym e) ∙ set_same f.tags v before.0 t before.1, present)
      one u (inr e) (inl at) =
          let before = h.tags u at in
          (before.0, set_other f.tags v u t e ∙ before.1, before.2)
      one u (inr e) (inr same) = absurd (e same)
