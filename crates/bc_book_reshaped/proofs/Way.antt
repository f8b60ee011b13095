-- The sets on the way to the store with the changes, and on the way back.
use Rattle.std.proofs.Common.{◌≡◌, ℕ, ◌+◌, ◌<◌, ◌≤◌, List, [], ◌++◌, length, take, get_or, Option, sym, ap, subst, ◌∙◌, arith}
use Rattle.std.specs.Prelude.{sum_by}
use Rattle.std.proofs.lemmas.List.{length-take-le, take_all}
use Rattle.std.proofs.lemmas.List.Sums.{sum_by_more, sum_by_more_le}
use Rattle.bc_data.specs.Typed.{TypedProgram}
use Rattle.bc_data.specs.declared.run.Body.{Body}
use Rattle.bc_data.specs.declared.run.Changes.{Changes}
use Rattle.bc_mean.specs.declared.plain.Plain.{Plain}
use Rattle.bc_mean.specs.Changes.{apply_changes}
use Rattle.bc_mean.specs.Store.{Fits}
use Rattle.bc_mean.specs.Work.{look_of}
use Rattle.bc_store.specs.Resolved.{IsResolved}
use Rattle.bc_store.specs.Store.{CanPublish}
use Rattle.bc_params_sets.specs.Kept.{Kept, AreSets}
use Rattle.bc_params.specs.Look.{put_look, HaveOneKind, class_of_either}
use Rattle.bc_params.specs.Places.{ParamParts, HasSpare, places_of}
use Rattle.bc_params.proofs.Same.{counted_sets, seen_sets, wider_sets}
use Rattle.bc_book_reshaped.specs.declared.reshaped.Reshaped.{Reshaped}
use Rattle.bc_book_reshaped.specs.Reshaped.{id_of, after_of, before_of, guard_tests, reshaped_in, CanGoBack, KindsStay}
use Rattle.bc_book_reshaped.proofs.Alike.{Alike, reshaped_alike}
use Rattle.bc_book_reshaped.proofs.Puts.{puts, puts_at, puts_back, puts_else, puts_more, not_before}
use Rattle.bc_book_reshaped.proofs.Room.{AreReshaped, all_typed, back_sum, kind_back, reshaped_count, tags_after, tags_before, tags_sum, tests_of, tests_sum}
use Rattle.bc_book_reshaped.proofs.Shapes.{sets_alike}

-- no more room is used than these objects ask for
pub record IsUsed (tags : Reshaped → ℕ) (ms : List Reshaped) (old new : ParamParts) : Type 0 where
  pub updates : old.spare.updates ≤ new.spare.updates + length ms
  pub bindings : old.spare.bindings ≤ new.spare.bindings + sum_by tags ms

-- there is room for all of them
pub record IsEnough (tags : Reshaped → ℕ) (ms : List Reshaped) (p : ParamParts) : Type 0 where
  pub updates : length ms ≤ p.spare.updates
  pub bindings : sum_by tags ms ≤ p.spare.bindings

pub used_none : (tags : Reshaped → ℕ) (p : ParamParts) → IsUsed tags [] p p
used_none tags p = record { updates = omega arith; bindings = omega arith }

pub used_more :
    (tags : Reshaped → ℕ) (ms : List Reshaped) (i : ℕ) (d : Reshaped) (old mid new : ParamParts)
    → i < length ms
    → IsUsed tags (take i ms) old mid
    → mid.spare.updates ≤ new.spare.updates + 1
    → mid.spare.bindings ≤ new.spare.bindings + tags (get_or ms i d)
    → IsUsed tags (take (i + 1) ms) old new
used_more tags ms i d old mid new h u updates bindings = record {
  updates = omega (arith, length-take-le i ms (omega arith), length-take-le (i + 1) ms (omega arith));
  bindings = omega (arith, sum_by_more tags ms i d h);
}

pub room_left : (tags : Reshaped → ℕ) (ms : List Reshaped) (i : ℕ) (old mid : ParamParts) → i < length ms → IsUsed tags (take i ms) old mid → IsEnough tags ms old → 1 ≤ mid.spare.updates
room_left tags ms i old mid h u e = omega (arith, length-take-le i ms (omega arith))

pub tags_left : (tags : Reshaped → ℕ) (ms : List Reshaped) (i : ℕ) (d : Reshaped) (old mid : ParamParts) → i < length ms → IsUsed tags (take i ms) old mid → IsEnough tags ms old → tags (get_or ms i d) ≤ mid.spare.bindings
tags_left tags ms i d old mid h u e = omega (arith, sum_by_more_le tags ms i d h)

module _ (S : Plain) (c : Changes) (ms : List Reshaped) (is : ms ≡ reshaped_in S c) where
  pub enough_there : (p : ParamParts) → HasSpare p.spare c → IsEnough (tags_after c) ms p
  enough_there p h = record {
    updates = omega (arith, ap length is, reshaped_count S c, h.updates);
    bindings = omega (arith, ap (sum_by (tags_after c)) is, tags_sum S c, h.bindings);
  }

  pub enough_back : (p : ParamParts) → CanGoBack p.spare S c → IsEnough (tags_before S) ms p
  enough_back p h = record {
    updates = omega (arith, ap length is, h.updates);
    bindings = omega (arith, ap (sum_by (tags_before S)) is, h.bindings);
  }

  pub can_go_back : (P : TypedProgram) (old new : ParamParts) → Fits P S → HasSpare old.spare c → IsUsed (tags_after c) ms old new → CanGoBack new.spare S c
  can_go_back P old new f h u = record {
    updates = omega (arith, ap length is, reshaped_count S c, h.updates, u.updates);
    bindings = omega (arith, ap (sum_by (tags_after c)) is, tags_sum S c, back_sum P S c f, h.bindings, u.bindings);
  }

-- the types of all instances, and the bodies behind all of them
abbrev pub all_types : Plain → Changes → List ℕ
all_types S c = S.tags ++ c.tags

abbrev pub reshaped_look : Plain → Changes → List Reshaped → ℕ → Option Body
reshaped_look S c ms = puts (after_of c) ms (look_of S)

-- the sets behind these objects, and how many guards were tested for them
pub record IsBrought (P : TypedProgram) (S : Plain) (c : Changes) (ms : List Reshaped) (k : Kept) (from to : ℕ) : Type 0 where
  pub sets : AreSets P (reshaped_look S c ms) (all_types S c) k
  pub steps : to ≤ from + sum_by (tests_of P S c) ms

pub brought_none : (P : TypedProgram) (S : Plain) (c : Changes) (k : Kept) (n : ℕ) → Fits P S → AreSets P (look_of S) S.tags k → IsBrought P S c [] k n n
brought_none P S c k n f a = record {
  sets = (wider_sets P (look_of S) S.tags c.tags k (all_typed P S f)).wider a;
  steps = omega arith;
}

module _ (P : TypedProgram) (S : Plain) (c : Changes) (ms : List Reshaped) (are : AreReshaped S c ms) (i : ℕ) (d : Reshaped) (h : i < length ms) (mid new : Kept) where
  abbrev m : Reshaped
  m = get_or ms i d

  pub brought_more :
      (from at to : ℕ)
      → IsBrought P S c (take i ms) mid from at
      → ((look : ℕ → Option Body) → look (id_of m) ≡ before_of S m → HaveOneKind (before_of S m) (after_of c m) → AreSets P look (all_types S c) mid → AreSets P (put_look (id_of m) (after_of c m) look) (all_types S c) new)
      → to ≤ at + places_of (class_of_either (before_of S m) (after_of c m)) mid.tasks
      → IsBrought P S c (take (i + 1) ms) new from to
  brought_more from at to b more steps = record {
    sets = subst (λ (look : ℕ → Option Body). AreSets P look (all_types S c) new) (sym (puts_more (after_of c) ms (look_of S) i d h))
        (more (reshaped_look S c (take i ms)) (puts_else (after_of c) (take i ms) (look_of S) (id_of m) (not_before ms i d are.chain h)) (are.kinds i d h) b.sets);
    steps = omega (arith, b.steps, steps, counted_sets P (reshaped_look S c (take i ms)) (all_types S c) mid (class_of_either (before_of S m) (after_of c m)) b.sets, sum_by_more (tests_of P S c) ms i d h);
  }

  pub back_more :
      AreSets P (puts (before_of S) (take i ms) (reshaped_look S c ms)) (all_types S c) mid
      → ((look : ℕ → Option Body) → look (id_of m) ≡ after_of c m → HaveOneKind (after_of c m) (before_of S m) → AreSets P look (all_types S c) mid → AreSets P (put_look (id_of m) (before_of S m) look) (all_types S c) new)
      → AreSets P (puts (before_of S) (take (i + 1) ms) (reshaped_look S c ms)) (all_types S c) new
  back_more a more = subst (λ (look : ℕ → Option Body). AreSets P look (all_types S c) new) (sym (puts_more (before_of S) ms (reshaped_look S c ms) i d h))
      (more (puts (before_of S) (take i ms) (reshaped_look S c ms))
      (puts_else (before_of S) (take i ms) (reshaped_look S c ms) (id_of m) (not_before ms i d are.chain h) ∙ puts_at (after_of c) ms (look_of S) i d are.chain h)
      (kind_back (before_of S m) (after_of c m) (are.kinds i d h)) a)

-- behind the last of them
pub used_all : (tags : Reshaped → ℕ) (ms : List Reshaped) (i : ℕ) (old new : ParamParts) → length ms ≤ i → IsUsed tags (take i ms) old new → IsUsed tags ms old new
used_all tags ms i old new l u = subst (λ (ns : List Reshaped). IsUsed tags ns old new) (take_all i ms l) u

module _ (P : TypedProgram) (S : Plain) (c : Changes) (ms : List Reshaped) (is : ms ≡ reshaped_in S c) (can : CanPublish S c) (old : IsResolved c) where
  look_alike : Alike (reshaped_look S c ms) (look_of (apply_changes S c))
  look_alike = subst (λ (ns : List Reshaped). Alike (reshaped_look S c ns) (look_of (apply_changes S c))) (sym is) (reshaped_alike S c can old)

  pub brought_all : (i : ℕ) (k : Kept) (from to : ℕ) → length ms ≤ i → IsBrought P S c (take i ms) k from to → AreSets P (look_of (apply_changes S c)) (all_types S c) k
  brought_all i k from to l b = sets_alike P (reshaped_look S c ms) (look_of (apply_changes S c)) (all_types S c) k (λ x. sym (look_alike x))
      (subst (λ (ns : List Reshaped). AreSets P (reshaped_look S c ns) (all_types S c) k) (take_all i ms l) b.sets)

  pub tests_all : (i : ℕ) (k : Kept) (from to : ℕ) → KindsStay S c → length ms ≤ i → IsBrought P S c (take i ms) k from to → to ≤ from + guard_tests P c
  tests_all i k from to kinds l b = omega (arith, b.steps, ap (sum_by (tests_of P S c)) (take_all i ms l ∙ is), tests_sum P S c kinds)

  pub back_none : (k : Kept) → AreSets P (look_of (apply_changes S c)) (all_types S c) k → AreSets P (reshaped_look S c ms) (all_types S c) k
  back_none k a = sets_alike P (look_of (apply_changes S c)) (reshaped_look S c ms) (all_types S c) k look_alike a

pub back_all : (P : TypedProgram) (S : Plain) (c : Changes) (ms : List Reshaped) (i : ℕ) (k : Kept) → Fits P S → length ms ≤ i → AreSets P (puts (before_of S) (take i ms) (reshaped_look S c ms)) (all_types S c) k → AreSets P (look_of S) S.tags k
back_all P S c ms i k f l a =
    (wider_sets P (look_of S) S.tags c.tags k (all_typed P S f)).narrower
    (seen_sets P (puts (before_of S) ms (reshaped_look S c ms)) (look_of S) (all_types S c) k (λ x. sym (puts_back (after_of c) ms (look_of S) x))
    (subst (λ (ns : List Reshaped). AreSets P (puts (before_of S) ns (reshaped_look S c ms)) (all_types S c) k) (take_all i ms l) a))
