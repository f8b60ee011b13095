-- What an invocation commits can be published.
use Rattle.std.proofs.Common.{◌≡◌, ℕ, zero, suc, ◌+◌, ◌<◌, ◌≤◌, Bool, true, false, cond, List, [], ◌∷◌, length, map, refl, sym, ap, subst, arith}
use Rattle.std.proofs.lemmas.List.Elements.{All-from_recursion, recursion_from_All}
use Rattle.std.proofs.lemmas.Option.{none-some, same_Some}
use Rattle.std.specs.List.{AllByRecursion, cons_option, filter_map, range_with_len}
use Rattle.std.specs.Prelude.{IfSome, slice_get, Option, Some, None}
use Rattle.bc_data.specs.Typed.{TypedProgram}
use Rattle.bc_data.specs.declared.run.Body.{Body}
use Rattle.bc_data.specs.declared.run.Changes.{Changes}
use Rattle.bc_data.specs.declared.run.FaultKind.{FaultKind}
use Rattle.bc_data.specs.declared.run.Invocation.{Invocation}
use Rattle.bc_data.specs.declared.run.Outcome.{Outcome}
use Rattle.bc_data.specs.declared.run.Place.{Place}
use Rattle.bc_data.specs.declared.run.Ran.{Ran}
use Rattle.bc_data.specs.declared.run.Ran.TheVariants as ran
use Rattle.bc_data.specs.declared.run.Written.{Written}
use Rattle.bc_mean.specs.declared.plain.Plain.{Plain}
use Rattle.bc_mean.specs.Changes.{changes_between, fault_of_room, same_body, written_of}
use Rattle.bc_mean.specs.Execute.{Flow}
use Rattle.bc_mean.specs.Outcome.{body_outcome, body_run, ending, outcome, place_of, refused_room, with_room}
use Rattle.bc_mean.specs.Work.{Got, Gives, Stops, Work, newest}
use Rattle.bc_mean.proofs.Lists.{Chain, pairs_from_chain}
use Rattle.bc_law_locality.proofs.Runs.{outcome_commits}
use Rattle.bc_law_soundness.proofs.Room.{commits_have_room}
use Rattle.bc_law_room.specs.Sizes.{HasLike}
use Rattle.bc_law_room.proofs.Growth.{keeps_kinds}
use Rattle.bc_store.specs.Store.{KeepsSize}
use Rattle.bc_law_publishing.specs.Laws.{CommitsCanBePublished}

-- what commits had room
refused_none : (k : Option FaultKind) (at : Place) (o : Outcome) (c : Changes) → (refused_room k at o).ran ≡ ran.Commit c → k ≡ None
refused_none None at o c e = refl
refused_none (Some k) at o c e = absurd (cc)

commit_room : (P : TypedProgram) (S : Plain) (v : Invocation) (c : Changes) → (outcome P S v).ran ≡ ran.Commit c → fault_of_room S c ≡ None
commit_room P S v c e =
    let at : Place = place_of (slice_get P.tasks v.task) in
    let o : Outcome = body_outcome P S v in
    refused_none (fault_of_room S c) at o c
    (subst (λ (r : Ran). (with_room S at r o).ran ≡ ran.Commit c) (outcome_commits P S v c e) e)

-- the objects that a range of numbers gives ascend, from its first on
abbrev ids : List Written → List ℕ
ids ws = map (λ w. w.id) ws

abbrev GivesOwn : (ℕ → Option Written) → Type 0
GivesOwn f = (id : ℕ) (w : Written) → f id ≡ Some w → w.id ≡ id

later : (xs : List ℕ) (a b : ℕ) → a ≤ b → AllByRecursion (λ i. b ≤ i) xs → AllByRecursion (λ i. a ≤ i) xs
later [] a b l h = tt
later (x ∷ xs) a b l h = (omega (arith, l, h.0), later xs a b l h.1)

ids_from : (f : ℕ → Option Written) → GivesOwn f → (a n : ℕ) → AllByRecursion (λ i. a ≤ i) (ids (filter_map f (range_with_len a n)))
ids_from f own a zero = tt
ids_from f own a (suc n) = at (f a) (own a) (later (ids (filter_map f (range_with_len (a + 1) n))) a (a + 1) (omega arith) (ids_from f own (a + 1) n))
  where
    at : (o : Option Written) → ((w : Written) → o ≡ Some w → w.id ≡ a) → AllByRecursion (λ i. a ≤ i) (ids (filter_map f (range_with_len (a + 1) n))) → AllByRecursion (λ i. a ≤ i) (ids (cons_option o (filter_map f (range_with_len (a + 1) n))))
    at None k rest = rest
    at (Some w) k rest = (let e : w.id ≡ a = k w refl in omega (arith, e), rest)

behind : (xs : List ℕ) (a i : ℕ) → i ≡ a → AllByRecursion (λ j. a + 1 ≤ j) xs → AllByRecursion (λ j. i < j) xs
behind [] a i e h = tt
behind (x ∷ xs) a i e h = (omega (arith, e, h.0), behind xs a i e h.1)

ids_ascend : (f : ℕ → Option Written) → GivesOwn f → (a n : ℕ) → Chain (λ i j. i < j) (ids (filter_map f (range_with_len a n)))
ids_ascend f own a zero = tt
ids_ascend f own a (suc n) = at (f a) (own a) (ids_ascend f own (a + 1) n)
  where
    at : (o : Option Written) → ((w : Written) → o ≡ Some w → w.id ≡ a) → Chain (λ i j. i < j) (ids (filter_map f (range_with_len (a + 1) n))) → Chain (λ i j. i < j) (ids (cons_option o (filter_map f (range_with_len (a + 1) n))))
    at None k rest = rest
    at (Some w) k rest = (behind (ids (filter_map f (range_with_len (a + 1) n))) a w.id (k w refl) (ids_from f own (a + 1) n), rest)

-- an object that is written has its own number
written_own : (w : Work) (id : ℕ) (o : Option Body) (c : Written) → written_of w id o ≡ Some c → c.id ≡ id
written_own w id None c e = absurd (none-some c e)
written_own w id (Some b) c e = at (same_body b (newest w.changed id b)) e
  where
    at : (same : Bool) → cond same None (Some (record { id = id; body = newest w.changed id b })) ≡ Some c → c.id ≡ id
    at true e = absurd (none-some c e)
    at false e = sym (ap (λ (d : Written). d.id) (same_Some (record { id = id; body = newest w.changed id b }) c e))

between_ascend : (S : Plain) (w : Work) → Chain (λ i j. i < j) (ids (changes_between S w).bodies)
between_ascend S w =
    ids_ascend (λ id. written_of w id (slice_get S.bodies id)) (λ id c e. written_own w id (slice_get S.bodies id) c e) 0 (length S.bodies)

commit_ascends : (S : Plain) (g : Got Flow) (c : Changes) → (ending S g).ran ≡ ran.Commit c → Chain (λ i j. i < j) (ids c.bodies)
commit_ascends S (Gives f w) c e =
    let same : changes_between S w ≡ c = cc in
    subst (λ (d : Changes). Chain (λ (i j : ℕ). i < j) (ids d.bodies)) same (between_ascend S w)
commit_ascends S (Stops h w) c e = absurd (cc)

-- a body like that of its object keeps its size
like_keeps : (S : Plain) (w : Written) → HasLike S w.id w.body → KeepsSize S w
like_keeps S w h =
    subst (λ (o : Option Body). IfSome o (λ b. length w.body.cells ≡ length b.cells)) (sym h.1) (sym h.2.cells)

all_keep : (S : Plain) (ws : List Written) → AllByRecursion (λ w. HasLike S w.id w.body) ws → AllByRecursion (KeepsSize S) ws
all_keep S [] h = tt
all_keep S (w ∷ ws) h = (like_keeps S w h.0, all_keep S ws h.1)

pub commits_can_be_published : CommitsCanBePublished
commits_can_be_published P S v c typed fits enabled e = record {
  room = commit_room P S v c e;
  there = commits_have_room P S v c typed fits enabled e;
  ascending = pairs_from_chain (λ i j. i < j) (ids c.bodies) (commit_ascends S (body_run P S (slice_get P.tasks v.task) v) c (outcome_commits P S v c e));
  sizes = All-from_recursion (KeepsSize S) c.bodies
      (all_keep S c.bodies (recursion_from_All (λ (w : Written). HasLike S w.id w.body) c.bodies (keeps_kinds.commit P S v c e).changed));
}
