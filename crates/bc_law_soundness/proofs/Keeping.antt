-- What an enabled invocation commits gives a store that fits again.
use Rattle.std.proofs.Common.{◌≡◌, ℕ, ◌+◌, ◌<◌, ◌≤◌, Bool, true, false, List, [], ◌∷◌, ◌++◌, length, map, Option, Some, None, slice_get, if◌then◌else◌, refl, ap, sym, subst, ◌∙◌, arith, length-append}
use Rattle.std.specs.List.{AllByRecursion, range_with_len}
use Rattle.std.proofs.lemmas.Bool.{ltb-false}
use Rattle.std.proofs.lemmas.List.{length-map}
use Rattle.std.proofs.lemmas.List.Elements.{All-append}
use Rattle.std.proofs.lemmas.List.Sums.{sum_by-append, sum_by-cons}
use Rattle.std.proofs.lemmas.Option.{slice_get_within}
use Rattle.bc_data.specs.declared.run.Body.{Body}
use Rattle.bc_data.specs.declared.run.Changes.{Changes}
use Rattle.bc_data.specs.declared.run.FaultKind.{FaultKind}
use Rattle.bc_data.specs.declared.run.Kind.{Kind}
use Rattle.bc_data.specs.declared.run.Place.{Place}
use Rattle.bc_data.specs.declared.run.Ran.TheVariants as ran
use Rattle.bc_data.specs.declared.run.Written.{Written}
use Rattle.bc_data.specs.Typed.{TypedProgram}
use Rattle.bc_mean.specs.declared.plain.Plain.{Plain}
use Rattle.bc_mean.specs.Changes.{written_of, changes_between, value_in, body_in, put_bodies, apply_changes, fault_of_room}
use Rattle.bc_mean.specs.Execute.{Flow}
use Rattle.bc_mean.specs.Outcome.{ending, body_run, place_of, refused_room, with_room, work_at_start}
use Rattle.bc_mean.specs.Store.{cells_in, FitsAs, Fits}
use Rattle.bc_mean.specs.Work.{Work, Got, Gives, Stops, Faulted, Missing, Wrong, newest}
use Rattle.bc_law_soundness.specs.Fitting.{IsKindAt, FitsWork, Well}
use Rattle.bc_law_soundness.specs.Laws.{KeepsFit}
use Rattle.bc_law_soundness.proofs.Committed.{Reaches, body_on, body_stays, map_back}
use Rattle.bc_law_soundness.proofs.Lists.{element_within, holds_at, stays}
use Rattle.bc_law_soundness.proofs.Renewed.{Renewed, IsLike, all_from, behind, each_filter_map, renewed_cells, renewed_kind, renewed_put, renewed_same, written_is}
use Rattle.bc_law_soundness.proofs.Starting.{map_at}
use Rattle.bc_law_soundness.proofs.Tasks.{Ended, body_well}

-- the sums that a commit keeps within their limits
pub record LeavesRoom (S : Plain) (c : Changes) : Type 0 where
  pub objects : length S.bodies + length c.made ≤ 65536
  pub cells : cells_in S.bodies + cells_in c.made ≤ 4194304
  pub instances : length S.tags + length c.tags ≤ 65536
  pub output : length S.output + length c.text ≤ 16777216

-- the first of some tests that is true
first_of_none : {A : Type 0} (t : Bool) (x : A) (o : Option A) → (if t then Some x else o) ≡ None → (t ≡ false) × (o ≡ None)
first_of_none true x o h = cc
first_of_none false x o h = (refl, h)

pub room : (S : Plain) (c : Changes) → fault_of_room S c ≡ None → LeavesRoom S c
room S c h =
    let one = first_of_none _ _ _ h in
    let two = first_of_none _ _ _ one.1 in
    let three = first_of_none _ _ _ two.1 in
    let four = first_of_none _ _ _ three.1 in
    record { objects = ltb-false _ _ one.0; cells = ltb-false _ _ two.0; instances = ltb-false _ _ three.0; output = ltb-false _ _ four.0 }

-- a commit comes from a body that ended, with room for its changes
pub committed :
    (P : TypedProgram) (S : Plain) (w : Work) (at : Place) (g : Got Flow) (c : Changes) → Well P S w Ended g
    → (with_room S at (ending S g).ran (ending S g)).ran ≡ ran.Commit c
    → (v : Work) × FitsWork P S v × (changes_between S v ≡ c) × (fault_of_room S (changes_between S v) ≡ None)
committed P S w at (Gives fl v) c h e = either (fault_of_room S (changes_between S v)) refl e
  where
    either :
        (o : Option FaultKind) → fault_of_room S (changes_between S v) ≡ o → (refused_room o at (ending S (Gives fl v))).ran ≡ ran.Commit c
        → (v : Work) × FitsWork P S v × (changes_between S v ≡ c) × (fault_of_room S (changes_between S v) ≡ None)
    either None n e = (v, h.well.0.fits, (let same : changes_between S v ≡ c = cc in same), n)
    either (Some k) n e = cc
committed P S w at (Stops (Faulted f) v) c h e = cc
committed P S w at (Stops (Missing id) v) c h e = absurd h.well
committed P S w at (Stops Wrong v) c h e = absurd h.well

module _ (P : TypedProgram) (S : Plain) (w : Work) (fits : Fits P S) (h : FitsWork P S w) where
  abbrev c : Changes
  c = changes_between S w

  abbrev T : Plain
  T = apply_changes S c

  abbrev old : List Body
  old = put_bodies S c.bodies S.bodies

  written_each :
      (Q : Body → Body → Type 0) → ((id : ℕ) (b : Body) → slice_get S.bodies id ≡ Some b → Q b (body_in S (newest w.changed id b)))
      → AllByRecursion (λ (y : Written). (x : Body) → slice_get S.bodies y.id ≡ Some x → Q x (body_in S y.body)) c.bodies
  written_each Q q =
      each_filter_map (λ id. written_of w id (slice_get S.bodies id)) (λ (y : Written). (x : Body) → slice_get S.bodies y.id ≡ Some x → Q x (body_in S y.body))
      (λ id y e. one id y (written_is w id (slice_get S.bodies id) y e)) (range_with_len 0 (length S.bodies))
    where
      one : (id : ℕ) (y : Written) → (b : Body) × (slice_get S.bodies id ≡ Some b) × (record { id = id; body = newest w.changed id b } ≡ y) → (x : Body) → slice_get S.bodies y.id ≡ Some x → Q x (body_in S y.body)
      one id y b =
          subst (λ (y : Written). (x : Body) → slice_get S.bodies y.id ≡ Some x → Q x (body_in S y.body)) b.2
          (λ x at.
          let there = b.1 in
          let same : b.0 ≡ x = cc in
          subst (λ x. Q x (body_in S (newest w.changed id b.0))) same (q id b.0 b.1))

  like : Renewed IsLike S.bodies old
  like =
      renewed_put S IsLike S.bodies c.bodies S.bodies
      (written_each IsLike (λ id b at. let v = h.changed id b at in (v.kind, length-map (newest w.changed id b).cells (value_in S) ∙ v.size)))
      (renewed_same IsLike S.bodies (λ i x at. (refl, refl)))

  old_there : (k : Kind) (n : ℕ) → IsKindAt S.bodies k n → IsKindAt T.bodies k n
  old_there k n at = let there = renewed_kind S.bodies old k n like at in (there.0, stays old (map (body_in S) w.made) n there.0 there.1, there.2)

  new_there : (k : Kind) (n : ℕ) → IsKindAt w.made k n → IsKindAt T.bodies k (length S.bodies + n)
  new_there k n at = (
    body_in S at.0,
    ap (λ m. slice_get (old ++ map (body_in S) w.made) (m + n)) (sym like.size) ∙ behind old (map (body_in S) w.made) n ∙ map_at (body_in S) w.made n at.0 at.1,
    at.2,
  )

  reaches : Reaches S w T
  reaches = record { old = old_there; new = new_there; instances = length-append S.tags w.instances }

  abbrev FitsIn : Body → Body → Type 0
  FitsIn x y = FitsAs P T x.kind y

  renewed_fits : Renewed FitsIn S.bodies old
  renewed_fits =
      renewed_put S FitsIn S.bodies c.bodies S.bodies
      (written_each FitsIn (λ id b at. body_on S w T reaches P b.kind (newest w.changed id b) (h.changed id b at).fits))
      (renewed_same FitsIn S.bodies (λ i x at. body_stays S w T reaches P x.kind x (holds_at (λ b. FitsAs P S b.kind b) S.bodies i x fits.bodies at)))

  old_fit : (i : ℕ) (y : Body) → slice_get old i ≡ Some y → FitsAs P T y.kind y
  old_fit i y at =
      let within = slice_get_within old i y at in
      let size = like.size in
      let x = element_within S.bodies i (omega arith) in
      subst (λ k. FitsAs P T k y) (sym (like.each i x.0 y x.1 at).0) (renewed_fits.each i x.0 y x.1 at)

  new_fit : (i : ℕ) (y : Body) → slice_get (map (body_in S) w.made) i ≡ Some y → FitsAs P T y.kind y
  new_fit i y at =
      let x = map_back (body_in S) w.made i y at in
      subst (λ y. FitsAs P T y.kind y) x.2 (body_on S w T reaches P x.0.kind x.0 (h.made i x.0 x.1))

  new_cells : (bodies : List Body) → cells_in (map (body_in S) bodies) ≡ cells_in bodies
  new_cells [] = refl
  new_cells (b ∷ bodies) =
      let one = sum_by-cons (λ (b : Body). length b.cells) (body_in S b) (map (body_in S) bodies) in
      let two = sum_by-cons (λ (b : Body). length b.cells) b bodies in
      let head : length (map (value_in S) b.cells) ≡ length b.cells = length-map b.cells (value_in S) in
      let tail : cells_in (map (body_in S) bodies) ≡ cells_in bodies = new_cells bodies in
      omega arith

  applied_fits : fault_of_room S c ≡ None → Fits P T
  applied_fits none =
      let r = room S c none in
      let count = length-append old (map (body_in S) w.made) in
      let made = length-map w.made (body_in S) in
      let size = like.size in
      let objects = r.objects in
      let sum = sum_by-append (λ (b : Body). length b.cells) old (map (body_in S) w.made) in
      let before = renewed_cells S.bodies old like in
      let behind = new_cells w.made in
      let cells = r.cells in
      record {
        bodies = All-append (λ (b : Body). FitsAs P T b.kind b) old (map (body_in S) w.made) (all_from (λ (b : Body). FitsAs P T b.kind b) old old_fit)
            (all_from (λ (b : Body). FitsAs P T b.kind b) (map (body_in S) w.made) new_fit);
        types = All-append (λ t. t < length P.tag_types) S.tags w.instances fits.types h.instances;
        objects = omega arith;
        cells = omega arith;
        instances = subst (λ n. n ≤ 65536) (sym (length-append S.tags w.instances)) r.instances;
        output = subst (λ n. n ≤ 16777216) (sym (length-append S.output w.text)) r.output;
      }

pub keeps_fit : KeepsFit
keeps_fit P S v c well fits enabled commit =
    let g = body_run P S (slice_get P.tasks v.task) v in
    let w = committed P S (work_at_start v) (place_of (slice_get P.tasks v.task)) g c (body_well P S v well fits enabled) commit in
    subst (λ c. Fits P (apply_changes S c)) w.2 (applied_fits P S w.0 fits w.1 w.3)
