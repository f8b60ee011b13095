-- The last store of a history fits with older bodies of its objects.
use Rattle.std.proofs.Common.{◌≡◌, ℕ, ◌-◌, ◌≤◌, List, [], length, Some, slice_get, sym, subst, ◌∙◌, arith}
use Rattle.std.specs.List.{range_with_len}
use Rattle.std.proofs.lemmas.List.FromFn.{length-range_with_len}
use Rattle.std.proofs.lemmas.Option.{same_Some}
use Rattle.bc_data.specs.Typed.{TypedProgram}
use Rattle.bc_data.specs.declared.run.Body.{Body}
use Rattle.bc_data.specs.declared.run.Kind.{Kind}
use Rattle.bc_mean.specs.declared.plain.Plain.{Plain}
use Rattle.bc_mean.specs.Serial.{replay_from}
use Rattle.bc_mean.specs.Store.{FitsAs, Fits, start_store}
use Rattle.bc_mean.specs.Work.{Work}
use Rattle.bc_law_soundness.specs.Fitting.{IsKindAt}
use Rattle.bc_law_soundness.proofs.Committed.{Reaches, body_stays}
use Rattle.bc_law_soundness.proofs.Lists.{holds_at}
use Rattle.bc_law_soundness.proofs.Renewed.{IsLike, Renewed, all_from, renewed_cells, renewed_kind}
use Rattle.bc_law_room.specs.Sizes.{Outgrows}
use Rattle.bc_law_room.proofs.Growth.{history_grows}
use Rattle.bc_law_histories.specs.Histories.{HadBody}
use Rattle.bc_law_histories.specs.Laws.{MixedFits}
use Rattle.bc_law_histories.proofs.Replaying.{history_fits, middle}
use Rattle.bc_law_histories.proofs.Starting.{start_fits}

-- the store of a time, which the last one outgrows
record Earlier (P : TypedProgram) (S : Plain) (id : ℕ) (b : Body) : Type 0 where
  pub store : Plain
  pub fits : Fits P store
  pub outgrown : Outgrows store S
  pub body : slice_get store.bodies id ≡ Some b

-- a work that made so many instances and nothing else
instances_alone : ℕ → Work
instances_alone n = record { changed = []; made = []; instances = range_with_len 0 n; text = []; turns = 0; touched = [] }

module _ (P : TypedProgram) (S : Plain) (fits : Fits P S) (bodies : List Body) (size : length bodies ≡ length S.bodies) (each : (id : ℕ) (b : Body) → slice_get bodies id ≡ Some b → Earlier P S id b) where
  abbrev T : Plain
  T = record S { bodies = bodies }

  like : Renewed IsLike S.bodies bodies
  like = record { size = size; each = one }
    where
      one : (id : ℕ) (x y : Body) → slice_get S.bodies id ≡ Some x → slice_get bodies id ≡ Some y → IsLike x y
      one id x y at there =
          let e = each id y there in
          let z = e.outgrown.bodies id y e.body in
          let same : z.0 ≡ x = same_Some z.0 x (sym z.1 ∙ at) in
          subst (λ x. IsLike x y) same (sym z.2.kind, sym z.2.cells)

  kind_there : (R : Plain) → Outgrows R S → (k : Kind) (n : ℕ) → IsKindAt R.bodies k n → IsKindAt bodies k n
  kind_there R g k n h =
      let z = g.bodies n h.0 h.1 in
      renewed_kind S.bodies bodies k n like (z.0, z.1, z.2.kind ∙ h.2)

  reaches : (R : Plain) → Outgrows R S → Reaches R (instances_alone (length S.tags - length R.tags)) T
  unfolding instances_alone
  reaches R g =
      let more = length-range_with_len 0 (length S.tags - length R.tags) in
      let fewer = g.instances in
      record { old = kind_there R g; new = λ k n h. absurd (cc); instances = omega arith }

  body_fits : (id : ℕ) (b : Body) → slice_get bodies id ≡ Some b → FitsAs P T b.kind b
  body_fits id b at =
      let e = each id b at in
      body_stays e.store _ T (reaches e.store e.outgrown) P b.kind b (holds_at (λ b. FitsAs P e.store b.kind b) e.store.bodies id b e.fits.bodies e.body)

  renewed_fits : Fits P T
  renewed_fits = record {
    bodies = all_from (λ (b : Body). FitsAs P T b.kind b) bodies body_fits;
    types = fits.types;
    objects = subst (λ n. n ≤ 65536) (sym size) fits.objects;
    cells = subst (λ n. n ≤ 4194304) (sym (renewed_cells S.bodies bodies like)) fits.cells;
    instances = fits.instances;
    output = fits.output;
  }

pub mixed_fits : MixedFits
mixed_fits P input history S bodies well bytes short e times =
    let start = start_fits P input well bytes short in
    renewed_fits P S (history_fits P (start_store input) S history well start e) bodies times.size (λ id b at. earlier id b (times.each id b at))
  where
    earlier : (id : ℕ) (b : Body) → HadBody P input history id b → Earlier P S id b
    earlier id b h =
        let R = middle P (start_store input) S h.front h.back (subst (λ vs. replay_from P (start_store input) vs ≡ Some S) h.parts e) in
        let same : R.0 ≡ h.store = same_Some R.0 h.store (sym R.1 ∙ h.replayed) in
        record {
          store = h.store;
          fits = history_fits P (start_store input) h.store h.front well (start_fits P input well bytes short) h.replayed;
          outgrown = subst (λ R. Outgrows R S) same (history_grows P R.0 S h.back R.2);
          body = h.body;
        }
