-- What a store has at least, by an earlier one.
use Rattle.std.specs.Prelude.{◌≡◌, ℕ, ◌+◌, ◌≤◌, List, ◌++◌, length, slice_get, Some, All}
use Rattle.bc_data.specs.declared.run.Body.{Body}
use Rattle.bc_data.specs.declared.run.Changes.{Changes}
use Rattle.bc_mean.specs.declared.plain.Plain.{Plain}
use Rattle.bc_mean.specs.Changes.{apply_changes}
use Rattle.bc_mean.specs.Store.{cells_in}

-- of the same kind, with as many cells
pub record IsLike (a b : Body) : Type 0 where
  pub kind : b.kind ≡ a.kind
  pub cells : length b.cells ≡ length a.cells

-- the object of this number is there, and its body is like this one
abbrev pub HasLike : Plain → ℕ → Body → Type 0
HasLike S id a = (b : Body) × (slice_get S.bodies id ≡ Some b) × IsLike a b

-- No object goes, nor changes its kind or its number of cells. Instances keep their types, and output is only added.
pub record Outgrows (S T : Plain) : Type 0 where
  pub objects : length S.bodies ≤ length T.bodies
  pub bodies : (id : ℕ) (a : Body) → slice_get S.bodies id ≡ Some a → HasLike T id a
  pub cells : cells_in S.bodies ≤ cells_in T.bodies
  pub instances : length S.tags ≤ length T.tags
  pub types : (n type : ℕ) → slice_get S.tags n ≡ Some type → slice_get T.tags n ≡ Some type
  pub more : List ℕ
  pub output : T.output ≡ S.output ++ more

-- The four sums that have limits are, in the store behind these changes, those of the store before and of what is new.
pub record AddsUp (S : Plain) (c : Changes) (T : Plain) : Type 0 where
  pub objects : length T.bodies ≡ length S.bodies + length c.made
  pub cells : cells_in T.bodies ≡ cells_in S.bodies + cells_in c.made
  pub instances : length T.tags ≡ length S.tags + length c.tags
  pub output : length T.output ≡ length S.output + length c.text

-- Each changed body is like that of its object in the store, which is there, and so the store grows by what is new alone.
pub record KeepsSizes (S : Plain) (c : Changes) : Type 0 where
  pub changed : All (λ w. HasLike S w.id w.body) c.bodies
  pub outgrown : Outgrows S (apply_changes S c)
  pub sums : AddsUp S c (apply_changes S c)
