-- What is looked at before changes are published.
use Rattle.std.specs.Prelude.{ℕ, ◌+◌, ◌<◌, ◌≤◌, List, [], ◌∷◌, length}
use Rattle.bc_data.specs.declared.run.Written.{Written}
use Rattle.bc_data.specs.declared.run.Changes.{Changes}
use Rattle.bc_mean.specs.declared.plain.Plain.{Plain}
use Rattle.bc_mean.specs.Commit.{IsMadeBody}
use Rattle.bc_store.specs.Store.{KeepsSize}

-- a body that can be written among these changes
pub record CanWrite (S : Plain) (c : Changes) (w : Written) : Type 0 where
  pub there : w.id < length S.bodies
  pub size : KeepsSize S w
  pub made : IsMadeBody c w.body

-- objects that ascend, from this number on
abbrev pub Ascend : ℕ → List Written → Type 0
Ascend from [] = Unit {0}
Ascend from (w ∷ ws) = (from ≤ w.id) × Ascend (w.id + 1) ws
