-- The store as contracts see it, and when changes can be published in it.
use Rattle.std.specs.Prelude.{◌≡◌, ℕ, ◌+◌, ◌<◌, ◌≤◌, length, map, slice_get, None, IfSome, All, AllPairs}
use Rattle.bc_data.specs.declared.run.Written.{Written}
use Rattle.bc_data.specs.declared.run.Changes.{Changes}
use Rattle.bc_mean.specs.declared.plain.Plain.{Plain}
use Rattle.bc_mean.specs.Changes.{fault_of_room}
use Rattle.bc_mean.specs.Commit.{HasRoom}
use Rattle.bc_mean.specs.Store.{cells_in}

-- for how many more objects, instances and bytes of output there is memory
pub record Spare : Type 0 where
  pub objects : ℕ
  pub instances : ℕ
  pub bytes : ℕ

pub record StoreParts : Type 0 where
  pub plain : Plain
  pub spare : Spare

-- a store whose sums keep the limits
pub record KeepsLimits (S : Plain) : Type 0 where
  pub objects : length S.bodies ≤ 65536
  pub cells : cells_in S.bodies ≤ 4194304
  pub instances : length S.tags ≤ 65536
  pub output : length S.output ≤ 16777216

-- a new body with as many cells as the one before
abbrev pub KeepsSize : Plain → Written → Type 0
KeepsSize S w = IfSome (slice_get S.bodies w.id) (λ b. length w.body.cells ≡ length b.cells)

-- The changes come of a run in the store, and there is room for them: each object is written once, ascending, and keeps its
-- size.
pub record CanPublish (S : Plain) (c : Changes) : Type 0 where
  pub room : fault_of_room S c ≡ None
  pub there : HasRoom S c
  pub ascending : AllPairs (λ i j. i < j) (map (λ w. w.id) c.bodies)
  pub sizes : All (KeepsSize S) c.bodies

-- memory for these changes
pub record HasSpare (s : Spare) (c : Changes) : Type 0 where
  pub objects : length c.made ≤ s.objects
  pub instances : length c.tags ≤ s.instances
  pub bytes : length c.text ≤ s.bytes

-- no spare is lower than before
pub record KeepsSpare (old new : Spare) : Type 0 where
  pub objects : old.objects ≤ new.objects
  pub instances : old.instances ≤ new.instances
  pub bytes : old.bytes ≤ new.bytes

-- of each spare no more is used than these changes add
pub record UsesSpare (old new : Spare) (c : Changes) : Type 0 where
  pub objects : old.objects ≤ new.objects + length c.made
  pub instances : old.instances ≤ new.instances + length c.tags
  pub bytes : old.bytes ≤ new.bytes + length c.text
