-- Changes whose new objects and instances have their numbers in the store.
use Rattle.std.specs.Prelude.{◌+◌, ◌<◌, length, map, All, ◌++◌}
use Rattle.bc_data.specs.declared.run.Value.{Value}
use Rattle.bc_data.specs.declared.run.Value.TheVariants as value
use Rattle.bc_data.specs.declared.run.TagRef.{TagRef}
use Rattle.bc_data.specs.declared.run.TagRef.TheVariants as tag
use Rattle.bc_data.specs.declared.run.Body.{Body}
use Rattle.bc_data.specs.declared.run.Changes.{Changes}
use Rattle.bc_mean.specs.declared.plain.Plain.{Plain}
use Rattle.bc_mean.specs.Changes.{body_in}
use Rattle.bc_mean.specs.Commit.{written_in, placed}

-- the changes with the numbers that new objects and instances get
abbrev pub resolved : Plain → Changes → Changes
resolved S c = record { bodies = map (written_in S) c.bodies; made = map (body_in S) c.made; tags = c.tags; text = c.text }

-- a new object's number is one of the first 65,536
abbrev pub HasNumber : Plain → Value → Type 0
HasNumber S (value.New n) = length S.bodies + n < 65536
HasNumber S (value.Int n) = Unit {0}
HasNumber S (value.Bool b) = Unit {0}
HasNumber S value.Null = Unit {0}
HasNumber S (value.Old n) = Unit {0}

-- a new instance's number is one of the first 65,536
abbrev pub HasTagNumber : Plain → TagRef → Type 0
HasTagNumber S (tag.New n) = length S.tags + n < 65536
HasTagNumber S (tag.Old n) = Unit {0}

pub record HasNumbers (S : Plain) (b : Body) : Type 0 where
  pub cells : All (HasNumber S) b.cells
  pub tags : All (HasTagNumber S) b.tags

-- a value with no new number
abbrev pub IsOldValue : Value → Type 0
IsOldValue (value.New n) = ⊥
IsOldValue (value.Int n) = Unit {0}
IsOldValue (value.Bool b) = Unit {0}
IsOldValue value.Null = Unit {0}
IsOldValue (value.Old n) = Unit {0}

abbrev pub IsOldTag : TagRef → Type 0
IsOldTag (tag.New n) = ⊥
IsOldTag (tag.Old n) = Unit {0}

pub record IsOldBody (b : Body) : Type 0 where
  pub cells : All IsOldValue b.cells
  pub tags : All IsOldTag b.tags

-- no new number is left
pub record IsResolved (c : Changes) : Type 0 where
  pub bodies : All (λ w. IsOldBody w.body) c.bodies
  pub made : All IsOldBody c.made

-- changes put into a store as they stand
abbrev pub put_in : Plain → Changes → Plain
put_in S c = record {
  bodies = placed c.bodies S.bodies ++ c.made;
  tags = S.tags ++ c.tags;
  output = S.output ++ c.text;
}
