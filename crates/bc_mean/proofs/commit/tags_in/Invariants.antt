use Rattle.std.proofs.Common.{◌≡◌, map, take}
use Rattle.bc_mean.specs.Changes.{tag_in}
use Rattle.bc_mean.proofs.commit.tags_in.Given as goal

-- those so far
abbrev pub invariant-loop-tag : goal.invariant-loop-tag
invariant-loop-tag l = l.instances ≡ map (tag_in l.store) (take l.tag-index l.tags)
