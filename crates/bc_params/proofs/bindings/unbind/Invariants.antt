use Rattle.std.proofs.Common.{◌≡◌, ◌≤◌, ◌&&◌, not, ◌++◌, take}
use Rattle.bc_params_sets.specs.declared.tag_index.Binding.{Binding}
use Rattle.bc_params_sets.specs.Bindings.{is_bound}
use Rattle.bc_params.specs.Look.{is_own}
use Rattle.bc_params.proofs.bindings.unbind.Given as goal

-- those of the tags so far
abbrev pub invariant-loop-tag : goal.invariant-loop-tag
invariant-loop-tag l =
    ((c : Binding) → is_bound l.index.bound c ≡ (is_bound l.initial.index.bound c && not (is_own (l.types ++ l.made) l.id (take l.tag-index l.tags) c)))
    × (l.initial.index.spare ≤ l.index.spare)
