use Rattle.std.proofs.Common.{take}
use Rattle.bc_data.specs.Typed.{TypedProgram}
use Rattle.bc_mean.specs.Store.{Fits}
use Rattle.bc_mean.specs.Work.{look_of}
use Rattle.bc_params_sets.specs.Kept.{AreSets}
use Rattle.bc_book_reshaped.proofs.Room.{tags_after}
use Rattle.bc_book_reshaped.proofs.Way.{IsBrought, IsUsed}
use Rattle.bc_book_reshaped.proofs.sets.bring.Given as goal

-- those before this one are brought
abbrev pub invariant-loop-one : goal.invariant-loop-one
invariant-loop-one g l =
    IsUsed (tags_after l.changes) (take l.one-index l.reshaped) l.initial.params l.params
    × ((P : TypedProgram) → Fits P l.store.plain → AreSets P (look_of l.store.plain) l.store.plain.tags l.initial.params.kept
    → IsBrought P l.store.plain l.changes (take l.one-index l.reshaped) l.params.kept l.initial.steps l.steps)
