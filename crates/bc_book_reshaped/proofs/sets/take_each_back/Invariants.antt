use Rattle.std.proofs.Common.{take}
use Rattle.bc_data.specs.Typed.{TypedProgram}
use Rattle.bc_mean.specs.Changes.{apply_changes}
use Rattle.bc_mean.specs.Work.{look_of}
use Rattle.bc_params_sets.specs.Kept.{AreSets}
use Rattle.bc_book_reshaped.specs.Reshaped.{before_of}
use Rattle.bc_book_reshaped.proofs.Puts.{puts}
use Rattle.bc_book_reshaped.proofs.Room.{tags_before}
use Rattle.bc_book_reshaped.proofs.Way.{IsUsed, all_types, reshaped_look}
use Rattle.bc_book_reshaped.proofs.sets.take_each_back.Given as goal

-- those before this one are taken back
abbrev pub invariant-loop-one : goal.invariant-loop-one
invariant-loop-one g l =
    IsUsed (tags_before l.store.plain) (take l.one-index l.reshaped) l.initial.params l.params
    × ((P : TypedProgram) → AreSets P (look_of (apply_changes l.store.plain l.changes)) (all_types l.store.plain l.changes) l.initial.params.kept
    → AreSets P (puts (before_of l.store.plain) (take l.one-index l.reshaped) (reshaped_look l.store.plain l.changes l.reshaped)) (all_types l.store.plain l.changes) l.params.kept)
