use Rattle.std.proofs.Common.{◌≡◌, ◌++◌, take}
use Rattle.std.specs.List.{flat_map}
use Rattle.bc_texts.specs.Texts.{behind_comma}
use Rattle.bc_texts.proofs.texts.push_joined.Given as goal

abbrev pub invariant-loop-id : goal.invariant-loop-id
invariant-loop-id l = l.text ≡ l.initial.text ++ flat_map behind_comma (take l.id-index l.rest)
