use Rattle.std.proofs.Common.{◌≡◌, [], take}
use Rattle.bc_data.specs.SourceTree.{Empty}
use Rattle.bc_data.specs.View.{onto_by, view_item}
use Rattle.bc_types_rules.specs.Got.{Gives}
use Rattle.bc_types_rules.specs.Numbering.{try_fold}
use Rattle.bc_types_expr.specs.Contexts.{context_of}
use Rattle.bc_types_stat.specs.Bodies.{printed_seen, read_next}
use Rattle.bc_types_stat.proofs.print.read_all.Given as goal

abbrev pub invariant-loop-item : goal.invariant-loop-item
invariant-loop-item l = try_fold (read_next (context_of l.inside) l.scope) (Gives []) (onto_by view_item (take l.item-index l.items) Empty) ≡ Gives (printed_seen l.printed)
