use Rattle.std.proofs.Common.{◌<◌, ◌∙◌, [], ap, sym, length, arith}
use Rattle.std.proofs.lemmas.Result.{err_from_is_err_and}
use Rattle.bc_data.specs.View.{view_item}
use Rattle.bc_types_rules.specs.Got.{Gives, ◌>>=◌}
use Rattle.bc_names.proofs.Walk.{walk_on, walk_stops}
use Rattle.bc_types_expr.specs.Contexts.{context_of}
use Rattle.bc_types_stat.specs.Bodies.{printed_seen, read_next, with_part}
use Rattle.bc_types_stat.proofs.Chains.{stops_then}
use Rattle.bc_types_stat.proofs.print.read_all.Goals as goal

pub returns-in_err-read : goal.returns-in_err-read
returns-in_err-read c =
    let items = c.args.items.now in
    let i = c.loop-item.item-index in
    let within : i < length items = omega arith in
    let p = err_from_is_err_and c.from_residual.result c.from_residual.ensures.1 in
    rw (p.1, p.2) (walk_stops (read_next (context_of c.args.inside.now) c.args.scope.now) view_item c.in_err-read.field-0.0 (Gives []) (printed_seen c.loop-item.printed) items i c.item-item.result within c.item-item.is c.loop-item.invariant (stops_then c.in_err-read.field-0.0 _ (λ p. Gives (with_part (printed_seen c.loop-item.printed) p)) c.in_err-read.ensures))

pub loop-item-preserved : goal.loop-item-preserved
loop-item-preserved c =
    let items = c.args.items.now in
    let i = c.loop-item.item-index in
    let within : i < length items = omega arith in
    walk_on (read_next (context_of c.args.inside.now) c.args.scope.now) view_item (Gives []) (printed_seen c.loop-item.printed) _ items i c.item-item.result within c.item-item.is c.loop-item.invariant (ap (λ g. g >>= λ p. Gives (with_part (printed_seen c.loop-item.printed) p)) c.in_ok-read.ensures ∙ ap Gives (sym c.in_ok-add.ensures))
