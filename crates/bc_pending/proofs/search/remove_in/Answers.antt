use Rattle.std.proofs.Common.{◌≡◌, ◌<◌, length, sym, rules, arith}
use Rattle.std.specs.VecDeque.{deque_len}
use Rattle.bc_pending.proofs.Named.{removed}
use Rattle.bc_pending.proofs.search.remove_in.Goals as goal

pub returns-clause-named : goal.returns-clause-named
returns-clause-named c =
    let size : deque_len c.args.items.now ≡ length c.args.items.now.items = search rules in
    let here : c.args.at < length c.args.items.now.items = omega (arith, c.requires) in
    removed c.args.named.now c.remove-2.new.self c.as_slice.result.now c.args.items.now.items c.remove.new.self.items c.args.at c.in-Some.taken c.as_slice.ensures.value here (sym c.in-Some.ensures.value) c.in-Some.ensures.items c.remove-2.ensures
