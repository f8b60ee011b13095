use Rattle.std.proofs.Common.{◌≡◌, ◌==◌, length, false}
use Rattle.bc_print.proofs.Lists.{some_binds}
use Rattle.bc_print.proofs.parts.print_binds.Goals as goal

pub returns-else-is_empty : goal.returns-else-is_empty
returns-else-is_empty c =
    let some : (length c.args.binds.now == 0) ≡ false = cc in
    rw (some_binds c.args.binds.now some) c.print_with.ensures
