use Rattle.std.proofs.Common.{◌≡◌, ◌==◌, length, false}
use Rattle.bc_print.proofs.Lists.{some_tweaks}
use Rattle.bc_print.proofs.parts.print_tweaks.Goals as goal

pub returns-else-is_empty : goal.returns-else-is_empty
returns-else-is_empty c =
    let some : (length c.args.tweaks.now == 0) ≡ false = cc in
    rw (some_tweaks c.args.tweaks.now some) c.print_braces.ensures
