use Rattle.std.proofs.Common.{[], ◌∷◌}
use Rattle.bc_data.specs.View.{view_param}
use Rattle.bc_print.specs.Canonical.{param_text}
use Rattle.bc_print.proofs.Lists.{joined_views}
use Rattle.bc_print.proofs.program.print_params.Goals as goal

pub returns : goal.returns
returns c =
    rw (← joined_views param_text view_param (44 ∷ 32 ∷ []) c.args.params.now) c.print_joined.ensures
