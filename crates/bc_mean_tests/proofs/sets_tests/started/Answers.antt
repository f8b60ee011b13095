use Rattle.std.proofs.Common.{◌<◌, Fits as FitsWord, w8, arith, get_or, sym, subst}
use Rattle.std.proofs.lemmas.List.{get_or_default}
use Rattle.std.specs.Prelude.{All}
use Rattle.bc_mean.specs.Store.{Fits}
use Rattle.bc_mean_tests.proofs.sets_tests.started.Goals as goal

pub returns-clause-fits : goal.returns-clause-fits
returns-clause-fits c =
    let input = c.args.input.now in
    let bytes : All (λ byte. byte < 256) input =
    λ k d low.
    let fits : FitsWord w8 (get_or input k 0) = c.type_inv.input k in
    omega (arith, get_or_default input k d 0 low, fits) in
    subst (Fits c.args.program.now) (sym c.in_ok-start.ensures)
    (c.start_fits.ensures c.args.program.now input c.is_well_typed.ensures bytes c.requires)
