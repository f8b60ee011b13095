use Rattle.std.proofs.Common.{[], ◌<◌, sym, ◌∙◌, subst, arith}
use Rattle.std.proofs.lemmas.List.Elements.{All-nil}
use Rattle.bc_mean.specs.Store.{Fits}
use Rattle.bc_bench.proofs.first_run.Goals as goal

-- the store at the start, over no input, fits
pub run_over-requires : goal.run_over-requires
run_over-requires c = (
  c.args.program.now,
  record {
    well_typed = c.is_well_typed.ensures;
    translated = c.in_ok-code.ensures;
    fits = subst (Fits c.args.program.now) (sym c.in_ok-store.ensures) (c.start_fits.ensures c.args.program.now [] c.is_well_typed.ensures (All-nil (λ b. b < 256)) (omega arith));
    enabled = sym c.is_enabled.ensures ∙ c.if-is_enabled.true;
  },
)
