use Rattle.bc_mean.proofs.ExampleLimits.{exits_hold, output_holds, room_holds, text_holds}
use Rattle.bc_mean.proofs.ExampleRuns.{enabled_hold, runs_hold}
use Rattle.bc_mean.proofs.ExampleStores.{changes_hold, fits_hold, pending_holds}
use Rattle.bc_mean.proofs.examples.examples_hold.Goals as goal

pub returns : goal.returns
returns c = record {
  runs = runs_hold;
  enabled = enabled_hold;
  room = room_holds;
  text = text_holds;
  exits = exits_hold;
  output = output_holds;
  pending = pending_holds;
  changes = changes_hold;
  fits = fits_hold;
}
