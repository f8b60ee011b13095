use Rattle.std.proofs.Common.{refl}
use Rattle.std.proofs.lemmas.Option.{slice_get_past, slice_get_read}
use Rattle.bc_mean_run.proofs.Classes.{class_below, no_class}
use Rattle.bc_mean_run.proofs.making.class_at.Goals as goal

pub returns-in-Some-clause-below : goal.returns-in-Some-clause-below
returns-in-Some-clause-below c = class_below c.args.stage.now.classes.now c.args.c c.in-Some.k.now (slice_get_read c.args.stage.now.classes.now _ c.args.c c.in-Some.k.now refl (c.in-Some.ensures.lookup.3.0) (c.in-Some.ensures.lookup.1))

pub returns-in-None-clause-answers : goal.returns-in-None-clause-answers
returns-in-None-clause-answers c = no_class c.args.stage.now.classes.now c.args.c c.args.run.now (slice_get_past c.args.stage.now.classes.now c.args.c (c.in-None.ensures.lookup.3))
