use Rattle.std.proofs.Common.{◌≡◌, Some, None, refl, subst}
use Rattle.std.specs.Prelude.{slice_get}
use Rattle.std.proofs.lemmas.Option.{slice_get_past, slice_get_read}
use Rattle.bc_mean_run.proofs.Classes.{method_below, no_method, no_method_class}
use Rattle.bc_mean_run.proofs.making.method_at.Goals as goal

pub returns-in-Some-get-clause-below : goal.returns-in-Some-get-clause-below
returns-in-Some-get-clause-below c =
    let K = c.args.stage.now.classes.now in
    let m = c.in-Some-get.m.now in
    let class = slice_get_read K _ c.args.c c.in-Some.k.now refl (c.in-Some.ensures.lookup.3.0) (c.in-Some.ensures.lookup.1) in
    let method = slice_get_read c.methods.result.now _ c.args.n m refl (c.in-Some-get.ensures.lookup.3.0) (c.in-Some-get.ensures.lookup.1) in
    method_below K c.args.c c.args.n c.in-Some.k.now m class (subst (λ l. slice_get l c.args.n ≡ Some m) c.methods.ensures method)

pub returns-in-None-get-clause-answers : goal.returns-in-None-get-clause-answers
returns-in-None-get-clause-answers c =
    let K = c.args.stage.now.classes.now in
    let class = slice_get_read K _ c.args.c c.in-Some.k.now refl (c.in-Some.ensures.lookup.3.0) (c.in-Some.ensures.lookup.1) in
    let method = slice_get_past c.methods.result.now c.args.n (c.in-None-get.ensures.lookup.3) in
    no_method K c.args.c c.args.n c.in-Some.k.now c.args.run.now class (subst (λ l. slice_get l c.args.n ≡ None) c.methods.ensures method)

pub returns-in-None-clause-answers : goal.returns-in-None-clause-answers
returns-in-None-clause-answers c = no_method_class c.args.stage.now.classes.now c.args.c c.args.n c.args.run.now (slice_get_past c.args.stage.now.classes.now c.args.c (c.in-None.ensures.lookup.3))
