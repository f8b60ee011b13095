use Rattle.std.proofs.Common.{[], Fits, w8, arith, get_or, refl, ap, sym, subst, ◌∙◌}
use Rattle.bc_mean.specs.declared.plain.Plain.{Plain}
use Rattle.bc_mean.specs.Store.{start_store}
use Rattle.bc_mean.specs.Work.{look_of}
use Rattle.bc_pending.specs.Lists.{Lists}
use Rattle.bc_params_sets.specs.Kept.{AreSets}
use Rattle.bc_store.specs.Store.{StoreParts}
use Rattle.bc_params.specs.Places.{ParamParts}
use Rattle.bc_book.proofs.AtStart.{each_byte, start_kept}
use Rattle.bc_book.proofs.book.Book.make.Goals as goal

pub invariant_of-result-5 : goal.invariant_of-result-5
invariant_of-result-5 c =
    start_kept c.keeps_sound_book.ensures c.args.program c.args.input.now c.args.limit c.args.workers _
    record {
      program = c.program.view_is;
      input = c.in_ok-from_slice.ensures;
      limit = refl;
      store = ap (λ (s : StoreParts). s.plain) c.store.view_is ∙ c.in_ok-store.ensures;
      history = c.new.ensures.items;
      listed = ap (λ (l : Lists). l.listed) c.pending.view_is ∙ c.in_ok-pending.ensures.listed;
      held = ap (λ (l : Lists). l.held) c.pending.view_is ∙ c.in_ok-pending.ensures.held;
      failures = c.in_ok-make.ensures;
      stop = refl;
    }
    c.is_well_typed.ensures (each_byte c.args.input.now (λ k. let fits : Fits w8 (get_or c.args.input.now k 0) = c.type_inv.input k in omega (arith, fits))) c.requires.short
    (subst (λ (p : ParamParts). AreSets c.args.program (look_of (start_store c.args.input.now)) [] p.kept) (sym c.params.view_is)
    (subst (λ (S : Plain). AreSets c.args.program (look_of S) S.tags c.in_ok-params.params.kept) c.in_ok-store.ensures c.in_ok-params.ensures))
    refl c.requires.some c.requires.few c.requires.limited
