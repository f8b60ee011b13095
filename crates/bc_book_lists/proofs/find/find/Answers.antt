use Rattle.std.proofs.Common.{◌≡◌, ◌⊎◌, true, List, sym, subst, ◌∙◌}
use Rattle.bc_data.specs.declared.run.Invocation.{Invocation}
use Rattle.bc_mean.specs.Serial.{listed, same_invocation}
use Rattle.bc_book_lists.proofs.Before.{found_some}
use Rattle.bc_book_lists.proofs.Wanted.{on_false, same_lists, stay, wanted}
use Rattle.bc_book_lists.proofs.find.find.Goals as goal

pub returns-clause-found : goal.returns-clause-found
returns-clause-found c b T worker s books of before =
    let us = c.args.before.now.named in
    let ws = c.in-Some.behind in
    let reshaped = c.args.reshaped.now in
    let changed = c.args.changed.now in
    let now = found_some reshaped c.args.params.now.kept _ ws c.in-Some.is c.in_ok-behind.ensures.some b.program T of in
    record {
      roomy = sym (c.is_crowded.ensures b.program b.store T reshaped s.reshapes s.sound.typed s.fits before.count before.named now) ∙ c.if-is_crowded.false;
      appended =
          wanted b T worker c.args.v reshaped s us ws before.named now changed c.in_ok-appended.appended
          (same_lists b.program T c.args.v changed c.as_slice.result.now us c.as_slice-2.result.now ws c.args.pending.now.held b.running c.args.failures.now.failures b.failures c.in_ok-appended.appended
          c.as_slice.ensures c.as_slice-2.ensures (sym books.running) (sym books.failures) (c.in_ok-appended.ensures b.program T of));
      stay = λ none.
          stay b T worker c.args.v reshaped s us ws before.named now
          (λ w m.
          subst (λ (l : List Invocation). (listed l w ≡ true) ⊎ (same_invocation w c.args.v ≡ true)) c.as_slice-4.ensures
          (on_false c.any_gone-falls.result ((w : Invocation) → listed c.as_slice-3.result.now w ≡ true → (listed c.as_slice-4.result.now w ≡ true) ⊎ (same_invocation w c.args.v ≡ true)) none c.any_gone-falls.ensures w
          (subst (λ (l : List Invocation). listed l w ≡ true) (sym c.as_slice-3.ensures) m)));
    }
