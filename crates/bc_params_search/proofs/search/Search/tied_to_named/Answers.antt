use Rattle.std.proofs.Common.{ℕ, List, length, sym, ap, ap₂, ◌∙◌, arith}
use Rattle.std.proofs.lemmas.Option.{slice_get_within}
use Rattle.bc_params_sets.specs.Members.{has}
use Rattle.bc_params_search.proofs.Near.{named_covers, tied_more}
use Rattle.bc_params_search.proofs.search.Search.tied_to_named.Goals as goal

pub loop-at-preserved : goal.loop-at-preserved
loop-at-preserved c = record {
  named = c.add_tied_to_named.ensures.kept c.args.self.now.id c.loop-at.invariant.named;
  tied = tied_more c.args.self.now.task c.args.self.now.bound c.args.place.now c.args.self.now.id (length c.args.front) c.loop-at.at c.as_slice-places.result.now c.index-places-at.result c.loop-at.chosen.members c.add_tied_to_named.new.chosen.members
      (c.as_slice-places.ensures ∙ ap (λ s. s.task.places) c.self.view_is) c.index-places-at.is (omega (arith, c.loop-at-test.true)) c.loop-at.invariant.tied c.add_tied_to_named.ensures.kept (c.in_ok-add_tied_to_named.ensures.tied c.if-not-branch.false);
}

pub returns : goal.returns
returns c =
    let id = ap (λ s. s.id) c.self.view_is in
    let size = ap length (c.as_slice-places.ensures ∙ ap (λ s. s.task.places) c.self.view_is) in
    named_covers c.args.self.now c.args.front c.loop-at.chosen.members c.args.place.now c.requires.place
    (sym (c.contains.ensures.value ∙ ap₂ (λ (xs : List ℕ) (i : ℕ). has xs i) c.as_slice.ensures.value id) ∙ c.if-contains.false)
    c.loop-at.invariant.named
    (λ j q above there.
    let low = slice_get_within c.args.self.now.task.places j q there in
    c.loop-at.invariant.tied j q above (omega (arith, low, size, c.loop-at-test.false)) there)
