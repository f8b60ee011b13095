use Rattle.std.proofs.Common.{ℕ, List, filter, take, get_or, refl, sym, ap, ◌∙◌, arith}
use Rattle.std.proofs.lemmas.List.{take_more}
use Rattle.bc_book_lists.specs.Search.{stays_behind}
use Rattle.bc_book_lists.proofs.Dropping.{drops_more, drops_none}
use Rattle.bc_book_lists.proofs.drops.drop_each.Goals as goal

pub loop-id-init : goal.loop-id-init
loop-id-init g c = record {
  listed = drops_none c.args.params.now.kept c.args.pending.now.listed;
  held = refl;
  spare = omega arith;
}

pub loop-id-preserved : goal.loop-id-preserved
loop-id-preserved g c =
    let ids = c.args.reshaped.now in
    let i = c.loop-id.id-index in
    let kept = c.args.params.now.kept in
    record {
      listed =
          c.drop_of.ensures.listed
          ∙ drops_more kept (take i ids) (get_or ids i 0) c.args.pending.now.listed c.loop-id.pending.listed c.loop-id.invariant.listed
          ∙ ap (λ (l : List ℕ). filter (stays_behind kept l) c.args.pending.now.listed) (sym (take_more ids i 0 c.loop-id-test.true));
      held = c.drop_of.ensures.held ∙ c.loop-id.invariant.held;
      spare = omega (arith, c.drop_of.ensures.spare, c.loop-id.invariant.spare);
    }
