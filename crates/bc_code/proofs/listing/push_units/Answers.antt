use Rattle.std.proofs.Common.{rules, arith, ◌≡◌, ◌++◌, ◌≤◌, ◌∙◌, length, min, ap, take}
use Rattle.std.specs.List.{flat_map, zip}
use Rattle.std.specs.Slice.Iter.{iter_rest}
use Rattle.std.specs.Iterator.Adapters.{zip_first, zip_second}
use Rattle.std.proofs.lemmas.List.{length_push}
use Rattle.std.proofs.lemmas.Slice.Zip.{zip_turn, zip_end}
use Rattle.bc_code.specs.Listing.{unit_text}
use Rattle.bc_code.proofs.Lists.{zipped_next, zipped_all, then_one}
use Rattle.bc_code.proofs.listing.push_units.Goals as goal

pub loop-name-preserved : goal.loop-name-preserved
loop-name-preserved c =
    let s = c.into_iter-name-iterator.result in
    let names : iter_rest (zip_first s) ≡ c.args.names.now = search rules in
    let units : iter_rest (zip_second s) ≡ c.args.units.now = search rules in
    let turn = zip_turn c.args.names.now c.args.units.now c.loop-name.yielded s c.loop-name.name-iterator c.next.new.self c.next.result names units c.loop-name.yielded_by (c.in-Some.name, c.in-Some.unit) c.in-Some.is c.next.ensures.steps in
    let lines = unit_text c.args.program.now in
    let count = ap (λ k. flat_map lines (zip (take k c.args.names.now) (take k c.args.units.now))) (length_push c.loop-name.yielded (c.in-Some.name, c.in-Some.unit)) in
    then_one _ _ _ _ _ _ c.loop-name.invariant
    (rw c.as_slice.ensures at c.in_ok-push_unit.ensures)
    (count ∙ zipped_next lines c.args.names.now c.args.units.now (length c.loop-name.yielded) c.in-Some.name.now c.in-Some.unit.now turn.0 turn.1 (turn.2 _) (turn.3 _))

pub returns : goal.returns
returns c =
    let s = c.into_iter-name-iterator.result in
    let names : iter_rest (zip_first s) ≡ c.args.names.now = search rules in
    let units : iter_rest (zip_second s) ≡ c.args.units.now = search rules in
    let end = zip_end c.args.names.now c.args.units.now c.loop-name.yielded s c.loop-name.name-iterator c.next.new.self c.next.result names units c.loop-name.yielded_by c.in-None.is c.next.ensures.steps in
    let inside : min (length c.args.names.now) (length c.args.units.now) ≤ length c.loop-name.yielded = omega (arith, end) in
    c.loop-name.invariant ∙ ap (λ pairs. c.args.text.now ++ flat_map (unit_text c.args.program.now) pairs) (zipped_all c.args.names.now c.args.units.now (length c.loop-name.yielded) inside)
