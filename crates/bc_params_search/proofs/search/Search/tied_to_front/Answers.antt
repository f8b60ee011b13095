use Rattle.std.proofs.Common.{◌≡◌, ◌<◌, length, get_or, refl, sym, ap, ◌∙◌, arith}
use Rattle.std.specs.Prelude.{slice_get}
use Rattle.std.proofs.lemmas.Option.{slice_get_read, slice_get_within, slice_get-get_or}
use Rattle.bc_params_search.proofs.Near.{front_covers}
use Rattle.bc_params_search.proofs.search.Search.tied_to_front.Goals as goal

pub returns-then-branch : goal.returns-then-branch
returns-then-branch c =
    let places : c.as_slice-places.result.now ≡ c.args.self.now.task.places = c.as_slice-places.ensures ∙ ap (λ s. s.task.places) c.self.view_is in
    let low : c.loop-at.at < length c.as_slice-objects.result.now = omega arith in
    let within = slice_get_within c.args.self.now.task.places (length c.args.front) c.args.place.now c.requires.place in
    let size = ap length places in
    let short = ap length c.as_slice-objects.ensures.value in
    let there : c.loop-at.at < length c.as_slice-places.result.now = omega (arith, within, size, short, low) in
    front_covers c.args.self.now c.args.front c.add_tied.new.chosen.members c.args.place.now c.index-places-at.result c.loop-at.at (get_or c.as_slice-objects.result.now c.loop-at.at 0)
    c.requires.place
    (sym (ap (λ qs. slice_get qs c.loop-at.at) places) ∙ slice_get_read c.as_slice-places.result.now (length c.as_slice-places.result.now) c.loop-at.at c.index-places-at.result refl there c.index-places-at.is)
    (sym (ap (λ xs. slice_get xs c.loop-at.at) c.as_slice-objects.ensures.value) ∙ slice_get-get_or c.as_slice-objects.result.now c.loop-at.at 0 low)
    (c.in_ok-add_tied.ensures.tied c.if-branch.true)
