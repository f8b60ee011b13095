use Rattle.std.proofs.Common.{◌≡◌, ◌∙◌, sym, subst, None}
use Rattle.bc_store_tests.specs.Checked.{Ascend}
use Rattle.bc_store_tests.proofs.Publishing.{can_publish, none_is}
use Rattle.bc_store_tests.proofs.checked.can_publish.Goals as goal

pub returns : goal.returns
returns c h =
    let none : c.room_for.result ≡ None = none_is c.room_for.result (sym c.is_some.ensures ∙ c.if-is_some.false) in
    let all : Ascend 0 c.args.changes.now.bodies = subst (Ascend 0) c.as_slice.ensures (c.ascend.ensures h) in
    can_publish c.args.store.now.plain c.args.changes.now (sym c.room_for.ensures ∙ none) (c.can_write_all.ensures c.if-not-can_write_all.false) (c.are_made_bodies.ensures c.if-not-are_made_bodies.false) all
