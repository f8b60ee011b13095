use Rattle.std.proofs.Common.{◌≡◌, ◌∙◌, ◌<◌, ◌==◌, None, false, ap, ap₂, sym, ◌++◌, ◌∷◌, [], length, length-append, arith}
use Rattle.std.specs.List.{list_any}
use Rattle.indexmap.specs.IndexSet.{spare}
use Rattle.bc_mean.specs.Enabled.{are_different}
use Rattle.bc_step.specs.Held.{HeldParts, held_of, is_given, unwritten}
use Rattle.bc_step.proofs.Holds.{has_held, inserted, different_more, held_more, when_ok}
use Rattle.bc_step.proofs.Lookups.{any_flip}
use Rattle.bc_step.proofs.held.Holdings.give.Goals as goal

absent : (c : goal.After-push_in) → list_any (λ k. c.args.id == k) c.self.inside.ids.keys ≡ false
absent c =
    has_held c.args.id c.self.inside.ids.keys c.self.inside.given.items c.self.invariant.0
    ∙ ap (λ (h : HeldParts). is_given c.args.id h.held) c.self.view_is ∙ c.requires.new

room : (c : goal.After-push_in) → 0 < spare c.self.inside.ids
room c = omega (arith, ap (λ (h : HeldParts). h.spare) c.self.view_is, c.requires.room)

keys : (c : goal.After-push_in) → c.insert.new.self.keys ≡ c.self.inside.ids.keys ++ c.args.id ∷ []
keys c =
    inserted c.self.inside.ids.keys c.insert.new.self.keys c.args.id (absent c)
    (when_ok c.insert.result _ (c.insert.ensures.succeeds (room c)) c.insert.ensures.keys)

pub invariant_of-self : goal.invariant_of-self
invariant_of-self c = (
  ap length (keys c) ∙ omega (arith, length-append c.self.inside.ids.keys (c.args.id ∷ []), length-append c.self.inside.given.items (unwritten c.args.body ∷ []), ap length c.push_in.ensures.items, c.self.invariant.0),
  ap are_different (keys c) ∙ different_more c.self.inside.ids.keys c.args.id c.self.invariant.1 (sym (any_flip c.args.id c.self.inside.ids.keys) ∙ absent c),
)

pub returns-clause-held : goal.returns-clause-held
returns-clause-held c =
    ap₂ held_of (keys c) c.push_in.ensures.items
    ∙ held_more c.self.inside.ids.keys c.self.inside.given.items c.args.id c.args.body c.self.invariant.0
    ∙ ap (λ (h : HeldParts). h.held ++ record { id = c.args.id; body = c.args.body; copy = None } ∷ []) c.self.view_is
