use Rattle.std.proofs.Common.{◌≡◌, ◌∙◌, ap, sym}
use Rattle.std.proofs.lemmas.List.{take-map}
use Rattle.bc_types_rules.specs.Context as rules
use Rattle.bc_types_expr.specs.Scopes.{in_scope_seen, known_seen, with_first}
use Rattle.bc_types_expr.proofs.scope.Scope.end_block.Goals as goal

pub returns : goal.returns
returns c =
    let s = c.self.inside in
    let kept : known_seen c.truncate.new.self.items ≡ _ = ap known_seen c.truncate.ensures.items ∙ sym (take-map in_scope_seen c.args.before s.known.items) in
    let with_known = λ (ls : _). let t : rules.Scope = record { known = ls; slots = s.slots; tags = s.tags; count = s.count } in t in
    ap with_known kept ∙ ap (with_first c.args.before) c.self.view_is
