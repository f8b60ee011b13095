use Rattle.std.proofs.Common.{◌≡◌, sym, ap, ◌∙◌, arith}
use Rattle.std.specs.List.{count_by}
use Rattle.bc_pending.specs.Lists.{Lists, names}
use Rattle.bc_pending.specs.Named.{named_in}
use Rattle.bc_pending.proofs.Named.{all_stay, none_counted, times, unnamed}
use Rattle.bc_pending.proofs.pending.Pending.drop_of.Goals as goal

pub returns-then-is_none-clause-listed : goal.returns-then-is_none-clause-listed
returns-then-is_none-clause-listed g c =
    let none : times c.args.id (named_in c.args.self.now.listed) ≡ 0 = unnamed c.self.inside.named c.args.id c.self.inside.items.items c.args.self.now.listed (ap (λ (s : Lists). s.listed) c.self.view_is) c.self.invariant.1 (sym c.is_none.ensures ∙ c.if-is_none.true) in
    sym (all_stay c.args.id (g.T.Keep.keeps c.args.test.now) c.args.self.now.listed none)

pub returns-then-is_none-clause-steps : goal.returns-then-is_none-clause-steps
returns-then-is_none-clause-steps g c =
    let none : times c.args.id (named_in c.args.self.now.listed) ≡ 0 = unnamed c.self.inside.named c.args.id c.self.inside.items.items c.args.self.now.listed (ap (λ (s : Lists). s.listed) c.self.view_is) c.self.invariant.1 (sym c.is_none.ensures ∙ c.if-is_none.true) in
    let zero : count_by (names c.args.id) c.args.self.now.listed ≡ 0 = none_counted c.args.id c.args.self.now.listed none in
    omega arith
