use Rattle.std.proofs.Common.{◌≡◌, ◌∷◌, [], length, rules, ap, sym, ◌∙◌, inl, inr, arith}
use Rattle.std.specs.Prelude.{codes}
use Rattle.std.specs.Fmt.{decimal}
use Rattle.bc_words.proofs.Commanding.{accepts, matched, refuses}
use Rattle.bc_words.proofs.commands.serial.Goals as goal
use Rattle.bc_words.proofs.commands.serial.Goals.{else-limit-ge1-via-then-limit-ge1+else-limit-le1000000, else-limit-ge1-via-else-limit-ge1}

pub returns-then-limit-le1000000-clause-command : goal.returns-then-limit-le1000000-clause-command
returns-then-limit-le1000000-clause-command c =
    let long : length c.args.words.now ≡ 3 = omega arith in
    let serial = sym c.as_slice.ensures ∙ matched _ _ c.if-ne.ensures ∙ c.as_slice-2.ensures in (
      accepts c.args.words.now c.command-item.result c.file-item.result c.commits-item.result c.in_ok-limit.limit long c.command-item.is c.file-item.is c.commits-item.is serial (sym c.as_slice-3.ensures ∙ c.in_ok-limit.ensures.some)
          ∙ ap (λ w. codes "serial" ∷ w ∷ decimal c.in_ok-limit.limit ∷ []) (sym c.as_slice-then-limit-le1000000.ensures),
      (c.if-limit-ge1.true, c.if-limit-le1000000.true),
    )

pub returns-else-limit-ge1-clause-none : goal.returns-else-limit-ge1-clause-none
returns-else-limit-ge1-clause-none c =
    refuses c.args.words.now c.commits-item.result c.in_ok-limit.limit c.commits-item.is (sym c.as_slice-3.ensures ∙ c.in_ok-limit.ensures.some) (search rules)
    (elim c.else-limit-ge1.branch [ else-limit-ge1-via-then-limit-ge1+else-limit-le1000000 w ↦ inr w.if-limit-le1000000.false | else-limit-ge1-via-else-limit-ge1 w ↦ inl w.if-limit-ge1.false ])
