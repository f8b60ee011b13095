use Rattle.std.proofs.Common.{◌≡◌, arith, false, true, refl, subst, sym}
use Rattle.std.specs.List.{list_any}
use Rattle.bc_mean.specs.Values.{same_tag}
use Rattle.bc_step.specs.Parts.{Binds}
use Rattle.bc_step.proofs.Parts.{bind_does, bind_full, kept_by}
use Rattle.bc_step.proofs.tags.bind.Goals as goal

pub returns-then-len-ge-MOST_TAGS-clause-ok : goal.returns-then-len-ge-MOST_TAGS-clause-ok
returns-then-len-ge-MOST_TAGS-clause-ok c = λ p b e.
    let a = c.args.area.now in
    let d = c.body-body.result.now in
    let same : d ≡ b = cc (c.body-body.ensures, e) in
    let new : list_any (same_tag c.args.t) d.tags ≡ false = cc (c.if-has_tag.false, c.has_tag.ensures) in
    subst (λ b. Binds false p c.args.object b c.args.t a a) same (bind_full a p c.args.object d c.args.t new (omega (arith, c.len.ensures)), refl)

pub returns-clause-ok : goal.returns-clause-ok
returns-clause-ok c = λ p b e.
    let a = c.args.area.now in
    let d = c.body-body.result.now in
    let same : d ≡ b = cc (c.body-body.ensures, e) in
    let new : list_any (same_tag c.args.t) d.tags ≡ false = cc (c.if-has_tag.false, c.has_tag.ensures) in
    subst (λ b. Binds true p c.args.object b c.args.t a c.edit.new.self) same (bind_does a c.edit.new.self p c.args.object d c.args.t new (omega (arith, c.len.ensures)) (c.in_ok-edit.ensures.ok d (sym c.body-body.ensures)))

pub returns-clause-kept : goal.returns-clause-kept
returns-clause-kept c = kept_by c.args.area.now c.edit.new.self c.args.object _ (c.in_ok-edit.ensures.ok c.body-body.result.now (sym c.body-body.ensures))

pub returns-clause-end : goal.returns-clause-end
returns-clause-end c = (c.in_ok-edit.ensures.ok c.body-body.result.now (sym c.body-body.ensures)).end
