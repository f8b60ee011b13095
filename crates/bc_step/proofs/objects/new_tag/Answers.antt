use Rattle.std.proofs.Common.{◌∙◌, Some, ap, reverse, subst}
use Rattle.bc_step.specs.Area.{MakesInstance}
use Rattle.bc_step.specs.Parts.{GoesBehind}
use Rattle.bc_step.proofs.TagRules.{tag_set}
use Rattle.bc_step.proofs.objects.new_tag.Goals as goal

pub returns-in-Some-clause-ok : goal.returns-in-Some-clause-ok
returns-in-Some-clause-ok c = λ code cs ts are.
    let s = c.args.state.now in
    let a = c.args.area.now in
    let b = c.make_instance.new.self in
    let t = c.advance.new.state in
    let u = c.set_tag.new.state in
    let n = c.in-Some.n in
    let made : MakesInstance (Some n) c.args.tag_type a b = subst (λ o. MakesInstance o c.args.tag_type a b) c.in-Some.is c.in_ok-make_instance.ensures.ok in
    let behind : GoesBehind (record s { tags = u.tags }) t = subst (λ v. GoesBehind v t) c.set_tag.ensures.others c.advance.ensures.behind in
    tag_set s t u.tags a b c.args.at c.args.tag_type c.args.variable n cs ts made behind c.set_tag.ensures.tags (ap (λ v. reverse v.items) c.advance.ensures.stack ∙ ap (λ v. reverse v.stack.items) c.set_tag.ensures.others) are
