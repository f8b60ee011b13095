use Rattle.std.proofs.Common.{ap, subst}
use Rattle.bc_params_sets.specs.declared.place.TaskSets.{TaskSets}
use Rattle.bc_params_search.specs.Tied.{Shares, HasNear}
use Rattle.bc_params_search.proofs.Near.{tied_from_near}
use Rattle.bc_params_search.proofs.search.Search.add_tied.Goals as goal

pub returns-in_ok-add_near-in-Some-clause-tied : goal.returns-in_ok-add_near-in-Some-clause-tied
returns-in_ok-add_near-in-Some-clause-tied c = λ _.
    tied_from_near c.args.self.now.task c.args.self.now.bound c.args.place.now c.args.other.now c.args.object c.in-Some.tag_type c.add_near.new.chosen.members
    (subst (λ (t : TaskSets). Shares t c.args.place.now c.args.other.now c.in-Some.tag_type) (ap (λ s. s.task) c.self.view_is) c.in-Some.ensures)
    (subst (λ bound. HasNear bound c.args.object c.in-Some.tag_type c.add_near.new.chosen.members) (ap (λ s. s.bound) c.self.view_is) c.in_ok-add_near-in-Some.ensures.near)
