use Rattle.std.proofs.Common.{◌≡◌, sym, refl, Some, None}
use Rattle.std.specs.Prelude.{slice_get}
use Rattle.bc_mean.specs.Work.{NewObject, newest, touch}
use Rattle.bc_code.specs.Given.{given_look}
use Rattle.bc_step.specs.Area.{copies_of, given_of, work_with}
use Rattle.bc_step.proofs.Opening.{mapped_none, mapped_some, reached}
use Rattle.bc_step.proofs.calls.reach.Goals as goal

pub returns-in-Null : goal.returns-in-Null
returns-in-Null c = λ turns cs ts s k. (work_with c.args.area.now turns cs ts, rw c.in-Null.is refl)

pub returns-in-None : goal.returns-in-None
returns-in-None c = λ turns cs ts s k.
    let a = c.args.area.now in
    let none : given_look (given_of a.held) c.in-Old.id ≡ None = mapped_none (newest (copies_of a.held) c.in-Old.id) (given_look (given_of a.held) c.in-Old.id) (sym c.in-None.ensures.none) in
    (touch c.in-Old.id (work_with a turns cs ts), rw c.in-Old.is (rw none refl), λ a cs ts. refl)

pub returns-in-Some : goal.returns-in-Some
returns-in-Some c = λ turns cs ts.
    let a = c.args.area.now in
    let id = c.in-Old.id in
    let there = mapped_some (newest (copies_of a.held) id) (given_look (given_of a.held) id) c.in-Some.field-0.now (sym c.in-Some.ensures.some) in
    reached (given_look (given_of a.held)) c.args.at c.args.x id a turns cs ts there.0 c.in-Old.is there.1

pub returns-in-Some-body_of : goal.returns-in-Some-body_of
returns-in-Some-body_of c = λ turns cs ts.
    let a = c.args.area.now in
    let e : slice_get a.made c.in-New.n ≡ Some c.in-Some-body_of.field-0.now = c.in-Some-body_of.ensures.some in
    (record { object = NewObject c.in-New.n; body = c.in-Some-body_of.field-0.now }, ts, rw c.in-New.is (rw e refl))
