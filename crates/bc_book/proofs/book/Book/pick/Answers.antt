use Rattle.std.proofs.Common.{◌≡◌, ◌<◌, Bool, None, length, sym, ap, subst}
use Rattle.bc_book_events.specs.Book.{BookState, held_by}
use Rattle.bc_book_events.specs.Events.{Step, answers, pick}
use Rattle.bc_book.specs.Kept.{state_of}
use Rattle.bc_book.proofs.Kept.{seen, with_lists}
use Rattle.bc_book.proofs.Taking.{ThisOne, this_kept, this_picked}
use Rattle.bc_book.proofs.book.Book.pick.Goals as goal

this : (c : goal.After-take_this) → ThisOne c.args.v c.args.worker c.take_this.result c.self.inside.pending c.take_this.new.self
this c = record { value = c.take_this.ensures.value; taken = c.take_this.ensures.taken; unchanged = c.take_this.ensures.unchanged }

picked : (c : goal.After-take_this) → pick c.args.worker c.args.v c.args.self.now ≡ answers c.take_this.result (state_of (with_lists c.self.inside c.take_this.new.self c.self.inside.stop))
picked c = seen (pick c.args.worker c.args.v) _ _ _ c.self.view_is (this_picked c.self.inside c.args.worker c.take_this.new.self c.args.v c.take_this.result (this c))

pub invariant_of-self : goal.invariant_of-self
invariant_of-self c =
    this_kept c.self.inside c.args.worker c.take_this.new.self c.keeps_sound_book.ensures c.self.invariant
    (subst (λ (b : BookState). held_by b.running c.args.worker ≡ None) (sym c.self.view_is) c.requires.free)
    (subst (λ (b : BookState). c.args.worker < length b.running) (sym c.self.view_is) c.requires.worker)
    c.args.v c.take_this.result (this c)

pub returns-clause-answer : goal.returns-clause-answer
returns-clause-answer c = sym (ap (λ (s : Step Bool). s.answer) (picked c))

pub returns-clause-book : goal.returns-clause-book
returns-clause-book c = sym (ap (λ (s : Step Bool). s.book) (picked c))
