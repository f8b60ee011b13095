-- What is kept where only the lists and the stop change.
use Rattle.std.proofs.Common.{◌≡◌, ◌∙◌, length, ap, sym, Option}
use Rattle.bc_data.specs.declared.run.Stop.{Stop}
use Rattle.bc_pending.specs.Lists.{Lists}
use Rattle.bc_book_events.specs.Book.{BookState}
use Rattle.bc_book_events.specs.Events.{Step}
use Rattle.bc_book_events.specs.Sound.{IsSoundBook}
use Rattle.bc_book.specs.declared.book.Book.TheInside.{Inside}
use Rattle.bc_book.specs.Kept.{IsKept, state_of}

abbrev pub with_lists : Inside → Lists → Option Stop → Inside
with_lists i pending o = record i { pending = pending; stop = o }

pub kept_with : (i : Inside) (pending : Lists) (o : Option Stop) → IsKept i → length pending.held ≡ length i.pending.held → IsSoundBook (state_of (with_lists i pending o)) → IsKept (with_lists i pending o)
kept_with i pending o kept size sound = record {
  sound = sound;
  sets = kept.sets;
  workers = kept.workers ∙ sym size;
  some = kept.some;
  few = kept.few;
  limit = kept.limit;
}

-- an event on a book that is seen so
pub seen : {A : Type 0} (event : BookState → Step A) (b c : BookState) (s : Step A) → b ≡ c → event b ≡ s → event c ≡ s
seen event b c s e h = ap event (sym e) ∙ h
