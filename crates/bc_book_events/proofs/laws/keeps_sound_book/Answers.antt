use Rattle.bc_book_events.proofs.Sound.{keeps_sound_book}
use Rattle.bc_book_events.proofs.laws.keeps_sound_book.Goals as goal

pub returns : goal.returns
returns c = keeps_sound_book
