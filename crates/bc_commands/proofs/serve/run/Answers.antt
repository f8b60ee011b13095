use Rattle.std.proofs.Common.{subst}
use Rattle.bc_book_events.specs.Book.{BookState}
use Rattle.bc_book_events.specs.SoundLaws.{book_at_start}
use Rattle.bc_serial.specs.Run.{Finishes, course_after, stop_of}
use Rattle.bc_commands.proofs.serve.run.Goals as goal

pub returns : goal.returns
returns c =
    let start = book_at_start c.args.program c.args.input.now c.args.commits 1 in
    let from : Finishes start c.finish.new.book = subst (λ (b : BookState). Finishes b c.finish.new.book) c.in_ok-book.ensures c.finish.ensures in
    let s = stop_of (course_after start from.steps).ended in
    record {
      same = from.same.program;
      stop = s;
      stopped = from.stop;
      run = c.runs_from_start.ensures c.args.program c.args.input.now c.args.commits 1 c.finish.new.book s from c.is_sound.ensures from.stop;
    }
