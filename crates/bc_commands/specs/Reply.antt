-- What a call comes to before anything is written, as texts.
use Rattle.std.specs.Prelude.{ℕ, List, [], length, Option, Some, None}
use Rattle.bc_data.specs.Typed.{TypedProgram}
use Rattle.bc_data.specs.declared.run.Invocation.{Invocation}
use Rattle.bc_data.specs.declared.run.Place.{Place}
use Rattle.bc_data.specs.declared.run.Stop.{Stop}
use Rattle.bc_data.specs.declared.run.Stop.TheVariants as stop
use Rattle.bc_data.specs.declared.run.Failure.{Failure}
use Rattle.bc_texts.specs.declared.refused.RefusedKind.{RefusedKind}
use Rattle.bc_texts.specs.Texts.{stop_text, words_text, read_text, long_text, refused_text, memory_text}
use Rattle.bc_commands.specs.declared.answer.Answer.{Answer}
use Rattle.bc_commands.specs.declared.answer.Message.{Message}
use Rattle.bc_commands.specs.declared.answer.Message.TheVariants as message
use Rattle.bc_commands.specs.declared.answer.Output.{Output}
use Rattle.bc_commands.specs.declared.answer.Output.TheVariants as output
use Rattle.bc_commands.specs.declared.answer.Refusal.{Refusal}
use Rattle.bc_commands.specs.declared.answer.Refusal.TheVariants as refusal

-- a status, the history and the stop of a run, and the texts for `out` and for `err`
pub record Reply : Type 0 where
  pub status : ℕ
  pub history : List Invocation
  pub stop : Option Stop
  pub out : List ℕ
  pub err : List ℕ

abbrev pub message_of : Refusal → List ℕ
message_of refusal.NoCommand = words_text
message_of refusal.ReadFailed = read_text
message_of refusal.TooLong = long_text
message_of refusal.Memory = memory_text

abbrev pub status_of_refusal : Refusal → ℕ
status_of_refusal refusal.NoCommand = 2
status_of_refusal refusal.ReadFailed = 6
status_of_refusal refusal.TooLong = 8
status_of_refusal refusal.Memory = 9

-- the status of a run that stopped so
abbrev pub status_of : Stop → ℕ
status_of stop.End = 0
status_of (stop.Spent v) = 3
status_of (stop.Crowded v) = 4
status_of stop.Memory = 9

-- a run's history, its stop and its output; of a run that is hidden no output, and of a text neither history nor stop
abbrev pub history_of : Output → List Invocation
history_of (output.Text text) = []
history_of (output.Run book) = book.history
history_of (output.Hidden book) = book.history

abbrev pub stop_of : Output → Option Stop
stop_of (output.Text text) = None
stop_of (output.Run book) = book.stop
stop_of (output.Hidden book) = book.stop

abbrev pub printed_by : Output → List ℕ
printed_by (output.Text text) = text
printed_by (output.Run book) = book.store.output
printed_by (output.Hidden book) = []

abbrev pub text_of : Message → List ℕ
text_of (message.Text text) = text
text_of (message.Fixed r) = message_of r

abbrev pub reply_of : Answer → Reply
reply_of a = record { status = a.status; history = history_of a.output; stop = stop_of a.output; out = printed_by a.output; err = text_of a.message }

-- A run is told: its status, its output and what is told of its end.
abbrev pub reply_of_run : TypedProgram → List Invocation → Stop → List ℕ → List Failure → Reply
reply_of_run program history stop output failures = record { status = status_of stop; history = history; stop = Some stop; out = output; err = stop_text program stop (length history) failures }

-- There was no memory for what is told of a run's end.
abbrev pub reply_without_end : List Invocation → Stop → Reply
reply_without_end history stop = record { status = 9; history = history; stop = Some stop; out = []; err = memory_text }

-- a text alone is written
abbrev pub reply_of_text : List ℕ → Reply
reply_of_text text = record { status = 0; history = []; stop = None; out = text; err = [] }

-- a program's text is refused
abbrev pub reply_of_fault : RefusedKind → Place → Reply
reply_of_fault kind at = record { status = 1; history = []; stop = None; out = []; err = refused_text kind at }

-- a message alone is written
abbrev pub reply_of_refusal : Refusal → Reply
reply_of_refusal r = record { status = status_of_refusal r; history = []; stop = None; out = []; err = message_of r }
