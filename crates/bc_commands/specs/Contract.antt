-- What the top call answers, and why.
use Rattle.std.specs.Prelude.{◌≡◌, ◌⊎◌, ℕ, ◌+◌, ◌<◌, ◌≤◌, List, length, Option, Some, IfSome, IsSomeAnd}
use Rattle.bc_data.specs.SourceTree.{Sequence, Item}
use Rattle.bc_data.specs.Typed.{TypedProgram}
use Rattle.bc_data.specs.declared.run.Place.{Place}
use Rattle.bc_data.specs.declared.run.Stop.{Stop}
use Rattle.bc_data.specs.declared.run.Stop.TheVariants as stops
use Rattle.bc_base.specs.Outside.{Rose, Appends, AppendsPart, GivesAll, LosesUpTo}
use Rattle.bc_base.specs.Files.{Told, file_of, with_asked}
use Rattle.bc_code.specs.declared.code.Code.{Code}
use Rattle.bc_code.specs.Listing.{listing_text}
use Rattle.bc_code.specs.Translation.{Translates}
use Rattle.bc_print.specs.Canonical.{program_text}
use Rattle.bc_data.specs.declared.run.Failure.{Failure}
use Rattle.bc_serial.specs.Run.{IsRunOf}
use Rattle.bc_words.specs.declared.commands.Command.{Command}
use Rattle.bc_words.specs.declared.commands.Command.TheVariants as command
use Rattle.bc_words.specs.Commands.{IsCommand, IsNoCommand, file_name, file_limit}
use Rattle.bc_texts.specs.declared.refused.RefusedKind.{RefusedKind}
use Rattle.bc_texts.specs.Texts.{write_text, ok_text}
use Rattle.bc_read.specs.Reading.{IsProgramText, IsRefused}
use Rattle.bc_commands.specs.declared.answer.Refusal.{Refusal}
use Rattle.bc_commands.specs.declared.answer.Refusal.TheVariants as refusal
use Rattle.bc_commands.specs.declared.top.Report.{Report}
use Rattle.bc_commands.specs.Reply.{Reply, reply_of_run, reply_without_end, reply_of_text, reply_of_fault, reply_of_refusal}

-- a sink or a source before and after: what it took or has left, where it tells that, and its count of faults
pub record Side : Type 0 where
  pub old : Option (List ℕ)
  pub new : Option (List ℕ)
  pub old_faults : ℕ
  pub new_faults : ℕ

abbrev pub side : {A : Type 0} → (A → Option (List ℕ)) → (A → ℕ) → A → A → Side
side told faults old new = record { old = told old; new = told new; old_faults = faults old; new_faults = faults new }

-- what a call reads: the files, where the shelf tells them, with the shelf's count of faults before and after; and the input
pub record Inputs : Type 0 where
  pub told : Option Told
  pub old_faults : ℕ
  pub new_faults : ℕ
  pub source : Side

abbrev pub inputs : Option Told → ℕ → ℕ → Side → Inputs
inputs told old new source = record { told = told; old_faults = old; new_faults = new; source = source }

-- how many bytes the input may have
abbrev pub input_limit : ℕ
input_limit = 65536

abbrev pub IsUntouched : Side → Type 0
IsUntouched s = (s.new ≡ s.old) × (s.new_faults ≡ s.old_faults)

-- The whole input was read, and this is it.
pub record IsInput (s : Side) (input : List ℕ) : Type 0 where
  pub all : GivesAll s.old s.new input
  pub within : length input ≤ input_limit
  pub steady : s.new_faults ≡ s.old_faults

-- where the source tells what is left, that is longer than the limit
abbrev pub IsLongInput : Side → Type 0
IsLongInput s = IfSome s.old (λ left. input_limit < length left)

-- The answer tells the run of the program on this input. Where there was no memory for what is told of its end, it tells that
-- alone; an end by want of memory needs none.
pub record Tells (program : TypedProgram) (input : List ℕ) (commits : ℕ) (a : Reply) : Type 0 where
  pub stop : Stop
  pub output : List ℕ
  pub failures : List Failure
  pub run : IsRunOf program input commits a.history stop output failures
  pub told :
      (a ≡ reply_of_run program a.history stop output failures)
      ⊎ ((stop ≡ stops.Memory → ⊥) × (a ≡ reply_without_end a.history stop))

-- The text is a program, and the answer tells its run.
pub record Serves (text input : List ℕ) (commits : ℕ) (a : Reply) : Type 0 where
  pub items : Sequence Item
  pub program : TypedProgram
  pub is : IsProgramText text items program
  pub tells : Tells program input commits a

-- The text is a program, and the answer is the canonical text of its tree.
abbrev pub Shows : List ℕ → Reply → Type 0
Shows text a = (items : Sequence Item) × (program : TypedProgram) × IsProgramText text items program × (a ≡ reply_of_text (program_text items))

-- The text is a program, and the answer counts what it declares.
abbrev pub Checks : List ℕ → Reply → Type 0
Checks text a = (items : Sequence Item) × (program : TypedProgram) × IsProgramText text items program × (a ≡ reply_of_text (ok_text (length program.classes) (length program.tag_types) (length program.tasks)))

-- The text is a program, and the answer is the listing of its code.
abbrev pub Lists : List ℕ → Reply → Type 0
Lists text a =
    (items : Sequence Item) × (program : TypedProgram) × (code : Code) × IsProgramText text items program × Translates program code
    × (a ≡ reply_of_text (listing_text program code))

-- The text is no program, and the answer tells its one fault.
abbrev pub Refuses : List ℕ → Reply → Type 0
Refuses text a = (kind : RefusedKind) × (at : Place) × IsRefused text kind at × (a ≡ reply_of_fault kind at)

-- What a command makes of a program's text. `serial` alone reads the input.
abbrev pub IsMadeOf : Command → List ℕ → Side → Reply → Type 0
IsMadeOf (command.Serial file commits) text source a = (input : List ℕ) × IsInput source input × Serves text input commits a
IsMadeOf (command.Show file) text source a = IsUntouched source × Shows text a
IsMadeOf (command.Check file) text source a = IsUntouched source × Checks text a
IsMadeOf (command.Code file) text source a = IsUntouched source × Lists text a

-- What a command makes of the text of its file. No input is read for a text that is no program.
abbrev pub IsMadeOrRefused : Command → List ℕ → Side → Reply → Type 0
IsMadeOrRefused c text source a = IsMadeOf c text source a ⊎ (IsUntouched source × Refuses text a)

-- where the shelf tells its files, this is the content of that name
abbrev pub IsFile : Option Told → List ℕ → List ℕ → Type 0
IsFile told file text = IfSome told (λ t. file_of t.files file ≡ Some text)

-- where the shelf tells its files, that file is longer than the limit
abbrev pub IsLongFile : Option Told → List ℕ → Type 0
IsLongFile told file = IfSome told (λ t. IsSomeAnd (file_of t.files file) (λ text. file_limit < length text))

-- The words are a command's, its file was read, and the answer is what the command makes of its text.
pub record IsMade (words : List (List ℕ)) (i : Inputs) (a : Reply) : Type 0 where
  pub command : Command
  pub is : IsCommand words command
  pub text : List ℕ
  pub content : IsFile i.told (file_name command) text
  pub within : length text ≤ file_limit
  pub made : IsMadeOrRefused command text i.source a

-- the command runs its text on the input, since it is a program
abbrev pub IsRunOn : Command → List ℕ → Type 0
IsRunOn (command.Serial file commits) text = (items : Sequence Item) × (program : TypedProgram) × IsProgramText text items program
IsRunOn (command.Show file) text = ⊥
IsRunOn (command.Check file) text = ⊥
IsRunOn (command.Code file) text = ⊥

-- the words are a command's that runs its file on the input
abbrev pub TakesInput : List (List ℕ) → Option Told → Type 0
TakesInput words told = (c : Command) × (text : List ℕ) × IsCommand words c × IsFile told (file_name c) text × IsRunOn c text

-- The cause of each refusal at the input. Want of memory has none.
abbrev pub IsInputCause : Side → Refusal → Type 0
IsInputCause source refusal.NoCommand = ⊥
IsInputCause source refusal.ReadFailed = Rose source.old_faults source.new_faults
IsInputCause source refusal.TooLong = IsLongInput source
IsInputCause source refusal.Memory = Unit {0}

-- The cause of each refusal. Want of memory has none.
abbrev pub IsCause : List (List ℕ) → Inputs → Refusal → Type 0
IsCause words i refusal.NoCommand = IsNoCommand words
IsCause words i refusal.ReadFailed =
    ((c : Command) × IsCommand words c × Rose i.old_faults i.new_faults)
    ⊎ (TakesInput words i.told × Rose i.source.old_faults i.source.new_faults)
IsCause words i refusal.TooLong =
    ((c : Command) × IsCommand words c × IsLongFile i.told (file_name c))
    ⊎ (TakesInput words i.told × IsLongInput i.source)
IsCause words i refusal.Memory = Unit {0}

-- The shelf was asked for the command's file, once, or for nothing.
abbrev pub AsksFile : List (List ℕ) → Option Told → Option Told → Type 0
AsksFile words old new = new ≡ old ⊎ ((c : Command) × IsCommand words c × (new ≡ with_asked old (file_name c)))

-- The input was read, at most one byte past its limit.
pub record IsTaken (s : Side) : Type 0 where
  pub part : LosesUpTo s.old s.new (input_limit + 1)
  pub count : s.old_faults ≤ s.new_faults

-- The input is as it was, unless the command runs its file on it.
abbrev pub ReadsInput : List (List ℕ) → Option Told → Side → Type 0
ReadsInput words told s = IsUntouched s ⊎ (TakesInput words told × IsTaken s)

-- An answer with its cause: what the command makes of its file, or a refusal.
abbrev pub IsAnswer : List (List ℕ) → Inputs → Reply → Type 0
IsAnswer words i a = IsMade words i a ⊎ ((r : Refusal) × IsCause words i r × (a ≡ reply_of_refusal r))

-- all was written
abbrev pub Takes : Side → List ℕ → Type 0
Takes s text = Appends s.old s.new text

-- a write failed, and only a part from the front was written
abbrev pub FailsAt : Side → List ℕ → Type 0
FailsAt s text = Rose s.old_faults s.new_faults × AppendsPart s.old s.new text

-- A write failed: on `err` behind the whole output, or on `out`, and then `write failed` is tried on `err`.
abbrev pub FailsEither : List ℕ → List ℕ → Side → Side → Type 0
FailsEither output text out err =
    (Takes out output × FailsAt err text)
    ⊎ (FailsAt out output × (Takes err write_text ⊎ FailsAt err write_text))

-- The answer is written, `out` before `err`. Where a write to `out` fails, `write failed` is tried on `err`; where any
-- write fails, the status is 7. The history and the stop are the answer's in every case.
abbrev pub IsWritten : Reply → Side → Side → ℕ → Type 0
IsWritten a out err status =
    ((status ≡ a.status) × Takes out a.out × Takes err a.err)
    ⊎ ((status ≡ 7) × FailsEither a.out a.err out err)

pub record IsTold (a : Reply) (out err : Side) (r : Report) : Type 0 where
  pub written : IsWritten a out err r.status
  pub history : r.history ≡ a.history
  pub stop : r.stop ≡ a.stop

-- The whole contract: some answer with its cause is told.
pub record Answers (words : List (List ℕ)) (i : Inputs) (out err : Side) (r : Report) : Type 0 where
  pub answer : Reply
  pub cause : IsAnswer words i answer
  pub telling : IsTold answer out err r
