-- What the parts of the top call hand on.
use Rattle.std.specs.Prelude.{◌≡◌, ◌⊎◌, ℕ, List, Option, Some}
use Rattle.bc_data.specs.Typed.{TypedProgram}
use Rattle.bc_data.specs.declared.run.Stop.{Stop}
use Rattle.bc_code.specs.declared.code.Code.{Code}
use Rattle.bc_code.specs.Listing.{listing_text}
use Rattle.bc_code.specs.Translation.{Translates}
use Rattle.bc_base.specs.Outside.{Rose}
use Rattle.bc_base.specs.Files.{Told, with_asked}
use Rattle.bc_failed.specs.Ordered.{ordered}
use Rattle.bc_book_events.specs.Book.{BookState}
use Rattle.bc_serial.specs.Run.{IsRunOf}
use Rattle.bc_words.specs.declared.commands.Command.{Command}
use Rattle.bc_commands.specs.declared.answer.Refusal.{Refusal}
use Rattle.bc_commands.specs.declared.answer.Refusal.TheVariants as refusal
use Rattle.bc_commands.specs.Reply.{Reply}
use Rattle.bc_commands.specs.Contract.{Side, IsInput, IsInputCause, IsLongFile, IsRunOn, IsTaken, IsUntouched, Tells}

-- The cause of each refusal at the file. Want of memory has none.
abbrev pub IsFileCause : List ℕ → Option Told → ℕ → ℕ → Refusal → Type 0
IsFileCause file told old new refusal.NoCommand = ⊥
IsFileCause file told old new refusal.ReadFailed = Rose old new
IsFileCause file told old new refusal.TooLong = IsLongFile told file
IsFileCause file told old new refusal.Memory = Unit {0}

-- the shelf was asked for the file, once, or for nothing
abbrev pub IsAsked : List ℕ → Option Told → Option Told → Type 0
IsAsked file old new = new ≡ old ⊎ new ≡ with_asked old file

-- The run of the program on this input is over, and this is its book.
pub record HasRun (program : TypedProgram) (input : List ℕ) (commits : ℕ) (b : BookState) : Type 0 where
  pub same : b.program ≡ program
  pub stop : Stop
  pub stopped : b.stop ≡ Some stop
  pub run : IsRunOf program input commits b.history stop b.store.output (ordered b.failures)

-- the whole input was read, and the answer tells the program's run on it
abbrev pub IsServed : TypedProgram → ℕ → Side → Reply → Type 0
IsServed program commits source a = (input : List ℕ) × IsInput source input × Tells program input commits a

-- memory was wanting, or the command runs its text on the input, where the cause is
abbrev pub IsMakeCause : Command → List ℕ → Side → Refusal → Type 0
IsMakeCause c text source r = (r ≡ refusal.Memory) ⊎ (IsRunOn c text × IsInputCause source r)

-- the input is as it was, unless the command runs its text on it
abbrev pub TakesToRun : Command → List ℕ → Side → Type 0
TakesToRun c text source = IsUntouched source ⊎ (IsRunOn c text × IsTaken source)

-- the text is the listing of the program's code
abbrev pub ListsProgram : TypedProgram → List ℕ → Type 0
ListsProgram program text = (code : Code) × Translates program code × (text ≡ listing_text program code)
