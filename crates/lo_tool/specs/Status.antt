-- What `run` leaves, status by status: what the words and the files were, what became of the files, and what standard output and
-- standard error took. `before` and `after` are all that is outside, at the call and at its return.
use Rattle.std.specs.Prelude.{◌≡◌, ℕ, ◌<◌, ◌≤◌, List, Some, None, IsTrue}
use Rattle.lo_tool.specs.declared.run.Status.{Status}
use Rattle.lo_tool.specs.declared.run.Status.TheVariants.{Done, Refused, Usage, BadInput, Fault, NoMemory}
use Rattle.lo_tool.specs.Command.{Command, command_of}
use Rattle.lo_tool.specs.Commands.{IsMadeBy, IsBadInput, IsRefusal, HasInput}
use Rattle.lo_tool.specs.Made.{FilesAre, FilesLeft, Made, image_saved}
use Rattle.lo_tool.specs.Outside.{Outside, FilesState, Took, TookFront, TookNothing, FilesStay, IsFaultless, Failing, last_count}
use Rattle.lo_tool.specs.Texts.{usage_line, fault_line}

-- the words are a command, and this is what it makes
pub record IsMade (words : List (List ℕ)) (files : FilesState) (made : Made) : Type 0 where
  pub command : Command
  pub is : command_of words ≡ Some command
  pub by : IsMadeBy command files made

-- the words are a command, and the line says why a file of it cannot be used
pub record IsInputLine (words : List (List ℕ)) (files : FilesState) (line : List ℕ) : Type 0 where
  pub command : Command
  pub is : command_of words ≡ Some command
  pub bad : IsBadInput command files line

-- the words are a command, and the line says that a reply which it rests on is a refusal
pub record IsRefusalLine (words : List (List ℕ)) (files : FilesState) (line : List ℕ) : Type 0 where
  pub command : Command
  pub is : command_of words ≡ Some command
  pub by : IsRefusal command files line

-- Done: standard output took the text of the command, and the image that it saves is saved
pub record IsDone (words : List (List ℕ)) (before after : Outside) : Type 0 where
  pub made : Made
  pub is : IsMade words before.files made
  pub files : FilesAre made.saved before.files after.files
  pub printed : Took made.text before.out after.out
  pub no_error : TookNothing before.err after.err

-- Usage: the words are no command
pub record IsUsage (words : List (List ℕ)) (before after : Outside) : Type 0 where
  pub no_command : command_of words ≡ None
  pub files : FilesStay before.files after.files
  pub no_output : TookNothing before.out after.out
  pub said : Took usage_line before.err after.err

-- BadInput: a file of the command cannot be used
pub record IsRefusedInput (words : List (List ℕ)) (before after : Outside) : Type 0 where
  pub line : List ℕ
  pub bad : IsInputLine words before.files line
  pub files : FilesStay before.files after.files
  pub no_output : TookNothing before.out after.out
  pub said : Took line before.err after.err

-- Refused: a reply that the command rests on is a refusal
pub record IsRefused (words : List (List ℕ)) (before after : Outside) : Type 0 where
  pub line : List ℕ
  pub refusal : IsRefusalLine words before.files line
  pub files : FilesStay before.files after.files
  pub no_output : TookNothing before.out after.out
  pub said : Took line before.err after.err

-- a line that can be said on standard error: that of a fault, or the one other line that the words and the files ask for
pub data IsErrorLine (words : List (List ℕ)) (files : FilesState) (line : List ℕ) : Type 0 where
  FaultLine : line ≡ fault_line → IsErrorLine words files line
  UsageLine : command_of words ≡ None → line ≡ usage_line → IsErrorLine words files line
  InputLine : IsInputLine words files line → IsErrorLine words files line
  RefusalLine : IsRefusalLine words files line → IsErrorLine words files line

-- a front of such a line was said
pub record SaidFront (words : List (List ℕ)) (before after : Outside) : Type 0 where
  pub line : List ℕ
  pub kind : IsErrorLine words before.files line
  pub said : TookFront line before.err after.err

-- the image that the command saves is saved, and a front of its text was printed
pub record PrintedFront (words : List (List ℕ)) (before after : Outside) : Type 0 where
  pub made : Made
  pub is : IsMade words before.files made
  pub files : FilesAre made.saved before.files after.files
  pub printed : TookFront made.text before.out after.out

-- Fault: a count of faults rose. Where that of standard output is greater, the image is saved and a front of the command's text
-- was printed; else nothing was printed, and no file changed, but the new file of an image where files failed. Where that of
-- standard error is not greater, the fault line was said whole, else a front of one line. The last value of a count, at which it
-- stands still, is left out.
pub record IsFault (words : List (List ℕ)) (before after : Outside) : Type 0 where
  pub cause : Failing before after
  pub unsaved : image_saved (command_of words) ≡ None → FilesStay before.files after.files
  pub files :
      before.out.faults < last_count → after.out.faults ≤ before.out.faults →
      FilesLeft (image_saved (command_of words)) before.files after.files
  pub no_output :
      before.out.faults < last_count → after.out.faults ≤ before.out.faults →
      TookNothing before.out after.out
  pub output : before.out.faults < after.out.faults → PrintedFront words before after
  pub said :
      before.err.faults < last_count → after.err.faults ≤ before.err.faults →
      Took fault_line before.err after.err
  pub said_front : before.err.faults < after.err.faults → SaidFront words before after

-- NoMemory: the words are a command, and nothing was printed
pub record IsNoMemory (words : List (List ℕ)) (before after : Outside) : Type 0 where
  pub command : Command
  pub is : command_of words ≡ Some command
  pub files : FilesStay before.files after.files
  pub no_output : TookNothing before.out after.out
  pub no_error : TookNothing before.err after.err

-- all of it, status by status; a fault alone changes a count
pub data Leaves (words : List (List ℕ)) (before after : Outside) (status : Status) : Type 0 where
  LeavesDone :
      status ≡ Done → IsDone words before after → IsFaultless before after →
      Leaves words before after status
  LeavesUsage :
      status ≡ Usage → IsUsage words before after → IsFaultless before after →
      Leaves words before after status
  LeavesInput :
      status ≡ BadInput → IsRefusedInput words before after → IsFaultless before after →
      Leaves words before after status
  LeavesRefused :
      status ≡ Refused → IsRefused words before after → IsFaultless before after →
      Leaves words before after status
  LeavesFault : status ≡ Fault → IsFault words before after → Leaves words before after status
  LeavesNoMemory :
      status ≡ NoMemory → IsNoMemory words before after → IsFaultless before after →
      Leaves words before after status

-- the words are a command, the files tell what they hold, and every file that it needs can be used
pub record IsRunnable (words : List (List ℕ)) (files : FilesState) : Type 0 where
  pub command : Command
  pub is : command_of words ≡ Some command
  pub tells : IsTrue files.tells
  pub input : HasInput command files

-- a command that has all it needs is done, or a reply that it rests on is a refusal, or memory is wanting
pub data EndsWell (status : Status) : Type 0 where
  Completed : status ≡ Done → EndsWell status
  WasRefused : status ≡ Refused → EndsWell status
  WantsMemory : status ≡ NoMemory → EndsWell status
