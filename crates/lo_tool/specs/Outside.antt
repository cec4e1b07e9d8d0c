-- What a command meets outside itself: the files, standard output and standard error, as far as they tell what they hold.
use Rattle.std.specs.Prelude.{◌≡◌, ℕ, ◌-◌, ◌^◌, Bool, List, ◌++◌, Option, Some, IsTrue}
use Rattle.std.specs.Option.{option_map}
use Rattle.lo_base.specs.Appended.{AddsFront}
use Rattle.lo_outside.specs.Faults.{Rose}
use Rattle.lo_outside.specs.Files.{File}
use Rattle.lo_outside.specs.declared.files.Files.{Ghosts as FilesGhosts}
use Rattle.lo_outside.specs.declared.sink.Sink.{Ghosts as SinkGhosts}

-- What files tell: whether they tell what they hold, what that is by name, and the count of faults.
pub record FilesState : Type 0 where
  pub tells : Bool
  pub folder : List ℕ → Option File
  pub faults : ℕ

-- What a sink tells: whether it tells what it took, what that is, and the count of faults.
pub record SinkState : Type 0 where
  pub tells : Bool
  pub taken : List ℕ
  pub faults : ℕ

-- All that is outside of a command.
pub record Outside : Type 0 where
  pub files : FilesState
  pub out : SinkState
  pub err : SinkState

abbrev pub files_state : {F : Type 0} → FilesGhosts F → F → FilesState
files_state given files =
    record { tells = given.tells files; folder = given.folder files; faults = given.faults files }

abbrev pub sink_state : {O : Type 0} → SinkGhosts O → O → SinkState
sink_state given sink =
    record { tells = given.tells sink; taken = given.taken sink; faults = given.faults sink }

-- what the objects at hand tell: the files, standard output and standard error
abbrev pub outside : {F O : Type 0} → FilesGhosts F → SinkGhosts O → F → O → O → Outside
outside of_files of_sink files out err =
    record {
      files = files_state of_files files;
      out = sink_state of_sink out;
      err = sink_state of_sink err;
    }

-- the last value of a count of faults, at which it stands still
abbrev pub last_count : ℕ
last_count = 2 ^ 64 - 1

abbrev pub bytes_in : File → List ℕ
bytes_in file = file.bytes

abbrev pub content : Option File → Option (List ℕ)
content file = option_map bytes_in file

-- the bytes that the reads of a file gave, which are the file's content where that is told
pub record IsRead (files : FilesState) (name bytes : List ℕ) : Type 0 where
  pub told : IsTrue files.tells → content (files.folder name) ≡ Some bytes

-- no file changed, whatever its name
pub record FilesStay (old new : FilesState) : Type 0 where
  pub stays : (name : List ℕ) → new.folder name ≡ old.folder name

-- the sink took a text, and nothing else
pub record Took (text : List ℕ) (old new : SinkState) : Type 0 where
  pub took : IsTrue old.tells → new.taken ≡ old.taken ++ text

-- the sink took a front of a text
pub record TookFront (text : List ℕ) (old new : SinkState) : Type 0 where
  pub took : IsTrue old.tells → AddsFront old.taken new.taken text

pub record TookNothing (old new : SinkState) : Type 0 where
  pub nothing : IsTrue old.tells → new.taken ≡ old.taken

-- what told what it holds tells it still, and nothing else does
pub record TellsAsBefore (before after : Outside) : Type 0 where
  pub files_tell : after.files.tells ≡ before.files.tells
  pub out_tells : after.out.tells ≡ before.out.tells
  pub err_tells : after.err.tells ≡ before.err.tells

-- no count of faults changed
pub record IsFaultless (before after : Outside) : Type 0 where
  pub files_count : after.files.faults ≡ before.files.faults
  pub out_count : after.out.faults ≡ before.out.faults
  pub err_count : after.err.faults ≡ before.err.faults

-- some count of faults rose
pub data Failing (before after : Outside) : Type 0 where
  FilesFailed : Rose before.files.faults after.files.faults → Failing before after
  OutFailed : Rose before.out.faults after.out.faults → Failing before after
  ErrFailed : Rose before.err.faults after.err.faults → Failing before after
