-- What the loops that read and write keep.
use Rattle.std.specs.Prelude.{◌≡◌, ◌≤◌, ◌++◌, ℕ, List, IsTrue, take, length}
use Rattle.lo_outside.specs.Files.{bytes_of}
use Rattle.lo_tool.specs.Outside.{FilesState, SinkState}

-- some bytes that a file begins with
abbrev pub IsFront : (bytes file : List ℕ) → Type 0
IsFront bytes file = bytes ≡ take (length bytes) file

-- so many bytes of the text are written, and nothing has failed
pub record HasWritten (old new : SinkState) (text : List ℕ) (at : ℕ) : Type 0 where
  pub within : at ≤ length text
  pub took : IsTrue old.tells → new.taken ≡ old.taken ++ take at text
  pub same : new.tells ≡ old.tells
  pub count : new.faults ≡ old.faults

-- a front of the file is read, and nothing has failed
pub record HasFront (old new : FilesState) (name bytes : List ℕ) (size : ℕ) : Type 0 where
  pub within : length bytes ≤ size
  pub told : IsTrue old.tells → IsFront bytes (bytes_of (old.folder name))
  pub same : new.tells ≡ old.tells
  pub files : new.folder ≡ old.folder
  pub count : new.faults ≡ old.faults
