-- The file of an image: the opening that it holds, and why it may be of no use.
use Rattle.std.specs.Prelude.{◌≡◌, ℕ, List, [], length, Some, None, IsTrue, IsSome, Err}
use Rattle.lo_image.specs.declared.fault.BadImage.{BadImage as Fault}
use Rattle.lo_image.specs.Image.{image}
use Rattle.lo_image.specs.Reading.{image_at, placed}
use Rattle.lo_opening.specs.Opening.{IsOpening, OpeningData}
use Rattle.lo_tool.specs.Outside.{FilesState, IsRead, content}
use Rattle.lo_tool.specs.Texts.{bad_image_text, file_exists, line_about, missing}

-- the empty database, on a pool of so many blocks
abbrev pub empty_data : (blocks : ℕ) → OpeningData
empty_data blocks = record { blocks = blocks; counter = 16384; tables = []; objects = [] }

-- the bytes that the reads of a file gave are the image of an opening
pub record IsKept (files : FilesState) (name : List ℕ) (opening : OpeningData) : Type 0 where
  pub bytes : List ℕ
  pub read : IsRead files name bytes
  pub is : bytes ≡ image opening
  pub rules : IsOpening opening

-- bytes are no image: which field is the first that does not hold, and where
abbrev pub IsNoImage : (bytes : List ℕ) → Fault → Type 0
IsNoImage bytes fault = placed (length bytes) (image_at bytes) ≡ Err fault

-- Why a file is no image that can be used, with the line that says so: it is not there, or its bytes are no image.
pub data BadImage (files : FilesState) (name line : List ℕ) : Type 0 where
  NotThere :
      (IsTrue files.tells → files.folder name ≡ None) → line ≡ line_about name missing →
      BadImage files name line
  NoImage :
      (bytes : List ℕ) → IsRead files name bytes → (fault : Fault) → IsNoImage bytes fault →
      line ≡ line_about name (bad_image_text fault) → BadImage files name line

-- a file that holds an image
pub record GoodImage (files : FilesState) (name : List ℕ) : Type 0 where
  pub opening : OpeningData
  pub rules : IsOpening opening
  pub there : content (files.folder name) ≡ Some (image opening)

-- no file is there yet
pub record IsFree (files : FilesState) (name : List ℕ) : Type 0 where
  pub free : IsTrue files.tells → files.folder name ≡ None

-- a file is there already, with the line that says so
pub record IsTaken (files : FilesState) (name line : List ℕ) : Type 0 where
  pub there : IsTrue files.tells → IsSome (files.folder name)
  pub said : line ≡ line_about name file_exists
