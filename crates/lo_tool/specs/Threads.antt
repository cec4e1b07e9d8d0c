-- Programs in files that threads run: what the run prints and leaves, and which of the files may be of no use.
use Rattle.std.specs.Prelude.{◌≡◌, ℕ, ◌-◌, List, [], ◌∷◌, ◌++◌, All, length, replicate, Some}
use Rattle.lo_base.specs.declared.request.Request.{Request}
use Rattle.lo_image.specs.Image.{image}
use Rattle.lo_machine.specs.Committed.{committed_opening}
use Rattle.lo_machine.specs.Run.{IsWholeFrom, end_from, replies_from, start_from}
use Rattle.lo_model.specs.Opening.{Opening}
use Rattle.lo_opening.specs.Meaning.{data_of, opening_of}
use Rattle.lo_opening.specs.Opening.{OpeningData}
use Rattle.lo_script.specs.declared.script.Marking.TheVariants.{Unmarked}
use Rattle.lo_script.specs.ReplyText.{lines_of}
use Rattle.lo_script.specs.Script.{program_in}
use Rattle.lo_tool.specs.Images.{BadImage, GoodImage, IsKept}
use Rattle.lo_tool.specs.Made.{Made, saved_under}
use Rattle.lo_tool.specs.Outside.{FilesState}
use Rattle.lo_tool.specs.ScriptFile.{BadScript, GoodScript, IsReadWithin}

-- the program of a file that is there and not too long
pub record IsProgramIn (files : FilesState) (name : List ℕ) (program : List Request) : Type 0 where
  pub bytes : List ℕ
  pub read : IsReadWithin files name bytes
  pub spells : program_in bytes ≡ Some program

-- the programs of files, one for each
abbrev pub AreProgramsIn : FilesState → (names : List (List ℕ)) → List (List Request) → Type 0
AreProgramsIn files [] [] = Unit {0}
AreProgramsIn files [] (program ∷ programs) = ⊥
AreProgramsIn files (name ∷ names) [] = ⊥
AreProgramsIn files (name ∷ names) (program ∷ programs) =
    IsProgramIn files name program × AreProgramsIn files names programs

-- sixteen programs: these, from session 1 on, and empty ones behind
abbrev pub with_others : List (List Request) → List (List Request)
with_others programs = programs ++ replicate (16 - length programs) []

-- A run of programs by threads: some schedule does every line of every session once and in order; the text is the lines of the
-- replies that the machine gives over it, and what is left is what is committed at its end.
pub record RunsInSomeOrder (opening : Opening) (programs : List (List Request)) (text : List ℕ) (left : Opening)
    : Type 0 where
  pub schedule : List ℕ
  pub whole : IsWholeFrom programs (start_from opening) schedule
  pub replies : text ≡ lines_of (replies_from programs (start_from opening) schedule)
  pub committed :
      left ≡ committed_opening opening.blocks (end_from programs (start_from opening) schedule).state

-- What `threads IMAGE FILE..` makes: the text of the run of the files' programs on the image's database, the first file's being
-- session 1's and so on, and the image of what is committed at its end.
pub record SavesThreads (files : FilesState) (image_name : List ℕ) (names : List (List ℕ)) (made : Made)
    : Type 0 where
  pub opening : OpeningData
  pub kept : IsKept files image_name opening
  pub programs : List (List Request)
  pub read : AreProgramsIn files names programs
  pub left : Opening
  pub run : RunsInSomeOrder (opening_of opening) (with_others programs) made.text left
  pub saved : made.saved ≡ Some (saved_under image_name (image (data_of left)))

-- the first of some files that is no program, with the line that says why
pub record HasBadProgram (files : FilesState) (names : List (List ℕ)) (line : List ℕ) : Type 0 where
  pub before : List (List ℕ)
  pub name : List ℕ
  pub after : List (List ℕ)
  pub split : names ≡ before ++ name ∷ after
  pub programs : List (List Request)
  pub usable : AreProgramsIn files before programs
  pub bad : BadScript Unmarked files name line

-- Why a file of `threads IMAGE FILE..` cannot be used. The programs are looked at where the image can be used.
pub data BadThreads (files : FilesState) (image_name : List ℕ) (names : List (List ℕ)) (line : List ℕ)
    : Type 0 where
  OfThreadsImage : BadImage files image_name line → BadThreads files image_name names line
  OfProgram :
      (opening : OpeningData) → IsKept files image_name opening → HasBadProgram files names line →
      BadThreads files image_name names line

-- all can be used
pub record GoodThreads (files : FilesState) (image_name : List ℕ) (names : List (List ℕ)) : Type 0 where
  pub kept : GoodImage files image_name
  pub programs : All (GoodScript Unmarked files) names
