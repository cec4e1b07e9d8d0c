-- What the loop that reads programs keeps.
use Rattle.std.specs.Prelude.{◌≡◌, ℕ, List}
use Rattle.lo_base.specs.declared.request.Request.{Request}
use Rattle.lo_tool.specs.Outside.{FilesState}
use Rattle.lo_tool.specs.Threads.{AreProgramsIn, with_others}

-- the programs of some files are read, and stand in order before empty ones
pub record ReadsPrograms (files : FilesState) (names : List (List ℕ)) (now : List (List Request)) : Type 0 where
  pub programs : List (List Request)
  pub are : AreProgramsIn files names programs
  pub filled : now ≡ with_others programs

-- the programs of the first files are read, and nothing has failed
pub record HasRead (old new : FilesState) (names : List (List ℕ)) (now : List (List Request)) : Type 0 where
  pub so_far : ReadsPrograms old names now
  pub same : new.tells ≡ old.tells
  pub files : new.folder ≡ old.folder
  pub count : new.faults ≡ old.faults
