-- What a command makes before a file changes, and what the files are once it is saved.
use Rattle.std.specs.Prelude.{◌≡◌, ◌≢◌, ◌≤◌, ◌<◌, ℕ, true, List, ◌++◌, Option, Some, None, IsTrue, codes, if◌then◌else◌}
use Rattle.lo_tool.specs.Command.{Command, Init, ListObjects, RemoveOrphans, RunScript, RunScriptOn, RunThreads, UnlinkObject}
use Rattle.lo_tool.specs.Outside.{FilesState, FilesStay, last_count}

-- an image that is saved: the name of its file, and its bytes
pub record Saved : Type 0 where
  pub name : List ℕ
  pub image : List ℕ

abbrev pub saved_under : (name image : List ℕ) → Saved
saved_under name image = record { name = name; image = image }

-- the text that a command prints, and the image that it saves, if it saves one
pub record Made : Type 0 where
  pub text : List ℕ
  pub saved : Option Saved

-- the file that an image is written to, before that takes the place of the old one
abbrev pub new_name : (image : List ℕ) → List ℕ
new_name image = image ++ codes ".new"

-- An image is saved: its file holds it and is on the disk, the new file is gone, and every other file is as it was.
pub record Saves (saved : Saved) (old new : FilesState) : Type 0 where
  pub there : new.folder saved.name ≡ Some (record { bytes = saved.image; synced = true })
  pub gone : new.folder (new_name saved.name) ≡ None
  pub others : (other : List ℕ) → other ≢ saved.name → other ≢ new_name saved.name → new.folder other ≡ old.folder other

-- the files are those of what was made
abbrev pub FilesAre : Option Saved → (old new : FilesState) → Type 0
FilesAre None old new = FilesStay old new
FilesAre (Some saved) old new = IsTrue old.tells → Saves saved old new

-- the name of the image that a command saves, if it saves one
abbrev pub image_saved : Option Command → Option (List ℕ)
image_saved None = None
image_saved (Some (Init image blocks)) = Some image
image_saved (Some (RunScript file)) = None
image_saved (Some (RunScriptOn image file)) = Some image
image_saved (Some (RunThreads image names)) = Some image
image_saved (Some (RemoveOrphans image options)) = if options.dry then None else Some image
image_saved (Some (ListObjects image)) = None
image_saved (Some (UnlinkObject image oid)) = Some image

-- Every file but the new one is as it was.
pub record LeavesImage (image : List ℕ) (old new : FilesState) : Type 0 where
  pub others : IsTrue old.tells → (other : List ℕ) → other ≢ new_name image → new.folder other ≡ old.folder other

-- What a command that failed before it printed leaves: every file as it was, but the new file of an image where files failed.
abbrev pub FilesLeft : (image : Option (List ℕ)) → (old new : FilesState) → Type 0
FilesLeft None old new = FilesStay old new
FilesLeft (Some image) old new =
    (old.faults < last_count → new.faults ≤ old.faults → FilesStay old new) × LeavesImage image old new
