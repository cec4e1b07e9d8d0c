-- What a folder holds under a name, and what the calls that write make of it.
use Rattle.std.specs.Prelude.{◌≡◌, ◌≢◌, ℕ, Bool, true, false, List, [], ◌++◌, Option, Some, None, IsSome, length, take, if◌then◌else◌}

-- a file: its bytes, and whether they are known to be on the disk
pub record File : Type 0 where
  pub bytes : List ℕ
  pub synced : Bool

-- the number of bytes, or nothing where there is no file
abbrev pub size_of : Option File → Option ℕ
size_of None = None
size_of (Some file) = Some (length file.bytes)

-- the bytes, none where there is no file
abbrev pub bytes_of : Option File → List ℕ
bytes_of None = []
bytes_of (Some file) = file.bytes

-- a file of those bytes, of which it is not known that they are on the disk
abbrev pub unsynced : List ℕ → File
unsynced bytes = record { bytes = bytes; synced = false }

-- the piece is added at the end of the file, which is not synced then. No file stays no file
abbrev pub with_more : List ℕ → Option File → Option File
with_more piece None = None
with_more piece (Some file) = Some (unsynced (file.bytes ++ piece))

-- the file is known to be on the disk. No file stays no file
abbrev pub with_mark : Option File → Option File
with_mark None = None
with_mark (Some file) = Some (record { bytes = file.bytes; synced = true })

-- what a folder has under the name is as told, and every other file is as before
pub record SetsFile (old new : List ℕ → Option File) (name : List ℕ) (file : Option File)
    : Type 0 where
  pub there : new name ≡ file
  pub others : (other : List ℕ) → other ≢ name → new other ≡ old other

-- what a failed `create` leaves: the file as it was, or an empty one that is not synced. Every other file is as before
pub record CreatesOrKeeps (old new : List ℕ → Option File) (name : List ℕ) : Type 0 where
  pub created : Bool
  pub is : SetsFile old new name (if created then Some (unsynced []) else old name)

-- what a failed `append` leaves: a front of the piece is added, and the file is not synced. No file stays no file, and
-- every other file is as before
pub record AppendsFront (old new : List ℕ → Option File) (name piece : List ℕ) : Type 0 where
  pub count : ℕ
  pub is : SetsFile old new name (with_more (take count piece) (old name))

-- a file that was there stands under another name, with its mark and in place of any other file. Every other file is as
-- before
pub record Renames (old new : List ℕ → Option File) (from to : List ℕ) : Type 0 where
  pub was : IsSome (old from)
  pub there : new to ≡ old from
  pub gone : from ≢ to → new from ≡ None
  pub others : (other : List ℕ) → other ≢ from → other ≢ to → new other ≡ old other
