-- A folder in memory, and what each call makes of it.
use Rattle.std.specs.Prelude.{◌≡◌, ◌≢◌, ◌+◌, ◌-◌, ◌/◌, ◌&&◌, ◌||◌, not, nat_lt, nat_le, min, true, false, ℕ, Bool, List, [], ◌++◌, length, take, find, Option, Some, None, is_some, if◌then◌else◌}
use Rattle.std.specs.Option.{option_map}
use Rattle.std.specs.Str.{bytes_eq}
use Rattle.lo_outside.specs.Files.{File, unsynced, bytes_of}
use Rattle.lo_outside.specs.FaultPlan.{Planned, no_faults, handed_over, is_due, after_call}

pub record NamedFile : Type 0 where
  pub name : List ℕ
  pub file : File

-- a folder in memory: its files, the places for files taken or free, the bytes that each has room for, and the calls
-- that are to fail
pub record MemFolder : Type 0 where
  pub files : List NamedFile
  pub places : ℕ
  pub room : ℕ
  pub plan : Planned

abbrev pub empty_folder : ℕ → ℕ → MemFolder
empty_folder places room = record { files = []; places = places; room = room; plan = no_faults }

abbrev pub is_named : List ℕ → NamedFile → Bool
is_named name entry = bytes_eq entry.name name

abbrev pub file_of : NamedFile → File
file_of entry = entry.file

-- the file of that name, if there is one
abbrev pub file_named : List ℕ → List NamedFile → Option File
file_named name files = option_map file_of (find (is_named name) files)

-- the name has at most 255 bytes, the bytes have room, and a file of that name is there or a place is free
abbrev pub can_put : MemFolder → List ℕ → List ℕ → Bool
can_put folder name bytes =
    nat_le (length name) 255 && nat_le (length bytes) folder.room
    && (is_some (file_named name folder.files) || nat_lt (length folder.files) folder.places)

-- a file is set. No other file changes
pub record Sets (old new : MemFolder) (name : List ℕ) (file : File) : Type 0 where
  pub there : file_named name new.files ≡ Some file
  pub others :
      (other : List ℕ) → other ≢ name → file_named other new.files ≡ file_named other old.files
  pub count :
      length new.files
      ≡ (if is_some (file_named name old.files) then length old.files else length old.files + 1)
  pub places : new.places ≡ old.places
  pub room : new.room ≡ old.room
  pub plan : new.plan ≡ old.plan

-- a file's bytes are set, and are not synced. No other file changes
abbrev pub Puts : (old new : MemFolder) (name bytes : List ℕ) → Type 0
Puts old new name bytes = Sets old new name (unsynced bytes)

-- a file gets another name, in place of any other file, whose place is free then. No other file changes
pub record Moves (old new : MemFolder) (from to : List ℕ) : Type 0 where
  pub there : file_named to new.files ≡ file_named from old.files
  pub gone : from ≢ to → file_named from new.files ≡ None
  pub others :
      (other : List ℕ) → other ≢ from → other ≢ to
      → file_named other new.files ≡ file_named other old.files
  pub count :
      length new.files
      ≡ (if is_some (file_named to old.files) && not (bytes_eq from to) then length old.files - 1
      else length old.files)
  pub places : new.places ≡ old.places
  pub room : new.room ≡ old.room
  pub plan : new.plan ≡ old.plan

-- after one more call that leaves the files, and fails only by the plan
abbrev pub after_look : MemFolder → MemFolder
after_look old =
    record {
      files = old.files;
      places = old.places;
      room = old.room;
      plan = after_call (is_due old.plan) old.plan;
    }

-- after one more call that leaves the files, and fails
abbrev pub after_fault : MemFolder → MemFolder
after_fault old =
    record {
      files = old.files;
      places = old.places;
      room = old.room;
      plan = after_call true old.plan;
    }

-- the next call is to fail, or there is no place for a file of that name
abbrev pub create_fails : List ℕ → MemFolder → Bool
create_fails name folder = is_due folder.plan || not (can_put folder name [])

-- the file is there, and the piece has room after its bytes
abbrev pub has_room_for : ℕ → List ℕ → Option File → Bool
has_room_for room piece None = false
has_room_for room piece (Some file) = nat_le (length file.bytes + length piece) room

-- the next call is to fail, there is no such file, or the piece has no room in it
abbrev pub append_fails : List ℕ → List ℕ → MemFolder → Bool
append_fails name piece folder =
    is_due folder.plan || not (has_room_for folder.room piece (file_named name folder.files))

-- what a failed append adds: half of the piece, or as much of that as has room
abbrev pub half_of : ℕ → List ℕ → Option File → List ℕ
half_of room piece file = take (min (length piece / 2) (room - length (bytes_of file))) piece

-- what an append leaves of a file that is there: the whole piece is added, or half of it where the call fails
abbrev pub appended : List ℕ → List ℕ → MemFolder → List ℕ
appended name piece folder =
    bytes_of (file_named name folder.files)
    ++ (if append_fails name piece folder
    then half_of folder.room piece (file_named name folder.files) else piece)

-- the next call is to fail, or there is no such file
abbrev pub sync_fails : List ℕ → MemFolder → Bool
sync_fails name folder = is_due folder.plan || not (is_some (file_named name folder.files))

-- the next call is to fail, there is no such file, or the new name is longer than 255 bytes
abbrev pub rename_fails : List ℕ → List ℕ → MemFolder → Bool
rename_fails from to folder =
    is_due folder.plan
    || not (is_some (file_named from folder.files) && nat_le (length to) 255)

abbrev pub with_plan : List ℕ → MemFolder → MemFolder
with_plan calls old =
    record {
      files = old.files;
      places = old.places;
      room = old.room;
      plan = handed_over calls old.plan;
    }
