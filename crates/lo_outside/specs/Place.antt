-- The memory for one file of a folder in memory.
use Rattle.std.specs.Prelude.{◌≡◌, ◌≤◌, ◌+◌, ℕ, List, [], ◌++◌, Bool, true, false, All, count_by, length, Vec, vec_capacity}
use Rattle.std.specs.declared.alloc.Global.{Global}
use Rattle.std.specs.Str.{bytes_eq}
use Rattle.lo_outside.specs.Files.{File}
use Rattle.lo_outside.specs.MemFiles.{NamedFile}

-- a place for a file: what it holds, and how many bytes it has room for
pub record Held : Type 0 where
  pub named : NamedFile
  pub room : ℕ

abbrev pub named_of : Held → NamedFile
named_of place = place.named

abbrev pub file_in : Held → File
file_in place = place.named.file

abbrev pub has_name : List ℕ → Held → Bool
has_name name place = bytes_eq place.named.name name

abbrev pub empty_place : ℕ → Held
empty_place room = record {
  named = record { name = []; file = record { bytes = []; synced = false } };
  room = room;
}

abbrev pub with_name : List ℕ → Held → Held
with_name name place =
    record { named = record { name = name; file = place.named.file }; room = place.room }

-- the bytes are set, and are not synced
abbrev pub with_bytes : List ℕ → Held → Held
with_bytes bytes place =
    record {
      named = record { name = place.named.name; file = record { bytes = bytes; synced = false } };
      room = place.room;
    }

-- bytes are added at the end, and all are not synced then
abbrev pub with_piece : List ℕ → Held → Held
with_piece piece place = with_bytes (place.named.file.bytes ++ piece) place

-- the bytes are known to be on the disk
abbrev pub in_sync : Held → Held
in_sync place =
    record {
      named = record {
        name = place.named.name;
        file = record { bytes = place.named.file.bytes; synced = true };
      };
      room = place.room;
    }

-- a place with that room
abbrev pub HasRoom : ℕ → Held → Type 0
HasRoom room place = place.room ≡ room

-- all places, with a file or free, have that room, each of both lists can take every place, and no two files have one name
pub record IsRoomy (room : ℕ) (files free : Vec Held Global) : Type 0 where
  pub capacity : length files.items + length free.items ≤ vec_capacity files
  pub free_capacity : length files.items + length free.items ≤ vec_capacity free
  pub single : (name : List ℕ) → count_by (has_name name) files.items ≤ 1
  pub files_room : All (HasRoom room) files.items
  pub free_room : All (HasRoom room) free.items
