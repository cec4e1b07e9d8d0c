-- The rows of the calls that name large objects. (Manual, Large Objects, Client Interfaces and Server-side Functions.)
use Rattle.std.specs.Prelude.{ℕ, ℤ, pos, ◌+◌, ◌==◌, List, [], ◌∷◌, length, take, drop, Option, Some, None, if◌then◌else◌}
use Rattle.lo_base.specs.declared.reply.Reply.TheVariants.{Word, Number, Content}
use Rattle.lo_base.specs.declared.reply.Word.TheVariants as words
use Rattle.lo_base.specs.declared.refusal.Refusal.{Refusal}
use Rattle.lo_model.specs.Descriptor.{bytes_or_none, without_object}
use Rattle.lo_model.specs.Edit.{Deed, Create, Write, Unlink}
use Rattle.lo_model.specs.Numbering.{picked_oid}
use Rattle.lo_model.specs.Object.{object_in}
use Rattle.lo_calls.specs.Row.{Here, Granted, Row, view_of, answered, edited}
use Rattle.lo_calls.specs.Terms.{no_object, object_exists, bad_offset, bad_write, bad_length, too_much, no_oids, busy_for, count_of}

-- the bytes of an object in the session's current view
abbrev pub bytes_of : Here → (oid : ℕ) → List ℕ
bytes_of here o = bytes_or_none (object_in o (view_of here))

-- a write of some bytes; one of none makes no edit
abbrev pub writes : (oid at : ℕ) → (new : List ℕ) → List Deed
writes o at [] = []
writes o at (b ∷ bytes) = Write o at (b ∷ bytes) ∷ []

-- New objects: lo_creat, lo_create and lo_from_bytea. The number 0 asks for a picked one; the counter then stands one above
-- it, and a rollback does not take that back. A named number does not move the counter.

abbrev pub picked : Here → Option ℕ
picked here = picked_oid here.now here.counter here.edits

abbrev pub number_or_0 : Option ℕ → ℕ
number_or_0 None = 0
number_or_0 (Some o) = o

abbrev pub number_for : Here → (oid : ℕ) → ℕ
number_for here o = if o == 0 then number_or_0 (picked here) else o

abbrev pub counter_after : Here → (oid : ℕ) → ℕ
counter_after here o = if o == 0 then number_or_0 (picked here) + 1 else here.counter

abbrev pub no_number : Here → (oid : ℕ) → Option Refusal
no_number here o = if o == 0 then no_oids (picked here) else None

abbrev pub creation : Here → (oid : ℕ) → (bytes : List ℕ) → List Deed
creation here o bytes = Create (number_for here o) ∷ writes (number_for here o) 0 bytes

abbrev pub create_granted : Here → (oid : ℕ) → (bytes : List ℕ) → Granted
create_granted here o bytes = record {
  reply = Number (pos (number_for here o));
  deeds = creation here o bytes;
  descriptors = here.descriptors;
  counter = counter_after here o;
}

abbrev pub create_row : (oid : ℕ) → (bytes : List ℕ) → Here → Row
create_row o bytes here = record {
  refusals =
      no_number here o
      ∷ object_exists here (number_for here o)
      ∷ busy_for here (creation here o bytes)
      ∷ [];
  granted = create_granted here o bytes;
}

-- lo_unlink, which closes the session's own descriptors on the object

abbrev pub unlink_granted : Here → (oid : ℕ) → Granted
unlink_granted here o = record {
  reply = Number (pos 1);
  deeds = Unlink o ∷ [];
  descriptors = without_object o here.descriptors;
  counter = here.counter;
}

abbrev pub unlink_row : (oid : ℕ) → Here → Row
unlink_row o here = record {
  refusals = no_object here o ∷ busy_for here (Unlink o ∷ []) ∷ [];
  granted = unlink_granted here o;
}

-- lo_get: at most so many bytes from an offset on, or all

abbrev pub limited : (length : Option ℤ) → List ℕ → List ℕ
limited None bytes = bytes
limited (Some length) bytes = take (count_of length) bytes

abbrev pub bytes_got : Here → (oid : ℕ) → (from : ℤ) → (length : Option ℤ) → List ℕ
bytes_got here o from length = limited length (drop (count_of from) (bytes_of here o))

abbrev pub bad_limit : Option ℤ → Option Refusal
bad_limit None = None
bad_limit (Some length) = bad_length length

abbrev pub get_row : (oid : ℕ) → (from : ℤ) → (length : Option ℤ) → Here → Row
get_row o from length' here = record {
  refusals =
      no_object here o
      ∷ bad_offset from
      ∷ bad_limit length'
      ∷ too_much (length (bytes_got here o from length'))
      ∷ [];
  granted = answered here (Content (bytes_got here o from length'));
}

-- lo_put

abbrev pub put_row : (oid : ℕ) → (at : ℤ) → (bytes : List ℕ) → Here → Row
put_row o at bytes here = record {
  refusals =
      no_object here o
      ∷ bad_offset at
      ∷ bad_write (count_of at) (length bytes)
      ∷ busy_for here (writes o (count_of at) bytes)
      ∷ [];
  granted = edited here (Word words.Ok) (writes o (count_of at) bytes);
}
