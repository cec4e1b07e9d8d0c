-- The rows of the calls on descriptors of large objects. A term that looks at a descriptor stands behind the one that refuses
-- a number without a descriptor. (Manual, Large Objects, Client Interfaces.)
use Rattle.std.specs.Prelude.{ℕ, ℤ, pos, ◌+◌, ◌/◌, ◌%◌, ◌+ℤ◌, ◌==◌, Bool, true, false, not, ◌||◌, nat_lt, nat_le, List, [], ◌∷◌, ◌++◌, length, take, drop, Option, Some, None, is_none, if◌then◌else◌}
use Rattle.std.specs.Int.{w32, cast_unsigned}
use Rattle.std.specs.Ordering.{int_eq}
use Rattle.lo_base.specs.declared.reply.Reply.TheVariants.{Number, Content}
use Rattle.lo_base.specs.declared.refusal.Cause.TheVariants.{NoDescriptor, NotWritable, BadMode, BadWhence, BadSeek, BadTruncate, PositionRange, TooManyDescriptors}
use Rattle.lo_base.specs.declared.refusal.Refusal.{Refusal}
use Rattle.lo_model.specs.Descriptor.{Kept, Current, Descriptor, is_current, descriptor_bytes, free_number, with_position, without_number}
use Rattle.lo_model.specs.Edit.{Deed, Cut}
use Rattle.lo_pages.specs.Outcome.{largest_size}
use Rattle.lo_calls.specs.Descriptors.{described_at}
use Rattle.lo_calls.specs.Row.{Here, Granted, Row, answered, edited, described}
use Rattle.lo_calls.specs.Terms.{when, no_object, bad_write, too_much, busy_for, is_outside, count_of}
use Rattle.lo_calls.specs.ObjectRows.{writes}

abbrev pub descriptor_of : Here → (fd : ℤ) → Option Descriptor
descriptor_of here fd = described_at fd here.descriptors

abbrev pub no_descriptor : Here → (fd : ℤ) → Option Refusal
no_descriptor here fd = when (is_none (descriptor_of here fd)) NoDescriptor fd

-- a term that looks at the descriptor, and what is granted at it
abbrev pub of_descriptor : (Descriptor → Option Refusal) → Option Descriptor → Option Refusal
of_descriptor term None = None
of_descriptor term (Some d) = term d

abbrev pub at_descriptor : Here → (Descriptor → Granted) → Option Descriptor → Granted
at_descriptor here granted None = answered here (Number (pos 0))
at_descriptor here granted (Some d) = granted d

-- lo_open. Of the mode count INV_READ and INV_WRITE alone, each one bit.

abbrev pub has_bit : (bit : ℕ) → (mode : ℤ) → Bool
has_bit bit mode = cast_unsigned w32 mode / bit % 2 == 1

abbrev pub may_read : (mode : ℤ) → Bool
may_read mode = has_bit 262144 mode

abbrev pub may_write : (mode : ℤ) → Bool
may_write mode = has_bit 131072 mode

abbrev pub bad_mode : (mode : ℤ) → Option Refusal
bad_mode mode = when (not (may_read mode || may_write mode)) BadMode mode

abbrev pub most_descriptors : ℕ
most_descriptors = 256

abbrev pub too_many_descriptors : Here → Option Refusal
too_many_descriptors here =
    when (nat_le most_descriptors (length here.descriptors)) TooManyDescriptors (pos most_descriptors)

-- It reads in the view of its opening where it may not write.
abbrev pub opened_by : Here → (oid : ℕ) → (mode : ℤ) → Descriptor
opened_by here o mode = record {
  number = free_number here.descriptors;
  oid = o;
  position = 0;
  level = here.level;
  reading = if may_write mode then Current else Kept here.now;
}

abbrev pub open_row : (oid : ℕ) → (mode : ℤ) → Here → Row
open_row o mode here = record {
  refusals = no_object here o ∷ bad_mode mode ∷ too_many_descriptors here ∷ [];
  granted =
      described here (Number (pos (free_number here.descriptors)))
      (here.descriptors ++ opened_by here o mode ∷ []);
}

-- lo_close

abbrev pub close_row : (fd : ℤ) → Here → Row
close_row fd here = record {
  refusals = no_descriptor here fd ∷ [];
  granted = described here (Number (pos 0)) (without_number (count_of fd) here.descriptors);
}

-- a descriptor's bytes, and those of them from its position on, at most so many

abbrev pub bytes_at : Here → Descriptor → List ℕ
bytes_at here d = descriptor_bytes here.now here.session here.edits d

abbrev pub bytes_read : Here → (length : ℤ) → Descriptor → List ℕ
bytes_read here length d = take (count_of length) (drop d.position (bytes_at here d))

-- the descriptors with one moved to a position
abbrev pub moved : Here → Descriptor → (position : ℕ) → List Descriptor
moved here d position = with_position d.number position here.descriptors

-- lo_read, or loread: a negative length counts as 0

abbrev pub read_at : Here → (length : ℤ) → Descriptor → Granted
read_at here length' d =
    described here (Content (bytes_read here length' d))
    (moved here d (d.position + length (bytes_read here length' d)))

abbrev pub read_row : (fd length : ℤ) → Here → Row
read_row fd length' here = record {
  refusals =
      no_descriptor here fd
      ∷ of_descriptor (λ d. too_much (length (bytes_read here length' d))) (descriptor_of here fd)
      ∷ [];
  granted = at_descriptor here (read_at here length') (descriptor_of here fd);
}

-- a descriptor that may not write, or whose object is gone from the current view

abbrev pub not_writable : Descriptor → Option Refusal
not_writable d = when (not (is_current d.reading)) NotWritable (pos d.number)

abbrev pub object_gone : Here → Descriptor → Option Refusal
object_gone here d = no_object here d.oid

-- lo_write, or lowrite

abbrev pub writes_at : (bytes : List ℕ) → Descriptor → List Deed
writes_at bytes d = writes d.oid d.position bytes

abbrev pub write_at : Here → (bytes : List ℕ) → Descriptor → Granted
write_at here bytes d = record {
  reply = Number (pos (length bytes));
  deeds = writes_at bytes d;
  descriptors = moved here d (d.position + length bytes);
  counter = here.counter;
}

abbrev pub write_row : (fd : ℤ) → (bytes : List ℕ) → Here → Row
write_row fd bytes here = record {
  refusals =
      no_descriptor here fd
      ∷ of_descriptor not_writable (descriptor_of here fd)
      ∷ of_descriptor (object_gone here) (descriptor_of here fd)
      ∷ of_descriptor (λ d. bad_write d.position (length bytes)) (descriptor_of here fd)
      ∷ of_descriptor (λ d. busy_for here (writes_at bytes d)) (descriptor_of here fd)
      ∷ [];
  granted = at_descriptor here (write_at here bytes) (descriptor_of here fd);
}

-- lo_lseek and lo_lseek64: from the start, from the position, or from the end

abbrev pub bad_whence : ℤ → Option Refusal
bad_whence whence = when (is_outside 2 whence) BadWhence whence

abbrev pub seek_base : Here → (whence : ℤ) → Descriptor → ℕ
seek_base here whence d =
    if int_eq whence (pos 0) then 0 else if int_eq whence (pos 1) then d.position else length (bytes_at here d)

abbrev pub seek_target : Here → (offset whence : ℤ) → Descriptor → ℤ
seek_target here offset whence d = pos (seek_base here whence d) +ℤ offset

abbrev pub bad_seek : Here → (offset whence : ℤ) → Descriptor → Option Refusal
bad_seek here offset whence d = when (is_outside largest_size (seek_target here offset whence d)) BadSeek offset

-- The calls without 64 answer positions up to the greatest int4 alone.
abbrev pub greatest_int4 : ℕ
greatest_int4 = 2147483647

abbrev pub position_range : (wide : Bool) → (position : ℕ) → (fd : ℤ) → Option Refusal
position_range true position fd = None
position_range false position fd = when (nat_lt greatest_int4 position) PositionRange fd

abbrev pub seek_at : Here → (offset whence : ℤ) → Descriptor → Granted
seek_at here offset whence d =
    described here (Number (seek_target here offset whence d))
    (moved here d (count_of (seek_target here offset whence d)))

abbrev pub seek_row : (wide : Bool) → (fd offset whence : ℤ) → Here → Row
seek_row wide fd offset whence here = record {
  refusals =
      no_descriptor here fd
      ∷ bad_whence whence
      ∷ of_descriptor (bad_seek here offset whence) (descriptor_of here fd)
      ∷ of_descriptor (λ d. position_range wide (count_of (seek_target here offset whence d)) (pos d.number)) (descriptor_of here fd)
      ∷ [];
  granted = at_descriptor here (seek_at here offset whence) (descriptor_of here fd);
}

-- lo_tell and lo_tell64

abbrev pub tell_row : (wide : Bool) → (fd : ℤ) → Here → Row
tell_row wide fd here = record {
  refusals =
      no_descriptor here fd ∷ of_descriptor (λ d. position_range wide d.position (pos d.number)) (descriptor_of here fd) ∷ [];
  granted = at_descriptor here (λ d. answered here (Number (pos d.position))) (descriptor_of here fd);
}

-- lo_truncate and lo_truncate64

abbrev pub cuts_at : (size : ℤ) → Descriptor → List Deed
cuts_at size d = Cut d.oid (count_of size) ∷ []

abbrev pub bad_truncate : (size : ℤ) → Option Refusal
bad_truncate size = when (is_outside largest_size size) BadTruncate size

abbrev pub truncate_row : (fd size : ℤ) → Here → Row
truncate_row fd size here = record {
  refusals =
      no_descriptor here fd
      ∷ of_descriptor not_writable (descriptor_of here fd)
      ∷ of_descriptor (object_gone here) (descriptor_of here fd)
      ∷ bad_truncate size
      ∷ of_descriptor (λ d. busy_for here (cuts_at size d)) (descriptor_of here fd)
      ∷ [];
  granted = at_descriptor here (λ d. edited here (Number (pos 0)) (cuts_at size d)) (descriptor_of here fd);
}
