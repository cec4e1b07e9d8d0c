-- The rows of the calls on descriptors, where a descriptor of the number is open, and where none is.
use Rattle.std.proofs.Common.{◌≡◌, ℕ, ℤ, pos, Bool, List, [], ◌∷◌, length, Some, None}
use Rattle.lo_base.specs.declared.reply.Reply.TheVariants.{Number}
use Rattle.lo_model.specs.Descriptor.{Descriptor}
use Rattle.lo_calls.specs.DescriptorRows.{descriptor_of, bytes_read, read_at, read_row, not_writable, object_gone, writes_at, write_at, write_row, bad_whence, bad_seek, seek_target, seek_at, seek_row, position_range, tell_row, cuts_at, bad_truncate, truncate_row}
use Rattle.lo_calls.specs.Row.{Here, answered, edited}
use Rattle.lo_calls.specs.Terms.{bad_write, too_much, busy_for, count_of}

module _ (here : Here) (fd : ℤ) (d : Descriptor) (found : descriptor_of here fd ≡ Some d) where
  pub read_found : (len : ℤ) → read_row fd len here ≡ record { refusals = None ∷ too_much (length (bytes_read here len d)) ∷ []; granted = read_at here len d }
  read_found len = rw found

  pub write_found : (bytes : List ℕ) → write_row fd bytes here ≡ record { refusals = None ∷ not_writable d ∷ object_gone here d ∷ bad_write d.position (length bytes) ∷ busy_for here (writes_at bytes d) ∷ []; granted = write_at here bytes d }
  write_found bytes = rw found

  pub seek_found : (wide : Bool) (offset whence : ℤ) → seek_row wide fd offset whence here ≡ record { refusals = None ∷ bad_whence whence ∷ bad_seek here offset whence d ∷ position_range wide (count_of (seek_target here offset whence d)) (pos d.number) ∷ []; granted = seek_at here offset whence d }
  seek_found wide offset whence = rw found

  pub tell_found : (wide : Bool) → tell_row wide fd here ≡ record { refusals = None ∷ position_range wide d.position (pos d.number) ∷ []; granted = answered here (Number (pos d.position)) }
  tell_found wide = rw found

  pub truncate_found : (size : ℤ) → truncate_row fd size here ≡ record { refusals = None ∷ not_writable d ∷ object_gone here d ∷ bad_truncate size ∷ busy_for here (cuts_at size d) ∷ []; granted = edited here (Number (pos 0)) (cuts_at size d) }
  truncate_found size = rw found
