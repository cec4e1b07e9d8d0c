-- The descriptors that rows of calls leave: those that were, at other positions maybe, and the one that was opened.
use Rattle.std.proofs.Common.{ℕ, ℤ, pos, Bool, List, [], ◌∷◌, Option, Some, None}
use Rattle.std.specs.Prelude.{All, not, ◌==◌}
use Rattle.std.proofs.lemmas.List.Elements.{All-nil, All-cons, All-append, All-weaker, All-map, All-filter}
use Rattle.lo_base.specs.declared.reply.Reply.TheVariants.{Number}
use Rattle.lo_calls.specs.DescriptorRows.{descriptor_of, at_descriptor, read_at, write_at, seek_at, cuts_at, opened_by, open_row, close_row, read_row, write_row, seek_row, tell_row, truncate_row}
use Rattle.lo_calls.specs.ObjectRows.{unlink_row}
use Rattle.lo_calls.specs.Row.{Here, Granted, answered, edited}
use Rattle.lo_calls.specs.Terms.{count_of}
use Rattle.lo_model.specs.Descriptor.{Descriptor, moved_to, with_position}

-- what holds of a descriptor holds of it at another position
abbrev pub Moves : (Descriptor → Type 0) → Type 0
Moves P = (d : Descriptor) (number position : ℕ) → P d → P (moved_to number position d)

module _ (P : Descriptor → Type 0) (here : Here) (all : All P here.descriptors) where
  by_descriptor : (grant : Descriptor → Granted) → ((d : Descriptor) → All P (grant d).descriptors) → (found : Option Descriptor) → All P (at_descriptor here grant found).descriptors
  by_descriptor grant each None = all
  by_descriptor grant each (Some d) = each d

  pub close_leaves : (fd : ℤ) → All P (close_row fd here).granted.descriptors
  close_leaves fd = All-filter (λ (d : Descriptor). not (d.number == count_of fd)) P here.descriptors all

  pub unlink_leaves : (o : ℕ) → All P (unlink_row o here).granted.descriptors
  unlink_leaves o = All-filter (λ (d : Descriptor). not (d.oid == o)) P here.descriptors all

  pub tell_leaves : (wide : Bool) (fd : ℤ) → All P (tell_row wide fd here).granted.descriptors
  tell_leaves wide fd = by_descriptor (λ d. answered here (Number (pos d.position))) (λ d. all) (descriptor_of here fd)

  pub truncate_leaves : (fd size : ℤ) → All P (truncate_row fd size here).granted.descriptors
  truncate_leaves fd size = by_descriptor (λ d. edited here (Number (pos 0)) (cuts_at size d)) (λ d. all) (descriptor_of here fd)

  pub open_leaves : (o : ℕ) (mode : ℤ) → P (opened_by here o mode) → All P (open_row o mode here).granted.descriptors
  open_leaves o mode new = All-append P here.descriptors (opened_by here o mode ∷ []) all (All-cons P (opened_by here o mode) [] new (All-nil P))

  module _ (moves : Moves P) where
    moved_leaves : (number position : ℕ) → All P (with_position number position here.descriptors)
    moved_leaves number position = All-map P (moved_to number position) here.descriptors (All-weaker P (λ (d : Descriptor). P (moved_to number position d)) (λ d is. moves d number position is) here.descriptors all)

    pub read_leaves : (fd length' : ℤ) → All P (read_row fd length' here).granted.descriptors
    read_leaves fd length' = by_descriptor (read_at here length') (λ d. moved_leaves d.number _) (descriptor_of here fd)

    pub write_leaves : (fd : ℤ) (bytes : List ℕ) → All P (write_row fd bytes here).granted.descriptors
    write_leaves fd bytes = by_descriptor (write_at here bytes) (λ d. moved_leaves d.number _) (descriptor_of here fd)

    pub seek_leaves : (wide : Bool) (fd offset whence : ℤ) → All P (seek_row wide fd offset whence here).granted.descriptors
    seek_leaves wide fd offset whence = by_descriptor (seek_at here offset whence) (λ d. moved_leaves d.number _) (descriptor_of here fd)
