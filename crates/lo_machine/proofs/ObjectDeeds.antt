-- The edits that calls on large objects make are of objects, so that rows stand for them beside what they stood for.
use Rattle.std.proofs.Common.{◌≡◌, ℕ, ℤ, pos, Bool, true, List, [], ◌∷◌, ◌++◌, Option, Some, None, refl, sym, subst, append-nil, append_assoc}
use Rattle.lo_calls.specs.DescriptorRows.{at_descriptor, close_row, cuts_at, descriptor_of, open_row, read_row, read_at, seek_row, seek_at, tell_row, truncate_row, write_row, write_at}
use Rattle.lo_calls.specs.ObjectRows.{create_row, get_row, number_for, put_row, unlink_row, writes}
use Rattle.lo_calls.specs.Row.{Here, answered, edited}
use Rattle.lo_base.specs.declared.reply.Reply.TheVariants.{Number}
use Rattle.lo_calls.specs.Terms.{count_of}
use Rattle.lo_model.specs.declared.owner.Owner.{Owner}
use Rattle.lo_model.specs.Descriptor.{Descriptor}
use Rattle.lo_model.specs.Edit.{Deed, Edit, edits_by}
use Rattle.row_tables.specs.declared.tables.Tables.{Tables}
use Rattle.row_tables.specs.Laws.{is_of_objects}
use Rattle.row_tables.specs.Standing.{StandFor}
use Rattle.row_tables.proofs.Resting.{for_objects}
use Rattle.row_versions.specs.Stack.{Each}
use Rattle.xact_core.specs.Transactions.{Transactions}

-- each of some deeds is of an object
abbrev pub AreOfObjects : List Deed → Type 0
AreOfObjects deeds = Each (λ (d : Deed). is_of_objects d ≡ true) deeds

-- rows that stand for edits stand for these and such deeds
pub rows_rest : (x : Transactions) (tables : Tables) (clock : ℕ) (owner : Owner) (deeds : List Deed) (ys : List (Edit Deed)) → AreOfObjects deeds → StandFor x tables ys → StandFor x tables (ys ++ edits_by clock owner deeds)
rows_rest x tables clock owner [] ys are stand = subst (StandFor x tables) (sym (append-nil ys)) stand
rows_rest x tables clock owner (d ∷ ds) ys are stand =
    let one : Edit Deed = record { clock = clock; owner = owner; deed = d } in
    let rest = rows_rest x tables clock owner ds (ys ++ one ∷ []) are.1 (for_objects x tables ys one are.0 stand) in
    subst (StandFor x tables) (append_assoc ys (one ∷ []) (edits_by clock owner ds)) rest

-- the deeds of each row

written : (o at : ℕ) (bytes : List ℕ) → AreOfObjects (writes o at bytes)
written o at [] = tt
written o at (b ∷ bytes) = (refl, tt)

module _ (here : Here) where
  pub create_deeds : (o : ℕ) (bytes : List ℕ) → AreOfObjects (create_row o bytes here).granted.deeds
  create_deeds o bytes = (refl, written (number_for here o) 0 bytes)

  pub unlink_deeds : (o : ℕ) → AreOfObjects (unlink_row o here).granted.deeds
  unlink_deeds o = (refl, tt)

  pub get_deeds : (o : ℕ) (from : ℤ) (count : Option ℤ) → AreOfObjects (get_row o from count here).granted.deeds
  get_deeds o from count = tt

  pub put_deeds : (o : ℕ) (at : ℤ) (bytes : List ℕ) → AreOfObjects (put_row o at bytes here).granted.deeds
  put_deeds o at bytes = written o (count_of at) bytes

  pub open_deeds : (o : ℕ) (mode : ℤ) → AreOfObjects (open_row o mode here).granted.deeds
  open_deeds o mode = tt

  pub close_deeds : (fd : ℤ) → AreOfObjects (close_row fd here).granted.deeds
  close_deeds fd = tt

  pub read_deeds : (fd count : ℤ) → AreOfObjects (read_row fd count here).granted.deeds
  read_deeds fd count = by (descriptor_of here fd)
    where
      by : (o : Option Descriptor) → AreOfObjects (at_descriptor here (read_at here count) o).deeds
      by None = tt
      by (Some d) = tt

  pub write_deeds : (fd : ℤ) (bytes : List ℕ) → AreOfObjects (write_row fd bytes here).granted.deeds
  write_deeds fd bytes = by (descriptor_of here fd)
    where
      by : (o : Option Descriptor) → AreOfObjects (at_descriptor here (write_at here bytes) o).deeds
      by None = tt
      by (Some d) = written d.oid d.position bytes

  pub seek_deeds : (wide : Bool) (fd offset whence : ℤ) → AreOfObjects (seek_row wide fd offset whence here).granted.deeds
  seek_deeds wide fd offset whence = by (descriptor_of here fd)
    where
      by : (o : Option Descriptor) → AreOfObjects (at_descriptor here (seek_at here offset whence) o).deeds
      by None = tt
      by (Some d) = tt

  pub tell_deeds : (wide : Bool) (fd : ℤ) → AreOfObjects (tell_row wide fd here).granted.deeds
  tell_deeds wide fd = by (descriptor_of here fd)
    where
      by : (o : Option Descriptor) → AreOfObjects (at_descriptor here (λ (d : Descriptor). answered here (Number (pos d.position))) o).deeds
      by None = tt
      by (Some d) = tt

  pub truncate_deeds : (fd size : ℤ) → AreOfObjects (truncate_row fd size here).granted.deeds
  truncate_deeds fd size = by (descriptor_of here fd)
    where
      by : (o : Option Descriptor) → AreOfObjects (at_descriptor here (λ (d : Descriptor). edited here (Number (pos 0)) (cuts_at size d)) o).deeds
      by None = tt
      by (Some d) = (refl, tt)
