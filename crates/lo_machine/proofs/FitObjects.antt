-- Objects get numbers and sizes that objects can have, and the counter stays among the numbers.
use Rattle.std.proofs.Common.{◌≡◌, ◌≤◌, ◌<◌, ℕ, zero, suc, ℤ, pos, ◌+◌, ◌-◌, ◌^◌, Bool, true, false, List, [], ◌∷◌, length, Option, Some, None, refl, ap, sym, subst, arith}
use Rattle.std.specs.Prelude.{◌==◌, ◌&&◌, nat_lt, is_some, if◌then◌else◌, negsuc}
use Rattle.std.specs.Option.{unwrap_or}
use Rattle.std.proofs.lemmas.Bool.{false≢true}
use Rattle.std.proofs.lemmas.Bool.Decides.{nat_tests}
use Rattle.lo_base.specs.declared.refusal.Cause.TheVariants.{BadTruncate, BadWrite}
use Rattle.lo_base.specs.declared.refusal.Refusal.{Refusal}
use Rattle.lo_base.specs.declared.reply.Reply.TheVariants.{Number}
use Rattle.lo_calls.specs.DescriptorRows.{at_descriptor, bad_truncate, cuts_at, descriptor_of, no_descriptor, not_writable, object_gone, of_descriptor, read_row, read_at, seek_row, seek_at, tell_row, truncate_row, write_row, write_at, writes_at}
use Rattle.lo_calls.specs.ObjectRows.{counter_after, create_row, creation, no_number, number_for, number_or_0, picked, put_row, writes}
use Rattle.lo_calls.specs.Row.{Here, Granted, answered, edited}
use Rattle.lo_calls.specs.Terms.{bad_offset, bad_write, busy_for, count_of, is_outside, no_object, no_oids, object_exists}
use Rattle.lo_model.specs.Descriptor.{Descriptor}
use Rattle.lo_model.specs.Edit.{Deed}
use Rattle.lo_model.specs.Numbering.{least_from, may_be_picked, is_free_oid, oid_end}
use Rattle.lo_pages.specs.Outcome.{first_of, largest_size}
use Rattle.row_versions.specs.Stack.{Each}
use Rattle.lo_machine.specs.Fitting.{FitsObject, IsCounter}
use Rattle.lo_machine.proofs.Unmet.{first_none, unmet}

abbrev pub FitObjects : List Deed → Type 0
FitObjects ds = Each FitsObject ds

-- what a row on objects grants
pub record LeavesFit (granted : Granted) : Type 0 where
  pub deeds : FitObjects granted.deeds
  pub counter : IsCounter granted.counter

-- the least number that passes

record IsFound (from found : ℕ) (test : ℕ → Bool) : Type 0 where
  above : from ≤ found
  passes : test found ≡ true

least_found : (passes : Bool) (more from : ℕ) (test : ℕ → Bool) (found : ℕ) → passes ≡ test from → least_from passes more from test ≡ Some found → IsFound from found test
least_found true more from test found first is =
    let same : from ≡ found = ap (λ o. unwrap_or o 0) is in
    record { above = omega (arith, same); passes = subst (λ (n : ℕ). test n ≡ true) same (sym first) }
least_found false zero from test found first is = absurd (false≢true (ap is_some is))
least_found false (suc more) from test found first is =
    let rest : IsFound (from + 1) found test = least_found (test (from + 1)) more (from + 1) test found refl is in
    let above : from + 1 ≤ found = rest.above in
    record { above = omega (arith, above); passes = rest.passes }

both_so : (a b : Bool) → (a && b) ≡ true → a ≡ true
both_so true b is = refl
both_so false b is = absurd (false≢true is)

-- a write that is not too far

size_fits : (at count : ℕ) → bad_write at count ≡ None → at + count ≤ largest_size
size_fits at count none =
    let test : nat_lt largest_size (at + count) ≡ false = unmet (nat_lt largest_size (at + count)) BadWrite (pos count) none in
    grind (arith, nat_tests, test)

written : (o at : ℕ) (bytes : List ℕ) → at + length bytes ≤ largest_size → FitObjects (writes o at bytes)
written o at [] fits = tt
written o at (b ∷ bytes) fits = (fits, tt)

pub inside : (most : ℕ) (n : ℤ) → is_outside most n ≡ false → count_of n ≤ most
inside most (pos n) is = grind (arith, nat_tests, is)
inside most (negsuc n) is = omega arith

-- the number of a new object

record IsNumbered (number counter : ℕ) : Type 0 where
  least : 1 ≤ number
  most : number < oid_end
  counter_is : IsCounter counter

module _ (here : Here) (counter : IsCounter here.counter) where
  low : 16384 ≤ here.counter
  low = counter.least

  picked_fits : no_oids (picked here) ≡ None → IsNumbered (number_or_0 (picked here)) (number_or_0 (picked here) + 1)
  picked_fits none = by (picked here) refl none
    where
      by : (found : Option ℕ) → picked here ≡ found → no_oids found ≡ None → IsNumbered (number_or_0 found) (number_or_0 found + 1)
      by None is some = absurd (false≢true (sym (ap is_some some)))
      by (Some o) is some =
          let found : IsFound here.counter o (may_be_picked here.now here.edits) = least_found (may_be_picked here.now here.edits here.counter) (oid_end - here.counter) here.counter (may_be_picked here.now here.edits) o refl is in
          let above : here.counter ≤ o = found.above in
          let below : nat_lt o oid_end ≡ true = both_so (nat_lt o oid_end) (is_free_oid here.now here.edits o) found.passes in
          let most : o < 4294967296 = grind (arith, nat_tests, below) in
          record {
            least = omega (arith, above, low);
            most = most;
            counter_is = record { least = omega (arith, above, low); most = omega (arith, most) };
          }

  number_fits : (o : ℕ) → o < 2 ^ 32 → no_number here o ≡ None → IsNumbered (number_for here o) (counter_after here o)
  number_fits o small none = by (o == 0) refl none
    where
      by : (b : Bool) → (o == 0) ≡ b → (if b then no_oids (picked here) else None) ≡ None → IsNumbered (if b then number_or_0 (picked here) else o) (if b then number_or_0 (picked here) + 1 else here.counter)
      by true is some = picked_fits some
      by false is some = record { least = grind (arith, nat_tests, is); most = omega (arith, small); counter_is = counter }

  -- what each row makes

  pub create_fits : (o : ℕ) (bytes : List ℕ) → o < 2 ^ 32 → length bytes ≤ 16777216 → first_of (create_row o bytes here).refusals ≡ None → LeavesFit (create_row o bytes here).granted
  create_fits o bytes small few none =
      let terms : List (Option Refusal) = object_exists here (number_for here o) ∷ busy_for here (creation here o bytes) ∷ [] in
      let number : IsNumbered (number_for here o) (counter_after here o) = number_fits o small (first_none (no_number here o) terms none).0 in
      record { deeds = ((number.least, number.most), written (number_for here o) 0 bytes (omega (arith, few))); counter = number.counter_is }

  pub put_fits : (o : ℕ) (at : ℤ) (bytes : List ℕ) → first_of (put_row o at bytes here).refusals ≡ None → LeavesFit (put_row o at bytes here).granted
  put_fits o at bytes none =
      let last : List (Option Refusal) = busy_for here (writes o (count_of at) bytes) ∷ [] in
      let behind = first_none (no_object here o) (bad_offset at ∷ bad_write (count_of at) (length bytes) ∷ last) none in
      let size = first_none (bad_offset at) (bad_write (count_of at) (length bytes) ∷ last) behind.1 in
      record { deeds = written o (count_of at) bytes (size_fits (count_of at) (length bytes) (first_none (bad_write (count_of at) (length bytes)) last size.1).0); counter = counter }

  pub read_fits : (fd count : ℤ) → LeavesFit (read_row fd count here).granted
  read_fits fd count = by (descriptor_of here fd)
    where
      by : (o : Option Descriptor) → LeavesFit (at_descriptor here (read_at here count) o)
      by None = record { deeds = tt; counter = counter }
      by (Some d) = record { deeds = tt; counter = counter }

  pub seek_fits : (wide : Bool) (fd offset whence : ℤ) → LeavesFit (seek_row wide fd offset whence here).granted
  seek_fits wide fd offset whence = by (descriptor_of here fd)
    where
      by : (o : Option Descriptor) → LeavesFit (at_descriptor here (seek_at here offset whence) o)
      by None = record { deeds = tt; counter = counter }
      by (Some d) = record { deeds = tt; counter = counter }

  pub tell_fits : (wide : Bool) (fd : ℤ) → LeavesFit (tell_row wide fd here).granted
  tell_fits wide fd = by (descriptor_of here fd)
    where
      by : (o : Option Descriptor) → LeavesFit (at_descriptor here (λ (d : Descriptor). answered here (Number (pos d.position))) o)
      by None = record { deeds = tt; counter = counter }
      by (Some d) = record { deeds = tt; counter = counter }

  pub write_fits : (fd : ℤ) (bytes : List ℕ) → first_of (write_row fd bytes here).refusals ≡ None → LeavesFit (write_row fd bytes here).granted
  write_fits fd bytes none = by (descriptor_of here fd) fourth
    where
      busy : Option Refusal
      busy = of_descriptor (λ d. busy_for here (writes_at bytes d)) (descriptor_of here fd)

      size : Option Refusal
      size = of_descriptor (λ d. bad_write d.position (length bytes)) (descriptor_of here fd)

      gone : Option Refusal
      gone = of_descriptor (object_gone here) (descriptor_of here fd)

      unwritable : Option Refusal
      unwritable = of_descriptor not_writable (descriptor_of here fd)

      fourth : size ≡ None
      fourth =
          let second = first_none (no_descriptor here fd) (unwritable ∷ gone ∷ size ∷ busy ∷ []) none in
          let third = first_none unwritable (gone ∷ size ∷ busy ∷ []) second.1 in
          (first_none size (busy ∷ []) (first_none gone (size ∷ busy ∷ []) third.1).1).0

      by : (o : Option Descriptor) → of_descriptor (λ d. bad_write d.position (length bytes)) o ≡ None → LeavesFit (at_descriptor here (write_at here bytes) o)
      by None fits = record { deeds = tt; counter = counter }
      by (Some d) fits = record { deeds = written d.oid d.position bytes (size_fits d.position (length bytes) fits); counter = counter }

  pub truncate_fits : (fd size : ℤ) → first_of (truncate_row fd size here).refusals ≡ None → LeavesFit (truncate_row fd size here).granted
  truncate_fits fd size none = by (descriptor_of here fd)
    where
      busy : Option Refusal
      busy = of_descriptor (λ d. busy_for here (cuts_at size d)) (descriptor_of here fd)

      gone : Option Refusal
      gone = of_descriptor (object_gone here) (descriptor_of here fd)

      unwritable : Option Refusal
      unwritable = of_descriptor not_writable (descriptor_of here fd)

      fits : count_of size ≤ largest_size
      fits =
          let second = first_none (no_descriptor here fd) (unwritable ∷ gone ∷ bad_truncate size ∷ busy ∷ []) none in
          let third = first_none unwritable (gone ∷ bad_truncate size ∷ busy ∷ []) second.1 in
          let fourth = first_none gone (bad_truncate size ∷ busy ∷ []) third.1 in
          inside largest_size size (unmet (is_outside largest_size size) BadTruncate size (first_none (bad_truncate size) (busy ∷ []) fourth.1).0)

      by : (o : Option Descriptor) → LeavesFit (at_descriptor here (λ (d : Descriptor). edited here (Number (pos 0)) (cuts_at size d)) o)
      by None = record { deeds = tt; counter = counter }
      by (Some d) = record { deeds = (fits, tt); counter = counter }
