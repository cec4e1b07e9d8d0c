-- lo_read, at each of its exits behind the search of its descriptor.
use Rattle.std.proofs.Common.{◌≡◌, ◌≤◌, ◌<◌, ℕ, ℤ, pos, ◌+◌, List, length, Some, refl, ap, sym, subst, ◌∙◌, arith, append-nil, w32, FitsSigned}
use Rattle.std.specs.Prelude.{Result, Ok, Err, negsuc}
use Rattle.std.specs.Int.{FitsUnsignedBits}
use Rattle.std.specs.Result.{OkIff, result_unwrap_or}
use Rattle.std.proofs.Math.IntN.{nat_abs}
use Rattle.lo_base.specs.declared.refusal.Denied.{Denied}
use Rattle.lo_base.specs.declared.refusal.Denied.TheVariants.{By, NoMemory}
use Rattle.lo_base.specs.declared.reply.Reply.TheVariants.{Content}
use Rattle.lo_model.specs.Descriptor as model
use Rattle.lo_model.specs.Edit.{Deed, Edit}
use Rattle.lo_model.specs.View.{current_view}
use Rattle.xact_core.specs.declared.snapshot.Snapshot.{Snapshot}
use Rattle.lo_pages.specs.Outcome.{first_of}
use Rattle.lo_pages.specs.Standing.{StandFor}
use Rattle.lo_pages.proofs.Steps.{left_none}
use Rattle.lo_calls.specs.Access.{ReadsIn}
use Rattle.lo_calls.specs.declared.descs.Descriptor.{Descriptor}
use Rattle.lo_calls.specs.declared.descs.Descs.{Descs}
use Rattle.lo_calls.specs.DescriptorRows.{bytes_read, read_row}
use Rattle.lo_calls.specs.Descriptors.{reading_of, described_by, described_at, descriptors_of}
use Rattle.lo_calls.specs.Reading.{part_read, ReadsPart, DeniesPart}
use Rattle.lo_calls.specs.Row.{Row}
use Rattle.lo_calls.specs.Terms.{too_much, count_of}
use Rattle.lo_calls.specs.World.{World, world, here_of, IsGranted, Grants, Denies}
use Rattle.lo_calls.proofs.Keeping.{with_descs}
use Rattle.lo_calls.proofs.Looking.{reads_edits}
use Rattle.lo_calls.proofs.Refusing.{skip, stop, few_enough}
use Rattle.lo_calls.proofs.Rows.{read_found}
use Rattle.lo_calls.proofs.Worlds.{no_memory}

-- a negative number of bytes counts as 0
pub counted : {E : Type 0} (len : ℤ) (read : Result ℕ E) (most : ℕ) → FitsSigned w32 len → OkIff read (FitsUnsignedBits 64 len) (nat_abs len) → most ≡ result_unwrap_or read 0 → most ≡ count_of len
counted (pos n) (Ok m) most small is given = given ∙ is.1
counted (pos n) (Err e) most small is given = let fits : n < 18446744073709551616 = omega (arith, small.sfits) in absurd (is fits)
counted (negsuc n) (Ok m) most small is given = absurd is.0
counted (negsuc n) (Err e) most small is given = given

module _ (fd len : ℤ) (w : World) (d : Descriptor) (found : described_at fd (descriptors_of w.session.descs) ≡ Some (described_by d)) (view : Snapshot) (reads : ReadsIn w.xacts w.session.s d view) (most : ℕ) (limit : most ≡ count_of len) where
  -- the part that was read is the one that the row names
  part_is : (ys : List (Edit Deed)) → part_read d.oid d.position most (current_view (model.reading_clock (w.xacts.clock + 1) (reading_of d.hold)) w.session.s ys) ≡ bytes_read (here_of w ys) len (described_by d)
  part_is ys = ap (λ (n : ℕ). part_read d.oid d.position n (current_view (model.reading_clock (w.xacts.clock + 1) (reading_of d.hold)) w.session.s ys)) limit

  pub read_much : (denied : Denied) → DeniesPart w.xacts view w.store.pages d.oid d.position most denied → Denies (read_row fd len) w w denied
  read_much (By r) refuses = record {
    first = λ ys stands. ap (λ (row : Row). first_of row.refusals) (read_found (here_of w ys) fd (described_by d) found len)
        ∙ stop _ _ r (ap (λ (bytes : List ℕ). too_much (length bytes)) (sym (part_is ys)) ∙ refuses.much _ (reads_edits w d view reads ys stands));
    same = refl;
  }
  read_much NoMemory none = no_memory w w (left_none w.xacts w.session.s w.store.pages) refl refl refl

  pub read_done : (bytes : List ℕ) → ReadsPart w.xacts view w.store.pages d.oid d.position most bytes → (descs : Descs) → descriptors_of descs ≡ model.with_position d.number (d.position + length bytes) (descriptors_of w.session.descs) → Grants (read_row fd len) w (world w.xacts w.store (with_descs w.session descs)) (Content bytes)
  read_done bytes part descs moved = record { granted = by }
    where
      after : World
      after = world w.xacts w.store (with_descs w.session descs)

      by : (ys : List (Edit Deed)) → StandFor w.xacts w.store.pages ys → IsGranted (read_row fd len (here_of w ys)) w after (Content bytes) ys
      by ys stands =
          let is : bytes ≡ bytes_read (here_of w ys) len (described_by d) = part.is _ (reads_edits w d view reads ys stands) ∙ part_is ys in
          subst (λ (row : Row). IsGranted row w after (Content bytes) ys) (sym (read_found (here_of w ys) fd (described_by d) found len)) (record {
            unrefused = skip _ _ (few_enough (length (bytes_read (here_of w ys) len (described_by d))) (subst (λ (l : List ℕ). length l ≤ 16777216) is part.few));
            answer = ap Content is;
            edits = subst (StandFor w.xacts w.store.pages) (sym (append-nil ys)) stands;
            descriptors = moved ∙ ap (λ (l : List ℕ). model.with_position d.number (d.position + length l) (descriptors_of w.session.descs)) is;
            counter = refl;
          })
