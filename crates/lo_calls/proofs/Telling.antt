-- lo_tell, where it answers a position.
use Rattle.std.proofs.Common.{◌≡◌, ◌≤◌, ℕ, ℤ, pos, Bool, List, get_or, None, refl, ap, sym, subst, ◌∙◌, arith, append-nil, w64, to_z, of_z, FitsSigned}
use Rattle.std.specs.Prelude.{Result, Ok}
use Rattle.std.specs.Result.{OkIff, result_unwrap_or}
use Rattle.std.proofs.lemmas.Int.{to_z-of_z}
use Rattle.std.proofs.lemmas.Result.{Ok-from_Ok_iff}
use Rattle.lo_base.specs.declared.reply.Reply.TheVariants.{Number}
use Rattle.lo_model.specs.Edit.{Deed, Edit}
use Rattle.lo_pages.specs.Standing.{StandFor}
use Rattle.lo_calls.specs.declared.descs.Descriptor.{Descriptor}
use Rattle.lo_calls.specs.DescriptorRows.{position_range, tell_row}
use Rattle.lo_calls.specs.Descriptors.{described_by, last_position, FindsDescriptor}
use Rattle.lo_calls.specs.Row.{Row}
use Rattle.lo_calls.specs.World.{World, here_of, IsGranted, Grants}
use Rattle.lo_calls.proofs.Finding.{found_there}
use Rattle.lo_calls.proofs.Rows.{tell_found}

pub told : {E : Type 0} (p : ℕ) (read : Result ℤ E) (answer : ℤ) → p ≤ last_position → OkIff read (FitsSigned w64 (pos p)) (pos p) → answer ≡ result_unwrap_or read (pos 9223372036854775807) → to_z w64 (of_z w64 answer) ≡ pos p
told {E} p read answer small is given =
    let fits : FitsSigned w64 (pos p) = record { sfits = omega arith } in
    let there : read ≡ Ok (pos p) = Ok-from_Ok_iff read (FitsSigned w64 (pos p)) (pos p) is fits in
    let whole : answer ≡ pos p = given ∙ ap (λ (r : Result ℤ E). result_unwrap_or r (pos 9223372036854775807)) there in
    ap (λ (z : ℤ). to_z w64 (of_z w64 z)) whole ∙ to_z-of_z w64 (pos p) fits

pub tell_done : (wide : Bool) (fd : ℤ) (w : World) (index : ℕ) (d : Descriptor) → FindsDescriptor fd w.session.descs index → d ≡ get_or w.session.descs.entries.items index d → position_range wide d.position fd ≡ None → Grants (tell_row wide fd) w w (Number (pos d.position))
tell_done wide fd w index d finds is within = record { granted = by }
  where
    same : d ≡ finds.entry
    same = found_there fd w.session.descs index finds d is

    by : (ys : List (Edit Deed)) → StandFor w.xacts w.store.pages ys → IsGranted (tell_row wide fd (here_of w ys)) w w (Number (pos d.position)) ys
    by ys stands = subst (λ (row : Row). IsGranted row w w (Number (pos d.position)) ys) (sym (tell_found (here_of w ys) fd (described_by finds.entry) finds.found wide)) (record {
      unrefused = rw (← finds.number, ← same, within) refl;
      answer = rw same refl;
      edits = subst (StandFor w.xacts w.store.pages) (sym (append-nil ys)) stands;
      descriptors = refl;
      counter = refl;
    })
