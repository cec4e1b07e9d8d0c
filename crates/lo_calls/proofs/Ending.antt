-- lo_close, where it closes a descriptor.
use Rattle.std.proofs.Common.{◌≡◌, ℕ, ℤ, pos, List, map, get_or, refl, ap, sym, subst, ◌∙◌, append-nil}
use Rattle.lo_base.specs.declared.reply.Reply.TheVariants.{Number}
use Rattle.lo_model.specs.Descriptor.{without_number}
use Rattle.lo_model.specs.Edit.{Deed, Edit}
use Rattle.xact_core.specs.Kept.{HoldsOthers}
use Rattle.xact_core.specs.Transactions.{Transactions}
use Rattle.lo_pages.specs.Standing.{StandFor}
use Rattle.lo_pages.proofs.Standing.{stand_held}
use Rattle.lo_calls.specs.declared.descs.Closing.TheVariants.{OfNumber}
use Rattle.lo_calls.specs.declared.descs.Descriptor.{Descriptor}
use Rattle.lo_calls.specs.declared.descs.Descs.{Descs}
use Rattle.lo_calls.specs.DescriptorRows.{close_row}
use Rattle.lo_calls.specs.Descriptors.{described_by, descriptors_of, left_open, FindsDescriptor}
use Rattle.lo_calls.specs.Terms.{count_of}
use Rattle.lo_calls.specs.World.{World, world, here_of, IsGranted, Grants}
use Rattle.lo_calls.proofs.Closing.{left_without_number}
use Rattle.lo_calls.proofs.Finding.{found_number}
use Rattle.lo_calls.proofs.Keeping.{with_descs}

pub close_done : (fd : ℤ) (w : World) (x : Transactions) (descs : Descs) (index : ℕ) (d : Descriptor) → FindsDescriptor fd w.session.descs index → d ≡ get_or w.session.descs.entries.items index d → HoldsOthers w.xacts x → descs.entries.items ≡ left_open (OfNumber d.number) w.session.descs.entries.items → Grants (close_row fd) w (world x w.store (with_descs w.session descs)) (Number (pos 0))
close_done fd w x descs index d finds is others left = record { granted = by }
  where
    by : (ys : List (Edit Deed)) → StandFor w.xacts w.store.pages ys → IsGranted (close_row fd (here_of w ys)) w (world x w.store (with_descs w.session descs)) (Number (pos 0)) ys
    by ys stands = record {
      unrefused = rw finds.found refl;
      answer = refl;
      edits = subst (StandFor x w.store.pages) (sym (append-nil ys)) (stand_held w.xacts x w.store.pages ys others stands);
      descriptors = ap (map described_by) left ∙ left_without_number d.number w.session.descs.entries.items ∙ ap (λ (n : ℕ). without_number n (descriptors_of w.session.descs)) (ap count_of (sym (found_number fd w.session.descs index d finds is)));
      counter = refl;
    }
