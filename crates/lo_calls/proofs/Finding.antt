-- The descriptor of a number: where it stands, and that none is a refusal.
use Rattle.std.proofs.Common.{◌≡◌, ◌≤◌, ◌<◌, ℕ, ℤ, pos, List, ◌∷◌, length, vec_len, get_or, arith, Option, Some, None, refl, ap, sym, ◌∙◌}
use Rattle.std.specs.Prelude.{Contains}
use Rattle.std.proofs.lemmas.List.Elements.{All-contains}
use Rattle.xact_core.specs.Transactions.{Transactions}
use Rattle.std.proofs.lemmas.Option.{slice_get_within, get_or_from_slice_get}
use Rattle.lo_base.specs.declared.refusal.Refusal.{Refusal}
use Rattle.lo_pages.specs.Outcome.{first_of}
use Rattle.lo_calls.specs.Access.{FindsWritable}
use Rattle.lo_calls.specs.declared.descs.Descriptor.{Descriptor}
use Rattle.lo_calls.specs.declared.descs.Descs.{Descs}
use Rattle.lo_calls.specs.Descriptors.{described_by, described_at, descriptors_of, last_position, AreOpen, FindsDescriptor, FindsNone}
use Rattle.lo_calls.specs.DescriptorRows.{no_descriptor}
use Rattle.lo_calls.specs.Row.{Here, Row}
use Rattle.lo_calls.specs.World.{World, here_of, Refuses}

module _ (fd : ℤ) (descs : Descs) (index : ℕ) (finds : FindsDescriptor fd descs index) where
  pub found_within : index < length descs.entries.items
  found_within = slice_get_within descs.entries.items index finds.entry finds.stands

  pub found_at : index < vec_len descs.entries
  found_at = omega (arith, found_within, descs.entries.ok.0)

  -- what is read there
  pub found_there : (d : Descriptor) → d ≡ get_or descs.entries.items index d → d ≡ finds.entry
  found_there d is = is ∙ get_or_from_slice_get descs.entries.items index finds.entry d finds.stands

pub none_refuses : (row : Here → Row) (rest : Here → List (Option Refusal)) (fd : ℤ) (w : World) (r : Refusal) → FindsNone fd w.session.descs r → ((here : Here) → (row here).refusals ≡ no_descriptor here fd ∷ rest here) → Refuses row w w r
none_refuses row rest fd w r none is = record { first = λ ys stands. ap first_of (is (here_of w ys)) ∙ (rw (none.none, none.refusal) refl); same = refl }

-- its number
pub found_number : (fd : ℤ) (descs : Descs) (index : ℕ) (d : Descriptor) → FindsDescriptor fd descs index → d ≡ get_or descs.entries.items index d → fd ≡ pos d.number
found_number fd descs index d finds is = finds.number ∙ ap (λ (e : Descriptor). pos e.number) (sym (found_there fd descs index finds d is))

pub finds_writable : (fd : ℤ) (descs : Descs) (index : ℕ) (d : Descriptor) → FindsDescriptor fd descs index → d ≡ get_or descs.entries.items index d → d.hold ≡ None → FindsWritable fd descs index
finds_writable fd descs index d finds is writes = record { finds = finds; writes = ap (λ (e : Descriptor). e.hold) (sym (found_there fd descs index finds d is)) ∙ writes }

pub found_is : (fd : ℤ) (descs : Descs) (index : ℕ) (d : Descriptor) → FindsDescriptor fd descs index → d ≡ get_or descs.entries.items index d → described_at fd (descriptors_of descs) ≡ Some (described_by d)
found_is fd descs index d finds is = finds.found ∙ ap (λ (e : Descriptor). Some (described_by e)) (sym (found_there fd descs index finds d is))

pub found_among : (fd : ℤ) (descs : Descs) (index : ℕ) (d : Descriptor) → FindsDescriptor fd descs index → d ≡ get_or descs.entries.items index d → Contains descs.entries.items d
found_among fd descs index d finds is = (index, found_within fd descs index finds, sym is)

pub found_writes : (fd : ℤ) (descs : Descs) (index : ℕ) (d : Descriptor) → (found : FindsWritable fd descs index) → d ≡ get_or descs.entries.items index d → d.hold ≡ None
found_writes fd descs index d found is = ap (λ (e : Descriptor). e.hold) (found_there fd descs index found.finds d is) ∙ found.writes

-- what is so of each open descriptor
pub found_position : (fd : ℤ) (descs : Descs) (index : ℕ) (d : Descriptor) (x : Transactions) (s : ℕ) → FindsDescriptor fd descs index → d ≡ get_or descs.entries.items index d → AreOpen x s descs → d.position ≤ last_position
found_position fd descs index d x s finds is are = All-contains (λ (e : Descriptor). e.position ≤ last_position) descs.entries.items d are.positions (found_among fd descs index d finds is)
