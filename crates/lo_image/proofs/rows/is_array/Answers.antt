use Rattle.std.proofs.Common.{arith}
use Rattle.expanded_array.specs.Flat.{IsFlat}
use Rattle.expanded_array.specs.Layout.{is_flat_layout}
use Rattle.lo_image.proofs.ColumnLaws.{same_tests}
use Rattle.lo_image.proofs.CellLaws.{flat_sound, flat_again}
use Rattle.lo_image.proofs.rows.is_array.Goals as goal

pub returns : goal.returns
returns c = same_tests (IsFlat c.args.bytes.now) c.is_flat.result (is_flat_layout c.args.bytes.now) c.is_flat.ensures (λ e. flat_sound c.args.bytes.now (λ i. omega (arith, c.type_inv.bytes i)) e) (λ h. flat_again c.args.bytes.now h)
