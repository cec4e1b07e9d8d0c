use Rattle.lo_base.specs.Name.{IsName}
use Rattle.lo_image.specs.Reading.{is_name}
use Rattle.lo_image.proofs.ColumnLaws.{same_tests, is_name_sound, is_name_again}
use Rattle.lo_image.proofs.columns.is_name.Goals as goal

pub returns : goal.returns
returns c = same_tests (IsName c.args.bytes.now) c.is_name.result (is_name c.args.bytes.now) c.is_name.ensures (λ e. is_name_sound c.args.bytes.now e) (λ h. is_name_again c.args.bytes.now h)
