use Rattle.std.proofs.Common.{arith}
use Rattle.toast_plan.proofs.ReadingLaws.{behind_tag}
use Rattle.toast_plan.proofs.reading.cell_front.Goals as goal

pub returns-clause-read : goal.returns-clause-read
returns-clause-read c = behind_tag c.args.kind c.args.bytes.now c.in_ok-cell.cell c.in_ok-cell.taken (omega arith) c.in_ok-cell.ensures.read
