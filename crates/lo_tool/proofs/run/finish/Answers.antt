use Rattle.std.proofs.Common.{ap, refl}
use Rattle.std.specs.Prelude.{option_map}
use Rattle.lo_tool.specs.Finishing.{Unsaved}
use Rattle.lo_tool.specs.Reading.{saved_of}
use Rattle.lo_tool.proofs.run.finish.Goals as goal

pub returns-clause-ends : goal.returns-clause-ends
returns-clause-ends g c = Unsaved (saved_of c.in-Some.saving) (ap (option_map saved_of) c.in-Some.is) c.in-Err.ensures.err c.in-Err.ensures.cause.err refl c.report_fault.ensures.complains
