use Rattle.std.proofs.Common.{sym, w32}
use Rattle.std.proofs.lemmas.Int.{to_z-of_z}
use Rattle.lo_calls.proofs.Opening.{holds_none}
use Rattle.lo_calls.proofs.session.hold_view.Goals as goal

pub returns-then-may_write-clause-ok : goal.returns-then-may_write-clause-ok
returns-then-may_write-clause-ok c = holds_none c.args.mode c.args.snap c.args.core.now.xacts (let mode = to_z-of_z w32 c.args.mode c.ranges.mode in rw mode at (sym c.if-may_write.ensures))
