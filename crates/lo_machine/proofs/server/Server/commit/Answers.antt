use Rattle.std.proofs.Common.{refl}
use Rattle.lo_machine.proofs.BlockRequests.{committed_failed, committed_outside, committed_whole}
use Rattle.lo_machine.proofs.server.Server.commit.Goals as goal

pub returns-then-is_failed-clause-does : goal.returns-then-is_failed-clause-does
returns-then-is_failed-clause-does c = committed_failed c.args.s c.is_open.ensures.range.0 c.is_open.ensures.range.1 c.args.self.now c.end_aborted.new.self (c.if-not-is_open.ensures.open refl) c.if-is_failed.ensures c.end_aborted.ensures.becomes

pub returns-clause-does : goal.returns-clause-does
returns-clause-does c = committed_whole c.args.s c.is_open.ensures.range.0 c.is_open.ensures.range.1 c.args.self.now c.end_committed.new.self (c.if-not-is_open.ensures.open refl) c.if-is_failed.ensures c.end_committed.ensures.becomes

pub returns-then-not-is_open-clause-does : goal.returns-then-not-is_open-clause-does
returns-then-not-is_open-clause-does c = committed_outside c.args.s c.is_open.ensures.range.0 c.is_open.ensures.range.1 c.args.self.now (c.if-not-is_open.ensures.none refl)
