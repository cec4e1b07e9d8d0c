use Rattle.std.proofs.Common.{sym, ◌∙◌}
use Rattle.lo_machine.proofs.BlockRequests.{undone_does, not_undone_does}
use Rattle.lo_machine.proofs.server.Server.rollback_to.Goals as goal

pub returns-in_default-clause-does : goal.returns-in_default-clause-does
returns-in_default-clause-does c = not_undone_does c.args.s c.newest.ensures.range.0 c.newest.ensures.range.1 c.args.self.now c.no_savepoint.new.self c.args.name.now c.no_savepoint.result (sym c.in_default.is ∙ c.newest.ensures.level) c.no_savepoint.ensures.does

pub returns-clause-does : goal.returns-clause-does
returns-clause-does c = undone_does c.args.s c.newest.ensures.range.0 c.newest.ensures.range.1 c.args.self.now c.undo.new.self c.args.name.now c.in-Some.level c.in-Some.ensures.level c.in-Some.ensures.low c.in-Some.ensures.high c.undo.ensures.becomes
