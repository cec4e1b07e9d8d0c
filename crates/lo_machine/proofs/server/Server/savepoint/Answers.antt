use Rattle.std.proofs.Common.{◌≡◌, refl, ◌∙◌}
use Rattle.lo_machine.proofs.BlockRequests.{saved_does}
use Rattle.lo_machine.proofs.server.Server.savepoint.Goals as goal

pub returns-clause-ok : goal.returns-clause-ok
returns-clause-ok c =
    let name : c.in-Ok.name ≡ c.args.name.now = c.in-Ok.ensures ∙ c.items.ensures in
    let becomes = rw name at c.in-Ok-save.ensures.ok in
    saved_does c.args.s c.is_open.ensures.range.0 c.is_open.ensures.range.1 c.args.self.now c.save.new.self c.args.name.now (c.if-not-is_open.ensures.open refl) becomes
