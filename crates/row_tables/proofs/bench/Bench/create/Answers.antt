use Rattle.std.proofs.Common.{◌≡◌, true}
use Rattle.row_tables.specs.World.{world}
use Rattle.row_tables.proofs.Benching.{had_ready}
use Rattle.row_tables.proofs.bench.Bench.create.Goals as goal

pub returns : goal.returns
returns g c =
    let s = c.args.self.now.s in
    let call = c.create_table-answered in
    let yes : c.is_done.result ≡ true = search in
    record { ready = had_ready _ (world c.args.self.now.core.xacts c.args.self.now.tables s) (world c.args.self.now.core.xacts call.new.self s) call.result (c.is_done.ensures yes) call.ensures.keeps call.ensures.err c.requires.ready }
