use Rattle.std.proofs.Common.{ap, arith}
use Rattle.xact_core.specs.Transactions.{Transactions}
use Rattle.lo_pages.proofs.Standing.{go_aborted}
use Rattle.row_versions.proofs.Benching.{said_ok}
use Rattle.lo_calls.proofs.Benching.{again}
use Rattle.lo_calls.proofs.bench.Bench.rollback.Goals as goal

pub returns : goal.returns
returns g c =
    let one = c.args.self.now.session in
    let begun = said_ok c.begin.result c.expect.result c.expect.ensures c.begin.ensures.ok in
    let before = ap (λ (u : Transactions). u.undos) c.end_all.ensures.ends.others.rest in
    record {
      ready = again c.args.self.now.core.xacts c.end_all.new.xacts c.abort.new.self c.begin.new.self c.args.self.now.store one c.args.self.now.other c.end_all.new.self c.requires.ready c.end_all.ensures.ends c.abort.ensures.ends.levels c.abort.ensures.ends.held
          (λ left. go_aborted one.s c.end_all.new.xacts c.abort.new.self c.args.self.now.store.pages (record { some = left.transaction; whole = left.whole; ends = c.abort.ensures.ends }) left.goes)
          begun;
      undos = omega (arith, before, c.abort.ensures.undos, begun.undos);
    }
