use Rattle.std.proofs.Common.{◌≡◌, [], ap}
use Rattle.xact_core.specs.Transactions.{Transactions, beginning}
use Rattle.row_versions.proofs.Benching.{whole_none}
use Rattle.row_tables.specs.declared.tables.Tables.{Tables}
use Rattle.row_tables.specs.Cursors.{AreOpen, holds_of}
use Rattle.row_tables.specs.Standing.{GoWith}
use Rattle.row_tables.proofs.Benching.{ready_new, said}
use Rattle.row_tables.proofs.bench.Bench.new.Goals as goal

pub returns : goal.returns
returns g c =
    let x = c.expect.result in
    let tables = c.expect-2.result in
    let started : x ≡ beginning = said (λ (u : Transactions). u ≡ beginning) c.new.result x c.expect.ensures c.new.ensures in
    record {
      ready = ready_new x tables c.session.result
          (whole_none x (ap (λ (u : Transactions). u.held) started))
          (said (λ (t : Tables). GoWith x t) c.new-2.result tables c.expect-2.ensures (c.new-2.ensures.goes x))
          (said (λ (t : Tables). AreOpen x t.cursors) c.new-2.result tables c.expect-2.ensures (c.new-2.ensures.open x))
          (said (λ (t : Tables). holds_of t.cursors ≡ []) c.new-2.result tables c.expect-2.ensures c.new-2.ensures.cursors);
    }
