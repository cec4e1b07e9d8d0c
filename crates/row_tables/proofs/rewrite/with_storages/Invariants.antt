use Rattle.std.specs.Prelude.{◌≡◌, ◌++◌, drop}
use Rattle.row_tables.specs.RewriteRules.{with_storages}
use Rattle.row_tables.proofs.rewrite.with_storages.Given as goal

abbrev pub invariant-loop-column : goal.invariant-loop-column
invariant-loop-column l = l.new ++ with_storages l.storages (drop l.column-index l.columns) ≡ with_storages l.storages l.columns
