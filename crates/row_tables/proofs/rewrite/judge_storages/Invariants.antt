use Rattle.std.specs.Prelude.{◌≡◌, ◌+◌, drop}
use Rattle.row_tables.specs.RewriteRules.{storage_refusals}
use Rattle.row_tables.specs.Terms.{first_of}
use Rattle.row_tables.proofs.rewrite.judge_storages.Given as goal

abbrev pub invariant-loop-index : goal.invariant-loop-index
invariant-loop-index l = first_of (storage_refusals 1 l.columns l.storages) ≡ first_of (storage_refusals (l.index + 1) l.columns (drop l.index l.storages))
