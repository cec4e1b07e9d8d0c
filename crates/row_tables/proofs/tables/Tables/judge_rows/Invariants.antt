use Rattle.std.specs.Prelude.{◌≡◌, drop, map}
use Rattle.row_tables.specs.Rewriting.{first_too_big, too_big_at}
use Rattle.row_tables.specs.Terms.{first_of}
use Rattle.row_tables.proofs.tables.Tables.judge_rows.Given as goal

abbrev pub invariant-loop-id : goal.invariant-loop-id
invariant-loop-id l = first_too_big l.core.xacts l.snap l.self l.number l.columns l.ids ≡ first_of (map (too_big_at l.core.xacts l.snap l.self l.number l.columns) (drop l.id-index l.ids))
