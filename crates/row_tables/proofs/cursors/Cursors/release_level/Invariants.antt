use Rattle.std.proofs.Common.{◌≡◌}
use Rattle.row_tables.proofs.Passing.{entry_released}
use Rattle.row_tables.proofs.Mapping.{fronted}
use Rattle.row_tables.proofs.cursors.Cursors.release_level.Given as goal

abbrev pub invariant-loop-cursor : goal.invariant-loop-cursor
invariant-loop-cursor l = l.cursor-items ≡ fronted (entry_released l.s l.level) l.cursor-index l.fn.self.entries.items
