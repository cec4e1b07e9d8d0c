use Rattle.lo_restore.proofs.TablesBegin.{alone_begun, tables_begun}
use Rattle.lo_restore.proofs.tables_law.new_tables_are_empty.Goals as goal

pub returns : goal.returns
returns c = record { alone = alone_begun; none = λ s x tables opens. tables_begun s x opens tables }
