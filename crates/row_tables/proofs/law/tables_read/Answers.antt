use Rattle.row_tables.proofs.ReadRows.{reads_rows}
use Rattle.row_tables.proofs.law.tables_read.Goals as goal

pub returns : goal.returns
returns c = record { reads = reads_rows }
