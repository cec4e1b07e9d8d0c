use Rattle.std.proofs.Common.{ℤ, List, sym, subst}
use Rattle.row_tables.specs.Reading.{ListsIds}
use Rattle.row_tables.proofs.RowReads.{ids_tell}
use Rattle.row_tables.proofs.tables.Tables.ids.Goals as goal

pub returns-clause-ok : goal.returns-clause-ok
returns-clause-ok c = λ s. ids_tell c.args.core.now.xacts c.args.snap.now c.args.self.now c.args.table.now c.in_ok-number.number c.in_ok-number.ensures.ok c.requires.kept s c.from_vec.result (subst (λ (ids : List ℤ). ListsIds c.args.core.now.xacts c.args.snap.now c.args.self.now c.in_ok-number.number ids) (sym c.from_vec.ensures) c.in_ok-ids_of.ensures)
