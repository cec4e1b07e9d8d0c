use Rattle.std.proofs.Common.{List, subst}
use Rattle.lo_opening.specs.declared.opening.TableData.{TableData}
use Rattle.lo_restore.specs.TablesSaved.{AreCountable}
use Rattle.lo_restore.proofs.TablesNumbered.{all_rules}
use Rattle.lo_restore.proofs.tables_saved.saved_tables.Goals as goal

pub returns : goal.returns
returns c =
    let list = c.in_ok-list.list in
    let countable : AreCountable list = subst (λ (ts : List TableData). AreCountable ts) c.items.ensures (c.are_countable.ensures.0 c.if-not-are_countable.false) in
    record {
      rows = c.in_ok-list.ensures.rows;
      rules = all_rules list c.in_ok-list.ensures.order countable c.in_ok-list.ensures.few;
      few = c.in_ok-list.ensures.few;
      chunks = countable.chunks;
    }
