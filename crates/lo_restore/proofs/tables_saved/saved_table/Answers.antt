use Rattle.std.proofs.Common.{◌≡◌, List, Option, sym, ap, ◌∙◌}
use Rattle.std.specs.Prelude.{option_map}
use Rattle.std.specs.Option.{unwrap_or}
use Rattle.std.proofs.lemmas.Option.{none-some}
use Rattle.lo_base.specs.declared.column.Column.{Column}
use Rattle.row_tables.specs.Catalog.{columns_of}
use Rattle.row_tables.specs.Standing.{tables_in}
use Rattle.lo_restore.specs.TablesSaved.{IsNamed}
use Rattle.lo_restore.proofs.RowsSaved.{found_holds, found_named, same_table, saved_is}
use Rattle.lo_restore.proofs.tables_saved.saved_table.Goals as goal

pub unreachable-requires : goal.unreachable-requires
unreachable-requires c = none-some c.requires.there.table.columns (c.in_default.ensures.columns ∙ ap (option_map columns_of) c.requires.there.there)

pub returns : goal.returns
returns c =
    let t = c.requires.there.table in
    let there = c.requires.there.there in
    let named = found_named c.args.name.now (tables_in c.args.tables.now) t there in
    let name : c.in_ok-from_slice.field-0 ≡ c.args.name.now = c.in_ok-from_slice.ensures ∙ c.items.ensures in
    let found : c.in-Some.columns.now ≡ t.columns = ap (λ (o : Option (List Column)). unwrap_or o t.columns) (c.in-Some.ensures.columns ∙ ap (option_map columns_of) there) in
    let columns : c.in_ok-copy_of.field-0 ≡ t.columns = c.in_ok-copy_of.ensures ∙ found in
    record {
      table = there ∙ same_table t c.in_ok-from_slice.field-0 c.in_ok-copy_of.field-0 (name ∙ sym named) columns;
      rows = c.in_ok-saved_rows.ensures.rows;
      is = saved_is c.args.core.now.xacts c.args.tables.now c.args.snap.now c.requires.kept c.requires.can c.args.name.now t named there c.in_ok-from_slice.field-0 c.in_ok-copy_of.field-0 c.in_ok-saved_rows.field-0
          name columns (found_holds IsNamed c.args.name.now (tables_in c.args.tables.now) t c.requires.can.named there) (rw c.in_ok-copy_of.ensures c.in-Some.ensures.can)
          (c.in_ok-saved_rows.ensures.rows c.requires.can.edits c.requires.can.stand) c.in_ok-saved_rows.ensures.range c.in_ok-saved_rows.ensures.few;
    }
