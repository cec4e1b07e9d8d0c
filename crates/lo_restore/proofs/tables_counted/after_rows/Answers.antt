use Rattle.std.proofs.Common.{◌≡◌, List, drop, refl, inl, inr, sym, ap, subst, ◌∙◌, arith}
use Rattle.std.specs.List.{AllByRecursion}
use Rattle.lo_base.specs.declared.value.Value.{Value}
use Rattle.lo_opening.specs.Opening.{marked_chunks, marks_of, row_outside, rows_chunks, rows_outside}
use Rattle.lo_restore.specs.TablesSaved.{IsRowOf}
use Rattle.lo_restore.proofs.ListsLeft.{next_left, none_left}
use Rattle.lo_restore.proofs.tables_counted.after_rows.Goals.{then-counts-ge-LIMIT-via-then-counts-ge-LIMIT, then-counts-ge-LIMIT-via-else-counts-ge-LIMIT+then-counts-ge-LIMIT-2}
use Rattle.lo_restore.proofs.tables_counted.after_rows.Goals as goal

pub counts_of-more-requires : goal.counts_of-more-requires
counts_of-more-requires c =
    let at = c.loop-row in
    let left = next_left c.args.rows.now c.args.rows.now at.row-index c.row-item.result refl c.loop-row-test.true c.row-item.is in
    let each = subst (λ (rows : List (List Value)). AllByRecursion (IsRowOf c.args.columns.now) rows) left at.invariant.left in
    record { columns = c.requires.columns; row = subst (λ (vs : List Value). IsRowOf c.args.columns.now vs) (sym c.items.ensures) each.0 }

pub loop-row-init : goal.loop-row-init
loop-row-init c = record { values = refl; chunks = refl; few = c.requires.values; small = c.requires.chunks; left = c.requires.rows }

pub overflow_add-counts : goal.overflow_add-counts
overflow_add-counts c = omega (arith, c.loop-row.invariant.few, c.counts_of-more.ensures.few)

pub overflow_add-counts-in-loop-row : goal.overflow_add-counts-in-loop-row
overflow_add-counts-in-loop-row c = omega (arith, c.loop-row.invariant.small, c.counts_of-more.ensures.small)

pub returns-then-counts-ge-LIMIT : goal.returns-then-counts-ge-LIMIT
returns-then-counts-ge-LIMIT c =
    let at = c.loop-row in
    let columns = c.args.columns.now in
    let left = next_left c.args.rows.now c.args.rows.now at.row-index c.row-item.result refl c.loop-row-test.true c.row-item.is in
    let outside = ap (rows_outside columns) left in
    let pieces = ap (rows_chunks columns) left in
    let values = c.counts_of-more.ensures.values ∙ ap (row_outside columns) c.items.ensures in
    let chunks = c.counts_of-more.ensures.chunks ∙ ap (λ (vs : List Value). marked_chunks vs (marks_of columns vs)) c.items.ensures in
    record {
      some = tt;
      none = elim c.then-counts-ge-LIMIT.branch [
        | then-counts-ge-LIMIT-via-then-counts-ge-LIMIT w ↦ inl (omega (arith, at.invariant.values, outside, values, w.if-counts-ge-LIMIT))
        | then-counts-ge-LIMIT-via-else-counts-ge-LIMIT+then-counts-ge-LIMIT-2 w ↦ inr (omega (arith, at.invariant.chunks, pieces, chunks, w.if-counts-ge-LIMIT-2))
      ];
    }

pub loop-row-preserved : goal.loop-row-preserved
loop-row-preserved c =
    let at = c.loop-row in
    let columns = c.args.columns.now in
    let left = next_left c.args.rows.now c.args.rows.now at.row-index c.row-item.result refl c.loop-row-test.true c.row-item.is in
    let outside = ap (rows_outside columns) left in
    let pieces = ap (rows_chunks columns) left in
    let values = c.counts_of-more.ensures.values ∙ ap (row_outside columns) c.items.ensures in
    let chunks = c.counts_of-more.ensures.chunks ∙ ap (λ (vs : List Value). marked_chunks vs (marks_of columns vs)) c.items.ensures in
    let each = subst (λ (rows : List (List Value)). AllByRecursion (IsRowOf columns) rows) left at.invariant.left in
    record {
      values = omega (arith, at.invariant.values, outside, values);
      chunks = omega (arith, at.invariant.chunks, pieces, chunks);
      few = c.if-counts-ge-LIMIT.false;
      small = c.if-counts-ge-LIMIT-2.false;
      left = each.1;
    }

pub returns : goal.returns
returns c =
    let at = c.loop-row in
    let columns = c.args.columns.now in
    let none = none_left c.args.rows.now at.row-index c.loop-row-test.false in
    let outside : rows_outside columns (drop at.row-index c.args.rows.now) ≡ 0 = ap (rows_outside columns) none in
    let pieces : rows_chunks columns (drop at.row-index c.args.rows.now) ≡ 0 = ap (rows_chunks columns) none in
    record {
      some = record {
        values_are = omega (arith, at.invariant.values, outside);
        chunks_are = omega (arith, at.invariant.chunks, pieces);
        few_values = at.invariant.few;
        few_chunks = at.invariant.small;
      };
      none = tt;
    }
