use Rattle.std.proofs.Common.{◌≡◌, List, drop, refl, inl, inr, ap, subst, arith}
use Rattle.std.specs.List.{AllByRecursion}
use Rattle.lo_opening.specs.declared.opening.TableData.{TableData}
use Rattle.lo_opening.specs.Opening.{rows_chunks, rows_outside, tables_chunks}
use Rattle.lo_restore.specs.Tables.{tables_outside}
use Rattle.lo_restore.specs.TablesCounted.{AreTooMany, HasPlans, IsSumOf, no_counts}
use Rattle.lo_restore.proofs.ListsLeft.{next_left, none_left}
use Rattle.lo_restore.proofs.tables_counted.counts_in.Goals as goal

pub after_rows-requires : goal.after_rows-requires
after_rows-requires c =
    let at = c.loop-table in
    let t = c.table-item.result in
    let left = next_left c.args.list.now c.args.list.now at.table-index t refl c.loop-table-test.true c.table-item.is in
    let each = subst (λ (ts : List TableData). AllByRecursion HasPlans ts) left at.invariant.left in
    record {
      columns = rw c.items.ensures each.0.columns;
      rows = rw (c.items.ensures, c.items-in-loop-table.ensures) each.0.rows;
      values = at.invariant.few;
      chunks = at.invariant.small;
    }

pub loop-table-init : goal.loop-table-init
loop-table-init c = record { values = omega arith; chunks = omega arith; few = omega arith; small = omega arith; left = c.requires }

pub returns-in_err-counts-clause-some : goal.returns-in_err-counts-clause-some
returns-in_err-counts-clause-some c = rw c.from_residual.ensures tt

pub returns-in_err-counts-clause-none : goal.returns-in_err-counts-clause-none
returns-in_err-counts-clause-none c =
    let at = c.loop-table in
    let t = c.table-item.result in
    let left = next_left c.args.list.now c.args.list.now at.table-index t refl c.loop-table-test.true c.table-item.is in
    let outside = ap tables_outside left in
    let pieces = ap tables_chunks left in
    let many : AreTooMany at.counts (rows_outside t.columns t.rows) (rows_chunks t.columns t.rows) = rw (c.items.ensures, c.items-in-loop-table.ensures) at c.in_err-counts.ensures.none in
    let all : AreTooMany no_counts (tables_outside c.args.list.now) (tables_chunks c.args.list.now) = elim many [
      | inl values ↦ inl (omega (arith, at.invariant.values, outside, values))
      | inr chunks ↦ inr (omega (arith, at.invariant.chunks, pieces, chunks))
    ] in
    rw c.from_residual.ensures all

pub loop-table-preserved : goal.loop-table-preserved
loop-table-preserved c =
    let at = c.loop-table in
    let t = c.table-item.result in
    let left = next_left c.args.list.now c.args.list.now at.table-index t refl c.loop-table-test.true c.table-item.is in
    let outside = ap tables_outside left in
    let pieces = ap tables_chunks left in
    let each = subst (λ (ts : List TableData). AllByRecursion HasPlans ts) left at.invariant.left in
    let sum : IsSumOf at.counts (rows_outside t.columns t.rows) (rows_chunks t.columns t.rows) c.in_ok-counts.counts = rw (c.items.ensures, c.items-in-loop-table.ensures) at c.in_ok-counts.ensures.some in
    record {
      values = omega (arith, at.invariant.values, outside, sum.values_are);
      chunks = omega (arith, at.invariant.chunks, pieces, sum.chunks_are);
      few = sum.few_values;
      small = sum.few_chunks;
      left = each.1;
    }

pub returns : goal.returns
returns c =
    let at = c.loop-table in
    let none = none_left c.args.list.now at.table-index c.loop-table-test.false in
    let outside : tables_outside (drop at.table-index c.args.list.now) ≡ 0 = ap tables_outside none in
    let pieces : tables_chunks (drop at.table-index c.args.list.now) ≡ 0 = ap tables_chunks none in
    record {
      some = record {
        values_are = omega (arith, at.invariant.values, outside);
        chunks_are = omega (arith, at.invariant.chunks, pieces);
        few_values = at.invariant.few;
        few_chunks = at.invariant.small;
      };
      none = tt;
    }
