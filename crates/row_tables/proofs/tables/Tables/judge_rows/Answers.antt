use Rattle.std.proofs.Common.{◌≡◌, pos, List, Some, None, w64, refl, ap, sym, subst, ◌∙◌}
use Rattle.std.specs.Prelude.{FitsSigned, get_or}
use Rattle.std.specs.Option.{option_copied}
use Rattle.lo_base.specs.declared.refusal.Refusal.{Refusal}
use Rattle.lo_base.specs.declared.value.Cell.{Cell}
use Rattle.toast_plan.specs.Columns.{AreLengths}
use Rattle.row_tables.specs.Cells.{cell_lengths}
use Rattle.row_tables.specs.Keys.{row_key}
use Rattle.row_tables.specs.Rewriting.{first_too_big, too_big_at, too_big_if_there}
use Rattle.row_tables.specs.Standing.{cells_at}
use Rattle.row_tables.specs.Terms.{row_too_big}
use Rattle.row_tables.proofs.Exits.{failed_with}
use Rattle.row_tables.proofs.Judging.{short_enough}
use Rattle.row_tables.proofs.JudgingRows.{each_at, judged_here, judged_on, row_lengths}
use Rattle.row_tables.proofs.Owning.{found_here, passed}
use Rattle.row_tables.proofs.tables.Tables.judge_rows.Goals.{in-Some+in_ok-plan_of, in_default}
use Rattle.row_tables.proofs.tables.Tables.judge_rows.Goals as goal

pub plan_of-requires-clause-lengths : goal.plan_of-requires-clause-lengths
plan_of-requires-clause-lengths c =
    let x = c.args.core.now.xacts in
    let key = passed c.args.number (get_or c.args.ids.now c.loop-id.id-index (pos 0)) in
    let found : cells_at x c.args.snap.now c.args.self.now key ≡ Some c.in-Some.row.now = sym c.find.ensures ∙ ap option_copied c.in-Some.is in
    subst (λ (row : List Cell). AreLengths c.args.columns.now (cell_lengths row)) (sym c.items.ensures) (row_lengths x c.args.snap.now c.args.self.now c.requires.goes.kept c.requires.kept key c.in-Some.row.now found c.args.columns.now c.requires.kinds)

pub returns-in_err-plan_of-clause-err : goal.returns-in_err-plan_of-clause-err
returns-in_err-plan_of-clause-err c =
    let x = c.args.core.now.xacts in
    let v = c.args.snap.now in
    let tables = c.args.self.now in
    let columns = c.args.columns.now in
    let id = get_or c.args.ids.now c.loop-id.id-index (pos 0) in
    let fits : FitsSigned w64 id = each_at (FitsSigned w64) c.args.ids.now c.loop-id.id-index c.loop-id-test.true c.requires.fit in
    let found : cells_at x v tables (row_key c.args.number id) ≡ Some c.in-Some.row.now = found_here x v v tables c.args.number id (Some c.in-Some.row.now) refl fits (sym c.find.ensures ∙ ap option_copied c.in-Some.is) in
    let big : too_big_at x v tables c.args.number columns id ≡ Some c.in_err-plan_of.field-0.0 = ap (too_big_if_there columns) found ∙ (ap (λ (row : List Cell). row_too_big columns (cell_lengths row)) (sym c.items.ensures) ∙ c.in_err-plan_of.ensures.err) in
    failed_with (λ (r : Refusal). first_too_big x v tables c.args.number columns c.args.ids.now ≡ Some r) c.from_residual.result c.in_err-plan_of.field-0.0 c.from_residual.ensures.1 (judged_here (too_big_at x v tables c.args.number columns) c.args.ids.now c.loop-id.id-index c.in_err-plan_of.field-0.0 c.loop-id-test.true big c.loop-id.invariant)

pub loop-id-preserved : goal.loop-id-preserved
loop-id-preserved c =
    let x = c.args.core.now.xacts in
    let v = c.args.snap.now in
    let tables = c.args.self.now in
    let columns = c.args.columns.now in
    let id = get_or c.args.ids.now c.loop-id.id-index (pos 0) in
    let fits : FitsSigned w64 id = each_at (FitsSigned w64) c.args.ids.now c.loop-id.id-index c.loop-id-test.true c.requires.fit in
    judged_on (too_big_at x v tables c.args.number columns) c.args.ids.now c.loop-id.id-index c.loop-id-test.true
    (elim c.match-find.branch [
      | in-Some+in_ok-plan_of w ↦ ap (too_big_if_there columns) (found_here x v v tables c.args.number id (Some w.in-Some.row.now) refl fits (sym c.find.ensures ∙ ap option_copied w.in-Some.is)) ∙ (ap (λ (row : List Cell). row_too_big columns (cell_lengths row)) (sym w.items.ensures) ∙ short_enough columns (cell_lengths w.items.result.now) w.in_ok-plan_of.ensures.ok.fits)
      | in_default w ↦ ap (too_big_if_there columns) (found_here x v v tables c.args.number id None refl fits (sym c.find.ensures ∙ ap option_copied w.in_default.is))
    ])
    c.loop-id.invariant
