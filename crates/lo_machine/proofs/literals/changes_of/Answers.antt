use Rattle.std.proofs.Common.{rules, ◌≡◌, ◌<◌, ◌≤◌, ◌+◌, length, Some, List, refl, sym, subst}
use Rattle.std.specs.Prelude.{slice_get}
use Rattle.std.proofs.lemmas.Option.{slice_get_read}
use Rattle.row_tables.specs.declared.change.Change.{Change}
use Rattle.lo_machine.specs.Literals.{DeniesChanges}
use Rattle.lo_machine.proofs.RowJudged.{drop_here, handed_on}
use Rattle.lo_machine.proofs.ChangesJudged.{ChangesJudged, changes_bad, changes_more, changes_so}
use Rattle.lo_machine.proofs.literals.changes_of.Goals as goal

pub returns-in_err-change_of-clause-err : goal.returns-in_err-change_of-clause-err
returns-in_err-change_of-clause-err c =
    let within : c.loop-index.index < length c.args.changes.now = search rules in
    let change : slice_get c.args.changes.now c.loop-index.index ≡ Some c.index-changes-index.result = slice_get_read c.args.changes.now (length c.args.changes.now) c.loop-index.index c.index-changes-index.result refl within c.index-changes-index.is in
    handed_on (DeniesChanges c.args.own.now c.args.columns.now c.args.changes.now) c.from_residual.result c.in_err-change_of.field-0.0 c.from_residual.ensures.1
    (changes_bad c.args.own.now c.args.columns.now c.args.changes.now c.loop-index.index c.loop-index.given c.loop-index.invariant c.index-changes-index.result
    (drop_here c.args.changes.now c.loop-index.index c.index-changes-index.result change)
    c.in_err-change_of.field-0.0 c.in_err-change_of.ensures.err)

pub loop-index-preserved : goal.loop-index-preserved
loop-index-preserved c =
    let within : c.loop-index.index < length c.args.changes.now = search rules in
    let change : slice_get c.args.changes.now c.loop-index.index ≡ Some c.index-changes-index.result = slice_get_read c.args.changes.now (length c.args.changes.now) c.loop-index.index c.index-changes-index.result refl within c.index-changes-index.is in
    subst (λ (given : List Change). ChangesJudged c.args.own.now c.args.columns.now c.args.changes.now (c.loop-index.index + 1) given) (sym c.in_ok-push.ensures.ok)
    (changes_more c.args.own.now c.args.columns.now c.args.changes.now c.loop-index.index c.loop-index.given c.loop-index.invariant c.index-changes-index.result
    (drop_here c.args.changes.now c.loop-index.index c.index-changes-index.result change)
    c.in_ok-change_of.field-0 c.in_ok-change_of.ensures.ok)

pub returns-clause-ok : goal.returns-clause-ok
returns-clause-ok c =
    let past : length c.args.changes.now ≤ c.loop-index.index = search rules in
    changes_so c.args.own.now c.args.columns.now c.args.changes.now c.loop-index.index c.loop-index.given c.requires.columns past c.loop-index.invariant
