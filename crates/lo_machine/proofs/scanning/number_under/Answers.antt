use Rattle.std.proofs.Common.{rules, ◌≡◌, ◌≤◌, ◌<◌, true, false, length, Some, refl, ap, sym, ◌∙◌}
use Rattle.std.specs.Prelude.{bytes_eq, slice_get}
use Rattle.std.proofs.lemmas.Bool.{ltb-false, ltb-true}
use Rattle.std.proofs.lemmas.Option.{slice_get-get_or, slice_get_past, slice_get_read}
use Rattle.row_tables.specs.RowRules.{value_under}
use Rattle.lo_machine.proofs.ScannedRows.{cell_here, no_number, none_here, seeking_first, seeking_next}
use Rattle.lo_machine.proofs.scanning.number_under.Goals as goal

pub loop-place-init : goal.loop-place-init
loop-place-init c = seeking_first c.args.name.now c.args.columns.now

pub returns-in-Some : goal.returns-in-Some
returns-in-Some c values is =
    let there : slice_get c.args.columns.now c.loop-place.place ≡ Some c.index-columns-place.result = slice_get_read c.args.columns.now (length c.args.columns.now) c.loop-place.place c.index-columns-place.result refl c.loop-place-test.true c.index-columns-place.is in
    let same : bytes_eq c.index-columns-place.result.name c.args.name.now ≡ true = search rules in
    let within : c.loop-place.place < length c.args.row.now = ltb-true c.loop-place.place (length c.args.row.now) (sym c.in-Some.ensures.lookup.0) in
    let at : slice_get c.args.row.now c.loop-place.place ≡ Some c.in-Some.cell.now = slice_get-get_or c.args.row.now c.loop-place.place _ within ∙ ap Some (sym c.in-Some.ensures.lookup.1) in
    c.oid_in.ensures (value_under c.args.name.now c.args.columns.now values) (cell_here c.args.name.now c.args.columns.now c.loop-place.place c.loop-place.invariant c.index-columns-place.result there same c.args.row.now values is c.in-Some.cell.now at)

pub returns-in-None : goal.returns-in-None
returns-in-None c values is =
    let there : slice_get c.args.columns.now c.loop-place.place ≡ Some c.index-columns-place.result = slice_get_read c.args.columns.now (length c.args.columns.now) c.loop-place.place c.index-columns-place.result refl c.loop-place-test.true c.index-columns-place.is in
    let same : bytes_eq c.index-columns-place.result.name c.args.name.now ≡ true = search rules in
    let past : length c.args.row.now ≤ c.loop-place.place = ltb-false c.loop-place.place (length c.args.row.now) (sym c.in-None.ensures.lookup.0) in
    none_here c.args.name.now c.args.columns.now c.loop-place.place c.loop-place.invariant c.index-columns-place.result there same c.args.row.now values is (slice_get_past c.args.row.now c.loop-place.place past)

pub loop-place-preserved : goal.loop-place-preserved
loop-place-preserved c =
    let there : slice_get c.args.columns.now c.loop-place.place ≡ Some c.index-columns-place.result = slice_get_read c.args.columns.now (length c.args.columns.now) c.loop-place.place c.index-columns-place.result refl c.loop-place-test.true c.index-columns-place.is in
    let other : bytes_eq c.index-columns-place.result.name c.args.name.now ≡ false = search rules in
    seeking_next c.args.name.now c.args.columns.now c.loop-place.place c.loop-place.invariant c.index-columns-place.result there other

pub returns : goal.returns
returns c values is =
    let past : length c.args.columns.now ≤ c.loop-place.place = search rules in
    no_number c.args.name.now c.args.columns.now c.loop-place.place c.loop-place.invariant past values
