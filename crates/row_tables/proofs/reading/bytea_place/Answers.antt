use Rattle.std.proofs.Common.{rules, ◌≡◌, ◌≤◌, true, false, length, Some, refl, ap}
use Rattle.std.specs.Prelude.{bytes_eq, slice_get}
use Rattle.std.proofs.lemmas.Option.{slice_get_read}
use Rattle.row_tables.specs.RowRules.{is_bytea}
use Rattle.row_tables.proofs.ColumnPlaces.{looks_first, looks_next, no_column, no_place_here, other_kind, place_here}
use Rattle.row_tables.proofs.reading.bytea_place.Goals as goal

pub loop-place-init : goal.loop-place-init
loop-place-init c = looks_first c.args.columns.now c.args.name.now

pub returns-in-Bytea-clause-ok : goal.returns-in-Bytea-clause-ok
returns-in-Bytea-clause-ok c =
    let there : slice_get c.args.columns.now c.loop-place.place ≡ Some c.index-columns-place.result = slice_get_read c.args.columns.now (length c.args.columns.now) c.loop-place.place c.index-columns-place.result refl c.loop-place-test.true c.index-columns-place.is in
    let same : bytes_eq c.index-columns-place.result.name c.args.name.now ≡ true = search rules in
    place_here c.args.columns.now c.args.name.now c.loop-place.place c.index-columns-place.result there c.loop-place.invariant same (ap is_bytea c.in-Bytea.is)

pub returns-in-Int8 : goal.returns-in-Int8
returns-in-Int8 c =
    let there : slice_get c.args.columns.now c.loop-place.place ≡ Some c.index-columns-place.result = slice_get_read c.args.columns.now (length c.args.columns.now) c.loop-place.place c.index-columns-place.result refl c.loop-place-test.true c.index-columns-place.is in
    let same : bytes_eq c.index-columns-place.result.name c.args.name.now ≡ true = search rules in
    record { ok = tt; err = no_place_here c.args.columns.now c.args.name.now c.loop-place.place c.index-columns-place.result there c.loop-place.invariant same (other_kind c.index-columns-place.result.kind c.in-Int8.is) }

pub loop-place-preserved : goal.loop-place-preserved
loop-place-preserved c =
    let there : slice_get c.args.columns.now c.loop-place.place ≡ Some c.index-columns-place.result = slice_get_read c.args.columns.now (length c.args.columns.now) c.loop-place.place c.index-columns-place.result refl c.loop-place-test.true c.index-columns-place.is in
    let other : bytes_eq c.index-columns-place.result.name c.args.name.now ≡ false = search rules in
    looks_next c.args.columns.now c.args.name.now c.loop-place.place c.index-columns-place.result there c.loop-place.invariant other

pub returns-clause-err : goal.returns-clause-err
returns-clause-err c =
    let past : length c.args.columns.now ≤ c.loop-place.place = search rules in
    no_column c.args.columns.now c.args.name.now c.loop-place.place past c.loop-place.invariant
