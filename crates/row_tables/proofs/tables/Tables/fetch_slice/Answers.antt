use Rattle.std.proofs.Common.{rules, ◌≡◌, ◌<◌, ◌∙◌, ap, sym, subst, refl, length, Some, None, Option, List, Bor, arith, get_or, ℤ, w64, to_z, of_z}
use Rattle.std.specs.Option.{option_copied}
use Rattle.std.proofs.lemmas.Int.{ints}
use Rattle.std.proofs.lemmas.Option.{slice_get_read, slice_get_within}
use Rattle.lo_base.specs.declared.value.Cell.{Cell}
use Rattle.row_versions.specs.Looks.{IsLook}
use Rattle.row_tables.specs.declared.cursors.Cursor.{Cursor}
use Rattle.row_tables.specs.Cursors.{FindsCursor}
use Rattle.row_tables.specs.Reading.{IsPart}
use Rattle.row_tables.specs.World.{world}
use Rattle.row_tables.proofs.Exits.{refused_by}
use Rattle.row_tables.proofs.Fetching.{cells_found, cursor_looks, no_part_denies, no_place_denies, no_table_never, none_fetched, place_within, some_fetched}
use Rattle.row_tables.proofs.tables.Tables.fetch_slice.Goals as goal

pub find-requires-2 : goal.find-requires-2
find-requires-2 c =
    let found : FindsCursor c.args.s c.args.cursor.now c.args.self.now.cursors (Some c.in-Some.cursor.now) = subst (λ (o : Option (Bor Cursor)). FindsCursor c.args.s c.args.cursor.now c.args.self.now.cursors (option_copied o)) c.in-Some.is c.find.ensures in
    record { kept = subst (IsLook c.args.core.now.xacts) (sym c.snapshot-snap.ensures) (cursor_looks (world c.args.core.now.xacts c.args.self.now c.args.s) c.requires.ready c.args.cursor.now c.in-Some.cursor.now found) }

pub returns-in_err-number-clause-err : goal.returns-in_err-number-clause-err
returns-in_err-number-clause-err c =
    let found : FindsCursor c.args.s c.args.cursor.now c.args.self.now.cursors (Some c.in-Some.cursor.now) = subst (λ (o : Option (Bor Cursor)). FindsCursor c.args.s c.args.cursor.now c.args.self.now.cursors (option_copied o)) c.in-Some.is c.find.ensures in
    refused_by _ c.from_residual.result c.in_err-number.field-0.0 c.from_residual.ensures.1 (no_table_never (world c.args.core.now.xacts c.args.self.now c.args.s) c.requires.ready c.args.cursor.now c.in-Some.cursor.now found c.in_err-number.field-0.0 c.in_err-number.ensures.err)

pub columns-requires : goal.columns-requires
columns-requires c =
    slice_get_within c.args.self.now.catalog c.in_ok-number.number c.in_ok-number.ensures.ok.table c.in_ok-number.ensures.ok.there

pub returns-in_err-place-clause-err : goal.returns-in_err-place-clause-err
returns-in_err-place-clause-err c =
    let found : FindsCursor c.args.s c.args.cursor.now c.args.self.now.cursors (Some c.in-Some.cursor.now) = subst (λ (o : Option (Bor Cursor)). FindsCursor c.args.s c.args.cursor.now c.args.self.now.cursors (option_copied o)) c.in-Some.is c.find.ensures in
    refused_by _ c.from_residual-in_err-place.result c.in_err-place.field-0.0 c.from_residual-in_err-place.ensures.1 (no_place_denies (world c.args.core.now.xacts c.args.self.now c.args.s) c.requires.ready c.args.cursor.now c.in-Some.cursor.now found c.args.column.now c.args.from c.args.length c.in_ok-number.number c.in_ok-number.ensures.ok c.columns.result.now c.columns.ensures.columns c.in_err-place.field-0.0 c.in_err-place.ensures.err)

pub returns-in_err-part-clause-err : goal.returns-in_err-part-clause-err
returns-in_err-part-clause-err c =
    let from : to_z w64 (of_z w64 c.args.from) ≡ c.args.from = omega (arith, ints) in
    let most : to_z w64 (of_z w64 c.args.length) ≡ c.args.length = omega (arith, ints) in
    let found : FindsCursor c.args.s c.args.cursor.now c.args.self.now.cursors (Some c.in-Some.cursor.now) = subst (λ (o : Option (Bor Cursor)). FindsCursor c.args.s c.args.cursor.now c.args.self.now.cursors (option_copied o)) c.in-Some.is c.find.ensures in
    refused_by _ c.from_residual-in_err-part.result c.in_err-part.field-0.0 c.from_residual-in_err-part.ensures.1 (no_part_denies (world c.args.core.now.xacts c.args.self.now c.args.s) c.requires.ready c.args.cursor.now c.in-Some.cursor.now found c.args.column.now c.args.from c.args.length c.in_ok-number.number c.in_ok-number.ensures.ok c.columns.result.now c.columns.ensures.columns c.in_ok-place.place c.in_ok-place.ensures.ok c.in_err-part.field-0.0 (rw (from, most) at c.in_err-part.ensures.err))

pub returns-in_default-find-clause-ok : goal.returns-in_default-find-clause-ok
returns-in_default-find-clause-ok c =
    let from : to_z w64 (of_z w64 c.args.from) ≡ c.args.from = omega (arith, ints) in
    let most : to_z w64 (of_z w64 c.args.length) ≡ c.args.length = omega (arith, ints) in
    let found : FindsCursor c.args.s c.args.cursor.now c.args.self.now.cursors (Some c.in-Some.cursor.now) = subst (λ (o : Option (Bor Cursor)). FindsCursor c.args.s c.args.cursor.now c.args.self.now.cursors (option_copied o)) c.in-Some.is c.find.ensures in
    none_fetched (world c.args.core.now.xacts c.args.self.now c.args.s) c.requires.ready c.args.cursor.now c.in-Some.cursor.now found c.args.column.now c.args.from c.args.length c.in_ok-number.number c.in_ok-number.ensures.ok c.columns.result.now c.columns.ensures.columns c.in_ok-place.place c.in_ok-place.ensures.ok c.in_ok-part.part (subst (λ (z : ℤ). IsPart z c.args.length c.in_ok-part.part) from (subst (λ (z : ℤ). IsPart (to_z w64 (of_z w64 c.args.from)) z c.in_ok-part.part) most c.in_ok-part.ensures.ok))
    (cells_found c.args.core.now.xacts c.args.self.now c.find-2.result None c.snapshot-snap.result c.in-Some.cursor.now.hold c.in_ok-number.number c.in-Some.cursor.now.id _ c.find-2.ensures c.snapshot-snap.ensures (omega (arith, ints)) (ap option_copied c.in_default-find.is))

pub bounds-items-place : goal.bounds-items-place
bounds-items-place c =
    let found : FindsCursor c.args.s c.args.cursor.now c.args.self.now.cursors (Some c.in-Some.cursor.now) = subst (λ (o : Option (Bor Cursor)). FindsCursor c.args.s c.args.cursor.now c.args.self.now.cursors (option_copied o)) c.in-Some.is c.find.ensures in
    let below : c.in_ok-place.place < length c.in-Some-find.row.now = place_within (world c.args.core.now.xacts c.args.self.now c.args.s) c.requires.ready c.args.cursor.now c.in-Some.cursor.now found c.args.column.now c.args.from c.args.length c.in_ok-number.number c.in_ok-number.ensures.ok c.columns.result.now c.columns.ensures.columns c.in_ok-place.place c.in_ok-place.ensures.ok c.in-Some-find.row.now
    (cells_found c.args.core.now.xacts c.args.self.now c.find-2.result (Some c.in-Some-find.row.now) c.snapshot-snap.result c.in-Some.cursor.now.hold c.in_ok-number.number c.in-Some.cursor.now.id _ c.find-2.ensures c.snapshot-snap.ensures (omega (arith, ints)) (ap option_copied c.in-Some-find.is)) in
    rw c.items.ensures below

pub offset_bounds-items-place : goal.offset_bounds-items-place
offset_bounds-items-place c =
    let found : FindsCursor c.args.s c.args.cursor.now c.args.self.now.cursors (Some c.in-Some.cursor.now) = subst (λ (o : Option (Bor Cursor)). FindsCursor c.args.s c.args.cursor.now c.args.self.now.cursors (option_copied o)) c.in-Some.is c.find.ensures in
    let below : c.in_ok-place.place < length c.in-Some-find.row.now = place_within (world c.args.core.now.xacts c.args.self.now c.args.s) c.requires.ready c.args.cursor.now c.in-Some.cursor.now found c.args.column.now c.args.from c.args.length c.in_ok-number.number c.in_ok-number.ensures.ok c.columns.result.now c.columns.ensures.columns c.in_ok-place.place c.in_ok-place.ensures.ok c.in-Some-find.row.now
    (cells_found c.args.core.now.xacts c.args.self.now c.find-2.result (Some c.in-Some-find.row.now) c.snapshot-snap.result c.in-Some.cursor.now.hold c.in_ok-number.number c.in-Some.cursor.now.id _ c.find-2.ensures c.snapshot-snap.ensures (omega (arith, ints)) (ap option_copied c.in-Some-find.is)) in
    let h : c.in_ok-place.place < length c.items.result.now = rw c.items.ensures below in
    search rules

pub slice_cell-requires : goal.slice_cell-requires
slice_cell-requires c =
    let found : FindsCursor c.args.s c.args.cursor.now c.args.self.now.cursors (Some c.in-Some.cursor.now) = subst (λ (o : Option (Bor Cursor)). FindsCursor c.args.s c.args.cursor.now c.args.self.now.cursors (option_copied o)) c.in-Some.is c.find.ensures in
    record { kept = subst (IsLook c.args.core.now.xacts) (sym c.snapshot-snap.ensures) (cursor_looks (world c.args.core.now.xacts c.args.self.now c.args.s) c.requires.ready c.args.cursor.now c.in-Some.cursor.now found) }

pub returns-clause-ok : goal.returns-clause-ok
returns-clause-ok c =
    let from : to_z w64 (of_z w64 c.args.from) ≡ c.args.from = omega (arith, ints) in
    let most : to_z w64 (of_z w64 c.args.length) ≡ c.args.length = omega (arith, ints) in
    let found : FindsCursor c.args.s c.args.cursor.now c.args.self.now.cursors (Some c.in-Some.cursor.now) = subst (λ (o : Option (Bor Cursor)). FindsCursor c.args.s c.args.cursor.now c.args.self.now.cursors (option_copied o)) c.in-Some.is c.find.ensures in
    let below : c.in_ok-place.place < length c.in-Some-find.row.now = place_within (world c.args.core.now.xacts c.args.self.now c.args.s) c.requires.ready c.args.cursor.now c.in-Some.cursor.now found c.args.column.now c.args.from c.args.length c.in_ok-number.number c.in_ok-number.ensures.ok c.columns.result.now c.columns.ensures.columns c.in_ok-place.place c.in_ok-place.ensures.ok c.in-Some-find.row.now
    (cells_found c.args.core.now.xacts c.args.self.now c.find-2.result (Some c.in-Some-find.row.now) c.snapshot-snap.result c.in-Some.cursor.now.hold c.in_ok-number.number c.in-Some.cursor.now.id _ c.find-2.ensures c.snapshot-snap.ensures (omega (arith, ints)) (ap option_copied c.in-Some-find.is)) in
    some_fetched (world c.args.core.now.xacts c.args.self.now c.args.s) c.requires.ready c.args.cursor.now c.in-Some.cursor.now found c.args.column.now c.args.from c.args.length c.in_ok-number.number c.in_ok-number.ensures.ok c.columns.result.now c.columns.ensures.columns c.in_ok-place.place c.in_ok-place.ensures.ok c.in_ok-part.part (subst (λ (z : ℤ). IsPart z c.args.length c.in_ok-part.part) from (subst (λ (z : ℤ). IsPart (to_z w64 (of_z w64 c.args.from)) z c.in_ok-part.part) most c.in_ok-part.ensures.ok)) c.in-Some-find.row.now c.index-items-place.result
    (cells_found c.args.core.now.xacts c.args.self.now c.find-2.result (Some c.in-Some-find.row.now) c.snapshot-snap.result c.in-Some.cursor.now.hold c.in_ok-number.number c.in-Some.cursor.now.id _ c.find-2.ensures c.snapshot-snap.ensures (omega (arith, ints)) (ap option_copied c.in-Some-find.is))
    (slice_get_read c.in-Some-find.row.now _ c.in_ok-place.place c.index-items-place.result refl below (c.index-items-place.is ∙ ap (λ (row : List Cell). get_or row c.in_ok-place.place c.index-items-place.result) c.items.ensures)) c.in_ok-slice_cell.field-0 (λ told has. c.in_ok-slice_cell.ensures told (rw c.snapshot-snap.ensures has))
