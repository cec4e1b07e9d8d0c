use Rattle.std.proofs.Common.{◌≡◌, ◌<◌, ◌∙◌, ℤ, List, Some, None, length, refl, sym, ap, subst, arith, w64, to_z, of_z}
use Rattle.std.specs.Prelude.{slice_get}
use Rattle.std.proofs.lemmas.Int.{to_z-of_z}
use Rattle.std.proofs.lemmas.Option.{slice_get_read, slice_get_within}
use Rattle.lo_base.specs.declared.column.Column.{Column}
use Rattle.lo_base.specs.declared.refusal.Cause.TheVariants.{NoRow}
use Rattle.lo_base.specs.declared.refusal.Denied.TheVariants.{By}
use Rattle.lo_base.specs.declared.value.Cell.{Cell}
use Rattle.row_tables.specs.Catalog.{columns_in}
use Rattle.row_tables.specs.Keys.{row_key}
use Rattle.row_tables.specs.Reading.{IsNoPart, IsNoPlace, IsPart, IsPlace}
use Rattle.row_tables.specs.RowRules.{slice_row}
use Rattle.row_tables.specs.Standing.{cells_at}
use Rattle.row_tables.specs.Terms.{refusal}
use Rattle.row_tables.specs.World.{RefusesIn, world}
use Rattle.row_tables.proofs.Exits.{refused_by}
use Rattle.row_tables.proofs.RowReads.{row_length, slice_no_part, slice_no_place, slice_none, slice_tells}
use Rattle.row_tables.proofs.tables.Tables.slice.Goals as goal

pub returns-in_default-clause-err : goal.returns-in_default-clause-err
returns-in_default-clause-err c = λ s.
    let id : to_z w64 (of_z w64 c.args.id) ≡ c.args.id = to_z-of_z w64 c.args.id c.ranges.id in
    let none : cells_at c.args.core.now.xacts c.args.snap.now c.args.self.now (row_key c.in_ok-number.number c.args.id) ≡ None = ap (λ (z : ℤ). cells_at c.args.core.now.xacts c.args.snap.now c.args.self.now (row_key c.in_ok-number.number z)) (sym id) ∙ sym c.in_default.ensures in
    let refused : c.refused.result ≡ By (refusal NoRow c.args.id) = c.refused.ensures ∙ ap (λ (z : ℤ). By (refusal NoRow z)) id in
    subst (RefusesIn (slice_row c.args.table.now c.args.id c.args.column.now c.args.from c.args.length) (world c.args.core.now.xacts c.args.self.now s) c.args.snap.now) (sym refused)
    (slice_none c.args.core.now.xacts c.args.snap.now c.args.self.now c.args.table.now c.in_ok-number.number c.in_ok-number.ensures.ok c.requires.kept s c.args.id c.args.column.now c.args.from c.args.length none)

pub columns-requires : goal.columns-requires
columns-requires c = slice_get_within c.args.self.now.catalog c.in_ok-number.number c.in_ok-number.ensures.ok.table c.in_ok-number.ensures.ok.there

pub returns-in_err-place-clause-err : goal.returns-in_err-place-clause-err
returns-in_err-place-clause-err c = λ s.
    let id : to_z w64 (of_z w64 c.args.id) ≡ c.args.id = to_z-of_z w64 c.args.id c.ranges.id in
    let found : cells_at c.args.core.now.xacts c.args.snap.now c.args.self.now (row_key c.in_ok-number.number c.args.id) ≡ Some c.in-Some.row.now = ap (λ (z : ℤ). cells_at c.args.core.now.xacts c.args.snap.now c.args.self.now (row_key c.in_ok-number.number z)) (sym id) ∙ sym c.in-Some.ensures in
    let none : IsNoPlace (columns_in (slice_get c.args.self.now.catalog c.in_ok-number.number)) c.args.column.now c.in_err-place.field-0.0 = subst (λ (cs : List Column). IsNoPlace cs c.args.column.now c.in_err-place.field-0.0) c.columns.ensures.columns c.in_err-place.ensures.err in
    refused_by (RefusesIn (slice_row c.args.table.now c.args.id c.args.column.now c.args.from c.args.length) (world c.args.core.now.xacts c.args.self.now s) c.args.snap.now) c.from_residual-in_err-place.result c.in_err-place.field-0.0 c.from_residual-in_err-place.ensures.1
    (slice_no_place c.args.core.now.xacts c.args.snap.now c.args.self.now c.args.table.now c.in_ok-number.number c.in_ok-number.ensures.ok c.requires.kept s c.args.id c.in-Some.row.now found c.args.column.now c.args.from c.args.length c.in_err-place.field-0.0 none)

pub returns-in_err-part-clause-err : goal.returns-in_err-part-clause-err
returns-in_err-part-clause-err c = λ s.
    let id : to_z w64 (of_z w64 c.args.id) ≡ c.args.id = to_z-of_z w64 c.args.id c.ranges.id in
    let from : to_z w64 (of_z w64 c.args.from) ≡ c.args.from = to_z-of_z w64 c.args.from c.ranges.from in
    let long : to_z w64 (of_z w64 c.args.length) ≡ c.args.length = to_z-of_z w64 c.args.length c.ranges.length in
    let found : cells_at c.args.core.now.xacts c.args.snap.now c.args.self.now (row_key c.in_ok-number.number c.args.id) ≡ Some c.in-Some.row.now = ap (λ (z : ℤ). cells_at c.args.core.now.xacts c.args.snap.now c.args.self.now (row_key c.in_ok-number.number z)) (sym id) ∙ sym c.in-Some.ensures in
    let place : IsPlace (columns_in (slice_get c.args.self.now.catalog c.in_ok-number.number)) c.args.column.now c.in_ok-place.place = subst (λ (cs : List Column). IsPlace cs c.args.column.now c.in_ok-place.place) c.columns.ensures.columns c.in_ok-place.ensures.ok in
    let none : IsNoPart c.args.from c.args.length c.in_err-part.field-0.0 = subst (λ (z : ℤ). IsNoPart z c.args.length c.in_err-part.field-0.0) from (subst (λ (z : ℤ). IsNoPart (to_z w64 (of_z w64 c.args.from)) z c.in_err-part.field-0.0) long c.in_err-part.ensures.err) in
    refused_by (RefusesIn (slice_row c.args.table.now c.args.id c.args.column.now c.args.from c.args.length) (world c.args.core.now.xacts c.args.self.now s) c.args.snap.now) c.from_residual-in_err-part.result c.in_err-part.field-0.0 c.from_residual-in_err-part.ensures.1
    (slice_no_part c.args.core.now.xacts c.args.snap.now c.args.self.now c.args.table.now c.in_ok-number.number c.in_ok-number.ensures.ok c.requires.kept s c.args.id c.in-Some.row.now found c.args.column.now c.args.from c.args.length c.in_ok-place.place place c.in_err-part.field-0.0 none)

pub offset_bounds-items-place : goal.offset_bounds-items-place
offset_bounds-items-place c =
    let within = slice_get_within c.columns.result.now c.in_ok-place.place c.in_ok-place.ensures.ok.column c.in_ok-place.ensures.ok.there in
    let few = c.columns.ensures.can.few in
    omega arith

pub bounds-items-place : goal.bounds-items-place
bounds-items-place c =
    let id : to_z w64 (of_z w64 c.args.id) ≡ c.args.id = to_z-of_z w64 c.args.id c.ranges.id in
    let found : cells_at c.args.core.now.xacts c.args.snap.now c.args.self.now (row_key c.in_ok-number.number c.args.id) ≡ Some c.in-Some.row.now = ap (λ (z : ℤ). cells_at c.args.core.now.xacts c.args.snap.now c.args.self.now (row_key c.in_ok-number.number z)) (sym id) ∙ sym c.in-Some.ensures in
    let within = slice_get_within c.columns.result.now c.in_ok-place.place c.in_ok-place.ensures.ok.column c.in_ok-place.ensures.ok.there in
    let long : length c.in-Some.row.now ≡ length c.columns.result.now = row_length c.args.core.now.xacts c.args.snap.now c.args.self.now c.requires.goes.kept c.requires.kept (row_key c.in_ok-number.number c.args.id) c.in-Some.row.now found ∙ ap (λ (cs : List Column). length cs) (sym c.columns.ensures.columns) in
    let same : length c.items.result.now ≡ length c.in-Some.row.now = ap (λ (cs : List Cell). length cs) c.items.ensures in
    omega arith

pub returns-clause-ok : goal.returns-clause-ok
returns-clause-ok c = λ s.
    let id : to_z w64 (of_z w64 c.args.id) ≡ c.args.id = to_z-of_z w64 c.args.id c.ranges.id in
    let from : to_z w64 (of_z w64 c.args.from) ≡ c.args.from = to_z-of_z w64 c.args.from c.ranges.from in
    let long : to_z w64 (of_z w64 c.args.length) ≡ c.args.length = to_z-of_z w64 c.args.length c.ranges.length in
    let found : cells_at c.args.core.now.xacts c.args.snap.now c.args.self.now (row_key c.in_ok-number.number c.args.id) ≡ Some c.in-Some.row.now = ap (λ (z : ℤ). cells_at c.args.core.now.xacts c.args.snap.now c.args.self.now (row_key c.in_ok-number.number z)) (sym id) ∙ sym c.in-Some.ensures in
    let place : IsPlace (columns_in (slice_get c.args.self.now.catalog c.in_ok-number.number)) c.args.column.now c.in_ok-place.place = subst (λ (cs : List Column). IsPlace cs c.args.column.now c.in_ok-place.place) c.columns.ensures.columns c.in_ok-place.ensures.ok in
    let part : IsPart c.args.from c.args.length c.in_ok-part.part = subst (λ (z : ℤ). IsPart z c.args.length c.in_ok-part.part) from (subst (λ (z : ℤ). IsPart (to_z w64 (of_z w64 c.args.from)) z c.in_ok-part.part) long c.in_ok-part.ensures.ok) in
    let within = slice_get_within c.columns.result.now c.in_ok-place.place c.in_ok-place.ensures.ok.column c.in_ok-place.ensures.ok.there in
    let cells : length c.in-Some.row.now ≡ length c.columns.result.now = row_length c.args.core.now.xacts c.args.snap.now c.args.self.now c.requires.goes.kept c.requires.kept (row_key c.in_ok-number.number c.args.id) c.in-Some.row.now found ∙ ap (λ (cs : List Column). length cs) (sym c.columns.ensures.columns) in
    let same : length c.items.result.now ≡ length c.in-Some.row.now = ap (λ (cs : List Cell). length cs) c.items.ensures in
    let inside : c.in_ok-place.place < length c.items.result.now = omega arith in
    let at : slice_get c.in-Some.row.now c.in_ok-place.place ≡ Some c.index-items-place.result = ap (λ (cs : List Cell). slice_get cs c.in_ok-place.place) (sym c.items.ensures) ∙ slice_get_read c.items.result.now (length c.items.result.now) c.in_ok-place.place c.index-items-place.result refl inside c.index-items-place.is in
    slice_tells c.args.core.now.xacts c.args.snap.now c.args.self.now c.args.table.now c.in_ok-number.number c.in_ok-number.ensures.ok c.requires.kept s c.args.id c.in-Some.row.now found c.args.column.now c.args.from c.args.length c.in_ok-place.place place c.in_ok-part.part part c.index-items-place.result at c.in_ok-slice_cell.field-0 c.in_ok-slice_cell.ensures
