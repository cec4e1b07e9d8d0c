-- Lengths of cells, and how long a planned row can be.
use Rattle.std.proofs.Common.{◌≡◌, ℕ, suc, ◌+◌, ◌*◌, ◌/◌, ◌<◌, ◌≤◌, ◌^◌, Bool, true, false, List, [], ◌∷◌, length, Option, Some, None, refl, sym, ap, subst, ◌∙◌, arith, if◌then◌else◌}
use Rattle.std.specs.Prelude.{IfErr, IsErrAnd, MatchResult, Result, Ok, Err, is_none, is_some, nat_lt, option_map, pos}
use Rattle.std.specs.List.{list_any}
use Rattle.std.proofs.lemmas.Bool.{true≢false}
use Rattle.lo_base.specs.declared.column.Column.{Column}
use Rattle.lo_base.specs.declared.column.ColType.{ColType}
use Rattle.lo_base.specs.declared.column.ColType.TheVariants as types
use Rattle.lo_base.specs.declared.column.Storage.{Storage}
use Rattle.lo_base.specs.declared.refusal.Cause.TheVariants.{RowTooBig as TooBig}
use Rattle.lo_base.specs.declared.refusal.Refusal.{Refusal}
use Rattle.lo_base.specs.declared.value.Cell.{Cell}
use Rattle.lo_base.specs.declared.value.Cell.TheVariants as cells
use Rattle.toast_plan.specs.declared.layout.Plan.{Plan}
use Rattle.toast_plan.specs.declared.layout.RowTooBig.{RowTooBig}
use Rattle.toast_plan.specs.Choice.{outside_of, planned_length, refused_size, too_long}
use Rattle.toast_plan.specs.Columns.{AreLengths, HasLength, HasLengthIfThere, IsTableColumns}
use Rattle.toast_plan.specs.Layout.{bytes_end, data_end, data_length, field_end, has_short_header, header_length, up_to_4, up_to_8, value_end}
use Rattle.toast_plan.proofs.ValueLengths.{length_same}
use Rattle.row_versions.specs.Stack.{Each}
use Rattle.row_tables.specs.Cells.{cell_length, cell_lengths}
use Rattle.row_tables.specs.Drafts.{IsTooBig}
use Rattle.row_tables.specs.Outside.{FitsLength}
use Rattle.row_tables.specs.Terms.{refusal, row_too_big}

is_short : (kind : ColType) (n : ℕ) → HasLength kind n → n ≤ 2 ^ 24
is_short types.Int8 n h = omega (arith, h)
is_short types.Oid n h = omega (arith, h)
is_short types.Lo n h = omega (arith, h)
is_short types.Bytea n h = omega (arith, h)
is_short types.Int4Array n h = omega (arith, h)

cell_fits : (kind : ColType) (c : Cell) → HasLengthIfThere kind (cell_length c) → FitsLength c
cell_fits kind cells.Null h = tt
cell_fits kind (cells.Int n) h = tt
cell_fits kind (cells.Oid n) h = tt
cell_fits kind (cells.Inline bytes) h = let short : length bytes ≤ 2 ^ 24 = is_short kind (length bytes) h in omega (arith, short)
cell_fits kind (cells.Text bytes) h = let short : length bytes ≤ 2 ^ 24 = is_short kind (length bytes) h in omega (arith, short)
cell_fits kind (cells.Outside l n) h = tt

-- cells with lengths of their columns have lengths of 32 bits
pub cells_fit : (cs : List Column) (row : List Cell) → AreLengths cs (cell_lengths row) → Each FitsLength row
cells_fit [] [] h = tt
cells_fit [] (c ∷ row) h = absurd h
cells_fit (d ∷ cs) [] h = absurd h
cells_fit (d ∷ cs) (c ∷ row) h = (cell_fits d.kind c h.0, cells_fit cs row h.1)

pub cells_same : (cs : List Column) (row : List Cell) → AreLengths cs (cell_lengths row) → length row ≡ length cs
cells_same [] [] h = refl
cells_same [] (c ∷ row) h = absurd h
cells_same (d ∷ cs) [] h = absurd h
cells_same (d ∷ cs) (c ∷ row) h = ap suc (cells_same cs row h.1)

-- no field takes more than 2^25 bytes

bytes_near : (s : Storage) (n at : ℕ) → n ≤ 2 ^ 24 → bytes_end s n at ≤ at + 2 ^ 25
bytes_near s n at h = by_test (has_short_header s n)
  where
    by_test : (b : Bool) → (if b then at + 1 + n else up_to_4 at + 4 + n) ≤ at + 2 ^ 25
    by_test true = omega (arith, h)
    by_test false = omega (arith, h)

value_near : (kind : ColType) (s : Storage) (n at : ℕ) → n ≤ 2 ^ 24 → value_end kind s n at ≤ at + 2 ^ 25
value_near types.Int8 s n at h = omega (arith, h)
value_near types.Oid s n at h = omega (arith, h)
value_near types.Lo s n at h = omega (arith, h)
value_near types.Bytea s n at h = bytes_near s n at h
value_near types.Int4Array s n at h = bytes_near s n at h

field_near : (c : Column) (n : Option ℕ) (o : Bool) (at : ℕ) → HasLengthIfThere c.kind n → field_end c n o at ≤ at + 2 ^ 25
field_near c None o at h = omega arith
field_near c (Some n) true at h = omega arith
field_near c (Some n) false at h = value_near c.kind c.storage n at (is_short c.kind n h)

data_near : (at : ℕ) (cs : List Column) (ns : List (Option ℕ)) (os : List Bool) → AreLengths cs ns → data_end at cs ns os ≤ at + 2 ^ 25 * length cs
data_near at [] [] os h = omega arith
data_near at [] (n ∷ ns) os h = absurd h
data_near at (c ∷ cs) [] os h = absurd h
data_near at (c ∷ cs) (n ∷ ns) [] h = omega arith
data_near at (c ∷ cs) (n ∷ ns) (o ∷ os) h =
    let here : field_end c n o at ≤ at + 2 ^ 25 = field_near c n o at h.0 in
    let rest : data_end (field_end c n o at) cs ns os ≤ field_end c n o at + 2 ^ 25 * length cs = data_near (field_end c n o at) cs ns os h.1 in
    omega (arith, here, rest)

header_near : (ns : List (Option ℕ)) → length ns ≤ 32 → header_length ns ≤ 40
header_near ns h = by_test (list_any is_none ns)
  where
    by_test : (b : Bool) → up_to_8 (23 + (if b then (length ns + 7) / 8 else 0)) ≤ 40
    by_test true = omega (arith, h)
    by_test false = omega arith

-- a planned row's length has its place in 63 bits
pub planned_small : (cs : List Column) (ns : List (Option ℕ)) → IsTableColumns cs → AreLengths cs ns → up_to_8 (planned_length cs ns) < 2 ^ 63
planned_small cs ns columns lengths =
    let same : length ns ≡ length cs = length_same cs ns lengths in
    let few : length cs ≤ 32 = columns.few in
    let header : header_length ns ≤ 40 = header_near ns (omega (arith, same, few)) in
    let data_part : data_length cs ns (outside_of cs ns) ≤ 0 + 2 ^ 25 * length cs = data_near 0 cs ns (outside_of cs ns) lengths in
    omega (arith, few, header, data_part)

module _ (cs : List Column) (row : List Cell) where
  refused_is : (size : ℕ) (b : Bool) → b ≡ nat_lt 8160 (up_to_8 (planned_length cs (cell_lengths row))) → Some size ≡ (if b then Some (up_to_8 (planned_length cs (cell_lengths row))) else None) → (if b then Some (refusal TooBig (pos (up_to_8 (planned_length cs (cell_lengths row))))) else None) ≡ Some (refusal TooBig (pos size))
  refused_is size true is h = ap (λ (o : Option ℕ). option_map (λ n. refusal TooBig (pos n)) o) (sym h)
  refused_is size false is h = absurd (true≢false (ap is_some h))

  -- a plan that was refused tells the row's refusal
  pub refused_row : (p : Result Plan RowTooBig) (r : Result Plan Refusal) → MatchResult p (λ x. r ≡ Ok x) (λ e. IsErrAnd r (λ f. f ≡ refusal TooBig (pos e.size))) → refused_size p ≡ too_long cs (cell_lengths row) → IfErr r (IsTooBig cs row)
  refused_row (Ok plan) r is h = subst (λ q. IfErr q (IsTooBig cs row)) (sym is) tt
  refused_row (Err e) (Ok plan) is h = tt
  refused_row (Err e) (Err f) is h = ap (λ g. row_too_big cs (cell_lengths row)) is ∙ refused_is e.size (nat_lt 8160 (up_to_8 (planned_length cs (cell_lengths row)))) refl h ∙ ap (λ g. Some g) (sym is)

pub refused_small : (cs : List Column) (ns : List (Option ℕ)) (p : Result Plan RowTooBig) (e : RowTooBig) → IsTableColumns cs → AreLengths cs ns → IfErr p (λ f. f.size ≡ up_to_8 (planned_length cs ns)) → p ≡ Err e → e.size < 2 ^ 63
refused_small cs ns p e columns lengths rounded is =
    let size : e.size ≡ up_to_8 (planned_length cs ns) = subst (λ (q : Result Plan RowTooBig). IfErr q (λ f. f.size ≡ up_to_8 (planned_length cs ns))) is rounded in
    rw size (planned_small cs ns columns lengths)
