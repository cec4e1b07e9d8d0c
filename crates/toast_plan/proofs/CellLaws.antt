-- The lengths and the tags of cells.
use Rattle.std.proofs.Common.{◌≡◌, ℕ, suc, ◌≤◌, List, [], ◌∷◌, length, map, Some, None, refl, sym, ap, ap₂, subst, ◌∙◌, arith}
use Rattle.lo_base.specs.declared.value.Cell.{Cell}
use Rattle.std.proofs.Common.{◌++◌, take, drop, length-append, length-drop}
use Rattle.std.proofs.lemmas.List.{length-map, take_at}
use Rattle.std.proofs.lemmas.Option.{same_Some}
use Rattle.lo_base.specs.declared.column.Column.{Column}
use Rattle.lo_base.specs.declared.column.ColType.{ColType}
use Rattle.lo_base.specs.declared.column.ColType.TheVariants as types
use Rattle.toast_plan.specs.declared.reading.ReadRow.{ReadRow}
use Rattle.toast_plan.specs.Columns.{HasLengthIfThere, AreLengths}
use Rattle.toast_plan.specs.Choice.{outside_of}
use Rattle.toast_plan.specs.Row.{Field, Null, Int, Oid, Inline, Outside, row_form, IsFieldOf, AreFields, is_null, is_outside, field_length, field_lengths, StartsWithValue, IsRow, cell_of}
use Rattle.toast_plan.specs.Reading.{cell_length, cell_lengths, is_cell_outside, is_cell_null, StartsWithCell, AreRowCells, ReadsRow, HasNoRow, row_of, cells_front}
use Rattle.toast_plan.proofs.ReadingLaws.{TakesAll, cells_again}

-- ---- the cells of fields

-- what is read off each cell is read off its field
all_shown : {B : Type 0} (of_cell : Cell → B) (of_field : Field → B) → ((f : Field) → of_cell (cell_of f) ≡ of_field f) → (fs : List Field) → map of_cell (map cell_of fs) ≡ map of_field fs
all_shown of_cell of_field each [] = refl
all_shown of_cell of_field each (f ∷ fs) = ap₂ (λ x xs. x ∷ xs) (each f) (all_shown of_cell of_field each fs)

length_shown : (f : Field) → cell_length (cell_of f) ≡ field_length f
length_shown Null = refl
length_shown (Int z) = refl
length_shown (Oid n) = refl
length_shown (Inline bytes) = refl
length_shown (Outside p) = refl

lengths_shown : (fs : List Field) → cell_lengths (map cell_of fs) ≡ field_lengths fs
lengths_shown fs = all_shown cell_length field_length length_shown fs

mark_shown : (f : Field) → is_cell_outside (cell_of f) ≡ is_outside f
mark_shown Null = refl
mark_shown (Int z) = refl
mark_shown (Oid n) = refl
mark_shown (Inline bytes) = refl
mark_shown (Outside p) = refl

marks_shown : (fs : List Field) → map is_cell_outside (map cell_of fs) ≡ map is_outside fs
marks_shown fs = all_shown is_cell_outside is_outside mark_shown fs

null_shown : (f : Field) → is_cell_null (cell_of f) ≡ is_null f
null_shown Null = refl
null_shown (Int z) = refl
null_shown (Oid n) = refl
null_shown (Inline bytes) = refl
null_shown (Outside p) = refl

id_shown : (fs : List Field) → StartsWithCell (map cell_of fs) → StartsWithValue fs
id_shown [] h = h
id_shown (f ∷ fs) h = sym (null_shown f) ∙ h

id_kept : (fs : List Field) → StartsWithValue fs → StartsWithCell (map cell_of fs)
id_kept [] h = h
id_kept (f ∷ fs) h = null_shown f ∙ h

field_has_length : (kind : ColType) (f : Field) → IsFieldOf kind f → HasLengthIfThere kind (field_length f)
field_has_length kind Null is = tt
field_has_length types.Int8 (Int z) is = refl
field_has_length types.Int8 (Oid n) is = absurd is
field_has_length types.Int8 (Inline bytes) is = absurd is
field_has_length types.Int8 (Outside p) is = absurd is
field_has_length types.Oid (Int z) is = absurd is
field_has_length types.Oid (Oid n) is = refl
field_has_length types.Oid (Inline bytes) is = absurd is
field_has_length types.Oid (Outside p) is = absurd is
field_has_length types.Lo (Int z) is = absurd is
field_has_length types.Lo (Oid n) is = refl
field_has_length types.Lo (Inline bytes) is = absurd is
field_has_length types.Lo (Outside p) is = absurd is
field_has_length types.Bytea (Int z) is = absurd is
field_has_length types.Bytea (Oid n) is = absurd is
field_has_length types.Bytea (Inline bytes) is = is.few
field_has_length types.Bytea (Outside p) is = is.length
field_has_length types.Int4Array (Int z) is = absurd is
field_has_length types.Int4Array (Oid n) is = absurd is
field_has_length types.Int4Array (Inline bytes) is = is.few
field_has_length types.Int4Array (Outside p) is = is.length

fields_have_lengths : (cs : List Column) (fs : List Field) → AreFields cs fs → AreLengths cs (field_lengths fs)
fields_have_lengths [] [] are = tt
fields_have_lengths [] (f ∷ fs) are = absurd are
fields_have_lengths (c ∷ cs) [] are = absurd are
fields_have_lengths (c ∷ cs) (f ∷ fs) are = (field_has_length c.kind f are.0, fields_have_lengths cs fs are.1)

fields_same : (cs : List Column) (fs : List Field) → AreFields cs fs → length fs ≡ length cs
fields_same [] [] are = refl
fields_same [] (f ∷ fs) are = absurd are
fields_same (c ∷ cs) [] are = absurd are
fields_same (c ∷ cs) (f ∷ fs) are = ap suc (fields_same cs fs are.1)

pub cells_same : (cs : List Column) (bytes : List ℕ) (found : List Cell) (rest : List ℕ) → TakesAll cs bytes found rest → length found ≡ length cs
cells_same cs bytes found rest t = ap length t.shown ∙ length-map t.fields cell_of ∙ fields_same cs t.fields t.are

pub cells_have_lengths : (cs : List Column) (bytes : List ℕ) (found : List Cell) (rest : List ℕ) → TakesAll cs bytes found rest → AreLengths cs (cell_lengths found)
cells_have_lengths cs bytes found rest t = subst (AreLengths cs) (sym (ap cell_lengths t.shown ∙ lengths_shown t.fields)) (fields_have_lengths cs t.fields t.are)

-- ---- rows

row_cells : (cs : List Column) (fs : List Field) → AreFields cs fs → AreRowCells cs (map cell_of fs) → IsRow cs fs
row_cells cs fs are cells = record {
  id = id_shown fs cells.id;
  fields = are;
  planned = sym (marks_shown fs) ∙ cells.planned.outside ∙ ap (outside_of cs) (lengths_shown fs);
  fits = rw (← lengths_shown fs) cells.planned.fits;
}

cells_of_row : (cs : List Column) (fs : List Field) → IsRow cs fs → AreRowCells cs (map cell_of fs)
cells_of_row cs fs row = record {
  id = id_kept fs row.id;
  planned = record {
    outside = marks_shown fs ∙ row.planned ∙ ap (outside_of cs) (sym (lengths_shown fs));
    fits = rw (lengths_shown fs) row.fits;
  };
}

form_length : (bytes form : List ℕ) (taken : ℕ) → taken ≤ length bytes → bytes ≡ form ++ drop taken bytes → taken ≡ length form
form_length bytes form taken le e = omega (arith, ap length e, length-append form (drop taken bytes), length-drop taken bytes)

pub row_found : (cs : List Column) (bytes : List ℕ) (found : List Cell) (taken : ℕ) → taken ≤ length bytes → TakesAll cs bytes found (drop taken bytes) → AreRowCells cs found → ReadsRow cs bytes (record { cells = found; taken = taken })
row_found cs bytes found taken le t are =
    let same : taken ≡ length (row_form t.fields) = form_length bytes (row_form t.fields) taken le t.form in
    record {
      fields = t.fields;
      row = row_cells cs t.fields t.are (subst (AreRowCells cs) t.shown are);
      form = ap (take taken) t.form ∙ take_at (row_form t.fields) (drop taken bytes) taken (sym same);
      taken = same;
      cells = t.shown;
    }

read_again : (cs : List Column) (bytes : List ℕ) (fs : List Field) (rest : List ℕ) → IsRow cs fs → bytes ≡ row_form fs ++ rest → cells_front cs bytes ≡ Some (map cell_of fs, rest)
read_again cs bytes fs rest row e = ap (cells_front cs) e ∙ cells_again cs fs rest row.fields

pub no_row : (cs : List Column) (bytes : List ℕ) → cells_front cs bytes ≡ None → HasNoRow cs bytes
no_row cs bytes none fs rest row e = absurd (let some : None ≡ Some (map cell_of fs, rest) = sym none ∙ read_again cs bytes fs rest row e in cc)

pub record IsReadBack (found : List Cell) (bytes : List ℕ) (taken : ℕ) (fs : List Field) (rest : List ℕ) : Type 0 where
  pub cells : found ≡ map cell_of fs
  pub rest-is : drop taken bytes ≡ rest

pub read_back : (cs : List Column) (bytes : List ℕ) (found : List Cell) (taken : ℕ) (fs : List Field) (rest : List ℕ) → cells_front cs bytes ≡ Some (found, drop taken bytes) → IsRow cs fs → bytes ≡ row_form fs ++ rest → IsReadBack found bytes taken fs rest
read_back cs bytes found taken fs rest read row e =
    let same : (found, drop taken bytes) ≡ (map cell_of fs, rest) = same_Some (found, drop taken bytes) (map cell_of fs, rest) (sym read ∙ read_again cs bytes fs rest row e) in
    record { cells = ap (λ (x : List Cell × List ℕ). x.0) same; rest-is = ap (λ (x : List Cell × List ℕ). x.1) same }

-- cells that are no row's are those of no row
pub refused : (cs : List Column) (bytes : List ℕ) (found : List Cell) (taken : ℕ) → cells_front cs bytes ≡ Some (found, drop taken bytes) → (AreRowCells cs found → ⊥) → HasNoRow cs bytes
refused cs bytes found taken read none fs rest row e =
    let back = read_back cs bytes found taken fs rest read row e in
    none (subst (AreRowCells cs) (sym back.cells) (cells_of_row cs fs row))

abbrev row_read : List Cell → ℕ → ReadRow
row_read found taken = record { cells = found; taken = taken }

pub granted : (cs : List Column) (bytes : List ℕ) (found : List Cell) (taken : ℕ) (fs : List Field) (rest : List ℕ) → taken ≤ length bytes → cells_front cs bytes ≡ Some (found, drop taken bytes) → IsRow cs fs → bytes ≡ row_form fs ++ rest
    → row_read found taken ≡ row_of fs
granted cs bytes found taken fs rest le read row e =
    let back = read_back cs bytes found taken fs rest read row e in
    let same : taken ≡ length (row_form fs) = form_length bytes (row_form fs) taken le (e ∙ ap (λ (r : List ℕ). row_form fs ++ r) (sym back.rest-is)) in
    ap (λ (ds : List Cell). row_read ds taken) back.cells ∙ ap (λ (n : ℕ). row_read (map cell_of fs) n) same
