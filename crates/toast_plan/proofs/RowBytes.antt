-- A row's bytes tell its fields and where it ends.
use Rattle.std.proofs.Common.{◌≡◌, ℕ, List, [], ◌∷◌, ◌++◌, take, drop, refl, sym, ap, ap₂, ◌∙◌, append_assoc}
use Rattle.std.specs.Int.{w32, from_le_bytes}
use Rattle.std.proofs.lemmas.Option.{same_Some}
use Rattle.std.proofs.lemmas.Nat.{from_le_bytes-to_le_bytes_4}
use Rattle.lo_base.specs.declared.column.Column.{Column}
use Rattle.lo_base.specs.declared.column.ColType.{ColType}
use Rattle.lo_base.specs.declared.column.ColType.TheVariants as types
use Rattle.lo_base.specs.declared.value.Cell.{Cell}
use Rattle.lo_base.specs.declared.value.Cell.TheVariants as cells
use Rattle.toast_plan.specs.declared.pointer.Pointer.{Pointer}
use Rattle.toast_plan.specs.Pointer.{IsPointer}
use Rattle.toast_plan.specs.Row.{Field, Null, Int, Oid, Inline, Outside, field_form, row_form, IsFieldOf, AreFields, cell_of}
use Rattle.toast_plan.specs.Reading.{cell_front}
use Rattle.toast_plan.proofs.ReadingLaws.{cell_again}

-- the number of the table, were a pointer behind the tag
abbrev table_in : List ℕ → ℕ
table_in bytes = from_le_bytes w32 (take 4 (drop 15 bytes))

-- the field that a cell shows, with the number of its table
abbrev field_with : ℕ → Cell → Field
field_with table cells.Null = Null
field_with table (cells.Int z) = Int z
field_with table (cells.Oid n) = Oid n
field_with table (cells.Inline bytes) = Inline bytes
field_with table (cells.Text bytes) = Null
field_with table (cells.Outside n value) = Outside (record { length = n; value = value; table = table })

is_pointer_of : (kind : ColType) (p : Pointer) → IsFieldOf kind (Outside p) → IsPointer p
is_pointer_of types.Int8 p is = absurd is
is_pointer_of types.Oid p is = absurd is
is_pointer_of types.Lo p is = absurd is
is_pointer_of types.Bytea p is = is
is_pointer_of types.Int4Array p is = is

-- a field is told by its cell and its bytes
field_again : (kind : ColType) (f : Field) (rest : List ℕ) → IsFieldOf kind f → field_with (table_in (field_form f ++ rest)) (cell_of f) ≡ f
field_again kind Null rest is = refl
field_again kind (Int z) rest is = refl
field_again kind (Oid n) rest is = refl
field_again kind (Inline bytes) rest is = refl
field_again kind (Outside p) rest is =
    ap (λ (t : ℕ). Outside (record { length = p.length; value = p.value; table = t })) (from_le_bytes-to_le_bytes_4 p.table (is_pointer_of kind p is).table)

pub record AreTold {A : Type 0} (x y : A) (behind after : List ℕ) : Type 0 where
  pub fields : x ≡ y
  pub rest : behind ≡ after

field_told : (kind : ColType) (f g : Field) (behind after : List ℕ) → IsFieldOf kind f → IsFieldOf kind g → field_form f ++ behind ≡ field_form g ++ after → AreTold f g behind after
field_told kind f g behind after is too e =
    let same : (cell_of f, behind) ≡ (cell_of g, after) = same_Some (cell_of f, behind) (cell_of g, after) (sym (cell_again kind f behind is) ∙ ap (cell_front kind) e ∙ cell_again kind g after too) in
    record {
      fields = sym (field_again kind f behind is) ∙ ap₂ (λ bytes cell. field_with (table_in bytes) cell) e (ap (λ (x : Cell × List ℕ). x.0) same) ∙ field_again kind g after too;
      rest = ap (λ (x : Cell × List ℕ). x.1) same;
    }

pub fields_told : (cs : List Column) (xs ys : List Field) (behind after : List ℕ) → AreFields cs xs → AreFields cs ys → row_form xs ++ behind ≡ row_form ys ++ after → AreTold xs ys behind after
fields_told [] [] [] behind after are too e = record { fields = refl; rest = e }
fields_told [] [] (y ∷ ys) behind after are too e = absurd too
fields_told [] (x ∷ xs) ys behind after are too e = absurd are
fields_told (c ∷ cs) [] ys behind after are too e = absurd are
fields_told (c ∷ cs) (x ∷ xs) [] behind after are too e = absurd too
fields_told (c ∷ cs) (x ∷ xs) (y ∷ ys) behind after are too e =
    let regrouped = sym (append_assoc (field_form x) (row_form xs) behind) ∙ e ∙ append_assoc (field_form y) (row_form ys) after in
    let first = field_told c.kind x y (row_form xs ++ behind) (row_form ys ++ after) are.0 too.0 regrouped in
    let others = fields_told cs xs ys behind after are.1 too.1 first.rest in
    record { fields = ap₂ (λ f fs. f ∷ fs) first.fields others.fields; rest = others.rest }
