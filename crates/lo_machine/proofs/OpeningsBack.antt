-- What a run from an opening has committed as it begins: all edits of the opening, so its tables with their rows, and its objects.
use Rattle.std.proofs.Common.{◌≡◌, ℕ, ℤ, ◌*◌, Bool, true, false, List, [], ◌∷◌, ◌++◌, length, map, Option, None, refl, sym, ap, ap₂, ◌∙◌, append-nil, append_assoc}
use Rattle.std.specs.Prelude.{filter, is_some, if◌then◌else◌}
use Rattle.std.specs.Ordering.{int_cmp}
use Rattle.lo_base.specs.declared.column.Column.{Column}
use Rattle.lo_base.specs.declared.value.Value.{Value}
use Rattle.lo_model.specs.declared.owner.Owner.TheVariants.{Committed}
use Rattle.lo_model.specs.declared.viewer.Viewer.TheVariants.{Nobody}
use Rattle.lo_model.specs.Database.{Table}
use Rattle.lo_model.specs.Edit.{Deed, Create, Write, Cut, Edit, deeds, edits_by}
use Rattle.lo_model.specs.Listing.{created_oids, has_row, ids_in, in_order, put_id, put_ids, tables_in_order}
use Rattle.lo_model.specs.Object.{object_after_all}
use Rattle.lo_model.specs.Opening.{ObjectBytes, Opening, TableRows, needs_cut, object_deeds, page_of, written_pages}
use Rattle.lo_model.specs.Row.{Row, row_after_all, row_in}
use Rattle.lo_model.specs.View.{view}
use Rattle.row_tables.specs.RowRules.{values_in}
use Rattle.lo_opening.specs.declared.opening.ObjectData.{ObjectData}
use Rattle.lo_opening.specs.declared.opening.TableData.{TableData}
use Rattle.lo_opening.specs.Opening.{AreTables, IsOpening, OpeningData}
use Rattle.lo_opening.specs.Meaning.{object_of, opening_of, table_of}
use Rattle.lo_restore.specs.Objects.{objects_at}
use Rattle.lo_restore.specs.Tables.{deeds_in, named_of, row_deeds}
use Rattle.lo_restore.specs.TablesSaved.{row_values, table_with_rows, tables_with_rows}
use Rattle.lo_restore.proofs.RestoredRows.{tables_given}
use Rattle.lo_restore.proofs.TableDeeds.{rows_both}
use Rattle.lo_machine.specs.Committed.{committed_opening}
use Rattle.lo_machine.specs.Run.{start_from}
use Rattle.lo_machine.proofs.ObjectsBack.{created_both, objects_both, objects_deeds, objects_given}

-- ---- all edits of an opening are committed

abbrev edits_of : List Deed → List (Edit Deed)
edits_of ds = edits_by 0 (Committed 0) ds

all_committed : (ds : List Deed) → view 1 Nobody (edits_of ds) ≡ edits_of ds
all_committed [] = refl
all_committed (d ∷ ds) = ap (λ (es : List (Edit Deed)). record { clock = 0; owner = Committed 0; deed = d } ∷ es) (all_committed ds)

deeds_done : (ds : List Deed) → deeds (edits_of ds) ≡ ds
deeds_done [] = refl
deeds_done (d ∷ ds) = ap (λ (es : List Deed). d ∷ es) (deeds_done ds)

-- ---- puts give no object

puts_spare : (p : ℕ) (old : Option (List ℕ)) (name : List ℕ) (columns : List Column) (rows : List (List Value)) → object_after_all p old (row_deeds name columns rows) ≡ old
puts_spare p old name columns [] = refl
puts_spare p old name columns (vs ∷ rows) = puts_spare p old name columns rows

tables_spare : (list : List TableData) (p : ℕ) (old : Option (List ℕ)) → object_after_all p old (deeds_in list) ≡ old
tables_spare [] p old = refl
tables_spare (t ∷ ts) p old =
    objects_both p old (row_deeds t.name t.columns t.rows) (deeds_in ts)
    ∙ (ap (λ (x : Option (List ℕ)). object_after_all p x (deeds_in ts)) (puts_spare p old t.name t.columns t.rows) ∙ tables_spare ts p old)

puts_create : (name : List ℕ) (columns : List Column) (rows : List (List Value)) → created_oids (row_deeds name columns rows) ≡ []
puts_create name columns [] = refl
puts_create name columns (vs ∷ rows) = puts_create name columns rows

tables_create : (list : List TableData) → created_oids (deeds_in list) ≡ []
tables_create [] = refl
tables_create (t ∷ ts) = created_both (row_deeds t.name t.columns t.rows) (deeds_in ts) ∙ ap₂ (λ (a b : List ℕ). a ++ b) (puts_create t.name t.columns t.rows) (tables_create ts)

-- ---- deeds of objects give no row

module _ (name : List ℕ) where
  -- some deeds change no row of the table, and put none
  record Spare (ds : List Deed) : Type 0 where
    row : (id : ℤ) (old : Option Row) → row_after_all name id old ds ≡ old
    ids : put_ids name ds ≡ []

  ids_both : (ds es : List Deed) → put_ids name (ds ++ es) ≡ put_ids name ds ++ put_ids name es
  ids_both [] es = refl
  ids_both (d ∷ ds) es = ap (λ (is : List ℤ). put_id name d ++ is) (ids_both ds es) ∙ sym (append_assoc (put_id name d) (put_ids name ds) (put_ids name es))

  spare_both : (ds es : List Deed) → Spare ds → Spare es → Spare (ds ++ es)
  spare_both ds es first second = record {
    row = λ id old. rows_both name id old ds es ∙ (ap (λ (x : Option Row). row_after_all name id x es) (first.row id old) ∙ second.row id old);
    ids = ids_both ds es ∙ ap₂ (λ (a b : List ℤ). a ++ b) first.ids second.ids;
  }

  object_spares : (o : ObjectBytes) → Spare (object_deeds o)
  object_spares o = spare_both (Create o.oid ∷ []) _ (record { row = λ id old. refl; ids = refl }) (spare_both (map write (written_pages o.bytes)) _ (writes (written_pages o.bytes)) (cuts (needs_cut o.bytes)))
    where
      write : ℕ → Deed
      write b = Write o.oid (2048 * b) (page_of o.bytes b)

      writes : (bs : List ℕ) → Spare (map write bs)
      writes [] = record { row = λ id old. refl; ids = refl }
      writes (b ∷ bs) = let more = writes bs in record { row = more.row; ids = more.ids }

      cuts : (b : Bool) → Spare (if b then Cut o.oid (length o.bytes) ∷ [] else [])
      cuts true = record { row = λ id old. refl; ids = refl }
      cuts false = record { row = λ id old. refl; ids = refl }

  objects_spare : (os : List ObjectData) → Spare (objects_deeds os)
  objects_spare [] = record { row = λ id old. refl; ids = refl }
  objects_spare (o ∷ os) = spare_both (object_deeds (object_of o)) (objects_deeds os) (object_spares (object_of o)) (objects_spare os)

-- ---- so a table has the same rows with them

filter_same : {X : Type 0} (p q : X → Bool) → ((x : X) → p x ≡ q x) → (xs : List X) → filter p xs ≡ filter q xs
filter_same p q same [] = refl
filter_same {X} p q same (x ∷ xs) = by (p x) (q x) (same x) (filter_same p q same xs)
  where
    by : (a b : Bool) → a ≡ b → filter p xs ≡ filter q xs → (if a then x ∷ filter p xs else filter p xs) ≡ (if b then x ∷ filter q xs else filter q xs)
    by a b is more = ap (λ c. if c then x ∷ filter p xs else filter p xs) is ∙ ap (λ (ys : List X). if b then x ∷ ys else ys) more

map_same : {X Y : Type 0} (f g : X → Y) → ((x : X) → f x ≡ g x) → (xs : List X) → map f xs ≡ map g xs
map_same f g same [] = refl
map_same {X} {Y} f g same (x ∷ xs) = ap₂ (λ (y : Y) (ys : List Y). y ∷ ys) (same x) (map_same f g same xs)

module _ (list : List TableData) (os : List ObjectData) where
  abbrev rows_alone : List (Edit Deed)
  rows_alone = edits_of (deeds_in list)

  module _ (es : List (Edit Deed)) (is : deeds es ≡ deeds_in list ++ objects_deeds os) where
    rows_same : (name : List ℕ) (id : ℤ) → row_in name id es ≡ row_in name id rows_alone
    rows_same name id =
        ap (row_after_all name id None) is
        ∙ (rows_both name id None (deeds_in list) (objects_deeds os)
        ∙ ((objects_spare name os).row id (row_after_all name id None (deeds_in list))
        ∙ ap (row_after_all name id None) (sym (deeds_done (deeds_in list)))))

    puts_same : (name : List ℕ) → put_ids name (deeds es) ≡ put_ids name (deeds rows_alone)
    puts_same name =
        ap (put_ids name) is
        ∙ (ids_both name (deeds_in list) (objects_deeds os)
        ∙ (ap (λ (ids : List ℤ). put_ids name (deeds_in list) ++ ids) ((objects_spare name os).ids)
        ∙ (append-nil (put_ids name (deeds_in list))
        ∙ ap (put_ids name) (sym (deeds_done (deeds_in list))))))

    ids_same : (name : List ℕ) → ids_in name es ≡ ids_in name rows_alone
    ids_same name =
        ap (λ (ids : List ℤ). filter (has_row es name) (in_order int_cmp ids)) (puts_same name)
        ∙ filter_same (has_row es name) (has_row rows_alone name) (λ id. ap is_some (rows_same name id)) (in_order int_cmp (put_ids name (deeds rows_alone)))

    table_same : (t : Table) → table_with_rows es t ≡ table_with_rows rows_alone t
    table_same t = ap (with_rows t) (ap (map (row_values es t.name)) (ids_same t.name) ∙ map_same (row_values es t.name) (row_values rows_alone t.name) (λ id. ap values_in (rows_same t.name id)) (ids_in t.name rows_alone))
      where
        with_rows : Table → List (List Value) → TableRows
        with_rows u rows = record { name = u.name; columns = u.columns; rows = rows }

    tables_back : AreTables None 1 1 list → tables_with_rows es (map named_of list) ≡ map table_of list
    tables_back are = map_same (table_with_rows es) (table_with_rows rows_alone) table_same (tables_in_order (map named_of list)) ∙ tables_given list rows_alone are (deeds_done (deeds_in list))

-- ---- the whole

abbrev without_rows : TableRows → Table
without_rows t = record { name = t.name; columns = t.columns }

named : (list : List TableData) → map without_rows (map table_of list) ≡ map named_of list
named [] = refl
named (t ∷ ts) = ap (λ (tables : List Table). named_of t ∷ tables) (named ts)

module _ (d : OpeningData) where
  abbrev all_deeds : List Deed
  all_deeds = deeds_in d.tables ++ objects_deeds d.objects

  abbrev has : List (Edit Deed) → List Table → Opening
  has es tables = record { blocks = d.blocks; counter = d.counter; tables = tables_with_rows es tables; objects = objects_at es }

  abbrev of : List TableRows → List ObjectBytes → Opening
  of tables objects = record { blocks = d.blocks; counter = d.counter; tables = tables; objects = objects }

  pub back : IsOpening d → committed_opening d.blocks (start_from (opening_of d)).state ≡ opening_of d
  back is =
      ap₂ has (all_committed all_deeds) (named d.tables)
      ∙ ap₂ of
      (tables_back d.tables d.objects (edits_of all_deeds) (deeds_done all_deeds) is.tables)
      (objects_given (deeds_in d.tables) _ d.objects (edits_of all_deeds) (tables_spare d.tables) (tables_create d.tables) is.objects (deeds_done all_deeds))
