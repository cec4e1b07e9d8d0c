-- A run from an opening whose rows fit their tables begins with a state that is well.
use Rattle.std.proofs.Common.{◌≡◌, ℕ, ◌*◌, Bool, true, false, List, [], ◌∷◌, ◌++◌, length, map, Option, Some, None, refl, ap, sym, subst, ◌∙◌, arith}
use Rattle.std.specs.Prelude.{All, flat_map, is_some, if◌then◌else◌}
use Rattle.std.specs.List.{AllByRecursion}
use Rattle.std.proofs.lemmas.List.Elements.{All-cons, All-nil}
use Rattle.lo_base.specs.declared.column.Column.{Column}
use Rattle.lo_base.specs.declared.value.Value.{Value}
use Rattle.lo_model.specs.declared.owner.Owner.TheVariants.{Committed}
use Rattle.lo_model.specs.Database.{Table}
use Rattle.lo_model.specs.Edit.{Cut, Deed, Write, edits_by}
use Rattle.lo_model.specs.Opening.{ObjectBytes, Opening, TableRows, needs_cut, object_deeds, page_of, table_deeds, written_pages}
use Rattle.lo_model.specs.Session.{Session}
use Rattle.lo_model.specs.Touch.{page_bytes}
use Rattle.row_tables.specs.Catalog.{columns_in, table_in}
use Rattle.row_tables.specs.Values.{id_of}
use Rattle.row_versions.specs.Stack.{Each}
use Rattle.toast_plan.specs.Columns.{IsTableColumns, StartsWithId}
use Rattle.lo_machine.specs.Fitting.{HasFitRows, IsFitOpening, IsTableRow}
use Rattle.lo_machine.specs.FlatRows.{AreFlatValues, IsFlatDeed, IsFlatPut}
use Rattle.lo_machine.specs.Loading.{deeds_of}
use Rattle.lo_machine.specs.Run.{start_from}
use Rattle.lo_machine.specs.State.{edits, session_of}
use Rattle.lo_machine.specs.Values.{plan_of}
use Rattle.lo_machine.specs.Well.{AreNamed, HoldsArray, IsCursor, IsDescriptor, IsPast, IsWell}
use Rattle.lo_machine.proofs.FitOpenings.{fit_opened}
use Rattle.lo_machine.proofs.FitViews.{IsOwn, all_own}
use Rattle.lo_machine.proofs.FlatEdits.{flat_made, objects_flat}
use Rattle.lo_machine.proofs.ObjectDeeds.{AreOfObjects}

-- lists

each_more : {X : Type 0} (P : X → Type 0) (xs ys : List X) → Each P xs → Each P ys → Each P (xs ++ ys)
each_more P [] ys first second = second
each_more P (x ∷ xs) ys first second = (first.0, each_more P xs ys first.1 second)

-- deeds of objects

pub objects_are : (os : List ObjectBytes) → AreOfObjects (flat_map object_deeds os)
objects_are [] = tt
objects_are (o ∷ os) = each_more _ (object_deeds o) (flat_map object_deeds os) (refl, each_more _ (map write (written_pages o.bytes)) _ (writes (written_pages o.bytes)) (cut (needs_cut o.bytes))) (objects_are os)
  where
    write : ℕ → Deed
    write b = Write o.oid (page_bytes * b) (page_of o.bytes b)

    writes : (bs : List ℕ) → AreOfObjects (map write bs)
    writes [] = tt
    writes (b ∷ bs) = (refl, writes bs)

    cut : (b : Bool) → AreOfObjects (if b then Cut o.oid (length o.bytes) ∷ [] else [])
    cut true = (refl, tt)
    cut false = tt

-- edits that were committed at clock 0 are past

made_past : (sessions : ℕ → Session) (ds : List Deed) → All (IsPast 1 sessions) (edits_by 0 (Committed 0) ds)
made_past sessions [] = All-nil (IsPast 1 sessions)
made_past sessions (d ∷ ds) = All-cons (IsPast 1 sessions) (record { clock = 0; owner = Committed 0; deed = d }) (edits_by 0 (Committed 0) ds) (record { made = omega arith; owner = omega arith }) (made_past sessions ds)

all_named : (ts : List Table) → AllByRecursion (λ (t : Table). IsTableColumns t.columns) ts → AreNamed ts
all_named [] all = tt
all_named (t ∷ ts) all = (all.0.distinct, all_named ts all.1)

-- rows are flat in the table of their name

module _ (tables : List Table) where
  abbrev as_table : TableRows → Table
  as_table t = record { name = t.name; columns = t.columns }

  has_table : (columns : List Column) (found : Option Table) → IsTableColumns columns → columns_in found ≡ columns → is_some found ≡ true
  has_table columns None can own = absurd (subst StartsWithId (sym own) can.id_first)
  has_table columns (Some t) can own = refl

  flat_put : (t : TableRows) → IsOwn tables (as_table t) → (row : List Value) → IsTableRow t.columns (id_of row) row → IsFlatPut tables t.name row
  flat_put t own row is = record {
    there = has_table t.columns (table_in t.name tables) is.can own;
    flat = λ u found. subst (λ (cs : List Column). AreFlatValues cs row) (sym own ∙ ap columns_in found) is.flat;
  }

  flat_rows : (t : TableRows) → IsOwn tables (as_table t) → (rows : List (List Value)) → AllByRecursion (λ (row : List Value). IsTableRow t.columns (id_of row) row) rows → Each (IsFlatDeed tables) (table_deeds plan_of (record { name = t.name; columns = t.columns; rows = rows }))
  flat_rows t own [] all = tt
  flat_rows t own (row ∷ rows) all = (flat_put t own row all.0, flat_rows t own rows all.1)

  flat_tables : (ts : List TableRows) → AllByRecursion (IsOwn tables) (map as_table ts) → AllByRecursion HasFitRows ts → Each (IsFlatDeed tables) (flat_map (table_deeds plan_of) ts)
  flat_tables [] own fit = tt
  flat_tables (t ∷ ts) own fit = each_more (IsFlatDeed tables) (table_deeds plan_of t) (flat_map (table_deeds plan_of) ts) (flat_rows t own.0 t.rows fit.0.rows) (flat_tables ts own.1 fit.1)

module _ (o : Opening) (fit : IsFitOpening o) where
  abbrev tables : List Table
  tables = (start_from o).state.database.tables

  all_flat : Each (IsFlatDeed tables) (deeds_of o)
  all_flat = each_more (IsFlatDeed tables) (flat_map (table_deeds plan_of) o.tables) (flat_map object_deeds o.objects)
      (flat_tables tables o.tables (all_own tables (fit_opened o fit).tables.tables.distinct) fit.tables)
      (objects_flat tables (flat_map object_deeds o.objects) (objects_are o.objects))

  pub well_opened : IsWell (start_from o).state
  well_opened = record {
    well = record {
      past = made_past (session_of (start_from o).state) (deeds_of o);
      each = λ s. record { first = tt; descriptors = All-nil (IsDescriptor 1 (edits (start_from o).state) 0); none = λ is. refl; unfailed = λ is. refl; cursors = All-nil (IsCursor 1 (edits (start_from o).state) 0); no_cursors = λ is. refl };
    };
    uncounted = refl;
    flat = flat_made tables 0 (Committed 0) (deeds_of o) all_flat;
    named = all_named tables (fit_opened o fit).tables.tables.columns;
    held = λ s. All-nil HoldsArray;
  }
