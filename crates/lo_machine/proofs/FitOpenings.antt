-- A run from an opening whose rows fit their tables, and whose objects have a size, begins with a fit state.
use Rattle.std.proofs.Common.{◌≡◌, ◌≤◌, ◌<◌, ℕ, zero, suc, ℤ, ◌+◌, ◌-◌, ◌*◌, ◌/◌, Bool, true, false, List, [], ◌∷◌, ◌++◌, length, map, drop, min, refl, ap, sym, subst, arith, length-take}
use Rattle.std.specs.Prelude.{flat_map, if◌then◌else◌}
use Rattle.std.specs.List.{AllByRecursion, range_with_len}
use Rattle.std.proofs.lemmas.Bool.{false≢true}
use Rattle.std.proofs.lemmas.List.{length-drop, length-map}
use Rattle.std.proofs.lemmas.List.Elements.{All-filter, All-from_recursion, recursion_from_All}
use Rattle.lo_base.specs.Name.{IsName}
use Rattle.lo_base.specs.declared.column.Column.{Column}
use Rattle.lo_base.specs.declared.value.Value.{Value}
use Rattle.lo_base.specs.declared.value.Value.TheVariants as values
use Rattle.lo_model.specs.declared.owner.Owner.TheVariants.{Committed}
use Rattle.lo_model.specs.Database.{Table}
use Rattle.lo_model.specs.Edit.{Deed, Create, Write, Cut, Put}
use Rattle.lo_model.specs.Held.{pieces}
use Rattle.lo_model.specs.Opening as model
use Rattle.lo_model.specs.Opening.{ObjectBytes, Opening, TableRows, is_written, needs_cut, object_deeds, page_of, table_deeds, written_pages}
use Rattle.lo_model.specs.Stored.{stored_anew}
use Rattle.lo_model.specs.Touch.{page_bytes}
use Rattle.lo_pages.specs.Outcome.{largest_size}
use Rattle.row_tables.specs.Catalog.{name_of}
use Rattle.row_tables.specs.Terms.{rounded_length, row_limit}
use Rattle.row_tables.specs.Values.{HasId, id_in, id_of}
use Rattle.row_versions.specs.Stack.{Each}
use Rattle.toast_plan.specs.Columns.{AreDistinct, IsTableColumns}
use Rattle.toast_plan.specs.Row.{value_lengths}
use Rattle.lo_machine.specs.Fitting.{AreCreated, FitsObject, FitsTable, HasFitRows, HasPlan, IsFit, IsFitOpening, IsRow, IsSizedObject, IsTableRow}
use Rattle.lo_machine.specs.Run.{start_of}
use Rattle.lo_machine.specs.Values.{plan_of}
use Rattle.lo_machine.proofs.FitTables.{made_all, made_plans}
use Rattle.lo_machine.proofs.FitViews.{IsOwn, all_mapped, all_own, both_all}

-- lists

each_more : {X : Type 0} (P : X → Type 0) (xs ys : List X) → Each P xs → Each P ys → Each P (xs ++ ys)
each_more P [] ys first second = second
each_more P (x ∷ xs) ys first second = (first.0, each_more P xs ys first.1 second)

each_flat : {X Y : Type 0} (P : Y → Type 0) (Q : X → Type 0) (f : X → List Y) → ((x : X) → Q x → Each P (f x)) → (xs : List X) → AllByRecursion Q xs → Each P (flat_map f xs)
each_flat P Q f each [] all = tt
each_flat P Q f each (x ∷ xs) all = each_more P (f x) (flat_map f xs) (each x all.0) (each_flat P Q f each xs all.1)

each_of : {X Y : Type 0} (P : Y → Type 0) (Q : X → Type 0) (f : X → Y) → ((x : X) → Q x → P (f x)) → (xs : List X) → AllByRecursion Q xs → Each P (map f xs)
each_of P Q f each [] all = tt
each_of P Q f each (x ∷ xs) all = (each x all.0, each_of P Q f each xs all.1)

unmapped : {X Y : Type 0} (P : Y → Type 0) (f : X → Y) (xs : List X) → AllByRecursion P (map f xs) → AllByRecursion (λ x. P (f x)) xs
unmapped P f [] all = tt
unmapped P f (x ∷ xs) all = (all.0, unmapped P f xs all.1)

-- what an object's deeds are

below : (from count : ℕ) → AllByRecursion (λ (b : ℕ). b < from + count) (range_with_len from count)
below from zero = tt
below from (suc count) = (omega arith, next (range_with_len (from + 1) count) (below (from + 1) count))
  where
    next : (bs : List ℕ) → AllByRecursion (λ (b : ℕ). b < from + 1 + count) bs → AllByRecursion (λ (b : ℕ). b < from + suc count) bs
    next [] all = tt
    next (b ∷ bs) all = let here : b < from + 1 + count = all.0 in (omega (arith, here), next bs all.1)

page_fits : (bytes : List ℕ) (b : ℕ) → length bytes ≤ largest_size → b < 0 + pieces page_bytes (length bytes) → page_bytes * b + length (page_of bytes b) ≤ largest_size
page_fits bytes b few within =
    let cut : length (page_of bytes b) ≡ min 2048 (length (drop (page_bytes * b) bytes)) = length-take 2048 (drop (page_bytes * b) bytes) in
    let rest : length (drop (page_bytes * b) bytes) ≡ length bytes - page_bytes * b = length-drop (page_bytes * b) bytes in
    let whole : length bytes ≤ 4398046509056 = few in
    let inside : b < (length bytes + 2047) / 2048 = omega (arith, within) in
    omega (arith, cut, rest, whole, inside)

object_each : (P : Deed → Type 0) (o : ObjectBytes) → P (Create o.oid) → ((b : ℕ) → b < 0 + pieces page_bytes (length o.bytes) → P (Write o.oid (page_bytes * b) (page_of o.bytes b))) → P (Cut o.oid (length o.bytes)) → Each P (object_deeds o)
object_each P o creates writes cuts = (creates, each_more P (map write (written_pages o.bytes)) _ pages (by (needs_cut o.bytes)))
  where
    write : ℕ → Deed
    write b = Write o.oid (page_bytes * b) (page_of o.bytes b)

    pages : Each P (map write (written_pages o.bytes))
    pages =
        each_of P (λ (b : ℕ). b < 0 + pieces page_bytes (length o.bytes)) write writes (written_pages o.bytes)
        (recursion_from_All (λ (b : ℕ). b < 0 + pieces page_bytes (length o.bytes)) (written_pages o.bytes)
        (All-filter (is_written o.bytes) (λ (b : ℕ). b < 0 + pieces page_bytes (length o.bytes)) (range_with_len 0 (pieces page_bytes (length o.bytes)))
        (All-from_recursion (λ (b : ℕ). b < 0 + pieces page_bytes (length o.bytes)) (range_with_len 0 (pieces page_bytes (length o.bytes))) (below 0 (pieces page_bytes (length o.bytes))))))

    by : (b : Bool) → Each P (if b then Cut o.oid (length o.bytes) ∷ [] else [])
    by true = (cuts, tt)
    by false = tt

-- the id of a row, as an opening has it

is_int : Value → Bool
is_int values.Null = false
is_int (values.Int n) = true
is_int (values.Oid n) = false
is_int (values.Bytes bytes) = false

same_id : (i : ℤ) (row : List Value) → HasId i row → model.id_of row ≡ i
unfolding is_int
same_id i [] has = absurd has
same_id i (values.Null ∷ row) has = absurd (false≢true (ap is_int has))
same_id i (values.Int n ∷ row) has = ap id_in has
same_id i (values.Oid n ∷ row) has = absurd (false≢true (ap is_int has))
same_id i (values.Bytes bytes ∷ row) has = absurd (false≢true (ap is_int has))

module _ (opening : Opening) (fit : IsFitOpening opening) where
  abbrev as_table : TableRows → Table
  as_table t = record { name = t.name; columns = t.columns }

  abbrev tables : List Table
  tables = map as_table opening.tables

  same_names : (ts : List TableRows) → map name_of (map as_table ts) ≡ map (λ (t : TableRows). t.name) ts
  same_names [] = refl
  same_names (t ∷ ts) = ap (λ (names : List (List ℕ)). t.name ∷ names) (same_names ts)

  names_differ : AreDistinct (map name_of tables)
  names_differ = subst AreDistinct (sym (same_names opening.tables)) fit.distinct

  created : AreCreated tables
  created = record {
    tables = record {
      few = let most : length opening.tables ≤ 1000 = fit.few in omega (arith, length-map opening.tables as_table, most);
      distinct = names_differ;
      columns = all_mapped (λ (t : Table). IsTableColumns t.columns) HasFitRows as_table (λ t is. is.can) opening.tables fit.tables;
    };
    named = all_mapped (λ (t : Table). IsName t.name) HasFitRows as_table (λ t is. is.name) opening.tables fit.tables;
  }

  -- each table with its rows, which is the one of its name
  abbrev IsOpened : TableRows → Type 0
  IsOpened t = IsOwn tables (as_table t) × HasFitRows t

  opened : AllByRecursion IsOpened opening.tables
  opened = both_all (λ (t : TableRows). IsOwn tables (as_table t)) HasFitRows opening.tables (unmapped (IsOwn tables) as_table opening.tables (all_own tables names_differ)) fit.tables

  abbrev put : TableRows → List Value → Deed
  put t row = Put t.name (model.id_of row) row (stored_anew 0 (plan_of t.columns row))

  row_fits : (t : TableRows) → IsOpened t → (row : List Value) → IsTableRow t.columns (id_of row) row → FitsTable tables (put t row)
  row_fits t is row has =
      subst (λ (cs : List Column). IsRow cs (model.id_of row) row) (sym is.0)
      (subst (λ (i : ℤ). IsRow t.columns i row) (sym (same_id (id_of row) row has.row.id)) has.row)

  row_plans : (t : TableRows) → IsOpened t → (row : List Value) → IsTableRow t.columns (id_of row) row → HasPlan tables (put t row)
  row_plans t is row has = subst (λ (cs : List Column). rounded_length cs (value_lengths row) ≤ row_limit) (sym is.0) has.plan

  abbrev all_deeds : List Deed
  all_deeds = flat_map (table_deeds plan_of) opening.tables ++ flat_map object_deeds opening.objects

  rows_each : (P : Deed → Type 0) → ((t : TableRows) → IsOpened t → (row : List Value) → IsTableRow t.columns (id_of row) row → P (put t row)) → Each P (flat_map (table_deeds plan_of) opening.tables)
  rows_each P each =
      each_flat P IsOpened (table_deeds plan_of)
      (λ t is. each_of P (λ (row : List Value). IsTableRow t.columns (id_of row) row) (put t) (each t is) t.rows is.1.rows)
      opening.tables opened

  objects_each : (P : Deed → Type 0) → ((o : ObjectBytes) → IsSizedObject o → Each P (object_deeds o)) → Each P (flat_map object_deeds opening.objects)
  objects_each P each = each_flat P IsSizedObject object_deeds each opening.objects fit.objects

  deeds_fit : Each FitsObject all_deeds
  deeds_fit =
      each_more FitsObject (flat_map (table_deeds plan_of) opening.tables) (flat_map object_deeds opening.objects)
      (rows_each FitsObject (λ t is row has. tt))
      (objects_each FitsObject (λ o is. object_each FitsObject o (is.least, is.most) (λ b within. page_fits o.bytes b is.size within) is.size))

  rows_fit : Each (FitsTable tables) all_deeds
  rows_fit =
      each_more (FitsTable tables) (flat_map (table_deeds plan_of) opening.tables) (flat_map object_deeds opening.objects)
      (rows_each (FitsTable tables) row_fits)
      (objects_each (FitsTable tables) (λ o is. object_each (FitsTable tables) o tt (λ b within. tt) tt))

  plans_fit : Each (HasPlan tables) all_deeds
  plans_fit =
      each_more (HasPlan tables) (flat_map (table_deeds plan_of) opening.tables) (flat_map object_deeds opening.objects)
      (rows_each (HasPlan tables) row_plans)
      (objects_each (HasPlan tables) (λ o is. object_each (HasPlan tables) o tt (λ b within. tt) tt))

  pub fit_opened : IsFit (start_of opening).state
  fit_opened = record {
    counter = fit.counter;
    tables = created;
    objects = made_all FitsObject 0 (Committed 0) all_deeds deeds_fit;
    rows = made_all (FitsTable tables) 0 (Committed 0) all_deeds rows_fit;
    plans = made_plans tables 0 (Committed 0) all_deeds plans_fit;
  }
