-- After a change of one row tables stand for one edit more.
use Rattle.std.proofs.Common.{◌≡◌, ◌≢◌, ℕ, ℤ, ◌<◌, ◌≤◌, Bool, true, false, cond, List, [], ◌∷◌, ◌++◌, length, map, Option, Some, None, refl, ap, sym, subst, ◌∙◌, arith, append-nil}
use Rattle.std.specs.Prelude.{◌&&◌, ◌==◌, bytes_eq, slice_get}
use Rattle.std.specs.Ordering.{int_eq}
use Rattle.std.proofs.lemmas.Bool.{false≢true}
use Rattle.std.proofs.lemmas.Bool.Decides.{Decides-int_eq, nat_tests}
use Rattle.std.proofs.lemmas.List.{map-append}
use Rattle.std.proofs.lemmas.List.Elements.{filter-append}
use Rattle.std.proofs.lemmas.Slice.Eq.{bytes_eq-Decides}
use Rattle.lo_base.specs.declared.value.Cell.{Cell}
use Rattle.lo_base.specs.declared.value.Value.{Value}
use Rattle.lo_model.specs.Database.{Table}
use Rattle.lo_model.specs.Edit.{Deed, Put, Edit}
use Rattle.lo_model.specs.Row.{is_row}
use Rattle.xact_core.specs.Kept.{HoldsWholeViews, current}
use Rattle.xact_core.specs.Transactions.{Transactions, levels_of}
use Rattle.row_versions.specs.Search.{busy_at}
use Rattle.row_versions.specs.Stack.{Each}
use Rattle.row_versions.specs.Stands.{made_now}
use Rattle.toast_chunks.specs.Values.{next_number}
use Rattle.row_tables.specs.declared.row_key.RowKey.{RowKey}
use Rattle.row_tables.specs.declared.tables.Tables.{Tables}
use Rattle.row_tables.specs.Catalog.{table_in}
use Rattle.row_tables.specs.Cells.{Moved, Told, stored_told, values_told}
use Rattle.row_tables.specs.Keys.{key_cmp, same_key}
use Rattle.row_tables.specs.Outside.{ChangesRow}
use Rattle.row_tables.specs.Standing.{HasCells, IsNoKey, IsUnknown, Kept, ReadsAs, StandFor, at_row, cells_at, deed_told, edit_told, is_of_row}
use Rattle.row_tables.proofs.Changing.{IsChange, stored_stay, values_stay}
use Rattle.row_tables.proofs.RowChanges as change
use Rattle.row_tables.proofs.RowEdits.{is_row_itself}

-- an edit of cells is one of its row

told_of_row : (told : ℕ → Told) (t u : List ℕ) (i j : ℤ) (content : Option (List Cell)) → is_of_row t i (deed_told told u j content) ≡ is_row t i u j
told_of_row told t u i j None = refl
told_of_row told t u i j (Some row) = refl

row_is : (t u : List ℕ) (i j : ℤ) → is_row t i u j ≡ true → (t ≡ u) × (i ≡ j)
row_is t u i j is = by_tests (bytes_eq t u) (int_eq i j) refl refl is
  where
    by_tests : (a b : Bool) → bytes_eq t u ≡ a → int_eq i j ≡ b → (a && b) ≡ true → (t ≡ u) × (i ≡ j)
    by_tests true true names ids both = ((bytes_eq-Decides t u).0 names, (Decides-int_eq i j).0 ids)
    by_tests true false names ids both = absurd (false≢true both)
    by_tests false b names ids both = absurd (false≢true both)

-- one edit more, of the row or of another one

at_row_own : (t : List ℕ) (i : ℤ) (ys : List (Edit Deed)) (e : Edit Deed) → is_of_row t i e.deed ≡ true → at_row t i (ys ++ e ∷ []) ≡ at_row t i ys ++ e ∷ []
at_row_own t i ys e is = filter-append (λ (f : Edit Deed). is_of_row t i f.deed) ys (e ∷ []) ∙ ap (λ (b : Bool). at_row t i ys ++ cond b (e ∷ []) []) is

pub at_row_other : (t : List ℕ) (i : ℤ) (ys : List (Edit Deed)) (e : Edit Deed) → is_of_row t i e.deed ≡ false → at_row t i (ys ++ e ∷ []) ≡ at_row t i ys
at_row_other t i ys e is = filter-append (λ (f : Edit Deed). is_of_row t i f.deed) ys (e ∷ []) ∙ (ap (λ (b : Bool). at_row t i ys ++ cond b (e ∷ []) []) is ∙ append-nil (at_row t i ys))

some_is : {X : Type 0} (a b : X) → Some a ≡ Some b → a ≡ b
some_is a b same = grind arith

-- the key's table, under a name that no other table has
pub record HasOwnName (tables : Tables) (key : RowKey) : Type 0 where
  pub table : Table
  pub there : slice_get tables.catalog key.table ≡ Some table
  pub alone : (k : ℕ) (t : Table) → slice_get tables.catalog k ≡ Some t → t.name ≡ table.name → k ≡ key.table
  pub known : (name : List ℕ) → IsUnknown tables name → name ≢ table.name

module _ (x : Transactions) (s : ℕ) (one : 1 ≤ s) (some : 0 < length (levels_of x s)) (whole : HoldsWholeViews x) (old new : Tables) (key : RowKey) (kept : Kept x old) (free : busy_at key_cmp x s old.rows key ≡ None) (moved : List Moved) (gone : List ℕ) (content : Option (List Cell)) (changes : ChangesRow x s key moved gone content old new) (is : IsChange x.clock key kept.told (next_number old.chunks) moved gone (cells_at x (current x s) old key) content) (has_name : HasOwnName old key) where
  abbrev pub tell : ℕ → Told
  tell n = change.tell x s one some whole old new key kept free moved gone content changes is n

  abbrev pub edited : Edit Deed
  edited = made_now x s (deed_told tell has_name.table.name key.id content)

  abbrev pub edits : RowKey → List (Edit (Option (List Cell)))
  edits k = change.edits x s one some whole old new key kept free moved gone content changes is k

  -- what was told of edits before stays

  deed_stays : (k : RowKey) (t : List ℕ) (i : ℤ) (was : Option (List Cell)) → HasCells kept.told k old was → deed_told tell t i was ≡ deed_told kept.told t i was
  deed_stays k t i None good = refl
  deed_stays k t i (Some row) good = ap (λ (vs : List Value). Put t i vs (stored_told tell row)) (values_stay kept.told tell k (next_number old.chunks) (change.told_old x s one some whole old new key kept free moved gone content changes is) row good.each) ∙ ap (Put t i (values_told kept.told row)) (stored_stay kept.told tell k (next_number old.chunks) (change.told_old x s one some whole old new key kept free moved gone content changes is) row good.each)

  edits_stay : (k : RowKey) (t : List ℕ) (i : ℤ) (es : List (Edit (Option (List Cell)))) → Each (λ (e : Edit (Option (List Cell))). HasCells kept.told k old e.deed) es → map (edit_told tell t i) es ≡ map (edit_told kept.told t i) es
  edits_stay k t i [] each = refl
  edits_stay k t i (e ∷ es) each = ap (λ (d : Deed). record { clock = e.clock; owner = e.owner; deed = d } ∷ map (edit_told tell t i) es) (deed_stays k t i e.deed each.0) ∙ ap (λ (fs : List (Edit Deed)). edit_told kept.told t i e ∷ fs) (edits_stay k t i es each.1)

  module _ (ys : List (Edit Deed)) (reads : ReadsAs x old kept ys) (known : (name : List ℕ) (id : ℤ) → IsUnknown old name → at_row name id ys ≡ []) where
    own_row : (t : Table) → t ≡ has_name.table → at_row t.name key.id (ys ++ edited ∷ []) ≡ map (edit_told tell t.name key.id) (edits key)
    own_row t same = subst (λ (u : Table). at_row u.name key.id (ys ++ edited ∷ []) ≡ map (edit_told tell u.name key.id) (edits key)) (sym same)
        (at_row_own has_name.table.name key.id ys edited (told_of_row tell has_name.table.name has_name.table.name key.id key.id content ∙ is_row_itself has_name.table.name key.id)
        ∙ (ap (λ (es : List (Edit Deed)). es ++ edited ∷ []) (reads.rows key has_name.table has_name.there ∙ sym (edits_stay key has_name.table.name key.id (kept.edits key) (kept.cells key)))
        ∙ (sym (map-append (edit_told tell has_name.table.name key.id) (kept.edits key) (made_now x s content ∷ []))
        ∙ ap (map (edit_told tell has_name.table.name key.id)) (sym (change.edits_here x s one some whole old new key kept free moved gone content changes is)))))

    other_row : (k : RowKey) (t : Table) → slice_get old.catalog k.table ≡ Some t → same_key k key ≡ false → at_row t.name k.id (ys ++ edited ∷ []) ≡ map (edit_told tell t.name k.id) (edits k)
    other_row k t there apart =
        at_row_other t.name k.id ys edited (told_of_row tell t.name has_name.table.name k.id key.id content ∙ by_row (is_row t.name k.id has_name.table.name key.id) refl)
        ∙ (reads.rows k t there
        ∙ (sym (edits_stay k t.name k.id (kept.edits k) (kept.cells k))
        ∙ ap (map (edit_told tell t.name k.id)) (sym (change.edits_other x s one some whole old new key kept free moved gone content changes is k apart))))
      where
        by_row : (b : Bool) → is_row t.name k.id has_name.table.name key.id ≡ b → b ≡ false
        by_row false same = refl
        by_row true same =
            let both = row_is t.name has_name.table.name k.id key.id same in
            let number = has_name.alone k.table t there both.0 in
            let tables : (k.table == key.table) ≡ true = grind (arith, nat_tests, number) in
            absurd (false≢true (sym apart ∙ rw (tables, (Decides-int_eq k.id key.id).1 both.1) refl))

    reads_after : (k : RowKey) (t : Table) → slice_get new.catalog k.table ≡ Some t → at_row t.name k.id (ys ++ edited ∷ []) ≡ map (edit_told tell t.name k.id) (edits k)
    reads_after k t there = by_test (same_key k key) refl
      where
        was : slice_get old.catalog k.table ≡ Some t
        was = subst (λ tables. slice_get tables k.table ≡ Some t) changes.catalog there

        by_test : (b : Bool) → same_key k key ≡ b → at_row t.name k.id (ys ++ edited ∷ []) ≡ map (edit_told tell t.name k.id) (edits k)
        by_test false apart = other_row k t was apart
        by_test true same =
            let is_key : k ≡ key = change.same_key_is k key same in
            let found : Some t ≡ Some has_name.table = sym was ∙ (ap (λ (j : RowKey). slice_get old.catalog j.table) is_key ∙ has_name.there) in
            subst (λ (j : RowKey). at_row t.name j.id (ys ++ edited ∷ []) ≡ map (edit_told tell t.name j.id) (edits j)) (sym is_key) (own_row t (some_is t has_name.table found))

    known_after : (name : List ℕ) (id : ℤ) → IsUnknown new name → at_row name id (ys ++ edited ∷ []) ≡ []
    known_after name id unknown = at_row_other name id ys edited (told_of_row tell name has_name.table.name id key.id content ∙ by_row (is_row name id has_name.table.name key.id) refl) ∙ known name id was
      where
        was : IsUnknown old name
        was = subst (λ tables. table_in name tables ≡ None) changes.catalog unknown

        by_row : (b : Bool) → is_row name id has_name.table.name key.id ≡ b → b ≡ false
        by_row false same = refl
        by_row true same = absurd (has_name.known name was (row_is name has_name.table.name id key.id same).0)

    pub stand_changed : HasCells tell key new content → (IsNoKey old key → ⊥) → StandFor x new (ys ++ edited ∷ [])
    stand_changed good there = record {
      kept = change.kept_changed x s one some whole old new key kept free moved gone content changes is good there;
      reads = record { rows = reads_after };
      known = known_after;
    }
