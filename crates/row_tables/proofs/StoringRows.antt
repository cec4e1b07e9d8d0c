-- Rows of a table that are stored anew one after another: each is found as it was at first, and the tables stand for one put
-- more of each.
use Rattle.std.proofs.Common.{◌≡◌, ◌≢◌, ℕ, zero, suc, ℤ, pos, ◌<◌, inl, inr, Bool, true, false, cond, List, [], ◌∷◌, ◌++◌, length, Option, refl, ap, sym, subst, ◌∙◌, arith, append-nil, append_assoc}
use Rattle.std.specs.Prelude.{◌&&◌, FitsSigned, bytes_eq, get_or, slice_get, take}
use Rattle.std.specs.Int.{w64}
use Rattle.std.specs.List.{AllByRecursion}
use Rattle.std.specs.List.Sorted.{IsStrictlySortedBy}
use Rattle.std.specs.Ordering.{int_cmp, int_eq}
use Rattle.std.specs.declared.cmp.Ordering.TheVariants.{Equal, Less}
use Rattle.std.proofs.lemmas.Bool.{false_from_ne_true}
use Rattle.std.proofs.lemmas.Bool.Decides.{Decides-int_eq}
use Rattle.std.proofs.lemmas.Cmp.{int_cmp_total, tied_itself}
use Rattle.std.proofs.lemmas.List.Elements.{filter-append}
use Rattle.lo_base.specs.declared.column.Column.{Column}
use Rattle.lo_base.specs.declared.value.Cell.{Cell}
use Rattle.lo_base.specs.declared.value.Value.{Value}
use Rattle.lo_model.specs.declared.owner.Owner.{Owner}
use Rattle.lo_model.specs.declared.owner.Owner.TheVariants.{Running}
use Rattle.lo_model.specs.Edit.{Deed, Edit, edits_by}
use Rattle.lo_model.specs.Row.{Row, is_row, row_in}
use Rattle.lo_model.specs.View.{view}
use Rattle.toast_plan.specs.Columns.{IsTableColumns}
use Rattle.xact_core.specs.declared.snapshot.Snapshot.{Snapshot}
use Rattle.xact_core.specs.Kept.{HoldsWholeViews, current}
use Rattle.xact_core.specs.Transactions.{Transactions, levels_of}
use Rattle.xact_core.proofs.KeptViews.{whole_kept}
use Rattle.row_versions.specs.Found.{finds}
use Rattle.row_versions.specs.Looks.{IsLook}
use Rattle.row_versions.specs.Search.{busy_at}
use Rattle.row_versions.specs.Stack.{Each}
use Rattle.row_versions.specs.Stands.{Version, lowest_other, made_now, standing}
use Rattle.toast_chunks.proofs.Steps.{left_more, left_none, own_more, own_same}
use Rattle.row_tables.specs.declared.row_key.RowKey.{RowKey}
use Rattle.row_tables.specs.declared.tables.Tables.{Tables}
use Rattle.row_tables.specs.Calls.{IsTable}
use Rattle.row_tables.specs.Catalog.{AreTables, columns_in, number_in, table_in}
use Rattle.row_tables.specs.Cells.{values_told}
use Rattle.row_tables.specs.Keys.{key_cmp, row_key}
use Rattle.row_tables.specs.Rewriting.{AreThere, IsThere, SameKinds, StoresAnew, StoresRows}
use Rattle.row_tables.specs.RewriteRules.{puts_anew, values_of}
use Rattle.row_tables.specs.Row.{Here}
use Rattle.row_tables.specs.RowRules.{put_anew, values_in}
use Rattle.row_tables.specs.Standing.{Go, GoWith, IsNoKey, StandFor, at_row, cells_at, is_of_row, versions_of}
use Rattle.row_tables.specs.Values.{id_of}
use Rattle.row_tables.specs.World.{LeavesOwn, here_of, world}
use Rattle.row_tables.proofs.EachOf.{each_left, each_right}
use Rattle.row_tables.proofs.JudgingRows.{row_cells}
use Rattle.row_tables.proofs.Owning.{first_session, has_own_name}
use Rattle.row_tables.proofs.RowEdits.{row_in_own, view_of_row}
use Rattle.row_tables.proofs.Seeing.{row_there}
use Rattle.row_tables.proofs.StoringAnew.{id_there, kept_anew, stand_anew}

-- what calls leave

pub leaves_none : (x : Transactions) (s : ℕ) (tables : Tables) → LeavesOwn x s tables tables
leaves_none x s tables = record { rows = λ key. own_same x s (versions_of tables key) (versions_of tables key) refl; chunks = left_none x s tables.chunks; catalog = refl; cursors = refl }

pub leaves_both : (x : Transactions) (s : ℕ) (old mid new : Tables) → LeavesOwn x s old mid → LeavesOwn x s mid new → LeavesOwn x s old new
leaves_both x s old mid new first then = record {
  rows = λ key. own_more x s (versions_of old key) (versions_of mid key) (versions_of new key) (first.rows key) (then.rows key);
  chunks = left_more x s old.chunks mid.chunks new.chunks first.chunks then.chunks;
  catalog = then.catalog ∙ first.catalog;
  cursors = then.cursors ∙ first.cursors;
}

-- a row of the same versions is found and held as before

pub found_same : (x : Transactions) (v : Snapshot) (old new : Tables) (key : RowKey) → versions_of new key ≡ versions_of old key → cells_at x v new key ≡ cells_at x v old key
found_same x v old new key same = ap (finds x v) same

pub busy_same : (x : Transactions) (s : ℕ) (old new : Tables) (key : RowKey) → versions_of new key ≡ versions_of old key → busy_at key_cmp x s new.rows key ≡ busy_at key_cmp x s old.rows key
busy_same x s old new key same = ap (λ (vs : List (Version (Option (List Cell)))). lowest_other s (standing x vs)) same

pub there_same : (x : Transactions) (s : ℕ) (old new : Tables) (key : RowKey) (columns : List Column) → versions_of new key ≡ versions_of old key → IsThere x s old key columns → IsThere x s new key columns
there_same x s old new key columns same is = record {
  row = is.row;
  found = found_same x (current x s) old new key same ∙ is.found;
  small = is.small;
  free = busy_same x s old new key same ∙ is.free;
}

-- the same tables

pub table_same : (old new : Tables) (name : List ℕ) (number : ℕ) → new.catalog ≡ old.catalog → IsTable old name number → IsTable new name number
table_same old new name number same is = record {
  table = is.table;
  is = ap (number_in name) same ∙ is.is;
  there = ap (λ tables. slice_get tables number) same ∙ is.there;
  named = is.named;
  found = ap (table_in name) same ∙ is.found;
}

-- ascending ids: each is none of those before it

abbrev pub Misses : ℤ → List ℤ → Type 0
Misses id ids = Each (λ (other : ℤ). other ≢ id) ids

above_all : (a : ℤ) (ids : List ℤ) (i : ℕ) → i < length ids → AllByRecursion (λ b. int_cmp a b ≡ Less) ids → int_cmp a (get_or ids i (pos 0)) ≡ Less
above_all a [] i within all = absurd (omega (arith, within))
above_all a (b ∷ ids) zero within all = all.0
above_all a (b ∷ ids) (suc i) within all = above_all a ids i (omega (arith, within)) all.1

not_less : (a : ℤ) → int_cmp a a ≡ Less → ⊥
not_less a less = let itself = tied_itself int_cmp_total a in let both : Equal ≡ Less = sym itself ∙ less in grind (arith, both)

pub none_before : (ids : List ℤ) (i : ℕ) → IsStrictlySortedBy int_cmp ids → i < length ids → Misses (get_or ids i (pos 0)) (take i ids)
unfolding IsStrictlySortedBy
none_before ids zero order within = tt
none_before [] (suc i) order within = tt
none_before (a ∷ ids) (suc i) order within = ((λ same. not_less a (ap (int_cmp a) same ∙ above_all a ids i (omega (arith, within)) order.0)), none_before ids i order.1 (omega (arith, within)))

-- puts of other rows

module _ (name : List ℕ) (columns : List Column) (here : Here) (clock : ℕ) (owner : Owner) where
  abbrev pub puts : List ℤ → List (Edit Deed)
  puts ids = edits_by clock owner (puts_anew name columns here ids)

  abbrev pub IsId : ℤ → Type 0
  IsId id = id_of (values_of name here id) ≡ id

  pub puts_elsewhere : (id : ℤ) (ids : List ℤ) → Each IsId ids → Misses id ids → at_row name id (puts ids) ≡ []
  puts_elsewhere id [] are apart = refl
  puts_elsewhere id (other ∷ ids) are apart = ap (λ (b : Bool). cond b (record { clock = clock; owner = owner; deed = put_anew here.clock name columns (values_of name here other) } ∷ at_row name id (puts ids)) (at_row name id (puts ids))) not_here ∙ puts_elsewhere id ids are.1 apart.1
    where
      by_name : (a b : Bool) → b ≡ false → (a && b) ≡ false
      by_name true b none = none
      by_name false b none = refl

      not_here : is_row name id name (id_of (values_of name here other)) ≡ false
      not_here = by_name (bytes_eq name name) (int_eq id (id_of (values_of name here other))) (false_from_ne_true (int_eq id (id_of (values_of name here other))) (λ same. apart.0 (sym are.0 ∙ sym ((Decides-int_eq id (id_of (values_of name here other))).0 same))))

  pub puts_more : (ids : List ℤ) (id : ℤ) → puts (ids ++ id ∷ []) ≡ puts ids ++ record { clock = clock; owner = owner; deed = put_anew here.clock name columns (values_of name here id) } ∷ []
  puts_more [] id = refl
  puts_more (other ∷ ids) id = ap (λ (es : List (Edit Deed)). record { clock = clock; owner = owner; deed = put_anew here.clock name columns (values_of name here other) } ∷ es) (puts_more ids id)

  -- what a view has of the row with these edits and without them
  pub row_spared : (v : Snapshot) (id : ℤ) (ids : List ℤ) (ys : List (Edit Deed)) → Each IsId ids → Misses id ids → row_in name id (view v.clock v.viewer (ys ++ puts ids)) ≡ row_in name id (view v.clock v.viewer ys)
  row_spared v id ids ys are apart = own (ys ++ puts ids) ∙ (ap (λ (es : List (Edit Deed)). row_in name id (view v.clock v.viewer es)) at_same ∙ sym (own ys))
    where
      own : (zs : List (Edit Deed)) → row_in name id (view v.clock v.viewer zs) ≡ row_in name id (view v.clock v.viewer (at_row name id zs))
      own zs = row_in_own name id (view v.clock v.viewer zs) ∙ ap (row_in name id) (view_of_row name id v.clock v.viewer zs)

      at_same : at_row name id (ys ++ puts ids) ≡ at_row name id ys
      at_same = filter-append (λ (e : Edit Deed). is_of_row name id e.deed) ys (puts ids) ∙ (ap (λ (es : List (Edit Deed)). at_row name id ys ++ es) (puts_elsewhere id ids are apart) ∙ append-nil (at_row name id ys))

-- before and after one row more

pub stores_none : (x : Transactions) (s number : ℕ) (columns : List Column) (tables : Tables) → GoWith x tables → StoresRows x s number columns [] tables tables
stores_none x s number columns tables goes = record {
  kept = goes.kept;
  stores = goes.stores;
  left = leaves_none x s tables;
  others = λ id misses. refl;
  stands = λ name is ys stand. subst (StandFor x tables) (sym (append-nil ys)) stand;
}

module _ (x : Transactions) (s : ℕ) (some : 0 < length (levels_of x s)) (views : HoldsWholeViews x) (number : ℕ) (columns : List Column) (can : IsTableColumns columns) (old : Tables) (are : AreTables old.catalog) (within : number < length old.catalog) (kinds : SameKinds (columns_in (slice_get old.catalog number)) columns) where
  look : IsLook x (current x s)
  look = whole_kept x s some

  -- the ids stand in front of the values
  ids_are : (name : List ℕ) (is : IsTable old name number) (ys : List (Edit Deed)) → StandFor x old ys → (ids : List ℤ) → AreThere x s old number columns ids → Each (λ (id : ℤ). id_of (values_of name (here_of (world x old s) ys) id) ≡ id) ids
  ids_are name is ys stand [] there = tt
  ids_are name is ys stand (id ∷ ids) there = (
    ap (λ (row : Option Row). id_of (values_in row)) (row_there x old ys stand name number is id (current x s) look there.0.1.row there.0.1.found) ∙ id_there id (values_told stand.kept.told there.0.1.row) (row_cells x (current x s) old stand.kept look (row_key number id) there.0.1.row there.0.1.found).id,
    ids_are name is ys stand ids there.1,
  )

  module _ (done : List ℤ) (there_done : AreThere x s old number columns done) (now new : Tables) (so_far : StoresRows x s number columns done old now) (id : ℤ) (fits : FitsSigned w64 id) (apart : Misses id done) (there : IsThere x s old (row_key number id) columns) (anew : StoresAnew x s (row_key number id) columns now new) where
    same_tables : now.catalog ≡ old.catalog
    same_tables = so_far.left.catalog

    there_now : IsThere x s now (row_key number id) columns
    there_now = there_same x s old now (row_key number id) columns (so_far.others id apart) there

    kinds_now : SameKinds (columns_in (slice_get now.catalog number)) columns
    kinds_now = subst (λ tables. SameKinds (columns_in (slice_get tables number)) columns) (sym same_tables) kinds

    can_be : IsNoKey now (row_key number id) → ⊥
    can_be (inl high) = let count : length now.catalog ≡ length old.catalog = ap length same_tables in omega (arith, high, within, count)
    can_be (inr unfit) = unfit fits

    others_new : (other : ℤ) → Misses other (done ++ id ∷ []) → versions_of new (row_key number other) ≡ versions_of old (row_key number other)
    others_new other misses = anew.changes.version.others (row_key number other) (λ same. (each_right (λ (i : ℤ). i ≢ other) done (id ∷ []) misses).0 (sym (ap (λ (k : RowKey). k.id) same))) ∙ so_far.others other (each_left (λ (i : ℤ). i ≢ other) done (id ∷ []) misses)

    stands_new : (name : List ℕ) → IsTable old name number → (ys : List (Edit Deed)) → StandFor x old ys → StandFor x new (ys ++ edits_by x.clock (Running s (length (levels_of x s))) (puts_anew name columns (here_of (world x old s) ys) (done ++ id ∷ [])))
    stands_new name is ys stand =
        let here = here_of (world x old s) ys in
        let owner = Running s (length (levels_of x s)) in
        let zs = ys ++ puts name columns here x.clock owner done in
        let stand_now : StandFor x now zs = so_far.stands name is ys stand in
        let is_now = table_same old now name number same_tables is in
        let are_now = subst AreTables (sym same_tables) are in
        let stands = stand_anew x s (first_session x s some) some views now new (row_key number id) columns can kinds_now anew there_now.free stand_now.kept (has_own_name now name number id is_now are_now) zs stand_now.reads stand_now.known can_be in
        let values_same : values_told stand_now.kept.told anew.row ≡ values_of name here id = ap values_in (sym (row_there x now zs stand_now name number is_now id (current x s) look anew.row anew.found) ∙ row_spared name columns here x.clock owner (current x s) id done ys (ids_are name is ys stand done there_done) apart) in
        subst (StandFor x new) (append_assoc ys (puts name columns here x.clock owner done) _ ∙ ap (λ (es : List (Edit Deed)). ys ++ es) (sym (puts_more name columns here x.clock owner done id)))
        (subst (λ (vs : List Value). StandFor x new (zs ++ made_now x s (put_anew x.clock name columns vs) ∷ [])) values_same
        (subst (λ (t : List ℕ). StandFor x new (zs ++ made_now x s (put_anew x.clock t columns (values_told stand_now.kept.told anew.row)) ∷ [])) is_now.named stands))

    pub stores_more : Go x new → LeavesOwn x s now new → StoresRows x s number columns (done ++ id ∷ []) old new
    stores_more go left = record {
      kept = kept_anew x s (first_session x s some) some views now new (row_key number id) columns can kinds_now anew there_now.free so_far.kept can_be;
      stores = go;
      left = leaves_both x s old now new so_far.left left;
      others = others_new;
      stands = stands_new;
    }
