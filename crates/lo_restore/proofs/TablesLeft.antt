-- What stands between the turns of the loops over tables and over rows: what was done, and what is left of the list.
use Rattle.std.proofs.Common.{◌≡◌, ◌≤◌, ℕ, ◌+◌, Bool, true, false, cond, List, [], ◌∷◌, ◌++◌, length, map, Option, Some, None, refl, ap, sym, subst, ◌∙◌, arith, append-nil, append_assoc}
use Rattle.std.specs.Prelude.{bytes_eq}
use Rattle.std.specs.Cmp.Lexicographic.{slice_cmp}
use Rattle.std.specs.Ordering.{nat_cmp, ordering_reverse}
use Rattle.std.specs.declared.cmp.Ordering.TheVariants.{Less, Greater}
use Rattle.std.proofs.lemmas.Cmp.{nat_list_cmp_total}
use Rattle.std.proofs.lemmas.List.{length_push}
use Rattle.std.proofs.lemmas.Option.{none-some}
use Rattle.std.proofs.lemmas.Slice.Eq.{bytes_eq-Decides}
use Rattle.lo_base.specs.declared.reply.Reply.TheVariants.{Word}
use Rattle.lo_base.specs.declared.reply.Word.TheVariants as words
use Rattle.lo_base.specs.declared.value.Value.{Value}
use Rattle.lo_model.specs.Database.{Table}
use Rattle.lo_model.specs.Edit.{Deed}
use Rattle.lo_model.specs.Opening.{table_deeds}
use Rattle.xact_core.specs.Transactions.{Transactions}
use Rattle.row_versions.specs.declared.base.Core.{Core}
use Rattle.row_tables.specs.declared.tables.Tables.{Tables}
use Rattle.row_tables.specs.Catalog.{table_in}
use Rattle.row_tables.specs.RowRules.{insert_row}
use Rattle.row_tables.specs.World.{Grants, Keeps, world}
use Rattle.lo_opening.specs.declared.opening.TableData.{TableData}
use Rattle.lo_opening.specs.Opening.{AreTables, NameFollows, marks_of}
use Rattle.lo_restore.specs.Tables.{deeds_in, named_of, row_deeds, rows_of}
use Rattle.lo_restore.specs.TablesRestored.{CanTakeRows, CanTakeTable, DoMore, HaveDone, IsAlone, TablesFollow}
use Rattle.lo_restore.proofs.TablesAdded.{do_both, put_of, row_put, rows_after}

-- rows of a table

pub record RowsDone (x : Transactions) (s : ℕ) (t : TableData) (old now : Tables) (left : List (List Value)) : Type 0 where
  pub deeds : List Deed
  pub all : deeds ++ row_deeds t.name t.columns left ≡ table_deeds marks_of (rows_of t)
  pub did : DoMore x s [] deeds old now
  pub can : CanTakeRows x s now t left

pub do_nothing : (x : Transactions) (s : ℕ) (a : Tables) → DoMore x s [] [] a a
do_nothing x s a = record {
  did = λ catalog done has.
      subst (λ (ts : List Table). HaveDone x s a ts (done ++ [])) (sym (append-nil catalog))
      (subst (λ (ds : List Deed). HaveDone x s a catalog ds) (sym (append-nil done)) has);
}

pub rows_begin : (x : Transactions) (s : ℕ) (t : TableData) (old : Tables) → CanTakeRows x s old t t.rows → RowsDone x s t old old t.rows
rows_begin x s t old can = record { deeds = []; all = refl; did = do_nothing x s old; can = can }

pub rows_turn : (x : Transactions) (s : ℕ) (t : TableData) (old now new : Tables) (vs : List Value) (left : List (List Value)) → IsAlone x s → RowsDone x s t old now (vs ∷ left) → Grants (insert_row t.name vs) (world x now s) (world x new s) (Word words.Insert) → Keeps (world x now s) (world x new s) → RowsDone x s t old new left
rows_turn x s t old now new vs left alone done grants keeps =
    let more = row_put x s alone now new t vs done.can.there grants keeps in
    record {
      deeds = done.deeds ++ put_of t vs ∷ [];
      all = append_assoc done.deeds (put_of t vs ∷ []) (row_deeds t.name t.columns left) ∙ done.all;
      did = do_both x s [] [] done.deeds (put_of t vs ∷ []) old now new done.did more;
      can = rows_after x s alone now new t vs left done.can more;
    }

-- the same where the call says that the transactions are as they were
pub rows_step : (k next : Core) (s : ℕ) (t : TableData) (old now new : Tables) (vs row : List Value) (left : List (List Value)) → next ≡ k → row ≡ vs → IsAlone k.xacts s → RowsDone k.xacts s t old now (vs ∷ left) → Grants (insert_row t.name row) (world k.xacts now s) (world next.xacts new s) (Word words.Insert) → Keeps (world k.xacts now s) (world next.xacts new s) → RowsDone next.xacts s t old new left
rows_step k next s t old now new vs row left same is alone done grants keeps =
    subst (λ (c : Core). RowsDone c.xacts s t old new left) (sym same)
    (rows_turn k.xacts s t old now new vs left alone done
    (subst (λ (c : Core). Grants (insert_row t.name vs) (world k.xacts now s) (world c.xacts new s) (Word words.Insert)) same
    (subst (λ (r : List Value). Grants (insert_row t.name r) (world k.xacts now s) (world next.xacts new s) (Word words.Insert)) is grants))
    (subst (λ (c : Core). Keeps (world k.xacts now s) (world c.xacts new s)) same keeps))

pub rows_end : (x : Transactions) (s : ℕ) (t : TableData) (old now : Tables) → RowsDone x s t old now [] → DoMore x s [] (table_deeds marks_of (rows_of t)) old now
rows_end x s t old now done = subst (λ (ds : List Deed). DoMore x s [] ds old now) (sym (append-nil done.deeds) ∙ done.all) done.did

-- tables of a list

pub record TablesDone (x : Transactions) (s : ℕ) (list : List TableData) (now : Tables) (left : List TableData) : Type 0 where
  pub catalog : List Table
  pub deeds : List Deed
  pub all_tables : catalog ++ map named_of left ≡ map named_of list
  pub all_deeds : deeds ++ deeds_in left ≡ deeds_in list
  pub done : HaveDone x s now catalog deeds
  pub follow : TablesFollow catalog left
  pub few : length catalog + length left ≤ 1000

pub tables_begin : (x : Transactions) (s : ℕ) (list : List TableData) (old : Tables) → HaveDone x s old [] [] → AreTables None 1 1 list → length list ≤ 1000 → TablesDone x s list old list
tables_begin x s list old has are few = record {
  catalog = [];
  deeds = [];
  all_tables = refl;
  all_deeds = refl;
  done = has;
  follow = record { number = 1; value = 1; last = None; are = are; fresh = λ name follows. refl };
  few = omega (arith, few);
}

pub table_next : (x : Transactions) (s : ℕ) (list : List TableData) (now : Tables) (t : TableData) (left : List TableData) → TablesDone x s list now (t ∷ left) → CanTakeTable x s now t
table_next x s list now t left done = record {
  catalog = done.catalog;
  deeds = done.deeds;
  done = done.done;
  fresh = done.follow.fresh t.name done.follow.are.1;
  few = omega (arith, done.few);
  number = done.follow.number;
  value = done.follow.value;
  is = done.follow.are.0;
}

-- a name behind a name that follows the last one

follows_on : (last : Option (List ℕ)) (name next : List ℕ) → NameFollows last name → slice_cmp nat_cmp name next ≡ Less → NameFollows last next
follows_on None name next first second = tt
follows_on (Some l) name next first second = nat_list_cmp_total.trans l name next first second

pub not_itself_named : (name : List ℕ) → slice_cmp nat_cmp name name ≡ Less → ⊥
not_itself_named name is = turns (sym is ∙ (nat_list_cmp_total.antisymm name name ∙ ap ordering_reverse is))
  where
    turns : Less ≡ Greater → ⊥
    turns e = cc

pub not_named : (name next : List ℕ) → slice_cmp nat_cmp name next ≡ Less → bytes_eq name next ≡ false
not_named name next less = by (bytes_eq name next) refl
  where
    by : (b : Bool) → bytes_eq name next ≡ b → b ≡ false
    by false is = refl
    by true is = absurd (not_itself_named name (ap (slice_cmp nat_cmp name) ((bytes_eq-Decides name next).0 is) ∙ less))

fresh_more : (name : List ℕ) (ts : List Table) (t : Table) → table_in name ts ≡ None → bytes_eq t.name name ≡ false → table_in name (ts ++ t ∷ []) ≡ None
fresh_more name [] t none other = rw other refl
fresh_more name (u ∷ us) t none other = by (bytes_eq u.name name) none (λ rest. fresh_more name us t rest other)
  where
    by : (b : Bool) → cond b (Some u) (table_in name us) ≡ None → (table_in name us ≡ None → table_in name (us ++ t ∷ []) ≡ None) → cond b (Some u) (table_in name (us ++ t ∷ [])) ≡ None
    by true here rest = absurd (none-some u (sym here))
    by false here rest = rest here

pub tables_turn : (x : Transactions) (s : ℕ) (list : List TableData) (now new : Tables) (t : TableData) (left : List TableData) → TablesDone x s list now (t ∷ left) → DoMore x s (named_of t ∷ []) (table_deeds marks_of (rows_of t)) now new → TablesDone x s list new left
tables_turn x s list now new t left done more = record {
  catalog = done.catalog ++ named_of t ∷ [];
  deeds = done.deeds ++ table_deeds marks_of (rows_of t);
  all_tables = append_assoc done.catalog (named_of t ∷ []) (map named_of left) ∙ done.all_tables;
  all_deeds = append_assoc done.deeds (table_deeds marks_of (rows_of t)) (deeds_in left) ∙ done.all_deeds;
  done = more.did done.catalog done.deeds done.done;
  follow = record {
    number = _;
    value = _;
    last = Some t.name;
    are = done.follow.are.2;
    fresh = λ name less. fresh_more name done.catalog (named_of t) (done.follow.fresh name (follows_on done.follow.last t.name name done.follow.are.1 less)) (not_named t.name name less);
  };
  few = let longer = length_push done.catalog (named_of t) in omega (arith, longer, done.few);
}

pub tables_end : (x : Transactions) (s : ℕ) (list : List TableData) (now : Tables) → TablesDone x s list now [] → HaveDone x s now (map named_of list) (deeds_in list)
tables_end x s list now done =
    subst (λ (ts : List Table). HaveDone x s now ts (deeds_in list)) (sym (append-nil done.catalog) ∙ done.all_tables)
    (subst (λ (ds : List Deed). HaveDone x s now done.catalog ds) (sym (append-nil done.deeds) ∙ done.all_deeds) done.done)
