-- What tables do more in a transaction: one call after another, a table that is made, and a row that is put.
use Rattle.std.proofs.Common.{◌≡◌, ℕ, ℤ, Bool, true, false, cond, List, [], ◌∷◌, ◌++◌, length, Option, Some, None, refl, ap, sym, subst, ◌∙◌, arith, append-nil, append_assoc, length-append}
use Rattle.std.specs.Prelude.{bytes_eq, int_lt, nat_le, nat_lt}
use Rattle.std.proofs.lemmas.Bool.Decides.{nat_tests}
use Rattle.std.proofs.lemmas.List.Sorted.{IsPermutation-refl, length_permutation}
use Rattle.std.proofs.lemmas.Option.{none-some}
use Rattle.std.proofs.lemmas.Slice.Eq.{bytes_eq-Decides}
use Rattle.lo_base.specs.declared.column.Column.{Column}
use Rattle.lo_base.specs.declared.refusal.Refusal.{Refusal}
use Rattle.lo_base.specs.declared.reply.Reply.TheVariants.{Word}
use Rattle.lo_base.specs.declared.reply.Word.TheVariants as words
use Rattle.lo_base.specs.declared.value.Value.{Value}
use Rattle.lo_base.specs.declared.value.Value.TheVariants as values
use Rattle.lo_model.specs.declared.owner.Owner.{Owner}
use Rattle.lo_model.specs.declared.owner.Owner.TheVariants.{Running}
use Rattle.lo_model.specs.Database.{Table}
use Rattle.lo_model.specs.Edit.{Deed, Put, Edit, edits_by}
use Rattle.lo_model.specs.Opening as model
use Rattle.lo_model.specs.Row.{row_after_all}
use Rattle.lo_model.specs.Stored.{stored_anew}
use Rattle.lo_model.specs.Touch.{RowOf}
use Rattle.toast_plan.specs.Layout.{up_to_8}
use Rattle.toast_plan.specs.Choice.{planned_length}
use Rattle.toast_plan.specs.Row.{AreRowValues, value_lengths}
use Rattle.toast_plan.specs.Laws.{HasRow}
use Rattle.xact_core.specs.Transactions.{Transactions, levels_of}
use Rattle.row_tables.specs.declared.tables.Tables.{Tables}
use Rattle.row_tables.specs.Calls.{FitTable}
use Rattle.row_tables.specs.Catalog.{columns_in, most_tables, table_in}
use Rattle.row_tables.specs.Cursors.{HoldsRest, holds_of}
use Rattle.row_tables.specs.RowRules.{create_table_row, insert_row}
use Rattle.row_tables.specs.Standing.{StandFor, cursors_in, tables_in}
use Rattle.row_tables.specs.Terms.{first_of}
use Rattle.row_tables.specs.Values as rows
use Rattle.row_tables.specs.World.{Grants, Keeps, Refuses, World, here_of, world}
use Rattle.lo_opening.specs.declared.opening.TableData.{TableData}
use Rattle.lo_opening.specs.Opening.{id_follows, id_of, marks_of}
use Rattle.lo_restore.specs.Tables.{named_of}
use Rattle.lo_restore.specs.TablesRestored.{CanTakeRows, CanTakeTable, DoMore, HaveDone, IsAlone}
use Rattle.lo_restore.proofs.TableDeeds.{apart, edits_both, follows_both, own_free, row_of_none, row_seen, rows_both}

abbrev owner_of : Transactions → (s : ℕ) → Owner
owner_of x s = Running s (length (levels_of x s))

-- cursors that hold nothing hold nothing after a call that holds as much
no_holds : (x : Transactions) (old new : Tables) → HoldsRest x.held x.held (cursors_in old) (cursors_in new) → holds_of (cursors_in old) ≡ [] → holds_of (cursors_in new) ≡ []
no_holds x old new rest none =
    let more = rest.rest x.held (rw none (IsPermutation-refl x.held)) in
    let same : length (holds_of (cursors_in new) ++ x.held) ≡ length x.held = length_permutation _ _ more in
    is_none_of (holds_of (cursors_in new)) (omega (arith, same, length-append (holds_of (cursors_in new)) x.held))
  where
    is_none_of : {X : Type 0} (xs : List X) → length xs ≡ 0 → xs ≡ []
    is_none_of [] is = refl
    is_none_of (y ∷ ys) is = absurd (omega (arith, is))

-- one after another
pub do_both : (x : Transactions) (s : ℕ) (m n : List Table) (ds es : List Deed) (a b c : Tables) → DoMore x s m ds a b → DoMore x s n es b c → DoMore x s (m ++ n) (ds ++ es) a c
do_both x s m n ds es a b c first second = record {
  did = λ catalog done has.
      subst (λ (ts : List Table). HaveDone x s c ts (done ++ (ds ++ es))) (append_assoc catalog m n)
      (subst (λ (all : List Deed). HaveDone x s c ((catalog ++ m) ++ n) all) (append_assoc done ds es)
      (second.did (catalog ++ m) (done ++ ds) (first.did catalog done has)));
}

-- the three words for the id in front of a row
id_same : (vs : List Value) → rows.id_of vs ≡ model.id_of vs
id_same [] = refl
id_same (values.Null ∷ vs) = refl
id_same (values.Int n ∷ vs) = refl
id_same (values.Oid n ∷ vs) = refl
id_same (values.Bytes bytes ∷ vs) = refl

pub id_same' : (vs : List Value) → model.id_of vs ≡ id_of vs
id_same' [] = refl
id_same' (values.Null ∷ vs) = refl
id_same' (values.Int n ∷ vs) = refl
id_same' (values.Oid n ∷ vs) = refl
id_same' (values.Bytes bytes ∷ vs) = refl

-- a row's put, as the list has it, and as the call has it

abbrev pub put_of : TableData → List Value → Deed
put_of t vs = Put t.name (model.id_of vs) vs (stored_anew 0 (marks_of t.columns vs))

abbrev put_at : TableData → List Value → (clock : ℕ) → (id : ℤ) → Option Table → Deed
put_at t vs clock id o = Put t.name id vs (stored_anew clock (marks_of (columns_in o) vs))

module _ (x : Transactions) (s : ℕ) (alone : IsAlone x s) where
  -- a table that is made

  module _ (old : Tables) (t : TableData) (can : CanTakeTable x s old t) where
    abbrev ys : List (Edit Deed)
    ys = edits_by x.clock (owner_of x s) can.deeds

    fresh_here : table_in t.name (tables_in old) ≡ None
    fresh_here = ap (table_in t.name) can.done.catalog ∙ can.fresh

    table_granted : first_of (create_table_row t.name t.columns (here_of (world x old s) ys)).refusals ≡ None
    table_granted =
        let fresh = fresh_here in
        let few : nat_le most_tables (length (tables_in old)) ≡ false = rw can.done.catalog (grind (arith, nat_tests, can.few)) in
        let others = alone.others in
        rw (fresh, few, others) refl

    pub table_unrefused : (name : List ℕ) (columns : List Column) → name ≡ t.name → columns ≡ t.columns → (r : Refusal) (w : World) → Refuses (create_table_row name columns) (world x old s) w r → ⊥
    table_unrefused name columns named same r w refuses =
        let refused = subst (λ (n : List ℕ). Refuses (create_table_row n t.columns) (world x old s) w r) named (subst (λ (cs : List Column). Refuses (create_table_row name cs) (world x old s) w r) same refuses) in
        none-some r (sym table_granted ∙ refused.first ys can.done.stand)

  pub table_made : (old new : Tables) (t : TableData) → Grants (create_table_row t.name t.columns) (world x old s) (world x new s) (Word words.CreateTable) → Keeps (world x old s) (world x new s) → DoMore x s (named_of t ∷ []) [] old new
  table_made old new t grants keeps = record {
    did = λ catalog done has.
        let granted = grants.granted (edits_by x.clock (owner_of x s) done) has.stand in
        record {
          stand = subst (λ (ds : List Deed). StandFor x new (edits_by x.clock (owner_of x s) ds)) (sym (append-nil done)) (subst (StandFor x new) (append-nil (edits_by x.clock (owner_of x s) done)) granted.edits);
          catalog = granted.tables ∙ ap (λ (ts : List Table). ts ++ named_of t ∷ []) has.catalog;
          ready = keeps.ready;
          cursors = no_holds x old new keeps.holds has.cursors;
        };
  }

  -- the same for a copy of its name and columns
  pub copy_made : (old new : Tables) (t : TableData) (name : List ℕ) (columns : List Column) → name ≡ t.name → columns ≡ t.columns → Grants (create_table_row name columns) (world x old s) (world x new s) (Word words.CreateTable) → Keeps (world x old s) (world x new s) → DoMore x s (named_of t ∷ []) [] old new
  copy_made old new t name columns named same grants keeps =
      table_made old new t (subst (λ (n : List ℕ). Grants (create_table_row n t.columns) (world x old s) (world x new s) (Word words.CreateTable)) named (subst (λ (cs : List Column). Grants (create_table_row name cs) (world x old s) (world x new s) (Word words.CreateTable)) same grants)) keeps

  found_last : (name : List ℕ) (ts : List Table) (t : Table) → t.name ≡ name → table_in name ts ≡ None → table_in name (ts ++ t ∷ []) ≡ Some t
  found_last name [] t named none = let same : bytes_eq t.name name ≡ true = (bytes_eq-Decides t.name name).1 named in rw same refl
  found_last name (u ∷ us) t named none = by (bytes_eq u.name name) refl none (found_last name us t named)
    where
      by : (b : Bool) → bytes_eq u.name name ≡ b → cond b (Some u) (table_in name us) ≡ None → (table_in name us ≡ None → table_in name (us ++ t ∷ []) ≡ Some t) → cond b (Some u) (table_in name (us ++ t ∷ [])) ≡ Some t
      by true is here rest = absurd (none-some u (sym here))
      by false is here rest = rest here

  pub rows_next : (old new : Tables) (t : TableData) → CanTakeTable x s old t → DoMore x s (named_of t ∷ []) [] old new → CanTakeRows x s new t t.rows
  rows_next old new t can more =
      let done = more.did can.catalog can.deeds can.done in
      let unknown : table_in t.name (tables_in old) ≡ None = ap (table_in t.name) can.done.catalog ∙ can.fresh in
      record {
        catalog = can.catalog ++ named_of t ∷ [];
        deeds = can.deeds ++ [];
        done = done;
        there = ap (table_in t.name) done.catalog ∙ found_last t.name can.catalog (named_of t) refl can.fresh;
        follow = record {
          table = can.number;
          value = can.value;
          last = None;
          are = can.is.rows;
          fresh = λ id follows. ap (row_after_all t.name id None) (append-nil can.deeds) ∙ row_of_none x.clock (owner_of x s) t.name id can.deeds (can.done.stand.known t.name id unknown);
        };
      }

  -- a row that is put

  module _ (old : Tables) (t : TableData) (vs : List Value) (left : List (List Value)) (can : CanTakeRows x s old t (vs ∷ left)) where
    abbrev is_row_here : HasRow t.columns can.follow.table can.follow.value vs
    is_row_here = can.follow.are.0.row

    abbrev here : List (Edit Deed)
    here = edits_by x.clock (owner_of x s) can.deeds

    pub row_fits : FitTable old t.name vs
    row_fits u is = subst (λ (cs : List Column). AreRowValues cs vs) (columns_same (named_of t) u (sym can.there ∙ is)) is_row_here.values_are
      where
        columns_same : (a b : Table) → Some a ≡ Some b → a.columns ≡ b.columns
        columns_same a b same = ap (λ (o : Option Table). columns_in o) same

    absent : row_after_all t.name (rows.id_of vs) None can.deeds ≡ None
    absent = can.follow.fresh (rows.id_of vs) (ap (id_follows can.follow.last) (id_same vs ∙ id_same' vs) ∙ can.follow.are.1)

    row_granted : first_of (insert_row t.name vs (here_of (world x old s) here)).refusals ≡ None
    row_granted =
        let there = can.there in
        let none = row_seen x.clock s (length (levels_of x s)) t.name (rows.id_of vs) can.deeds ∙ absent in
        let short : nat_lt 8160 (up_to_8 (planned_length t.columns (value_lengths vs))) ≡ false = grind (arith, nat_tests, is_row_here.fits) in
        let free = own_free x.clock s (length (levels_of x s)) (RowOf t.name (rows.id_of vs)) can.deeds in
        rw (there, none, short, free) refl

    pub row_unrefused : (r : Refusal) (w : World) → Refuses (insert_row t.name vs) (world x old s) w r → ⊥
    row_unrefused r w refuses = none-some r (sym row_granted ∙ refuses.first here can.done.stand)

  pub row_put : (old new : Tables) (t : TableData) (vs : List Value) → table_in t.name (tables_in old) ≡ Some (named_of t) → Grants (insert_row t.name vs) (world x old s) (world x new s) (Word words.Insert) → Keeps (world x old s) (world x new s) → DoMore x s [] (put_of t vs ∷ []) old new
  row_put old new t vs there grants keeps = record {
    did = λ catalog done has.
        let granted = grants.granted (edits_by x.clock (owner_of x s) done) has.stand in
        record {
          stand = subst (StandFor x new) (put_same done) granted.edits;
          catalog = granted.tables ∙ (has.catalog ∙ sym (append-nil catalog));
          ready = keeps.ready;
          cursors = no_holds x old new keeps.holds has.cursors;
        };
  }
    where
      deed_same : put_at t vs x.clock (rows.id_of vs) (table_in t.name (tables_in old)) ≡ put_of t vs
      deed_same = ap (λ (c : ℕ). put_at t vs c (rows.id_of vs) (table_in t.name (tables_in old))) alone.time ∙ (ap (λ (i : ℤ). put_at t vs 0 i (table_in t.name (tables_in old))) (id_same vs) ∙ ap (put_at t vs 0 (model.id_of vs)) there)

      put_same : (done : List Deed) → edits_by x.clock (owner_of x s) done ++ edits_by x.clock (owner_of x s) (put_at t vs x.clock (rows.id_of vs) (table_in t.name (tables_in old)) ∷ []) ≡ edits_by x.clock (owner_of x s) (done ++ put_of t vs ∷ [])
      put_same done = ap (λ (d : Deed). edits_by x.clock (owner_of x s) done ++ edits_by x.clock (owner_of x s) (d ∷ [])) deed_same ∙ sym (edits_both x.clock (owner_of x s) done (put_of t vs ∷ []))

  pub rows_after : (old new : Tables) (t : TableData) (vs : List Value) (left : List (List Value)) → CanTakeRows x s old t (vs ∷ left) → DoMore x s [] (put_of t vs ∷ []) old new → CanTakeRows x s new t left
  rows_after old new t vs left can more =
      let done = more.did can.catalog can.deeds can.done in
      record {
        catalog = can.catalog ++ [];
        deeds = can.deeds ++ put_of t vs ∷ [];
        done = done;
        there = ap (table_in t.name) (done.catalog ∙ (append-nil can.catalog ∙ sym can.done.catalog)) ∙ can.there;
        follow = record {
          table = can.follow.table;
          value = _;
          last = Some (id_of vs);
          are = can.follow.are.2;
          fresh = λ id follows.
              let less : int_lt (model.id_of vs) id ≡ true = ap (λ (i : ℤ). int_lt i id) (id_same' vs) ∙ follows in
              let other = apart t.name (model.id_of vs) id less in
              rows_both t.name id None can.deeds (put_of t vs ∷ []) ∙ (rw other (can.follow.fresh id (follows_both can.follow.last (id_of vs) id can.follow.are.1 follows)));
        };
      }
