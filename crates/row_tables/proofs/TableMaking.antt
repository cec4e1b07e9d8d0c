-- A table that is made beside others: which refusal comes first, and what the tables stand for with it.
use Rattle.std.proofs.Common.{◌≡◌, ◌<◌, ◌≤◌, ℕ, zero, suc, ◌+◌, pos, Bool, true, false, cond, List, [], ◌∷◌, ◌++◌, length, map, Option, Some, None, refl, ap, sym, subst, ◌∙◌, arith, inl, inr, ⊎_elim, append-nil}
use Rattle.std.specs.Prelude.{bytes_eq, is_some, slice_get, nat_le}
use Rattle.std.specs.Option.{unwrap_or}
use Rattle.std.proofs.lemmas.Bool.{false≢true, true≢false}
use Rattle.std.proofs.lemmas.Bool.Decides.{nat_tests}
use Rattle.std.proofs.lemmas.List.Elements.{All-weaker}
use Rattle.lo_base.specs.declared.column.Column.{Column}
use Rattle.lo_base.specs.declared.refusal.Cause.TheVariants.{TableExists, TooManyTables, Busy}
use Rattle.lo_base.specs.declared.refusal.Denied.TheVariants.{By}
use Rattle.lo_base.specs.declared.refusal.Refusal.{Refusal}
use Rattle.lo_base.specs.declared.reply.Reply.TheVariants.{Word}
use Rattle.lo_base.specs.declared.reply.Word.TheVariants as words
use Rattle.lo_base.specs.declared.value.Cell.{Cell}
use Rattle.lo_model.specs.Database.{Table}
use Rattle.lo_model.specs.Edit.{Deed, Edit}
use Rattle.xact_core.specs.Transactions.{Transactions}
use Rattle.xact_core.proofs.KeptViews.{held_kept}
use Rattle.row_versions.specs.Stack.{Each}
use Rattle.row_tables.specs.declared.catalog.Catalog.{Catalog}
use Rattle.toast_chunks.specs.Values.{next_number}
use Rattle.row_tables.specs.declared.row_key.RowKey.{RowKey}
use Rattle.row_tables.specs.declared.tables.Tables.{Tables}
use Rattle.row_tables.specs.Catalog.{columns_in, most_tables, number_in, table_in}
use Rattle.row_tables.specs.Cells.{AreCells, Told}
use Rattle.row_tables.specs.RowRules.{create_table_row}
use Rattle.row_tables.specs.Standing.{HasCells, IsNoKey, Kept, StandFor, at_row, edit_told}
use Rattle.row_tables.specs.Terms.{first_of, held_by_session, refusal, when}
use Rattle.row_tables.specs.World.{Denies, Grants, HasTable, IsReady, Keeps, other_open, world}
use Rattle.row_tables.proofs.Naming.{none_there, numbered}

-- refusals

module _ (name : List ℕ) (columns : List Column) (x : Transactions) (tables : Tables) (s : ℕ) where
  abbrev terms : List (Option Refusal)
  terms = when (is_some (table_in name tables.catalog)) TableExists (pos 0) ∷ when (nat_le most_tables (length tables.catalog)) TooManyTables (pos most_tables) ∷ held_by_session (other_open x s) ∷ []

  denied_by : (r : Refusal) → first_of terms ≡ Some r → Denies (create_table_row name columns) (world x tables s) (world x tables s) (By r)
  denied_by r first = record { first = λ ys stand. first; same = refl }

  pub table_exists : (found : Option ℕ) → found ≡ number_in name tables.catalog → is_some found ≡ true → Denies (create_table_row name columns) (world x tables s) (world x tables s) (By (refusal TableExists (pos 0)))
  table_exists found is there =
      let some : is_some (table_in name tables.catalog) ≡ true = sym (numbered 0 name tables.catalog) ∙ (ap is_some (sym is) ∙ there) in
      denied_by (refusal TableExists (pos 0)) (ap (λ b. first_of (when b TableExists (pos 0) ∷ when (nat_le most_tables (length tables.catalog)) TooManyTables (pos most_tables) ∷ held_by_session (other_open x s) ∷ [])) some)

  module _ (found : Option ℕ) (is : found ≡ number_in name tables.catalog) (there : is_some found ≡ false) where
    new_name : is_some (table_in name tables.catalog) ≡ false
    new_name = sym (numbered 0 name tables.catalog) ∙ (ap is_some (sym is) ∙ there)

    after_name : first_of terms ≡ first_of (when (nat_le most_tables (length tables.catalog)) TooManyTables (pos most_tables) ∷ held_by_session (other_open x s) ∷ [])
    after_name = ap (λ b. first_of (when b TableExists (pos 0) ∷ when (nat_le most_tables (length tables.catalog)) TooManyTables (pos most_tables) ∷ held_by_session (other_open x s) ∷ [])) new_name

    pub too_many : most_tables ≤ length tables.catalog → Denies (create_table_row name columns) (world x tables s) (world x tables s) (By (refusal TooManyTables (pos most_tables)))
    too_many many =
        let full : nat_le most_tables (length tables.catalog) ≡ true = grind (arith, nat_tests, many) in
        denied_by (refusal TooManyTables (pos most_tables)) (after_name ∙ ap (λ b. first_of (when b TooManyTables (pos most_tables) ∷ held_by_session (other_open x s) ∷ [])) full)

    module _ (few : length tables.catalog < most_tables) where
      after_number : first_of terms ≡ first_of (held_by_session (other_open x s) ∷ [])
      after_number =
          let room : nat_le most_tables (length tables.catalog) ≡ false = grind (arith, nat_tests, few) in
          after_name ∙ ap (λ b. first_of (when b TooManyTables (pos most_tables) ∷ held_by_session (other_open x s) ∷ [])) room

      pub is_busy : (t : ℕ) → other_open x s ≡ Some t → Denies (create_table_row name columns) (world x tables s) (world x tables s) (By (refusal Busy (pos t)))
      is_busy t other = denied_by (refusal Busy (pos t)) (after_number ∙ ap (λ (o : Option ℕ). first_of (held_by_session o ∷ [])) other)

      pub unrefused : other_open x s ≡ None → first_of terms ≡ None
      unrefused other = after_number ∙ ap (λ (o : Option ℕ). first_of (held_by_session o ∷ [])) other

-- a table more

table_more : (name : List ℕ) (tables : List Table) (t : Table) → is_some (table_in name tables) ≡ true → is_some (table_in name (tables ++ t ∷ [])) ≡ true
table_more name [] t is = absurd (false≢true is)
table_more name (u ∷ us) t is = by (bytes_eq u.name name) is (table_more name us t)
  where
    by : (same : Bool) → is_some (cond same (Some u) (table_in name us)) ≡ true → (is_some (table_in name us) ≡ true → is_some (table_in name (us ++ t ∷ [])) ≡ true) → is_some (cond same (Some u) (table_in name (us ++ t ∷ []))) ≡ true
    by true here rest = refl
    by false here rest = rest here

unknown_less : (name : List ℕ) (tables : List Table) (t : Table) → table_in name (tables ++ t ∷ []) ≡ None → table_in name tables ≡ None
unknown_less name [] t none = refl
unknown_less name (u ∷ us) t none = by (bytes_eq u.name name) none (unknown_less name us t)
  where
    by : (same : Bool) → cond same (Some u) (table_in name (us ++ t ∷ [])) ≡ None → (table_in name (us ++ t ∷ []) ≡ None → table_in name us ≡ None) → cond same (Some u) (table_in name us) ≡ None
    by true here rest = absurd (true≢false (ap is_some here))
    by false here rest = rest here

-- the place of a table is that of one of the others, or the new one's
data Place (tables : List Table) (t : Table) (n : ℕ) : Type 0 where
  Among : n < length tables → slice_get (tables ++ t ∷ []) n ≡ slice_get tables n → Place tables t n
  Last : length tables ≤ n → ((u : Table) → slice_get (tables ++ t ∷ []) n ≡ Some u → u ≡ t) → Place tables t n

place_of : (tables : List Table) (t : Table) (n : ℕ) → Place tables t n
place_of [] t zero = Last (omega arith) (λ u is. ap (λ (o : Option Table). unwrap_or o t) (sym is))
place_of [] t (suc n) = Last (omega arith) (λ u is. absurd (false≢true (ap is_some is)))
place_of (u ∷ us) t zero = Among (omega arith) refl
place_of (u ∷ us) t (suc n) = on (place_of us t n)
  where
    on : Place us t n → Place (u ∷ us) t (suc n)
    on (Among low is) = Among (omega arith) is
    on (Last high is) = Last (omega arith) is

length_more : (tables : List Table) (t : Table) → length (tables ++ t ∷ []) ≡ length tables + 1
length_more [] t = refl
length_more (u ∷ us) t = let rest = length_more us t in omega arith

each_none : {X : Type 0} (P : X → Type 0) (xs : List X) → xs ≡ [] → Each P xs
each_none P xs is = subst (Each P) (sym is) tt

each_weaker : {X : Type 0} (P Q : X → Type 0) → ((y : X) → P y → Q y) → (xs : List X) → Each P xs → Each Q xs
each_weaker P Q on [] each = tt
each_weaker P Q on (y ∷ ys) each = (on y each.0, each_weaker P Q on ys each.1)

-- at a key of a table that was there the columns stay, and at any other there are no edits

data KeyPlace (old new : Tables) (key : RowKey) : Type 0 where
  Own : slice_get new.catalog key.table ≡ slice_get old.catalog key.table → KeyPlace old new key
  Beyond : IsNoKey old key → KeyPlace old new key

key_place : (old new : Tables) (t : Table) (key : RowKey) → new.catalog ≡ old.catalog ++ t ∷ [] → KeyPlace old new key
key_place old new t key added = by (place_of old.catalog t key.table)
  where
    by : Place old.catalog t key.table → KeyPlace old new key
    by (Among low is) = Own (ap (λ (l : List Table). slice_get l key.table) added ∙ is)
    by (Last high is) = Beyond (inl high)

module _ (x : Transactions) (old : Tables) (catalog : Catalog) (t : Table) (added : catalog ≡ old.catalog ++ t ∷ []) where
  abbrev new : Tables
  new = record { alloc = old.alloc; catalog = catalog; rows = old.rows; chunks = old.chunks; cursors = old.cursors }

  same_cells : (told : ℕ → Told) (key : RowKey) → slice_get catalog key.table ≡ slice_get old.catalog key.table → (content : Option (List Cell)) → HasCells told key old content → HasCells told key new content
  same_cells told key same None has = tt
  same_cells told key same (Some row) has = subst (λ (o : Option Table). AreCells told key (next_number old.chunks) (columns_in o) row) (sym same) has

  pub kept_more : Kept x old → Kept x new
  kept_more kept = record {
    told = kept.told;
    edits = kept.edits;
    rows = kept.rows;
    alike = kept.alike;
    values = kept.values;
    cells = λ key. cells key (key_place old new t key added);
    none = λ key unfit. kept.none key (unfit_before key unfit);
  }
    where
      cells : (key : RowKey) → KeyPlace old new key → Each (λ (e : Edit (Option (List Cell))). HasCells kept.told key new e.deed) (kept.edits key)
      cells key (Own same) = each_weaker (λ (e : Edit (Option (List Cell))). HasCells kept.told key old e.deed) (λ (e : Edit (Option (List Cell))). HasCells kept.told key new e.deed) (λ e has. same_cells kept.told key same e.deed has) (kept.edits key) (kept.cells key)
      cells key (Beyond unfit) = each_none (λ (e : Edit (Option (List Cell))). HasCells kept.told key new e.deed) (kept.edits key) (kept.none key unfit)

      unfit_before : (key : RowKey) → IsNoKey new key → IsNoKey old key
      unfit_before key unfit = ⊎_elim (λ past. inl (let long = length_more old.catalog t in let same = ap (λ (l : List Table). length l) added in omega arith)) inr unfit

  module _ (ys : List (Edit Deed)) (stand : StandFor x old ys) (fresh : table_in t.name old.catalog ≡ None) where
    reads_more : (key : RowKey) (table : Table) → slice_get catalog key.table ≡ Some table → at_row table.name key.id ys ≡ map (edit_told stand.kept.told table.name key.id) (stand.kept.edits key)
    reads_more key table there = by (place_of old.catalog t key.table)
      where
        by : Place old.catalog t key.table → at_row table.name key.id ys ≡ map (edit_told stand.kept.told table.name key.id) (stand.kept.edits key)
        by (Among low is) = stand.reads.rows key table (sym is ∙ (ap (λ (l : List Table). slice_get l key.table) (sym added) ∙ there))
        by (Last high is) =
            let own : table ≡ t = is table (ap (λ (l : List Table). slice_get l key.table) (sym added) ∙ there) in
            ap (λ (u : Table). at_row u.name key.id ys) own ∙ (stand.known t.name key.id fresh ∙ sym (ap (map (edit_told stand.kept.told table.name key.id)) (stand.kept.none key (inl high))))

    pub stand_more : StandFor x new ys
    unfolding kept_more
    stand_more = record {
      kept = kept_more stand.kept;
      reads = record { rows = reads_more };
      known = λ name id unknown. stand.known name id (unknown_less name old.catalog t (ap (table_in name) (sym added) ∙ unknown));
    }

  pub ready_more : (s : ℕ) → IsReady (world x old s) → IsReady (world x new s)
  ready_more s ready = record {
    whole = ready.whole;
    goes = record { stores = record { rows = ready.goes.stores.rows; chunks = ready.goes.stores.chunks }; kept = kept_more ready.goes.kept };
    cursors = ready.cursors;
    named = All-weaker (HasTable old) (HasTable new) (λ c has. ap (λ (l : List Table). is_some (table_in c.table l)) added ∙ table_more c.table old.catalog t has) old.cursors.entries.items ready.named;
  }

  pub keeps_more : (s : ℕ) → IsReady (world x old s) → Keeps (world x old s) (world x new s)
  keeps_more s ready = record {
    ready = ready_more s ready;
    session = refl;
    cursors = λ u other. refl;
    others = record { rest = refl; kept = held_kept x };
    holds = record { rest = λ others same. same };
    views = omega arith;
  }

  pub grants_more : (s : ℕ) (name : List ℕ) (columns : List Column) → t ≡ record { name = name; columns = columns } → (found : Option ℕ) → found ≡ number_in name old.catalog → is_some found ≡ false → length old.catalog < most_tables → other_open x s ≡ None → Grants (create_table_row name columns) (world x old s) (world x new s) (Word words.CreateTable)
  grants_more s name columns own found is there few other = record {
    granted = λ ys stand. record {
      unrefused = unrefused name columns x old s found is there few other;
      answer = refl;
      edits = subst (StandFor x new) (sym (append-nil ys)) (stand_more ys stand (ap (λ (u : Table). table_in u.name old.catalog) own ∙ none_there (table_in name old.catalog) (sym (numbered 0 name old.catalog) ∙ (ap is_some (sym is) ∙ there))));
      tables = added ∙ ap (λ (u : Table). old.catalog ++ u ∷ []) own;
      cursors = refl;
    };
  }
