-- Why a rewrite is refused, and that one that stored all rows anew and gave the table its new columns is granted.
use Rattle.std.proofs.Common.{◌≡◌, ℕ, ℤ, ◌<◌, List, [], ◌∷◌, ◌++◌, length, Option, Some, None, refl, ap, sym, subst, ◌∙◌, arith}
use Rattle.std.specs.Prelude.{All, slice_get}
use Rattle.lo_base.specs.declared.column.Column.{Column}
use Rattle.lo_base.specs.declared.refusal.Denied.{Denied}
use Rattle.lo_base.specs.declared.refusal.Denied.TheVariants.{By, NoMemory}
use Rattle.lo_base.specs.declared.refusal.Refusal.{Refusal}
use Rattle.lo_base.specs.declared.reply.Reply.TheVariants.{Counted}
use Rattle.lo_base.specs.declared.reply.Word.TheVariants as words
use Rattle.lo_model.specs.declared.owner.Owner.TheVariants.{Running}
use Rattle.lo_model.specs.Edit.{Deed, Edit, edits_by}
use Rattle.lo_model.specs.Listing.{ids_in}
use Rattle.lo_model.specs.Touch.{RowsOf}
use Rattle.xact_core.specs.Kept.{current}
use Rattle.xact_core.specs.Transactions.{Transactions, levels_of}
use Rattle.xact_core.proofs.KeptViews.{whole_kept}
use Rattle.row_versions.specs.Looks.{IsLook}
use Rattle.row_tables.specs.declared.cursors.Cursor.{Cursor}
use Rattle.row_tables.specs.declared.tables.Tables.{Tables}
use Rattle.row_tables.specs.Calls.{IsTable}
use Rattle.row_tables.specs.Catalog.{columns_in, number_in, with_columns}
use Rattle.row_tables.specs.Cursors.{own_cursors}
use Rattle.row_tables.specs.Reading.{ListsIds}
use Rattle.row_tables.specs.Rewriting.{DeniesStorages, HasNewColumns, IsFreeTable, IsHeldTable, SameKinds, StoresRows, first_too_big}
use Rattle.row_tables.specs.RewriteRules.{puts_anew, rewrite_row, some_too_big, storage_refusals, tables_rewritten, with_storages}
use Rattle.row_tables.specs.Row.{Here}
use Rattle.row_tables.specs.RowRules.{columns_here}
use Rattle.row_tables.specs.Standing.{Go, StandFor}
use Rattle.row_tables.specs.Terms.{busy_for, first_of}
use Rattle.row_tables.specs.World.{Denies, Grants, HasTable, IsGranted, IsReady, Keeps, Refuses, here_of, world}
use Rattle.row_tables.proofs.Granting.{same_cursors, same_holds, same_named, same_rest}
use Rattle.row_tables.proofs.HeldRows.{table_free, table_held}
use Rattle.row_tables.proofs.Judging.{columns_are, table_known}
use Rattle.row_tables.proofs.JudgingRows.{big_is}
use Rattle.row_tables.proofs.NewColumns.{go_new, kept_new, named_new, stand_new}
use Rattle.row_tables.proofs.RowReads.{ids_told}
use Rattle.row_tables.proofs.Storages.{first_here, first_later, kinds_kept}
use Rattle.row_tables.proofs.StoringRows.{leaves_none}

module _ (x : Transactions) (tables : Tables) (s : ℕ) (some : 0 < length (levels_of x s)) (name : List ℕ) (number : ℕ) (is : IsTable tables name number) (storages : List Column) where
  look : IsLook x (current x s)
  look = whole_kept x s some

  abbrev was : List Column
  was = is.table.columns

  abbrev columns : List Column
  columns = with_storages storages was

  abbrev here : List (Edit Deed) → Here
  here ys = here_of (world x tables s) ys

  -- the terms after those of the storages
  abbrev later : List (Edit Deed) → List Column → List (Option Refusal)
  later ys new = some_too_big name new (here ys) (ids_in name (here ys).view) ∷ busy_for (here ys) (RowsOf name) ∷ []

  terms_are : (ys : List (Edit Deed)) → first_of (rewrite_row name storages (here ys)).refusals ≡ first_of (storage_refusals 1 was storages ++ later ys columns)
  terms_are ys =
      ap (λ (term : Option Refusal). first_of (term ∷ (storage_refusals 1 (columns_here (here ys) name) storages ++ later ys (with_storages storages (columns_here (here ys) name))))) (table_known x tables s (current x s) look name number is ys)
      ∙ ap (λ (cs : List Column). first_of (storage_refusals 1 cs storages ++ later ys (with_storages storages cs))) (columns_are x tables s (current x s) look name number is ys)

  pub refused_storage : (r : Refusal) → first_of (storage_refusals 1 was storages) ≡ Some r → Refuses (rewrite_row name storages) (world x tables s) (world x tables s) r
  refused_storage r judged = record {
    first = λ ys stand. terms_are ys ∙ first_here (storage_refusals 1 was storages) (later ys columns) r judged;
    same = refl;
  }

  pub denied_storages : Go x tables → (d : Denied) → DeniesStorages was storages d → Denies (rewrite_row name storages) (world x tables s) (world x tables s) d
  denied_storages go (By r) judged = refused_storage r judged
  denied_storages go NoMemory judged = record { left = leaves_none x s tables; stores = go; xacts = refl }

  module _ (judged : first_of (storage_refusals 1 was storages) ≡ None) (ids : List ℤ) (lists : ListsIds x (current x s) tables number ids) where
    ids_are : (ys : List (Edit Deed)) → StandFor x tables ys → ids ≡ ids_in name (here ys).view
    ids_are ys stand = ids_told x (current x s) tables name number is look ys stand ids lists

    left_are : (ys : List (Edit Deed)) → StandFor x tables ys → first_of (rewrite_row name storages (here ys)).refusals ≡ first_of (first_too_big x (current x s) tables number columns ids ∷ busy_for (here ys) (RowsOf name) ∷ [])
    left_are ys stand =
        terms_are ys
        ∙ (first_later (storage_refusals 1 was storages) (later ys columns) judged
        ∙ ap (λ (term : Option Refusal). first_of (term ∷ busy_for (here ys) (RowsOf name) ∷ [])) (ap (some_too_big name columns (here ys)) (sym (ids_are ys stand)) ∙ big_is x tables s (current x s) look name number is ys stand columns ids lists))

    pub refused_big : (r : Refusal) → first_too_big x (current x s) tables number columns ids ≡ Some r → Refuses (rewrite_row name storages) (world x tables s) (world x tables s) r
    refused_big r big = record {
      first = λ ys stand. left_are ys stand ∙ ap (λ (term : Option Refusal). first_of (term ∷ busy_for (here ys) (RowsOf name) ∷ [])) big;
      same = refl;
    }

    module _ (small : first_too_big x (current x s) tables number columns ids ≡ None) where
      last_is : (ys : List (Edit Deed)) → StandFor x tables ys → first_of (rewrite_row name storages (here ys)).refusals ≡ first_of (busy_for (here ys) (RowsOf name) ∷ [])
      last_is ys stand = left_are ys stand ∙ ap (λ (term : Option Refusal). first_of (term ∷ busy_for (here ys) (RowsOf name) ∷ [])) small

      pub refused_busy : (r : Refusal) → IsHeldTable x s tables number r → Refuses (rewrite_row name storages) (world x tables s) (world x tables s) r
      refused_busy r held = record {
        first = λ ys stand. last_is ys stand ∙ ap (λ (term : Option Refusal). first_of (term ∷ [])) (table_held x tables s name number is ys stand r held);
        same = refl;
      }

      module _ (ready : IsReady (world x tables s)) (free : IsFreeTable x s tables number) (mid new : Tables) (stores : StoresRows x s number columns ids tables mid) (has : HasNewColumns number columns mid new) where
        kinds : SameKinds (columns_in (slice_get mid.catalog number)) columns
        kinds = subst (λ (cs : List Column). SameKinds cs columns) (sym (ap (λ catalog. columns_in (slice_get catalog number)) stores.left.catalog ∙ ap columns_in is.there)) (kinds_kept storages was)

        cursors_same : new.cursors.entries.items ≡ tables.cursors.entries.items
        cursors_same = ap (λ cursors. cursors.entries.items) has.cursors ∙ stores.left.cursors

        tables_are : (ys : List (Edit Deed)) → new.catalog ≡ (rewrite_row name storages (here ys)).granted.tables
        tables_are ys =
            has.catalog
            ∙ (ap (with_columns number columns) stores.left.catalog
            ∙ (ap (tables_rewritten name columns tables.catalog) (sym is.is)
            ∙ ap (λ (cs : List Column). tables_rewritten name (with_storages storages cs) tables.catalog (number_in name tables.catalog)) (sym (columns_are x tables s (current x s) look name number is ys))))

        edits_are : (ys : List (Edit Deed)) → StandFor x tables ys → StandFor x new (ys ++ edits_by x.clock (Running s (length (levels_of x s))) (rewrite_row name storages (here ys)).granted.deeds)
        edits_are ys stand =
            subst (λ (deeds : List Deed). StandFor x new (ys ++ edits_by x.clock (Running s (length (levels_of x s))) deeds))
            (ap (puts_anew name columns (here ys)) (ids_are ys stand) ∙ ap (λ (cs : List Column). puts_anew name (with_storages storages cs) (here ys) (ids_in name (here ys).view)) (sym (columns_are x tables s (current x s) look name number is ys)))
            (stand_new x number columns mid new kinds has (ys ++ edits_by x.clock (Running s (length (levels_of x s))) (puts_anew name columns (here ys) ids)) (stores.stands name is ys stand))

        granted : (ys : List (Edit Deed)) → StandFor x tables ys → IsGranted (rewrite_row name storages (here ys)) (world x tables s) (world x new s) (Counted words.Rewrite (length ids)) ys
        granted ys stand = record {
          unrefused = last_is ys stand ∙ ap (λ (term : Option Refusal). first_of (term ∷ [])) (table_free x tables s name number is ys stand free);
          answer = ap (λ (is : List ℤ). Counted words.Rewrite (length is)) (ids_are ys stand);
          edits = edits_are ys stand;
          tables = tables_are ys;
          cursors = ap (own_cursors s) cursors_same;
        }

        pub rewrites : Grants (rewrite_row name storages) (world x tables s) (world x new s) (Counted words.Rewrite (length ids))
        rewrites = record { granted = granted }

        named : All (HasTable new) new.cursors.entries.items
        named = subst (λ (entries : List Cursor). All (HasTable new) entries) (sym (ap (λ cursors. cursors.entries.items) has.cursors)) (named_new x number columns mid new kinds has (same_named tables mid stores.left.catalog stores.left.cursors ready.named))

        pub rewrite_keeps : Keeps (world x tables s) (world x new s)
        rewrite_keeps = record {
          ready = record {
            whole = ready.whole;
            goes = record { stores = go_new x number columns mid new kinds has stores.stores; kept = kept_new x number columns mid new kinds has stores.kept };
            cursors = same_cursors x tables.cursors new.cursors cursors_same ready.cursors;
            named = named;
          };
          session = refl;
          cursors = λ t other. ap (own_cursors t) cursors_same;
          others = same_holds x;
          holds = same_rest x tables.cursors new.cursors cursors_same;
          views = omega arith;
        }
