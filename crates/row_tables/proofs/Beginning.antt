-- Tables with no rows, no chunks and no cursors stand for no edits.
use Rattle.std.proofs.Common.{◌≡◌, ℕ, pos, List, [], ◌∷◌, Option, None, refl, sym, subst}
use Rattle.lo_base.specs.declared.value.Cell.{Cell}
use Rattle.lo_model.specs.Edit.{Edit}
use Rattle.xact_core.specs.Transactions.{Transactions}
use Rattle.row_versions.specs.Found.{given}
use Rattle.row_versions.specs.Stands.{Version, BusyAlike, Stands, replaces, standing}
use Rattle.row_versions.specs.Store.{GoesWith}
use Rattle.row_versions.proofs.Laws.{stands_none}
use Rattle.toast_chunks.specs.Standing.{chunk_left}
use Rattle.toast_chunks.specs.Values as chunks
use Rattle.row_tables.specs.declared.row_key.RowKey.{RowKey}
use Rattle.row_tables.specs.declared.tables.Tables.{Tables}
use Rattle.row_tables.specs.Cells.{Told}
use Rattle.row_tables.specs.Keys.{key_cmp, row_key}
use Rattle.row_tables.specs.Standing.{GoWith, Kept, StandFor, gives, versions_of}

-- nothing is told of any value
untold : ℕ → Told
untold n = record { bytes = []; moved = 0; home = row_key 0 (pos 0) }

no_edits : RowKey → List (Edit (Option (List Cell)))
no_edits key = []

module _ (x : Transactions) (tables : Tables) (rows : (key : RowKey) → versions_of tables key ≡ []) (none : chunks.HasNone tables.chunks) where
  abbrev kept_none : Kept x tables
  unfolding no_edits
  kept_none = record {
    told = untold;
    edits = no_edits;
    rows = λ key. subst (λ (vs : List (Version (Option (List Cell)))). Stands {E = Option (List Cell)} x given (replaces given) None vs []) (sym (rows key)) (stands_none given (replaces given) None x);
    alike = λ key. subst (λ (vs : List (Version (Option (List Cell)))). BusyAlike {E = Option (List Cell)} (standing x vs ∷ []) []) (sym (rows key)) (record { alike = λ viewer. refl });
    values = λ n. record { chunk = λ k. subst (λ (vs : List (Version (Option (List ℕ)))). Stands {E = Option (List Cell)} x given (replaces (chunk_left (gives untold n) k)) None vs []) (sym (none.none n k)) (stands_none given (replaces (chunk_left (gives untold n) k)) None x) };
    cells = λ key. tt;
    none = λ key no. refl;
  }

  pub none_stands : StandFor x tables []
  unfolding no_edits
  none_stands = record { kept = kept_none; reads = record { rows = λ key table there. refl }; known = λ name id unknown. refl }

  pub none_goes : GoesWith key_cmp x tables.rows → chunks.GoWith x tables.chunks → GoWith x tables
  none_goes goes go = record { stores = record { rows = goes; chunks = go }; kept = kept_none }
