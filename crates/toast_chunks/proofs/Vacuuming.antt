-- A vacuum of chunks, and chunks without versions.
use Rattle.std.proofs.Common.{◌≡◌, ℕ, List, [], Option, ap, ◌∙◌}
use Rattle.xact_core.specs.declared.snapshot.Snapshot.{Snapshot}
use Rattle.xact_core.specs.Transactions.{Transactions}
use Rattle.row_versions.specs.Found.{is_erasure}
use Rattle.row_versions.specs.Looks.{IsLook}
use Rattle.row_versions.specs.Search.{finds_at}
use Rattle.row_versions.specs.Stands.{Version, vacuumed}
use Rattle.row_versions.specs.Store.{versions_at, GoesWith}
use Rattle.row_versions.specs.declared.store.Store.{Store}
use Rattle.toast_chunks.specs.declared.chunk_key.ChunkKey.{ChunkKey}
use Rattle.toast_chunks.specs.declared.chunks.Chunks.{Chunks}
use Rattle.toast_chunks.specs.Keys.{key_cmp, chunk_key}
use Rattle.toast_chunks.specs.Values.{GoWith, HasValue}

none_left : {D : Type 0} (x : Transactions) (vs : List (Version (Option D))) → vs ≡ [] → vacuumed is_erasure x vs ≡ []
none_left x vs is = ap (vacuumed is_erasure x) is

module _ (x : Transactions) (old : Chunks) (q : Store ChunkKey (List ℕ)) where
  pub vacuum_goes : ((key : ChunkKey) → versions_at key_cmp q key ≡ vacuumed is_erasure x (versions_at key_cmp old.versions key)) → GoesWith key_cmp x q → GoWith x old → GoWith x (record old { versions = q })
  vacuum_goes all goes go = record {
    versions = goes;
    fresh = λ n k more. all (chunk_key n k) ∙ none_left x _ (go.fresh n k more);
    small = λ n k more. all (chunk_key n k) ∙ none_left x _ (go.small n k more);
  }

  pub vacuum_reads : ((key : ChunkKey) (v : Snapshot) → IsLook x v → finds_at key_cmp x v q key ≡ finds_at key_cmp x v old.versions key) → (v : Snapshot) (value : ℕ) (bytes : List ℕ) → IsLook x v → HasValue x v old value bytes → HasValue x v (record old { versions = q }) value bytes
  vacuum_reads finds v value bytes kept has = record { chunk = λ k. finds (chunk_key value k) v kept ∙ has.chunk k }

pub empty_goes : (x : Transactions) (chunks : Chunks) → ((key : ChunkKey) → versions_at key_cmp chunks.versions key ≡ []) → GoesWith key_cmp x chunks.versions → GoWith x chunks
empty_goes x chunks none goes = record { versions = goes; fresh = λ n k more. none (chunk_key n k); small = λ n k more. none (chunk_key n k) }
