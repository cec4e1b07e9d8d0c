-- The body of a vacuum of one key, step by step.
use Rattle.std.specs.Prelude.{Bool, false, not, ◌&&◌, ◌||◌, List, [], ◌∷◌, map, Option, if◌then◌else◌}
use Rattle.std.specs.List.{list_any}
use Rattle.xact_core.specs.declared.snapshot.Snapshot.{Snapshot}
use Rattle.xact_core.specs.Stamp.{owner_of, sees_stamp}
use Rattle.xact_core.specs.Transactions.{Transactions}
use Rattle.row_versions.specs.declared.chain.Entry.{Entry}
use Rattle.row_versions.specs.Found.{is_erasure}
use Rattle.row_versions.specs.Stands.{Version, is_gone}

abbrev pub version_of : {D : Type 0} → Entry D → Version (Option D)
version_of e = record { stamp = e.stamp; deed = e.content }

abbrev pub versions_of : {D : Type 0} → List (Entry D) → List (Version (Option D))
versions_of es = map version_of es

abbrev pub is_needed : {D : Type 0} → Entry D → Bool
is_needed e = e.needed

abbrev pub flagged : {D : Type 0} → Bool → Entry D → Entry D
flagged needed e = record { stamp = e.stamp; content = e.content; needed = needed }

abbrev pub cleared : {D : Type 0} → Entry D → Entry D
cleared e = flagged false e

abbrev pub sees_any : {D : Type 0} → Transactions → Snapshot → List (Entry D) → Bool
sees_any {D} x v es = list_any (λ (e : Entry D). sees_stamp x v e.stamp) es

-- what a view sees last has its mark
abbrev pub marked : {D : Type 0} → Transactions → Snapshot → List (Entry D) → List (Entry D)
marked x v [] = []
marked x v (e ∷ es) = flagged (e.needed || (sees_stamp x v e.stamp && not (sees_any x v es))) e ∷ marked x v es

abbrev pub marked_by : {D : Type 0} → Transactions → List Snapshot → List (Entry D) → List (Entry D)
marked_by x [] es = es
marked_by x (v ∷ vs) es = marked_by x vs (marked x v es)

abbrev pub gone_at : {D : Type 0} → Transactions → Entry D → Bool
gone_at x e = is_gone is_erasure (owner_of x e.stamp) e.content

-- those in front that have a mark and are gone lose it
abbrev pub unmarked : {D : Type 0} → Transactions → List (Entry D) → List (Entry D)
unmarked x [] = []
unmarked x (e ∷ es) = if e.needed then (if gone_at x e then cleared e ∷ unmarked x es else e ∷ es) else e ∷ unmarked x es
