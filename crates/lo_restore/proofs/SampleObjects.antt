-- The objects of the tests keep the rules of an opening, and pages without objects can take them.
use Rattle.std.proofs.Common.{ℕ, List, [], ◌∷◌, refl, arith, lit≤}
use Rattle.std.specs.Prelude.{replicate}
use Rattle.std.proofs.lemmas.List.{length-replicate}
use Rattle.lo_model.specs.Edit.{Deed, Edit}
use Rattle.lo_model.specs.Levels.{committed}
use Rattle.lo_model.specs.View.{view}
use Rattle.lo_opening.specs.Opening.{IsBlock, IsObject}
use Rattle.lo_pages.specs.declared.pages.Pages.{Pages}
use Rattle.lo_pages.specs.Standing.{StandFor}
use Rattle.lo_pages.proofs.Standing.{reads_as, stand_committed}
use Rattle.row_versions.specs.Calls.{Commits}
use Rattle.row_versions.specs.Looks.{IsLook}
use Rattle.xact_core.specs.declared.snapshot.Snapshot.{Snapshot}
use Rattle.xact_core.specs.Transactions.{Transactions}
use Rattle.lo_restore.specs.Objects.{AreOpened, IsFresh, Reads}
use Rattle.lo_restore.specs.Tries.{sample_objects}

full_of_a : IsBlock 10000 (1, replicate 2048 65)
full_of_a = record { number = omega arith; below = lit≤ tt; bytes = length-replicate {A = ℕ} 2048 65; written = refl }

full_of_b : IsBlock 10000 (3, replicate 2048 66)
full_of_b = record { number = omega arith; below = lit≤ tt; bytes = length-replicate {A = ℕ} 2048 66; written = refl }

with_blocks : IsObject 0 (record { oid = 16384; size = 10000; stored = (1, replicate 2048 65) ∷ (3, replicate 2048 66) ∷ [] })
with_blocks = record { least = lit≤ tt; most = lit≤ tt; size = lit≤ tt; stored = (full_of_a, lit≤ tt, (full_of_b, lit≤ tt, tt)); fits = lit≤ tt }

empty : IsObject 3 (record { oid = 16385; size = 0; stored = [] })
empty = record { least = lit≤ tt; most = lit≤ tt; size = lit≤ tt; stored = tt; fits = lit≤ tt }

of_zeros : IsObject 3 (record { oid = 16390; size = 5000; stored = [] })
of_zeros = record { least = lit≤ tt; most = lit≤ tt; size = lit≤ tt; stored = tt; fits = lit≤ tt }

pub objects_opened : AreOpened sample_objects
objects_opened = record { held = 0; are = (with_blocks, lit≤ tt, (empty, lit≤ tt, (of_zeros, lit≤ tt, tt))) }

-- pages once what stood in them was committed

pub reads_committed : (s : ℕ) (old new : Transactions) (pages : Pages) (ys : List (Edit Deed)) (v : Snapshot) → Commits s old new → StandFor old pages ys → IsLook new v → Reads new v pages
reads_committed s old new pages ys v commits stand look = record {
  edits = view v.clock v.viewer (committed s old.clock ys);
  reads = reads_as new pages (committed s old.clock ys) v (stand_committed s old new pages ys commits stand) look;
}

pub fresh_pages : (x : Transactions) (s : ℕ) (pages : Pages) → StandFor x pages [] → IsFresh x s 0 pages
fresh_pages x s pages stand = record { edits = []; stand = stand; free = refl; absent = λ o low. refl }
