-- What an opening means tells the opening.
use Rattle.std.proofs.Common.{◌≡◌, ℕ, ◌+◌, List, [], ◌∷◌, Some, refl, ap, ◌∙◌, arith}
use Rattle.std.specs.Prelude.{map, ◌==◌, false, true}
use Rattle.std.proofs.lemmas.Bool.Decides.{nat_tests}
use Rattle.lo_model.specs.Opening.{page_of}
use Rattle.lo_opening.specs.declared.opening.ObjectData.{ObjectData}
use Rattle.lo_opening.specs.declared.opening.TableData.{TableData}
use Rattle.lo_opening.specs.Meaning.{stored_at, bytes_of, object_of, table_of, opening_of, number_of, page_with_number, stored_of, data_of_object, data_of_table, data_of}
use Rattle.lo_opening.specs.Opening.{AreBlocks, AreObjects, IsOpening, OpeningData, blocks_held, tables_chunks}
use Rattle.lo_opening.proofs.BlockLaws.{page_stored, pages_are, size_is, stored_follows}

-- pages at the numbers of blocks, where these are the pages
pages_again : (size least : ℕ) (bs : List (ℕ × List ℕ)) (bytes : List ℕ) → AreBlocks size least bs → ((i : ℕ) (x : List ℕ) → stored_at i bs ≡ Some x → page_of bytes i ≡ x) → map (page_with_number bytes) (map number_of bs) ≡ bs
pages_again size least [] bytes are reads = refl
pages_again size least (b ∷ bs) bytes are reads =
    let here : stored_at b.0 (b ∷ bs) ≡ Some b.1 = (let same : (b.0 == b.0) ≡ true = grind (arith, nat_tests) in rw same refl) in
    let later : (i : ℕ) (x : List ℕ) → stored_at i bs ≡ Some x → page_of bytes i ≡ x = λ i x is. reads i x (
    let follows = stored_follows size (b.0 + 1) bs i x are.2 is in
    let other : (b.0 == i) ≡ false = grind (arith, nat_tests, follows) in
    rw other is
    ) in
    ap (λ (x : List ℕ). (b.0, x) ∷ map (page_with_number bytes) (map number_of bs)) (reads b.0 b.1 here)
    ∙ ap (λ (cs : List (ℕ × List ℕ)). b ∷ cs) (pages_again size (b.0 + 1) bs bytes are.2 later)

object_again : (o : ObjectData) → AreBlocks o.size 0 o.stored → data_of_object (object_of o) ≡ o
object_again o are =
    ap (λ (n : ℕ). record { oid = o.oid; size = n; stored = stored_of (bytes_of o) }) (size_is o.oid o.size o.stored are)
    ∙ ap (λ (bs : List (ℕ × List ℕ)). record { oid = o.oid; size = o.size; stored = bs }) (
    ap (λ (ns : List ℕ). map (page_with_number (bytes_of o)) ns) (pages_are o.oid o.size o.stored are)
    ∙ pages_again o.size 0 o.stored (bytes_of o) are (page_stored o.oid o.size o.stored are)
    )

objects_again : (least held : ℕ) (os : List ObjectData) → AreObjects least held os → map data_of_object (map object_of os) ≡ os
objects_again least held [] are = refl
objects_again least held (o ∷ os) are =
    ap (λ (p : ObjectData). p ∷ map data_of_object (map object_of os)) (object_again o are.0.stored)
    ∙ ap (λ (ps : List ObjectData). o ∷ ps) (objects_again (o.oid + 1) (held + blocks_held o) os are.2)

tables_again : (ts : List TableData) → map data_of_table (map table_of ts) ≡ ts
tables_again [] = refl
tables_again (t ∷ ts) = ap (λ (us : List TableData). t ∷ us) (tables_again ts)

pub data_again : (d : OpeningData) → IsOpening d → data_of (opening_of d) ≡ d
data_again d is =
    ap (λ (ts : List TableData). record { blocks = d.blocks; counter = d.counter; tables = ts; objects = map data_of_object (map object_of d.objects) }) (tables_again d.tables)
    ∙ ap (λ (os : List ObjectData). record { blocks = d.blocks; counter = d.counter; tables = d.tables; objects = os }) (objects_again 0 (tables_chunks d.tables) d.objects is.objects)
