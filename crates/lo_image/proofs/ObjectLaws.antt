-- The law for objects and their stored blocks.
use Rattle.std.proofs.Common.{◌≡◌, ℕ, ◌+◌, ◌-◌, ◌*◌, ◌^◌, ◌<◌, ◌≤◌, true, false, cond, ◌&&◌, ltb, eqb, List, [], ◌∷◌, ◌++◌, length, Some, None, refl, sym, ap, arith, inl, inr}
use Rattle.std.specs.Int.{w16, w32, w64, to_le_bytes}
use Rattle.std.proofs.lemmas.Bool.Decides.{nat_tests}
use Rattle.std.proofs.lemmas.Bool.{cases_Bool}
use Rattle.lo_image.specs.declared.fault.Defect.TheVariants.{Mismatch, Range}
use Rattle.lo_image.specs.declared.place.BlockPlace.{BlockPlace}
use Rattle.lo_image.specs.declared.place.ObjectPlace.{ObjectPlace}
use Rattle.lo_opening.specs.declared.opening.ObjectData.{ObjectData}
use Rattle.lo_opening.specs.Opening.{block_length, blocks_below, all_zero, IsBlock, AreBlocks, has_tail, IsObject, AreObjects}
use Rattle.lo_image.specs.Image.{block_form, blocks_form, object_head, object_form, objects_form}
use Rattle.lo_image.specs.Readers.{number, piece, tested, fixed, behind, both}
use Rattle.lo_image.specs.Reading.{block_defect, zero_defect, block_at, after_block, blocks_at, oid_defect, size_defect, count_defect, object_of, object_at, after_object, objects_at}
use Rattle.lo_image.proofs.ReaderLaws.{Reads, Judges, Same, wide16, wide32, wide64, number_reads, piece_reads, fixed_is, tested_reads, behind_reads, both_reads, made_reads, same_reads, joined, AllFrom, AreRead, many_reads}

-- ---- a block

-- what its number's judgement lets through
pub record BlockRule (size : ℕ) (p : BlockPlace) (b : ℕ) : Type 0 where
  pub below : 2048 * b < size
  pub follows : p.least ≤ b
  pub last : p.left ≡ 1 → 2048 * b + 2048 < size → p.held + 1 < 2 ^ 32

block_judged : (size : ℕ) (p : BlockPlace) → Judges ℕ (λ b. b < 2 ^ 32) (block_defect size p) (BlockRule size p)
block_judged size p = record {
  sound = λ b is e. record { below = grind (arith, nat_tests); follows = grind (arith, nat_tests); last = λ l t. grind (arith, nat_tests) };
  again = λ b is rule. let below = rule.below in let follows = rule.follows in let last = rule.last in grind (arith, nat_tests);
}

zero_judged : (n : ℕ) → Judges (List ℕ) (λ bytes. length bytes ≡ n) zero_defect (λ bytes. all_zero bytes ≡ false)
zero_judged n = record {
  sound = λ bytes is e. elim (cases_Bool (all_zero bytes)) [
    | inl zeros ↦ absurd (let none : Some Range ≡ None = rw zeros at e in cc)
    | inr other ↦ other
  ];
  again = λ bytes is rule. rw rule refl;
}

-- one block, after what is before it
pub record IsBlockAt (size : ℕ) (p : BlockPlace) (b : ℕ × List ℕ) : Type 0 where
  pub block : IsBlock size b
  pub follows : p.least ≤ b.0
  pub last : p.left ≡ 1 → 2048 * b.0 + 2048 < size → p.held + 1 < 2 ^ 32

pub block_reads : (size : ℕ) (p : BlockPlace) → Reads (ℕ × List ℕ) (block_at size p) block_form (IsBlockAt size p)
block_reads size p =
    let numbers = tested_reads ℕ (number w32) (to_le_bytes w32) (λ b. b < 2 ^ 32) (block_defect size p) (BlockRule size p) (number_reads w32 (2 ^ 32) wide32) (block_judged size p) in
    let texts : (n : ℕ) → Reads (List ℕ) (tested zero_defect (piece n)) (λ a. a) (λ a. (length a ≡ n) × (all_zero a ≡ false)) = λ n. tested_reads (List ℕ) (piece n) (λ a. a) (λ a. length a ≡ n) zero_defect (λ a. all_zero a ≡ false) (piece_reads n) (zero_judged n) in
    let more : (b : ℕ) → (b < 2 ^ 32) × BlockRule size p b → Reads (List ℕ) (behind (fixed w16 (block_length size b) Mismatch) (tested zero_defect (piece (block_length size b)))) (λ a. to_le_bytes w16 (block_length size b) ++ a) (λ a. (length a ≡ block_length size b) × (all_zero a ≡ false))
    = λ b is. behind_reads (List ℕ) (fixed w16 (block_length size b) Mismatch) (to_le_bytes w16 (block_length size b)) (tested zero_defect (piece (block_length size b))) (λ a. a) (λ a. (length a ≡ block_length size b) × (all_zero a ≡ false)) (fixed_is w16 (2 ^ 16) wide16 (block_length size b) Mismatch (omega arith)) (texts (block_length size b)) in
    let whole = both_reads ℕ (List ℕ) (tested (block_defect size p) (number w32)) (λ b. behind (fixed w16 (block_length size b) Mismatch) (tested zero_defect (piece (block_length size b)))) (to_le_bytes w32) (λ b a. to_le_bytes w16 (block_length size b) ++ a) (λ b. (b < 2 ^ 32) × BlockRule size p b) (λ b a. (length a ≡ block_length size b) × (all_zero a ≡ false)) numbers more in
    same_reads (ℕ × List ℕ) (block_at size p) (λ b. to_le_bytes w32 b.0 ++ (to_le_bytes w16 (block_length size b.0) ++ b.1)) (λ b. ((b.0 < 2 ^ 32) × BlockRule size p b.0) × ((length b.1 ≡ block_length size b.0) × (all_zero b.1 ≡ false))) block_form (IsBlockAt size p) whole
    (λ b is. (rw is.1.0 refl, record { block = record { number = is.0.0; below = is.0.1.below; bytes = is.1.0; written = is.1.1 }; follows = is.0.1.follows; last = is.0.1.last }))
    (λ b is. ((is.block.number, record { below = is.block.below; follows = is.follows; last = is.last }), (is.block.bytes, is.block.written)))

-- ---- blocks

-- the last block leaves room for the object's end behind it
abbrev pub HasRoom : (size held end : ℕ) → List (ℕ × List ℕ) → Type 0
HasRoom size held end blocks = has_tail size end blocks ≡ true → held + 1 < 2 ^ 32

blocks_shown : (size : ℕ) (p : BlockPlace) (bs : List (ℕ × List ℕ)) → joined (λ q. block_form) after_block p bs ≡ blocks_form bs
blocks_shown size p [] = refl
blocks_shown size p (b ∷ bs) = ap (λ (t : List ℕ). block_form b ++ t) (blocks_shown size (after_block p b) bs)

blocks_are : (size : ℕ) (p : BlockPlace) (bs : List (ℕ × List ℕ)) → AllFrom (IsBlockAt size) after_block p bs → AreBlocks size p.least bs
blocks_are size p [] all = tt
blocks_are size p (b ∷ bs) all = (all.0.block, all.0.follows, blocks_are size (after_block p b) bs all.1)

room_after : (size end : ℕ) (p : BlockPlace) (b : ℕ × List ℕ) (bs : List (ℕ × List ℕ)) → length (b ∷ bs) ≡ p.left → AllFrom (IsBlockAt size) after_block p (b ∷ bs) → HasRoom size p.held end (b ∷ bs)
room_after size end p b [] len all tail = all.0.last (sym len) (grind (arith, nat_tests))
room_after size end p b (c ∷ cs) len all tail = room_after size (2048 * b.0 + 2048) (after_block p b) c cs (omega (arith, len)) all.1 tail

blocks_from : (size end : ℕ) (p : BlockPlace) (bs : List (ℕ × List ℕ)) → length bs ≡ p.left → AreBlocks size p.least bs → (0 < length bs → HasRoom size p.held end bs) → AllFrom (IsBlockAt size) after_block p bs
blocks_from size end p [] len are room = tt
blocks_from size end p (b ∷ []) len are room = (record { block = are.0; follows = are.1; last = λ l t. room (omega arith) (grind (arith, nat_tests)) }, tt)
blocks_from size end p (b ∷ c ∷ cs) len are room =
    let more : length (c ∷ cs) ≡ p.left - 1 = omega (arith, len) in (
      record { block = are.0; follows = are.1; last = λ l t. absurd (omega (arith, len, l)) },
      blocks_from size (2048 * b.0 + 2048) (after_block p b) (c ∷ cs) more are.2 (λ some. room (omega arith)),
    )

-- the stored blocks of an object, with what is held before it
pub record AreStored (size held n : ℕ) (bs : List (ℕ × List ℕ)) : Type 0 where
  pub count : length bs ≡ n
  pub are : AreBlocks size 0 bs
  pub room : 0 < n → HasRoom size (held + n) 0 bs

stored_room : (size end : ℕ) (p : BlockPlace) (bs : List (ℕ × List ℕ)) → length bs ≡ p.left → AllFrom (IsBlockAt size) after_block p bs → 0 < length bs → HasRoom size p.held end bs
stored_room size end p [] len all some = absurd (omega (arith, some))
stored_room size end p (b ∷ bs) len all some = room_after size end p b bs len all

pub stored_reads : (size held n : ℕ) → Reads (List (ℕ × List ℕ)) (blocks_at size held n) blocks_form (AreStored size held n)
stored_reads size held n =
    let p : BlockPlace = record { least = 0; left = n; held = held + n } in
    let law = many_reads (ℕ × List ℕ) BlockPlace (block_at size) after_block (λ q. block_form) (IsBlockAt size) (block_reads size) p n in
    same_reads (List (ℕ × List ℕ)) (blocks_at size held n) (joined (λ q. block_form) after_block p) (AreRead (ℕ × List ℕ) BlockPlace (IsBlockAt size) after_block p n) blocks_form (AreStored size held n) law
    (λ bs is. (blocks_shown size p bs, record { count = is.count; are = blocks_are size p bs is.all; room = λ some. stored_room size 0 p bs is.count is.all (omega (arith, is.count)) }))
    (λ bs is. record { count = is.count; all = blocks_from size 0 p bs is.count is.are (λ some. is.room (omega (arith, is.count))) })

-- ---- an object

pub record OidRule (least oid : ℕ) : Type 0 where
  pub some : 1 ≤ oid
  pub follows : least ≤ oid

oid_judged : (least : ℕ) → Judges ℕ (λ n. n < 2 ^ 32) (oid_defect least) (OidRule least)
oid_judged least = record {
  sound = λ n is e. record { some = grind (arith, nat_tests); follows = grind (arith, nat_tests) };
  again = λ n is rule. let some = rule.some in let follows = rule.follows in grind (arith, nat_tests);
}

size_judged : Judges ℕ (λ n. n < 2 ^ 64) size_defect (λ n. n ≤ 4398046509056)
size_judged = record {
  sound = λ n is e. grind (arith, nat_tests);
  again = λ n is rule. grind (arith, nat_tests);
}

-- one block more where there is no stored one and the object ends behind 0
abbrev pub bare_end : ℕ → ℕ → ℕ
bare_end size n = cond (eqb n 0 && ltb 0 size) 1 0

pub record CountRule (size held n : ℕ) : Type 0 where
  pub few : n ≤ blocks_below size
  pub fits : held + n + bare_end size n < 2 ^ 32

count_judged : (size held : ℕ) → Judges ℕ (λ n. n < 2 ^ 32) (count_defect size held) (CountRule size held)
count_judged size held = record {
  sound = λ n is e. record { few = grind (arith, nat_tests); fits = grind (arith, nat_tests) };
  again = λ n is rule. let few = rule.few in let fits = rule.fits in grind (arith, nat_tests);
}

-- blocks below a size are no more than begin there
few_blocks : (size least : ℕ) (bs : List (ℕ × List ℕ)) → AreBlocks size least bs → 0 < length bs → least + length bs ≤ blocks_below size
few_blocks size least [] are some = absurd (omega (arith, some))
few_blocks size least (b ∷ []) are some = let below = are.0.below in let follows = are.1 in omega (arith, below, follows)
few_blocks size least (b ∷ c ∷ cs) are some = let more = few_blocks size (b.0 + 1) (c ∷ cs) are.2 (omega arith) in let follows = are.1 in omega (arith, more, follows)

few_stored : (size : ℕ) (bs : List (ℕ × List ℕ)) → AreBlocks size 0 bs → length bs ≤ blocks_below size
few_stored size [] are = omega arith
few_stored size (b ∷ bs) are = let few = few_blocks size 0 (b ∷ bs) are (omega arith) in omega (arith, few)

-- what the judgements let through is what an object may hold
held_fits : (size held : ℕ) (bs : List (ℕ × List ℕ)) → held + length bs + bare_end size (length bs) < 2 ^ 32 → (0 < length bs → HasRoom size (held + length bs) 0 bs) → held + (length bs + cond (has_tail size 0 bs) 1 0) < 2 ^ 32
held_fits size held [] fits room = grind (arith, nat_tests)
held_fits size held (b ∷ bs) fits room =
    elim (cases_Bool (has_tail size 0 (b ∷ bs))) [
      | inl tail ↦ let one = room (omega arith) tail in rw tail (omega (arith, one))
      | inr whole ↦ rw whole (omega (arith, fits))
    ]

held_from : (size held : ℕ) (bs : List (ℕ × List ℕ)) → held + (length bs + cond (has_tail size 0 bs) 1 0) < 2 ^ 32 → held + length bs + bare_end size (length bs) < 2 ^ 32
held_from size held [] fits = grind (arith, nat_tests)
held_from size held (b ∷ bs) fits = grind (arith, nat_tests)

room_from : (size held : ℕ) (bs : List (ℕ × List ℕ)) → held + (length bs + cond (has_tail size 0 bs) 1 0) < 2 ^ 32 → HasRoom size (held + length bs) 0 bs
room_from size held bs fits tail = let one : held + (length bs + 1) < 2 ^ 32 = rw tail at fits in omega (arith, one)

pub record IsObjectAt (p : ObjectPlace) (o : ObjectData) : Type 0 where
  pub object : IsObject p.held o
  pub follows : p.least ≤ o.oid

-- what is read of an object, and the object
object_same : (p : ObjectPlace) → Same (ℕ × (ℕ × (ℕ × List (ℕ × List ℕ)))) ObjectData object_of
    (λ x. to_le_bytes w32 x.0 ++ (to_le_bytes w64 x.1.0 ++ (to_le_bytes w32 x.1.1.0 ++ blocks_form x.1.1.1)))
    (λ x. ((x.0 < 2 ^ 32) × OidRule p.least x.0) × (((x.1.0 < 2 ^ 64) × (x.1.0 ≤ 4398046509056)) × (((x.1.1.0 < 2 ^ 32) × CountRule x.1.0 p.held x.1.1.0) × AreStored x.1.0 p.held x.1.1.0 x.1.1.1)))
    object_form (IsObjectAt p)
unfolding object_head
object_same p = record {
  back = λ o. (o.oid, (o.size, (length o.stored, o.stored)));
  there = λ o is. refl;
  here = λ x is.
      let stored = is.1.1.1 in
      let count : length x.1.1.1 ≡ x.1.1.0 = stored.count in
      let fits : p.held + length x.1.1.1 + bare_end x.1.0 (length x.1.1.1) < 2 ^ 32 = rw count is.1.1.0.1.fits in
      let room : 0 < length x.1.1.1 → HasRoom x.1.0 (p.held + length x.1.1.1) 0 x.1.1.1 = λ some. rw count (stored.room (omega (arith, some, count))) in
      (rw count refl, record { object = record { least = is.0.1.some; most = is.0.0; size = is.1.0.1; stored = stored.are; fits = held_fits x.1.0 p.held x.1.1.1 fits room }; follows = is.0.1.follows });
  again = λ o is.
      let object = is.object in
      let fits = held_from o.size p.held o.stored object.fits in
      let few = few_stored o.size o.stored object.stored in
      (refl, ((object.most, record { some = object.least; follows = is.follows }), ((omega (arith, object.size), object.size), ((omega (arith, fits), record { few = few; fits = fits }), record { count = refl; are = object.stored; room = λ some. room_from o.size p.held o.stored object.fits }))));
}

pub object_reads : (p : ObjectPlace) → Reads ObjectData (object_at p) object_form (IsObjectAt p)
object_reads p =
    let Blocks = List (ℕ × List ℕ) in
    let oids = tested_reads ℕ (number w32) (to_le_bytes w32) (λ n. n < 2 ^ 32) (oid_defect p.least) (OidRule p.least) (number_reads w32 (2 ^ 32) wide32) (oid_judged p.least) in
    let sizes = tested_reads ℕ (number w64) (to_le_bytes w64) (λ n. n < 2 ^ 64) size_defect (λ n. n ≤ 4398046509056) (number_reads w64 (2 ^ 64) wide64) size_judged in
    let counts = λ (size : ℕ). tested_reads ℕ (number w32) (to_le_bytes w32) (λ n. n < 2 ^ 32) (count_defect size p.held) (CountRule size p.held) (number_reads w32 (2 ^ 32) wide32) (count_judged size p.held) in
    let tail = λ (size : ℕ). both_reads ℕ Blocks (tested (count_defect size p.held) (number w32)) (blocks_at size p.held) (to_le_bytes w32) (λ n. blocks_form) (λ n. (n < 2 ^ 32) × CountRule size p.held n) (AreStored size p.held) (counts size) (λ n is. stored_reads size p.held n) in
    let more = both_reads ℕ (ℕ × Blocks) (tested size_defect (number w64)) (λ size. both (tested (count_defect size p.held) (number w32)) (blocks_at size p.held)) (to_le_bytes w64) (λ size q. to_le_bytes w32 q.0 ++ blocks_form q.1) (λ n. (n < 2 ^ 64) × (n ≤ 4398046509056))
    (λ size q. ((q.0 < 2 ^ 32) × CountRule size p.held q.0) × AreStored size p.held q.0 q.1) sizes (λ size is. tail size) in
    let whole = both_reads ℕ (ℕ × (ℕ × Blocks)) (tested (oid_defect p.least) (number w32)) (λ oid. both (tested size_defect (number w64)) (λ size. both (tested (count_defect size p.held) (number w32)) (blocks_at size p.held))) (to_le_bytes w32) (λ oid x. to_le_bytes w64 x.0 ++ (to_le_bytes w32 x.1.0 ++ blocks_form x.1.1))
    (λ n. (n < 2 ^ 32) × OidRule p.least n) (λ oid x. ((x.0 < 2 ^ 64) × (x.0 ≤ 4398046509056)) × (((x.1.0 < 2 ^ 32) × CountRule x.0 p.held x.1.0) × AreStored x.0 p.held x.1.0 x.1.1)) oids (λ oid is. more) in
    made_reads (ℕ × (ℕ × (ℕ × Blocks))) ObjectData object_of (both (tested (oid_defect p.least) (number w32)) (λ oid. both (tested size_defect (number w64)) (λ size. both (tested (count_defect size p.held) (number w32)) (blocks_at size p.held))))
    (λ x. to_le_bytes w32 x.0 ++ (to_le_bytes w64 x.1.0 ++ (to_le_bytes w32 x.1.1.0 ++ blocks_form x.1.1.1)))
    (λ x. ((x.0 < 2 ^ 32) × OidRule p.least x.0) × (((x.1.0 < 2 ^ 64) × (x.1.0 ≤ 4398046509056)) × (((x.1.1.0 < 2 ^ 32) × CountRule x.1.0 p.held x.1.1.0) × AreStored x.1.0 p.held x.1.1.0 x.1.1.1)))
    object_form (IsObjectAt p) whole (object_same p)

-- ---- objects

objects_shown : (p : ObjectPlace) (os : List ObjectData) → joined (λ q. object_form) after_object p os ≡ objects_form os
objects_shown p [] = refl
objects_shown p (o ∷ os) = ap (λ (t : List ℕ). object_form o ++ t) (objects_shown (after_object p o) os)

objects_are : (p : ObjectPlace) (os : List ObjectData) → AllFrom IsObjectAt after_object p os → AreObjects p.least p.held os
objects_are p [] all = tt
objects_are p (o ∷ os) all = (all.0.object, all.0.follows, objects_are (after_object p o) os all.1)

objects_from : (p : ObjectPlace) (os : List ObjectData) → AreObjects p.least p.held os → AllFrom IsObjectAt after_object p os
objects_from p [] are = tt
objects_from p (o ∷ os) are = (record { object = are.0; follows = are.1 }, objects_from (after_object p o) os are.2)

pub record AreListed (held n : ℕ) (os : List ObjectData) : Type 0 where
  pub count : length os ≡ n
  pub are : AreObjects 0 held os

pub objects_reads : (held n : ℕ) → Reads (List ObjectData) (objects_at held n) objects_form (AreListed held n)
objects_reads held n =
    let p : ObjectPlace = record { least = 0; held = held } in
    let law = many_reads ObjectData ObjectPlace object_at after_object (λ q. object_form) IsObjectAt object_reads p n in
    same_reads (List ObjectData) (objects_at held n) (joined (λ q. object_form) after_object p) (AreRead ObjectData ObjectPlace IsObjectAt after_object p n) objects_form (AreListed held n) law
    (λ os is. (objects_shown p os, record { count = is.count; are = objects_are p os is.all }))
    (λ os is. record { count = is.count; all = objects_from p os is.are })
