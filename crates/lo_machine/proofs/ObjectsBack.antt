-- The deeds that give the objects of an opening make these objects: each has its bytes, and no others are there.
use Rattle.std.proofs.Common.{◌≡◌, ℕ, zero, suc, ◌+◌, ◌-◌, ◌*◌, ◌<◌, ◌≤◌, min, Bool, true, false, ◌==◌, ◌||◌, List, [], ◌∷◌, ◌++◌, length, take, drop, map, Option, Some, None, refl, sym, ap, ap₂, subst, ◌∙◌, arith, append-nil, append_assoc, take-add, inl, inr}
use Rattle.std.specs.Prelude.{filter, replicate, flat_map, is_some, not, option_map, if◌then◌else◌}
use Rattle.std.specs.List.{AllByRecursion, list_any, range_with_len}
use Rattle.std.specs.Ordering.{nat_cmp}
use Rattle.std.specs.Cmp.{nat_cmp_is}
use Rattle.std.specs.declared.cmp.Ordering.TheVariants.{Less}
use Rattle.std.proofs.lemmas.Bool.{cases_Bool}
use Rattle.std.proofs.lemmas.Bool.Decides.{nat_tests}
use Rattle.std.proofs.lemmas.List.{length-take, length-drop, replicate-append-replicate, take_all}
use Rattle.std.proofs.Math.ListN.{drop_of_length-le}
use Rattle.lo_model.specs.Edit.{Deed, Write, Cut, Edit, deeds}
use Rattle.lo_model.specs.Listing.{created_oid, created_oids, has_object, in_order}
use Rattle.lo_model.specs.Object.{at_size, laid_over, object_after, object_after_all}
use Rattle.lo_model.specs.Opening.{ObjectBytes, end_of, is_written, needs_cut, object_deeds, page_of, written_pages}
use Rattle.lo_opening.specs.declared.opening.ObjectData.{ObjectData}
use Rattle.lo_opening.specs.Opening.{AreObjects, blocks_below, blocks_held}
use Rattle.lo_opening.specs.Meaning.{bytes_of, object_of}
use Rattle.lo_restore.specs.Objects.{object_at, objects_at}

pub objects_both : (o : ℕ) (old : Option (List ℕ)) (ds es : List Deed) → object_after_all o old (ds ++ es) ≡ object_after_all o (object_after_all o old ds) es
objects_both o old [] es = refl
objects_both o old (d ∷ ds) es = objects_both o (object_after o old d) ds es

-- ---- zeros

abbrev is_byte : ℕ → Bool
is_byte byte = not (byte == 0)

-- bytes none of which is other than 0 are zeros
zeros_are : (bytes : List ℕ) → list_any is_byte bytes ≡ false → bytes ≡ replicate (length bytes) 0
zeros_are [] is = refl
zeros_are (x ∷ xs) is =
    elim (cases_Bool (x == 0)) [
      | inl none ↦ ap (λ m. m ∷ xs) (let same : x ≡ 0 = grind (arith, nat_tests, none) in same) ∙ ap (λ (ms : List ℕ). 0 ∷ ms) (zeros_are xs (rw none at is))
      | inr other ↦ absurd (let no : true ≡ false = rw other at is in cc)
    ]

no_zeros : (n : ℕ) (bytes : List ℕ) → n ≡ 0 → bytes ++ replicate n 0 ≡ bytes
no_zeros n bytes none = ap (λ k. bytes ++ replicate k 0) none ∙ append-nil bytes

more_zeros : (bytes : List ℕ) (a b n : ℕ) → n ≡ a + b → bytes ++ replicate n 0 ≡ (bytes ++ replicate a 0) ++ replicate b 0
more_zeros bytes a b n is =
    ap (λ k. bytes ++ replicate k 0) is
    ∙ (ap (λ (zeros : List ℕ). bytes ++ zeros) (sym (replicate-append-replicate a b 0))
    ∙ sym (append_assoc bytes (replicate a 0) (replicate b 0)))

-- bytes that are cut to a size that they do not exceed
sized : (size : ℕ) (bytes : List ℕ) → length bytes ≤ size → at_size size bytes ≡ bytes ++ replicate (size - length bytes) 0
sized size bytes few = ap (λ front. front ++ replicate (size - length bytes) 0) (take_all size bytes few)

-- ---- one object

module _ (o : ℕ) (whole : List ℕ) where
  abbrev size : ℕ
  size = length whole

  abbrev count : ℕ
  count = blocks_below size

  abbrev write : ℕ → Deed
  write b = Write o (2048 * b) (page_of whole b)

  abbrev cut_by : Bool → List Deed
  cut_by b = if b then Cut o size ∷ [] else []

  itself : (o == o) ≡ true
  itself = grind (arith, nat_tests)

  page_length : (b : ℕ) → length (page_of whole b) ≡ min 2048 (size - 2048 * b)
  page_length b = length-take 2048 (drop (2048 * b) whole) ∙ ap (min 2048) (length-drop (2048 * b) whole)

  one_more : (k : ℕ) → take (2048 * k) whole ++ page_of whole k ≡ take (2048 * (k + 1)) whole
  one_more k = sym (take-add (2048 * k) 2048 whole) ∙ ap (λ n. take n whole) (let same : 2048 * k + 2048 ≡ 2048 * (k + 1) = omega arith in same)

  -- Content, with zeros behind it, is the pages below a number.
  pub record Reaches (k : ℕ) (content : List ℕ) : Type 0 where
    pub within : length content ≤ min (2048 * k) size
    pub is : content ++ replicate (min (2048 * k) size - length content) 0 ≡ take (2048 * k) whole

  -- a page of zeros
  passed : (k : ℕ) (content : List ℕ) → k < count → is_written whole k ≡ false → Reaches k content → Reaches (k + 1) content
  passed k content low none here =
      let within = here.within in
      let long = page_length k in
      let below : min (2048 * k) size ≡ 2048 * k = omega (arith, low) in
      let more : min (2048 * (k + 1)) size - length content ≡ 2048 * k - length content + length (page_of whole k) = omega (arith, long, low, within) in
      record {
        within = omega (arith, within);
        is =
            more_zeros content (2048 * k - length content) (length (page_of whole k)) (min (2048 * (k + 1)) size - length content) more
            ∙ (ap₂ (λ (a b : List ℕ). a ++ b) (ap (λ n. content ++ replicate (n - length content) 0) (sym below) ∙ here.is) (sym (zeros_are (page_of whole k) none))
            ∙ one_more k);
      }

  -- a page that is written
  laid : (k : ℕ) (content : List ℕ) → k < count → Reaches k content → laid_over (2048 * k) (page_of whole k) content ≡ take (2048 * (k + 1)) whole
  laid k content low here =
      let within = here.within in
      let below : min (2048 * k) size ≡ 2048 * k = omega (arith, low) in
      let front : at_size (2048 * k) content ≡ take (2048 * k) whole = sized (2048 * k) content (omega (arith, within)) ∙ (ap (λ n. content ++ replicate (n - length content) 0) (sym below) ∙ here.is) in
      ap₂ (λ (a b : List ℕ). (a ++ page_of whole k) ++ b) front (drop_of_length-le content (omega (arith, within)))
      ∙ (append-nil (take (2048 * k) whole ++ page_of whole k) ∙ one_more k)

  first_length : (k : ℕ) → length (take (2048 * k) whole) ≡ min (2048 * k) size
  first_length k = length-take (2048 * k) whole

  reached : (k : ℕ) → Reaches k (take (2048 * k) whole)
  reached k =
      let long = first_length k in
      record {
        within = omega (arith, long);
        is = no_zeros (min (2048 * k) size - length (take (2048 * k) whole)) (take (2048 * k) whole) (omega (arith, long));
      }

  -- at the end the cut gives what is missing
  ended : (k : ℕ) (content : List ℕ) → count ≤ k → Reaches k content → object_after_all o (Some content) (cut_by (not ((size == 0) || (size == length content)))) ≡ Some whole
  ended k content high here = by (size == 0) refl (size == length content) refl
    where
      all_of : min (2048 * k) size ≡ size
      all_of = omega (arith, high)

      filled : content ++ replicate (size - length content) 0 ≡ whole
      filled = ap (λ n. content ++ replicate (n - length content) 0) (sym all_of) ∙ (here.is ∙ take_all (2048 * k) whole (omega (arith, high)))

      full : size ≤ length content → content ≡ whole
      full long = sym (no_zeros (size - length content) content (omega (arith, long))) ∙ filled

      by : (a : Bool) → (size == 0) ≡ a → (b : Bool) → (size == length content) ≡ b → object_after_all o (Some content) (cut_by (not (a || b))) ≡ Some whole
      by true is b there = ap Some (full (let none : size ≡ 0 = grind (arith, nat_tests, is) in omega (arith, none)))
      by false is true there = ap Some (full (let same : size ≡ length content = grind (arith, nat_tests, there) in omega (arith, same)))
      by false is false there =
          let within = here.within in
          ap (λ b. if b then Some (at_size size content) else Some content) itself
          ∙ ap Some (sized size content (omega (arith, within)) ∙ filled)

  -- the writes of the pages from a number on, and the cut
  abbrev rest_of : ℕ → ℕ → List ℕ
  rest_of k n = filter (is_written whole) (range_with_len k n)

  abbrev rest_deeds : (end : ℕ) → List ℕ → List Deed
  rest_deeds end bs = map write bs ++ cut_by (not ((size == 0) || (size == end_of size end bs)))

  made : (k n : ℕ) (content : List ℕ) → k + n ≡ count → Reaches k content → object_after_all o (Some content) (rest_deeds (length content) (rest_of k n)) ≡ Some whole
  made k zero content is here = ended k content (omega (arith, is)) here
  made k (suc n) content is here =
      by (is_written whole k) refl
      (made (k + 1) n (take (2048 * (k + 1)) whole) (omega (arith, is)) (reached (k + 1)))
      (λ none. made (k + 1) n content (omega (arith, is)) (passed k content (let low : k < count = omega (arith, is) in low) none here))
    where
      low : k < count
      low = omega (arith, is)

      new : List ℕ
      new = take (2048 * (k + 1)) whole

      next : length new ≡ min (2048 * k + 2048) size
      next = first_length (k + 1) ∙ ap (λ m. min m size) (let same : 2048 * (k + 1) ≡ 2048 * k + 2048 = omega arith in same)

      by : (b : Bool) → is_written whole k ≡ b → object_after_all o (Some new) (rest_deeds (length new) (rest_of (k + 1) n)) ≡ Some whole → (is_written whole k ≡ false → object_after_all o (Some content) (rest_deeds (length content) (rest_of (k + 1) n)) ≡ Some whole) → object_after_all o (Some content) (rest_deeds (length content) (if b then k ∷ rest_of (k + 1) n else rest_of (k + 1) n)) ≡ Some whole
      by true written later spared =
          ap (λ (old : Option (List ℕ)). object_after_all o old (rest_deeds (min (2048 * k + 2048) size) (rest_of (k + 1) n)))
          (ap (λ b. if b then Some (laid_over (2048 * k) (page_of whole k) content) else Some content) itself ∙ ap Some (laid k content low here))
          ∙ (ap (λ end. object_after_all o (Some new) (rest_deeds end (rest_of (k + 1) n))) (sym next)
          ∙ later)
      by false none later spared = spared none

  pub object_made : (old : Option (List ℕ)) → object_after_all o old (object_deeds (record { oid = o; bytes = whole })) ≡ Some whole
  object_made old =
      ap (λ b. object_after_all o (if b then Some [] else old) (map write (written_pages whole) ++ cut_by (needs_cut whole))) itself
      ∙ made 0 count [] (let all : 0 + count ≡ count = omega arith in all) (record { within = omega arith; is = nothing })
    where
      nothing : [] ++ replicate (min (2048 * 0) size - 0) 0 ≡ take (2048 * 0) whole
      nothing = no_zeros (min (2048 * 0) size - 0) [] (omega arith)

  -- ---- and no other one

  module _ (p : ℕ) (old : Option (List ℕ)) (apart : (o == p) ≡ false) where
    cuts_spare : (b : Bool) → object_after_all p old (cut_by b) ≡ old
    cuts_spare true = rw apart refl
    cuts_spare false = refl

    writes_spare : (bs : List ℕ) → object_after_all p old (map write bs) ≡ old
    writes_spare [] = refl
    writes_spare (b ∷ bs) = ap (λ c. object_after_all p (if c then option_map (laid_over (2048 * b) (page_of whole b)) old else old) (map write bs)) apart ∙ writes_spare bs

    pub object_spared : object_after_all p old (object_deeds (record { oid = o; bytes = whole })) ≡ old
    object_spared = ap (λ c. object_after_all p (if c then Some [] else old) (map write (written_pages whole) ++ cut_by (needs_cut whole))) apart ∙ (objects_both p old (map write (written_pages whole)) (cut_by (needs_cut whole)) ∙ (ap (λ (x : Option (List ℕ)). object_after_all p x (cut_by (needs_cut whole))) (writes_spare (written_pages whole)) ∙ cuts_spare (needs_cut whole)))

  -- ---- which numbers are created

  cuts_create : (b : Bool) → created_oids (cut_by b) ≡ []
  cuts_create true = refl
  cuts_create false = refl

  writes_create : (bs : List ℕ) (ds : List Deed) → created_oids (map write bs ++ ds) ≡ created_oids ds
  writes_create [] ds = refl
  writes_create (b ∷ bs) ds = writes_create bs ds

  pub one_created : created_oids (object_deeds (record { oid = o; bytes = whole })) ≡ o ∷ []
  one_created = ap (λ (os : List ℕ). o ∷ os) (writes_create (written_pages whole) (cut_by (needs_cut whole)) ∙ cuts_create (needs_cut whole))

-- ---- all objects

abbrev pub objects_deeds : List ObjectData → List Deed
objects_deeds os = flat_map object_deeds (map object_of os)

pub created_both : (ds es : List Deed) → created_oids (ds ++ es) ≡ created_oids ds ++ created_oids es
created_both [] es = refl
created_both (d ∷ ds) es = ap (λ (os : List ℕ). created_oid d ++ os) (created_both ds es) ∙ sym (append_assoc (created_oid d) (created_oids ds) (created_oids es))

abbrev number_of : ObjectData → ℕ
number_of o = o.oid

created_all : (os : List ObjectData) → created_oids (objects_deeds os) ≡ map number_of os
created_all [] = refl
created_all (o ∷ os) =
    created_both (object_deeds (object_of o)) (objects_deeds os)
    ∙ ap₂ (λ (a b : List ℕ). a ++ b) (one_created o.oid (bytes_of o)) (created_all os)

-- numbers that ascend are in order

under : (a b : ℕ) → a < b → nat_cmp a b ≡ Less
under a b less = sym (nat_cmp_is a b Less less)

numbers_in_order : (least held : ℕ) (os : List ObjectData) → AreObjects least held os → in_order nat_cmp (map number_of os) ≡ map number_of os
numbers_in_order least held [] are = refl
numbers_in_order least held (o ∷ os) are = by os are.2 (numbers_in_order (o.oid + 1) (held + blocks_held o) os are.2)
  where
    by : (us : List ObjectData) → AreObjects (o.oid + 1) (held + blocks_held o) us → in_order nat_cmp (map number_of us) ≡ map number_of us → in_order nat_cmp (map number_of (o ∷ us)) ≡ map number_of (o ∷ us)
    by [] rest same = refl
    by (u ∷ us) rest same =
        let follows = rest.1 in
        let less : nat_cmp o.oid u.oid ≡ Less = under o.oid u.oid (omega (arith, follows)) in
        rw (same, less) refl

-- each object has its bytes, where no deed in front is of an object from a number on

abbrev IsMade : List Deed → ObjectData → Type 0
IsMade ds o = object_after_all o.oid None ds ≡ Some (bytes_of o)

spared_behind : (p least held : ℕ) (os : List ObjectData) (old : Option (List ℕ)) → p < least → AreObjects least held os → object_after_all p old (objects_deeds os) ≡ old
spared_behind p least held [] old low are = refl
spared_behind p least held (o ∷ os) old low are =
    let follows = are.1 in
    let apart : (o.oid == p) ≡ false = grind (arith, nat_tests, follows, low) in
    objects_both p old (object_deeds (object_of o)) (objects_deeds os)
    ∙ (ap (λ (x : Option (List ℕ)). object_after_all p x (objects_deeds os)) (object_spared o.oid (bytes_of o) p old apart)
    ∙ spared_behind p (o.oid + 1) (held + blocks_held o) os old (omega (arith, follows, low)) are.2)

all_made : (front : List Deed) (least held : ℕ) (os : List ObjectData) → ((p : ℕ) → least ≤ p → object_after_all p None front ≡ None) → AreObjects least held os → AllByRecursion (IsMade (front ++ objects_deeds os)) os
all_made front least held [] none are = tt
all_made front least held (o ∷ os) none are = (
  objects_both o.oid None front (objects_deeds (o ∷ os))
      ∙ (objects_both o.oid (object_after_all o.oid None front) (object_deeds (object_of o)) (objects_deeds os)
      ∙ (ap (λ (x : Option (List ℕ)). object_after_all o.oid x (objects_deeds os)) (object_made o.oid (bytes_of o) (object_after_all o.oid None front))
      ∙ spared_behind o.oid (o.oid + 1) (held + blocks_held o) os (Some (bytes_of o)) (omega arith) are.2)),
  subst (λ (ds : List Deed). AllByRecursion (IsMade ds) os) (append_assoc front (object_deeds (object_of o)) (objects_deeds os))
      (all_made (front ++ object_deeds (object_of o)) (o.oid + 1) (held + blocks_held o) os later are.2),
)
  where
    later : (p : ℕ) → o.oid + 1 ≤ p → object_after_all p None (front ++ object_deeds (object_of o)) ≡ None
    later p above =
        let follows = are.1 in
        let apart : (o.oid == p) ≡ false = grind (arith, nat_tests, above) in
        objects_both p None front (object_deeds (object_of o))
        ∙ (ap (λ (x : Option (List ℕ)). object_after_all p x (object_deeds (object_of o))) (none p (omega (arith, follows, above)))
        ∙ object_spared o.oid (bytes_of o) p None apart)

-- edits that do these deeds have these objects

module _ (es : List (Edit Deed)) where
  all_there : (os : List ObjectData) → AllByRecursion (IsMade (deeds es)) os → filter (has_object es) (map number_of os) ≡ map number_of os
  all_there [] all = refl
  all_there (o ∷ os) all =
      let there : has_object es o.oid ≡ true = ap is_some all.0 in
      rw there (ap (λ (ns : List ℕ). o.oid ∷ ns) (all_there os all.1))

  bytes_there : (os : List ObjectData) → AllByRecursion (IsMade (deeds es)) os → map (object_at es) (map number_of os) ≡ map object_of os
  bytes_there [] all = refl
  bytes_there (o ∷ os) all = ap₂ (λ (b : ObjectBytes) (bs : List ObjectBytes). b ∷ bs) (ap (with_bytes o.oid) (ap bytes_in all.0)) (bytes_there os all.1)
    where
      with_bytes : ℕ → List ℕ → ObjectBytes
      with_bytes n bytes = record { oid = n; bytes = bytes }

      bytes_in : Option (List ℕ) → List ℕ
      bytes_in None = []
      bytes_in (Some bytes) = bytes

pub objects_given : (front : List Deed) (held : ℕ) (os : List ObjectData) (es : List (Edit Deed)) → ((p : ℕ) (old : Option (List ℕ)) → object_after_all p old front ≡ old) → created_oids front ≡ [] → AreObjects 0 held os → deeds es ≡ front ++ objects_deeds os → objects_at es ≡ map object_of os
objects_given front held os es spare creates are is =
    ap (map (object_at es)) (ap (filter (has_object es)) numbers ∙ all_there es os made_all) ∙ bytes_there es os made_all
  where
    numbers : in_order nat_cmp (created_oids (deeds es)) ≡ map number_of os
    numbers = ap (λ (ds : List Deed). in_order nat_cmp (created_oids ds)) is ∙ (ap (in_order nat_cmp) (created_both front (objects_deeds os) ∙ ap₂ (λ (a b : List ℕ). a ++ b) creates (created_all os)) ∙ numbers_in_order 0 held os are)

    made_all : AllByRecursion (IsMade (deeds es)) os
    made_all = subst (λ (ds : List Deed). AllByRecursion (IsMade ds) os) (sym is) (all_made front 0 held os (λ p low. spare p None) are)
