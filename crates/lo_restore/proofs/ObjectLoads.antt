-- Objects that are loaded: the calls that do it are not refused, and what pages stand for after each of them.
use Rattle.std.proofs.Common.{◌≡◌, ℕ, suc, ◌+◌, ◌*◌, ◌<◌, ◌≤◌, false, List, [], ◌∷◌, ◌++◌, length, take, drop, Option, Some, None, refl, sym, ap, subst, ◌∙◌, arith, append-nil, get_or}
use Rattle.std.specs.Prelude.{All, map, flat_map, nat_lt, Result, Ok, Err, OnOk}
use Rattle.std.proofs.Math.Seq.{drop-cons}
use Rattle.std.proofs.lemmas.Bool.Decides.{nat_tests}
use Rattle.std.proofs.lemmas.Grind.{flat_map-append}
use Rattle.std.proofs.lemmas.List.{take_all, take_more, map-append}
use Rattle.std.proofs.lemmas.List.Elements.{All-nil, All-cons}
use Rattle.lo_base.specs.declared.refusal.Denied.{Denied}
use Rattle.lo_base.specs.declared.refusal.Denied.TheVariants.{By, NoMemory}
use Rattle.lo_base.specs.declared.refusal.Refusal.{Refusal}
use Rattle.lo_model.specs.Edit.{Deed, Create, Write, Cut, Edit}
use Rattle.lo_model.specs.Opening.{object_deeds}
use Rattle.lo_model.specs.Touch.{touched}
use Rattle.lo_opening.specs.declared.opening.ObjectData.{ObjectData}
use Rattle.lo_opening.specs.Meaning.{block_write, load_deeds, object_of, tail_cut}
use Rattle.lo_opening.specs.Opening.{AreBlocks, IsObject, AreObjects, blocks_held}
use Rattle.lo_opening.proofs.BlockLaws.{deeds_are}
use Rattle.lo_pages.specs.declared.pages.Pages.{Pages}
use Rattle.lo_pages.specs.Outcome.{Adds, Denies, IsNoMemory, LeavesOwn, create_refused, cut_refused, write_refused, write_made, has_now, largest_size}
use Rattle.lo_pages.specs.Standing.{StandFor, GoWith}
use Rattle.lo_pages.proofs.Steps.{left_none, left_more}
use Rattle.row_versions.specs.Stands.{made_now}
use Rattle.lo_restore.specs.Objects.{IsFresh, IsLast, Loads, AreOpened, IsWritable, now_by}
use Rattle.lo_restore.proofs.ObjectEdits.{busy_none, free_more, created_now, not_created, written_now, cut_now, now_both}
use Rattle.xact_core.specs.Transactions.{Transactions}

module _ (x : Transactions) (s : ℕ) where
  -- ---- no call is refused

  -- what is refused has a cause
  unrefused : (refused : List (Edit Deed) → Option Refusal) (old new : Pages) (ys : List (Edit Deed)) → StandFor x old ys → refused ys ≡ None → (d : Denied) → Denies x s refused old new d → IsNoMemory d
  unrefused refused old new ys stand none (By r) denies = absurd (let no : None ≡ Some r = sym none ∙ denies.first ys stand in cc)
  unrefused refused old new ys stand none NoMemory denies = tt

  pub create_granted : (o : ℕ) (old new : Pages) → IsFresh x s o old → (d : Denied) → Denies x s (create_refused x s o) old new d → IsNoMemory d
  create_granted o old new fresh =
      let ys : List (Edit Deed) = fresh.edits in
      let absent : has_now x s ys o ≡ false = fresh.absent o (omega arith) in
      unrefused (create_refused x s o) old new ys fresh.stand (rw (absent, busy_none s (touched (Create o)) ys fresh.free) refl)

  pub write_granted : (o at : ℕ) (bytes : List ℕ) (old new : Pages) → IsLast x s o old → at + length bytes ≤ largest_size → (d : Denied) → Denies x s (write_refused x s o at bytes) old new d → IsNoMemory d
  write_granted o at bytes old new last small =
      let ys : List (Edit Deed) = last.edits in
      let fits : nat_lt largest_size (at + length bytes) ≡ false = grind (arith, nat_tests, small) in
      unrefused (write_refused x s o at bytes) old new ys last.stand (rw (last.there, fits, busy_none s (touched (Write o at bytes)) ys last.free) refl)

  pub cut_granted : (o size : ℕ) (old new : Pages) → IsLast x s o old → size ≤ largest_size → (d : Denied) → Denies x s (cut_refused x s o size) old new d → IsNoMemory d
  cut_granted o size old new last small =
      let ys : List (Edit Deed) = last.edits in
      let fits : nat_lt largest_size size ≡ false = grind (arith, nat_tests, small) in
      unrefused (cut_refused x s o size) old new ys last.stand (rw (last.there, fits, busy_none s (touched (Cut o size)) ys last.free) refl)

  -- ---- what pages stand for

  pub loads_none : (a : Pages) → Loads x s [] a a
  loads_none a = record { stand = λ ys stand. subst (StandFor x a) (sym (append-nil ys)) stand }

  pub loads_more : (ds es : List Deed) (a b c : Pages) → Loads x s ds a b → Loads x s es b c → Loads x s (ds ++ es) a c
  loads_more ds es a b c first second = record { stand = λ ys stand. subst (StandFor x c) (now_both x s ys ds es) (second.stand (ys ++ now_by x s ds) (first.stand ys stand)) }

  pub create_loads : (o : ℕ) (old new : Pages) → Adds x (create_refused x s o) (made_now x s (Create o) ∷ []) old new → Loads x s (Create o ∷ []) old new
  create_loads o old new adds = record { stand = adds.stand }

  pub write_loads : (o : ℕ) (b : ℕ × List ℕ) (old new : Pages) → 0 < length b.1 → Adds x (write_refused x s o (2048 * b.0) b.1) (write_made x s o (2048 * b.0) b.1) old new → Loads x s (block_write o b ∷ []) old new
  write_loads o (n, []) old new some adds = absurd (omega (arith, some))
  write_loads o (n, byte ∷ bytes) old new some adds = record { stand = adds.stand }

  pub cut_loads : (o size : ℕ) (old new : Pages) → Adds x (cut_refused x s o size) (made_now x s (Cut o size) ∷ []) old new → Loads x s (Cut o size ∷ []) old new
  cut_loads o size old new adds = record { stand = adds.stand }

  -- ---- which objects are there

  pub last_created : (o : ℕ) (old new : Pages) → IsFresh x s o old → Loads x s (Create o ∷ []) old new → IsLast x s o new
  last_created o old new fresh loads = record {
    edits = fresh.edits ++ now_by x s (Create o ∷ []);
    stand = loads.stand fresh.edits fresh.stand;
    free = free_more x s (Create o ∷ []) fresh.edits fresh.free;
    there = created_now x s o fresh.edits;
    absent = λ p above. not_created x s o p fresh.edits above ∙ fresh.absent p (omega (arith, above));
  }

  pub last_written : (o : ℕ) (b : ℕ × List ℕ) (old new : Pages) → IsLast x s o old → Loads x s (block_write o b ∷ []) old new → IsLast x s o new
  last_written o b old new last loads = record {
    edits = last.edits ++ now_by x s (block_write o b ∷ []);
    stand = loads.stand last.edits last.stand;
    free = free_more x s (block_write o b ∷ []) last.edits last.free;
    there = written_now x s o (2048 * b.0) o b.1 last.edits ∙ last.there;
    absent = λ p above. written_now x s o (2048 * b.0) p b.1 last.edits ∙ last.absent p above;
  }

  pub fresh_cut : (o size : ℕ) (old new : Pages) → IsLast x s o old → Loads x s (Cut o size ∷ []) old new → IsFresh x s (o + 1) new
  fresh_cut o size old new last loads = record {
    edits = last.edits ++ now_by x s (Cut o size ∷ []);
    stand = loads.stand last.edits last.stand;
    free = free_more x s (Cut o size ∷ []) last.edits last.free;
    absent = λ p above. cut_now x s o size p last.edits ∙ last.absent p above;
  }

  pub fresh_behind : (o : ℕ) (pages : Pages) → IsLast x s o pages → IsFresh x s (o + 1) pages
  fresh_behind o pages last = record { edits = last.edits; stand = last.stand; free = last.free; absent = last.absent }

  pub fresh_above : (least more : ℕ) (pages : Pages) → least ≤ more → IsFresh x s least pages → IsFresh x s more pages
  fresh_above least more pages low fresh = record { edits = fresh.edits; stand = fresh.stand; free = fresh.free; absent = λ o above. fresh.absent o (omega (arith, low, above)) }

  -- an object's parts
  pub object_loads : (o : ObjectData) (a b c d : Pages) → Loads x s (Create o.oid ∷ []) a b → Loads x s (map (block_write o.oid) o.stored) b c → Loads x s (tail_cut o) c d → Loads x s (load_deeds o) a d
  object_loads o a b c d first second third = loads_more (Create o.oid ∷ []) (map (block_write o.oid) o.stored ++ tail_cut o) a b d first (loads_more (map (block_write o.oid) o.stored) (tail_cut o) b c d second third)

-- ---- the rules of an opening's objects

writable_all : (size least : ℕ) (bs : List (ℕ × List ℕ)) → size ≤ largest_size → AreBlocks size least bs → All IsWritable bs
writable_all size least [] small are = All-nil IsWritable
writable_all size least (b ∷ bs) small are =
    let below = are.0.below in
    let bytes = are.0.bytes in
    All-cons IsWritable b bs (record { some = grind (arith, bytes, below); small = grind (arith, bytes, below, small) }) (writable_all size (b.0 + 1) bs small are.2)

pub object_writable : (held : ℕ) (o : ObjectData) → IsObject held o → All IsWritable o.stored
object_writable held o is = writable_all o.size 0 o.stored is.size is.stored

-- the deeds that were done are those of the model
pub deeds_loaded : (least held : ℕ) (os : List ObjectData) → AreObjects least held os → flat_map load_deeds os ≡ flat_map object_deeds (map object_of os)
deeds_loaded least held [] are = refl
deeds_loaded least held (o ∷ os) are = ap (λ ds. ds ++ flat_map load_deeds os) (sym (deeds_are o.oid o.size o.stored are.0.stored)) ∙ ap (λ ds. object_deeds (object_of o) ++ ds) (deeds_loaded (o.oid + 1) (held + blocks_held o) os are.2)

-- Some objects were loaded, and the rest is still to be loaded.
pub record Restoring (x : Transactions) (s i : ℕ) (os : List ObjectData) (old new : Pages) : Type 0 where
  pub least : ℕ
  pub held : ℕ
  pub rules : AreObjects least held (drop i os)
  pub fresh : IsFresh x s least new
  pub loads : Loads x s (flat_map load_deeds (take i os)) old new
  pub left : LeavesOwn x s old new
  pub goes : GoWith x new

-- the same of an object's blocks
pub record Writing (x : Transactions) (s o i : ℕ) (bs : List (ℕ × List ℕ)) (old new : Pages) : Type 0 where
  pub last : IsLast x s o new
  pub loads : Loads x s (map (block_write o) (take i bs)) old new
  pub left : LeavesOwn x s old new
  pub goes : GoWith x new

module _ (x : Transactions) (s : ℕ) where
  pub restoring_start : (os : List ObjectData) (old : Pages) → AreOpened os → IsFresh x s 0 old → GoWith x old → Restoring x s 0 os old old
  restoring_start os old opened fresh goes = record {
    least = 0;
    held = opened.held;
    rules = opened.are;
    fresh = fresh;
    loads = loads_none x s old;
    left = left_none x s old;
    goes = goes;
  }

  -- the object that comes next
  pub record IsNext (i : ℕ) (os : List ObjectData) (o : ObjectData) (pages : Pages) : Type 0 where
    pub fresh : IsFresh x s o.oid pages
    pub blocks : All IsWritable o.stored
    pub small : o.size ≤ largest_size

  at_front : (i : ℕ) (os : List ObjectData) (o : ObjectData) → i < length os → o ≡ get_or os i o → drop i os ≡ o ∷ drop (suc i) os
  at_front i os o low is = drop-cons os i o low ∙ ap (λ m. m ∷ drop (suc i) os) (sym is)

  pub next_is : (i : ℕ) (os : List ObjectData) (o : ObjectData) (old mid : Pages) → i < length os → o ≡ get_or os i o → Restoring x s i os old mid → IsNext i os o mid
  next_is i os o old mid low is to =
      let rules : AreObjects to.least to.held (o ∷ drop (suc i) os) = subst (AreObjects to.least to.held) (at_front i os o low is) to.rules in
      record { fresh = fresh_above x s to.least o.oid mid rules.1 to.fresh; blocks = object_writable to.held o rules.0; small = rules.0.size }

  pub restoring_step : (i : ℕ) (os : List ObjectData) (o : ObjectData) (old mid new : Pages) → i < length os → o ≡ get_or os i o → Restoring x s i os old mid → Loads x s (load_deeds o) mid new → IsFresh x s (o.oid + 1) new → LeavesOwn x s mid new → GoWith x new → Restoring x s (i + 1) os old new
  restoring_step i os o old mid new low is to loads fresh left goes =
      let rules : AreObjects to.least to.held (o ∷ drop (suc i) os) = subst (AreObjects to.least to.held) (at_front i os o low is) to.rules in
      let same : suc i ≡ i + 1 = omega arith in
      let front : take (i + 1) os ≡ take i os ++ o ∷ [] = take_more os i o low ∙ ap (λ m. take i os ++ m ∷ []) (sym is) in
      let done : flat_map load_deeds (take (i + 1) os) ≡ flat_map load_deeds (take i os) ++ load_deeds o = ap (flat_map load_deeds) front ∙ (flat_map-append load_deeds (take i os) (o ∷ []) ∙ ap (λ ds. flat_map load_deeds (take i os) ++ ds) (append-nil (load_deeds o))) in
      record {
        least = o.oid + 1;
        held = to.held + blocks_held o;
        rules = subst (λ n. AreObjects (o.oid + 1) (to.held + blocks_held o) (drop n os)) same rules.2;
        fresh = fresh;
        loads = subst (λ ds. Loads x s ds old new) (sym done) (loads_more x s (flat_map load_deeds (take i os)) (load_deeds o) old mid new to.loads loads);
        left = left_more x s old mid new to.left left;
        goes = goes;
      }

  pub restoring_end : (i : ℕ) (os : List ObjectData) (old new : Pages) → AreOpened os → length os ≤ i → Restoring x s i os old new → Loads x s (flat_map object_deeds (map object_of os)) old new
  restoring_end i os old new opened all to = subst (λ ds. Loads x s ds old new) (ap (flat_map load_deeds) (take_all i os all) ∙ deeds_loaded 0 opened.held os opened.are) to.loads

  pub writing_start : (o : ℕ) (bs : List (ℕ × List ℕ)) (old : Pages) → IsLast x s o old → GoWith x old → Writing x s o 0 bs old old
  writing_start o bs old last goes = record { last = last; loads = loads_none x s old; left = left_none x s old; goes = goes }

  pub writing_step : (o i : ℕ) (bs : List (ℕ × List ℕ)) (b : ℕ × List ℕ) (old mid new : Pages) → i < length bs → b ≡ get_or bs i b → Writing x s o i bs old mid → Loads x s (block_write o b ∷ []) mid new → IsLast x s o new → LeavesOwn x s mid new → GoWith x new → Writing x s o (i + 1) bs old new
  writing_step o i bs b old mid new low is to loads last left goes =
      let front : take (i + 1) bs ≡ take i bs ++ b ∷ [] = take_more bs i b low ∙ ap (λ m. take i bs ++ m ∷ []) (sym is) in
      let done : map (block_write o) (take (i + 1) bs) ≡ map (block_write o) (take i bs) ++ block_write o b ∷ [] = ap (map (block_write o)) front ∙ map-append (block_write o) (take i bs) (b ∷ []) in
      record {
        last = last;
        loads = subst (λ ds. Loads x s ds old new) (sym done) (loads_more x s (map (block_write o) (take i bs)) (block_write o b ∷ []) old mid new to.loads loads);
        left = left_more x s old mid new to.left left;
        goes = goes;
      }

  pub writing_end : (o i : ℕ) (bs : List (ℕ × List ℕ)) (old new : Pages) → length bs ≤ i → Writing x s o i bs old new → Loads x s (map (block_write o) bs) old new
  writing_end o i bs old new all to = subst (λ ds. Loads x s (map (block_write o) ds) old new) (take_all i bs all) to.loads

-- the last part of an object is done where its call is
pub ok_loads : {T E : Type 0} (x y : Transactions) (s : ℕ) (o : ObjectData) (a b c d : Pages) → y ≡ x → Loads x s (Create o.oid ∷ []) a b → Loads x s (map (block_write o.oid) o.stored) b c → (r : Result T E) → OnOk r (Loads y s (tail_cut o) c d) → OnOk r (Loads x s (load_deeds o) a d)
ok_loads x y s o a b c d same first second (Ok t) third = object_loads x s o a b c d first second (subst (λ z. Loads z s (tail_cut o) c d) same third)
ok_loads x y s o a b c d same first second (Err e) third = tt
