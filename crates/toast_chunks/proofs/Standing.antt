-- Chunks that stand for the edits of a place, through each call of the transactions and each call of theirs.
use Rattle.std.proofs.Common.{◌≡◌, ℕ, ◌+◌, ◌<◌, ◌≤◌, Bool, true, false, cond, List, [], ◌∷◌, ◌++◌, length, Option, Some, None, refl, ap, sym, subst, ◌∙◌, arith}
use Rattle.std.proofs.lemmas.Bool.{false≢true}
use Rattle.std.proofs.lemmas.Bool.Decides.{nat_tests}
use Rattle.lo_model.specs.declared.owner.Owner.{Owner}
use Rattle.lo_model.specs.declared.owner.Owner.TheVariants.{Running, Committed}
use Rattle.lo_model.specs.declared.viewer.Viewer.{Viewer}
use Rattle.lo_model.specs.declared.viewer.Viewer.TheVariants.{Whole}
use Rattle.lo_model.specs.Edit.{Edit}
use Rattle.lo_model.specs.Levels.{released, undone, aborted, committed}
use Rattle.lo_model.specs.Touch.{other_session}
use Rattle.lo_model.specs.View.{sees, view}
use Rattle.xact_core.specs.declared.snapshot.Snapshot.{Snapshot}
use Rattle.xact_core.specs.Ends.{Opens, undo}
use Rattle.xact_core.specs.Kept.{HoldsOthers, HoldsWholeViews, current}
use Rattle.xact_core.specs.Transactions.{Transactions, levels_of}
use Rattle.row_versions.specs.Calls.{Releases, UndoesLevel, Commits, Aborts, Ticks}
use Rattle.row_versions.specs.Found.{given, is_erasure}
use Rattle.row_versions.specs.Looks.{IsLook}
use Rattle.row_versions.specs.Stack.{Each, IsStack, IsFreeFor}
use Rattle.row_versions.specs.Stands.{Version, Stands, after_all, replaces, edit_of, made_now, standing, lowest_other}
use Rattle.row_versions.proofs.Agreeing.{fits_turned, linked_each}
use Rattle.row_versions.proofs.Laws.{stands_released, stands_undone, stands_committed, stands_aborted, stands_ticked, stands_opened, stands_holding, stands_pushed, stands_touched, stands_vacuumed, stands_restored, stands_edits, turned_released, turned_undone, turned_committed, standing_end, after_seen}
use Rattle.toast_chunks.specs.declared.chunks.Chunks.{Chunks}
use Rattle.toast_chunks.specs.Calls.{AddsOne, Erases, IsFree, LeavesOwn, Puts, Stores, Takes, Vacuums}
use Rattle.toast_chunks.specs.Keys.{chunk_key}
use Rattle.toast_chunks.specs.Standing.{NoneLeft, Stand, chunk_left, left_by}
use Rattle.toast_chunks.specs.Values.{GoWith, HasValue, chunk_of, found_at, versions_of}
use Rattle.toast_chunks.proofs.Cutting.{chunk_none}

module _ {E : Type 0} (gives : ℕ → E → List ℕ) where
  -- the chunk after edits is that of the value after edits
  chunk_after : (k : ℕ) (bytes : List ℕ) (es : List (Edit E)) → after_all (replaces (chunk_left gives k)) (chunk_of k bytes) es ≡ chunk_of k (after_all (replaces gives) bytes es)
  chunk_after k bytes [] = refl
  chunk_after k bytes (e ∷ es) = chunk_after k (gives e.clock e.deed) es

  chunk_left_by : (k : ℕ) (es : List (Edit E)) → after_all (replaces (chunk_left gives k)) None es ≡ chunk_of k (left_by gives es)
  chunk_left_by k es = ap (λ (o : Option (List ℕ)). after_all (replaces (chunk_left gives k)) o es) (sym (chunk_none k)) ∙ chunk_after k [] es

  none_after : (clock : ℕ) (viewer : Viewer) (ys : List (Edit E)) → NoneLeft gives ys → left_by gives (view clock viewer ys) ≡ []
  none_after clock viewer [] none = refl
  none_after clock viewer (e ∷ es) none = by_seen (sees clock viewer e.clock e.owner) (none_after clock viewer es none.1)
    where
      by_seen : (b : Bool) → left_by gives (view clock viewer es) ≡ [] → left_by gives (cond b (e ∷ view clock viewer es) (view clock viewer es)) ≡ []
      by_seen true rest = ap (λ (bytes : List ℕ). after_all (replaces gives) bytes (view clock viewer es)) none.0 ∙ rest
      by_seen false rest = rest

  -- through the calls of the transactions

  module _ (chunks : Chunks) (value : ℕ) (ys : List (Edit E)) where
    pub stand_released : (s k : ℕ) (old new : Transactions) → Releases s k old new → Stand gives old chunks value ys → Stand gives new chunks value (released s k ys)
    stand_released s k old new by stand = record { chunk = λ n. stands_edits given (replaces (chunk_left gives n)) None new (versions_of chunks value n) _ _ (turned_released s k ys) (stands_released given (replaces (chunk_left gives n)) None s k old new (versions_of chunks value n) ys by.ends.levels.low by.low by.high by.ends.owners by.ends.levels by.ends.clock by.ends.held by.whole (stand.chunk n)) }

    pub stand_undone : (s k : ℕ) (old new : Transactions) → UndoesLevel s k old new → Stand gives old chunks value ys → Stand gives new chunks value (undone s k ys)
    stand_undone s k old new by stand = record { chunk = λ n. stands_edits given (replaces (chunk_left gives n)) None new (versions_of chunks value n) _ _ (turned_undone s k ys) (stands_undone given (replaces (chunk_left gives n)) None s k old new (versions_of chunks value n) ys by.ends.levels.low by.low by.high by.ends.owners by.ends.levels by.ends.clock by.ends.held by.whole (stand.chunk n)) }

    pub stand_aborted : (s : ℕ) (old new : Transactions) → Aborts s old new → Stand gives old chunks value ys → Stand gives new chunks value (aborted s ys)
    stand_aborted s old new by stand = record { chunk = λ n. stands_edits given (replaces (chunk_left gives n)) None new (versions_of chunks value n) _ _ (turned_undone s 1 ys) (stands_aborted given (replaces (chunk_left gives n)) None s old new (versions_of chunks value n) ys by.ends.levels.low by.some by.ends.owners by.ends.levels by.ends.clock by.ends.held by.whole (stand.chunk n)) }

    pub stand_committed : (s : ℕ) (old new : Transactions) → Commits s old new → Stand gives old chunks value ys → Stand gives new chunks value (committed s old.clock ys)
    stand_committed s old new by stand = record { chunk = λ n. stands_edits given (replaces (chunk_left gives n)) None new (versions_of chunks value n) _ _ (turned_committed s old.clock ys) (stands_committed given (replaces (chunk_left gives n)) None s old new (versions_of chunks value n) ys by.ends.levels.low by.some by.ends.owners by.ends.levels by.ends.clock by.ends.held by.whole (stand.chunk n)) }

    pub stand_ticked : (old new : Transactions) → Ticks old new → Stand gives old chunks value ys → Stand gives new chunks value ys
    stand_ticked old new by stand = record { chunk = λ n. subst (λ (x : Transactions). Stands x given (replaces (chunk_left gives n)) None (versions_of chunks value n) ys) (sym by.is) (stands_ticked given (replaces (chunk_left gives n)) None old (versions_of chunks value n) ys (stand.chunk n)) }

    pub stand_opened : (s : ℕ) (name : Option (List ℕ)) (old new : Transactions) → Opens s name old new → Stand gives old chunks value ys → Stand gives new chunks value ys
    stand_opened s name old new by stand = record { chunk = λ n. stands_opened given (replaces (chunk_left gives n)) None s name old new (versions_of chunks value n) ys by.levels.low by (stand.chunk n) }

    pub stand_held : (old new : Transactions) → HoldsOthers old new → Stand gives old chunks value ys → Stand gives new chunks value ys
    stand_held old new by stand = record { chunk = λ n. subst (λ (x : Transactions). Stands x given (replaces (chunk_left gives n)) None (versions_of chunks value n) ys) (sym by.rest) (stands_holding given (replaces (chunk_left gives n)) None old new.held (versions_of chunks value n) ys by.kept (stand.chunk n)) }

  -- through the calls of chunks

  pub stand_others : (x : Transactions) (old new : Chunks) (value : ℕ) (ys : List (Edit E)) → ((k : ℕ) → versions_of new value k ≡ versions_of old value k) → Stand gives x old value ys → Stand gives x new value ys
  stand_others x old new value ys same stand = record { chunk = λ k. subst (λ (vs : List (Version (Option (List ℕ)))). Stands x given (replaces (chunk_left gives k)) None vs ys) (sym (same k)) (stand.chunk k) }

  given_none : (clock : ℕ) (deed : Option (List ℕ)) → is_erasure deed ≡ true → given clock deed ≡ None
  given_none clock None is = refl
  given_none clock (Some bytes) is = absurd (false≢true is)

  pub stand_vacuumed : (x : Transactions) (old new : Chunks) (value : ℕ) (ys : List (Edit E)) → Vacuums x old new → Stand gives x old value ys → Stand gives x new value ys
  stand_vacuumed x old new value ys vacuums stand = record { chunk = λ k. subst (λ (vs : List (Version (Option (List ℕ)))). Stands x given (replaces (chunk_left gives k)) None vs ys) (sym (vacuums.chunk value k)) (stands_vacuumed is_erasure given (replaces (chunk_left gives k)) None x (versions_of old value k) ys (record { gives = given_none }) (stand.chunk k)) }

  pub stand_restored : (s : ℕ) (old new : Transactions) (before after : Chunks) (value : ℕ) (ys : List (Edit E)) → UndoesLevel s (length (levels_of old s)) old new → LeavesOwn old s before after → GoWith old after → Stand gives old before value ys → Stand gives new after value (undone s (length (levels_of old s)) ys)
  stand_restored s old new before after value ys by left go stand = record { chunk = λ k. stands_restored given (replaces (chunk_left gives k)) None s old new (versions_of before value k) (versions_of after value k) (undone s (length (levels_of old s)) ys) by.ends.owners (left.adds value k) (fits_turned (undo s (length (levels_of old s))) old new (versions_of after value k) by.ends.owners (go.versions.fits (chunk_key value k))) ((stand_undone before value ys s (length (levels_of old s)) old new by stand).chunk k) }

  -- a place where no edit has left the value yet
  unused : (x : Transactions) (k : ℕ) (vs : List (Version (Option (List ℕ)))) (ys : List (Edit E)) → vs ≡ [] → IsStack x ys → NoneLeft gives ys → Stands x given (replaces (chunk_left gives k)) None vs ys
  unused x k vs ys fresh stack none = subst (λ (us : List (Version (Option (List ℕ)))). Stands x given (replaces (chunk_left gives k)) None us ys) (sym fresh) (record {
    fits = tt;
    versions = record { made = tt; order = tt };
    edits = stack;
    linked = tt;
    same = record { same = λ v kept. sym (chunk_left_by k (view v.clock v.viewer ys) ∙ (ap (chunk_of k) (none_after v.clock v.viewer ys none) ∙ chunk_none k)) };
  })

  module _ (x : Transactions) (s : ℕ) (one : 1 ≤ s) (some : 0 < length (levels_of x s)) (whole : HoldsWholeViews x) (ys : List (Edit E)) (free : Each (λ (e : Edit E). IsFreeFor s e.owner) ys) (deed : E) where
    -- a chunk more, or none more
    chunk_put : (k : ℕ) (content : Option (List ℕ)) (vs us : List (Version (Option (List ℕ)))) → AddsOne x s content vs us → content ≡ chunk_of k (gives x.clock deed) → Stands x given (replaces (chunk_left gives k)) None vs ys → Stands x given (replaces (chunk_left gives k)) None us (ys ++ made_now x s deed ∷ [])
    chunk_put k content vs us adds is stands = subst (λ (ws : List (Version (Option (List ℕ)))). Stands x given (replaces (chunk_left gives k)) None ws (ys ++ made_now x s deed ∷ [])) (sym adds.is) (stands_pushed given (replaces (chunk_left gives k)) None x s vs ys adds.version deed one some whole adds.is_new free (adds.deed_is ∙ is) stands)

    chunk_kept : (k : ℕ) (vs us : List (Version (Option (List ℕ)))) → us ≡ vs → chunk_of k (left_by gives (view (x.clock + 1) (Whole s) ys)) ≡ chunk_of k (gives x.clock deed) → Stands x given (replaces (chunk_left gives k)) None vs ys → Stands x given (replaces (chunk_left gives k)) None us (ys ++ made_now x s deed ∷ [])
    chunk_kept k vs us same is stands = subst (λ (ws : List (Version (Option (List ℕ)))). Stands x given (replaces (chunk_left gives k)) None ws (ys ++ made_now x s deed ∷ [])) (sym same) (stands_touched given (replaces (chunk_left gives k)) None x s vs ys deed one some whole free (chunk_left_by k (view (x.clock + 1) (Whole s) ys) ∙ is) stands)

    pub stand_stored : (bytes : List ℕ) (old new : Chunks) (value : ℕ) → IsStack x ys → NoneLeft gives ys → gives x.clock deed ≡ bytes → Stores x s bytes old new value → Stand gives x new value (ys ++ made_now x s deed ∷ [])
    stand_stored bytes old new value stack none is stores = record { chunk = λ k. by_chunk k (chunk_of k bytes) refl (stores.here k) }
      where
        was : (k : ℕ) → Stands x given (replaces (chunk_left gives k)) None (versions_of old value k) ys
        was k = unused x k (versions_of old value k) ys (stores.fresh k) stack none

        by_chunk : (k : ℕ) (o : Option (List ℕ)) → chunk_of k bytes ≡ o → Puts x s o (versions_of old value k) (versions_of new value k) → Stands x given (replaces (chunk_left gives k)) None (versions_of new value k) (ys ++ made_now x s deed ∷ [])
        by_chunk k None at puts = chunk_kept k (versions_of old value k) (versions_of new value k) puts (ap (chunk_of k) (none_after (x.clock + 1) (Whole s) ys none) ∙ (chunk_none k ∙ sym (ap (chunk_of k) is ∙ at))) (was k)
        by_chunk k (Some part) at puts = chunk_put k (Some part) (versions_of old value k) (versions_of new value k) puts (sym (ap (chunk_of k) is ∙ at)) (was k)

    pub stand_erased : (bytes : List ℕ) (old new : Chunks) (value : ℕ) → left_by gives (view (x.clock + 1) (Whole s) ys) ≡ bytes → gives x.clock deed ≡ [] → Erases x s value bytes old new → Stand gives x old value ys → Stand gives x new value (ys ++ made_now x s deed ∷ [])
    stand_erased bytes old new value has is erases stand = record { chunk = λ k. by_chunk k (chunk_of k bytes) refl (erases.here k) }
      where
        gone : (k : ℕ) → None ≡ chunk_of k (gives x.clock deed)
        gone k = sym (ap (chunk_of k) is ∙ chunk_none k)

        by_chunk : (k : ℕ) (o : Option (List ℕ)) → chunk_of k bytes ≡ o → Takes x s o (versions_of old value k) (versions_of new value k) → Stands x given (replaces (chunk_left gives k)) None (versions_of new value k) (ys ++ made_now x s deed ∷ [])
        by_chunk k None at takes = chunk_kept k (versions_of old value k) (versions_of new value k) takes (ap (chunk_of k) has ∙ (at ∙ gone k)) (stand.chunk k)
        by_chunk k (Some part) at takes = chunk_put k None (versions_of old value k) (versions_of new value k) takes (gone k) (stand.chunk k)

    pub stand_kept : (chunks : Chunks) (value : ℕ) → gives x.clock deed ≡ left_by gives (view (x.clock + 1) (Whole s) ys) → Stand gives x chunks value ys → Stand gives x chunks value (ys ++ made_now x s deed ∷ [])
    stand_kept chunks value is stand = record { chunk = λ k. chunk_kept k (versions_of chunks value k) (versions_of chunks value k) refl (ap (chunk_of k) (sym is)) (stand.chunk k) }

  -- what a kept view has

  pub stand_reads : (x : Transactions) (chunks : Chunks) (value : ℕ) (ys : List (Edit E)) (v : Snapshot) → Stand gives x chunks value ys → IsLook x v → HasValue x v chunks value (left_by gives (view v.clock v.viewer ys))
  stand_reads x chunks value ys v stand kept = record { chunk = λ k. (stand.chunk k).same.same v kept ∙ chunk_left_by k (view v.clock v.viewer ys) }

-- who is free to erase

own_session : (s : ℕ) (w : Owner) → IsFreeFor s w → other_session s w ≡ None
own_session s (Committed c) free = refl
own_session s (Running t l) free = grind (arith, nat_tests, free)

none_other : {D : Type 0} (s : ℕ) (es : List (Edit D)) → Each (λ (e : Edit D). IsFreeFor s e.owner) es → lowest_other s es ≡ None
none_other s [] free = refl
none_other s (e ∷ es) free = rw (own_session s e.owner free.0) (none_other s es free.1)

pub stand_free : {E : Type 0} (gives : ℕ → E → List ℕ) (x : Transactions) (s : ℕ) (chunks : Chunks) (value : ℕ) (ys : List (Edit E)) → Stand gives x chunks value ys → Each (λ (e : Edit E). IsFreeFor s e.owner) ys → IsFree x s chunks value
stand_free gives x s chunks value ys stand free = record { chunk = λ k. none_other s (standing x (versions_of chunks value k)) (linked_each (λ (c : ℕ) (w : Owner). IsFreeFor s w) (standing x (versions_of chunks value k)) ys free (stand.chunk k).linked) }

-- The session's own view has what it stored.

module _ (x : Transactions) (s : ℕ) where
  own_sees : sees (x.clock + 1) (Whole s) x.clock (Running s (length (levels_of x s))) ≡ true
  own_sees = grind (arith, nat_tests)

  own_finds : (content : Option (List ℕ)) (vs us : List (Version (Option (List ℕ)))) → vs ≡ [] → AddsOne x s content vs us → after_all (replaces given) None (view (x.clock + 1) (Whole s) (standing x us)) ≡ content
  own_finds content vs us fresh adds =
      ap (λ es. after_all (replaces given) None (view (x.clock + 1) (Whole s) es)) one
      ∙ (after_seen (replaces given) None (current x s) [] (edit_of adds.version (Running s (length (levels_of x s)))) seen ∙ adds.deed_is)
    where
      one : standing x us ≡ [] ++ edit_of adds.version (Running s (length (levels_of x s))) ∷ []
      one = ap (standing x) (adds.is ∙ ap (λ ws. ws ++ adds.version ∷ []) fresh) ∙ standing_end x adds.version (Running s (length (levels_of x s))) adds.is_new.owner []

      seen : sees (x.clock + 1) (Whole s) (edit_of adds.version (Running s (length (levels_of x s)))).clock (Running s (length (levels_of x s))) ≡ true
      seen = ap (λ (c : ℕ). sees (x.clock + 1) (Whole s) c (Running s (length (levels_of x s)))) adds.is_new.clock ∙ own_sees

  pub own_has : (bytes : List ℕ) (old new : Chunks) (value : ℕ) → Stores x s bytes old new value → HasValue x (current x s) new value bytes
  own_has bytes old new value stores = record { chunk = λ k. by_chunk k (chunk_of k bytes) (stores.here k) }
    where
      by_chunk : (k : ℕ) (o : Option (List ℕ)) → Puts x s o (versions_of old value k) (versions_of new value k) → found_at x (current x s) new value k ≡ o
      by_chunk k None puts = ap (λ vs. after_all (replaces given) None (view (x.clock + 1) (Whole s) (standing x vs))) (puts ∙ stores.fresh k)
      by_chunk k (Some part) puts = own_finds (Some part) (versions_of old value k) (versions_of new value k) (stores.fresh k) puts
