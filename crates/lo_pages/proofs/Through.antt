-- The relation through each call of the transactions and a reclamation.
use Rattle.std.proofs.Common.{◌≡◌, ℕ, zero, suc, ◌+◌, inl, inr, Bool, true, false, List, [], ◌∷◌, length, Option, Some, None, refl, ap, sym, subst, ◌∙◌, arith}
use Rattle.std.specs.Prelude.{option_and_then}
use Rattle.std.proofs.lemmas.Bool.{false≢true}
use Rattle.std.proofs.lemmas.List.{length-take}
use Rattle.lo_model.specs.declared.owner.Owner.{Owner}
use Rattle.lo_model.specs.declared.viewer.Viewer.{Viewer}
use Rattle.lo_model.specs.Edit.{Deed, Edit}
use Rattle.lo_model.specs.Levels.{released, undone, committed}
use Rattle.xact_core.specs.declared.snapshot.Snapshot.{Snapshot}
use Rattle.xact_core.specs.Ends.{Turns, same, release, undo, commit_at, Opens}
use Rattle.xact_core.specs.Laws.{before_release, before_undo}
use Rattle.xact_core.specs.Stamp.{owner_of}
use Rattle.xact_core.specs.Transactions.{Transactions, levels_of}
use Rattle.row_versions.specs.Calls.{Releases, UndoesLevel, Commits, Aborts, Ticks}
use Rattle.xact_core.specs.Kept.{HoldsOthers}
use Rattle.row_versions.specs.Stack.{Each, IsStack, left_of, turned, KeepsStacks}
use Rattle.row_versions.specs.Looks.{IsLook, IsCovered}
use Rattle.row_versions.specs.Vacuum.{any_open}
use Rattle.row_versions.specs.Stands.{Version, standing, HasMark, IsLinked, before_commit, Fits, Stands, vacuumed, Erases}
use Rattle.row_versions.proofs.Stacking.{each_more, release_keeps, undo_keeps, abort_keeps, commit_keeps, later_keeps, opens_more, levels_here, levels_apart}
use Rattle.row_versions.proofs.Covering.{Undoes, release_covers, undo_covers, commit_covers, tick_covers, held_covers, opens_covers}
use Rattle.row_versions.specs.Stands.{OpensAs}
use Rattle.row_versions.proofs.Agreeing.{standing_turned, agrees_turned, open_turned, opens_same, opens_release, opens_undo, opens_commit, stands_turned, at_turned}
use Rattle.row_versions.proofs.Vacuuming.{reclaimed_any_open}
use Rattle.row_versions.proofs.Laws.{turned_released, turned_undone, turned_committed, standing_vacuumed, stands_vacuumed}
use Rattle.lo_pages.specs.Content.{Content, touches_page, touches_object, cuts_at, at_page, at_object, at_cut, after_page, after_head, after_cut, none_yet, after_both, after_there}
use Rattle.lo_pages.specs.Rest.{stores_vacuumed}
use Rattle.row_versions.specs.Found.{is_erasure}
use Rattle.lo_pages.specs.Stores.{Stores, there, no_value, cut_open, open_at, IsClean, IsProperEdit, PagesStand}

self_linked : {D : Type 0} (es : List (Edit D)) → IsLinked es es
self_linked [] = tt
self_linked {D} (e ∷ es) = (inl (refl, refl), each_more (λ (f : Edit D). HasMark f.clock f.owner es) (λ (f : Edit D). HasMark f.clock f.owner (e ∷ es)) (λ f mark. inr mark) es (self_linked es))

proper_turned : (turn : Owner → Option Owner) (ys : List (Edit Deed)) → Each IsProperEdit ys → Each IsProperEdit (turned turn ys)
proper_turned turn [] proper = tt
proper_turned turn (e ∷ es) proper = by_turn (turn e.owner) (proper_turned turn es proper.1)
  where
    by_turn : (o : Option Owner) → Each IsProperEdit (turned turn es) → Each IsProperEdit (left_of o e (turned turn es))
    by_turn None rest = rest
    by_turn (Some w) rest = (proper.0, rest)

-- An end turns the owners of edits; for each viewer what was open for another one is open.
module _ {P : Type 0} (value : ℕ → P → Option Content) (turn : Owner → Option Owner) (before : Viewer → Viewer) (old new : Transactions) (stores : Stores P) (ys : List (Edit Deed)) where
  key_turned : {D : Type 0} → Turns turn old new → OpensAs turn before → (viewer : Viewer) (vs : List (Version D)) → Fits old vs → any_open viewer (standing new vs) ≡ any_open (before viewer) (standing old vs)
  key_turned turns opens viewer vs fits = ap (any_open viewer) (standing_turned turn old new vs turns fits) ∙ open_turned turn before opens viewer (standing old vs)

  cut_turned : PagesStand value old stores ys → Turns turn old new → OpensAs turn before → (viewer : Viewer) (o n : ℕ) → cut_open viewer new stores o n ≡ cut_open (before viewer) old stores o n
  cut_turned stands turns opens viewer o zero = refl
  cut_turned stands turns opens viewer o (suc n) = rw (cut_turned stands turns opens viewer o n, key_turned turns opens viewer (stores.cuts o n) (stands.cuts o n).fits) refl

  pub pages_turned : KeepsStacks turn old new → Turns turn old new → ((es : List (Edit Deed)) → IsStack old es → (v : Snapshot) → IsLook new v → IsCovered turn old es v) → OpensAs turn before → PagesStand value old stores ys → PagesStand value new stores (turned turn ys)
  pages_turned keeps turns covers opens stands = record {
    proper = proper_turned turn ys stands.proper;
    objects = λ o. subst (λ (es : List (Edit Deed)). Stands new there (after_head o) false (stores.objects o) es) (sym (at_turned (touches_object o) turn ys)) (stands_turned (IsLook old) (IsLook new) there (after_head o) false turn old new (stores.objects o) (at_object o ys) keeps turns (covers (at_object o ys) (stands.objects o).edits) (stands.objects o));
    pages = λ o b. subst (λ (es : List (Edit Deed)). Stands new value (after_page o b) None (stores.pages o b) es) (sym (at_turned (touches_page o b) turn ys)) (stands_turned (IsLook old) (IsLook new) value (after_page o b) None turn old new (stores.pages o b) (at_page o b ys) keeps turns (covers (at_page o b ys) (stands.pages o b).edits) (stands.pages o b));
    cuts = λ o b. subst (λ (es : List (Edit Deed)). Stands new no_value after_cut tt (stores.cuts o b) es) (sym (at_turned (cuts_at o b) turn ys)) (stands_turned (IsLook old) (IsLook new) no_value after_cut tt turn old new (stores.cuts o b) (at_cut o b ys) keeps turns (covers (at_cut o b ys) (stands.cuts o b).edits) (stands.cuts o b));
    busy = λ o b. record { alike = λ viewer. busy o b viewer };
    clean = λ o b. subst (λ (es : List (Edit Deed)). IsClean new o b es) (sym (at_turned (touches_page o b) turn ys)) (agrees_turned (IsLook old) (IsLook new) (after_both o b) (after_there o b) none_yet turn (at_page o b ys) (at_page o b ys) (covers (at_page o b ys) (stands.pages o b).edits) (self_linked (at_page o b ys)) (stands.clean o b));
  }
    where
      busy : (o b : ℕ) (viewer : Viewer) → open_at viewer new stores o b ≡ any_open viewer (at_page o b (turned turn ys))
      busy o b viewer =
          rw (key_turned turns opens viewer (stores.objects o) (stands.objects o).fits, key_turned turns opens viewer (stores.pages o b) (stands.pages o b).fits, cut_turned stands turns opens viewer o b, key_turned turns opens viewer (stores.cuts o b) (stands.cuts o b).fits)
          ((stands.busy o b).alike (before viewer) ∙ sym (ap (any_open viewer) (at_turned (touches_page o b) turn ys) ∙ open_turned turn before opens viewer (at_page o b ys)))

turned_same : {X : Type 0} (es : List (Edit X)) → turned same es ≡ es
turned_same [] = refl
turned_same (e ∷ es) = ap (λ rest. e ∷ rest) (turned_same es)

and_same : (o : Option Owner) → o ≡ option_and_then same o
and_same None = refl
and_same (Some w) = refl

module _ {P : Type 0} (value : ℕ → P → Option Content) (stores : Stores P) (ys : List (Edit Deed)) where
  pages_edits : (x : Transactions) (zs : List (Edit Deed)) → ys ≡ zs → PagesStand value x stores ys → PagesStand value x stores zs
  pages_edits x zs is stands = subst (λ (es : List (Edit Deed)). PagesStand value x stores es) is stands

  moved : (x : Transactions) (us zs : List (Edit Deed)) → us ≡ zs → PagesStand value x stores us → PagesStand value x stores zs
  moved x us zs is stands = subst (λ (es : List (Edit Deed)). PagesStand value x stores es) is stands

  pub pages_released : (s k : ℕ) (old new : Transactions) → Releases s k old new → PagesStand value old stores ys → PagesStand value new stores (released s k ys)
  pages_released s k old new by stands =
      moved new (turned (release s k) ys) (released s k ys) (turned_released s k ys)
      (pages_turned value (release s k) (before_release s k) old new stores ys
      (release_keeps s k old new by.ends.levels.low by.low by.high by.ends.levels by.ends.clock)
      by.ends.owners
      (λ es stack. release_covers s k old new by.ends.levels.low by.low by.high by.ends.levels by.ends.clock by.ends.held by.whole es)
      (opens_release s k (omega (arith, by.low)))
      stands)

  pub pages_undone : (s k : ℕ) (old new : Transactions) → UndoesLevel s k old new → PagesStand value old stores ys → PagesStand value new stores (undone s k ys)
  pages_undone s k old new by stands =
      moved new (turned (undo s k) ys) (undone s k ys) (turned_undone s k ys)
      (pages_turned value (undo s k) (before_undo s k) old new stores ys
      (undo_keeps s k old new by.ends.levels.low by.low by.high by.ends.levels by.ends.clock)
      by.ends.owners
      (λ es stack. undo_covers s k old new undoes by.whole es stack)
      (opens_undo s k)
      stands)
    where
      here : length (levels_of new s) ≡ k
      here = ap (λ (names : List (Option (List ℕ))). length names) (levels_here s _ old new by.ends.levels (omega (arith, by.low, by.high))) ∙ (omega (arith, by.high, length-take k (levels_of old s)))

      undoes : Undoes s k old new
      undoes = record { first = by.ends.levels.low; low = by.low; high = by.high; left = omega (arith, here); others = λ t low' apart. levels_apart s _ old new by.ends.levels t by.ends.levels.low low' apart; clock = by.ends.clock; held = by.ends.held }

  pub pages_aborted : (s : ℕ) (old new : Transactions) → Aborts s old new → PagesStand value old stores ys → PagesStand value new stores (undone s 1 ys)
  pages_aborted s old new by stands =
      moved new (turned (undo s 1) ys) (undone s 1 ys) (turned_undone s 1 ys)
      (pages_turned value (undo s 1) (before_undo s 1) old new stores ys
      (abort_keeps s old new by.ends.levels.low by.ends.levels by.ends.clock)
      by.ends.owners
      (λ es stack. undo_covers s 1 old new undoes by.whole es stack)
      (opens_undo s 1)
      stands)
    where
      here : length (levels_of new s) ≡ 0
      here = ap (λ (names : List (Option (List ℕ))). length names) (levels_here s _ old new by.ends.levels by.some)

      undoes : Undoes s 1 old new
      undoes = record { first = by.ends.levels.low; low = omega arith; high = omega (arith, by.some); left = omega (arith, here); others = λ t low' apart. levels_apart s _ old new by.ends.levels t by.ends.levels.low low' apart; clock = by.ends.clock; held = by.ends.held }

  pub pages_committed : (s : ℕ) (old new : Transactions) → Commits s old new → PagesStand value old stores ys → PagesStand value new stores (committed s old.clock ys)
  pages_committed s old new by stands =
      moved new (turned (commit_at s old.clock) ys) (committed s old.clock ys) (turned_committed s old.clock ys)
      (pages_turned value (commit_at s old.clock) (before_commit s) old new stores ys
      (commit_keeps s old new by.ends.levels.low by.ends.levels by.ends.clock)
      by.ends.owners
      (λ es stack. commit_covers s old new by.ends.levels.low by.some by.ends.levels by.ends.clock by.ends.held by.whole es stack)
      (opens_commit s old.clock)
      stands)

  pub pages_ticked : (old new : Transactions) → Ticks old new → PagesStand value old stores ys → PagesStand value new stores ys
  pages_ticked old new by stands = subst (λ (x : Transactions). PagesStand value x stores ys) (sym by.is) (moved next (turned same ys) ys (turned_same ys)
      (pages_turned value same (λ viewer. viewer) old next stores ys
      (later_keeps old next (omega arith) (λ t low. omega arith))
      (record { owners = λ st given. and_same (owner_of old st); issued = λ st given. record { place = given.place; undos = given.undos; clock = omega (arith, given.clock) } })
      (λ es stack. tick_covers old es stack)
      opens_same
      stands))
    where
      next : Transactions
      next = record old { clock = old.clock + 1 }

  pub pages_opened : (s : ℕ) (name : Option (List ℕ)) (old new : Transactions) → Opens s name old new → PagesStand value old stores ys → PagesStand value new stores ys
  pages_opened s name old new opens stands = moved new (turned same ys) ys (turned_same ys)
      (pages_turned value same (λ viewer. viewer) old new stores ys
      (later_keeps old new (omega (arith, opens.clock)) (opens_more s name old new opens.levels.low opens.levels))
      opens.owners
      (λ es stack. opens_covers s name old new opens.levels.low opens.levels opens.clock opens.held es stack)
      opens_same
      stands)

  pub pages_held : (old new : Transactions) → HoldsOthers old new → PagesStand value old stores ys → PagesStand value new stores ys
  pages_held old new by stands = subst (λ (x : Transactions). PagesStand value x stores ys) (sym by.rest) (moved next (turned same ys) ys (turned_same ys)
      (pages_turned value same (λ viewer. viewer) old next stores ys
      (later_keeps old next (omega arith) (λ t low. omega arith))
      (record { owners = λ st given. and_same (owner_of old st); issued = λ st given. record { place = given.place; undos = given.undos; clock = given.clock } })
      (λ es stack. held_covers old new.held es by.kept)
      opens_same
      stands))
    where
      next : Transactions
      next = record old { held = new.held }

-- A reclamation of all three stores.

key_vacuumed : {D : Type 0} (erases : D → Bool) (x : Transactions) (viewer : Viewer) (vs : List (Version D)) → IsStack x (standing x vs) → any_open viewer (standing x (vacuumed erases x vs)) ≡ any_open viewer (standing x vs)
key_vacuumed erases x viewer vs stack = ap (any_open viewer) (standing_vacuumed erases x vs) ∙ reclaimed_any_open erases x viewer (standing x vs) stack

module _ {P : Type 0} (value : ℕ → P → Option Content) (erases : P → Bool) (x : Transactions) (stores : Stores P) (ys : List (Edit Deed)) where
  cut_vacuumed : PagesStand value x stores ys → (viewer : Viewer) (o n : ℕ) → cut_open viewer x (stores_vacuumed erases x stores) o n ≡ cut_open viewer x stores o n
  cut_vacuumed stands viewer o zero = refl
  cut_vacuumed stands viewer o (suc n) = rw (cut_vacuumed stands viewer o n, key_vacuumed is_erasure x viewer (stores.cuts o n) (stands.cuts o n).versions) refl

  gives_false : (clock : ℕ) (deed : Option (List ℕ)) → is_erasure deed ≡ true → there clock deed ≡ false
  gives_false clock None is = refl
  gives_false clock (Some bytes) is = absurd (false≢true is)

  pub pages_vacuumed : Erases erases value None → PagesStand value x stores ys → PagesStand value x (stores_vacuumed erases x stores) ys
  pages_vacuumed gives stands = record {
    proper = stands.proper;
    objects = λ o. stands_vacuumed is_erasure there (after_head o) false x (stores.objects o) (at_object o ys) (record { gives = gives_false }) (stands.objects o);
    pages = λ o b. stands_vacuumed erases value (after_page o b) None x (stores.pages o b) (at_page o b ys) gives (stands.pages o b);
    cuts = λ o b. stands_vacuumed is_erasure no_value after_cut tt x (stores.cuts o b) (at_cut o b ys) (record { gives = λ clock deed is. refl }) (stands.cuts o b);
    busy = λ o b. record { alike = λ viewer. rw (key_vacuumed is_erasure x viewer (stores.objects o) (stands.objects o).versions, key_vacuumed erases x viewer (stores.pages o b) (stands.pages o b).versions, cut_vacuumed stands viewer o b, key_vacuumed is_erasure x viewer (stores.cuts o b) (stands.cuts o b).versions) ((stands.busy o b).alike viewer) };
    clean = stands.clean;
  }
