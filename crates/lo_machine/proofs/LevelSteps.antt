-- What each move of levels is made of: descriptors that end or move, calls of the transactions, and what a session is then.
use Rattle.std.proofs.Common.{◌≡◌, ◌≤◌, ◌<◌, ℕ, zero, suc, ◌+◌, ◌-◌, Bool, true, false, List, [], ◌∷◌, ◌++◌, length, Option, refl, ap, sym, subst, ◌∙◌, arith, take}
use Rattle.std.specs.Prelude.{All, map, nat_lt}
use Rattle.std.proofs.lemmas.Bool.Decides.{nat_tests}
use Rattle.std.proofs.lemmas.List.Elements.{All-nil, All-head, All-tail, All-map, All-filter, All-weaker}
use Rattle.lo_model.specs.Descriptor.{Cursor, Descriptor, cursor_released, cursors_below, descriptor_released, descriptors_below}
use Rattle.lo_model.specs.declared.owner.Owner.{Owner}
use Rattle.lo_model.specs.Edit.{Deed, Edit}
use Rattle.lo_model.specs.Levels.{undone}
use Rattle.lo_model.specs.Session.{idle_session, session_released, session_undone}
use Rattle.xact_core.specs.declared.snapshot.Snapshot.{Snapshot}
use Rattle.xact_core.specs.Ends.{Opens}
use Rattle.xact_core.specs.Ends.{Ends as Ended}
use Rattle.xact_core.specs.Kept.{kept_views, HoldsOthers, HoldsWholeViews}
use Rattle.xact_core.specs.Transactions.{Transactions, HasLevels, levels_of}
use Rattle.row_versions.specs.Calls.{UndoesLevel}
use Rattle.row_versions.specs.Stack.{Each}
use Rattle.row_versions.specs.Stands.{Version, AddsOwn, IsNew}
use Rattle.lo_pages.specs.declared.pages.Pages.{Pages}
use Rattle.lo_pages.specs.Outcome.{LeavesOwn}
use Rattle.lo_pages.specs.Standing.{GoWith, StandFor}
use Rattle.lo_pages.proofs.Standing.{stand_held, left_undone}
use Rattle.lo_calls.proofs.Closing.{holds_same}
use Rattle.row_versions.proofs.Going.{goes_holds}
use Rattle.toast_chunks.proofs.Leaving.{go_held as go_chunks_held}
use Rattle.row_tables.specs.declared.cursors.Cursors.{Cursors}
use Rattle.row_tables.specs.declared.tables.Tables.{Tables}
use Rattle.row_tables.specs.Cursors as cursors
use Rattle.row_tables.specs.Keys.{exact_keys, key_cmp}
use Rattle.row_tables.specs.Standing.{Go}
use Rattle.row_tables.specs.Standing as tables
use Rattle.row_tables.specs.World as calls
use Rattle.row_tables.proofs.Laws.{keys_total, with_held}
use Rattle.row_tables.proofs.Leaving as rows
use Rattle.row_tables.proofs.Resting.{for_held}
use Rattle.lo_calls.specs.declared.descs.Descs.{Descs}
use Rattle.lo_calls.specs.Descriptors.{descriptors_of, holds_of, AreOpen, Ends}
use Rattle.lo_machine.specs.Server.{IsLeveled}
use Rattle.lo_machine.specs.Later.{later, later_cursor, all_later, all_later_cursors}
use Rattle.lo_machine.specs.Moves.{session_opened}
use Rattle.lo_machine.specs.Well.{IsFirst}
use Rattle.lo_machine.proofs.LevelMoves.{Turned, IsAfter}
use Rattle.lo_machine.proofs.RowsAlike.{filter_later}

-- descriptors of which none ended
pub ends_kept : (x x' : Transactions) (old new : Descs) → x' ≡ x → holds_of new ≡ holds_of old → ((s : ℕ) → AreOpen x s old → AreOpen x' s new) → Ends x x' old new
ends_kept x x' old new same holds remain = record {
  others = subst (HoldsOthers x) (sym same) (holds_same x);
  holds = record { rest = λ others all. rw (same, holds) all };
  whole = λ before. subst HoldsWholeViews (sym same) before;
  views = let count = ap (λ (u : Transactions). length (kept_views u)) same in omega (arith, count);
  remain = remain;
}

-- cursors of which none ended
pub cursors_kept : (x x' : Transactions) (old new : Cursors) → x' ≡ x → cursors.holds_of new ≡ cursors.holds_of old → (cursors.AreOpen x old → cursors.AreOpen x new) → cursors.Ends x x' old new
cursors_kept x x' old new same holds remain = record {
  others = subst (HoldsOthers x) (sym same) (holds_same x);
  holds = record { rest = λ others all. rw (same, holds) all };
  whole = λ before. subst HoldsWholeViews (sym same) before;
  views = let count = ap (λ (u : Transactions). length (kept_views u)) same in omega (arith, count);
  remain = λ before. subst (λ (u : Transactions). cursors.AreOpen u new) (sym same) (remain before);
}

pub ends_none : (x : Transactions) (descs : Descs) → Ends x x descs descs
ends_none x descs = ends_kept x x descs descs refl refl (λ s open'. open')

-- the first level has no name
pub first_taken : (count : ℕ) (names : List (Option (List ℕ))) → IsFirst names → IsFirst (take count names)
first_taken zero names first = tt
first_taken (suc count) [] first = tt
first_taken (suc count) (name ∷ names) first = first

pub first_more : (names : List (Option (List ℕ))) (name : Option (List ℕ)) → 0 < length names → IsFirst names → IsFirst (names ++ name ∷ [])
first_more [] name some first = absurd (omega (arith, some))
first_more (level ∷ names) name some first = first

-- the calls of the transactions
pub turned_begun : (s : ℕ) (name : Option (List ℕ)) (names : List (Option (List ℕ))) (x x' : Transactions) → levels_of x s ++ name ∷ [] ≡ names → (IsFirst (levels_of x s) → IsFirst names) → Opens s name x x' → Turned s names x x'
turned_begun s name names x x' is first by = record {
  levels = subst (λ (all : List (Option (List ℕ))). HasLevels s all x x') is by.levels;
  clock = by.clock;
  held = by.held;
  undos = omega (arith, by.undos);
  views = by.views;
  first = first;
}

pub turned_ended : (turn : Owner → Option Owner) (s left : ℕ) (names : List (Option (List ℕ))) (x x' : Transactions) → levels_of x s ≡ names → x'.undos ≤ x.undos + 1 → Ended turn s left x x' → Turned s (take left names) x x'
turned_ended turn s left names x x' same undos by = record {
  levels = subst (λ (all : List (Option (List ℕ))). HasLevels s (take left all) x x') same by.levels;
  clock = by.clock;
  held = by.held;
  undos = undos;
  views = omega (arith, by.views);
  first = λ first. first_taken left names (subst IsFirst same first);
}

-- what becomes of the session
pub after_opened : (name : Option (List ℕ)) (names names' : List (Option (List ℕ))) (flag : Bool) (descs : Descs) (cs : List Cursor) → names ++ name ∷ [] ≡ names' → IsAfter names names' flag flag descs descs cs cs (session_opened name)
after_opened name names names' flag descs cs more = record {
  levels = λ session is. sym more ∙ ap (λ (all : List (Option (List ℕ))). all ++ name ∷ []) is;
  failed = λ session is. is;
  descriptors = λ session is. is;
  cursors = λ session leveled is. is;
  leveled = λ session leveled. leveled;
}

released_later : (k : ℕ) (ds : List Descriptor) → map (descriptor_released k) (all_later ds) ≡ all_later (map (descriptor_released k) ds)
released_later k [] = refl
released_later k (d ∷ ds) = ap (λ (rest : List Descriptor). later (descriptor_released k d) ∷ rest) (released_later k ds)

cursors_released_later : (k : ℕ) (cs : List Cursor) → map (cursor_released k) (all_later_cursors cs) ≡ all_later_cursors (map (cursor_released k) cs)
cursors_released_later k [] = refl
cursors_released_later k (c ∷ cs) = ap (λ (rest : List Cursor). later_cursor (cursor_released k c) ∷ rest) (cursors_released_later k cs)

pub after_released : (k : ℕ) (low : 2 ≤ k) (names : List (Option (List ℕ))) (flag flag' : Bool) (own own' : Descs) (cs cs' : List Cursor) → flag ≡ flag' → descriptors_of own' ≡ map (descriptor_released k) (descriptors_of own) → cs' ≡ map (cursor_released k) cs → IsAfter names (take (k - 1) names) flag flag' own own' cs cs' (session_released k)
after_released k low names flag flag' own own' cs cs' same moved given = record {
  levels = λ session is. ap (take (k - 1)) is;
  failed = λ session is. sym same ∙ is;
  descriptors = λ session is. moved ∙ ap (map (descriptor_released k)) is ∙ released_later k session.descriptors;
  cursors = λ session leveled is. given ∙ ap (map (cursor_released k)) is ∙ cursors_released_later k session.cursors;
  leveled = λ session leveled. All-map IsLeveled (cursor_released k) session.cursors (All-weaker IsLeveled (λ (c : Cursor). IsLeveled (cursor_released k c)) lower session.cursors leveled);
}
  where
    lower : (c : Cursor) → IsLeveled c → IsLeveled (cursor_released k c)
    lower c least = omega (arith, low, least)

cursors_filtered_later : (k : ℕ) (cs : List Cursor) → cursors_below k (all_later_cursors cs) ≡ all_later_cursors (cursors_below k cs)
cursors_filtered_later k [] = refl
cursors_filtered_later k (c ∷ cs) = by (nat_lt c.level k) refl (cursors_filtered_later k cs)
  where
    by : (b : Bool) → nat_lt c.level k ≡ b → cursors_below k (all_later_cursors cs) ≡ all_later_cursors (cursors_below k cs) → cursors_below k (all_later_cursors (c ∷ cs)) ≡ all_later_cursors (cursors_below k (c ∷ cs))
    by true is rest = rw (is, rest) refl
    by false is rest = rw (is, rest) refl

pub after_undone : (k : ℕ) (names : List (Option (List ℕ))) (flag failed : Bool) (own own' : Descs) (cs cs' : List Cursor) → descriptors_of own' ≡ descriptors_below k (descriptors_of own) → cs' ≡ cursors_below k cs → IsAfter names (take k names) flag failed own own' cs cs' (session_undone k failed)
after_undone k names flag failed own own' cs cs' left kept = record {
  levels = λ session is. ap (take k) is;
  failed = λ session is. refl;
  descriptors = λ session is. left ∙ ap (descriptors_below k) is ∙ filter_later (λ (d : Descriptor). nat_lt d.level k) (λ d. refl) session.descriptors;
  cursors = λ session leveled is. kept ∙ ap (cursors_below k) is ∙ cursors_filtered_later k session.cursors;
  leveled = λ session leveled. All-filter (λ (c : Cursor). nat_lt c.level k) IsLeveled session.cursors leveled;
}

-- cursors of levels from 1 on

none_below : (cs : List Cursor) → All IsLeveled cs → cursors_below 1 (all_later_cursors cs) ≡ []
none_below [] all = refl
none_below (c ∷ cs) all =
    let high : 1 ≤ c.level = All-head IsLeveled c cs all in
    let test : nat_lt c.level 1 ≡ false = grind (arith, nat_tests, high) in
    rw test (none_below cs (All-tail IsLeveled c cs all))

pub after_ended : (names : List (Option (List ℕ))) (flag flag' : Bool) (own own' : Descs) (cs cs' : List Cursor) → flag' ≡ false → descriptors_of own' ≡ [] → cs' ≡ cursors_below 1 cs → IsAfter names [] flag flag' own own' cs cs' (λ session. idle_session)
after_ended names flag flag' own own' cs cs' unfailed none left = record {
  levels = λ session is. refl;
  failed = λ session is. unfailed;
  descriptors = λ session is. none;
  cursors = λ session leveled is. left ∙ ap (cursors_below 1) is ∙ none_below session.cursors leveled;
  leveled = λ session leveled. All-nil IsLeveled;
}

-- What a call leaves is told without the views that are held.

own_in : {D : Type 0} (x : Transactions) (held : List Snapshot) (s : ℕ) (vs : List (Version D)) → Each (IsNew x s) vs → Each (IsNew (record x { held = held }) s) vs
own_in x held s [] own = tt
own_in x held s (v ∷ vs) (here, rest) = (record { clock = here.clock; owner = here.owner; issued = record { place = here.issued.place; undos = here.issued.undos; clock = here.issued.clock } }, own_in x held s vs rest)

adds_in : {D : Type 0} (x : Transactions) (held : List Snapshot) (s : ℕ) (old new : List (Version D)) → AddsOwn x s old new → AddsOwn (record x { held = held }) s old new
adds_in x held s old new adds = record { more = adds.more; is = adds.is; own = own_in x held s adds.more adds.own }

leaves_in : (x x' : Transactions) (s : ℕ) (before after : Pages) → HoldsOthers x x' → LeavesOwn x s before after → LeavesOwn x' s before after
leaves_in x x' s before after others left = subst (λ (u : Transactions). LeavesOwn u s before after) (sym others.rest) (record {
  adds = record {
    objects = λ o. adds_in x x'.held s _ _ (left.adds.objects o);
    pages = λ o b. adds_in x x'.held s _ _ (left.adds.pages o b);
    cuts = λ o b. adds_in x x'.held s _ _ (left.adds.cuts o b);
  };
})

rows_in : (x x' : Transactions) (s : ℕ) (before after : Tables) → HoldsOthers x x' → calls.LeavesOwn x s before after → calls.LeavesOwn x' s before after
rows_in x x' s before after others left = subst (λ (u : Transactions). calls.LeavesOwn u s before after) (sym others.rest) (record {
  rows = λ key. adds_in x x'.held s _ _ (left.rows key);
  chunks = record { adds = λ n k. adds_in x x'.held s _ _ (left.chunks.adds n k); next = left.chunks.next };
  catalog = left.catalog;
  cursors = left.cursors;
})

-- the stores of tables go on where other views are held
pub stores_held : (x x' : Transactions) (tables : Tables) → HoldsOthers x x' → Go x tables → Go x' tables
stores_held x x' tables others go = record {
  rows = goes_holds key_cmp keys_total exact_keys x x' tables.rows others go.rows;
  chunks = go_chunks_held tables.chunks x x' others go.chunks;
}

-- the transactions that a level is undone in: that of the session, and its depth

top_in : (s k : ℕ) (x mid : Transactions) → HoldsOthers x mid → k ≡ length (levels_of x s) → k ≡ length (levels_of mid s)
top_in s k x mid others top = top ∙ sym (ap (λ (u : Transactions). length (levels_of u s)) others.rest)

pub lost_undone : (s k : ℕ) (x mid x' : Transactions) (before after : Pages) (ys : List (Edit Deed)) → HoldsOthers x mid → k ≡ length (levels_of x s) → UndoesLevel s k mid x' → GoWith mid after → LeavesOwn x s before after → StandFor x before ys → StandFor x' after (undone s k ys)
lost_undone s k x mid x' before after ys others top by goes left stands =
    let depth = top_in s k x mid others top in
    let here = left_undone s mid x' before after ys (subst (λ (n : ℕ). UndoesLevel s n mid x') depth by) (leaves_in x mid s before after others left) goes (stand_held x mid before ys others stands) in
    subst (λ (n : ℕ). StandFor x' after (undone s n ys)) (sym depth) here

-- and the same of rows
module _ (s : ℕ) (x mid x' : Transactions) (before after : Tables) (others : HoldsOthers x mid) (left : calls.LeavesOwn x s before after) (go : Go x after) where
  go_mid : Go mid after
  go_mid = stores_held x mid after others go

  left_mid : calls.LeavesOwn mid s before after
  left_mid = rows_in x mid s before after others left

  pub rows_lost_undone : (k : ℕ) (ys : List (Edit Deed)) → k ≡ length (levels_of x s) → UndoesLevel s k mid x' → tables.StandFor x before ys → tables.StandFor x' after (undone s k ys)
  rows_lost_undone k ys top by stands =
      let depth = top_in s k x mid others top in
      let here = rows.left_undone s mid x' before after ys (subst (λ (n : ℕ). UndoesLevel s n mid x') depth by) left_mid go_mid (for_held before x mid ys others stands) in
      subst (λ (n : ℕ). tables.StandFor x' after (undone s n ys)) (sym depth) here

  pub rows_go_undone : (k : ℕ) → k ≡ length (levels_of x s) → UndoesLevel s k mid x' → tables.GoWith x before → tables.GoWith x' after
  rows_go_undone k top by goes =
      rows.left_goes s mid x' before after (subst (λ (n : ℕ). UndoesLevel s n mid x') (top_in s k x mid others top) by) left_mid go_mid (with_held before x mid others goes)
