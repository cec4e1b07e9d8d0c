-- A change of one row keeps what is kept of rows: its history gets one edit, and each value stands for the edits of its row.
use Rattle.std.proofs.Common.{◌≡◌, ◌≢◌, ℕ, ℤ, ◌+◌, ◌<◌, ◌≤◌, inl, inr, Bool, true, false, cond, List, [], ◌∷◌, ◌++◌, length, Option, None, refl, ap, sym, subst, ◌∙◌, arith}
use Rattle.std.specs.Prelude.{◌&&◌, ◌==◌}
use Rattle.std.specs.Ordering.{int_eq}
use Rattle.std.proofs.lemmas.Bool.{false≢true}
use Rattle.std.proofs.lemmas.Bool.Decides.{Decides-int_eq, nat_tests}
use Rattle.lo_base.specs.declared.value.Cell.{Cell}
use Rattle.lo_model.specs.declared.owner.Owner.TheVariants.{Running}
use Rattle.lo_model.specs.declared.viewer.Viewer.TheVariants.{Whole}
use Rattle.lo_model.specs.Edit.{Edit}
use Rattle.lo_model.specs.View.{view}
use Rattle.xact_core.specs.Kept.{HoldsWholeViews, current}
use Rattle.xact_core.specs.Transactions.{Transactions, levels_of}
use Rattle.xact_core.proofs.KeptViews.{whole_kept}
use Rattle.row_versions.specs.Found.{given}
use Rattle.row_versions.specs.Looks.{IsLook}
use Rattle.row_versions.specs.Search.{busy_at}
use Rattle.row_versions.specs.Stack.{Each, IsFreeFor}
use Rattle.row_versions.specs.Stands.{BusyAlike, Stands, made_now, replaces, standing}
use Rattle.row_versions.specs.Vacuum.{any_open}
use Rattle.row_versions.proofs.Agreeing.{busy_pushed}
use Rattle.row_versions.proofs.Going.{free_from_lowest}
use Rattle.row_versions.proofs.Laws.{stands_pushed, standing_end}
use Rattle.row_versions.proofs.Lowest.{lowest_alike}
use Rattle.toast_chunks.specs.Calls.{IsFree, Stores}
use Rattle.toast_chunks.specs.Standing.{NoneLeft, Stand, left_by}
use Rattle.toast_chunks.specs.Values as toast
use Rattle.toast_chunks.proofs.Standing.{stand_erased, stand_free, stand_kept, stand_others, stand_reads, stand_stored}
use Rattle.row_tables.specs.declared.row_key.RowKey.{RowKey}
use Rattle.row_tables.specs.declared.tables.Tables.{Tables}
use Rattle.row_tables.specs.Cells.{Moved, Told, has_moved, is_among, told_with}
use Rattle.row_tables.specs.Keys.{key_cmp, same_key}
use Rattle.row_tables.specs.Outside.{ChangesRow, ErasedBetween, StoredBetween}
use Rattle.row_tables.specs.Standing.{HasCells, IsNoKey, Kept, cells_at, gives, versions_of}
use Rattle.row_tables.proofs.Changing.{IsChange, IsOwn, by_moved, content_stays, each_both, gives_had, gives_none, has, moved_below, own_has, told_spared}
use Rattle.row_tables.proofs.EachOf.{each_append, or_false}
use Rattle.row_tables.proofs.ReadRows.{finds_left, has_cells, left_of_value}

pub same_key_is : (a b : RowKey) → same_key a b ≡ true → a ≡ b
same_key_is a b is = by_tests (a.table == b.table) (int_eq a.id b.id) refl refl is
  where
    by_tests : (t i : Bool) → (a.table == b.table) ≡ t → int_eq a.id b.id ≡ i → (t && i) ≡ true → a ≡ b
    by_tests true true table id both = let same_table : a.table ≡ b.table = grind (arith, nat_tests, table) in let same_id : a.id ≡ b.id = (Decides-int_eq a.id b.id).0 id in ap (λ (k : ℕ). record { table = k; id = a.id }) same_table ∙ ap (λ (z : ℤ). record { table = b.table; id = z }) same_id
    by_tests true false table id both = absurd (false≢true both)
    by_tests false i table id both = absurd (false≢true both)

pub same_key_itself : (a : RowKey) → same_key a a ≡ true
same_key_itself a = rw ((Decides-int_eq a.id a.id).1 refl) (grind (arith, nat_tests))

pub other_key : (a b : RowKey) → same_key a b ≡ false → a ≢ b
other_key a b is same = false≢true (sym is ∙ subst (λ (k : RowKey). same_key a k ≡ true) same (same_key_itself a))

-- who may change a row by its versions may do so by its edits
pub free_for : (x : Transactions) (s : ℕ) (tables : Tables) (kept : Kept x tables) (key : RowKey) → busy_at key_cmp x s tables.rows key ≡ None → Each (λ (e : Edit (Option (List Cell))). IsFreeFor s e.owner) (kept.edits key)
free_for x s tables kept key free = free_from_lowest s (kept.edits key) (sym (lowest_alike s (standing x (versions_of tables key)) (kept.edits key) (λ t. sym (or_false (any_open (Whole t) (standing x (versions_of tables key)))) ∙ (kept.alike key).alike (Whole t))) ∙ free)

-- and may erase the values that it has
pub erasable : (x : Transactions) (s : ℕ) (tables : Tables) (kept : Kept x tables) (key : RowKey) → busy_at key_cmp x s tables.rows key ≡ None → (n : ℕ) → (kept.told n).home ≡ key → IsFree x s tables.chunks n
erasable x s tables kept key free n home = stand_free (gives kept.told n) x s tables.chunks n (kept.edits (kept.told n).home) (kept.values n) (subst (λ (k : RowKey). Each (λ (e : Edit (Option (List Cell))). IsFreeFor s e.owner) (kept.edits k)) (sym home) (free_for x s tables kept key free))

-- the histories with one edit more of a row
abbrev pub with_edit : (RowKey → List (Edit (Option (List Cell)))) → RowKey → Edit (Option (List Cell)) → RowKey → List (Edit (Option (List Cell)))
with_edit edits key e k = cond (same_key k key) (edits k ++ e ∷ []) (edits k)

module _ (x : Transactions) (s : ℕ) (one : 1 ≤ s) (some : 0 < length (levels_of x s)) (whole : HoldsWholeViews x) (old new : Tables) (key : RowKey) (kept : Kept x old) (free : busy_at key_cmp x s old.rows key ≡ None) (moved : List Moved) (gone : List ℕ) (content : Option (List Cell)) (changes : ChangesRow x s key moved gone content old new) (is : IsChange x.clock key kept.told (toast.next_number old.chunks) moved gone (cells_at x (current x s) old key) content) where
  abbrev pub tell : ℕ → Told
  tell n = told_with x.clock key moved kept.told n

  abbrev pub made : Edit (Option (List Cell))
  made = made_now x s content

  abbrev pub edits : RowKey → List (Edit (Option (List Cell)))
  edits k = with_edit kept.edits key made k

  -- an edit of the row, and of another one

  pub edits_here : edits key ≡ kept.edits key ++ made ∷ []
  edits_here = rw (same_key_itself key) refl

  pub edits_other : (k : RowKey) → same_key k key ≡ false → edits k ≡ kept.edits k
  edits_other k apart = rw apart refl

  -- what holds of the row and of each other one holds of each
  by_key : (P : RowKey → Type 0) → P key → ((k : RowKey) → same_key k key ≡ false → P k) → (k : RowKey) → P k
  by_key P here others k = by_test (same_key k key) refl
    where
      by_test : (b : Bool) → same_key k key ≡ b → P k
      by_test true same = subst P (sym (same_key_is k key same)) here
      by_test false apart = others k apart

  own : Each (λ (e : Edit (Option (List Cell))). IsFreeFor s e.owner) (kept.edits key)
  own = free_for x s old kept key free

  look : IsLook x (current x s)
  look = whole_kept x s some

  -- rows

  pub rows_by : (k : RowKey) → Stands x given (replaces given) None (versions_of new k) (edits k)
  rows_by = by_key (λ k. Stands x given (replaces given) None (versions_of new k) (edits k))
      (rw (edits_here, changes.version.here) (stands_pushed given (replaces given) None x s (versions_of old key) (kept.edits key) changes.version.version content one some whole changes.version.is_new own changes.version.deed_is (kept.rows key)))
      (λ k apart. rw (edits_other k apart, changes.version.others k (other_key k key apart)) (kept.rows k))

  pub alike_by : (k : RowKey) → BusyAlike (standing x (versions_of new k) ∷ []) (edits k)
  alike_by = by_key (λ k. BusyAlike (standing x (versions_of new k) ∷ []) (edits k))
      (rw (edits_here, changes.version.here, standing_end x changes.version.version (Running s (length (levels_of x s))) changes.version.is_new.owner (versions_of old key))
      (busy_pushed [] [] (standing x (versions_of old key)) (kept.edits key) _ x.clock (Running s (length (levels_of x s))) _ content (kept.alike key)))
      (λ k apart. rw (edits_other k apart, changes.version.others k (other_key k key apart)) (kept.alike k))

  -- values

  abbrev pub found : Option (List Cell)
  found = cells_at x (current x s) old key

  next_grows : toast.next_number old.chunks ≤ toast.next_number new.chunks
  next_grows = omega (arith, changes.moves.next, changes.erases.next)

  pub told_old : (n : ℕ) → n < toast.next_number old.chunks → tell n ≡ kept.told n
  told_old n below = told_spared x.clock key moved kept.told n (moved_below (toast.next_number old.chunks) n moved is.new below)

  -- what the session has of a value before the change
  left_found : (n : ℕ) → left_by (gives kept.told n) (view (x.clock + 1) (Whole s) (kept.edits key)) ≡ gives kept.told n x.clock found
  left_found n = left_of_value kept.told n x.clock (view (x.clock + 1) (Whole s) (kept.edits key)) ∙ ap (gives kept.told n x.clock) (sym (finds_left x (current x s) old kept look key))

  found_own : (n : ℕ) → has n found ≡ true → IsOwn kept.told key (toast.next_number old.chunks) n
  found_own n had = own_has kept.told key old found n (has_cells x (current x s) old kept look key) had

  gone_own : (n : ℕ) → is_among gone n ≡ true → IsOwn kept.told key (toast.next_number old.chunks) n
  gone_own n among = found_own n (is.had n among)

  new_not_gone : (n : ℕ) → toast.next_number old.chunks ≤ n → is_among gone n ≡ false
  new_not_gone n low = by_test (is_among gone n) refl
    where
      by_test : (b : Bool) → is_among gone n ≡ b → b ≡ false
      by_test true among = absurd (omega (arith, low, (gone_own n among).below))
      by_test false among = refl

  -- no edit before the change has a number that comes after

  none_before : (n : ℕ) → toast.next_number old.chunks ≤ n → (es : List (Edit (Option (List Cell)))) → Each (λ (e : Edit (Option (List Cell))). HasCells kept.told key old e.deed) es → NoneLeft (gives tell n) es
  none_before n low [] each = tt
  none_before n low (e ∷ es) each = (gives_none tell n e.clock e.deed (by_test (has n e.deed) refl), none_before n low es each.1)
    where
      by_test : (b : Bool) → has n e.deed ≡ b → b ≡ false
      by_test true had = absurd (omega (arith, low, (own_has kept.told key old e.deed n each.0 had).below))
      by_test false had = refl

  -- a value that moved out
  stored_here : (n : ℕ) → has_moved moved n ≡ true → Stand (gives tell n) x new.chunks n (kept.edits key ++ made ∷ [])
  stored_here n now = by_moved (λ (m : Moved). StoredBetween x s changes.between m × ((toast.next_number old.chunks ≤ m.number) × (tell m.number ≡ record { bytes = m.bytes; moved = x.clock; home = key }))) (Stand (gives tell n) x new.chunks n (kept.edits key ++ made ∷ [])) n moved
      (each_both (StoredBetween x s changes.between) (λ (m : Moved). (toast.next_number old.chunks ≤ m.number) × (tell m.number ≡ record { bytes = m.bytes; moved = x.clock; home = key })) moved changes.moves.here (each_both (λ (m : Moved). toast.next_number old.chunks ≤ m.number) (λ (m : Moved). tell m.number ≡ record { bytes = m.bytes; moved = x.clock; home = key }) moved is.new is.said))
      now (λ m facts here. at m facts.0 facts.1.0 facts.1.1 here)
    where
      at : (m : Moved) → StoredBetween x s changes.between m → toast.next_number old.chunks ≤ m.number → tell m.number ≡ record { bytes = m.bytes; moved = x.clock; home = key } → m.number ≡ n → Stand (gives tell n) x new.chunks n (kept.edits key ++ made ∷ [])
      at m stored low says here =
          stand_others (gives tell n) x changes.between new.chunks n (kept.edits key ++ made ∷ []) (λ k. changes.erases.others n k (new_not_gone n high))
          (stand_others (gives tell n) x stored.after changes.between n (kept.edits key ++ made ∷ []) (λ k. subst (λ (j : ℕ). toast.versions_of changes.between j k ≡ toast.versions_of stored.after j k) here (stored.since k))
          (stand_stored (gives tell n) x s one some whole (kept.edits key) own content m.bytes stored.before stored.after n (kept.rows key).edits (none_before n high (kept.edits key) (kept.cells key)) gives_it (subst (λ (j : ℕ). Stores x s m.bytes stored.before stored.after j) here stored.stores)))
        where
          high : toast.next_number old.chunks ≤ n
          high = omega (arith, low, here)

          gives_it : gives tell n x.clock content ≡ m.bytes
          gives_it = gives_had tell n x.clock content (is.here n now) ∙ (ap (λ (j : ℕ). (tell j).bytes) (sym here) ∙ ap (λ (t : Told). t.bytes) says)

  -- a value whose chunks did not change
  same_chunks : (n : ℕ) → has_moved moved n ≡ false → is_among gone n ≡ false → (k : ℕ) → toast.versions_of new.chunks n k ≡ toast.versions_of old.chunks n k
  same_chunks n stays left k = changes.erases.others n k left ∙ changes.moves.others n k stays

  -- a value of the row that stays in it, or out of it
  kept_here : (n : ℕ) → has_moved moved n ≡ false → is_among gone n ≡ false → (kept.told n).home ≡ key → Stand (gives kept.told n) x new.chunks n (kept.edits key ++ made ∷ [])
  kept_here n stays left home =
      stand_others (gives kept.told n) x old.chunks new.chunks n (kept.edits key ++ made ∷ []) (same_chunks n stays left)
      (stand_kept (gives kept.told n) x s one some whole (kept.edits key) own content old.chunks n (by_has (has n content) (has n found) refl refl (is.others n stays left) ∙ sym (left_found n)) (subst (λ (k : RowKey). Stand (gives kept.told n) x old.chunks n (kept.edits k)) home (kept.values n)))
    where
      by_has : (a b : Bool) → has n content ≡ a → has n found ≡ b → has n content ≡ has n found → gives kept.told n x.clock content ≡ gives kept.told n x.clock found
      by_has true true new_has old_has same = gives_had kept.told n x.clock content new_has ∙ sym (gives_had kept.told n x.clock found old_has)
      by_has false false new_has old_has same = gives_none kept.told n x.clock content new_has ∙ sym (gives_none kept.told n x.clock found old_has)
      by_has true false new_has old_has same = absurd (false≢true (sym old_has ∙ (sym same ∙ new_has)))
      by_has false true new_has old_has same = absurd (false≢true (sym new_has ∙ (same ∙ old_has)))

  -- a value that was erased
  erased_here : (n : ℕ) → has_moved moved n ≡ false → is_among gone n ≡ true → Stand (gives kept.told n) x new.chunks n (kept.edits key ++ made ∷ [])
  erased_here n stays among =
      stand_others (gives kept.told n) x erased.after new.chunks n (kept.edits key ++ made ∷ []) erased.since
      (stand_erased (gives kept.told n) x s one some whole (kept.edits key) own content (gives kept.told n x.clock found) erased.before erased.after n (left_found n) (gives_none kept.told n x.clock content (is.lost n among)) (erased.erases (gives kept.told n x.clock found) (subst (λ (bytes : List ℕ). toast.HasValue x (current x s) erased.before n bytes) (left_found n) (stand_reads (gives kept.told n) x erased.before n (kept.edits key) (current x s) before look))) before)
    where
      erased : ErasedBetween x s changes.between new.chunks n
      erased = changes.erases.here n among

      before : Stand (gives kept.told n) x erased.before n (kept.edits key)
      before = stand_others (gives kept.told n) x old.chunks erased.before n (kept.edits key) (λ k. erased.until k ∙ changes.moves.others n k stays) (subst (λ (k : RowKey). Stand (gives kept.told n) x old.chunks n (kept.edits k)) (gone_own n among).home (kept.values n))

  -- each value stands for the edits of the row that it is of now

  other_row : (n : ℕ) → (b : Bool) → same_key (kept.told n).home key ≡ b → has_moved moved n ≡ false → is_among gone n ≡ false → Stand (gives kept.told n) x new.chunks n (edits (kept.told n).home)
  other_row n true same stays left = subst (λ (k : RowKey). Stand (gives kept.told n) x new.chunks n (edits k)) (sym (same_key_is (kept.told n).home key same)) (rw edits_here (kept_here n stays left (same_key_is (kept.told n).home key same)))
  other_row n false apart stays left = rw (edits_other (kept.told n).home apart) (stand_others (gives kept.told n) x old.chunks new.chunks n (kept.edits (kept.told n).home) (same_chunks n stays left) (kept.values n))

  pub values_by : (n : ℕ) → Stand (gives tell n) x new.chunks n (edits (tell n).home)
  values_by n = by_tests (has_moved moved n) (is_among gone n) refl refl
    where
      home_new : has_moved moved n ≡ true → (tell n).home ≡ key
      home_new now = by_moved (λ (m : Moved). tell m.number ≡ record { bytes = m.bytes; moved = x.clock; home = key }) ((tell n).home ≡ key) n moved is.said now (λ m says here. ap (λ (j : ℕ). (tell j).home) (sym here) ∙ ap (λ (t : Told). t.home) says)

      -- what was told of it before is told of it now
      as_told : has_moved moved n ≡ false → Stand (gives kept.told n) x new.chunks n (edits (kept.told n).home) → Stand (gives tell n) x new.chunks n (edits (tell n).home)
      as_told stays stand = subst (λ (t : Told). Stand (gives (λ j. t) n) x new.chunks n (edits t.home)) (sym (told_spared x.clock key moved kept.told n stays)) stand

      by_tests : (a b : Bool) → has_moved moved n ≡ a → is_among gone n ≡ b → Stand (gives tell n) x new.chunks n (edits (tell n).home)
      by_tests true b now among = subst (λ (k : RowKey). Stand (gives tell n) x new.chunks n (edits k)) (sym (home_new now)) (rw edits_here (stored_here n now))
      by_tests false true stays among = as_told stays (subst (λ (k : RowKey). Stand (gives kept.told n) x new.chunks n (edits k)) (sym (gone_own n among).home) (rw edits_here (erased_here n stays among)))
      by_tests false false stays left = as_told stays (other_row n (same_key (kept.told n).home key) refl stays left)

  -- cells

  cells_old : (k : RowKey) (es : List (Edit (Option (List Cell)))) → Each (λ (e : Edit (Option (List Cell))). HasCells kept.told k old e.deed) es → Each (λ (e : Edit (Option (List Cell))). HasCells tell k new e.deed) es
  cells_old k [] each = tt
  cells_old k (e ∷ es) each = (content_stays kept.told tell k old new changes.catalog next_grows told_old e.deed each.0, cells_old k es each.1)

  pub cells_by : HasCells tell key new content → (k : RowKey) → Each (λ (e : Edit (Option (List Cell))). HasCells tell k new e.deed) (edits k)
  cells_by good = by_key (λ k. Each (λ (e : Edit (Option (List Cell))). HasCells tell k new e.deed) (edits k))
      (rw edits_here (each_append (λ (e : Edit (Option (List Cell))). HasCells tell key new e.deed) (kept.edits key) (made ∷ []) (cells_old key (kept.edits key) (kept.cells key)) (good, tt)))
      (λ k apart. rw (edits_other k apart) (cells_old k (kept.edits k) (kept.cells k)))

  pub none_by : (IsNoKey old key → ⊥) → (k : RowKey) → IsNoKey new k → edits k ≡ []
  none_by there = by_key (λ k. IsNoKey new k → edits k ≡ [])
      (λ no. absurd (there (before key no)))
      (λ k apart no. rw (edits_other k apart) (kept.none k (before k no)))
    where
      before : (k : RowKey) → IsNoKey new k → IsNoKey old k
      before k (inl high) = inl (subst (λ tables. length tables ≤ k.table) changes.catalog high)
      before k (inr unfit) = inr unfit

  abbrev pub kept_changed : HasCells tell key new content → (IsNoKey old key → ⊥) → Kept x new
  kept_changed good there = record {
    told = tell;
    edits = edits;
    rows = rows_by;
    alike = alike_by;
    values = values_by;
    cells = cells_by good;
    none = none_by there;
  }
