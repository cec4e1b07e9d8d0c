-- The views that a server's transactions keep are those that a state keeps for which the server stands.
use Rattle.std.proofs.Common.{◌≡◌, ◌<◌, ◌≤◌, ℕ, zero, suc, ◌+◌, ◌-◌, List, [], ◌∷◌, ◌++◌, length, map, Option, Some, None, refl, ap, sym, subst, ◌∙◌, arith, drop, append_assoc}
use Rattle.std.specs.Prelude.{All, IsPermutation, flat_map, slice_get, slice_index_or}
use Rattle.std.specs.List.{range_with_len}
use Rattle.std.proofs.lemmas.Bool.{true≢false, false≢true}
use Rattle.std.proofs.lemmas.List.{map-append}
use Rattle.std.proofs.lemmas.List.FromFn.{map-range_with_len_more}
use Rattle.std.proofs.lemmas.List.Sorted.{IsPermutation-refl, IsPermutation-sym, IsPermutation-trans, IsPermutation-cons, IsPermutation-append_comm, IsPermutation-append_right}
use Rattle.std.proofs.lemmas.Option.{slice_get_within}
use Rattle.lo_model.specs.declared.viewer.Viewer.TheVariants.{Nobody, Whole, Below}
use Rattle.lo_model.specs.Descriptor.{Reading, Kept, Current, Descriptor, Cursor, is_current, reading_clock}
use Rattle.lo_model.specs.Held.{KeptView, kept_view, reading_views, held_by_readers, views_below, held_by_levels, views_kept}
use Rattle.lo_model.specs.Session.{session_numbers}
use Rattle.lo_model.specs.Transaction.{top_level}
use Rattle.xact_core.specs.declared.snapshot.Snapshot.{Snapshot}
use Rattle.xact_core.specs.Kept.{view_at, below_views, session_views, sessions_views, kept_views}
use Rattle.xact_core.specs.Transactions.{levels_of}
use Rattle.lo_calls.specs.declared.descs.Descriptor.{Descriptor as Entry}
use Rattle.lo_calls.specs.declared.session.LoSession.{LoSession}
use Rattle.lo_calls.specs.Descriptors.{reading_of, described_by, held_by, holds_in, IsOwnHold}
use Rattle.row_tables.specs.declared.cursors.Cursor.{Cursor as OpenCursor}
use Rattle.row_tables.specs.Cursors.{holds_in as cursor_holds_in}
use Rattle.row_tables.specs.Standing.{cursors_in}
use Rattle.lo_machine.specs.declared.server.Server.{Server}
use Rattle.lo_machine.specs.Server.{xacts_of, clock_of, holds_at, all_holds, IsServer, HasSession, StandsFor, later_view, KeepsViews}
use Rattle.lo_machine.specs.Later.{later_reading, all_later}
use Rattle.lo_machine.specs.State.{State, session_of}
use Rattle.lo_machine.proofs.CursorParts.{map_flat_map, same_parts, holds_by_session, own_holds_later, own_holds as own_cursor_holds}
use Rattle.lo_machine.proofs.SessionPlaces.{middle_first}

-- the views of a session's levels

below_later : (clock s levels : ℕ) → map later_view (views_below clock s levels) ≡ below_views (clock + 1) s levels
below_later clock s zero = refl
below_later clock s (suc n) =
    let next : n + 1 ≡ suc n = omega arith in
    let more : views_below clock s (n + 1) ≡ views_below clock s n ++ kept_view clock (Below s (suc n)) ∷ [] = map-range_with_len_more (λ (l : ℕ). kept_view clock (Below s l)) 1 n (suc n) (omega arith) in
    ap (λ (levels : ℕ). map later_view (views_below clock s levels)) (sym next)
    ∙ (ap (map later_view) more
    ∙ (map-append later_view (views_below clock s n) (kept_view clock (Below s (suc n)) ∷ [])
    ∙ ap (λ (views : List Snapshot). views ++ view_at (clock + 1) (Below s (suc n)) ∷ []) (below_later clock s n)))

levels_later : (clock s : ℕ) (names : List (Option (List ℕ))) → session_views (clock + 1) s names ≡ map later_view (held_by_levels clock s (length names))
levels_later clock s [] = refl
levels_later clock s (name ∷ names) = ap (λ (views : List Snapshot). view_at (clock + 1) (Whole s) ∷ views) (sym (below_later clock s (length (name ∷ names))))

-- the views that its descriptors hold

hold_later : (s : ℕ) (hold : Option Snapshot) (reading : Reading) → IsOwnHold s hold → reading_of hold ≡ later_reading reading → held_by hold ≡ map later_view (reading_views s reading)
hold_later s None (Kept clock) own is = absurd (true≢false (ap is_current is))
hold_later s None Current own is = refl
hold_later s (Some hold) Current own is = absurd (false≢true (ap is_current is))
hold_later s (Some hold) (Kept clock) own is =
    ap (λ (n : ℕ). view_at n hold.viewer ∷ []) (ap (reading_clock 0) is)
    ∙ ap (λ (viewer : _). view_at (clock + 1) viewer ∷ []) own

holds_later : (s : ℕ) (entries : List Entry) (ds : List Descriptor) → All (λ (d : Entry). IsOwnHold s d.hold) entries → map described_by entries ≡ all_later ds → holds_in entries ≡ map later_view (flat_map (λ (d : Descriptor). reading_views s d.reading) ds)
holds_later s [] [] own is = refl
holds_later s [] (d ∷ ds) own is = let none = ap length is in absurd (omega (arith, none))
holds_later s (entry ∷ entries) [] own is = let none = ap length is in absurd (omega (arith, none))
holds_later s (entry ∷ entries) (d ∷ ds) own is =
    let first = ap (λ (all : List Descriptor). (slice_index_or all 0 d).reading) is in
    let rest = ap (λ (all : List Descriptor). drop 1 all) is in
    ap (λ (views : List Snapshot). views ++ holds_in entries) (hold_later s entry.hold d.reading (own 0 entry (omega arith)) first)
    ∙ (ap (λ (views : List Snapshot). map later_view (reading_views s d.reading) ++ views) (holds_later s entries ds (λ place e within. own (suc place) e (omega (arith, within))) rest)
    ∙ sym (map-append later_view (reading_views s d.reading) (flat_map (λ (d : Descriptor). reading_views s d.reading) ds)))

-- all sessions, from the one of a number on

levels_all : (clock first : ℕ) (levels : List (List (Option (List ℕ)))) (f : ℕ → List Snapshot) → ((place s : ℕ) → s ≡ first + place → place < length levels → session_views clock s (slice_index_or levels place []) ≡ f s) → sessions_views clock first levels ≡ flat_map f (range_with_len first (length levels))
levels_all clock first [] f each = refl
levels_all clock first (names ∷ rest) f each =
    ap (λ (views : List Snapshot). views ++ sessions_views clock (first + 1) rest) (each 0 first (omega arith) (omega arith))
    ∙ ap (λ (views : List Snapshot). f first ++ views) (levels_all clock (first + 1) rest f (λ place s is within. each (suc place) s (omega (arith, is)) (omega (arith, within))))

holds_all : (first : ℕ) (sessions : List LoSession) (f : ℕ → List Snapshot) → ((place s : ℕ) (own : LoSession) → s ≡ first + place → slice_get sessions place ≡ Some own → holds_at own ≡ f s) → all_holds sessions ≡ flat_map f (range_with_len first (length sessions))
holds_all first [] f each = refl
holds_all first (own ∷ rest) f each =
    ap (λ (views : List Snapshot). views ++ all_holds rest) (each 0 first own (omega arith) refl)
    ∙ ap (λ (views : List Snapshot). f first ++ views) (holds_all (first + 1) rest f (λ place s other is stood. each (suc place) s other (omega (arith, is)) stood))

-- two parts of each number: all first parts, and then all second ones

four_parts : {A : Type 0} (a b front back : List A) → IsPermutation ((a ++ b) ++ (front ++ back)) ((a ++ front) ++ (b ++ back))
four_parts a b front back =
    rw (append_assoc a b (front ++ back), append_assoc a front (b ++ back))
    (IsPermutation-append_right a (b ++ (front ++ back)) (front ++ (b ++ back)) (middle_first b front back))

parts_apart : {A B : Type 0} (f : A → B) (a b : ℕ → List A) (ns : List ℕ) → IsPermutation (map f (flat_map (λ (n : ℕ). a n ++ b n) ns)) (flat_map (λ (n : ℕ). map f (a n)) ns ++ flat_map (λ (n : ℕ). map f (b n)) ns)
parts_apart f a b [] = IsPermutation-refl []
parts_apart f a b (n ∷ ns) =
    let rest = flat_map (λ (n : ℕ). a n ++ b n) ns in
    let first = flat_map (λ (n : ℕ). map f (a n)) ns in
    let second = flat_map (λ (n : ℕ). map f (b n)) ns in
    rw (map-append f (a n ++ b n) rest, map-append f (a n) (b n))
    (IsPermutation-trans ((map f (a n) ++ map f (b n)) ++ map f rest) ((map f (a n) ++ map f (b n)) ++ (first ++ second)) ((map f (a n) ++ first) ++ (map f (b n) ++ second))
    (IsPermutation-append_right (map f (a n) ++ map f (b n)) (map f rest) (first ++ second) (parts_apart f a b ns))
    (four_parts (map f (a n)) (map f (b n)) first second))

module _ (e : Server) (st : State) (sound : IsServer e) (stands : StandsFor e st) where
  -- the views that a session keeps for its levels, and those for its readers
  abbrev for_levels : ℕ → List KeptView
  for_levels s = held_by_levels (clock_of e) s (top_level (session_of st s).transaction)

  abbrev for_descriptors : ℕ → List KeptView
  for_descriptors s = flat_map (λ (d : Descriptor). reading_views s d.reading) (session_of st s).descriptors

  abbrev for_cursors : ℕ → List KeptView
  for_cursors s = map (λ (c : Cursor). kept_view c.clock (Whole s)) (session_of st s).cursors

  abbrev for_readers : ℕ → List KeptView
  for_readers s = held_by_readers s (session_of st s)

  has : (place s : ℕ) → s ≡ 1 + place → place < 16 → HasSession e s (session_of st s)
  has place s is within = stands.has.sessions s (omega (arith, is)) (omega (arith, is, within))

  own_levels : (place s : ℕ) → s ≡ 1 + place → place < length (xacts_of e).levels → session_views (clock_of e + 1) s (slice_index_or (xacts_of e).levels place []) ≡ map later_view (for_levels s)
  own_levels place s is within =
      let number : suc place ≡ s = omega (arith, is) in
      let names = ap (levels_of (xacts_of e)) number ∙ (has place s is (omega (arith, within, sound.sixteen_levels))).levels in
      ap (session_views (clock_of e + 1) s) names ∙ levels_later (clock_of e) s (session_of st s).transaction.levels

  own_holds : (place s : ℕ) (own : LoSession) → s ≡ 1 + place → slice_get e.sessions.items place ≡ Some own → holds_at own ≡ map later_view (for_descriptors s)
  own_holds place s own is stood =
      let within = slice_get_within e.sessions.items place own stood in
      let had = has place s is (omega (arith, within, sound.sixteen)) in
      let number : place + 1 ≡ s = omega (arith, is) in
      let at : place ≡ s - 1 = omega (arith, is) in
      let own_ones = subst (λ (n : ℕ). All (λ (d : Entry). IsOwnHold n d.hold) own.descs.entries.items) number (sound.placed place own stood).holds in
      let described = had.descriptors own (subst (λ (n : ℕ). slice_get e.sessions.items n ≡ Some own) at stood) in
      holds_later s own.descs.entries.items (session_of st s).descriptors own_ones described

  all_levels : sessions_views (clock_of e + 1) 1 (xacts_of e).levels ≡ flat_map (λ (s : ℕ). map later_view (for_levels s)) session_numbers
  all_levels =
      levels_all (clock_of e + 1) 1 (xacts_of e).levels (λ s. map later_view (for_levels s)) own_levels
      ∙ ap (λ (count : ℕ). flat_map (λ (s : ℕ). map later_view (for_levels s)) (range_with_len 1 count)) sound.sixteen_levels

  all_descriptors : all_holds e.sessions.items ≡ flat_map (λ (s : ℕ). map later_view (for_descriptors s)) session_numbers
  all_descriptors =
      holds_all 1 e.sessions.items (λ s. map later_view (for_descriptors s)) own_holds
      ∙ ap (λ (count : ℕ). flat_map (λ (s : ℕ). map later_view (for_descriptors s)) (range_with_len 1 count)) sound.sixteen

  abbrev opened : List OpenCursor
  opened = (cursors_in e.tables).entries.items

  all_cursors : IsPermutation (cursor_holds_in opened) (flat_map (λ (s : ℕ). map later_view (for_cursors s)) session_numbers)
  all_cursors =
      subst (IsPermutation (cursor_holds_in opened)) (same_parts (own_cursor_holds opened) (λ (s : ℕ). map later_view (for_cursors s)) 1 16 each)
      (holds_by_session opened sound.numbered)
    where
      each : (s : ℕ) → 1 ≤ s → s < 1 + 16 → own_cursor_holds opened s ≡ map later_view (for_cursors s)
      each s low high = own_holds_later s opened (session_of st s).cursors sound.own (stands.has.sessions s low (omega (arith, high))).cursors

  abbrev levels_first : List Snapshot
  levels_first = flat_map (λ (s : ℕ). map later_view (for_levels s)) session_numbers

  abbrev readers_first : List Snapshot
  readers_first = flat_map (λ (s : ℕ). map later_view (for_readers s)) session_numbers

  all_readers : IsPermutation (all_holds e.sessions.items ++ cursor_holds_in opened) readers_first
  all_readers =
      let descriptors_first = flat_map (λ (s : ℕ). map later_view (for_descriptors s)) session_numbers in
      let cursors_first = flat_map (λ (s : ℕ). map later_view (for_cursors s)) session_numbers in
      let together = map later_view (flat_map for_readers session_numbers) in
      rw (all_descriptors, ← map_flat_map later_view for_readers session_numbers)
      (IsPermutation-trans (descriptors_first ++ cursor_holds_in opened) (descriptors_first ++ cursors_first) together
      (IsPermutation-append_right descriptors_first (cursor_holds_in opened) cursors_first all_cursors)
      (IsPermutation-sym together (descriptors_first ++ cursors_first) (parts_apart later_view for_descriptors for_cursors session_numbers)))

  abbrev of_sessions : List Snapshot
  of_sessions = map later_view (flat_map (λ (s : ℕ). for_readers s ++ for_levels s) session_numbers)

  sessions_alike : IsPermutation (sessions_views (clock_of e + 1) 1 (xacts_of e).levels ++ (xacts_of e).held) of_sessions
  sessions_alike =
      let held = IsPermutation-trans (xacts_of e).held (all_holds e.sessions.items ++ cursor_holds_in opened) readers_first sound.held all_readers in
      let parts = IsPermutation-sym of_sessions (readers_first ++ levels_first) (parts_apart later_view for_readers for_levels session_numbers) in
      rw all_levels
      (IsPermutation-trans (levels_first ++ (xacts_of e).held) (levels_first ++ readers_first) of_sessions
      (IsPermutation-append_right levels_first (xacts_of e).held readers_first held)
      (IsPermutation-trans (levels_first ++ readers_first) (readers_first ++ levels_first) of_sessions (IsPermutation-append_comm levels_first readers_first) parts))

  pub views_alike : KeepsViews e st
  views_alike = record {
    views = subst (λ (n : ℕ). IsPermutation (kept_views (xacts_of e)) (map later_view (views_kept n (session_of st)))) stands.time
        (IsPermutation-cons (view_at (clock_of e + 1) Nobody) (sessions_views (clock_of e + 1) 1 (xacts_of e).levels ++ (xacts_of e).held) of_sessions sessions_alike);
  }
