-- A session stays well where a level or its block begins or ends.
use Rattle.std.proofs.Common.{◌≡◌, ◌≤◌, ◌<◌, ℕ, ◌+◌, ◌-◌, Bool, true, false, List, [], ◌∷◌, ◌++◌, length, take, Option, Some, refl, ap, arith, length-append, length-take}
use Rattle.std.specs.Prelude.{All, nat_lt}
use Rattle.std.proofs.lemmas.Bool.{true≢false, false≢true}
use Rattle.std.proofs.lemmas.Bool.Decides.{nat_tests}
use Rattle.std.proofs.lemmas.List.Elements.{All-nil, All-cons, All-head, All-tail, All-weaker, All-map}
use Rattle.lo_model.specs.Descriptor.{Cursor, Descriptor, descriptor_released, cursor_released, descriptors_below, cursors_below, level_released}
use Rattle.lo_model.specs.Edit.{Deed, Edit}
use Rattle.lo_model.specs.Session.{Session, idle_session, session_begun, session_saved, session_released, session_undone}
use Rattle.lo_model.specs.Transaction.{has_levels}
use Rattle.lo_machine.specs.Well.{IsDescriptor, IsCursor, IsSession}
use Rattle.lo_machine.proofs.LevelSteps.{first_taken, first_more}
use Rattle.lo_machine.proofs.WellEdits.{StayQuiet, described_later, all_described_later, cursor_later, all_cursors_later}

-- Levels

pub open_top : (levels : List (Option (List ℕ))) → has_levels levels ≡ true → 1 ≤ length levels
open_top [] is = absurd (false≢true is)
open_top (level ∷ levels) is = omega arith

pub none_open : (levels : List (Option (List ℕ))) → has_levels levels ≡ false → levels ≡ []
none_open [] is = refl
none_open (level ∷ levels) is = absurd (true≢false is)

-- a list that is not empty is none
some_left : {A : Type 0} (levels : List (Option (List ℕ))) → 1 ≤ length levels → levels ≡ [] → A
some_left levels some none = let empty : length levels ≡ 0 = ap length none in absurd (omega (arith, some, empty))

-- a well session outside a block is idle
pub idle : (n : ℕ) (es : List (Edit Deed)) (session : Session) → IsSession n es session → session.transaction.levels ≡ [] → session ≡ idle_session
idle n es session well none = rw (← none, ← well.unfailed none, ← well.none none, ← well.no_cursors none) refl

-- the beginning and the end of a block

pub idle_well : (n : ℕ) (es : List (Edit Deed)) → IsSession n es idle_session
idle_well n es = record { first = tt; descriptors = All-nil (IsDescriptor n es 0); none = λ is. refl; unfailed = λ is. refl; cursors = All-nil (IsCursor n es 0); no_cursors = λ is. refl }

pub begun_well : (n : ℕ) (es : List (Edit Deed)) → IsSession n es session_begun
begun_well n es = record { first = refl; descriptors = All-nil (IsDescriptor n es 1); none = λ is. refl; unfailed = λ is. refl; cursors = All-nil (IsCursor n es 1); no_cursors = λ is. refl }

-- descriptors of levels below one
below_well : (n : ℕ) (old new : List (Edit Deed)) (levels k levels' : ℕ) → StayQuiet n old new → k ≤ levels' → (ds : List Descriptor) → All (IsDescriptor n old levels) ds → All (IsDescriptor (n + 1) new levels') (descriptors_below k ds)
below_well n old new levels k levels' stay most [] all = All-nil (IsDescriptor (n + 1) new levels')
below_well n old new levels k levels' stay most (d ∷ ds) all = by (nat_lt d.level k) refl (below_well n old new levels k levels' stay most ds (All-tail (IsDescriptor n old levels) d ds all))
  where
    by : (b : Bool) → nat_lt d.level k ≡ b → All (IsDescriptor (n + 1) new levels') (descriptors_below k ds) → All (IsDescriptor (n + 1) new levels') (descriptors_below k (d ∷ ds))
    by false test rest = rw test rest
    by true test rest =
        let low : d.level < k = grind (arith, nat_tests, test) in
        rw test (All-cons (IsDescriptor (n + 1) new levels') d (descriptors_below k ds) (described_later n old new levels levels' stay d (omega (arith, low, most)) (All-head (IsDescriptor n old levels) d ds all)) rest)

-- cursors of levels below one
cursors_below_well : (n : ℕ) (old new : List (Edit Deed)) (levels k levels' : ℕ) → StayQuiet n old new → k ≤ levels' → (cs : List Cursor) → All (IsCursor n old levels) cs → All (IsCursor (n + 1) new levels') (cursors_below k cs)
cursors_below_well n old new levels k levels' stay most [] all = All-nil (IsCursor (n + 1) new levels')
cursors_below_well n old new levels k levels' stay most (c ∷ cs) all = by (nat_lt c.level k) refl (cursors_below_well n old new levels k levels' stay most cs (All-tail (IsCursor n old levels) c cs all))
  where
    by : (b : Bool) → nat_lt c.level k ≡ b → All (IsCursor (n + 1) new levels') (cursors_below k cs) → All (IsCursor (n + 1) new levels') (cursors_below k (c ∷ cs))
    by false test rest = rw test rest
    by true test rest =
        let low : c.level < k = grind (arith, nat_tests, test) in
        rw test (All-cons (IsCursor (n + 1) new levels') c (cursors_below k cs) (cursor_later n old new levels levels' stay c (omega (arith, low, most)) (All-head (IsCursor n old levels) c cs all)) rest)

module _ (n : ℕ) (old new : List (Edit Deed)) (stay : StayQuiet n old new) (session : Session) (is : IsSession n old session) where
  abbrev names : List (Option (List ℕ))
  names = session.transaction.levels

  pub saved_well : (name : List ℕ) → 1 ≤ length names → IsSession (n + 1) new (session_saved name session)
  saved_well name some = record {
    first = first_more names (Some name) some is.first;
    descriptors = all_described_later n old new (length names) (length (names ++ Some name ∷ [])) stay (omega (arith, more)) session.descriptors is.descriptors;
    none = λ empty. some_left (names ++ Some name ∷ []) (omega (arith, more)) empty;
    unfailed = λ empty. some_left (names ++ Some name ∷ []) (omega (arith, more)) empty;
    cursors = all_cursors_later n old new (length names) (length (names ++ Some name ∷ [])) stay (omega (arith, more)) session.cursors is.cursors;
    no_cursors = λ empty. some_left (names ++ Some name ∷ []) (omega (arith, more)) empty;
  }
    where
      more : length (names ++ Some name ∷ []) ≡ length names + 1
      more = omega (arith, length-append names (Some name ∷ []))

  pub released_well : (k : ℕ) → 2 ≤ k → k ≤ length names → IsSession (n + 1) new (session_released k session)
  released_well k low high = record {
    first = first_taken (k - 1) names is.first;
    descriptors =
        All-map (IsDescriptor (n + 1) new (length (take (k - 1) names))) (descriptor_released k) session.descriptors
        (All-weaker (IsDescriptor n old (length names)) (λ (d : Descriptor). IsDescriptor (n + 1) new (length (take (k - 1) names)) (descriptor_released k d)) (λ d one. by d one) session.descriptors is.descriptors);
    none = λ empty. some_left (take (k - 1) names) (omega (arith, count, low)) empty;
    unfailed = λ empty. some_left (take (k - 1) names) (omega (arith, count, low)) empty;
    cursors =
        All-map (IsCursor (n + 1) new (length (take (k - 1) names))) (cursor_released k) session.cursors
        (All-weaker (IsCursor n old (length names)) (λ (c : Cursor). IsCursor (n + 1) new (length (take (k - 1) names)) (cursor_released k c)) (λ c one. cursor_by c one) session.cursors is.cursors);
    no_cursors = λ empty. some_left (take (k - 1) names) (omega (arith, count, low)) empty;
  }
    where
      count : length (take (k - 1) names) ≡ k - 1
      count = omega (arith, length-take (k - 1) names, high)

      by : (d : Descriptor) → IsDescriptor n old (length names) d → IsDescriptor (n + 1) new (length (take (k - 1) names)) (descriptor_released k d)
      by d one =
          let below : level_released k d.level ≤ length (take (k - 1) names) = omega (arith, count) in
          let same = described_later n old new (length names) (length names) stay d (one.level) one in
          record { level = below; quiet = same.quiet }

      cursor_by : (c : Cursor) → IsCursor n old (length names) c → IsCursor (n + 1) new (length (take (k - 1) names)) (cursor_released k c)
      cursor_by c one =
          let below : level_released k c.level ≤ length (take (k - 1) names) = omega (arith, count) in
          let same = cursor_later n old new (length names) (length names) stay c (one.level) one in
          record { level = below; quiet = same.quiet }

  pub undone_well : (k : ℕ) (failed : Bool) → 1 ≤ k → k ≤ length names → IsSession (n + 1) new (session_undone k failed session)
  undone_well k failed low high = record {
    first = first_taken k names is.first;
    descriptors = below_well n old new (length names) k (length (take k names)) stay (omega (arith, count)) session.descriptors is.descriptors;
    none = λ empty. some_left (take k names) (omega (arith, count, low)) empty;
    unfailed = λ empty. some_left (take k names) (omega (arith, count, low)) empty;
    cursors = cursors_below_well n old new (length names) k (length (take k names)) stay (omega (arith, count)) session.cursors is.cursors;
    no_cursors = λ empty. some_left (take k names) (omega (arith, count, low)) empty;
  }
    where
      count : length (take k names) ≡ k
      count = omega (arith, length-take k names, high)
