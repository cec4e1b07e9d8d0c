-- The places at which a session's levels run, and what ends and beginnings of levels do to them.
use Rattle.std.proofs.Common.{ℕ, zero, suc, ◌+◌, ◌-◌, ◌<◌, ◌≤◌, ◌≡◌, ◌≢◌, ◌⊎◌, inl, inr, Bool, true, false, List, [], ◌∷◌, ◌++◌, length, take, drop, Option, Some, None, refl, ap, sym, subst, ◌∙◌, arith, length-append, length-set}
use Rattle.std.specs.Prelude.{option_map, option_and_then, slice_get, slice_set, slice_index, slice_index_or, ◌==◌, ◌&&◌, ◌||◌, not, if◌then◌else◌, All}
use Rattle.std.proofs.lemmas.Bool.{false≢true, cases_lt}
use Rattle.std.proofs.lemmas.Bool.Decides.{nat_tests}
use Rattle.std.proofs.lemmas.Grind.{common_steps}
use Rattle.std.proofs.lemmas.List.{length-take-le, take-append-drop, take-append-le, drop-append-le}
use Rattle.std.proofs.lemmas.List.Elements.{All-append, All-weaker, All-take}
use Rattle.std.proofs.lemmas.Option.{slice_get_past}
use Rattle.std.proofs.Math.Seq.{drop-length, take-length}
use Rattle.lo_model.specs.declared.owner.Owner.{Owner}
use Rattle.lo_model.specs.declared.owner.Owner.TheVariants.{Running, Committed}
use Rattle.lo_model.specs.Levels.{is_from_level}
use Rattle.xact_core.specs.declared.fate.Fate.{Fate}
use Rattle.xact_core.specs.Ends.{release, undo}
use Rattle.xact_core.specs.Fate.{is_some_from, fate_after, turned_at}
use Rattle.xact_core.specs.Inside.{owner_at, is_among, runs_from, IsSession}
use Rattle.xact_core.specs.Opened.{Opened, nothing, start, from_level, first_of, with_level, with_released, with_undone, running}
use Rattle.xact_core.proofs.ListPlaces.{set_here, set_other, append_in, append_here, turned_at_get, length-turned_at, or_false, among_both, among_push, among_drop, among_from, take_more, index_take}
use Rattle.xact_core.proofs.Owners.{EndsFrom, from_lower, fate_kept, fate_twice, release_ends, released_level, undo_ends, undone_level}

-- each fate is what an end made of it
pub record EachTurned (turn : Owner → Option Owner) (old new : List Fate) : Type 0 where
  pub at : (i : ℕ) → slice_get new i ≡ option_map (fate_after turn) (slice_get old i)
  pub size : length new ≡ length old

-- to turn the fates at the places of the levels that end is to turn all
pub all_turned : (s k : ℕ) (turn : Owner → Option Owner) (places : List ℕ) (fates : List Fate) → EndsFrom s k turn → ((i : ℕ) → runs_from fates s k i ≡ true → is_among places i ≡ true) → EachTurned turn fates (turned_at (fate_after turn) places fates)
all_turned s k turn places fates ends listed = record { at = turned; size = length-turned_at (fate_after turn) places fates }
  where
    absent_ends : (i : ℕ) (x : Fate) → slice_get fates i ≡ Some x → is_among places i ≡ false → (b : Bool) → is_some_from s k x.owner ≡ b → is_some_from s k x.owner ≡ false
    absent_ends i x is absent false other = other
    absent_ends i x is absent true runs = absurd (false≢true (sym absent ∙ listed i (ap (λ (o : Option Fate). is_some_from s k (option_and_then (λ (y : Fate). y.owner) o)) is ∙ runs)))

    by_place : (i : ℕ) (b : Bool) → is_among places i ≡ b → (o : Option Fate) → slice_get fates i ≡ o → (if b then option_map (fate_after turn) o else o) ≡ option_map (fate_after turn) o
    by_place i true here o is = refl
    by_place i false absent None is = refl
    by_place i false absent (Some x) is = ap Some (sym (fate_kept s k turn ends x (absent_ends i x is absent (is_some_from s k x.owner) refl)))

    turned : (i : ℕ) → slice_get (turned_at (fate_after turn) places fates) i ≡ option_map (fate_after turn) (slice_get fates i)
    turned i = turned_at_get (fate_after turn) (fate_twice s k turn ends) places fates i ∙ by_place i (is_among places i) refl (slice_get fates i) refl

pub owner_turned : (turn : Owner → Option Owner) (old new : List Fate) → EachTurned turn old new → (i : ℕ) → owner_at new i ≡ option_and_then turn (owner_at old i)
owner_turned turn old new each i = ap (option_and_then (λ (y : Fate). y.owner)) (each.at i) ∙ by_fate (slice_get old i)
  where
    by_fate : (o : Option Fate) → option_and_then (λ (y : Fate). y.owner) (option_map (fate_after turn) o) ≡ option_and_then turn (option_and_then (λ (y : Fate). y.owner) o)
    by_fate None = refl
    by_fate (Some x) = refl

-- what holds of an owner's levels through an end holds of a place's
runs_turned : (turn : Owner → Option Owner) (t j : ℕ) (old new : List Fate) → EachTurned turn old new → ((owner : Owner) → is_some_from t j (turn owner) ≡ is_from_level t j owner) → (i : ℕ) → runs_from new t j i ≡ runs_from old t j i
runs_turned turn t j old new each alike i = ap (is_some_from t j) (owner_turned turn old new each i) ∙ by_owner (owner_at old i)
  where
    by_owner : (o : Option Owner) → is_some_from t j (option_and_then turn o) ≡ is_some_from t j o
    by_owner None = refl
    by_owner (Some owner) = alike owner

-- nothing of the session is left from the level on
none_left : (s k : ℕ) (turn : Owner → Option Owner) (old new : List Fate) → EndsFrom s k turn → EachTurned turn old new → (i : ℕ) → runs_from new s k i ≡ false
none_left s k turn old new ends each i = ap (is_some_from s k) (owner_turned turn old new each i) ∙ by_owner (owner_at old i)
  where
    by_owner : (o : Option Owner) → is_some_from s k (option_and_then turn o) ≡ false
    by_owner None = refl
    by_owner (Some owner) = ends.leaves owner

runs_undone : (s k j : ℕ) (old new : List Fate) → EachTurned (undo s k) old new → (i : ℕ) → runs_from new s j i ≡ (runs_from old s j i && not (runs_from old s k i))
runs_undone s k j old new each i = ap (is_some_from s j) (owner_turned (undo s k) old new each i) ∙ by_owner (owner_at old i)
  where
    by_owner : (o : Option Owner) → is_some_from s j (option_and_then (undo s k) o) ≡ (is_some_from s j o && not (is_some_from s k o))
    by_owner None = refl
    by_owner (Some owner) = undone_level s k j owner

-- Sessions of which nothing changes

pub session_alike : (t : ℕ) (old new : List Fate) (session : Opened) → length old ≤ length new → ((j i : ℕ) → runs_from new t j i ≡ runs_from old t j i) → IsSession old t session → IsSession new t session
session_alike t old new session size alike well =
    record {
      within = All-weaker (λ (i : ℕ). i < length old) (λ (i : ℕ). i < length new) (λ i less. omega (arith, less)) session.places well.within;
      all = λ i. well.all i ∙ sym (alike 0 i);
      from = λ k i low high. well.from k i low high ∙ sym (alike k i);
      before = λ k i low high. rw (alike 0 i, alike k i) (well.before k i low high);
      low = λ i. alike 1 i ∙ well.low i ∙ sym (alike 0 i);
      high = λ i. alike (length session.names + 1) i ∙ well.high i;
      starts = well.starts;
      rising = well.rising;
      filled = well.filled;
    }

pub other_turned : (s k t : ℕ) (turn : Owner → Option Owner) (old new : List Fate) (session : Opened) → t ≢ s → EndsFrom s k turn → EachTurned turn old new → IsSession old t session → IsSession new t session
other_turned s k t turn old new session apart ends each well = session_alike t old new session (omega (arith, each.size)) (λ j i. runs_turned turn t j old new each (λ owner. ends.other t j owner apart) i) well

-- The session's own levels after an end

-- the first levels, with as many starts
start_take : (n k : ℕ) (session : Opened) → 1 ≤ k → k ≤ n → slice_index_or (take n session.starts) (k - 1) 0 ≡ start session k
start_take n k session low high = index_take n (k - 1) session.starts (omega arith)

pub released_session : (s k : ℕ) (old new : List Fate) (session : Opened) → 2 ≤ k → k ≤ length session.names → EachTurned (release s k) old new → IsSession old s session → IsSession new s (with_released k session)
released_session s k old new session low high each well =
    record {
      within = λ i d less. rw each.size (well.within i d less);
      all = λ i. well.all i ∙ sym (alike 0 i (omega arith));
      from = λ j i one below. let less : j ≤ k - 1 = omega (arith, below, left) in rw (start_take (k - 1) j session one less) (well.from j i one (omega arith) ∙ sym (alike j i (omega (arith, low))));
      before = λ j i one below. let less : j ≤ k - 1 = omega (arith, below, left) in rw (start_take (k - 1) j session one less, alike 0 i (omega arith), alike j i (omega (arith, low))) (well.before j i one (omega arith));
      low = λ i. alike 1 i (omega arith) ∙ well.low i ∙ sym (alike 0 i (omega arith));
      high = λ i. let top : length (take (k - 1) session.names) + 1 ≡ k = omega (arith, left) in rw top (none_left s k (release s k) old new (release_ends s k (omega arith)) each i);
      starts = length-take-le (k - 1) session.starts (omega (arith, well.starts)) ∙ sym left;
      rising = λ i j one less below. let in_first : j ≤ k - 1 = omega (arith, below, left) in rw (start_take (k - 1) i session one (omega arith), start_take (k - 1) j session (omega arith) in_first) (well.rising i j one less (omega arith));
      filled = λ j one below. let less : j ≤ k - 1 = omega (arith, below, left) in rw (start_take (k - 1) j session one less) (well.filled j one (omega arith));
    }
  where
    left : length (take (k - 1) session.names) ≡ k - 1
    left = length-take-le (k - 1) session.names (omega arith)

    alike : (j i : ℕ) → j < k → runs_from new s j i ≡ runs_from old s j i
    alike j i lower = runs_turned (release s k) s j old new each (λ owner. released_level s k j owner lower) i

-- a session without levels from one on
abbrev pub cut : (level : ℕ) → Opened → Opened
cut k session = record { names = take (k - 1) session.names; starts = take (k - 1) session.starts; places = take (start session k) session.places }

-- tests of a place: D among those of lower levels from some index on, F from that level on, K from the cut on
cut_test : (d f k b : Bool) → f ≡ (d || k) → (d ≡ true → k ≡ false) → d ≡ (f && not k)
cut_test true f true b is apart = absurd (false≢true (sym (apart refl)))
cut_test true true false b is apart = refl
cut_test true false false b is apart = absurd (false≢true is)
cut_test false true true b is apart = refl
cut_test false false true b is apart = refl
cut_test false true false b is apart = absurd (false≢true (sym is))
cut_test false false false b is apart = refl

-- A: from level 0, J: from a lower level, K: from the cut on
cut_before : (a j k : Bool) → (k ≡ true → j ≡ true) → (a && not j) ≡ ((a && not k) && not (j && not k))
cut_before true true true lower = refl
cut_before true true false lower = refl
cut_before true false true lower = absurd (false≢true (lower refl))
cut_before true false false lower = refl
cut_before false j k lower = refl

second_false : (a b : Bool) → (a && not b) ≡ true → b ≡ false
second_false true true is = absurd (false≢true is)
second_false true false is = refl
second_false false b is = absurd (false≢true is)

pub cut_session : (s k : ℕ) (old new : List Fate) (session : Opened) → 1 ≤ k → k ≤ length session.names → EachTurned (undo s k) old new → IsSession old s session → IsSession new s (cut k session)
cut_session s k old new session low high each well =
    record {
      within = λ i d less. rw each.size (All-take (λ (p : ℕ). p < length old) begin session.places well.within i d less);
      all = λ i. well.before k i low high ∙ sym (undone 0 i);
      from = from;
      before = before;
      low = λ i. undone 1 i ∙ ap (λ (b : Bool). b && not (runs_from old s k i)) (well.low i) ∙ sym (undone 0 i);
      high = λ i. let top : length (take (k - 1) session.names) + 1 ≡ k = omega (arith, left) in rw top (none_left s k (undo s k) old new (undo_ends s k) each i);
      starts = length-take-le (k - 1) session.starts (omega (arith, well.starts)) ∙ sym left;
      rising = λ i j one less below. let in_first : j ≤ k - 1 = omega (arith, below, left) in rw (start_take (k - 1) i session one (omega arith), start_take (k - 1) j session (omega arith) in_first) (well.rising i j one less (omega arith));
      filled = λ j one below. let less : j ≤ k - 1 = omega (arith, below, left) in rw (start_take (k - 1) j session one less, length-take-le begin session.places (omega (arith, well.filled k low high))) (well.rising j k one (omega (arith, low)) high);
    }
  where
    begin : ℕ
    begin = start session k

    left : length (take (k - 1) session.names) ≡ k - 1
    left = length-take-le (k - 1) session.names (omega arith)

    undone : (j i : ℕ) → runs_from new s j i ≡ (runs_from old s j i && not (runs_from old s k i))
    undone j i = runs_undone s k j old new each i

    -- what is among the places before the cut does not run from it on
    apart : (n i : ℕ) → is_among (drop n (take begin session.places)) i ≡ true → runs_from old s k i ≡ false
    apart n i here = second_false (runs_from old s 0 i) (runs_from old s k i) (sym (well.before k i low high) ∙ among_drop n (take begin session.places) i here)

    parts : (n i : ℕ) → n ≤ begin → is_among (drop n session.places) i ≡ (is_among (drop n (take begin session.places)) i || runs_from old s k i)
    parts n i less =
        ap (λ (places : List ℕ). is_among (drop n places) i) (sym (take-append-drop begin session.places))
        ∙ ap (λ (places : List ℕ). is_among places i) (drop-append-le n (take begin session.places) (drop begin session.places) (omega (arith, length-take-le begin session.places (omega (arith, well.filled k low high)))))
        ∙ among_both (drop n (take begin session.places)) (drop begin session.places) i
        ∙ ap (λ (b : Bool). is_among (drop n (take begin session.places)) i || b) (well.from k i low high)

    from : (j i : ℕ) → 1 ≤ j → j ≤ length (take (k - 1) session.names) → is_among (from_level j (cut k session)) i ≡ runs_from new s j i
    from j i one below =
        let less : j ≤ k - 1 = omega (arith, below, left) in
        let before_cut : start session j ≤ begin = omega (arith, well.rising j k one (omega (arith, low)) high) in
        rw (start_take (k - 1) j session one less)
        (cut_test (is_among (drop (start session j) (take begin session.places)) i) (runs_from old s j i) (runs_from old s k i) true
        (sym (well.from j i one (omega arith)) ∙ parts (start session j) i before_cut) (apart (start session j) i) ∙ sym (undone j i))

    before : (j i : ℕ) → 1 ≤ j → j ≤ length (take (k - 1) session.names) → is_among (take (start (cut k session) j) (take begin session.places)) i ≡ (runs_from new s 0 i && not (runs_from new s j i))
    before j i one below =
        let less : j ≤ k - 1 = omega (arith, below, left) in
        let before_cut : start session j ≤ begin = omega (arith, well.rising j k one (omega (arith, low)) high) in
        rw (start_take (k - 1) j session one less, take_less (start session j) begin session.places before_cut, undone 0 i, undone j i)
        (well.before j i one (omega arith) ∙ cut_before (runs_from old s 0 i) (runs_from old s j i) (runs_from old s k i) (from_lower s j k (owner_at old i) (omega arith)))
      where
        take_less : (n m : ℕ) (xs : List ℕ) → n ≤ m → take n (take m xs) ≡ take n xs
        take_less zero m xs less = refl
        take_less (suc n) zero xs less = absurd (omega arith)
        take_less (suc n) (suc m) [] less = refl
        take_less (suc n) (suc m) (x ∷ xs) less = ap (λ (ys : List ℕ). x ∷ ys) (take_less n m xs (omega arith))

pub ended_session : (s : ℕ) (fates : List Fate) → ((i : ℕ) → runs_from fates s 0 i ≡ false) → IsSession fates s nothing
ended_session s fates idle =
    record {
      within = λ k d more. absurd (omega arith);
      all = λ i. sym (idle i);
      from = λ k i low high. absurd (omega arith);
      before = λ k i low high. absurd (omega arith);
      low = λ i. none 1 i ∙ sym (idle i);
      high = λ i. none 1 i;
      starts = refl;
      rising = λ j k one less high. absurd (omega arith);
      filled = λ k low high. absurd (omega arith);
    }
  where
    none : (j i : ℕ) → runs_from fates s j i ≡ false
    none j i = by_test (runs_from fates s j i) refl
      where
        by_test : (b : Bool) → runs_from fates s j i ≡ b → runs_from fates s j i ≡ false
        by_test false is = is
        by_test true runs = absurd (false≢true (sym (idle i) ∙ from_lower s 0 j (owner_at fates i) (omega arith) runs))

-- A level more

in_front : (xs : List ℕ) (x k : ℕ) → k < length xs → slice_index_or (xs ++ x ∷ []) k 0 ≡ slice_index_or xs k 0
in_front xs x k within = grind (arith, common_steps)

at_end : (xs : List ℕ) (x k : ℕ) → k ≡ length xs → slice_index_or (xs ++ x ∷ []) k 0 ≡ x
at_end xs x k is = grind (arith, common_steps)

and_true : (a b : Bool) → b ≡ false → (a && not b) ≡ a
and_true true b is = ap not is
and_true false b is = refl

-- a place at which nobody was is a session's at a level
pub record Puts (s place level : ℕ) (old new : List Fate) : Type 0 where
  pub size : length old ≤ length new
  pub within : place < length new
  pub free : owner_at old place ≡ None
  pub at : (i : ℕ) → owner_at new i ≡ (if place == i then Some (Running s level) else owner_at old i)

runs_put : (s place level : ℕ) (old new : List Fate) → Puts s place level old new → (t j i : ℕ) → runs_from new t j i ≡ (if place == i then is_from_level t j (Running s level) else runs_from old t j i)
runs_put s place level old new puts t j i = ap (is_some_from t j) (puts.at i) ∙ by_test (place == i)
  where
    by_test : (b : Bool) → is_some_from t j (if b then Some (Running s level) else owner_at old i) ≡ (if b then is_from_level t j (Running s level) else runs_from old t j i)
    by_test true = refl
    by_test false = refl

pub other_put : (s place level t : ℕ) (old new : List Fate) (session : Opened) → t ≢ s → Puts s place level old new → IsSession old t session → IsSession new t session
other_put s place level t old new session apart puts well = session_alike t old new session puts.size (λ j i. runs_put s place level old new puts t j i ∙ by_test j i (place == i) refl) well
  where
    by_test : (j i : ℕ) (b : Bool) → (place == i) ≡ b → (if b then is_from_level t j (Running s level) else runs_from old t j i) ≡ runs_from old t j i
    by_test j i true same =
        let equal : place ≡ i = grind (arith, nat_tests) in
        let idle : is_from_level t j (Running s level) ≡ false = grind (arith, nat_tests) in
        idle ∙ sym (ap (is_some_from t j) (ap (owner_at old) (sym equal) ∙ puts.free))
    by_test j i false other = refl

pub put_session : (s place : ℕ) (name : Option (List ℕ)) (old new : List Fate) (session : Opened) → Puts s place (length session.names + 1) old new → IsSession old s session → IsSession new s (with_level name place session)
put_session s place name old new session puts well =
    record {
      within = All-append (λ (i : ℕ). i < length new) session.places (place ∷ []) (All-weaker (λ (i : ℕ). i < length old) (λ (i : ℕ). i < length new) (λ i less. omega (arith, less, puts.size)) session.places well.within) one_place;
      all = λ i. pushed 0 0 i (omega arith) (omega arith) (well.all i);
      from = λ k i low high. from k i low (cases_lt (length session.names) k) (omega (arith, high, more));
      before = λ k i low high. before k i low (cases_lt (length session.names) k) (omega (arith, high, more));
      low = λ i. runs 1 i ∙ by_low i (place == i) ∙ sym (runs 0 i);
      high = λ i. let next : length (session.names ++ name ∷ []) + 1 ≡ length session.names + 1 + 1 = omega (arith, more) in rw next (runs (length session.names + 1 + 1) i ∙ by_high i (place == i));
      starts = length-append session.starts (length session.places ∷ []) ∙ (let same : length session.starts ≡ length session.names = well.starts in omega (arith, same, more));
      rising = λ j k one less high. rising j k one less (cases_lt (length session.names) k) (omega (arith, high, more));
      filled = λ k low high. filled k low (cases_lt (length session.names) k) (omega (arith, high, more));
    }
  where
    top : ℕ
    top = length session.names + 1

    more : length (session.names ++ name ∷ []) ≡ length session.names + 1
    more = length-append session.names (name ∷ [])

    runs : (j i : ℕ) → runs_from new s j i ≡ (if place == i then is_from_level s j (Running s top) else runs_from old s j i)
    runs j i = runs_put s place top old new puts s j i

    one_place : All (λ i. i < length new) (place ∷ [])
    one_place zero d less = puts.within
    one_place (suc k) d less = absurd (omega arith)

    -- at the place nobody was
    idle : (j i : ℕ) → place ≡ i → runs_from old s j i ≡ false
    idle j i equal = ap (is_some_from s j) (ap (owner_at old) (sym equal) ∙ puts.free)

    reaches : (j : ℕ) → j ≤ top → is_from_level s j (Running s top) ≡ true
    reaches j less = grind (arith, nat_tests)

    pushed : (n j i : ℕ) → n ≤ length session.places → j ≤ top → is_among (drop n session.places) i ≡ runs_from old s j i → is_among (drop n (session.places ++ place ∷ [])) i ≡ runs_from new s j i
    pushed n j i less reached is = ap (λ (places : List ℕ). is_among places i) (drop-append-le n session.places (place ∷ []) less) ∙ among_push (drop n session.places) place i ∙ by_test (place == i) refl ∙ sym (runs j i)
      where
        by_test : (b : Bool) → (place == i) ≡ b → (is_among (drop n session.places) i || b) ≡ (if b then is_from_level s j (Running s top) else runs_from old s j i)
        by_test true same = let equal : place ≡ i = grind (arith, nat_tests) in rw (is, idle j i equal) (sym (reaches j reached))
        by_test false other = or_false (is_among (drop n session.places) i) ∙ is

    -- the starts of the levels of before, and of the new one
    old_start : (k : ℕ) → 1 ≤ k → k ≤ length session.names → start (with_level name place session) k ≡ start session k
    old_start k low high = in_front session.starts (length session.places) (k - 1) (omega (arith, well.starts))

    new_start : (k : ℕ) → k ≡ top → start (with_level name place session) k ≡ length session.places
    new_start k is = at_end session.starts (length session.places) (k - 1) (omega (arith, well.starts))

    unchanged : (i : ℕ) (a : Bool) (k : ℕ) → k ≤ top → a ≡ (runs_from old s 0 i && not (runs_from old s k i)) → (b : Bool) → (place == i) ≡ b → a ≡ ((if b then is_from_level s 0 (Running s top) else runs_from old s 0 i) && not (if b then is_from_level s k (Running s top) else runs_from old s k i))
    unchanged i a k reached is true same =
        let equal : place ≡ i = grind (arith, nat_tests) in
        is ∙ ap (λ (c : Bool). c && not (runs_from old s k i)) (idle 0 i equal) ∙ sym (both_true (is_from_level s 0 (Running s top)) (is_from_level s k (Running s top)) (reaches k reached))
      where
        both_true : (c d : Bool) → d ≡ true → (c && not d) ≡ false
        both_true true d is = ap not is
        both_true false d is = refl
    unchanged i a k reached is false other = is

    from : (k i : ℕ) → 1 ≤ k → (length session.names < k) ⊎ (k ≤ length session.names) → k ≤ top → is_among (from_level k (with_level name place session)) i ≡ runs_from new s k i
    from k i low (inl above) high = let is : k ≡ top = omega arith in rw (new_start k is) (pushed (length session.places) k i (omega arith) high (ap (λ (places : List ℕ). is_among places i) (drop-length session.places) ∙ sym (ap (λ (n : ℕ). runs_from old s n i) is ∙ well.high i)))
    from k i low (inr within) high = rw (old_start k low within) (pushed (start session k) k i (omega (arith, well.filled k low within)) high (well.from k i low within))

    before : (k i : ℕ) → 1 ≤ k → (length session.names < k) ⊎ (k ≤ length session.names) → k ≤ top → is_among (take (start (with_level name place session) k) (session.places ++ place ∷ [])) i ≡ (runs_from new s 0 i && not (runs_from new s k i))
    before k i low (inl above) high =
        let is : k ≡ top = omega arith in
        rw (new_start k is, take-append-le (length session.places) session.places (place ∷ []) (omega arith), take-length session.places, runs 0 i, runs k i)
        (unchanged i (is_among session.places i) k high (well.all i ∙ sym (and_true (runs_from old s 0 i) (runs_from old s k i) (ap (λ (n : ℕ). runs_from old s n i) is ∙ well.high i))) (place == i) refl)
    before k i low (inr within) high =
        rw (old_start k low within, take-append-le (start session k) session.places (place ∷ []) (omega (arith, well.filled k low within)), runs 0 i, runs k i)
        (unchanged i (is_among (take (start session k) session.places) i) k high (well.before k i low within) (place == i) refl)

    by_low : (i : ℕ) (b : Bool) → (if b then is_from_level s 1 (Running s top) else runs_from old s 1 i) ≡ (if b then is_from_level s 0 (Running s top) else runs_from old s 0 i)
    by_low i true = reaches 1 (omega arith) ∙ sym (reaches 0 (omega arith))
    by_low i false = well.low i

    by_high : (i : ℕ) (b : Bool) → (if b then is_from_level s (top + 1) (Running s top) else runs_from old s (top + 1) i) ≡ false
    by_high i true = past top
      where
        past : (n : ℕ) → is_from_level s (n + 1) (Running s n) ≡ false
        past n = grind (arith, nat_tests)
    by_high i false = by_test (runs_from old s (top + 1) i) refl
      where
        by_test : (b : Bool) → runs_from old s (top + 1) i ≡ b → runs_from old s (top + 1) i ≡ false
        by_test false is = is
        by_test true runs = absurd (false≢true (sym (well.high i) ∙ from_lower s top (top + 1) (owner_at old i) (omega arith) runs))

    size : length (session.places ++ place ∷ []) ≡ length session.places + 1
    size = length-append session.places (place ∷ [])

    rising : (j k : ℕ) → 1 ≤ j → j < k → (length session.names < k) ⊎ (k ≤ length session.names) → k ≤ top → start (with_level name place session) j < start (with_level name place session) k
    rising j k one less (inl above) high = let in_old : j ≤ length session.names = omega arith in rw (new_start k (omega arith), old_start j one in_old) (well.filled j one in_old)
    rising j k one less (inr within) high = rw (old_start j one (omega arith), old_start k (omega arith) within) (well.rising j k one less within)

    filled : (k : ℕ) → 1 ≤ k → (length session.names < k) ⊎ (k ≤ length session.names) → k ≤ top → start (with_level name place session) k < length (session.places ++ place ∷ [])
    filled k low (inl above) high = rw (new_start k (omega arith)) (omega (arith, size))
    filled k low (inr within) high = rw (old_start k low within) (omega (arith, size, well.filled k low within))

-- a fate more, and one in place of another
pub puts_appended : (s level : ℕ) (fates : List Fate) → Puts s (length fates) level fates (fates ++ running s level 0 ∷ [])
puts_appended s level fates = record { size = omega (arith, size); within = omega (arith, size); free = ap (option_and_then (λ (y : Fate). y.owner)) (slice_get_past fates (length fates) (omega arith)); at = λ i. by_test i (length fates == i) refl }
  where
    new : Fate
    new = running s level 0

    size : length (fates ++ new ∷ []) ≡ length fates + 1
    size = length-append fates (new ∷ [])

    by_place : (i : ℕ) → length fates ≢ i → (i < length fates) ⊎ (length fates ≤ i) → slice_get (fates ++ new ∷ []) i ≡ slice_get fates i
    by_place i apart (inl less) = append_in fates new i less
    by_place i apart (inr more) = slice_get_past (fates ++ new ∷ []) i (omega (arith, size, apart)) ∙ sym (slice_get_past fates i more)

    by_test : (i : ℕ) (b : Bool) → (length fates == i) ≡ b → owner_at (fates ++ new ∷ []) i ≡ (if b then Some (Running s level) else owner_at fates i)
    by_test i true same =
        let equal : length fates ≡ i = grind (arith, nat_tests) in
        ap (option_and_then (λ (y : Fate). y.owner)) (subst (λ (n : ℕ). slice_get (fates ++ new ∷ []) n ≡ Some new) equal (append_here fates new))
    by_test i false other =
        let apart : length fates ≢ i = grind (arith, nat_tests) in
        ap (option_and_then (λ (y : Fate). y.owner)) (by_place i apart (cases_lt i (length fates)))

pub puts_set : (s place level since : ℕ) (fates : List Fate) → place < length fates → owner_at fates place ≡ None → Puts s place level fates (slice_set fates place (running s level since))
puts_set s place level since fates within free = record { size = omega (arith, size); within = omega (arith, size); free = free; at = λ i. by_test i (place == i) refl }
  where
    new : Fate
    new = running s level since

    size : length (slice_set fates place new) ≡ length fates
    size = length-set fates place new

    by_test : (i : ℕ) (b : Bool) → (place == i) ≡ b → owner_at (slice_set fates place new) i ≡ (if b then Some (Running s level) else owner_at fates i)
    by_test i true same =
        let equal : place ≡ i = grind (arith, nat_tests) in
        ap (option_and_then (λ (y : Fate). y.owner)) (subst (λ (n : ℕ). slice_get (slice_set fates place new) n ≡ Some new) equal (set_here fates place new within))
    by_test i false other =
        let apart : place ≢ i = grind (arith, nat_tests) in
        ap (option_and_then (λ (y : Fate). y.owner)) (set_other fates place i new apart)

-- An undoing cuts the session's levels, and then begins the level again at the first of its places.

pub first_runs : (s k : ℕ) (fates : List Fate) (session : Opened) → 1 ≤ k → k ≤ length session.names → IsSession fates s session → runs_from fates s k (first_of k session) ≡ true
first_runs s k fates session low high well = sym (well.from k (first_of k session) low high) ∙ among_from (start session k) (start session k) session.places (omega arith) (well.filled k low high)

pub undone_gone : (s k : ℕ) (o : Option Owner) → is_some_from s k o ≡ true → option_and_then (undo s k) o ≡ None
undone_gone s k None runs = refl
undone_gone s k (Some owner) runs = rw runs refl

pub first_puts : (s k since : ℕ) (old mid : List Fate) (session : Opened) → 1 ≤ k → k ≤ length session.names → EachTurned (undo s k) old mid → IsSession old s session → Puts s (first_of k session) k mid (slice_set mid (first_of k session) (running s k since))
first_puts s k since old mid session low high each well =
    puts_set s (first_of k session) k since mid (rw each.size (well.within (start session k) 0 (well.filled k low high)))
    (owner_turned (undo s k) old mid each (first_of k session) ∙ undone_gone s k (owner_at old (first_of k session)) (first_runs s k old session low high well))

undone_is : (k : ℕ) (session : Opened) → 1 ≤ k → k ≤ length session.names → length session.starts ≡ length session.names → start session k < length session.places → with_level (slice_index_or session.names (k - 1) None) (first_of k session) (cut k session) ≡ with_undone k session
undone_is k session low high starts filled = rw (sym names, sym all_starts, sym all_places) refl
  where
    back : k - 1 + 1 ≡ k
    back = omega arith

    names : take k session.names ≡ take (k - 1) session.names ++ slice_index_or session.names (k - 1) None ∷ []
    names = ap (λ (n : ℕ). take n session.names) (sym back) ∙ take_more (k - 1) session.names None (omega arith)

    all_starts : take k session.starts ≡ take (k - 1) session.starts ++ length (take (start session k) session.places) ∷ []
    all_starts =
        ap (λ (n : ℕ). take n session.starts) (sym back) ∙ take_more (k - 1) session.starts 0 (omega (arith, starts))
        ∙ ap (λ (n : ℕ). take (k - 1) session.starts ++ n ∷ []) (sym (length-take-le (start session k) session.places (omega (arith, filled))))

    all_places : take (start session k + 1) session.places ≡ take (start session k) session.places ++ first_of k session ∷ []
    all_places = take_more (start session k) session.places 0 filled

pub undone_session : (s k since : ℕ) (old mid : List Fate) (session : Opened) → 1 ≤ k → k ≤ length session.names → EachTurned (undo s k) old mid → IsSession old s session → IsSession (slice_set mid (first_of k session) (running s k since)) s (with_undone k session)
undone_session s k since old mid session low high each well =
    subst (IsSession (slice_set mid (first_of k session) (running s k since)) s) (undone_is k session low high well.starts (well.filled k low high))
    (put_session s (first_of k session) (slice_index_or session.names (k - 1) None) mid (slice_set mid (first_of k session) (running s k since)) (cut k session)
    (subst (λ (n : ℕ). Puts s (first_of k session) n mid (slice_set mid (first_of k session) (running s k since))) level (first_puts s k since old mid session low high each well))
    (cut_session s k old mid session low high each well))
  where
    level : k ≡ length (take (k - 1) session.names) + 1
    level = omega (arith, low, length-take-le (k - 1) session.names (omega arith))

-- Which levels run

exactly : (s n : ℕ) (o : Option Owner) → is_some_from s n o ≡ true → is_some_from s (n + 1) o ≡ false → o ≡ Some (Running s n)
exactly s n None runs past = absurd (false≢true runs)
exactly s n (Some (Committed c)) runs past = absurd (false≢true runs)
exactly s n (Some (Running t l)) runs past =
    let own : t ≡ s = grind (arith, nat_tests) in
    let level : l ≡ n = grind (arith, nat_tests) in
    ap (λ (u : ℕ). Some (Running u l)) own ∙ ap (λ (m : ℕ). Some (Running s m)) level

-- the last of a session's places is that of its top level
pub top_runs : (fates : List Fate) (s : ℕ) (session : Opened) → 0 < length session.names → IsSession fates s session → owner_at fates (slice_index session.places (length session.places - 1)) ≡ Some (Running s (length session.names))
top_runs fates s session some well = exactly s top (owner_at fates last) (sym (well.from top last (omega arith) (omega arith)) ∙ among_from (start session top) (length session.places - 1) session.places (omega (arith, inside)) (omega (arith, inside))) (well.high last)
  where
    top : ℕ
    top = length session.names

    last : ℕ
    last = slice_index session.places (length session.places - 1)

    inside : start session top < length session.places
    inside = well.filled top (omega arith) (omega arith)

pub level_runs : (fates : List Fate) (s i l : ℕ) (session : Opened) → IsSession fates s session → owner_at fates i ≡ Some (Running s l) → (1 ≤ l) × (l ≤ length session.names)
level_runs fates s i l session well is = (low_level s l low, high_level s l (length session.names) high)
  where
    low : is_from_level s 1 (Running s l) ≡ is_from_level s 0 (Running s l)
    low = sym (ap (is_some_from s 1) is) ∙ well.low i ∙ ap (is_some_from s 0) is

    high : is_from_level s (length session.names + 1) (Running s l) ≡ false
    high = sym (ap (is_some_from s (length session.names + 1)) is) ∙ well.high i

    low_level : (s l : ℕ) → is_from_level s 1 (Running s l) ≡ is_from_level s 0 (Running s l) → 1 ≤ l
    low_level s zero alike = absurd (grind (arith, nat_tests))
    low_level s (suc l) alike = omega arith

    high_level : (s l n : ℕ) → is_from_level s (n + 1) (Running s l) ≡ false → l ≤ n
    high_level s l n past = grind (arith, nat_tests)
