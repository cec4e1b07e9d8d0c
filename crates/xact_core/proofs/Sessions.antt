-- The fates of all sessions' levels through ends and beginnings.
use Rattle.std.proofs.Common.{ℕ, ◌+◌, ◌-◌, ◌<◌, ◌≤◌, ◌≡◌, ◌≢◌, Bool, true, false, ⊎_elim, List, [], ◌∷◌, ◌++◌, length, Option, Some, None, refl, ap, sym, subst, ◌∙◌, arith, length-set}
use Rattle.std.specs.Prelude.{option_map, option_and_then, slice_get, slice_set, slice_index_or, ◌==◌}
use Rattle.std.proofs.lemmas.Bool.Decides.{nat_tests}
use Rattle.std.proofs.lemmas.Option.{none-some, same_Some, slice_get-get_or, slice_get_read, get_or_from_slice_get}
use Rattle.lo_model.specs.declared.owner.Owner.{Owner}
use Rattle.lo_model.specs.declared.owner.Owner.TheVariants.{Running, Committed}
use Rattle.xact_core.specs.declared.fate.Fate.{Fate}
use Rattle.xact_core.specs.Ends.{release, undo}
use Rattle.xact_core.specs.Fate.{is_some_from, fate_after, turned_at}
use Rattle.xact_core.specs.Inside.{IsSession, AreSessions, IsOwnerAt, IsFate, IsWell, owner_at}
use Rattle.xact_core.specs.Opened.{Opened, nothing, opened_at, start, from_level, all_places, first_of, with_level, with_released, with_none, with_undone, running, IsOpened, IsEnded, IsUndone}
use Rattle.xact_core.proofs.ListPlaces.{set_here, set_other, append_cases}
use Rattle.xact_core.proofs.LevelPlaces.{EachTurned, all_turned, owner_turned, other_turned, released_session, ended_session, Puts, puts_appended, put_session, other_put, first_puts, undone_session}
use Rattle.xact_core.proofs.Owners.{EndsFrom, EndsAll, KeepsBounds, from_lower, release_ends, release_bounds, undo_ends, undo_bounds}

-- all fates at a clock, with a count of undoings
abbrev pub AreFates : (clock undos : ℕ) → List Fate → Type 0
AreFates clock undos fates = (i : ℕ) (fate : Fate) → slice_get fates i ≡ Some fate → IsFate clock undos fate

pub session_there : (sessions : List Opened) (s : ℕ) → length sessions ≡ 16 → 1 ≤ s → s ≤ 16 → slice_get sessions (s - 1) ≡ Some (opened_at sessions (s - 1))
session_there sessions s sixteen low high = slice_get-get_or sessions (s - 1) nothing (omega arith)

pub session_well : (clock undos : ℕ) (sessions : List Opened) (fates : List Fate) (s : ℕ) → IsWell clock undos sessions fates → 1 ≤ s → s ≤ 16 → IsSession fates s (opened_at sessions (s - 1))
session_well clock undos sessions fates s well low high =
    let back : s - 1 + 1 ≡ s = omega arith in
    subst (λ (n : ℕ). IsSession fates n (opened_at sessions (s - 1))) back (well.levels.each (s - 1) (opened_at sessions (s - 1)) (session_there sessions s well.levels.sixteen low high))

-- a session that was read from the list
pub own_read : (sessions : List Opened) (fates : List Fate) (s i : ℕ) (session : Opened) → AreSessions sessions fates → i + 1 ≡ s → i + 1 ≤ 16 → session ≡ slice_index_or sessions i session → IsSession fates s session
own_read sessions fates s i session levels number within read = subst (λ (n : ℕ). IsSession fates n session) number (levels.each i session (slice_get_read sessions 16 i session (sym levels.sixteen) (omega arith) read))

pub at_read : (sessions : List Opened) (s i : ℕ) (session : Opened) → length sessions ≡ 16 → i + 1 ≡ s → i + 1 ≤ 16 → session ≡ slice_index_or sessions i session → opened_at sessions (s - 1) ≡ session
at_read sessions s i session sixteen number within read = let place : s - 1 ≡ i = omega arith in ap (opened_at sessions) place ∙ get_or_from_slice_get sessions i session nothing (slice_get_read sessions 16 i session (sym sixteen) (omega arith) read)

level_read : (sessions : List Opened) (s i k : ℕ) (session : Opened) → length sessions ≡ 16 → i + 1 ≡ s → i + 1 ≤ 16 → session ≡ slice_index_or sessions i session → k ≤ length (opened_at sessions (s - 1)).names → k ≤ length session.names
level_read sessions s i k session sixteen number within read high = subst (λ (o : Opened). k ≤ length o.names) (at_read sessions s i session sixteen number within read) high

-- its levels have starts, and each of them has a place
pub level_starts : (sessions : List Opened) (fates : List Fate) (s i k : ℕ) (session : Opened) → AreSessions sessions fates → i + 1 ≡ s → i + 1 ≤ 16 → session ≡ slice_index_or sessions i session → 1 ≤ k → k ≤ length (opened_at sessions (s - 1)).names → (k ≤ length session.starts) × (start session k < length session.places)
level_starts sessions fates s i k session levels number within read low high =
    let own : IsSession fates s session = own_read sessions fates s i session levels number within read in
    let there : k ≤ length session.names = level_read sessions s i k session levels.sixteen number within read high in
    (omega (arith, own.starts, there), own.filled k low there)

pub first_within : (sessions : List Opened) (fates : List Fate) (s i k : ℕ) (session : Opened) → AreSessions sessions fates → i + 1 ≡ s → i + 1 ≤ 16 → session ≡ slice_index_or sessions i session → 1 ≤ k → k ≤ length (opened_at sessions (s - 1)).names → first_of k session < length fates
first_within sessions fates s i k session levels number within read low high = (own_read sessions fates s i session levels number within read).within (start session k) 0 (level_starts sessions fates s i k session levels number within read low high).1

-- one session's levels are others, and each other session stays well
pub well_set : (clock undos clock' undos' s : ℕ) (sessions : List Opened) (fates fates' : List Fate) (new : Opened) → 1 ≤ s → s ≤ 16 → IsWell clock undos sessions fates → AreFates clock' undos' fates' → IsSession fates' s new → ((t : ℕ) (session : Opened) → t ≢ s → IsSession fates t session → IsSession fates' t session) → IsWell clock' undos' (slice_set sessions (s - 1) new) fates'
well_set clock undos clock' undos' s sessions fates fates' new low high well all own others =
    record {
      levels = record { sixteen = length-set sessions (s - 1) new ∙ well.levels.sixteen; each = λ j session at. each_at j session at (s - 1 == j) refl };
      each_fate = all;
    }
  where
    each_at : (j : ℕ) (session : Opened) → slice_get (slice_set sessions (s - 1) new) j ≡ Some session → (b : Bool) → (s - 1 == j) ≡ b → IsSession fates' (j + 1) session
    each_at j session at true same =
        let equal : s - 1 ≡ j = grind (arith, nat_tests) in
        let number : s ≡ j + 1 = omega arith in
        let here : slice_get (slice_set sessions (s - 1) new) j ≡ Some new = subst (λ (n : ℕ). slice_get (slice_set sessions (s - 1) new) n ≡ Some new) equal (set_here sessions (s - 1) new (omega (arith, well.levels.sixteen))) in
        subst (λ (n : ℕ). IsSession fates' n session) number (subst (IsSession fates' s) (same_Some _ _ (sym here ∙ at)) own)
    each_at j session at false other =
        let apart : s - 1 ≢ j = grind (arith, nat_tests) in
        others (j + 1) session (λ equal. apart (omega (arith, equal))) (well.levels.each j session (sym (set_other sessions (s - 1) j new apart) ∙ at))

-- Fates

fates_turned : (clock undos undos' : ℕ) (turn : Owner → Option Owner) (old new : List Fate) → undos ≤ undos' → KeepsBounds clock turn → EachTurned turn old new → AreFates clock undos old → AreFates clock undos' new
fates_turned clock undos undos' turn old new more bounds each before i x is = by_fate (slice_get old i) refl (sym (each.at i) ∙ is)
  where
    by_owner : (o : Option Owner) → ((owner : Owner) → o ≡ Some owner → IsOwnerAt clock owner) → (left : Owner) → option_and_then turn o ≡ Some left → IsOwnerAt clock left
    by_owner None owners left is = absurd (none-some _ is)
    by_owner (Some owner) owners left is = bounds owner left (owners owner refl) is

    turned : (y : Fate) → IsFate clock undos y → IsFate clock undos' (fate_after turn y)
    turned y well = record { since = omega (arith, well.since); owner = by_owner y.owner well.owner }

    by_fate : (o : Option Fate) → slice_get old i ≡ o → option_map (fate_after turn) o ≡ Some x → IsFate clock undos' x
    by_fate None was now = absurd (none-some _ now)
    by_fate (Some y) was now = subst (IsFate clock undos') (same_Some _ _ now) (turned y (before i y was))

running_well : (clock undos s level since : ℕ) → 1 ≤ s → s ≤ 16 → since ≤ undos → IsFate clock undos (running s level since)
running_well clock undos s level since low high past = record { since = past; owner = λ owner is. subst (IsOwnerAt clock) (same_Some _ _ is) (low, high) }

fates_set : (clock undos place : ℕ) (fates : List Fate) (x : Fate) → place < length fates → IsFate clock undos x → AreFates clock undos fates → AreFates clock undos (slice_set fates place x)
fates_set clock undos place fates x within well before i y is = by_test (place == i) refl
  where
    by_test : (b : Bool) → (place == i) ≡ b → IsFate clock undos y
    by_test true same =
        let equal : place ≡ i = grind (arith, nat_tests) in
        let here : slice_get (slice_set fates place x) i ≡ Some x = subst (λ (n : ℕ). slice_get (slice_set fates place x) n ≡ Some x) equal (set_here fates place x within) in
        subst (IsFate clock undos) (same_Some _ _ (sym here ∙ is)) well
    by_test false other =
        let apart : place ≢ i = grind (arith, nat_tests) in
        before i y (sym (set_other fates place i x apart) ∙ is)

-- The clock moves on

pub later_well : (clock clock' undos : ℕ) (sessions : List Opened) (fates : List Fate) → clock ≤ clock' → IsWell clock undos sessions fates → IsWell clock' undos sessions fates
later_well clock clock' undos sessions fates later well =
    record {
      levels = well.levels;
      each_fate = λ i fate is. let before : IsFate clock undos fate = well.each_fate i fate is in record { since = before.since; owner = λ owner own. past owner (before.owner owner own) };
    }
  where
    past : (owner : Owner) → IsOwnerAt clock owner → IsOwnerAt clock' owner
    past (Running s l) number = number
    past (Committed c) before = omega arith

-- A level more

pub opened_well : (clock undos s : ℕ) (name : Option (List ℕ)) (sessions sessions' : List Opened) (fates fates' : List Fate) → IsWell clock undos sessions fates → IsOpened s name sessions sessions' fates fates' → IsWell clock undos sessions' fates'
opened_well clock undos s name sessions sessions' fates fates' well opened =
    rw (opened.levels, opened.turned)
    (well_set clock undos clock undos s sessions fates (fates ++ new ∷ []) (with_level name (length fates) session) opened.low opened.high well all_fates
    (put_session s (length fates) name fates (fates ++ new ∷ []) session puts (session_well clock undos sessions fates s well opened.low opened.high))
    (λ t other apart. other_put s (length fates) level t fates (fates ++ new ∷ []) other apart puts))
  where
    session : Opened
    session = opened_at sessions (s - 1)

    level : ℕ
    level = length session.names + 1

    new : Fate
    new = running s level 0

    puts : Puts s (length fates) level fates (fates ++ new ∷ [])
    puts = puts_appended s level fates

    all_fates : AreFates clock undos (fates ++ new ∷ [])
    all_fates j x at = ⊎_elim (λ before. well.each_fate j x before) (λ last. rw last.1 (running_well clock undos s level 0 opened.low opened.high (omega arith))) (append_cases fates new x j at)

-- An end

pub released_turned : (clock undos s k : ℕ) (sessions sessions' : List Opened) (fates fates' : List Fate) → 2 ≤ k → k ≤ length (opened_at sessions (s - 1)).names → IsWell clock undos sessions fates → IsEnded (release s k) s (from_level k) (with_released k) sessions sessions' fates fates' → EachTurned (release s k) fates fates'
released_turned clock undos s k sessions sessions' fates fates' low high well ended = rw ended.turned (all_turned s k (release s k) (from_level k (opened_at sessions (s - 1))) fates (release_ends s k (omega arith)) (λ i runs. own.from k i (omega arith) high ∙ runs))
  where
    own : IsSession fates s (opened_at sessions (s - 1))
    own = session_well clock undos sessions fates s well ended.low ended.high

-- the end of a transaction: no level is left
pub whole_turned : (clock undos s k : ℕ) (turn : Owner → Option Owner) (sessions sessions' : List Opened) (fates fates' : List Fate) → EndsFrom s k turn → IsWell clock undos sessions fates → IsEnded turn s all_places with_none sessions sessions' fates fates' → EachTurned turn fates fates'
whole_turned clock undos s k turn sessions sessions' fates fates' ends well ended = rw ended.turned (all_turned s k turn (opened_at sessions (s - 1)).places fates ends (λ i runs. own.all i ∙ from_lower s 0 k (owner_at fates i) (omega arith) runs))
  where
    own : IsSession fates s (opened_at sessions (s - 1))
    own = session_well clock undos sessions fates s well ended.low ended.high

pub undone_turned : (clock undos since s k : ℕ) (sessions sessions' : List Opened) (fates fates' : List Fate) → 1 ≤ k → k ≤ length (opened_at sessions (s - 1)).names → IsWell clock undos sessions fates → IsUndone s k since sessions sessions' fates fates' → EachTurned (undo s k) fates (turned_at (fate_after (undo s k)) (from_level k (opened_at sessions (s - 1))) fates)
undone_turned clock undos since s k sessions sessions' fates fates' low high well undone = all_turned s k (undo s k) (from_level k (opened_at sessions (s - 1))) fates (undo_ends s k) (λ i runs. own.from k i low high ∙ runs)
  where
    own : IsSession fates s (opened_at sessions (s - 1))
    own = session_well clock undos sessions fates s well undone.low undone.high

pub released_well : (clock undos s k : ℕ) (sessions sessions' : List Opened) (fates fates' : List Fate) → 2 ≤ k → k ≤ length (opened_at sessions (s - 1)).names → IsWell clock undos sessions fates → IsEnded (release s k) s (from_level k) (with_released k) sessions sessions' fates fates' → IsWell clock undos sessions' fates'
released_well clock undos s k sessions sessions' fates fates' low high well ended =
    rw ended.levels
    (well_set clock undos clock undos s sessions fates fates' (with_released k (opened_at sessions (s - 1))) ended.low ended.high well
    (fates_turned clock undos undos (release s k) fates fates' (omega arith) (release_bounds clock s k ended.low ended.high) each well.each_fate)
    (released_session s k fates fates' (opened_at sessions (s - 1)) low high each (session_well clock undos sessions fates s well ended.low ended.high))
    (λ t other apart. other_turned s k t (release s k) fates fates' other apart (release_ends s k (omega arith)) each))
  where
    each : EachTurned (release s k) fates fates'
    each = released_turned clock undos s k sessions sessions' fates fates' low high well ended

pub whole_well : (clock undos s k : ℕ) (turn : Owner → Option Owner) (sessions sessions' : List Opened) (fates fates' : List Fate) → EndsFrom s k turn → EndsAll s turn → KeepsBounds clock turn → IsWell clock undos sessions fates → IsEnded turn s all_places with_none sessions sessions' fates fates' → IsWell clock undos sessions' fates'
whole_well clock undos s k turn sessions sessions' fates fates' ends all bounds well ended =
    rw ended.levels
    (well_set clock undos clock undos s sessions fates fates' nothing ended.low ended.high well
    (fates_turned clock undos undos turn fates fates' (omega arith) bounds each well.each_fate)
    (ended_session s fates' (λ i. ap (is_some_from s 0) (owner_turned turn fates fates' each i) ∙ all.idle (owner_at fates i) (own.low i)))
    (λ t other apart. other_turned s k t turn fates fates' other apart ends each))
  where
    own : IsSession fates s (opened_at sessions (s - 1))
    own = session_well clock undos sessions fates s well ended.low ended.high

    each : EachTurned turn fates fates'
    each = whole_turned clock undos s k turn sessions sessions' fates fates' ends well ended

pub undone_well : (clock undos undos' s k : ℕ) (sessions sessions' : List Opened) (fates fates' : List Fate) → 1 ≤ k → k ≤ length (opened_at sessions (s - 1)).names → undos ≤ undos' → IsWell clock undos sessions fates → IsUndone s k undos' sessions sessions' fates fates' → IsWell clock undos' sessions' fates'
undone_well clock undos undos' s k sessions sessions' fates fates' low high more well undone =
    rw (undone.levels, undone.turned)
    (well_set clock undos clock undos' s sessions fates new (with_undone k session) undone.low undone.high well
    (fates_set clock undos' first mid (running s k undos') puts_within (running_well clock undos' s k undos' undone.low undone.high (omega arith)) (fates_turned clock undos undos' (undo s k) fates mid more (undo_bounds clock s k) each well.each_fate))
    (undone_session s k undos' fates mid session low high each own)
    (λ t other apart before. other_put s first k t mid new other apart puts (other_turned s k t (undo s k) fates mid other apart (undo_ends s k) each before)))
  where
    session : Opened
    session = opened_at sessions (s - 1)

    first : ℕ
    first = first_of k session

    mid : List Fate
    mid = turned_at (fate_after (undo s k)) (from_level k session) fates

    new : List Fate
    new = slice_set mid first (running s k undos')

    own : IsSession fates s session
    own = session_well clock undos sessions fates s well undone.low undone.high

    each : EachTurned (undo s k) fates mid
    each = undone_turned clock undos undos' s k sessions sessions' fates fates' low high well undone

    puts : Puts s first k mid new
    puts = first_puts s k undos' fates mid session low high each own

    puts_within : first < length mid
    puts_within = omega (arith, puts.within, length-set mid first (running s k undos'))
