-- What the steps of `Xacts` do to its fields, and to what contracts see.
use Rattle.std.proofs.Common.{ℕ, zero, suc, ◌+◌, ◌-◌, ◌^◌, ◌<◌, ◌≤◌, ◌≡◌, ◌≢◌, ⊎_elim, Bool, true, false, List, [], ◌∷◌, ◌++◌, length, take, map, Option, Some, None, refl, ap, sym, subst, ◌∙◌, arith, length-append, length-set, get_or-set_same, get_or-set_other}
use Rattle.std.specs.Prelude.{option_and_then, slice_get, slice_set, slice_index, slice_index_or, sum_by, nat_lt, ◌==◌, if◌then◌else◌, Contains, IsPermutation}
use Rattle.std.proofs.lemmas.Bool.Decides.{nat_tests}
use Rattle.std.proofs.lemmas.List.{length-take, map-set}
use Rattle.std.proofs.lemmas.List.Elements.{Contains-push_cases}
use Rattle.std.proofs.lemmas.List.Sorted.{IsPermutation-remove, IsPermutation-sym, length_permutation, Contains-permutation}
use Rattle.std.proofs.lemmas.List.Sums.{sum_by-set}
use Rattle.std.proofs.lemmas.Option.{none-some, get_or_from_slice_get, slice_get_within}
use Rattle.std.proofs.Math.ListN.{get_or-map}
use Rattle.lo_model.specs.declared.owner.Owner.{Owner}
use Rattle.lo_model.specs.declared.owner.Owner.TheVariants.{Running, Committed}
use Rattle.xact_core.specs.declared.fate.Fate.{Fate}
use Rattle.xact_core.specs.declared.snapshot.Snapshot.{Snapshot}
use Rattle.xact_core.specs.declared.stamp.Stamp.{Stamp}
use Rattle.xact_core.specs.declared.xacts.Xacts.TheInside.{Inside}
use Rattle.xact_core.specs.Ends.{Turns, same, undo, Opens, Ends}
use Rattle.xact_core.specs.Fate.{is_some_from, fate_after, turned_at}
use Rattle.xact_core.specs.Inside.{names_of, seen_of, owner_at, runs_from, IsSession, views_count, views_in, IsXacts}
use Rattle.xact_core.specs.Kept.{views_of, sessions_views, kept_views, current, current_committed, TakesOut, HoldsOthers, LooksWhole, HoldsWholeViews}
use Rattle.xact_core.specs.Opened.{Opened, nothing, opened_at, start, from_level, first_of, with_level, running, IsOpened, IsUndone}
use Rattle.xact_core.specs.Stamp.{made_at, owner_in, owner_of, IsIssued, HasOwners, sees_made, sees_stamp, SeesSame}
use Rattle.xact_core.specs.Transactions.{Transactions, levels_of, HasLevels}
use Rattle.xact_core.proofs.KeptViews.{cons_rest, whole_kept, held_kept}
use Rattle.xact_core.proofs.LevelPlaces.{EachTurned, first_runs, undone_gone, top_runs, level_runs}
use Rattle.xact_core.proofs.ListPlaces.{set_here, set_other, append_in}
use Rattle.xact_core.proofs.Owners.{owner_turns}
use Rattle.xact_core.proofs.Sessions.{session_well, own_read, at_read, later_well, opened_well, undone_turned}
use Rattle.xact_core.proofs.ViewOrder.{length-kept_views}

-- the levels of a session, as its fields have them and as contracts see them
pub levels_seen : (x : Inside) (s : ℕ) → 1 ≤ s → levels_of (seen_of x) s ≡ (opened_at x.sessions.items (s - 1)).names
levels_seen x zero low = absurd (omega arith)
levels_seen x (suc i) low = let place : suc i - 1 ≡ i = omega arith in get_or-map names_of x.sessions.items i nothing ∙ ap (λ (n : ℕ). (opened_at x.sessions.items n).names) (sym place)

-- one session's levels are others, as contracts see them
pub levels_set : (x y : Inside) (s : ℕ) (new : Opened) → length x.sessions.items ≡ 16 → 1 ≤ s → s ≤ 16 → y.sessions.items ≡ slice_set x.sessions.items (s - 1) new → HasLevels s new.names (seen_of x) (seen_of y)
levels_set x y s new sixteen low high is =
    record {
      low = low;
      high = high;
      levels = rw is (map-set names_of x.sessions.items (s - 1) new);
      own = levels_seen y s low ∙ rw is (ap (λ (session : Opened). session.names) (get_or-set_same x.sessions.items (s - 1) new nothing (omega arith)));
      others = other;
    }
  where
    other : (t : ℕ) → t ≢ s → levels_of (seen_of y) t ≡ levels_of (seen_of x) t
    other zero apart = refl
    other (suc i) apart = levels_seen y (suc i) (omega arith) ∙ rw is (ap (λ (session : Opened). session.names) (get_or-set_other x.sessions.items (s - 1) (suc i - 1) new nothing (omega (arith, apart)))) ∙ sym (levels_seen x (suc i) (omega arith))

-- How many views are kept

pub views_of-le : (xs ys : List (Option (List ℕ))) → length xs ≤ length ys → views_of xs ≤ views_of ys
views_of-le [] ys less = omega arith
views_of-le (x ∷ xs) [] less = absurd (omega arith)
views_of-le (x ∷ xs) (y ∷ ys) less = omega arith

pub views_of-more : (xs : List (Option (List ℕ))) (x : Option (List ℕ)) → views_of (xs ++ x ∷ []) ≤ views_of xs + 2
views_of-more [] x = omega arith
views_of-more (y ∷ ys) x = omega (arith, length-append ys (x ∷ []))

count_set : (sessions : List Opened) (i : ℕ) (new : Opened) → i < length sessions → sum_by views_in (slice_set sessions i new) + views_in (opened_at sessions i) ≡ sum_by views_in sessions + views_in new
count_set sessions i new within = sum_by-set views_in sessions i new nothing within

-- a session with no more levels than before has no more views
pub count_fewer : (sessions : List Opened) (i : ℕ) (new : Opened) (held : List Snapshot) → i < length sessions → length new.names ≤ length (opened_at sessions i).names → views_count (slice_set sessions i new) held ≤ views_count sessions held
count_fewer sessions i new held within less = omega (arith, count_set sessions i new within, views_of-le new.names (opened_at sessions i).names less)

-- one more level gives a session at most two more views
pub count_two : (sessions : List Opened) (i : ℕ) (name : Option (List ℕ)) (place : ℕ) (held : List Snapshot) → i < length sessions → views_count (slice_set sessions i (with_level name place (opened_at sessions i))) held ≤ views_count sessions held + 2
count_two sessions i name place held within = omega (arith, count_set sessions i (with_level name place (opened_at sessions i)) within, views_of-more (opened_at sessions i).names name)

pub count_less : (sessions : List Opened) (i : ℕ) (new : Opened) (held : List Snapshot) → i < length sessions → length new.names ≤ length (opened_at sessions i).names → views_count sessions held < 2 ^ 64 → views_count (slice_set sessions i new) held < 2 ^ 64
count_less sessions i new held within less few = omega (arith, count_fewer sessions i new held within less)

pub count_more : (sessions : List Opened) (i : ℕ) (name : Option (List ℕ)) (place : ℕ) (held : List Snapshot) → i < length sessions → views_count sessions held < 2 ^ 64 - 4 → views_count (slice_set sessions i (with_level name place (opened_at sessions i))) held < 2 ^ 64
count_more sessions i name place held within few = omega (arith, count_two sessions i name place held within)

pub ended_count : (sessions sessions' : List Opened) (s : ℕ) (new : Opened) (held : List Snapshot) → length sessions ≡ 16 → 1 ≤ s → s ≤ 16 → sessions' ≡ slice_set sessions (s - 1) new → length new.names ≤ length (opened_at sessions (s - 1)).names → views_count sessions held < 2 ^ 64 → views_count sessions' held < 2 ^ 64
ended_count sessions sessions' s new held sixteen low high is less few = rw is (count_less sessions (s - 1) new held (omega arith) less few)

pub taken : (n : ℕ) (names : List (Option (List ℕ))) → length (take n names) ≤ length names
taken n names = omega (arith, length-take n names)

-- What contracts see, and the fields

pub names_there : (x : Inside) (v : Transactions) (s : ℕ) → seen_of x ≡ v → 1 ≤ s → levels_of v s ≡ (opened_at x.sessions.items (s - 1)).names
names_there x v s seen low = ap (λ (u : Transactions). levels_of u s) (sym seen) ∙ levels_seen x s low

pub level_there : (x : Inside) (v : Transactions) (s k : ℕ) → seen_of x ≡ v → 1 ≤ k → k ≤ length (levels_of v s) → k ≤ length (opened_at x.sessions.items (s - 1)).names
level_there x v zero k seen low high = absurd (omega arith)
level_there x v (suc i) k seen low high = subst (λ (names : List (Option (List ℕ))). k ≤ length names) (names_there x v (suc i) seen (omega arith)) high

-- how many views are kept, as contracts see them and as the fields have them
pub count_there : (x : Inside) (v : Transactions) → seen_of x ≡ v → length (kept_views v) ≡ views_count x.sessions.items x.held.items
count_there x v seen = ap (λ (u : Transactions). length (kept_views u)) (sym seen) ∙ length-kept_views x

pub few_there : (x : Inside) (v : Transactions) → seen_of x ≡ v → length (kept_views v) < 2 ^ 64 - 4 → views_count x.sessions.items x.held.items < 2 ^ 64 - 4
few_there x v seen few = let counted : length (kept_views v) ≡ views_count x.sessions.items x.held.items = count_there x v seen in omega arith

-- An end, as contracts see it: one session has other levels, no more than before, and each owner is turned

pub ended : (x y : Inside) (v : Transactions) (s : ℕ) (new : Opened) (turn : Owner → Option Owner) (count : ℕ) → seen_of x ≡ v → IsXacts x → 1 ≤ s → s ≤ 16 → y.sessions.items ≡ slice_set x.sessions.items (s - 1) new → y.clock ≡ x.clock → y.held.items ≡ x.held.items → take count (opened_at x.sessions.items (s - 1)).names ≡ new.names → Turns turn (seen_of x) (seen_of y) → Ends turn s count v (seen_of y)
ended x y v s new turn count seen well low high is clock held names turns =
    subst (λ (u : Transactions). Ends turn s count u (seen_of y)) seen
    (record {
      levels = rw (levels_seen x s low, names) (levels_set x y s new well.well.levels.sixteen low high is);
      owners = turns;
      clock = clock;
      held = held;
      views = rw (length-kept_views y, length-kept_views x, held, is) (count_fewer x.sessions.items (s - 1) new x.held.items (omega (arith, well.well.levels.sixteen)) (rw (← names) (taken count (opened_at x.sessions.items (s - 1)).names)));
    })

-- what an end makes of the owner of each stamp that was given before it
pub turns_by : (turn : Owner → Option Owner) (old new : Transactions) → EachTurned turn old.fates new.fates → new.clock ≡ old.clock → new.undos ≡ old.undos → Turns turn old new
turns_by turn old new each clock undos =
    record {
      owners = λ st given. ap (owner_in st) (each.at st.place) ∙ owner_turns turn st (slice_get old.fates st.place);
      issued = λ st given. record { place = rw each.size given.place; undos = rw undos given.undos; clock = rw clock given.clock };
    }

-- an undoing, which begins the level again at a place that was its own
pub undone_turns : (s k place : ℕ) (old new : Transactions) (mid : List Fate) → EachTurned (undo s k) old.fates mid → runs_from old.fates s k place ≡ true → place < length mid → new.fates ≡ slice_set mid place (running s k (old.undos + 1)) → new.clock ≡ old.clock → new.undos ≡ old.undos + 1 → Turns (undo s k) old new
undone_turns s k place old new mid each runs within fates clock undos =
    record {
      owners = λ st given. rw fates (by_test st given (place == st.place) refl);
      issued = λ st given. record { place = rw (fates, length-set mid place again) (omega (arith, each.size, given.place)); undos = rw undos (omega (arith, given.undos)); clock = rw clock given.clock };
    }
  where
    again : Fate
    again = running s k (old.undos + 1)

    gone : (st : Stamp) (o : Option Fate) → is_some_from s k (option_and_then (λ (y : Fate). y.owner) o) ≡ true → option_and_then (undo s k) (owner_in st o) ≡ None
    gone st None from = refl
    gone st (Some x) from = by_stamp (nat_lt st.undos x.since)
      where
        by_stamp : (b : Bool) → option_and_then (undo s k) (if b then None else x.owner) ≡ None
        by_stamp true = refl
        by_stamp false = undone_gone s k x.owner from

    by_test : (st : Stamp) → IsIssued old st → (b : Bool) → (place == st.place) ≡ b → owner_in st (slice_get (slice_set mid place again) st.place) ≡ option_and_then (undo s k) (owner_of old st)
    by_test st given true same =
        let equal : place ≡ st.place = grind (arith, nat_tests) in
        let here : slice_get (slice_set mid place again) st.place ≡ Some again = subst (λ (n : ℕ). slice_get (slice_set mid place again) n ≡ Some again) equal (set_here mid place again within) in
        let late : nat_lt st.undos (old.undos + 1) ≡ true = later st.undos old.undos given.undos in
        ap (owner_in st) here ∙ rw late refl ∙ sym (gone st (slice_get old.fates st.place) (subst (λ (n : ℕ). runs_from old.fates s k n ≡ true) equal runs))
      where
        later : (n m : ℕ) → n ≤ m → nat_lt n (m + 1) ≡ true
        later n m less = grind (arith, nat_tests)
    by_test st given false other =
        let apart : place ≢ st.place = grind (arith, nat_tests) in
        ap (owner_in st) (set_other mid place st.place again apart ∙ each.at st.place) ∙ owner_turns (undo s k) st (slice_get old.fates st.place)

pub undone_by : (x y : Inside) (s k : ℕ) → 1 ≤ k → k ≤ length (opened_at x.sessions.items (s - 1)).names → IsXacts x → y.clock ≡ x.clock → y.undos ≡ x.undos + 1 → IsUndone s k (x.undos + 1) x.sessions.items y.sessions.items x.fates.items y.fates.items → Turns (undo s k) (seen_of x) (seen_of y)
undone_by x y s k low high well clock undos undone =
    undone_turns s k (first_of k session) (seen_of x) (seen_of y) (turned_at (fate_after (undo s k)) (from_level k session) x.fates.items) each (first_runs s k x.fates.items session low high own)
    (rw each.size (own.within (start session k) 0 (own.filled k low high))) undone.turned clock undos
  where
    session : Opened
    session = opened_at x.sessions.items (s - 1)

    own : IsSession x.fates.items s session
    own = session_well x.clock x.undos x.sessions.items x.fates.items s well.well undone.low undone.high

    each : EachTurned (undo s k) x.fates.items (turned_at (fate_after (undo s k)) (from_level k session) x.fates.items)
    each = undone_turned x.clock x.undos (x.undos + 1) s k x.sessions.items y.sessions.items x.fates.items y.fates.items low high well.well undone

-- as many views are kept where sessions and held views stay, at any clock
pub count_stays : (x y : Inside) (v : Transactions) → seen_of x ≡ v → y.sessions.items ≡ x.sessions.items → y.held.items ≡ x.held.items → length (kept_views (seen_of y)) ≡ length (kept_views v)
count_stays x y v seen sessions held = rw (length-kept_views y, count_there x v seen, held, sessions) refl

pub ticked_xacts : (x y : Inside) (v : Transactions) → seen_of x ≡ v → v.clock < 2 ^ 63 → IsXacts x → y.clock ≡ x.clock + 1 → y.undos ≡ x.undos → y.sessions.items ≡ x.sessions.items → y.fates.items ≡ x.fates.items → y.held.items ≡ x.held.items → IsXacts y
ticked_xacts x y v seen few well clock undos sessions fates held =
    record {
      clock = let before : x.clock < 2 ^ 63 = subst (λ (u : Transactions). u.clock < 2 ^ 63) (sym seen) few in rw clock (omega arith);
      undos = rw undos well.undos;
      well = rw (clock, undos, sessions, fates) (later_well x.clock (x.clock + 1) x.undos x.sessions.items x.fates.items (omega arith) well.well);
      views = rw (sessions, held) well.views;
    }

-- One more level

pub opened_xacts : (x y : Inside) (s : ℕ) (name : Option (List ℕ)) → views_count x.sessions.items x.held.items < 2 ^ 64 - 4 → IsXacts x → y.clock ≡ x.clock → y.undos ≡ x.undos → y.held.items ≡ x.held.items → IsOpened s name x.sessions.items y.sessions.items x.fates.items y.fates.items → IsXacts y
opened_xacts x y s name few well clock undos held opened =
    record {
      clock = rw clock well.clock;
      undos = rw undos well.undos;
      well = rw (clock, undos) (opened_well x.clock x.undos s name x.sessions.items y.sessions.items x.fates.items y.fates.items well.well opened);
      views = rw (held, opened.levels) (count_more x.sessions.items (s - 1) name (length x.fates.items) x.held.items (omega (arith, well.well.levels.sixteen, opened.low, opened.high)) few);
    }

-- no owner changes with the clock, nor with what is held
kept : (o : Option Owner) → o ≡ option_and_then same o
kept None = refl
kept (Some owner) = refl

pub same_fates : (old new : Transactions) → new.fates ≡ old.fates → new.undos ≡ old.undos → old.clock ≤ new.clock → Turns same old new
same_fates old new fates undos clock =
    record {
      owners = λ st given. rw fates (kept (owner_of old st));
      issued = λ st given. record { place = rw fates given.place; undos = rw undos given.undos; clock = omega (arith, given.clock) };
    }

-- nor with a fate more
opened_turns : (x y : Transactions) (fate : Fate) → y.fates ≡ x.fates ++ fate ∷ [] → y.clock ≡ x.clock → y.undos ≡ x.undos → Turns same x y
opened_turns x y fate more clock undos =
    record {
      owners = λ st given. rw (more, append_in x.fates fate st.place given.place) (kept (owner_of x st));
      issued = λ st given. record { place = rw (more, length-append x.fates (fate ∷ [])) (omega (arith, given.place)); undos = rw undos given.undos; clock = rw clock given.clock };
    }

opened_count : (x y : Inside) (s : ℕ) (name : Option (List ℕ)) → IsXacts x → y.held.items ≡ x.held.items → IsOpened s name x.sessions.items y.sessions.items x.fates.items y.fates.items → length (kept_views (seen_of y)) ≤ length (kept_views (seen_of x)) + 2
opened_count x y s name well held opened = rw (length-kept_views y, length-kept_views x, held, opened.levels) (count_two x.sessions.items (s - 1) name (length x.fates.items) x.held.items (omega (arith, well.well.levels.sixteen, opened.low, opened.high)))

pub opened_seen : (x y : Inside) (v : Transactions) (s : ℕ) (name : Option (List ℕ)) → seen_of x ≡ v → IsXacts x → y.clock ≡ x.clock → y.undos ≡ x.undos → y.held.items ≡ x.held.items → IsOpened s name x.sessions.items y.sessions.items x.fates.items y.fates.items → Opens s name v (seen_of y)
opened_seen x y v s name seen well clock undos held opened =
    subst (λ (u : Transactions). Opens s name u (seen_of y)) seen
    (record {
      levels = rw (levels_seen x s opened.low) (levels_set x y s _ well.well.levels.sixteen opened.low opened.high opened.levels);
      owners = opened_turns (seen_of x) (seen_of y) _ opened.turned clock undos;
      clock = clock;
      undos = undos;
      held = held;
      views = opened_count x y s name well held opened;
    })

-- A session's top level

pub record IsTop (x : Inside) (v : Transactions) (s place : ℕ) : Type 0 where
  pub owner : owner_at x.fates.items place ≡ Some (Running s (length (levels_of v s)))
  pub within : place < length x.fates.items

own_there : (x : Inside) (s i : ℕ) (session : Opened) → IsXacts x → i + 1 ≡ s → i + 1 ≤ 16 → session ≡ slice_index_or x.sessions.items i session → IsSession x.fates.items s session
own_there x s i session well number within read = own_read x.sessions.items x.fates.items s i session well.well.levels number within read

-- the names of a session's levels, as read from the fields
pub names_read : (x : Inside) (v : Transactions) (s i : ℕ) (session : Opened) → seen_of x ≡ v → IsXacts x → i + 1 ≡ s → i + 1 ≤ 16 → session ≡ slice_index_or x.sessions.items i session → levels_of v s ≡ session.names
names_read x v s i session seen well number within read = names_there x v s seen (omega (arith, number)) ∙ ap names_of (at_read x.sessions.items s i session well.well.levels.sixteen number within read)

pub top_there : (x : Inside) (v : Transactions) (s i : ℕ) (session : Opened) → seen_of x ≡ v → IsXacts x → i + 1 ≡ s → i + 1 ≤ 16 → session ≡ slice_index_or x.sessions.items i session → 0 < length (levels_of v s) → (0 < length session.places) × IsTop x v s (slice_index session.places (length session.places - 1))
top_there x v s i session seen well number within read some =
    (more, record { owner = rw names (top_runs x.fates.items s session named own); within = own.within (length session.places - 1) 0 (omega (arith, more)) })
  where
    own : IsSession x.fates.items s session
    own = own_there x s i session well number within read

    names : levels_of v s ≡ session.names
    names = names_read x v s i session seen well number within read

    named : 0 < length session.names
    named = subst (λ (ns : List (Option (List ℕ))). 0 < length ns) names some

    more : 0 < length session.places
    more = omega (arith, own.filled 1 (omega arith) (omega (arith, named)))

pub stamp_owner : (x : Inside) (v : Transactions) (s place : ℕ) (st : Stamp) → seen_of x ≡ v → IsXacts x → IsTop x v s place → st.place ≡ place → st.undos ≡ x.undos → owner_of v st ≡ Some (Running s (length (levels_of v s)))
stamp_owner x v s place st seen well top at undos = subst (λ (u : Transactions). owner_of u st ≡ Some (Running s (length (levels_of v s)))) seen (rw at (by_fate (slice_get x.fates.items place) refl))
  where
    by_fate : (o : Option Fate) → slice_get x.fates.items place ≡ o → owner_in st o ≡ Some (Running s (length (levels_of v s)))
    by_fate None is = absurd (none-some _ (sym (ap (option_and_then (λ (y : Fate). y.owner)) is) ∙ top.owner))
    by_fate (Some fate) is =
        let old : fate.since ≤ x.undos = (well.well.each_fate place fate is).since in
        let stands : nat_lt st.undos fate.since ≡ false = rw undos (grind (arith, nat_tests)) in
        rw stands (sym (ap (option_and_then (λ (y : Fate). y.owner)) is) ∙ top.owner)

pub stamp_issued : (x : Inside) (v : Transactions) (s place : ℕ) (st : Stamp) → seen_of x ≡ v → IsTop x v s place → st.place ≡ place → st.undos ≡ x.undos → st.clock ≡ x.clock → IsIssued v st
stamp_issued x v s place st seen top at undos clock = subst (λ (u : Transactions). IsIssued u st) seen (record { place = rw at top.within; undos = rw undos (omega arith); clock = rw clock (omega arith) })

-- Whose an edit can be

-- the fate that gives a stamp its owner
record HasFate (x : Inside) (st : Stamp) (owner : Owner) : Type 0 where
  pub fate : Fate
  pub at : slice_get x.fates.items st.place ≡ Some fate
  pub is : fate.owner ≡ Some owner

fate_there : (x : Inside) (st : Stamp) (owner : Owner) → owner_of (seen_of x) st ≡ Some owner → HasFate x st owner
fate_there x st owner is = by_fate (slice_get x.fates.items st.place) refl is
  where
    by_test : (b : Bool) (fate : Fate) → (if b then None else fate.owner) ≡ Some owner → fate.owner ≡ Some owner
    by_test true fate is = absurd (none-some _ is)
    by_test false fate is = is

    by_fate : (o : Option Fate) → slice_get x.fates.items st.place ≡ o → owner_in st o ≡ Some owner → HasFate x st owner
    by_fate None at is = absurd (none-some _ is)
    by_fate (Some fate) at is = record { fate = fate; at = at; is = by_test (nat_lt st.undos fate.since) fate is }

owners_seen : (x : Inside) → IsXacts x → HasOwners (seen_of x)
owners_seen x well = record { session = session; level = level; committed = committed }
  where
    session : (st : Stamp) (s l : ℕ) → owner_of (seen_of x) st ≡ Some (Running s l) → (1 ≤ s) × (s ≤ 16)
    session st s l owner = let there : HasFate x st (Running s l) = fate_there x st (Running s l) owner in (well.well.each_fate st.place there.fate there.at).owner (Running s l) there.is

    level : (st : Stamp) (s l : ℕ) → owner_of (seen_of x) st ≡ Some (Running s l) → (1 ≤ l) × (l ≤ length (levels_of (seen_of x) s))
    level st s l owner =
        let there : HasFate x st (Running s l) = fate_there x st (Running s l) owner in
        let number : (1 ≤ s) × (s ≤ 16) = session st s l owner in
        let own : IsSession x.fates.items s (opened_at x.sessions.items (s - 1)) = session_well x.clock x.undos x.sessions.items x.fates.items s well.well number.0 number.1 in
        let at : owner_at x.fates.items st.place ≡ Some (Running s l) = ap (option_and_then (λ (y : Fate). y.owner)) there.at ∙ there.is in
        let bounds : (1 ≤ l) × (l ≤ length (opened_at x.sessions.items (s - 1)).names) = level_runs x.fates.items s st.place l (opened_at x.sessions.items (s - 1)) own at in
        (bounds.0, rw (levels_seen x s number.0) bounds.1)

    committed : (st : Stamp) (c : ℕ) → owner_of (seen_of x) st ≡ Some (Committed c) → c ≤ x.clock
    committed st c owner = let there : HasFate x st (Committed c) = fate_there x st (Committed c) owner in (well.well.each_fate st.place there.fate there.at).owner (Committed c) there.is

pub owners_there : (x : Inside) (v : Transactions) → seen_of x ≡ v → IsXacts x → HasOwners v
owners_there x v seen well = subst HasOwners seen (owners_seen x well)

-- a session without levels sees nothing of its own
pub none_seen : (v : Transactions) (s : ℕ) → HasOwners v → levels_of v s ≡ [] → SeesSame v (current v s) (current_committed v)
none_seen v s owners none st = by_owner (owner_of v st) refl
  where
    by_owner : (o : Option Owner) → owner_of v st ≡ o → sees_made (current v s) (made_at st) o ≡ sees_made (current_committed v) (made_at st) o
    by_owner None is = refl
    by_owner (Some (Committed c)) is = refl
    by_owner (Some (Running t l)) is = by_test (t == s) refl
      where
        by_test : (b : Bool) → (t == s) ≡ b → sees_made (current v s) (made_at st) (Some (Running t l)) ≡ sees_made (current_committed v) (made_at st) (Some (Running t l))
        by_test true own =
            let equal : t ≡ s = grind (arith, nat_tests) in
            let level : (1 ≤ l) × (l ≤ length (levels_of v t)) = owners.level st t l is in
            let no_levels : length (levels_of v t) ≡ 0 = ap (λ (n : ℕ). length (levels_of v n)) equal ∙ ap length none in
            absurd (omega (arith, level.0, level.1, no_levels))
        by_test false other = grind (arith, nat_tests)

pub none_there : (x : Inside) (v : Transactions) (s : ℕ) → seen_of x ≡ v → IsXacts x → levels_of v s ≡ [] → SeesSame v (current (seen_of x) s) (current_committed v)
none_there x v s seen well none st = ap (λ (u : Transactions). sees_stamp v (current u s) st) seen ∙ none_seen v s (owners_there x v seen well) none st

-- the whole view of a session with a transaction is kept
pub whole_there : (x : Inside) (v : Transactions) (s : ℕ) → seen_of x ≡ v → 0 < length (levels_of v s) → Contains (kept_views v) (current (seen_of x) s)
whole_there x v s seen some = subst (λ (u : Transactions). Contains (kept_views v) (current u s)) (sym seen) (whole_kept v s some)

-- Holds

pub taken_order : (view : Snapshot) (old new : List Snapshot) → TakesOut view old new → IsPermutation old (view ∷ new)
taken_order view old new takes = rw takes.rest (IsPermutation-remove old takes.place view (slice_get_within old takes.place view takes.stood) (sym (get_or_from_slice_get old takes.place view view takes.stood)))

taken_from : (view : Snapshot) (old new : List Snapshot) → TakesOut view old new → (v : Snapshot) → Contains new v → Contains old v
taken_from view old new takes v here = Contains-permutation (view ∷ new) old v (IsPermutation-sym old (view ∷ new) (taken_order view old new takes)) (cons_rest view v new here)

-- other views are held, and all other fields are as they were
abbrev pub with_held : Inside → List Snapshot → Transactions
with_held x held = record (seen_of x) { held = held }

pub let_go_others : (x : Inside) (v : Transactions) (view : Snapshot) (held : List Snapshot) → seen_of x ≡ v → TakesOut view x.held.items held → HoldsOthers v (with_held x held)
let_go_others x v view held seen takes =
    subst (λ (u : Transactions). HoldsOthers u (with_held x held)) seen
    (record { rest = refl; kept = λ w here. held_kept (seen_of x) w (taken_from view x.held.items held takes w here) })

pub let_go_whole : (x : Inside) (v : Transactions) (view : Snapshot) (held : List Snapshot) → seen_of x ≡ v → TakesOut view x.held.items held → HoldsWholeViews v → HoldsWholeViews (with_held x held)
let_go_whole x v view held seen takes before = record { whole = λ w here. before.whole w (subst (λ (u : Transactions). Contains u.held w) seen (taken_from view x.held.items held takes w here)) }

pub hold_whole : (x : Inside) (v : Transactions) (view : Snapshot) (held : List Snapshot) → seen_of x ≡ v → held ≡ x.held.items ++ view ∷ [] → LooksWhole view.viewer → HoldsWholeViews v → HoldsWholeViews (with_held x held)
hold_whole x v view held seen is whole before = record { whole = λ w here. ⊎_elim (λ old. before.whole w (subst (λ (u : Transactions). Contains u.held w) seen old)) (λ own. subst (λ (u : Snapshot). LooksWhole u.viewer) own whole) (Contains-push_cases x.held.items view w (subst (λ (views : List Snapshot). Contains views w) is here)) }

pub same_whole : (x : Inside) (v : Transactions) (held : List Snapshot) → seen_of x ≡ v → held ≡ x.held.items → HoldsWholeViews v → HoldsWholeViews (with_held x held)
same_whole x v held seen is before = record { whole = λ w here. before.whole w (subst (λ (u : Transactions). Contains u.held w) seen (subst (λ (views : List Snapshot). Contains views w) is here)) }

pub let_go_views : (x : Inside) (v : Transactions) (view : Snapshot) (held : List Snapshot) → seen_of x ≡ v → TakesOut view x.held.items held → length (kept_views (with_held x held)) + 1 ≡ length (kept_views v)
let_go_views x v view held seen takes =
    subst (λ (u : Transactions). length (kept_views (with_held x held)) + 1 ≡ length (kept_views u)) seen
    (omega (arith, length-append own held, length-append own x.held.items, length_permutation x.held.items (view ∷ held) (taken_order view x.held.items held takes)))
  where
    own : List Snapshot
    own = sessions_views (x.clock + 1) 1 (map names_of x.sessions.items)

pub hold_others : (x : Inside) (v : Transactions) (view : Snapshot) (held : List Snapshot) → seen_of x ≡ v → Contains (kept_views v) view → held ≡ x.held.items ++ view ∷ [] → HoldsOthers v (with_held x held)
hold_others x v view held seen kept is =
    subst (λ (u : Transactions). Contains (kept_views u) view → HoldsOthers u (with_held x held)) seen
    (λ before. record { rest = refl; kept = λ w here. ⊎_elim (held_kept (seen_of x) w) (λ own. subst (Contains (kept_views (seen_of x))) own before) (Contains-push_cases x.held.items view w (subst (λ (views : List Snapshot). Contains views w) is here)) })
    kept

pub same_others : (x : Inside) (v : Transactions) (held : List Snapshot) → seen_of x ≡ v → held ≡ x.held.items → HoldsOthers v (with_held x held)
same_others x v held seen is =
    subst (λ (u : Transactions). HoldsOthers u (with_held x held)) seen
    (record { rest = refl; kept = λ w here. held_kept (seen_of x) w (subst (λ (views : List Snapshot). Contains views w) is here) })
