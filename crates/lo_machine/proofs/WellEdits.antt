-- What the ends of levels and transactions, and new edits, leave of what holds of well edits and sessions: edits are past, owned
-- by levels that are there or by past commits, and there is none at the clock of a view that is kept.
use Rattle.std.proofs.Common.{◌≡◌, ◌≢◌, ◌≤◌, ◌<◌, ℕ, ◌+◌, ◌-◌, Bool, true, false, List, [], ◌∷◌, ◌++◌, length, Option, refl, ap, sym, subst, arith, inl, inr}
use Rattle.std.specs.Prelude.{All, not, ◌==◌, ◌&&◌, nat_le, if◌then◌else◌}
use Rattle.std.proofs.lemmas.Bool.{cases_eq, false≢true}
use Rattle.std.proofs.lemmas.Bool.Decides.{nat_tests}
use Rattle.std.proofs.lemmas.List.Elements.{All-nil, All-cons, All-head, All-tail, All-append, All-weaker, All-map, All-filter}
use Rattle.lo_model.specs.declared.owner.Owner.{Owner}
use Rattle.lo_model.specs.declared.owner.Owner.TheVariants.{Running, Committed}
use Rattle.lo_model.specs.Descriptor.{Reading, Kept, Current, Descriptor, Cursor}
use Rattle.lo_model.specs.Edit.{Deed, Edit, edits_by}
use Rattle.lo_model.specs.Levels.{is_from_level, stays, owned_by, released, released_owner, undone, committed, committed_owner}
use Rattle.lo_model.specs.Session.{Session}
use Rattle.lo_model.specs.Transaction.{top_level}
use Rattle.lo_machine.specs.Later.{with_session_at}
use Rattle.lo_machine.specs.State.{owner_in}
use Rattle.lo_machine.specs.Well.{IsOwner, IsPast, IsQuietAt, IsQuiet, IsDescriptor, IsCursor, IsSession}

-- one session and all others

pub own_session : (s : ℕ) (session : Session) (sessions : ℕ → Session) → with_session_at s session sessions s ≡ session
own_session s session sessions = let test : (s == s) ≡ true = grind (arith, nat_tests) in rw test refl

pub each_session : (P : Session → Type 0) (s : ℕ) (session : Session) (sessions : ℕ → Session) → P session → ((t : ℕ) → t ≢ s → P (sessions t)) → (t : ℕ) → P (with_session_at s session sessions t)
each_session P s session sessions own others t = elim (cases_eq t s) [
  | inl same ↦
      let test : (t == s) ≡ true = grind (arith, nat_tests, same) in
      rw test own
  | inr other ↦
      let test : (t == s) ≡ false = grind (arith, nat_tests, other) in
      rw test (others t other)
]

pub session_again : (s : ℕ) (sessions : ℕ → Session) (t : ℕ) → with_session_at s (sessions s) sessions t ≡ sessions t
session_again s sessions t = elim (cases_eq t s) [
  | inl same ↦
      let test : (t == s) ≡ true = grind (arith, nat_tests, same) in
      rw test (ap sessions (sym same))
  | inr other ↦
      let test : (t == s) ≡ false = grind (arith, nat_tests, other) in
      rw test refl
]

-- Owners

abbrev is_commit : Owner → Bool
is_commit (Running s l) = false
is_commit (Committed c) = true

abbrev commit_clock : Owner → ℕ
commit_clock (Running s l) = 0
commit_clock (Committed c) = c

running_not : (s l c : ℕ) → Running s l ≢ Committed c
running_not s l c same = false≢true (ap is_commit same)

other_commit : (n c : ℕ) → c < n → Committed n ≢ Committed c
other_commit n c past same = let clocks : n ≡ c = ap commit_clock same in omega (arith, clocks, past)

not_from : (b : Bool) → not b ≡ true → b ≡ false
not_from false is = refl
not_from true is = absurd (false≢true is)

module _ (n s : ℕ) (sessions : ℕ → Session) (session : Session) where
  abbrev pub after : ℕ → Session
  after = with_session_at s session sessions

  -- of another session, or one that this session keeps
  owner_kept : (o : Owner) → ((l : ℕ) → o ≡ Running s l → l ≤ top_level (sessions s).transaction → l ≤ top_level session.transaction) → IsOwner n sessions o → IsOwner (n + 1) after o
  owner_kept (Running t l) kept is = elim (cases_eq t s) [
    | inl same ↦
        let test : (t == s) ≡ true = grind (arith, nat_tests, same) in
        let high : l ≤ top_level (sessions s).transaction = subst (λ (u : ℕ). l ≤ top_level (sessions u).transaction) same is.1 in
        rw test (is.0, kept l (ap (λ (u : ℕ). Running u l) same) high)
    | inr other ↦
        let test : (t == s) ≡ false = grind (arith, nat_tests, other) in
        rw test is
  ]
  owner_kept (Committed c) kept is = omega (arith, is)

  -- one that is below a level
  owner_below : (k : ℕ) (o : Owner) → is_from_level s k o ≡ false → k ≤ top_level session.transaction + 1 → IsOwner n sessions o → IsOwner (n + 1) after o
  owner_below k o below most is = owner_kept o low is
    where
      low : (l : ℕ) → o ≡ Running s l → l ≤ top_level (sessions s).transaction → l ≤ top_level session.transaction
      low l own high =
          let test : ((s == s) && nat_le k l) ≡ false = subst (λ (u : Owner). is_from_level s k u ≡ false) own below in
          grind (arith, nat_tests, test, most)

  owner_released : (k : ℕ) → 2 ≤ k → k ≤ top_level session.transaction + 1 → (o : Owner) → IsOwner n sessions o → IsOwner (n + 1) after (released_owner s k o)
  owner_released k low most o is = by (is_from_level s k o) refl
    where
      here : IsOwner (n + 1) after (Running s (k - 1))
      here = rw (own_session s session sessions) (omega (arith, low), omega (arith, low, most))

      by : (b : Bool) → is_from_level s k o ≡ b → IsOwner (n + 1) after (if b then Running s (k - 1) else o)
      by true from = here
      by false from = owner_below k o from most is

  owner_committed : (o : Owner) → IsOwner n sessions o → IsOwner (n + 1) after (committed_owner s n o)
  owner_committed o is = by (is_from_level s 0 o) refl
    where
      by : (b : Bool) → is_from_level s 0 o ≡ b → IsOwner (n + 1) after (if b then Committed n else o)
      by true from = omega arith
      by false from = owner_below 0 o from (omega arith) is

  -- Past edits

  pub past_kept : (es : List (Edit Deed)) → top_level (sessions s).transaction ≤ top_level session.transaction → All (IsPast n sessions) es → All (IsPast (n + 1) after) es
  past_kept es more all = All-weaker (IsPast n sessions) (IsPast (n + 1) after) (λ e is. record { made = omega (arith, is.made); owner = owner_kept e.owner (λ l own high. omega (arith, high, more)) is.owner }) es all

  pub past_released : (k : ℕ) (es : List (Edit Deed)) → 2 ≤ k → k ≤ top_level session.transaction + 1 → All (IsPast n sessions) es → All (IsPast (n + 1) after) (released s k es)
  past_released k es low most all =
      All-map (IsPast (n + 1) after) (owned_by (released_owner s k)) es
      (All-weaker (IsPast n sessions) (λ (e : Edit Deed). IsPast (n + 1) after (owned_by (released_owner s k) e)) (λ e is. record { made = omega (arith, is.made); owner = owner_released k low most e.owner is.owner }) es all)

  pub past_committed : (es : List (Edit Deed)) → All (IsPast n sessions) es → All (IsPast (n + 1) after) (committed s n es)
  past_committed es all =
      All-map (IsPast (n + 1) after) (owned_by (committed_owner s n)) es
      (All-weaker (IsPast n sessions) (λ (e : Edit Deed). IsPast (n + 1) after (owned_by (committed_owner s n) e)) (λ e is. record { made = omega (arith, is.made); owner = owner_committed e.owner is.owner }) es all)

  pub past_undone : (k : ℕ) (es : List (Edit Deed)) → k ≤ top_level session.transaction + 1 → All (IsPast n sessions) es → All (IsPast (n + 1) after) (undone s k es)
  past_undone k [] most all = All-nil (IsPast (n + 1) after)
  past_undone k (e ∷ es) most all = by (is_from_level s k e.owner) refl (past_undone k es most (All-tail (IsPast n sessions) e es all))
    where
      first : IsPast n sessions e
      first = All-head (IsPast n sessions) e es all

      by : (b : Bool) → is_from_level s k e.owner ≡ b → All (IsPast (n + 1) after) (undone s k es) → All (IsPast (n + 1) after) (undone s k (e ∷ es))
      by true from rest = rw from rest
      by false from rest = rw from (All-cons (IsPast (n + 1) after) e (undone s k es) (record { made = omega (arith, first.made); owner = owner_below k e.owner from most first.owner }) rest)

-- New edits

made_each : (P : Edit Deed → Type 0) (clock : ℕ) (owner : Owner) → ((d : Deed) → P (record { clock = clock; owner = owner; deed = d })) → (ds : List Deed) → All P (edits_by clock owner ds)
made_each P clock owner each [] = All-nil P
made_each P clock owner each (d ∷ ds) = All-cons P (record { clock = clock; owner = owner; deed = d }) (edits_by clock owner ds) (each d) (made_each P clock owner each ds)

owner_new : (n s : ℕ) (sessions : ℕ → Session) (levels : List (Option (List ℕ))) → levels ≡ (sessions s).transaction.levels → IsOwner (n + 1) sessions (owner_in n s levels)
owner_new n s sessions [] are = omega arith
owner_new n s sessions (level ∷ levels) are = (omega arith, subst (λ (names : List (Option (List ℕ))). length (level ∷ levels) ≤ length names) are (omega arith))

pub past_made : (n s : ℕ) (sessions : ℕ → Session) (levels : List (Option (List ℕ))) (ds : List Deed) → levels ≡ (sessions s).transaction.levels → All (IsPast (n + 1) sessions) (edits_by n (owner_in n s levels) ds)
past_made n s sessions levels ds are = made_each (IsPast (n + 1) sessions) n (owner_in n s levels) (λ d. record { made = omega arith; owner = owner_new n s sessions levels are }) ds

-- Views that are kept: no edit comes to their clocks.

abbrev pub StayQuiet : (now : ℕ) → (old new : List (Edit Deed)) → Type 0
StayQuiet now old new = (clock : ℕ) → clock < now → All (IsQuietAt clock) old → All (IsQuietAt clock) new

released_not : (s k c : ℕ) (o : Owner) → o ≢ Committed c → released_owner s k o ≢ Committed c
released_not s k c o not_it = by (is_from_level s k o)
  where
    by : (b : Bool) → (if b then Running s (k - 1) else o) ≢ Committed c
    by true = running_not s (k - 1) c
    by false = not_it

committed_not : (s n c : ℕ) (o : Owner) → c < n → o ≢ Committed c → committed_owner s n o ≢ Committed c
committed_not s n c o past not_it = by (is_from_level s 0 o)
  where
    by : (b : Bool) → (if b then Committed n else o) ≢ Committed c
    by true = other_commit n c past
    by false = not_it

pub quiet_same : (n : ℕ) (es : List (Edit Deed)) → StayQuiet n es es
quiet_same n es clock past all = all

pub quiet_released : (n s k : ℕ) (es : List (Edit Deed)) → StayQuiet n es (released s k es)
quiet_released n s k es clock past all =
    All-map (IsQuietAt clock) (owned_by (released_owner s k)) es
    (All-weaker (IsQuietAt clock) (λ (e : Edit Deed). IsQuietAt clock (owned_by (released_owner s k) e)) (λ e is. record { made = is.made; owner = released_not s k clock e.owner is.owner }) es all)

pub quiet_committed : (n s : ℕ) (es : List (Edit Deed)) → StayQuiet n es (committed s n es)
quiet_committed n s es clock past all =
    All-map (IsQuietAt clock) (owned_by (committed_owner s n)) es
    (All-weaker (IsQuietAt clock) (λ (e : Edit Deed). IsQuietAt clock (owned_by (committed_owner s n) e)) (λ e is. record { made = is.made; owner = committed_not s n clock e.owner past is.owner }) es all)

pub quiet_undone : (n s k : ℕ) (es : List (Edit Deed)) → StayQuiet n es (undone s k es)
quiet_undone n s k es clock past all = All-filter (stays s k) (IsQuietAt clock) es all

owner_in_not : (n s c : ℕ) (levels : List (Option (List ℕ))) → c < n → owner_in n s levels ≢ Committed c
owner_in_not n s c [] past = other_commit n c past
owner_in_not n s c (level ∷ levels) past = running_not s (length (level ∷ levels)) c

pub quiet_made : (n s : ℕ) (levels : List (Option (List ℕ))) (es : List (Edit Deed)) (ds : List Deed) → StayQuiet n es (es ++ edits_by n (owner_in n s levels) ds)
quiet_made n s levels es ds clock past all =
    All-append (IsQuietAt clock) es (edits_by n (owner_in n s levels) ds) all
    (made_each (IsQuietAt clock) n (owner_in n s levels) (λ d. record { made = λ same. omega (arith, past, same); owner = owner_in_not n s clock levels past }) ds)

-- no edit was made yet at the present clock
pub quiet_now : (n : ℕ) (sessions : ℕ → Session) (es : List (Edit Deed)) → All (IsPast n sessions) es → All (IsQuietAt n) es
quiet_now n sessions es all = All-weaker (IsPast n sessions) (IsQuietAt n) (λ e is. record { made = λ same. omega (arith, is.made, same); owner = λ same. not_now (subst (IsOwner n sessions) same is.owner) }) es all
  where
    not_now : n < n → ⊥
    not_now less = omega (arith, less)

reading_later : (n : ℕ) (old new : List (Edit Deed)) → StayQuiet n old new → (r : Reading) → IsQuiet n old r → IsQuiet (n + 1) new r
reading_later n old new stay (Kept clock) is = (omega (arith, is.0), stay clock is.0 is.1)
reading_later n old new stay Current is = tt

pub described_later : (n : ℕ) (old new : List (Edit Deed)) (levels levels' : ℕ) → StayQuiet n old new → (d : Descriptor) → d.level ≤ levels' → IsDescriptor n old levels d → IsDescriptor (n + 1) new levels' d
described_later n old new levels levels' stay d level is = record { level = level; quiet = reading_later n old new stay d.reading is.quiet }

pub all_described_later : (n : ℕ) (old new : List (Edit Deed)) (levels levels' : ℕ) → StayQuiet n old new → levels ≤ levels' → (ds : List Descriptor) → All (IsDescriptor n old levels) ds → All (IsDescriptor (n + 1) new levels') ds
all_described_later n old new levels levels' stay more ds all = All-weaker (IsDescriptor n old levels) (IsDescriptor (n + 1) new levels') (λ d is. described_later n old new levels levels' stay d (omega (arith, more, is.level)) is) ds all

pub cursor_later : (n : ℕ) (old new : List (Edit Deed)) (levels levels' : ℕ) → StayQuiet n old new → (c : Cursor) → c.level ≤ levels' → IsCursor n old levels c → IsCursor (n + 1) new levels' c
cursor_later n old new levels levels' stay c level is = record { level = level; quiet = reading_later n old new stay (Kept c.clock) is.quiet }

pub all_cursors_later : (n : ℕ) (old new : List (Edit Deed)) (levels levels' : ℕ) → StayQuiet n old new → levels ≤ levels' → (cs : List Cursor) → All (IsCursor n old levels) cs → All (IsCursor (n + 1) new levels') cs
all_cursors_later n old new levels levels' stay more cs all = All-weaker (IsCursor n old levels) (IsCursor (n + 1) new levels') (λ c is. cursor_later n old new levels levels' stay c (omega (arith, more, is.level)) is) cs all

-- a session that stays as it is
pub session_later : (n : ℕ) (old new : List (Edit Deed)) → StayQuiet n old new → (session : Session) → IsSession n old session → IsSession (n + 1) new session
session_later n old new stay session is = record {
  first = is.first;
  descriptors = all_described_later n old new (top_level session.transaction) (top_level session.transaction) stay (omega arith) session.descriptors is.descriptors;
  none = is.none;
  unfailed = is.unfailed;
  cursors = all_cursors_later n old new (top_level session.transaction) (top_level session.transaction) stay (omega arith) session.cursors is.cursors;
  no_cursors = is.no_cursors;
}
