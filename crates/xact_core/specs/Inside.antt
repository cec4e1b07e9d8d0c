-- What the fields of `Xacts` stand for, and its invariant. No contract names what stands here alone.
use Rattle.std.specs.Prelude.{ℕ, ◌+◌, ◌^◌, ◌<◌, ◌≤◌, ◌==◌, ◌≡◌, Bool, false, ◌||◌, ◌&&◌, not, List, [], ◌∷◌, length, take, map, sum_by, Option, Some, option_and_then, slice_get, All}
use Rattle.lo_model.specs.declared.owner.Owner.{Owner}
use Rattle.lo_model.specs.declared.owner.Owner.TheVariants.{Running, Committed}
use Rattle.xact_core.specs.declared.fate.Fate.{Fate}
use Rattle.xact_core.specs.declared.snapshot.Snapshot.{Snapshot}
use Rattle.xact_core.specs.declared.xacts.Xacts.TheInside.{Inside}
use Rattle.xact_core.specs.Fate.{is_some_from}
use Rattle.xact_core.specs.Kept.{views_of}
use Rattle.xact_core.specs.Opened.{Opened, start, from_level}
use Rattle.xact_core.specs.Transactions.{Transactions}

abbrev pub names_of : Opened → List (Option (List ℕ))
names_of session = session.names

abbrev pub seen_of : Inside → Transactions
seen_of x = record { clock = x.clock; undos = x.undos; levels = map names_of x.sessions.items; fates = x.fates.items; held = x.held.items }

-- the owner at a place
abbrev pub owner_at : List Fate → ℕ → Option Owner
owner_at fates i = option_and_then (λ (fate : Fate). fate.owner) (slice_get fates i)

abbrev pub is_among : List ℕ → ℕ → Bool
is_among [] i = false
is_among (place ∷ places) i = (place == i) || is_among places i

-- whether the owner at a place is a session's open transaction, at a level or above it
abbrev pub runs_from : List Fate → (session level place : ℕ) → Bool
runs_from fates s k i = is_some_from s k (owner_at fates i)

-- A session's places are those at which its open transaction runs, level by level: from the start of each level on those
-- of that level and of all above it, and before it those of the levels below. Each level has one.
pub record IsSession (fates : List Fate) (s : ℕ) (session : Opened) : Type 0 where
  pub within : All (λ i. i < length fates) session.places
  pub all : (i : ℕ) → is_among session.places i ≡ runs_from fates s 0 i
  pub from : (k i : ℕ) → 1 ≤ k → k ≤ length session.names → is_among (from_level k session) i ≡ runs_from fates s k i
  pub before : (k i : ℕ) → 1 ≤ k → k ≤ length session.names → is_among (take (start session k) session.places) i ≡ (runs_from fates s 0 i && not (runs_from fates s k i))
  pub low : (i : ℕ) → runs_from fates s 1 i ≡ runs_from fates s 0 i
  pub high : (i : ℕ) → runs_from fates s (length session.names + 1) i ≡ false
  pub starts : length session.starts ≡ length session.names
  pub rising : (j k : ℕ) → 1 ≤ j → j < k → k ≤ length session.names → start session j < start session k
  pub filled : (k : ℕ) → 1 ≤ k → k ≤ length session.names → start session k < length session.places

-- an owner at a clock: one of the sixteen sessions, or a commit that has come
abbrev pub IsOwnerAt : (clock : ℕ) → Owner → Type 0
IsOwnerAt clock (Running s l) = (1 ≤ s) × (s ≤ 16)
IsOwnerAt clock (Committed c) = c ≤ clock

-- a fate at a clock, with `undos` undoings so far
pub record IsFate (clock undos : ℕ) (fate : Fate) : Type 0 where
  pub since : fate.since ≤ undos
  pub owner : (owner : Owner) → fate.owner ≡ Some owner → IsOwnerAt clock owner

-- sixteen sessions with the fates of their levels
pub record AreSessions (sessions : List Opened) (fates : List Fate) : Type 0 where
  pub sixteen : length sessions ≡ 16
  pub each : (i : ℕ) (session : Opened) → slice_get sessions i ≡ Some session → IsSession fates (i + 1) session

-- the same with the bounds of all fates, at a clock, with `undos` undoings so far
pub record IsWell (clock undos : ℕ) (sessions : List Opened) (fates : List Fate) : Type 0 where
  pub levels : AreSessions sessions fates
  pub each_fate : (i : ℕ) (fate : Fate) → slice_get fates i ≡ Some fate → IsFate clock undos fate

-- how many views of a session are kept
abbrev pub views_in : Opened → ℕ
views_in session = views_of session.names

-- how many views are kept
abbrev pub views_count : List Opened → List Snapshot → ℕ
views_count sessions held = 1 + sum_by views_in sessions + length held

pub record IsXacts (x : Inside) : Type 0 where
  pub clock : x.clock ≤ 2 ^ 63
  pub undos : x.undos ≤ 2 ^ 63
  pub well : IsWell x.clock x.undos x.sessions.items x.fates.items
  pub views : views_count x.sessions.items x.held.items < 2 ^ 64
