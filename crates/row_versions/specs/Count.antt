-- How much a vacuum leaves, key by key and over many keys.
use Rattle.std.specs.Prelude.{ℕ, suc, ◌+◌, ◌≡◌, ◌≢◌, Bool, not, List, [], ◌∷◌, Contains, if◌then◌else◌}
use Rattle.lo_model.specs.Edit.{Edit}
use Rattle.xact_core.specs.declared.snapshot.Snapshot.{Snapshot}
use Rattle.row_versions.specs.Stack.{Pairwise}
use Rattle.row_versions.specs.Vacuum.{reclaimed, IsFound}

-- how many pass a test
abbrev pub count_of : {X : Type 0} → (X → Bool) → List X → ℕ
count_of test [] = 0
count_of test (x ∷ xs) = if test x then suc (count_of test xs) else count_of test xs

abbrev pub puts_in : {D : Type 0} → (erases : D → Bool) → List (Edit D) → ℕ
puts_in {D} erases es = count_of (λ (e : Edit D). not (erases e.deed)) es

-- clocks, each once
abbrev pub Different : List ℕ → Type 0
Different ns = Pairwise (λ (a b : ℕ). a ≢ b) ns

-- the versions of a key: (key, clock) of what some kept view finds
pub record IsHeldClock {D : Type 0} (erases : D → Bool) (views : List Snapshot) (es : List (Edit D)) (clock : ℕ) : Type 0 where
  pub edit : Edit D
  pub here : IsFound erases views es edit
  pub is : edit.clock ≡ clock

-- a list has each of them, once, and no other
pub record ListsHeld {D : Type 0} (erases : D → Bool) (views : List Snapshot) (es : List (Edit D)) (clocks : List ℕ) : Type 0 where
  pub once : Different clocks
  pub only : (clock : ℕ) → Contains clocks clock → IsHeldClock erases views es clock
  pub each : (clock : ℕ) → IsHeldClock erases views es clock → Contains clocks clock

abbrev pub clocks_left : {D : Type 0} → (erases : D → Bool) → List (Edit D) → List ℕ
clocks_left erases [] = []
clocks_left erases (e ∷ es) = if erases e.deed then clocks_left erases es else e.clock ∷ clocks_left erases es

-- a version of a store: its key, and the clock at which it was made
pub record Mark : Type 0 where
  pub key : ℕ
  pub clock : ℕ

abbrev pub mark : ℕ → ℕ → Mark
mark key clock = record { key = key; clock = clock }

-- marks, each once
abbrev pub Apart : List Mark → Type 0
Apart ms = Pairwise (λ (a b : Mark). a ≢ b) ms

-- the held versions of some keys, each once and no other. `edits` are the standing edits of a key
pub record ListsAllHeld {D : Type 0} (erases : D → Bool) (views : List Snapshot) (keys : List ℕ) (edits : ℕ → List (Edit D)) (held : List Mark) : Type 0 where
  pub once : Apart held
  pub keyed : (m : Mark) → Contains held m → Contains keys m.key
  pub only : (m : Mark) → Contains held m → IsHeldClock erases views (edits m.key) m.clock
  pub each : (key clock : ℕ) → Contains keys key → IsHeldClock erases views (edits key) clock → Contains held (mark key clock)

-- how many puts are left after a vacuum
abbrev pub blocks_in : {D : Type 0} → (erases : D → Bool) → List Snapshot → (keys : List ℕ) → (ℕ → List (Edit D)) → ℕ
blocks_in erases views [] edits = 0
blocks_in erases views (key ∷ keys) edits = puts_in erases (reclaimed erases views (edits key)) + blocks_in erases views keys edits
