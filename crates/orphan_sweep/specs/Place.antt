-- Where a sweep stands, by the fields that the code keeps, and what an answer does to its state. The invariant is `Fits`.
use Rattle.std.specs.Prelude.{◌≡◌, ◌==◌, ℕ, ◌+◌, ◌-◌, ◌<◌, ◌≤◌, min, nat_lt, Bool, true, false, if◌then◌else◌, List, [], ◌∷◌, ◌++◌, length, take, drop, map, slice_index}
use Rattle.orphan_sweep.specs.declared.act.Scan.{Scan}
use Rattle.orphan_sweep.specs.declared.act.SweepAct.{SweepAct}
use Rattle.orphan_sweep.specs.declared.act.SweepAct.TheVariants.{Scan as Scanning, Begin, Unlink, Commit, Rollback, Report, Idle}
use Rattle.orphan_sweep.specs.declared.act.Told.{Told}
use Rattle.orphan_sweep.specs.declared.act.Told.TheVariants.{Found, Granted, Refused}
use Rattle.orphan_sweep.specs.Rest.{less}
use Rattle.orphan_sweep.specs.Plan.{scan_act, removal, unlinks}
use Rattle.orphan_sweep.specs.History.{is_commit}
use Rattle.orphan_sweep.specs.State.{State, next_of}

-- the present act's scan, and those after it
abbrev pub scans_at : SweepAct → List Scan → List Scan
scans_at (Scanning table column) others = record { table = table; column = column } ∷ others
scans_at Begin others = []
scans_at (Unlink o) others = []
scans_at Commit others = []
scans_at Rollback others = []
scans_at Report others = []
scans_at Idle others = []

-- the acts of the group that was begun, with `room` unlinks left, and of the groups after it
abbrev pub in_group : (limit room : ℕ) → List ℕ → List SweepAct
in_group limit room numbers =
    map (λ o. Unlink o) (take room numbers) ++ Commit ∷ removal false limit (drop room numbers)

-- the acts from the present one on
abbrev pub left_at : SweepAct → Bool → (limit room : ℕ) → (list coming : List ℕ) → List Scan → List SweepAct
left_at (Scanning table column) dry limit room list coming others =
    Scanning table column ∷ (map scan_act others ++ removal dry limit list)
left_at Begin dry limit room list coming others = removal false limit coming
left_at (Unlink o) dry limit room list coming others = in_group limit room coming
left_at Commit dry limit room list coming others = in_group limit room coming
left_at Rollback dry limit room list coming others = Rollback ∷ Report ∷ []
left_at Report dry limit room list coming others = Report ∷ []
left_at Idle dry limit room list coming others = []

-- what a sweep at this place is seen as, with the scans after the present one
abbrev pub stands : Bool → ℕ → List Scan → SweepAct → (unlinked room removed : ℕ) → List ℕ → State
stands dry limit others act unlinked room removed list = record {
  dry = dry;
  limit = limit;
  scans = scans_at act others;
  rest = list;
  removed = removed;
  left = left_at act dry limit room list (drop unlinked list) others;
}

-- what holds at each act, of the numbers that were unlinked, are to be unlinked in this group, and are removed
abbrev pub Fits : SweepAct → Bool → (unlinked room removed : ℕ) → List ℕ → Type 0
Fits (Scanning table column) dry unlinked room removed list = (unlinked ≡ 0) × (removed ≡ 0)
Fits Begin dry unlinked room removed list = (dry ≡ false) × (removed ≡ unlinked) × (unlinked < length list)
Fits (Unlink o) dry unlinked room removed list =
    (dry ≡ false) × (0 < room) × (unlinked + room ≤ length list) × (o ≡ slice_index list unlinked)
Fits Commit dry unlinked room removed list = (dry ≡ false) × (room ≡ 0) × (unlinked ≤ length list)
Fits Rollback dry unlinked room removed list = Unit {0}
Fits Report dry unlinked room removed list = Unit {0}
Fits Idle dry unlinked room removed list = Unit {0}

-- the act that asks for the first of these scans, else the removal's first
abbrev pub opening_act : List Scan → Bool → List ℕ → SweepAct
opening_act (scan ∷ scans) dry list = scan_act scan
opening_act [] true list = Report
opening_act [] false [] = Report
opening_act [] false (o ∷ list) = Begin

-- how many of the numbers that wait go into one group
abbrev pub group_size : (limit waiting : ℕ) → ℕ
group_size limit waiting = if limit == 0 then waiting else min waiting limit

abbrev pub is_unlink : SweepAct → Bool
is_unlink (Scanning table column) = false
is_unlink Begin = false
is_unlink (Unlink o) = true
is_unlink Commit = false
is_unlink Rollback = false
is_unlink Report = false
is_unlink Idle = false

-- the numbers from the first that is not below the least on
abbrev pub not_below : ℕ → List ℕ → List ℕ
not_below least [] = []
not_below least (o ∷ numbers) = if nat_lt o least then not_below least numbers else o ∷ numbers

abbrev pub begins_with : ℕ → List ℕ → Bool
begins_with o [] = false
begins_with o (first ∷ numbers) = first == o

-- what an answer of the next act's kind does to the state of a sweep
abbrev pub after : State → Told → State
after s (Found numbers) = record {
  dry = s.dry;
  limit = s.limit;
  scans = drop 1 s.scans;
  rest = less s.rest numbers;
  removed = s.removed;
  left = map scan_act (drop 1 s.scans) ++ removal s.dry s.limit (less s.rest numbers);
}
after s Granted = record {
  dry = s.dry;
  limit = s.limit;
  scans = drop 1 s.scans;
  rest = s.rest;
  removed = if is_commit (next_of s) then length s.rest - length (unlinks (drop 1 s.left)) else s.removed;
  left = drop 1 s.left;
}
after s Refused = record {
  dry = s.dry;
  limit = s.limit;
  scans = drop 1 s.scans;
  rest = s.rest;
  removed = s.removed;
  left = Rollback ∷ Report ∷ [];
}
