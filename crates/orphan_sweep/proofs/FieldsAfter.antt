-- What an answer does to a sweep, by its fields.
use Rattle.std.proofs.Common.{◌≡◌, ℕ, ◌+◌, ◌-◌, ◌<◌, ◌≤◌, ◌⊎◌, Bool, IsTrue, List, ◌++◌, length, drop, map, reverse, ap, sym, ◌∙◌, subst}
use Rattle.std.proofs.lemmas.List.{reverse-reverse}
use Rattle.std.proofs.lemmas.List.Kept.{IsStrictlyIncreasing-filter}
use Rattle.std.specs.List.Sorted.{IsStrictlyIncreasing}
use Rattle.orphan_sweep.specs.declared.act.Scan.{Scan}
use Rattle.orphan_sweep.specs.declared.act.SweepAct.{SweepAct}
use Rattle.orphan_sweep.specs.declared.act.SweepAct.TheVariants.{Scan as Scanning, Begin, Unlink, Commit, Report}
use Rattle.orphan_sweep.specs.declared.act.Told.TheVariants.{Found, Granted}
use Rattle.orphan_sweep.specs.declared.sweep.Sweep.TheInside.{Inside}
use Rattle.orphan_sweep.specs.Rest.{less}
use Rattle.orphan_sweep.specs.Plan.{scan_act, removal, is_answer_to}
use Rattle.orphan_sweep.specs.History.{begun}
use Rattle.orphan_sweep.specs.State.{State, state_of, next_of}
use Rattle.orphan_sweep.specs.Place.{stands, Fits, group_size, opening_act, is_unlink, after}
use Rattle.orphan_sweep.specs.Inside.{state_at, IsInPlace}
use Rattle.orphan_sweep.proofs.Places.{act_is_first, begun_after, unlinked_after, committed_after, opening_stands, opening_fits}
use Rattle.orphan_sweep.proofs.Histories.{less-nil}
use Rattle.orphan_sweep.proofs.ActKinds.{the_scan, the_unlink}

-- the act that is kept is the next one
pub act_of : (s : Inside) (v : State) → state_at s ≡ v → IsInPlace s → next_of v ≡ s.act
act_of s v e i =
    ap next_of (sym e) ∙ act_is_first s.act s.dry s.limit s.unlinked s.room s.removed s.list.items (reverse s.scans.items) i.fits

-- what holds at this act
pub fits_at : (s : Inside) (v : State) (act : SweepAct) → state_at s ≡ v → IsInPlace s → next_of v ≡ act → Fits act s.dry s.unlinked s.room s.removed s.list.items
fits_at s v act e i next =
    subst (λ a. Fits a s.dry s.unlinked s.room s.removed s.list.items) (sym (act_of s v e i) ∙ next) i.fits

-- the state, with the act named
named : (s : Inside) (v : State) (act : SweepAct) → state_at s ≡ v → IsInPlace s → next_of v ≡ act → stands s.dry s.limit (reverse s.scans.items) act s.unlinked s.room s.removed s.list.items ≡ v
named s v act e i next =
    ap (λ a. stands s.dry s.limit (reverse s.scans.items) a s.unlinked s.room s.removed s.list.items) (sym next ∙ act_of s v e i) ∙ e

pub begun_of : (s : Inside) (v : State) (o room : ℕ) → state_at s ≡ v → IsInPlace s → next_of v ≡ Begin → room ≡ group_size s.limit (length s.list.items - s.unlinked) → stands s.dry s.limit (reverse s.scans.items) (Unlink o) s.unlinked room s.removed s.list.items ≡ after v Granted
begun_of s v o room e i next size =
    rw size (begun_after s.dry s.limit s.unlinked s.room s.removed o s.list.items (reverse s.scans.items) (fits_at s v Begin e i next) ∙ ap (λ w. after w Granted) (named s v Begin e i next))

pub unlinked_of : (s : Inside) (v : State) (act : SweepAct) → state_at s ≡ v → IsInPlace s → IsTrue (is_unlink (next_of v)) → (act ≡ Commit) ⊎ ((n : ℕ) × (act ≡ Unlink n)) → stands s.dry s.limit (reverse s.scans.items) act (s.unlinked + 1) (s.room - 1) s.removed s.list.items ≡ after v Granted
unlinked_of s v act e i h cases =
    let u = the_unlink (next_of v) h in
    unlinked_after s.dry s.limit s.unlinked s.room s.removed u.0 act s.list.items (reverse s.scans.items) (fits_at s v (Unlink u.0) e i u.1) cases ∙ ap (λ w. after w Granted) (named s v (Unlink u.0) e i u.1)

pub room_left : (s : Inside) (v : State) → state_at s ≡ v → IsInPlace s → IsTrue (is_unlink (next_of v)) → 0 < s.room
room_left s v e i h =
    let u = the_unlink (next_of v) h in (fits_at s v (Unlink u.0) e i u.1).1

pub committed_of : (s : Inside) (v : State) (act : SweepAct) → state_at s ≡ v → IsInPlace s → next_of v ≡ Commit → ((act ≡ Begin) × (s.unlinked < length s.list.items)) ⊎ ((act ≡ Report) × (length s.list.items ≤ s.unlinked)) → stands s.dry s.limit (reverse s.scans.items) act s.unlinked s.room s.unlinked s.list.items ≡ after v Granted
committed_of s v act e i next cases =
    committed_after s.dry s.limit s.unlinked s.room s.removed act s.list.items (reverse s.scans.items) (fits_at s v Commit e i next) cases ∙ ap (λ w. after w Granted) (named s v Commit e i next)

pub found_of : (s : Inside) (v : State) (found list : List ℕ) (act : SweepAct) (scans : List Scan) → state_at s ≡ v → IsInPlace s → IsTrue (is_answer_to (next_of v) (Found found)) → list ≡ less s.list.items found → act ≡ opening_act (reverse s.scans.items) s.dry list → scans ≡ reverse (drop 1 (reverse s.scans.items)) → stands s.dry s.limit (reverse scans) act s.unlinked s.room s.removed list ≡ after v (Found found)
found_of s v found list act scans e i h fewer opens others =
    let scan = the_scan (next_of v) found h in
    let fits = fits_at s v (Scanning scan.0 scan.1) e i scan.2 in
    let start : s.unlinked ≡ 0 = fits.0 in
    rw (opens, others, fewer, reverse-reverse, start)
    (opening_stands s.dry s.limit s.room s.removed (less s.list.items found) (reverse s.scans.items) ∙ ap (λ w. after w (Found found)) (named s v (Scanning scan.0 scan.1) e i scan.2))

pub found_fits : (s : Inside) (v : State) (found list : List ℕ) (act : SweepAct) → state_at s ≡ v → IsInPlace s → IsTrue (is_answer_to (next_of v) (Found found)) → list ≡ less s.list.items found → act ≡ opening_act (reverse s.scans.items) s.dry list → IsStrictlyIncreasing list × Fits act s.dry s.unlinked s.room s.removed list
found_fits s v found list act e i h fewer opens =
    let scan = the_scan (next_of v) found h in
    let fits = fits_at s v (Scanning scan.0 scan.1) e i scan.2 in
    let start : s.unlinked ≡ 0 = fits.0 in
    let none : s.removed ≡ 0 = fits.1 in
    (rw fewer (IsStrictlyIncreasing-filter _ s.list.items i.ascending), rw (opens, start, none) (opening_fits s.dry s.room list (reverse s.scans.items)))

-- a new sweep stands at the beginning of its history
pub begun_stands : (dry : Bool) (limit : ℕ) (list items : List ℕ) (scans stored kept : List Scan) (act : SweepAct) → items ≡ list → stored ≡ reverse scans → act ≡ opening_act (reverse stored) dry items → kept ≡ reverse (drop 1 (reverse stored)) → stands dry limit (reverse kept) act 0 0 0 items ≡ state_of (begun dry limit list scans)
begun_stands dry limit list items scans stored kept act is from opens others =
    let back : reverse stored ≡ scans = ap reverse from ∙ reverse-reverse scans in
    let coming : reverse kept ≡ drop 1 scans = ap reverse others ∙ reverse-reverse (drop 1 (reverse stored)) ∙ ap (drop 1) back in
    rw (coming, opens, back, is)
    (opening_stands dry limit 0 0 list scans ∙ ap (λ r. let v : State = record { dry = dry; limit = limit; scans = scans; rest = r; removed = 0; left = map scan_act scans ++ removal dry limit r } in v) (sym (less-nil list)))
