-- The report is the last act, and comes once.
use Rattle.std.proofs.Common.{◌≡◌, ◌↔◌, ℕ, Bool, true, false, ◌||◌, IsTrue, ◌⊎◌, inl, inr, List, [], ◌∷◌, ◌++◌, length, drop, map, refl, ap, sym, ◌∙◌, subst, append_assoc}
use Rattle.std.specs.List.{list_any, flat_map}
use Rattle.orphan_sweep.specs.declared.act.Scan.{Scan}
use Rattle.orphan_sweep.specs.declared.act.SweepAct.{SweepAct}
use Rattle.orphan_sweep.specs.declared.act.SweepAct.TheVariants.{Scan as Scanning, Begin, Unlink, Commit, Rollback, Report, Idle}
use Rattle.orphan_sweep.specs.declared.act.Told.{Told}
use Rattle.orphan_sweep.specs.declared.act.Told.TheVariants.{Found, Granted, Refused}
use Rattle.orphan_sweep.specs.Plan.{scan_act, group_acts, groups_to_remove, removal, is_answer_to}
use Rattle.orphan_sweep.specs.History.{History, begun, and_told, acts_left, first_act, next_act}
use Rattle.orphan_sweep.specs.Law.{AreAnswers, asked, and_all_told, is_report, IsIdleAfterReport}
use Rattle.orphan_sweep.proofs.Groups.{none-work, work}
use Rattle.orphan_sweep.proofs.Histories.{not_true, right_or}
use Rattle.orphan_sweep.proofs.ActKinds.{the_refused, the_scan}
use Rattle.orphan_sweep.proofs.OneMoreAnswer.{state-told}

abbrev is_last : SweepAct → Bool
is_last (Scanning table column) = false
is_last Begin = false
is_last (Unlink o) = false
is_last Commit = false
is_last Rollback = false
is_last Report = true
is_last Idle = true

-- the acts end in the report, and have no other and nothing idle
record Ready (acts : List SweepAct) : Type 0 where
  pub before : List SweepAct
  pub none : list_any is_last before ≡ false
  pub is : acts ≡ before ++ Report ∷ []

ready_plan : (scans : List Scan) (dry : Bool) (limit : ℕ) (rest : List ℕ) → Ready (map scan_act scans ++ removal dry limit rest)
ready_plan scans dry limit rest =
    let gs : List (List ℕ) = groups_to_remove dry limit rest in
    record {
      before = work scans gs;
      none = none-work is_last (record { scan = λ table column. refl; begin = refl; unlink = λ o. refl; commit = refl }) scans gs;
      is = sym (append_assoc (map scan_act scans) (flat_map group_acts gs) (Report ∷ []));
    }

-- what an answer leaves: nothing after the report, else again acts that end in it
abbrev Leaves : History → Told → Type 0
Leaves h answer =
    ((next_act h ≡ Report) × (acts_left (and_told h answer) ≡ [])) ⊎ ((is_report (next_act h) ≡ false) × Ready (acts_left (and_told h answer)))

not_last : (act : SweepAct) → is_last act ≡ false → is_report act ≡ false
not_last (Scanning table column) h = refl
not_last Begin h = refl
not_last (Unlink o) h = refl
not_last Commit h = refl
not_last Rollback h = refl
not_last Report h = cc
not_last Idle h = cc

leaves-granted : (h : History) (before : List SweepAct) → list_any is_last before ≡ false → acts_left h ≡ before ++ Report ∷ [] → is_answer_to (next_act h) Granted ≡ true → Leaves h Granted
leaves-granted h [] none is fits =
    inl (ap first_act is, ap (λ s. s.left) (state-told h Granted fits) ∙ ap (drop 1) is)
leaves-granted h (act ∷ before) none is fits =
    let first : is_last act ≡ false = not_true (is_last act) (λ e. let k : (is_last act || list_any is_last before) ≡ true = ap (λ b. b || list_any is_last before) e in cc) in
    let later : list_any is_last before ≡ false = not_true (list_any is_last before) (λ e. let k = right_or (is_last act) (list_any is_last before) e in cc) in
    inr (ap (λ acts. is_report (first_act acts)) is ∙ not_last act first, record { before = before; none = later; is = ap (λ s. s.left) (state-told h Granted fits) ∙ ap (drop 1) is })

leaves : (h : History) (answer : Told) → Ready (acts_left h) → is_answer_to (next_act h) answer ≡ true → Leaves h answer
leaves h (Found numbers) ready fits =
    let next = ready_plan (drop 1 (drop (length h.answers) h.scans)) h.dry h.limit _ in
    inr (ap is_report (the_scan (next_act h) numbers fits).2, subst Ready (sym (ap (λ s. s.left) (state-told h (Found numbers) fits))) next)
leaves h Granted ready fits = leaves-granted h ready.before ready.none ready.is fits
leaves h Refused ready fits =
    inr (ap is_report (the_refused (next_act h) fits).1, record { before = Rollback ∷ []; none = refl; is = ap (λ s. s.left) (state-told h Refused fits) })

-- nothing is answered after the report
over : (h : History) (answers : List Told) → acts_left h ≡ [] → AreAnswers h answers → (next_act (and_all_told h answers) ≡ Idle) × (asked h answers ≡ [])
over h [] e fit = (ap first_act e, refl)
over h (answer ∷ answers) e fit =
    let idle : is_answer_to (next_act h) answer ≡ false = ap (λ acts. is_answer_to (first_act acts) answer) e in
    absurd (let f = fit.0 in cc)

ready_next : (before : List SweepAct) → list_any is_last before ≡ false → first_act (before ++ Report ∷ []) ≡ Idle → ⊥
ready_next [] none e = cc
ready_next (act ∷ before) none e =
    let k : (is_last act || list_any is_last before) ≡ true = ap (λ a. is_last a || list_any is_last before) e in cc

reports : (h : History) (answers : List Told) → Ready (acts_left h) → AreAnswers h answers → (next_act (and_all_told h answers) ≡ Idle) ↔ IsTrue (list_any is_report (asked h answers))
reports h [] ready fit =
    (λ e. absurd (ready_next ready.before ready.none (ap first_act (sym ready.is) ∙ e)), λ e. cc)
reports h (answer ∷ answers) ready fit =
    elim (leaves h answer ready fit.0) [
      | inl p ↦ let end = over (and_told h answer) answers p.1 fit.1 in
          (λ e. ap (λ act. is_report act || list_any is_report (asked (and_told h answer) answers)) p.0, λ e. end.0)
      | inr p ↦ let later = reports (and_told h answer) answers p.1 fit.1 in
          let same : (is_report (next_act h) || list_any is_report (asked (and_told h answer) answers)) ≡ list_any is_report (asked (and_told h answer) answers) = ap (λ b. b || list_any is_report (asked (and_told h answer) answers)) p.0 in
          (λ e. same ∙ later.0 e, λ e. later.1 (sym same ∙ e))
    ]

pub is_idle_after_report : (dry : Bool) (limit : ℕ) (list : List ℕ) (scans : List Scan) (answers : List Told) → IsIdleAfterReport dry limit list scans answers
is_idle_after_report dry limit list scans answers fit =
    reports (begun dry limit list scans) answers (ready_plan scans dry limit _) fit
