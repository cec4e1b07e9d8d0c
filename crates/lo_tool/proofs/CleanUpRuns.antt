-- A clean-up that is under way: what its run says, and one act more.
use Rattle.std.proofs.Common.{◌≡◌, ◌≢◌, ◌<◌, ◌≤◌, refl, sym, ap, ◌∙◌, subst, ℕ, zero, suc, ◌+◌, ◌-◌, ◌==◌, Bool, true, false, not, ◌&&◌, ◌||◌, List, [], ◌∷◌, ◌++◌, length, map, Option, Some, None, append_assoc}
use Rattle.std.specs.Prelude.{All, IsSome, IsTrue, replicate, slice_get, slice_set, if◌then◌else◌}
use Rattle.std.specs.List.{list_any}
use Rattle.std.proofs.lemmas.List.{map-append}
use Rattle.std.proofs.lemmas.List.Folds.{list_any-append}
use Rattle.std.proofs.lemmas.List.Elements.{All-append, All-cons, All-nil}
use Rattle.lo_base.specs.declared.request.Request.{Request}
use Rattle.lo_base.specs.declared.request.Request.TheVariants.{Finish, Vacuumlo}
use Rattle.lo_model.specs.Opening.{Opening}
use Rattle.orphan_sweep.specs.declared.act.SweepAct.{SweepAct}
use Rattle.orphan_sweep.specs.declared.act.SweepAct.TheVariants as acts
use Rattle.orphan_sweep.specs.declared.act.Told.{Told}
use Rattle.orphan_sweep.specs.History.{next_act}
use Rattle.orphan_sweep.specs.Law.{and_all_told, asked, is_report}
use Rattle.orphan_sweep.proofs.Reports.{is_idle_after_report}
use Rattle.lo_machine.specs.Program.{program_of}
use Rattle.lo_machine.specs.Replay.{Advances, HasLine, Play, moment_of}
use Rattle.lo_machine.specs.Run.{Moment, acts_before, end_from, lines_after, moment_after, next_line, one_more, start_from}
use Rattle.lo_machine.specs.State.{State}
use Rattle.lo_machine.specs.SweepLaw.{Done, EachOwn, IsSweepOf, IsSweeping, Sweeping, acts_by, acts_of, begins_none, beginning, does_act, done, done_at, end, listed, scans, told_by}
use Rattle.lo_machine.specs.SweepRows.{act_in, act_of, is_before_report, is_idle, sweep_begun}
use Rattle.lo_machine.proofs.ScriptLines.{before_is_busy, stays_shorter}
use Rattle.lo_machine.proofs.SweepReports.{keeps_history, told}
use Rattle.lo_machine.proofs.SweepRuns.{each_append, ends_at_run}
use Rattle.lo_tool.specs.declared.words.CleanUp.{CleanUp}
use Rattle.lo_tool.specs.CleanUp.{clean_up_on, clean_up_programs}
use Rattle.lo_tool.specs.CleanUpWork.{HasDone}

-- an act of a clean-up begins none
act_begins_none : (st : State) (s : ℕ) (line : Option Request) → does_act st s line ≡ true → begins_none st s line ≡ true
act_begins_none st s None does = refl
act_begins_none st s (Some (Vacuumlo dry limit)) does = cc
act_begins_none st s (Some request) does = refl

acts_begin_none : (s : ℕ) (programs : List (List Request)) (m : Moment) (since : List ℕ) → EachOwn does_act s programs m since → EachOwn begins_none s programs m since
acts_begin_none s programs m [] each = tt
acts_begin_none s programs m (t ∷ since) each = (
  (λ own. act_begins_none m.state t (next_line programs m t) (each.0 own)),
  acts_begin_none s programs (moment_after m t (next_line programs m t)) since each.1,
)

-- the two lines that session 1 is given
abbrev pushed_once : CleanUp → (s : ℕ) → List (List Request)
pushed_once options s = slice_set (replicate 16 []) (s - 1) (program_of (replicate 16 []) s ++ Vacuumlo options.dry options.limit ∷ [])

pub pushed : (options : CleanUp) (s : ℕ) (empty once both : List (List Request)) → s ≡ 1 → empty ≡ replicate 16 [] → once ≡ slice_set empty (s - 1) (program_of empty s ++ Vacuumlo options.dry options.limit ∷ []) → both ≡ slice_set once (s - 1) (program_of once s ++ Finish ∷ []) → both ≡ clean_up_programs options
pushed options s empty once both one empty_is once_is both_is = rw (both_is, once_is, empty_is, one) refl

-- the run before its first advance has a line left
abbrev before_all : Opening → CleanUp → Play
before_all opening options = record { opening = opening; programs = clean_up_programs options; schedule = []; replies = [] }

pub begins : (opening : Opening) (options : CleanUp) (s : ℕ) (run : Play) → s ≡ 1 → run ≡ before_all opening options → HasLine run s
begins opening options s run one is = rw (is, one) refl

pub has_begun : (opening : Opening) (options : CleanUp) (s : ℕ) (run next : Play) → s ≡ 1 → run ≡ before_all opening options → Advances s run next → HasDone opening options next []
has_begun opening options s run next one is advances =
    let from : Advances 1 (before_all opening options) next = subst (λ (r : Play). Advances 1 r next) is (subst (λ (n : ℕ). Advances n run next) one advances) in
    record {
      opening_is = from.opening;
      programs_are = from.programs;
      schedule = from.schedule;
      line = ap (λ (m : Moment). m.lines_done 1) from.moment;
      own = All-nil (λ t. t ≡ 1);
      acts = tt;
      unreported = refl;
    }

-- ---- the acts that are done, over a schedule in two parts

pub acts_append : (s : ℕ) (programs : List (List Request)) (m : Moment) (xs ys : List ℕ) → acts_by s programs m (xs ++ ys) ≡ acts_by s programs m xs ++ acts_by s programs (end_from programs m xs) ys
acts_append s programs m [] ys = refl
acts_append s programs m (x ∷ xs) ys =
    let here : List Done = if x == s then done_at m.state x (next_line programs m x) else [] in
    ap (λ (rest : List Done). here ++ rest) (acts_append s programs (moment_after m x (next_line programs m x)) xs ys)
    ∙ sym (append_assoc here (acts_by s programs (moment_after m x (next_line programs m x)) xs) (acts_by s programs (end_from programs m (x ∷ xs)) ys))

-- an act before the report is no report
before_unreported : (act : SweepAct) → is_before_report act ≡ true → is_report act ≡ false
before_unreported (acts.Scan table column) before = refl
before_unreported acts.Begin before = refl
before_unreported (acts.Unlink o) before = refl
before_unreported acts.Commit before = refl
before_unreported acts.Rollback before = refl
before_unreported acts.Report before = cc
before_unreported acts.Idle before = refl

module _ (opening : Opening) (options : CleanUp) (now : Play) (since : List ℕ) (so : HasDone opening options now since) where
  pub sweeping : IsSweeping (clean_up_on opening options since)
  sweeping = record {
    line = refl;
    granted = refl;
    last = acts_begin_none 1 (clean_up_programs options) (beginning (clean_up_on opening options since)) since so.acts;
  }

  pub of_run : IsSweepOf now (clean_up_on opening options since)
  of_run = record {
    before = [];
    programs = sym so.programs_are;
    moment = ap start_from (sym so.opening_is);
    schedule = so.schedule;
    sweeping = sweeping;
  }

  pub ends : end (clean_up_on opening options since) ≡ moment_of now
  ends = ends_at_run now (clean_up_on opening options since) of_run

  -- the session stands at its finish
  pub at_finish : next_line now.programs (moment_of now) 1 ≡ Some Finish
  at_finish =
      ap (λ (programs : List (List Request)). next_line programs (moment_of now) 1) so.programs_are
      ∙ ap (λ (n : ℕ). slice_get (Vacuumlo options.dry options.limit ∷ Finish ∷ []) n) so.line

  pub goes_on : HasLine now 1
  goes_on = subst IsSome (sym at_finish) refl

  pub finish_there : next_line (clean_up_programs options) (end (clean_up_on opening options since)) 1 ≡ Some Finish
  finish_there =
      ap (λ (m : Moment). next_line (clean_up_programs options) m 1) ends
      ∙ (ap (λ (programs : List (List Request)). next_line programs (moment_of now) 1) (sym so.programs_are) ∙ at_finish)

  -- the act that comes next is the report, where it is not before that: none is idle
  pub comes_to_report : is_before_report (act_of (moment_of now).state 1) ≡ false → act_of (moment_of now).state 1 ≡ acts.Report
  comes_to_report over = by (act_of (moment_of now).state 1) refl
    where
      w : Sweeping
      w = clean_up_on opening options since

      answers : List Told
      answers = map (told_by 1) (done w)

      next_is : act_of (moment_of now).state 1 ≡ next_act (and_all_told (sweep_begun w.moment.state 1 options.dry options.limit) answers)
      next_is = ap (λ (m : Moment). act_of m.state 1) (sym ends) ∙ ap act_in (told w sweeping).kept

      busy : act_of (moment_of now).state 1 ≡ acts.Idle → ⊥
      busy idle =
          let yes : list_any is_report (asked (sweep_begun w.moment.state 1 options.dry options.limit) answers) ≡ true =
          (is_idle_after_report options.dry options.limit (listed w) (scans w) answers (keeps_history w sweeping).answers).0 (sym next_is ∙ idle) in
          let no : list_any is_report (asked (sweep_begun w.moment.state 1 options.dry options.limit) answers) ≡ false =
          ap (list_any is_report) (sym (keeps_history w sweeping).acts) ∙ so.unreported in
          let e : true ≡ false = sym yes ∙ no in cc

      not_so : (act : SweepAct) → is_before_report act ≡ true → act_of (moment_of now).state 1 ≡ act → act_of (moment_of now).state 1 ≡ acts.Report
      not_so act before is = absurd (let e : true ≡ false = sym before ∙ (ap is_before_report (sym is) ∙ over) in cc)

      by : (act : SweepAct) → act_of (moment_of now).state 1 ≡ act → act_of (moment_of now).state 1 ≡ acts.Report
      by (acts.Scan table column) is = not_so (acts.Scan table column) refl is
      by acts.Begin is = not_so acts.Begin refl is
      by (acts.Unlink o) is = not_so (acts.Unlink o) refl is
      by acts.Commit is = not_so acts.Commit refl is
      by acts.Rollback is = not_so acts.Rollback refl is
      by acts.Report is = is
      by acts.Idle is = absurd (busy is)

  module _ (next : Play) (advances : Advances 1 now next) where
    moment_is : moment_of next ≡ moment_after (moment_of now) 1 (Some Finish)
    moment_is = advances.moment ∙ ap (moment_after (moment_of now) 1) at_finish

    lines_are : (moment_of next).lines_done 1 ≡ lines_after (moment_of now).state 1 Finish (moment_of now).lines_done 1
    lines_are = ap (λ (m : Moment). m.lines_done 1) moment_is

    -- the act before the report was done
    pub does : is_before_report (act_of (moment_of now).state 1) ≡ true → does_act (end (clean_up_on opening options since)).state 1 (next_line (clean_up_programs options) (end (clean_up_on opening options since)) 1) ≡ true
    does before =
        ap (does_act (end (clean_up_on opening options since)).state 1) finish_there
        ∙ (ap (λ (m : Moment). does_act m.state 1 (Some Finish)) ends
        ∙ busy (is_idle (act_of (moment_of now).state 1)) (before_is_busy (act_of (moment_of now).state 1) before))
      where
        busy : (b : Bool) → b ≡ false → (true && not b) ≡ true
        busy b is = rw is refl

    pub done_more : is_before_report (act_of (moment_of now).state 1) ≡ true → acts_of (done (clean_up_on opening options (since ++ 1 ∷ []))) ≡ acts_of (done (clean_up_on opening options since)) ++ act_of (moment_of now).state 1 ∷ []
    done_more before =
        ap acts_of (acts_append 1 (clean_up_programs options) (beginning (clean_up_on opening options since)) since (1 ∷ []))
        ∙ (map-append (λ (d : Done). d.act) (done (clean_up_on opening options since)) (done_at there 1 (next_line (clean_up_programs options) (end (clean_up_on opening options since)) 1) ++ [])
        ∙ ap (λ (xs : List SweepAct). acts_of (done (clean_up_on opening options since)) ++ xs) one)
      where
        there : State
        there = (end (clean_up_on opening options since)).state

        by : (b : Bool) → b ≡ true → acts_of ((if b then record { act = act_of there 1; line = Finish; state = there } ∷ [] else []) ++ []) ≡ act_of there 1 ∷ []
        by b is = rw is refl

        one : acts_of (done_at there 1 (next_line (clean_up_programs options) (end (clean_up_on opening options since)) 1) ++ []) ≡ act_of (moment_of now).state 1 ∷ []
        one =
            ap (λ (line : Option Request). acts_of (done_at there 1 line ++ [])) finish_there
            ∙ (by (does_act there 1 (Some Finish)) (sym (ap (does_act there 1) finish_there) ∙ does before)
            ∙ ap (λ (m : Moment). act_of m.state 1 ∷ []) ends)

    -- and fewer acts are left
    pub fewer : is_before_report (act_of (moment_of now).state 1) ≡ true → acts_before ((moment_of next).state.players 1).sweep + 1 ≤ acts_before ((moment_of now).state.players 1).sweep
    fewer before =
        subst (λ (m : Moment). acts_before (m.state.players 1).sweep + 1 ≤ acts_before ((moment_of now).state.players 1).sweep) (sym moment_is)
        (stays_shorter (moment_of now).state 1 Finish before)

    pub act_done : is_before_report (act_of (moment_of now).state 1) ≡ true → HasDone opening options next (since ++ 1 ∷ [])
    act_done before = record {
      opening_is = advances.opening ∙ so.opening_is;
      programs_are = advances.programs ∙ so.programs_are;
      schedule = advances.schedule ∙ ap (λ (run : List ℕ). run ++ 1 ∷ []) so.schedule;
      line = lines_are ∙ (ap (λ (b : Bool). (if b then (moment_of now).lines_done else one_more 1 (moment_of now).lines_done) 1) before ∙ so.line);
      own = All-append (λ t. t ≡ 1) since (1 ∷ []) so.own (All-cons (λ t. t ≡ 1) 1 [] refl (All-nil (λ t. t ≡ 1)));
      acts = each_append does_act 1 (clean_up_programs options) (beginning (clean_up_on opening options since)) since (1 ∷ []) so.acts ((λ own. does before), tt);
      unreported =
          ap (list_any is_report) (done_more before)
          ∙ (list_any-append is_report (acts_of (done (clean_up_on opening options since))) (act_of (moment_of now).state 1 ∷ [])
          ∙ (ap (λ (b : Bool). b || (is_report (act_of (moment_of now).state 1) || false)) so.unreported
          ∙ ap (λ (b : Bool). b || false) (before_unreported (act_of (moment_of now).state 1) before)));
    }
