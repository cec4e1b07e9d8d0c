-- A clean-up that has come to its report: what it did, and its run once that is made.
use Rattle.std.proofs.Common.{◌≡◌, ◌≤◌, refl, sym, ap, ◌∙◌, subst, ℕ, zero, suc, ◌+◌, ◌-◌, Bool, true, false, List, [], ◌∷◌, ◌++◌, length, map, Option, Some, None, arith}
use Rattle.std.specs.Prelude.{All, flat_map, replicate, slice_get, slice_index_or, if◌then◌else◌}
use Rattle.std.proofs.lemmas.Bool.{cases_eq}
use Rattle.lo_base.specs.declared.reply.Reply.TheVariants.{Counted}
use Rattle.lo_base.specs.declared.reply.Word.TheVariants as words
use Rattle.lo_base.specs.declared.request.Request.{Request}
use Rattle.lo_base.specs.declared.request.Request.TheVariants.{Finish, Vacuumlo}
use Rattle.lo_machine.specs.Committed.{committed_opening}
use Rattle.lo_machine.specs.Program.{program_of}
use Rattle.lo_machine.specs.Replay.{Advances, IsPlayed, Play, moment_of}
use Rattle.lo_machine.specs.Run.{IsPlayable, IsWholeFrom, Moment, end_from, lines_after, moment_after, next_line, one_more, start_from}
use Rattle.lo_machine.specs.Step.{reply_to}
use Rattle.lo_machine.specs.SweepLaw.{EndsAlone, IsReported, Sweeping, acts_of, done, end, is_stopped, listed, rest, scans}
use Rattle.lo_machine.specs.SweepRows.{act_of, is_before_report}
use Rattle.lo_machine.proofs.SweepLaws.{keeps_law}
use Rattle.lo_model.specs.Opening.{Opening}
use Rattle.orphan_sweep.specs.declared.act.SweepAct.TheVariants as acts
use Rattle.orphan_sweep.specs.Rest.{groups}
use Rattle.lo_tool.specs.declared.words.CleanUp.{CleanUp}
use Rattle.lo_tool.specs.CleanUp.{CleansUp, DoesCleanUp, Removes, clean_up_on, clean_up_programs, clean_up_schedule}
use Rattle.lo_tool.specs.CleanUpTexts.{act_line, clean_up_text, listed_line, removal_text, scan_line, where_told}
use Rattle.lo_tool.specs.CleanUpWork.{HasDone, IsAtReport}
use Rattle.lo_tool.proofs.CleanUpRuns.{at_finish, ends, of_run, sweeping}
use Rattle.lo_tool.proofs.CleanUpTold.{scans_alone, whole_told}

-- the other sessions have no line
abbrev no_lines : List Request
no_lines = []

none_in : (count n : ℕ) → slice_index_or (replicate count no_lines) n no_lines ≡ no_lines
none_in zero n = refl
none_in (suc count) zero = refl
none_in (suc count) (suc n) = none_in count n

none_behind : (options : CleanUp) (n : ℕ) → 1 ≤ n → slice_index_or (clean_up_programs options) n no_lines ≡ no_lines
none_behind options zero low = absurd (omega (arith, low))
none_behind options (suc n) low = none_in 15 n

module _ (opening : Opening) (options : CleanUp) (now : Play) (since : List ℕ) (so : HasDone opening options now since) (report : act_of (moment_of now).state 1 ≡ acts.Report) (unstopped : is_stopped (clean_up_on opening options since) ≡ false) where
  abbrev w : Sweeping
  w = clean_up_on opening options since

  report_there : act_of (end w).state 1 ≡ acts.Report
  report_there = ap (λ (m : Moment). act_of m.state 1) (ends opening options now since so) ∙ report

  reported : IsReported w (reply_to (end w).state 1 Finish)
  reported = (keeps_law now w (of_run opening options now since so)).reported Finish refl report_there

  alone : options.dry ≡ false → EndsAlone w
  alone wet = record { alone = so.acts; next = report_there; wet = wet; granted = unstopped }

  pub does_clean_up : DoesCleanUp w
  does_clean_up = record {
    begun = sweeping opening options now since so;
    report = report_there;
    wet = λ wet. record {
      removed = reported.removed (length (rest w)) (reported.wet wet unstopped);
      whole = (keeps_law now w (of_run opening options now since so)).whole (alone wet);
      left = (keeps_law now w (of_run opening options now since so)).removes (of_run opening options now since so) (alone wet);
    };
    dry = λ dry. reported.would (length (rest w)) (reported.dry dry);
  }

  -- the lines of its acts are those of its scans
  pub acts_told : flat_map act_line (acts_of (done w)) ≡ flat_map scan_line (scans w)
  acts_told = by options.dry refl
    where
      by : (dry : Bool) → options.dry ≡ dry → flat_map act_line (acts_of (done w)) ≡ flat_map scan_line (scans w)
      by true dry = ap (flat_map act_line) (does_clean_up.dry dry).acts ∙ scans_alone (scans w)
      by false wet = ap (flat_map act_line) (does_clean_up.wet wet).removed.by_groups ∙ whole_told (scans w) (groups options.limit (rest w))

  -- what was told, part by part
  pub all_told : (first acts_told_so text : List ℕ) (left : List ℕ) → first ≡ where_told options.verbose (listed_line (length (listed w))) → acts_told_so ≡ first ++ where_told options.verbose (flat_map act_line (acts_of (done w))) → text ≡ acts_told_so ++ removal_text options left → left ≡ rest w → text ≡ clean_up_text options w
  all_told first acts_told_so text left first_is acts_is text_is left_is =
      text_is
      ∙ (ap (λ (numbers : List ℕ). acts_told_so ++ removal_text options numbers) left_is
      ∙ ap (λ (xs : List ℕ). xs ++ removal_text options (rest w))
      (acts_is
      ∙ (ap (λ (xs : List ℕ). xs ++ where_told options.verbose (flat_map act_line (acts_of (done w)))) first_is
      ∙ ap (λ (xs : List ℕ). where_told options.verbose (listed_line (length (listed w))) ++ where_told options.verbose xs) acts_told)))

  module _ (after : Play) (advances : Advances 1 now after) (played : IsPlayed after) where
    moment_is : moment_of after ≡ moment_after (moment_of now) 1 (Some Finish)
    moment_is = advances.moment ∙ ap (moment_after (moment_of now) 1) (at_finish opening options now since so)

    two_lines : (moment_of after).lines_done 1 ≡ 2
    two_lines =
        ap (λ (m : Moment). m.lines_done 1) moment_is
        ∙ (ap (λ (b : Bool). (if b then (moment_of now).lines_done else one_more 1 (moment_of now).lines_done) 1) (ap is_before_report report)
        ∙ ap (λ (n : ℕ). n + 1) so.line)

    programs_are : after.programs ≡ clean_up_programs options
    programs_are = advances.programs ∙ so.programs_are

    opening_is : after.opening ≡ opening
    opening_is = advances.opening ∙ so.opening_is

    schedule_is : after.schedule ≡ clean_up_schedule since
    schedule_is = advances.schedule ∙ ap (λ (run : List ℕ). run ++ 1 ∷ []) so.schedule

    moment_there : moment_of after ≡ end_from (clean_up_programs options) (start_from opening) (clean_up_schedule since)
    moment_there = rw (programs_are, opening_is, schedule_is) refl

    no_line : (m : Moment) → m.lines_done 1 ≡ 2 → (s : ℕ) → 1 ≤ s → next_line (clean_up_programs options) m s ≡ None
    no_line m two zero low = absurd (omega (arith, low))
    no_line m two (suc zero) low = ap (slice_get (Vacuumlo options.dry options.limit ∷ Finish ∷ [])) two
    no_line m two (suc (suc n)) low = ap (λ (lines : List Request). slice_get lines (m.lines_done (suc (suc n)))) (none_behind options (suc (suc n) - 1) (omega arith))

    whole : IsWholeFrom (clean_up_programs options) (start_from opening) (clean_up_schedule since)
    whole = record {
      sessions = subst (λ (run : List ℕ). All (λ s. 1 ≤ s) run) schedule_is played.sessions;
      playable =
          subst (λ (run : List ℕ). IsPlayable (clean_up_programs options) (start_from opening) run) schedule_is
          (subst (λ (d : Opening). IsPlayable (clean_up_programs options) (start_from d) after.schedule) opening_is
          (subst (λ (programs : List (List Request)). IsPlayable programs (start_from after.opening) after.schedule) programs_are played.playable));
      complete = no_line (end_from (clean_up_programs options) (start_from opening) (clean_up_schedule since)) (ap (λ (m : Moment). m.lines_done 1) (sym moment_there) ∙ two_lines);
    }

    pub cleans_up : (text : List ℕ) (left : Opening) → text ≡ clean_up_text options w → left ≡ committed_opening after.opening.blocks (moment_of after).state → CleansUp opening options text left
    cleans_up text left told committed = record {
      since = since;
      whole = whole;
      does = does_clean_up;
      tells = told;
      committed = committed ∙ rw (moment_there, opening_is) refl;
    }
