use Rattle.std.proofs.Common.{◌≡◌, ◌++◌, ℕ, true, false, ap, sym, subst, ◌∙◌, arith}
use Rattle.orphan_sweep.specs.declared.act.SweepAct.{SweepAct}
use Rattle.lo_machine.specs.Replay.{Advances, moment_of}
use Rattle.lo_machine.specs.SweepRows.{act_of, is_before_report}
use Rattle.lo_tool.specs.CleanUpTexts.{act_line, where_told}
use Rattle.lo_tool.proofs.CleanUpRuns.{comes_to_report, fewer}
use Rattle.lo_tool.proofs.CleanUpTold.{is_told, is_untold, told_more}
use Rattle.lo_tool.proofs.cleaning.do_acts.Goals.{then-options+in_ok-say_scanned, else-options}
use Rattle.lo_tool.proofs.cleaning.do_acts.Goals as goal

-- the act of session 1
act_at : (s : ℕ) (act : SweepAct) (of_session : ℕ → SweepAct) → s ≡ 1 → act ≡ of_session s → act ≡ of_session 1
act_at s act of_session one is = is ∙ ap of_session one

pub loop-options-smaller : goal.loop-options-smaller
loop-options-smaller c =
    let now = c.loop-options.running in
    let so = c.loop-options.invariant.done_so in
    let act = act_at c.first_session-s.result c.act.result.now (act_of (moment_of now).state) c.first_session-s.ensures c.act.ensures in
    let before : is_before_report (act_of (moment_of now).state 1) ≡ true = ap is_before_report (sym act) ∙ (sym c.is_before_report.ensures ∙ c.loop-options-test.true) in
    let advances : Advances 1 now c.advance.new.self = subst (λ (s : ℕ). Advances s now c.advance.new.self) c.first_session-s.ensures c.in_ok-advance.ensures.ok in
    omega (arith, fewer c.args.running.now.opening c.args.options now c.loop-options.invariant.since so c.advance.new.self advances before)

pub loop-options-preserved : goal.loop-options-preserved
loop-options-preserved c =
    let now = c.loop-options.running in
    let so = c.loop-options.invariant.done_so in
    let act = act_at c.first_session-s.result c.act.result.now (act_of (moment_of now).state) c.first_session-s.ensures c.act.ensures in
    let before : is_before_report (act_of (moment_of now).state 1) ≡ true = ap is_before_report (sym act) ∙ (sym c.is_before_report.ensures ∙ c.loop-options-test.true) in
    let advances : Advances 1 now c.advance.new.self = subst (λ (s : ℕ). Advances s now c.advance.new.self) c.first_session-s.ensures c.in_ok-advance.ensures.ok in
    told_more c.args.running.now.opening c.args.options now c.loop-options.invariant.since c.args.text.now c.loop-options.text so c.advance.new.self advances before c.if-options.text c.loop-options.invariant.told
    (elim c.if-options.branch [
      | then-options+in_ok-say_scanned w ↦
          let same = act_at c.first_session-s.result w.act-then-options.result.now (act_of (moment_of now).state) c.first_session-s.ensures w.act-then-options.ensures in
          is_told c.args.options.verbose c.loop-options.text c.if-options.text (act_line (act_of (moment_of now).state 1)) w.if-options.true
          (w.text-is ∙ (w.in_ok-say_scanned.ensures ∙ ap (λ (a : SweepAct). c.loop-options.text ++ act_line a) same))
      | else-options w ↦
          is_untold c.args.options.verbose c.loop-options.text c.if-options.text (act_line (act_of (moment_of now).state 1)) w.if-options.false w.text-is
    ])

pub returns : goal.returns
returns c =
    let now = c.loop-options.running in
    let act = act_at c.first_session-s.result c.act.result.now (act_of (moment_of now).state) c.first_session-s.ensures c.act.ensures in
    let over : is_before_report (act_of (moment_of now).state 1) ≡ false = ap is_before_report (sym act) ∙ (sym c.is_before_report.ensures ∙ c.loop-options-test.false) in
    record {
      so_far = c.loop-options.invariant;
      next = comes_to_report c.args.running.now.opening c.args.options now c.loop-options.invariant.since c.loop-options.invariant.done_so over;
    }
