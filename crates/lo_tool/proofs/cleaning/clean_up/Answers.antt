use Rattle.std.proofs.Common.{◌≡◌, ◌++◌, ℕ, List, [], refl, ap, sym, subst, ◌∙◌, length}
use Rattle.lo_machine.specs.Replay.{Advances, Play, moment_of}
use Rattle.lo_machine.specs.SweepLaw.{Sweeping, listed}
use Rattle.lo_machine.specs.SweepRows.{rest_before_report}
use Rattle.lo_machine.specs.Sweeping.{sweeps_of}
use Rattle.lo_model.specs.Opening.{Opening}
use Rattle.lo_opening.specs.Meaning.{opening_of}
use Rattle.lo_tool.specs.CleanUp.{clean_up_on}
use Rattle.lo_tool.specs.CleanUpTexts.{listed_line, where_told}
use Rattle.lo_tool.specs.CleanUpWork.{IsAtReport}
use Rattle.lo_tool.proofs.CleanUpEnds.{all_told, cleans_up}
use Rattle.lo_tool.proofs.CleanUpRuns.{of_run}
use Rattle.lo_tool.proofs.CleanUpTold.{is_told, is_untold, listed_so, rest_so}
use Rattle.lo_tool.proofs.cleaning.clean_up.Goals.{then-options+in_ok-say_listed, else-options}
use Rattle.lo_tool.proofs.cleaning.clean_up.Goals as goal

-- the list of session 1
list_at : (s : ℕ) (numbers : List ℕ) (of_session : ℕ → List ℕ) → s ≡ 1 → numbers ≡ of_session s → numbers ≡ of_session 1
list_at s numbers of_session one is = is ∙ ap of_session one

abbrev rest_of_run : Play → ℕ → List ℕ
rest_of_run play s = rest_before_report (sweeps_of (moment_of play).state s)

pub returns : goal.returns
returns c =
    let one = c.first_session-s.ensures in
    let opening : Opening = opening_of c.args.opening in
    let options = c.args.options in
    let begun = c.in_ok-running.ensures in
    let now : Play = c.do_acts.new.running in
    let at : IsAtReport opening options now c.if-options.text c.do_acts.new.text = subst (λ (d : Opening). IsAtReport d options now c.if-options.text c.do_acts.new.text) begun.opening_is c.in_ok-do_acts.ensures in
    let since = at.so_far.since in
    let so = at.so_far.done_so in
    let w : Sweeping = clean_up_on opening options since in
    let advances : Advances 1 now c.advance.new.self = subst (λ (s : ℕ). Advances s now c.advance.new.self) one c.in_ok-advance.ensures.ok in
    let unstopped = c.sweeps_remove_what_no_scan_found.ensures.alone now w (of_run opening options now since so) (record { own = so.own; acts = so.acts; closed = λ t other. refl }) in
    let line : List ℕ = listed_line (length (listed w)) in
    let told : c.if-options.text ≡ c.new-text.result ++ where_told options.verbose line = elim c.if-options.branch [
      | then-options+in_ok-say_listed w1 ↦
          let numbers = list_at c.first_session-s.result w1.rest.result.now (rest_of_run c.in_ok-running.running) one w1.rest.ensures ∙ listed_so opening options c.in_ok-running.running begun in
          is_told options.verbose c.new-text.result c.if-options.text line w1.if-options.true
          (w1.text-is ∙ (w1.in_ok-say_listed.ensures ∙ ap (λ (all : List ℕ). c.new-text.result ++ listed_line (length all)) numbers))
      | else-options w0 ↦ is_untold options.verbose c.new-text.result c.if-options.text line w0.if-options.false w0.text-is
    ] in
    let first : c.if-options.text ≡ where_told options.verbose line = told ∙ ap (λ (xs : List ℕ). xs ++ where_told options.verbose line) c.new-text.ensures in
    let left = list_at c.first_session-s.result c.rest-2.result.now (rest_of_run now) one c.rest-2.ensures ∙ rest_so opening options now since so at.next in
    cleans_up opening options now since so at.next unstopped c.advance.new.self advances c.in_ok-finished.ensures.played c.say_removal.new.text (opening_of c.in_ok-finished.finished.opening)
    (all_told opening options now since so at.next unstopped c.if-options.text c.do_acts.new.text c.say_removal.new.text c.rest-2.result.now first at.so_far.told c.in_ok-say_removal.ensures left)
    c.in_ok-finished.ensures.opening
