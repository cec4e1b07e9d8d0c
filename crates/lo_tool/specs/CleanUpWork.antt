-- How far a clean-up is that is under way.
use Rattle.std.specs.Prelude.{◌≡◌, ℕ, false, List, [], ◌∷◌, ◌++◌, All, flat_map}
use Rattle.std.specs.List.{list_any}
use Rattle.lo_machine.specs.Replay.{Play, moment_of}
use Rattle.lo_machine.specs.SweepLaw.{EachOwn, acts_of, beginning, does_act, done}
use Rattle.lo_machine.specs.SweepRows.{act_of}
use Rattle.lo_model.specs.Opening.{Opening}
use Rattle.orphan_sweep.specs.declared.act.SweepAct.TheVariants as acts
use Rattle.orphan_sweep.specs.Law.{is_report}
use Rattle.lo_tool.specs.declared.words.CleanUp.{CleanUp}
use Rattle.lo_tool.specs.CleanUp.{clean_up_on, clean_up_programs}
use Rattle.lo_tool.specs.CleanUpTexts.{act_line, where_told}

-- session 1 has begun it on an opening, and each advance since was an act of it, none of them its report
pub record HasDone (opening : Opening) (options : CleanUp) (now : Play) (since : List ℕ) : Type 0 where
  pub opening_is : now.opening ≡ opening
  pub programs_are : now.programs ≡ clean_up_programs options
  pub schedule : now.schedule ≡ 1 ∷ since
  pub line : (moment_of now).lines_done 1 ≡ 1
  pub own : All (λ t. t ≡ 1) since
  pub acts :
      EachOwn does_act 1 (clean_up_programs options) (beginning (clean_up_on opening options since)) since
  pub unreported : list_any is_report (acts_of (done (clean_up_on opening options since))) ≡ false

-- the lines of the acts that it has done stand behind a text
pub record HasTold (opening : Opening) (options : CleanUp) (now : Play) (old text : List ℕ) : Type 0 where
  pub since : List ℕ
  pub done_so : HasDone opening options now since
  pub told :
      text
      ≡ old ++ where_told options.verbose (flat_map act_line (acts_of (done (clean_up_on opening options since))))

-- the next act is the report
pub record IsAtReport (opening : Opening) (options : CleanUp) (now : Play) (old text : List ℕ) : Type 0 where
  pub so_far : HasTold opening options now old text
  pub next : act_of (moment_of now).state 1 ≡ acts.Report
