-- What `vacuumlo` does on the database of an image: a clean-up by session 1, alone, from its list to its report. (Manual,
-- vacuumlo.)
use Rattle.std.specs.Prelude.{◌≡◌, ℕ, true, false, List, [], ◌∷◌, ◌++◌, length, replicate, Some, None, if◌then◌else◌}
use Rattle.lo_base.specs.declared.request.Request.{Request}
use Rattle.lo_base.specs.declared.request.Request.TheVariants.{Finish, Vacuumlo}
use Rattle.lo_image.specs.Image.{image}
use Rattle.lo_machine.specs.Committed.{committed_opening}
use Rattle.lo_machine.specs.Run.{IsWholeFrom, end_from, start_from}
use Rattle.lo_machine.specs.State.{edits}
use Rattle.lo_machine.specs.SweepLaw.{AreCommitted, IsSweeping, OnlyScans, RemovesTheRest, RemovesWhatItLists, Sweeping, commit_clocks, done, end, rest}
use Rattle.lo_machine.specs.SweepRows.{act_of}
use Rattle.lo_model.specs.Opening.{Opening}
use Rattle.lo_opening.specs.Meaning.{data_of, opening_of}
use Rattle.lo_opening.specs.Opening.{OpeningData}
use Rattle.orphan_sweep.specs.declared.act.SweepAct.TheVariants as acts
use Rattle.orphan_sweep.specs.Rest.{groups}
use Rattle.lo_tool.specs.declared.words.CleanUp.{CleanUp}
use Rattle.lo_tool.specs.CleanUpTexts.{clean_up_text}
use Rattle.lo_tool.specs.Images.{IsKept}
use Rattle.lo_tool.specs.Made.{Made, saved_under}
use Rattle.lo_tool.specs.Outside.{FilesState}

-- session 1 begins the clean-up and does all its acts, and no other session has a line
abbrev pub clean_up_programs : CleanUp → List (List Request)
clean_up_programs options = (Vacuumlo options.dry options.limit ∷ Finish ∷ []) ∷ replicate 15 []

-- the clean-up on an opening's database, since whose beginning these advances were made
abbrev pub clean_up_on : Opening → CleanUp → (since : List ℕ) → Sweeping
clean_up_on opening options since = record {
  programs = clean_up_programs options;
  moment = start_from opening;
  session = 1;
  dry = options.dry;
  limit = options.limit;
  since = since;
}

-- its beginning, the acts before the report, and the report
abbrev pub clean_up_schedule : (since : List ℕ) → List ℕ
clean_up_schedule since = 1 ∷ since ++ 1 ∷ []

-- It removes the rest, each group committed whole, at one clock; then what a scan found is still there, and the rest is not.
pub record Removes (w : Sweeping) : Type 0 where
  pub removed : RemovesTheRest w (length (rest w))
  pub whole : AreCommitted (edits (end w).state) (groups w.limit (rest w)) (commit_clocks (done w))
  pub left : RemovesWhatItLists w

-- A clean-up was begun and comes to its report. A dry one did its scans alone.
pub record DoesCleanUp (w : Sweeping) : Type 0 where
  pub begun : IsSweeping w
  pub report : act_of (end w).state w.session ≡ acts.Report
  pub wet : w.dry ≡ false → Removes w
  pub dry : w.dry ≡ true → OnlyScans w (length (rest w))

-- A whole run of such a clean-up on an opening: what it tells of itself, and what is committed at its end.
pub record CleansUp (opening : Opening) (options : CleanUp) (text : List ℕ) (left : Opening) : Type 0 where
  pub since : List ℕ
  pub whole : IsWholeFrom (clean_up_programs options) (start_from opening) (clean_up_schedule since)
  pub does : DoesCleanUp (clean_up_on opening options since)
  pub tells : text ≡ clean_up_text options (clean_up_on opening options since)
  pub committed :
      left
      ≡ committed_opening opening.blocks
      (end_from (clean_up_programs options) (start_from opening) (clean_up_schedule since)).state

-- What `vacuumlo` makes of an image: that text, and the image of what is committed then, unless it is dry.
pub record CleansImage (files : FilesState) (image_name : List ℕ) (options : CleanUp) (made : Made) : Type 0 where
  pub opening : OpeningData
  pub kept : IsKept files image_name opening
  pub left : Opening
  pub run : CleansUp (opening_of opening) options made.text left
  pub saved : made.saved ≡ (if options.dry then None else Some (saved_under image_name (image (data_of left))))
