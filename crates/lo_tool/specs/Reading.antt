-- What a command makes in code, why it may make nothing, and what that says of its files.
use Rattle.std.specs.Prelude.{◌≡◌, ℕ, List, Result, IfOk, IfErr, OnOk, option_map}
use Rattle.lo_base.specs.declared.request.Request.{Request}
use Rattle.lo_model.specs.Opening.{Opening}
use Rattle.lo_image.specs.Image.{image}
use Rattle.lo_opening.specs.Meaning.{opening_of}
use Rattle.lo_opening.specs.Opening.{OpeningData}
use Rattle.lo_outside.specs.Faults.{Rose}
use Rattle.lo_script.specs.declared.script.Marking.TheVariants.{Marked}
use Rattle.lo_tool.specs.declared.stop.Stop.{Stop}
use Rattle.lo_tool.specs.declared.stop.Stop.TheVariants.{BadInput, Refused, Fault, NoMemory}
use Rattle.lo_tool.specs.Command.{Command}
use Rattle.lo_tool.specs.Commands.{IsMadeBy, IsBadInput, IsRefusal}
use Rattle.lo_tool.specs.Made.{Made, Saved, saved_under}
use Rattle.lo_tool.specs.Objects.{RefusesRequest}
use Rattle.lo_tool.specs.Outside.{FilesState}
use Rattle.lo_tool.specs.ScriptFile.{RunsTo, IsOutsideGrammar}
use Rattle.lo_tool.specs.declared.made.Made.{Made as CodeMade}
use Rattle.lo_tool.specs.declared.made.Saving.{Saving}
use Rattle.lo_tool.specs.declared.playing.Ran.{Ran}

-- what a stop says of a file, where no request is done
abbrev pub IsStop : (bad : List ℕ → Type 0) → Stop → Type 0
IsStop bad (BadInput line) = bad line
IsStop bad (Refused line) = ⊥
IsStop bad Fault = Unit {0}
IsStop bad NoMemory = Unit {0}

-- how the count of faults stands after a stop
abbrev pub StopCount : (old new : ℕ) → Stop → Type 0
StopCount old new (BadInput line) = new ≡ old
StopCount old new (Refused line) = new ≡ old
StopCount old new Fault = Rose old new
StopCount old new NoMemory = new ≡ old

-- a fault only where the count rose, and the count as it was in every other answer
pub record HasStopCause {T : Type 0} (old new : ℕ) (result : Result T Stop) : Type 0 where
  pub ok : OnOk result (new ≡ old)
  pub err : IfErr result (StopCount old new)

-- a stop that is no fault
abbrev pub IsNoFault : Stop → Type 0
IsNoFault (BadInput line) = Unit {0}
IsNoFault (Refused line) = Unit {0}
IsNoFault Fault = ⊥
IsNoFault NoMemory = Unit {0}

-- a stop that blames no file and no request
abbrev pub IsNoInput : Stop → Type 0
IsNoInput (BadInput line) = ⊥
IsNoInput (Refused line) = ⊥
IsNoInput Fault = Unit {0}
IsNoInput NoMemory = Unit {0}

-- the run of a script's bytes on an opening, or why there is none: they are outside the grammar, or no memory
pub record RunsBytes (opening : OpeningData) (name bytes : List ℕ) (result : Result Ran Stop)
    : Type 0 where
  pub ok : IfOk result (λ ran. RunsTo (opening_of opening) bytes ran.text (opening_of ran.opening))
  pub err : IfErr result (IsStop (IsOutsideGrammar Marked name bytes))
  pub no_fault : IfErr result IsNoFault

-- what was made, as the definitions have it
abbrev pub saved_of : Saving → Saved
saved_of saving = saved_under saving.image.now (image saving.opening)

abbrev pub made_of : CodeMade → Made
made_of made = record { text = made.text; saved = option_map saved_of made.saved }

-- why a request on an opening leaves nothing
abbrev pub IsRequestStop : Opening → Request → Stop → Type 0
IsRequestStop opening request (BadInput line) = ⊥
IsRequestStop opening request (Refused line) = RefusesRequest opening request line
IsRequestStop opening request Fault = ⊥
IsRequestStop opening request NoMemory = Unit {0}

-- why a command makes nothing
abbrev pub IsCommandStop : Command → FilesState → Stop → Type 0
IsCommandStop command files (BadInput line) = IsBadInput command files line
IsCommandStop command files (Refused line) = IsRefusal command files line
IsCommandStop command files Fault = Unit {0}
IsCommandStop command files NoMemory = Unit {0}

-- what a command makes, or why it makes nothing
pub record Makes (command : Command) (files : FilesState) (result : Result CodeMade Stop)
    : Type 0 where
  pub ok : IfOk result (λ made. IsMadeBy command files (made_of made))
  pub err : IfErr result (IsCommandStop command files)
