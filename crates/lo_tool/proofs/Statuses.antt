-- Which status a command ends with and what it leaves then, from how each of its parts ended.
use Rattle.std.proofs.Common.{◌≡◌, ℕ, ◌<◌, ◌≤◌, List, [], ◌∷◌, ◌++◌, Some, None, refl, ap, sym, ◌∙◌, subst, length, arith}
use Rattle.std.specs.Prelude.{All, Option, Ok, Err, Bool, true, false, IsSome, IsTrue, option_map, if◌then◌else◌}
use Rattle.std.proofs.lemmas.List.Elements.{All-head, All-tail}
use Rattle.lo_outside.specs.Faults.{Rose}
use Rattle.lo_outside.specs.Files.{File, bytes_of}
use Rattle.lo_image.specs.declared.fault.BadImage.{BadImage as Fault_}
use Rattle.lo_image.specs.declared.fault.ImageError.TheVariants.{Bad}
use Rattle.lo_image.specs.Image.{image}
use Rattle.lo_image.specs.Reading.{Answers}
use Rattle.lo_image.proofs.ImageLaws.{only_is}
use Rattle.lo_opening.specs.Opening.{IsOpening, OpeningData}
use Rattle.lo_script.specs.declared.script.Marking.{Marking}
use Rattle.lo_script.specs.declared.script.Marking.TheVariants.{Marked, Unmarked}
use Rattle.lo_script.specs.Script.{ScriptText, script_by}
use Rattle.lo_tool.specs.declared.run.Status.{Status}
use Rattle.lo_tool.specs.declared.run.Status.TheVariants.{Done, Refused, Usage, BadInput, Fault, NoMemory}
use Rattle.lo_tool.specs.Command.{Command, Init, ListObjects, RemoveOrphans, RunScript, RunScriptOn, RunThreads, UnlinkObject, command_of}
use Rattle.lo_tool.specs.Commands.{IsBadInput, IsMadeBy, HasInput}
use Rattle.lo_tool.specs.Finishing.{Finishes, Saved_, Starved, Unsaved}
use Rattle.lo_tool.specs.Images.{BadImage, GoodImage, IsNoImage, NoImage, NotThere}
use Rattle.lo_tool.specs.Made.{FilesAre, FilesLeft, LeavesImage, Made, Saved, image_saved, saved_under}
use Rattle.lo_tool.specs.Outside.{Outside, FilesState, SinkState, Took, TookFront, TookNothing, FilesStay, IsFaultless, Failing, FilesFailed, OutFailed, ErrFailed, last_count, content}
use Rattle.lo_tool.specs.Printing.{Complains, Said, Failed, Prints, Printed, Lost}
use Rattle.lo_tool.specs.ScriptFile.{BadPair, BadScript, GoodPair, GoodScript, IsUnread, Missing, OfImage, OfScript, OutsideGrammar, TooLong, Unread}
use Rattle.lo_tool.specs.Status.{IsMade, IsInputLine, IsDone, IsUsage, IsRefusedInput, IsFault, IsNoMemory, IsErrorLine, FaultLine, UsageLine, InputLine, RefusalLine, IsRefusalLine, IsRefused, SaidFront, IsRunnable, EndsWell, Completed, WantsMemory, WasRefused, Leaves, LeavesDone, LeavesRefused, LeavesUsage, LeavesInput, LeavesFault, LeavesNoMemory}
use Rattle.lo_tool.specs.Threads.{BadThreads, GoodThreads, OfProgram, OfThreadsImage}
use Rattle.lo_tool.specs.Texts.{usage_line, fault_line}
use Rattle.lo_tool.proofs.Stops.{same_state}

-- what is outside, in its three parts
abbrev three : FilesState → SinkState → SinkState → Outside
three files out err = record { files = files; out = out; err = err }

same_taken : (old : SinkState) → TookNothing old old
same_taken old = record { nothing = λ tells. refl }

same_files : (old new : FilesState) → new.folder ≡ old.folder → FilesStay old new
same_files old new same = record { stays = λ name. ap (λ (folder : List ℕ → Option File). folder name) same }

-- no file changed, so none did that a failed command must leave
left_alone : (image : Option (List ℕ)) (old new : FilesState) → new.folder ≡ old.folder → FilesLeft image old new
left_alone None old new same = same_files old new same
left_alone (Some image) old new same =
    ((λ below count. same_files old new same), record { others = λ tells other is_other. ap (λ (folder : List ℕ → Option File). folder other) same })

-- a count that rose is greater, below the last value
not_greater : (old new : ℕ) → old < last_count → Rose old new → new ≤ old → ⊥
not_greater old new below rose same = omega (arith, below, rose, same)

not_less : (n : ℕ) → n < n → ⊥
not_less n h = omega (arith, h)

same_not_greater : (old new : ℕ) → new ≡ old → old < new → ⊥
same_not_greater old new same h = omega (arith, same, h)

-- how standard error stands after the line of a fault
record SaysFault (words : List (List ℕ)) (before after : Outside) : Type 0 where
  said : before.err.faults < last_count → after.err.faults ≤ before.err.faults → Took fault_line before.err after.err
  said_front : before.err.faults < after.err.faults → SaidFront words before after

says_fault : (words : List (List ℕ)) (before after : Outside) (result : Status) → Complains fault_line Fault before.err after.err result → SaysFault words before after
says_fault words before after result (Said is took same) = record {
  said = λ below h. took;
  said_front = λ h. absurd (same_not_greater before.err.faults after.err.faults same h);
}
says_fault words before after result (Failed is front rose) = record {
  said = λ below h. absurd (not_greater before.err.faults after.err.faults below rose h);
  said_front = λ h. record { line = fault_line; kind = FaultLine refl; said = front };
}

fault_is : (err err' : SinkState) (result : Status) → Complains fault_line Fault err err' result → result ≡ Fault
fault_is err err' result (Said is took same) = is
fault_is err err' result (Failed is front rose) = is

-- standard error failed inside a line, and nothing was printed before
lost_line : (words : List (List ℕ)) (files files' : FilesState) (out err err' : SinkState) (line : List ℕ) → IsErrorLine words files line → files'.folder ≡ files.folder → TookFront line err err' → Rose err.faults err'.faults → IsFault words (three files out err) (three files' out err')
lost_line words files files' out err err' line kind folder front rose = record {
  cause = ErrFailed rose;
  unsaved = λ none. same_files files files' folder;
  files = λ below greater. left_alone (image_saved (command_of words)) files files' folder;
  no_output = λ below greater. same_taken out;
  output = λ greater. absurd (not_less out.faults greater);
  said = λ below greater. absurd (not_greater err.faults err'.faults below rose greater);
  said_front = λ greater. record { line = line; kind = kind; said = front };
}

-- the words were no command
pub leaves_usage : (words : List (List ℕ)) (files : FilesState) (out err err' : SinkState) (result : Status) → command_of words ≡ None → Complains usage_line Usage err err' result → Leaves words (three files out err) (three files out err') result
leaves_usage words files out err err' result none (Said is took same) =
    LeavesUsage is (record { no_command = none; files = same_files files files refl; no_output = same_taken out; said = took })
    (record { files_count = refl; out_count = refl; err_count = same })
leaves_usage words files out err err' result none (Failed is front rose) =
    LeavesFault is (lost_line words files files out err err' usage_line (UsageLine none refl) refl front rose)

-- a file of the command cannot be used
pub leaves_bad_input : (words : List (List ℕ)) (files files' : FilesState) (out err err' : SinkState) (line : List ℕ) (result : Status) → IsInputLine words files line → files'.folder ≡ files.folder → files'.faults ≡ files.faults → Complains line BadInput err err' result → Leaves words (three files out err) (three files' out err') result
leaves_bad_input words files files' out err err' line result bad folder count (Said is took same) =
    LeavesInput is (record { line = line; bad = bad; files = same_files files files' folder; no_output = same_taken out; said = took })
    (record { files_count = count; out_count = refl; err_count = same })
leaves_bad_input words files files' out err err' line result bad folder count (Failed is front rose) =
    LeavesFault is (lost_line words files files' out err err' line (InputLine bad) folder front rose)

-- a reply was a refusal
pub leaves_refused : (words : List (List ℕ)) (files files' : FilesState) (out err err' : SinkState) (line : List ℕ) (result : Status) → IsRefusalLine words files line → files'.folder ≡ files.folder → files'.faults ≡ files.faults → Complains line Refused err err' result → Leaves words (three files out err) (three files' out err') result
leaves_refused words files files' out err err' line result refusal folder count (Said is took same) =
    LeavesRefused is (record { line = line; refusal = refusal; files = same_files files files' folder; no_output = same_taken out; said = took })
    (record { files_count = count; out_count = refl; err_count = same })
leaves_refused words files files' out err err' line result refusal folder count (Failed is front rose) =
    LeavesFault is (lost_line words files files' out err err' line (RefusalLine refusal) folder front rose)

-- a file failed
pub leaves_fault : (words : List (List ℕ)) (files files' : FilesState) (out err err' : SinkState) (result : Status) → files'.folder ≡ files.folder → Rose files.faults files'.faults → Complains fault_line Fault err err' result → Leaves words (three files out err) (three files' out err') result
leaves_fault words files files' out err err' result folder rose complains =
    let says : SaysFault words (three files out err) (three files' out err') = says_fault words (three files out err) (three files' out err') result complains in
    LeavesFault (fault_is err err' result complains) (record {
      cause = FilesFailed rose;
      unsaved = λ none. same_files files files' folder;
      files = λ below greater. left_alone (image_saved (command_of words)) files files' folder;
      no_output = λ below greater. same_taken out;
      output = λ greater. absurd (not_less out.faults greater);
      said = says.said;
      said_front = says.said_front;
    })

-- memory was wanting
pub leaves_no_memory : (words : List (List ℕ)) (command : Command) (files files' : FilesState) (out err : SinkState) → command_of words ≡ Some command → files'.folder ≡ files.folder → files'.faults ≡ files.faults → Leaves words (three files out err) (three files' out err) NoMemory
leaves_no_memory words command files files' out err is folder count =
    LeavesNoMemory refl (record { command = command; is = is; files = same_files files files' folder; no_output = same_taken out; no_error = same_taken err })
    (record { files_count = count; out_count = refl; err_count = refl })

-- ---- what was made, saved and printed

name_in : Saved → List ℕ
name_in saved = saved.name

-- a command saves under the name that it is to save
saved_name : (command : Command) (files : FilesState) (made : Made) → IsMadeBy command files made → image_saved (Some command) ≡ option_map name_in made.saved
unfolding name_in
saved_name (Init image blocks) files made by = sym (ap (option_map name_in) by.saved)
saved_name (RunScript file) files made by = sym (ap (option_map name_in) by.unsaved)
saved_name (RunScriptOn image file) files made by = sym (ap (option_map name_in) by.saved)
saved_name (RunThreads image names) files made by = sym (ap (option_map name_in) by.saved)
saved_name (RemoveOrphans image options) files made by = by_kind options.dry _ made.saved by.saved
  where
    by_kind : (dry : Bool) (bytes : List ℕ) (saved : Option Saved) → saved ≡ (if dry then None else Some (saved_under image bytes)) → (if dry then None else Some image) ≡ option_map name_in saved
    by_kind true bytes saved is = sym (ap (option_map name_in) is)
    by_kind false bytes saved is = sym (ap (option_map name_in) is)
saved_name (ListObjects image) files made by = sym (ap (option_map name_in) by.unsaved)
saved_name (UnlinkObject image oid) files made by = sym (ap (option_map name_in) by.saved)

none_saved : (saved : Option Saved) (old new : FilesState) → option_map name_in saved ≡ None → FilesAre saved old new → FilesStay old new
none_saved None old new none are = are
none_saved (Some saved) old new none are = cc

-- a text was printed once the image was saved, or standard output failed in it
leaves_text : (words : List (List ℕ)) (before after : Outside) (made : Made) (result : Status) → IsMade words before.files made → image_saved (command_of words) ≡ option_map name_in made.saved → FilesAre made.saved before.files after.files → after.files.faults ≡ before.files.faults → Prints made.text before.out after.out before.err after.err result → Leaves words before after result
leaves_text words before after made result is named are count (Printed done took same quiet) =
    LeavesDone done (record {
      made = made;
      is = is;
      files = are;
      printed = took;
      no_error = record { nothing = λ tells. ap (λ (sink : SinkState). sink.taken) quiet };
    })
    (record { files_count = count; out_count = same; err_count = ap (λ (sink : SinkState). sink.faults) quiet })
leaves_text words before after made result is named are count (Lost lost front rose complains) =
    let says : SaysFault words before after = says_fault words before after result complains in
    LeavesFault lost (record {
      cause = OutFailed rose;
      unsaved = λ none. none_saved made.saved before.files after.files (sym named ∙ none) are;
      files = λ below same. absurd (not_greater before.out.faults after.out.faults below rose same);
      no_output = λ below same. absurd (not_greater before.out.faults after.out.faults below rose same);
      output = λ greater. record { made = made; is = is; files = are; printed = front };
      said = says.said;
      said_front = says.said_front;
    })

left_behind : (image : Option (List ℕ)) (saved : Saved) (old new : FilesState) → image ≡ Some saved.name → Rose old.faults new.faults → LeavesImage saved.name old new → FilesLeft image old new
left_behind image saved old new is rose leaves = subst (λ (given : Option (List ℕ)). FilesLeft given old new) (sym is) ((λ below same. absurd (not_greater old.faults new.faults below rose same)), leaves)

some_is_not_none : (name : List ℕ) → Some name ≡ None → ⊥
some_is_not_none name h = cc

finishes : (words : List (List ℕ)) (before after : Outside) (made : Made) (result : Status) → IsMade words before.files made → image_saved (command_of words) ≡ option_map name_in made.saved → Finishes made before after result → Leaves words before after result
unfolding name_in
finishes words before after made result is named (Saved_ are count prints) = leaves_text words before after made result is named are count prints
finishes words before after made result is named (Unsaved saved is_saved leaves rose quiet complains) =
    let says : SaysFault words before after = says_fault words before after result complains in
    let name : image_saved (command_of words) ≡ Some saved.name = named ∙ ap (option_map name_in) is_saved in
    LeavesFault (fault_is before.err after.err result complains) (record {
      cause = FilesFailed rose;
      unsaved = λ none. absurd (some_is_not_none saved.name (sym name ∙ none));
      files = λ below same. left_behind (image_saved (command_of words)) saved before.files after.files name rose leaves;
      no_output = λ below same. record { nothing = λ tells. ap (λ (sink : SinkState). sink.taken) quiet };
      output = λ greater. absurd (same_not_greater before.out.faults after.out.faults (ap (λ (sink : SinkState). sink.faults) quiet) greater);
      said = says.said;
      said_front = says.said_front;
    })
finishes words before after made result is named (Starved starved folder count quiet silent) =
    LeavesNoMemory starved (record {
      command = is.command;
      is = is.is;
      files = same_files before.files after.files folder;
      no_output = record { nothing = λ tells. ap (λ (sink : SinkState). sink.taken) quiet };
      no_error = record { nothing = λ tells. ap (λ (sink : SinkState). sink.taken) silent };
    })
    (record { files_count = count; out_count = ap (λ (sink : SinkState). sink.faults) quiet; err_count = ap (λ (sink : SinkState). sink.faults) silent })

pub leaves_made : (words : List (List ℕ)) (files mid : FilesState) (out err : SinkState) (after : Outside) (made : Made) (result : Status) → IsMade words files made → mid.tells ≡ files.tells → mid.folder ≡ files.folder → mid.faults ≡ files.faults → Finishes made (three mid out err) after result → Leaves words (three files out err) after result
leaves_made words files mid out err after made result is tells folder count ends =
    finishes words (three files out err) after made result is (ap image_saved is.is ∙ saved_name is.command files made is.by)
    (subst (λ (state : FilesState). Finishes made (three state out err) after result) (same_state files mid tells folder count) ends)

-- what a status says
abbrev pub Says : (words : List (List ℕ)) (before after : Outside) → Status → Type 0
Says words before after Done = IsDone words before after
Says words before after Refused = IsRefused words before after
Says words before after Usage = IsUsage words before after
Says words before after BadInput = IsRefusedInput words before after
Says words before after Fault = IsFault words before after
Says words before after NoMemory = IsNoMemory words before after

pub says : (words : List (List ℕ)) (before after : Outside) (status expected : Status) → Leaves words before after status → status ≡ expected → Says words before after expected
says words before after status expected (LeavesDone is done whole) h = subst (Says words before after) (sym is ∙ h) done
says words before after status expected (LeavesUsage is usage whole) h = subst (Says words before after) (sym is ∙ h) usage
says words before after status expected (LeavesInput is input whole) h = subst (Says words before after) (sym is ∙ h) input
says words before after status expected (LeavesRefused is refused whole) h = subst (Says words before after) (sym is ∙ h) refused
says words before after status expected (LeavesFault is fault) h = subst (Says words before after) (sym is ∙ h) fault
says words before after status expected (LeavesNoMemory is wants whole) h = subst (Says words before after) (sym is ∙ h) wants

-- no count changes but by a fault
pub faultless : (words : List (List ℕ)) (before after : Outside) (status : Status) → Leaves words before after status → (status ≡ Fault → ⊥) → IsFaultless before after
faultless words before after status (LeavesDone is done whole) h = whole
faultless words before after status (LeavesUsage is usage whole) h = whole
faultless words before after status (LeavesInput is input whole) h = whole
faultless words before after status (LeavesRefused is refused whole) h = whole
faultless words before after status (LeavesFault is fault) h = absurd (h is)
faultless words before after status (LeavesNoMemory is wants whole) h = whole

none_is_not_some : {A : Type 0} (a : A) → None ≡ Some a → ⊥
none_is_not_some a h = cc

same_some : {A : Type 0} (a b : A) → Some a ≡ Some b → a ≡ b
same_some a b h = cc

no_script : (script : ScriptText) → None ≡ Some script → ⊥
no_script script h = cc

bytes_of_content : (file : Option File) (bytes : List ℕ) → content file ≡ Some bytes → bytes_of file ≡ bytes
bytes_of_content None bytes h = cc
bytes_of_content (Some file) bytes h = same_some file.bytes bytes h

-- no line is said of a file that tells a script or a program
good_is_read : (marking : Marking) (files : FilesState) (name line : List ℕ) → IsTrue files.tells → GoodScript marking files name → IsUnread files name line → ⊥
good_is_read marking files name line tells good (Missing gone said) = none_is_not_some good.bytes (sym (ap content (gone tells)) ∙ good.there)
good_is_read marking files name line tells good (TooLong long said) =
    let same : bytes_of (files.folder name) ≡ good.bytes = bytes_of_content (files.folder name) good.bytes good.there in
    omega (arith, long tells, ap (λ (xs : List ℕ). length xs) same, good.within)

pub good_is_not_bad : (marking : Marking) (files : FilesState) (name line : List ℕ) → IsTrue files.tells → GoodScript marking files name → BadScript marking files name line → ⊥
good_is_not_bad marking files name line tells good (Unread unread) = good_is_read marking files name line tells good unread
good_is_not_bad marking files name line tells good (OutsideGrammar read is_read outside) =
    let same : read ≡ good.bytes = same_some read good.bytes (sym (is_read.read.told tells) ∙ good.there) in
    no_script good.script (sym outside.none ∙ (ap (script_by marking) same ∙ good.spells))

-- reading an image does not fail
no_error : (opening : OpeningData) (fault : Fault_) → Answers (Err (Bad fault)) (Ok opening) → ⊥
no_error opening fault h = cc

no_other : (bytes : List ℕ) (fault : Fault_) (opening : OpeningData) → IsOpening opening → bytes ≡ image opening → IsNoImage bytes fault → ⊥
no_other bytes fault opening rules is none =
    absurd (no_error opening fault (only_is bytes (Err (Bad fault)) none opening rules is))

-- no line is said of a file that holds an image
image_is_not_bad : (files : FilesState) (name line : List ℕ) → IsTrue files.tells → GoodImage files name → BadImage files name line → ⊥
image_is_not_bad files name line tells good (NotThere gone said) = none_is_not_some (image good.opening) (sym (ap content (gone tells)) ∙ good.there)
image_is_not_bad files name line tells good (NoImage read is_read fault none said) =
    let same : read ≡ image good.opening = same_some read (image good.opening) (sym (is_read.told tells) ∙ good.there) in
    no_other (image good.opening) fault good.opening good.rules refl (subst (λ (bytes : List ℕ). IsNoImage bytes fault) same none)

pair_is_not_bad : (files : FilesState) (image_name name line : List ℕ) → IsTrue files.tells → GoodPair files image_name name → BadPair files image_name name line → ⊥
pair_is_not_bad files image_name name line tells good (OfImage bad) = image_is_not_bad files image_name line tells good.kept bad
pair_is_not_bad files image_name name line tells good (OfScript opening kept bad) = good_is_not_bad Marked files name line tells good.script bad

-- one of some files
good_here : (files : FilesState) (before : List (List ℕ)) (name : List ℕ) (after : List (List ℕ)) → All (GoodScript Unmarked files) (before ++ name ∷ after) → GoodScript Unmarked files name
good_here files [] name after all = All-head (GoodScript Unmarked files) name after all
good_here files (first ∷ before) name after all = good_here files before name after (All-tail (GoodScript Unmarked files) first (before ++ name ∷ after) all)

threads_are_not_bad : (files : FilesState) (image_name : List ℕ) (names : List (List ℕ)) (line : List ℕ) → IsTrue files.tells → GoodThreads files image_name names → BadThreads files image_name names line → ⊥
threads_are_not_bad files image_name names line tells good (OfThreadsImage bad) = image_is_not_bad files image_name line tells good.kept bad
threads_are_not_bad files image_name names line tells good (OfProgram opening kept bad) =
    good_is_not_bad Unmarked files bad.name line tells
    (good_here files bad.before bad.name bad.after (subst (All (GoodScript Unmarked files)) bad.split good.programs)) bad.bad

free_is_not_taken : (file : Option File) → file ≡ None → IsSome file → ⊥
free_is_not_taken None free there = cc
free_is_not_taken (Some file) free there = cc

-- the same of every command
input_is_not_bad : (command : Command) (files : FilesState) (line : List ℕ) → IsTrue files.tells → HasInput command files → IsBadInput command files line → ⊥
input_is_not_bad (Init image blocks) files line tells good bad = free_is_not_taken (files.folder image) good (bad.there tells)
input_is_not_bad (RunScript file) files line tells good bad = good_is_not_bad Marked files file line tells good bad
input_is_not_bad (RunScriptOn image file) files line tells good bad = pair_is_not_bad files image file line tells good bad
input_is_not_bad (RunThreads image names) files line tells good bad = threads_are_not_bad files image names line tells good bad
input_is_not_bad (RemoveOrphans image options) files line tells good bad = image_is_not_bad files image line tells good bad
input_is_not_bad (ListObjects image) files line tells good bad = image_is_not_bad files image line tells good bad
input_is_not_bad (UnlinkObject image oid) files line tells good bad = image_is_not_bad files image line tells good bad

not_said : (words : List (List ℕ)) (files : FilesState) (line : List ℕ) → IsRunnable words files → IsInputLine words files line → ⊥
not_said words files line runnable bad =
    let command : bad.command ≡ runnable.command = same_some bad.command runnable.command (sym bad.is ∙ runnable.is) in
    input_is_not_bad runnable.command files line runnable.tells runnable.input (subst (λ (given : Command). IsBadInput given files line) command bad.bad)

-- a command that has all it needs is done, or memory is wanting
pub completes : (words : List (List ℕ)) (before after : Outside) (status : Status) → Leaves words before after status → IsRunnable words before.files → (Failing before after → ⊥) → EndsWell status
completes words before after status (LeavesDone is done whole) runnable none = Completed is
completes words before after status (LeavesUsage is usage whole) runnable none = absurd (none_is_not_some runnable.command (sym usage.no_command ∙ runnable.is))
completes words before after status (LeavesInput is input whole) runnable none = absurd (not_said words before.files input.line runnable input.bad)
completes words before after status (LeavesRefused is refused whole) runnable none = WasRefused is
completes words before after status (LeavesFault is fault) runnable none = absurd (none fault.cause)
completes words before after status (LeavesNoMemory is wants whole) runnable none = WantsMemory is
