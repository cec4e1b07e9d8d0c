-- What a command makes, from what its parts answered.
use Rattle.std.proofs.Common.{◌≡◌, ℕ, List, length, take, Option, Some, None, Ok, Err, refl, ap, subst, sym, ◌∙◌, arith}
use Rattle.std.specs.Prelude.{Result}
use Rattle.std.proofs.lemmas.List.{take_all}
use Rattle.std.specs.Result.{IsErr, IsErrAnd}
use Rattle.lo_opening.specs.Opening.{OpeningData}
use Rattle.lo_outside.specs.Files.{File, bytes_of, size_of}
use Rattle.lo_script.specs.declared.script.Marking.{Marking}
use Rattle.lo_script.specs.declared.script.Marking.TheVariants.{Marked}
use Rattle.lo_tool.specs.declared.made.Made.{Made as CodeMade}
use Rattle.lo_tool.specs.declared.stop.Stop.{Stop}
use Rattle.lo_tool.specs.declared.stop.Stop.TheVariants.{BadInput, Refused, Fault as Failed, NoMemory}
use Rattle.lo_tool.specs.Command.{Command}
use Rattle.lo_tool.specs.Commands.{IsBadInput}
use Rattle.lo_tool.specs.Images.{BadImage, IsKept}
use Rattle.lo_tool.specs.Outside.{FilesState, content}
use Rattle.lo_tool.specs.Reading.{IsCommandStop, IsStop, Makes}
use Rattle.lo_tool.specs.ScriptFile.{BadPair, BadScript, IsOutsideGrammar, IsReadWithin, IsUnread, OfImage, OfScript, OutsideGrammar, Unread}
use Rattle.lo_tool.specs.Threads.{BadThreads, HasBadProgram, OfProgram, OfThreadsImage}

-- files that did not change
pub same_state : (old new : FilesState) → new.tells ≡ old.tells → new.folder ≡ old.folder → new.faults ≡ old.faults → new ≡ old
same_state old new tells folder count = rw (← tells, ← folder, ← count) refl

-- a stop says what its line says
pub stop_weaker : (P Q : List ℕ → Type 0) → ((line : List ℕ) → P line → Q line) → (stop : Stop) → IsStop P stop → IsStop Q stop
stop_weaker P Q weaker (BadInput line) is = weaker line is
stop_weaker P Q weaker (Refused line) is = absurd is
stop_weaker P Q weaker Failed is = tt
stop_weaker P Q weaker NoMemory is = tt

pub bad_file : (marking : Marking) (files : FilesState) (name : List ℕ) (stop : Stop) → IsStop (IsUnread files name) stop → IsStop (BadScript marking files name) stop
bad_file marking files name = stop_weaker (IsUnread files name) (BadScript marking files name) (λ line. Unread)

pub bad_script : (files : FilesState) (name bytes : List ℕ) → IsReadWithin files name bytes → (stop : Stop) → IsStop (IsOutsideGrammar Marked name bytes) stop → IsStop (BadScript Marked files name) stop
bad_script files name bytes read = stop_weaker (IsOutsideGrammar Marked name bytes) (BadScript Marked files name) (λ line. OutsideGrammar bytes read)

pub bad_image : (files : FilesState) (image name : List ℕ) (stop : Stop) → IsStop (BadImage files image) stop → IsStop (BadPair files image name) stop
bad_image files image name = stop_weaker (BadImage files image) (BadPair files image name) (λ line. OfImage)

pub bad_second : (files : FilesState) (image name : List ℕ) (opening : OpeningData) → IsKept files image opening → (stop : Stop) → IsStop (BadScript Marked files name) stop → IsStop (BadPair files image name) stop
bad_second files image name opening kept = stop_weaker (BadScript Marked files name) (BadPair files image name) (λ line. OfScript opening kept)

pub bad_threads_image : (files : FilesState) (image : List ℕ) (names : List (List ℕ)) (stop : Stop) → IsStop (BadImage files image) stop → IsStop (BadThreads files image names) stop
bad_threads_image files image names = stop_weaker (BadImage files image) (BadThreads files image names) (λ line. OfThreadsImage)

pub bad_program : (files : FilesState) (image : List ℕ) (names : List (List ℕ)) (opening : OpeningData) → IsKept files image opening → (stop : Stop) → IsStop (HasBadProgram files names) stop → IsStop (BadThreads files image names) stop
bad_program files image names opening kept = stop_weaker (HasBadProgram files names) (BadThreads files image names) (λ line. OfProgram opening kept)

-- a stop over a file is one of the command
of_file : (command : Command) (files : FilesState) (stop : Stop) → IsStop (IsBadInput command files) stop → IsCommandStop command files stop
of_file command files (BadInput line) is = is
of_file command files (Refused line) is = absurd is
of_file command files Failed is = tt
of_file command files NoMemory is = tt

-- a command that stops makes nothing
pub stops : (command : Command) (files : FilesState) (result : Result CodeMade Stop) (stop : Stop) → IsErr result → IsErrAnd result (λ e. e ≡ stop) → IsCommandStop command files stop → Makes command files result
stops command files (Ok made) stop is same bad = cc
stops command files (Err e) stop is same bad = record { ok = tt; err = subst (IsCommandStop command files) (sym same) bad }

pub stopped : (command : Command) (files : FilesState) (result : Result CodeMade Stop) (stop : Stop) → IsErr result → IsErrAnd result (λ e. e ≡ stop) → IsStop (IsBadInput command files) stop → Makes command files result
stopped command files result stop is same bad = stops command files result stop is same (of_file command files stop bad)

-- a file that was read to the size that it told
pub content_read : (file : Option File) (size : ℕ) (bytes : List ℕ) → Some size ≡ size_of file → bytes ≡ take size (bytes_of file) → content file ≡ Some bytes
content_read None size bytes told read = cc
content_read (Some file) size bytes told read =
    let whole : size ≡ length file.bytes = cc in
    ap (λ (all : List ℕ). Some all) (sym (read ∙ take_all size file.bytes (omega (arith, whole))))
