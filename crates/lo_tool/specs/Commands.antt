-- What each command needs of its files, and what it makes of them. A new command is one more arm in each of these four.
use Rattle.std.specs.Prelude.{◌≡◌, ℕ, List, None}
use Rattle.lo_tool.specs.CleanUp.{CleansImage}
use Rattle.lo_script.specs.declared.script.Marking.TheVariants.{Marked}
use Rattle.lo_tool.specs.Command.{Command, Init, ListObjects, RemoveOrphans, RunScript, RunScriptOn, RunThreads, UnlinkObject}
use Rattle.lo_tool.specs.Images.{BadImage, GoodImage, IsTaken}
use Rattle.lo_tool.specs.Made.{Made}
use Rattle.lo_tool.specs.Objects.{ListsImage, RefusesUnlink, UnlinksObject}
use Rattle.lo_tool.specs.Outside.{FilesState}
use Rattle.lo_tool.specs.ScriptFile.{BadPair, BadScript, GoodPair, GoodScript, PrintsScript, SavesEmpty, SavesScript}
use Rattle.lo_tool.specs.Threads.{BadThreads, GoodThreads, SavesThreads}

-- what the command makes
abbrev pub IsMadeBy : Command → FilesState → Made → Type 0
IsMadeBy (Init image blocks) files made = SavesEmpty files image blocks made
IsMadeBy (RunScript file) files made = PrintsScript files file made
IsMadeBy (RunScriptOn image file) files made = SavesScript files image file made
IsMadeBy (RunThreads image names) files made = SavesThreads files image names made
IsMadeBy (RemoveOrphans image options) files made = CleansImage files image options made
IsMadeBy (ListObjects image) files made = ListsImage files image made
IsMadeBy (UnlinkObject image oid) files made = UnlinksObject files image oid made

-- the line that says why a file of the command cannot be used, the first such in the order of the words
abbrev pub IsBadInput : Command → FilesState → (line : List ℕ) → Type 0
IsBadInput (Init image blocks) files line = IsTaken files image line
IsBadInput (RunScript file) files line = BadScript Marked files file line
IsBadInput (RunScriptOn image file) files line = BadPair files image file line
IsBadInput (RunThreads image names) files line = BadThreads files image names line
IsBadInput (RemoveOrphans image options) files line = BadImage files image line
IsBadInput (ListObjects image) files line = BadImage files image line
IsBadInput (UnlinkObject image oid) files line = BadImage files image line

-- the line that says which reply that the command rests on is a refusal. Replies of scripts and programs are no such, and no
-- request of a clean-up that is alone is refused
abbrev pub IsRefusal : Command → FilesState → (line : List ℕ) → Type 0
IsRefusal (Init image blocks) files line = ⊥
IsRefusal (RunScript file) files line = ⊥
IsRefusal (RunScriptOn image file) files line = ⊥
IsRefusal (RunThreads image names) files line = ⊥
IsRefusal (RemoveOrphans image options) files line = ⊥
IsRefusal (ListObjects image) files line = ⊥
IsRefusal (UnlinkObject image oid) files line = RefusesUnlink files image oid line

-- every file that the command needs can be used, and no file is there that must not be
abbrev pub HasInput : Command → FilesState → Type 0
HasInput (Init image blocks) files = files.folder image ≡ None
HasInput (RunScript file) files = GoodScript Marked files file
HasInput (RunScriptOn image file) files = GoodPair files image file
HasInput (RunThreads image names) files = GoodThreads files image names
HasInput (RemoveOrphans image options) files = GoodImage files image
HasInput (ListObjects image) files = GoodImage files image
HasInput (UnlinkObject image oid) files = GoodImage files image
