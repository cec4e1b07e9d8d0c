-- The file of a script: what its run prints and leaves, and why it may be of no use.
use Rattle.std.specs.Prelude.{◌≡◌, ℕ, ◌<◌, ◌≤◌, List, [], length, Some, None, IsTrue}
use Rattle.lo_image.specs.Image.{image}
use Rattle.lo_base.specs.declared.request.Request.{Request}
use Rattle.lo_machine.specs.declared.running.Finished.{Finished}
use Rattle.lo_machine.specs.Committed.{committed_opening}
use Rattle.lo_machine.specs.Run.{IsWholeFrom, Moment, end_from, replies_from, schedule_from, start_from}
use Rattle.lo_model.specs.Opening.{Opening}
use Rattle.lo_opening.specs.Meaning.{data_of, opening_of}
use Rattle.lo_opening.specs.Opening.{OpeningData}
use Rattle.lo_outside.specs.Files.{bytes_of}
use Rattle.lo_script.specs.ReplyText.{lines_of}
use Rattle.lo_script.specs.declared.script.Marking.{Marking}
use Rattle.lo_script.specs.declared.script.Marking.TheVariants.{Marked}
use Rattle.lo_script.specs.Script.{IsFirstBadBy, ScriptText, script_by, script_of}
use Rattle.lo_tool.specs.Command.{usual_blocks}
use Rattle.lo_tool.specs.Images.{BadImage, GoodImage, IsFree, IsKept, empty_data}
use Rattle.lo_tool.specs.Made.{Made, saved_under}
use Rattle.lo_tool.specs.Outside.{FilesState, IsRead, content}
use Rattle.lo_tool.specs.Texts.{line_about, missing, too_long, bad_line_text}

-- the most bytes of a script
abbrev pub most_bytes : ℕ
most_bytes = 67108864

-- the schedule of a script that is run on an opening, and where it ends
abbrev pub schedule_on : Opening → ScriptText → List ℕ
schedule_on opening script = schedule_from script.programs (start_from opening) script.order

abbrev pub end_on : Opening → ScriptText → Moment
end_on opening script = end_from script.programs (start_from opening) (schedule_on opening script)

-- A run of programs over a schedule, from an opening: its replies, and what is committed at its end.
pub record PlaysTo (opening : Opening) (programs : List (List Request)) (schedule : List ℕ) (end : Finished)
    : Type 0 where
  pub replies : end.replies ≡ replies_from programs (start_from opening) schedule
  pub left :
      opening_of end.opening
      ≡ committed_opening opening.blocks (end_from programs (start_from opening) schedule).state

-- A run of a script's bytes on an opening: they spell a script, whose schedule does every line of every session once and in
-- order; the text is the lines of the replies that the machine gives over that schedule, and what is left is what is committed at
-- its end.
pub record RunsTo (opening : Opening) (bytes text : List ℕ) (left : Opening) : Type 0 where
  pub script : ScriptText
  pub spells : script_of bytes ≡ Some script
  pub whole : IsWholeFrom script.programs (start_from opening) (schedule_on opening script)
  pub replies : text ≡ lines_of (replies_from script.programs (start_from opening) (schedule_on opening script))
  pub committed : left ≡ committed_opening opening.blocks (end_on opening script).state

-- the bytes of a file that is there and not too long
pub record IsReadWithin (files : FilesState) (name bytes : List ℕ) : Type 0 where
  pub read : IsRead files name bytes
  pub within : length bytes ≤ most_bytes

-- What `script - FILE` makes: the text of the file's run on an empty database. Nothing is saved.
pub record PrintsScript (files : FilesState) (name : List ℕ) (made : Made) : Type 0 where
  pub bytes : List ℕ
  pub read : IsReadWithin files name bytes
  pub left : Opening
  pub run : RunsTo (opening_of (empty_data usual_blocks)) bytes made.text left
  pub unsaved : made.saved ≡ None

-- What `script IMAGE FILE` makes: the text of the file's run on the database of the image, and the image of what is committed at
-- the end.
pub record SavesScript (files : FilesState) (image_name name : List ℕ) (made : Made) : Type 0 where
  pub opening : OpeningData
  pub kept : IsKept files image_name opening
  pub bytes : List ℕ
  pub read : IsReadWithin files name bytes
  pub left : Opening
  pub run : RunsTo (opening_of opening) bytes made.text left
  pub saved : made.saved ≡ Some (saved_under image_name (image (data_of left)))

-- What `init IMAGE` makes: no text, and the image of an empty database, where no file of the name is there.
pub record SavesEmpty (files : FilesState) (image_name : List ℕ) (blocks : ℕ) (made : Made) : Type 0 where
  pub free : IsFree files image_name
  pub quiet : made.text ≡ []
  pub saved : made.saved ≡ Some (saved_under image_name (image (empty_data blocks)))

-- A line says where some bytes are outside the grammar: at the first line that is, and the column of the first token there
-- that is not allowed. The lines of scripts are marked with their sessions, and those of programs are not.
pub record IsOutsideGrammar (marking : Marking) (name bytes line : List ℕ) : Type 0 where
  pub line_number : ℕ
  pub column : ℕ
  pub none : script_by marking bytes ≡ None
  pub first : IsFirstBadBy marking bytes line_number column
  pub said : line ≡ line_about name (bad_line_text line_number column)

-- Why a file is not read, with the line that says so: it is not there, or it is too long.
pub data IsUnread (files : FilesState) (name line : List ℕ) : Type 0 where
  Missing :
      (IsTrue files.tells → files.folder name ≡ None) → line ≡ line_about name missing →
      IsUnread files name line
  TooLong :
      (IsTrue files.tells → most_bytes < length (bytes_of (files.folder name))) →
      line ≡ line_about name too_long → IsUnread files name line

-- Why a file is no script that can be run, or no program: it is not read, or its bytes are outside the grammar.
pub data BadScript (marking : Marking) (files : FilesState) (name line : List ℕ) : Type 0 where
  Unread : IsUnread files name line → BadScript marking files name line
  OutsideGrammar :
      (bytes : List ℕ) → IsReadWithin files name bytes → IsOutsideGrammar marking name bytes line →
      BadScript marking files name line

-- a file that tells a script or a program: it is there, not too long and in the grammar
pub record GoodScript (marking : Marking) (files : FilesState) (name : List ℕ) : Type 0 where
  pub bytes : List ℕ
  pub script : ScriptText
  pub there : content (files.folder name) ≡ Some bytes
  pub within : length bytes ≤ most_bytes
  pub spells : script_by marking bytes ≡ Some script

-- Why one of the two files of `script IMAGE FILE` cannot be used. The script is looked at where the image can be used.
pub data BadPair (files : FilesState) (image_name name line : List ℕ) : Type 0 where
  OfImage : BadImage files image_name line → BadPair files image_name name line
  OfScript :
      (opening : OpeningData) → IsKept files image_name opening → BadScript Marked files name line →
      BadPair files image_name name line

-- both can be used
pub record GoodPair (files : FilesState) (image_name name : List ℕ) : Type 0 where
  pub kept : GoodImage files image_name
  pub script : GoodScript Marked files name
