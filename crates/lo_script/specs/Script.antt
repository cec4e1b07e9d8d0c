-- A script: lines of requests, each marked with its session. A program: lines of requests of one session, which have no mark.
use Rattle.std.specs.Prelude.{◌≡◌, ℕ, ◌+◌, ◌-◌, ◌≤◌, ◌==◌, not, Bool, true, false, List, [], ◌∷◌, ◌++◌, length, map, replicate, slice_set, Option, Some, None, option_map, option_and_then, if◌then◌else◌}
use Rattle.std.specs.List.{list_any, range_with_len}
use Rattle.std.specs.Str.Lines.{lines}
use Rattle.lo_base.specs.declared.request.Request.{Request}
use Rattle.lo_machine.specs.Program.{IsProgram, program_of}
use Rattle.lo_script.specs.declared.script.Marking.{Marking}
use Rattle.lo_script.specs.declared.script.Marking.TheVariants.{Marked, Unmarked}
use Rattle.lo_script.specs.Form.{request_of}
use Rattle.lo_script.specs.Reader.{Reader, first_token}
use Rattle.lo_script.specs.Reading.{Reading, Read, BadAt, read_and, value_of}
use Rattle.lo_script.specs.SweepForm.{is_in_sweep}
use Rattle.lo_script.specs.Token.{tokens_of, session_of}

-- the programs of all sixteen sessions, from session 1 on, and the session of each request line, in the order of the lines
pub record ScriptText : Type 0 where
  pub programs : List (List Request)
  pub order : List ℕ

abbrev pub script_with : List (List Request) → (order : List ℕ) → ScriptText
script_with programs order = record { programs = programs; order = order }

-- an empty line is skipped, and so is a comment, which begins with `#`
abbrev pub is_request_line : (line : List ℕ) → Bool
is_request_line [] = false
is_request_line (b ∷ line) = not (b == 35)

abbrev pub request_by : (programs : List (List Request)) → (session : ℕ) → Reader (ℕ × Request)
request_by programs session column tokens =
    read_and (λ request. Read (session, request)) (request_of (is_in_sweep (program_of programs session)) column tokens)

-- The session and the request that a line's tokens spell behind programs. In a script they are the session's mark and the tokens of
-- a form that may stand there; in a program there is no mark, and each line is of session 1. This alone tells the two apart.
abbrev pub marked_by : Marking → (programs : List (List Request)) → Reader (ℕ × Request)
marked_by Marked programs = first_token session_of (request_by programs)
marked_by Unmarked programs = request_by programs 1

-- the session and the request of a line behind programs, or the column where it is outside the grammar
abbrev pub entry_by : Marking → (programs : List (List Request)) → (line : List ℕ) → Reading (ℕ × Request)
entry_by marking programs line = marked_by marking programs 1 (tokens_of line)

abbrev pub entry_behind : (programs : List (List Request)) → (line : List ℕ) → Reading (ℕ × Request)
entry_behind programs line = entry_by Marked programs line

-- a request goes to the end of its session's program, and its session to the end of the order
abbrev pub with_entry : ScriptText → ℕ × Request → ScriptText
with_entry script entry =
    script_with (slice_set script.programs (entry.0 - 1) (program_of script.programs entry.0 ++ entry.1 ∷ [])) (script.order ++ entry.0 ∷ [])

abbrev pub with_entries : ScriptText → List (ℕ × Request) → ScriptText
with_entries script [] = script
with_entries script (entry ∷ entries) = with_entries (with_entry script entry) entries

-- a script with one line added at its end: nothing where it is outside the grammar
abbrev pub with_line : Marking → ScriptText → (line : List ℕ) → Option ScriptText
with_line marking script line =
    if is_request_line line then option_map (with_entry script) (value_of (entry_by marking script.programs line)) else Some script

-- the same with lines, one after the other
abbrev pub with_lines : Marking → ScriptText → List (List ℕ) → Option ScriptText
with_lines marking script [] = Some script
with_lines marking script (line ∷ lines) = option_and_then (λ longer. with_lines marking longer lines) (with_line marking script line)

-- whether a session is inside a clean-up behind its last line
abbrev pub ends_in_sweep : (programs : List (List Request)) → Bool
ends_in_sweep programs = list_any (λ session. is_in_sweep (program_of programs session)) (range_with_len 1 16)

-- the script, if each clean-up in it has its finish
abbrev pub if_finished : ScriptText → Option ScriptText
if_finished script = if ends_in_sweep script.programs then None else Some script

abbrev pub empty_script : ScriptText
empty_script = script_with (replicate 16 []) []

-- The script that a text spells: nothing where it is outside the grammar. Lines end with a line feed, which the last may lack;
-- one carriage return before a line feed is no part of its line.
abbrev pub script_by : Marking → (text : List ℕ) → Option ScriptText
script_by marking text = option_and_then if_finished (with_lines marking empty_script (lines text))

abbrev pub script_of : (text : List ℕ) → Option ScriptText
script_of text = script_by Marked text

-- the program that a text spells whose lines have no marks
abbrev pub program_in : (text : List ℕ) → Option (List Request)
program_in text = option_map (λ script. program_of script.programs 1) (script_by Unmarked text)

-- A line is outside the grammar, and those before it are not. Lines are counted from 1, and those that are skipped count.
pub record IsBadLine (marking : Marking) (text : List ℕ) (number column : ℕ) : Type 0 where
  pub before : List (List ℕ)
  pub line : List ℕ
  pub after : List (List ℕ)
  pub so_far : ScriptText
  pub split : lines text ≡ before ++ line ∷ after
  pub counted : number ≡ length before + 1
  pub allowed : with_lines marking empty_script before ≡ Some so_far
  pub request : is_request_line line ≡ true
  pub bad : entry_by marking so_far.programs line ≡ BadAt column

-- No line is outside the grammar, but a clean-up lacks its finish. Its place is the first column of the line that is missing.
pub record IsBadEnd (marking : Marking) (text : List ℕ) (number column : ℕ) : Type 0 where
  pub script : ScriptText
  pub allowed : with_lines marking empty_script (lines text) ≡ Some script
  pub unfinished : ends_in_sweep script.programs ≡ true
  pub counted : number ≡ length (lines text) + 1
  pub first : column ≡ 1

-- where a text is first outside the grammar
pub data IsFirstBadBy (marking : Marking) (text : List ℕ) (number column : ℕ) : Type 0 where
  InLine : IsBadLine marking text number column → IsFirstBadBy marking text number column
  AtEnd : IsBadEnd marking text number column → IsFirstBadBy marking text number column

abbrev pub IsFirstBad : (text : List ℕ) → (number column : ℕ) → Type 0
IsFirstBad text number column = IsFirstBadBy Marked text number column

-- The clean-ups of a program stand as they must, and each has its finish.
pub record IsFinished (program : List Request) : Type 0 where
  pub sweeps : IsProgram program
  pub outside : is_in_sweep program ≡ false

-- session 1 alone has lines
abbrev pub IsAlone : (programs : List (List Request)) → Type 0
IsAlone programs = (session : ℕ) → 2 ≤ session → program_of programs session ≡ []

abbrev pub entries_by : (session : ℕ) → (program : List Request) → List (ℕ × Request)
entries_by session program = map (λ request. (session, request)) program

-- some text spells the script of one session that has these lines
pub record HasTextBy (marking : Marking) (session : ℕ) (program : List Request) : Type 0 where
  pub text : List ℕ
  pub spelled : script_by marking text ≡ Some (with_entries empty_script (entries_by session program))

abbrev pub HasText : (session : ℕ) → (program : List Request) → Type 0
HasText session program = HasTextBy Marked session program

-- some text spells the program
pub record HasProgramText (program : List Request) : Type 0 where
  pub text : List ℕ
  pub spelled : program_in text ≡ Some program
