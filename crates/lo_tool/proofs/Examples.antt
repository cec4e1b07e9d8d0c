-- Worked cases of the definitions, each computed by the checker: a wrong one fails the crate.
use Rattle.std.proofs.Common.{◌≡◌, ℕ, ◌≤◌, zero, suc, refl, ap, sym, arith, ◌∙◌, pos, List, [], ◌∷◌, Some, None, replicate, length, lit≤}
use Rattle.std.proofs.lemmas.List.Elements.{All-replicate}
use native.Mathlib.Numerals.{unary_clauses}
use Rattle.std.specs.Prelude.{codes, slice_get, slice_index_or}
use Rattle.std.specs.Fmt.{digits}
use Rattle.lo_base.specs.declared.refusal.Cause.TheVariants.{NoObject}
use Rattle.lo_base.specs.declared.request.Request.{Request}
use Rattle.lo_base.specs.declared.request.Request.TheVariants.{LoCreate, LoGet}
use Rattle.lo_machine.specs.Program.{program_of}
use Rattle.lo_image.specs.declared.fault.Defect.TheVariants.{Short}
use Rattle.lo_machine.specs.Committed.{committed_opening}
use Rattle.lo_machine.specs.Run.{IsWholeFrom, next_line, replies_from, start_from}
use Rattle.lo_model.specs.Opening.{Opening}
use Rattle.lo_opening.specs.Meaning.{opening_of}
use Rattle.lo_script.specs.ReplyText.{lines_of}
use Rattle.lo_script.specs.Script.{ScriptText, script_with}
use Rattle.lo_tool.specs.Command.{Init, ListObjects, RunScript, RunScriptOn, UnlinkObject, command_of, usual_blocks}
use Rattle.lo_tool.specs.Images.{empty_data}
use Rattle.lo_tool.specs.Made.{new_name}
use Rattle.lo_tool.specs.Objects.{listed_object}
use Rattle.lo_tool.specs.ScriptFile.{RunsTo, end_on, schedule_on}
use Rattle.lo_tool.specs.Texts.{line_about, bad_image_text, bad_line_text, missing, refusal_line}

-- Words

a_script : command_of (codes "script" ∷ codes "-" ∷ codes "two.txt" ∷ []) ≡ Some (RunScript (codes "two.txt"))
a_script = refl

a_name_may_hold_a_dash : command_of (codes "script" ∷ codes "-" ∷ codes "a-b" ∷ []) ≡ Some (RunScript (codes "a-b"))
a_name_may_hold_a_dash = refl

no_words : command_of [] ≡ None
no_words = refl

no_file : command_of (codes "script" ∷ codes "-" ∷ []) ≡ None
no_file = refl

two_files : command_of (codes "script" ∷ codes "-" ∷ codes "a" ∷ codes "b" ∷ []) ≡ None
two_files = refl

an_option_is_no_file : command_of (codes "script" ∷ codes "-" ∷ codes "-n" ∷ []) ≡ None
an_option_is_no_file = refl

no_name_is_empty : command_of (codes "script" ∷ codes "-" ∷ [] ∷ []) ≡ None
no_name_is_empty = refl

a_script_on_an_image : command_of (codes "script" ∷ codes "photos" ∷ codes "a" ∷ []) ≡ Some (RunScriptOn (codes "photos") (codes "a"))
a_script_on_an_image = refl

a_new_image : command_of (codes "init" ∷ codes "photos" ∷ []) ≡ Some (Init (codes "photos") 65536)
a_new_image = refl

a_small_image : command_of (codes "init" ∷ codes "photos" ∷ codes "2" ∷ []) ≡ Some (Init (codes "photos") 2)
unfolding digits
a_small_image = refl

no_block : command_of (codes "init" ∷ codes "photos" ∷ codes "0" ∷ []) ≡ None
unfolding digits
no_block = refl

most_are_few : command_of (codes "init" ∷ codes "photos" ∷ codes "262145" ∷ []) ≡ None
unfolding digits
most_are_few = refl

a_leading_zero : command_of (codes "init" ∷ codes "photos" ∷ codes "02" ∷ []) ≡ None
unfolding digits
a_leading_zero = refl

no_number : command_of (codes "init" ∷ codes "photos" ∷ codes "two" ∷ []) ≡ None
unfolding digits
no_number = refl

a_list : command_of (codes "list" ∷ codes "photos" ∷ []) ≡ Some (ListObjects (codes "photos"))
a_list = refl

a_removal : command_of (codes "unlink" ∷ codes "photos" ∷ codes "7" ∷ []) ≡ Some (UnlinkObject (codes "photos") 7)
unfolding digits
a_removal = refl

no_object : command_of (codes "unlink" ∷ codes "photos" ∷ codes "-7" ∷ []) ≡ None
unfolding digits
no_object = refl

no_image : command_of (codes "init" ∷ []) ≡ None
no_image = refl

another_command : command_of (codes "scripts" ∷ codes "-" ∷ codes "a" ∷ []) ≡ None
another_command = refl

-- Lines on standard error

a_missing_file : line_about (codes "a") missing ≡ codes "lo_tool: a: no such file\n"
a_missing_file = refl

a_bad_line : line_about (codes "a") (bad_line_text 3 10) ≡ codes "lo_tool: a: line 3 column 10\n"
unfolding digits
a_bad_line = refl

a_bad_image : line_about (codes "db.img") (bad_image_text (record { offset = 30; kind = Short })) ≡ codes "lo_tool: db.img: bad image at 30: Short\n"
unfolding digits
a_bad_image = refl

a_refusal : refusal_line (record { cause = NoObject; subject = pos 7 }) ≡ codes "lo_tool: ERROR 42704: large object 7 does not exist\n"
unfolding digits
a_refusal = refl

a_listed_object : listed_object (record { oid = 7; bytes = codes "abc" }) ≡ codes "7 3\n"
unfolding digits
a_listed_object = refl

the_new_file : new_name (codes "db.img") ≡ codes "db.img.new"
the_new_file = refl

-- Runs

-- the empty database
usual : Opening
usual = opening_of (empty_data usual_blocks)

-- an object is made, and one that is not there is read
text : List ℕ
text = codes "A: lo_create 17000\nA: lo_get 5\n"

printed : List ℕ
printed = codes "A: 17000\nA: ERROR 42704: large object 5 does not exist\n"

programs : List (List Request)
programs = (LoCreate 17000 ∷ LoGet 5 (pos 0) None ∷ []) ∷ replicate 15 []

order : List ℕ
order = 1 ∷ 1 ∷ []

no_request : List Request
no_request = []

none_below_one : 1 ≤ 0 → ⊥
none_below_one h = omega (arith, h)

no_program : (n s : ℕ) → slice_index_or (replicate n no_request) s [] ≡ []
unfolding no_request
no_program zero s = refl
no_program (suc n) zero = refl
no_program (suc n) (suc s) = no_program n s

others : (s : ℕ) → program_of programs (suc (suc s)) ≡ []
unfolding programs no_request
others s = simp unary_clauses (no_program 15 s)

script : ScriptText
script = script_with programs order

none_left : (s : ℕ) → 1 ≤ s → next_line programs (end_on usual script) s ≡ None
unfolding programs order script usual no_request
none_left zero positive = absurd (none_below_one positive)
none_left (suc zero) positive = refl
none_left (suc (suc s)) positive =
    ap (λ (program : List Request). slice_get program ((end_on usual script).lines_done (suc (suc s)))) (others s)

whole : IsWholeFrom programs (start_from usual) (schedule_on usual script)
unfolding programs order script usual
whole = record {
  sessions = All-replicate (λ session. 1 ≤ session) 2 1 (lit≤ tt);
  playable = (refl, (refl, tt));
  complete = none_left;
}

left : Opening
left = committed_opening 65536 (end_on usual script).state

run_of_the_text : RunsTo usual text printed left
unfolding text printed programs order script usual left digits
run_of_the_text = record {
  script = script;
  spells = refl;
  whole = whole;
  replies = refl;
  committed = refl;
}

-- the object is what is saved, and the counter is where it was
left_objects : left.objects ≡ record { oid = 17000; bytes = [] } ∷ []
unfolding programs order script usual left
left_objects = refl

left_counter : left.counter ≡ 16384
unfolding programs order script usual left
left_counter = refl

-- the bytes of a script have one text on an opening
one_text : (opening : Opening) (bytes text text' : List ℕ) (left left' : Opening) → RunsTo opening bytes text left → RunsTo opening bytes text' left' → text ≡ text'
one_text opening bytes text text' left left' a b =
    let same : Some a.script ≡ Some b.script = sym a.spells ∙ b.spells in
    let script : a.script ≡ b.script = cc in
    a.replies ∙ ap (λ (script : ScriptText). lines_of (replies_from script.programs (start_from opening) (schedule_on opening script))) script ∙ sym b.replies

-- so a text that lacks its last line is that of no run
shorter_text : List ℕ
shorter_text = codes "A: 17000\n"

lacks_a_line : (other : Opening) → RunsTo usual text shorter_text other → ⊥
unfolding printed shorter_text
lacks_a_line other run =
    let same : length printed ≡ length shorter_text = ap (λ (xs : List ℕ). length xs) (one_text usual text printed shorter_text left other run_of_the_text run) in
    cc
