-- What is read from lines that have no marks is of session 1 alone.
use Rattle.std.proofs.Common.{◌≡◌, ℕ, List, [], ◌∷◌, Some, ap, sym, ◌∙◌, inl, inr, subst, arith}
use Rattle.std.specs.Str.Lines.{lines}
use Rattle.lo_base.specs.declared.request.Request.{Request}
use Rattle.lo_machine.specs.Program.{program_of}
use Rattle.lo_script.specs.declared.script.Marking.TheVariants.{Unmarked}
use Rattle.lo_script.specs.Form.{request_of}
use Rattle.lo_script.specs.Reading.{Read, value_of}
use Rattle.lo_script.specs.Script.{IsAlone, ScriptText, empty_script, ends_in_sweep, entry_by, if_finished, is_request_line, script_by, with_entry, with_line, with_lines}
use Rattle.lo_script.specs.SweepForm.{is_in_sweep}
use Rattle.lo_script.specs.Token.{tokens_of}
use Rattle.lo_script.proofs.DecimalsAndBytes.{and_then-some, some_injective, tested}
use Rattle.lo_script.proofs.Readers.{read_and-some, read_injective, value_of-some}
use Rattle.lo_script.proofs.ScriptOrder.{kept_elsewhere, map-some, no_lines}

entry-of_first : (programs : List (List Request)) (line : List ℕ) (entry : ℕ × Request) → entry_by Unmarked programs line ≡ Read entry → entry.0 ≡ 1
entry-of_first programs line entry h =
    let m = read_and-some (λ request. Read (1, request)) (request_of (is_in_sweep (program_of programs 1)) 1 (tokens_of line)) entry h in
    sym (ap (λ (e : ℕ × Request). e.0) (read_injective (1, m.0) entry m.2))

alone_more : (script : ScriptText) (entry : ℕ × Request) → entry.0 ≡ 1 → IsAlone script.programs → IsAlone (with_entry script entry).programs
alone_more script entry first alone t low =
    kept_elsewhere script.programs entry.0 t entry.1 (omega (arith, first)) (omega (arith, low)) (λ e. absurd (omega (arith, first, low, e)))
    ∙ alone t low

alone_line : (script longer : ScriptText) (line : List ℕ) → with_line Unmarked script line ≡ Some longer → IsAlone script.programs → IsAlone longer.programs
alone_line script longer line h alone = elim (tested (is_request_line line)) [
  | inl request ↦
      let found = map-some (with_entry script) (value_of (entry_by Unmarked script.programs line)) longer (rw request at h) in
      let first = entry-of_first script.programs line found.0 (value_of-some (entry_by Unmarked script.programs line) found.0 found.1) in
      subst (λ (s : ScriptText). IsAlone s.programs) found.2 (alone_more script found.0 first alone)
  | inr skipped ↦ subst (λ (s : ScriptText). IsAlone s.programs) (some_injective script longer (rw skipped at h)) alone
]

alone_lines : (added : List (List ℕ)) (script longer : ScriptText) → with_lines Unmarked script added ≡ Some longer → IsAlone script.programs → IsAlone longer.programs
alone_lines [] script longer h alone = subst (λ (s : ScriptText). IsAlone s.programs) (some_injective script longer h) alone
alone_lines (line ∷ added) script longer h alone =
    let first = and_then-some (λ next. with_lines Unmarked next added) (with_line Unmarked script line) longer h in
    alone_lines added first.0 longer first.2 (alone_line script first.0 line first.1 alone)

pub alone_read : (text : List ℕ) (script : ScriptText) → script_by Unmarked text ≡ Some script → IsAlone script.programs
alone_read text script h =
    let read = and_then-some if_finished (with_lines Unmarked empty_script (lines text)) script h in
    let alone = alone_lines (lines text) empty_script read.0 read.1 (λ t low. no_lines t) in
    elim (tested (ends_in_sweep read.0.programs)) [
      | inl unfinished ↦ let none = rw unfinished at read.2 in cc none
      | inr closed ↦ subst (λ (s : ScriptText). IsAlone s.programs) (some_injective read.0 script (rw closed at read.2)) alone
    ]
