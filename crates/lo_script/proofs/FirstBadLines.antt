-- The first line outside the grammar, from the lines that were read before it.
use Rattle.std.proofs.Common.{◌≡◌, ℕ, ◌+◌, List, [], ◌∷◌, ◌++◌, length, Some, None, true, false, refl, ap, sym, ◌∙◌, arith, append_assoc, append-nil, length-append}
use Rattle.std.specs.Str.Lines.{lines}
use Rattle.lo_base.specs.declared.request.Request.{Request}
use Rattle.lo_script.specs.Answer.{IsBad, NamesColumn, NamesFirstBadBy, in_line}
use Rattle.lo_script.specs.declared.error.LineError.{LineError}
use Rattle.lo_script.specs.declared.error.LineError.TheVariants as at_column
use Rattle.lo_script.specs.declared.error.ScriptError.{ScriptError}
use Rattle.lo_script.specs.declared.error.ScriptError.TheVariants.{Bad, NoMemory}
use Rattle.lo_script.specs.declared.script.Marking.{Marking}
use Rattle.lo_script.specs.Reading.{Read, BadAt}
use Rattle.lo_script.specs.Script.{ScriptText, IsFirstBadBy, InLine, AtEnd, empty_script, ends_in_sweep, entry_by, is_request_line, script_by, with_entry, with_line, with_lines}
use Rattle.lo_script.proofs.DecimalsAndBytes.{and_then-some, some_injective}

-- lines that are read are followed by others
pub lines-append : (marking : Marking) (script so_far : ScriptText) (before more : List (List ℕ)) → with_lines marking script before ≡ Some so_far → with_lines marking script (before ++ more) ≡ with_lines marking so_far more
lines-append marking script so_far [] more h = let same : script ≡ so_far = some_injective script so_far h in rw same refl
lines-append marking script so_far (line ∷ before) more h =
    let first = and_then-some (λ longer. with_lines marking longer before) (with_line marking script line) so_far h in
    rw first.1 (lines-append marking first.0 so_far before more first.2)

-- the script of some lines of a text, and those of `rest` are left
pub record ReadUpTo (marking : Marking) (text rest : List ℕ) (number : ℕ) (so_far : ScriptText) : Type 0 where
  pub before : List (List ℕ)
  pub split : lines text ≡ before ++ lines rest
  pub counted : number ≡ length before
  pub allowed : with_lines marking empty_script before ≡ Some so_far

pub nothing_read : (marking : Marking) (text : List ℕ) → ReadUpTo marking text text 0 empty_script
nothing_read marking text = record { before = []; split = refl; counted = refl; allowed = refl }

one_read : (marking : Marking) (text rest line after : List ℕ) (number : ℕ) (so_far longer : ScriptText) → ReadUpTo marking text rest number so_far → lines rest ≡ line ∷ lines after → with_line marking so_far line ≡ Some longer → ReadUpTo marking text after (number + 1) longer
one_read marking text rest line after number so_far longer h is read = record {
  before = h.before ++ line ∷ [];
  split = h.split ∙ ap (λ (ls : List (List ℕ)). h.before ++ ls) is ∙ sym (append_assoc h.before (line ∷ []) (lines after));
  counted = ap (λ (n : ℕ). n + 1) h.counted ∙ sym (length-append h.before (line ∷ []));
  allowed = lines-append marking empty_script so_far h.before (line ∷ []) h.allowed ∙ (rw read refl);
}

pub skipped_read : (marking : Marking) (text rest line after : List ℕ) (number : ℕ) (so_far : ScriptText) → ReadUpTo marking text rest number so_far → lines rest ≡ line ∷ lines after → is_request_line line ≡ false → ReadUpTo marking text after (number + 1) so_far
skipped_read marking text rest line after number so_far h is skipped = one_read marking text rest line after number so_far so_far h is (rw skipped refl)

pub entry_read : (marking : Marking) (text rest line after : List ℕ) (number : ℕ) (so_far : ScriptText) (entry : ℕ × Request) → ReadUpTo marking text rest number so_far → lines rest ≡ line ∷ lines after → is_request_line line ≡ true → entry_by marking so_far.programs line ≡ Read entry
    → ReadUpTo marking text after (number + 1) (with_entry so_far entry)
entry_read marking text rest line after number so_far entry h is request read = one_read marking text rest line after number so_far (with_entry so_far entry) h is (rw (request, read) refl)

pub bad_line : (marking : Marking) (text rest line after : List ℕ) (number column : ℕ) (so_far : ScriptText) → ReadUpTo marking text rest number so_far → lines rest ≡ line ∷ lines after → is_request_line line ≡ true → entry_by marking so_far.programs line ≡ BadAt column → IsFirstBadBy marking text (number + 1) column
bad_line marking text rest line after number column so_far h is request bad = InLine (record {
  before = h.before;
  line = line;
  after = lines after;
  so_far = so_far;
  split = h.split ∙ ap (λ (ls : List (List ℕ)). h.before ++ ls) is;
  counted = ap (λ (n : ℕ). n + 1) h.counted;
  allowed = h.allowed;
  request = request;
  bad = bad;
})

pub line_told : (marking : Marking) (text rest line after : List ℕ) (number : ℕ) (so_far : ScriptText) (e : LineError) → ReadUpTo marking text rest number so_far → lines rest ≡ line ∷ lines after → is_request_line line ≡ true → NamesColumn (entry_by marking so_far.programs line) e
    → NamesFirstBadBy marking text (in_line (number + 1) e)
line_told marking text rest line after number so_far (at_column.Bad column) h is request bad = bad_line marking text rest line after number column so_far h is request bad
line_told marking text rest line after number so_far at_column.NoMemory h is request bad = tt

-- Nothing is left to read

no_lines : (rest : List ℕ) → length rest ≡ 0 → lines rest ≡ []
no_lines [] none = refl
no_lines (b ∷ rest) none = absurd (omega (arith, none))

all_split : (marking : Marking) (text rest : List ℕ) (number : ℕ) (so_far : ScriptText) → length rest ≡ 0 → (h : ReadUpTo marking text rest number so_far) → lines text ≡ h.before
all_split marking text rest number so_far none h = h.split ∙ ap (λ (ls : List (List ℕ)). h.before ++ ls) (no_lines rest none) ∙ append-nil h.before

all_read : (marking : Marking) (text rest : List ℕ) (number : ℕ) (so_far : ScriptText) → length rest ≡ 0 → ReadUpTo marking text rest number so_far → with_lines marking empty_script (lines text) ≡ Some so_far
all_read marking text rest number so_far none h = ap (with_lines marking empty_script) (all_split marking text rest number so_far none h) ∙ h.allowed

pub script_read : (marking : Marking) (text rest : List ℕ) (number : ℕ) (so_far : ScriptText) → length rest ≡ 0 → ReadUpTo marking text rest number so_far → ends_in_sweep so_far.programs ≡ false → script_by marking text ≡ Some so_far
script_read marking text rest number so_far none h finished =
    let read = all_read marking text rest number so_far none h in
    rw (read, finished) refl

pub bad_end : (marking : Marking) (text rest : List ℕ) (number : ℕ) (so_far : ScriptText) → length rest ≡ 0 → ReadUpTo marking text rest number so_far → ends_in_sweep so_far.programs ≡ true → IsFirstBadBy marking text (number + 1) 1
bad_end marking text rest number so_far none h unfinished = AtEnd (record {
  script = so_far;
  allowed = all_read marking text rest number so_far none h;
  unfinished = unfinished;
  counted = ap (λ (n : ℕ). n + 1) (h.counted ∙ sym (ap (λ (ls : List (List ℕ)). length ls) (all_split marking text rest number so_far none h)));
  first = refl;
})

-- a text with a bad line spells no script
spells_none : (marking : Marking) (text : List ℕ) (number column : ℕ) → IsFirstBadBy marking text number column → script_by marking text ≡ None
spells_none marking text number column (InLine b) =
    let stops : with_lines marking empty_script (lines text) ≡ with_lines marking b.so_far (b.line ∷ b.after) =
    ap (with_lines marking empty_script) b.split ∙ lines-append marking empty_script b.so_far b.before (b.line ∷ b.after) b.allowed in
    rw (stops, b.request, b.bad) refl
spells_none marking text number column (AtEnd b) = rw (b.allowed, b.unfinished) refl

pub bad-none : (marking : Marking) (text : List ℕ) (e : ScriptError) → NamesFirstBadBy marking text e → IsBad e → script_by marking text ≡ None
bad-none marking text (Bad place) names bad = spells_none marking text place.line place.column names
bad-none marking text NoMemory names bad = absurd bad
