-- The order of a script names each session once for each line of its program, and each clean-up in it has its finish.
use Rattle.std.proofs.Common.{◌≡◌, ◌≢◌, ℕ, zero, suc, ◌+◌, ◌-◌, ◌≤◌, ◌==◌, List, [], ◌∷◌, ◌++◌, length, replicate, Some, None, false, refl, ap, sym, ◌∙◌, inl, inr, cond, arith, length-append, length-set, subst}
use Rattle.std.specs.Prelude.{All, count_by, Option, option_map, slice_set, nat_lt}
use Rattle.std.specs.Str.Lines.{lines}
use Rattle.std.proofs.lemmas.Bool.{cases_eq}
use Rattle.std.proofs.lemmas.Bool.Decides.{nat_tests}
use Rattle.std.proofs.lemmas.List.{get_or-set_same, get_or-set_other, get_or-replicate, get_or_past}
use Rattle.std.proofs.lemmas.List.Sums.{sum_by-append}
use Rattle.std.proofs.lemmas.List.Elements.{All-nil, All-push}
use Rattle.lo_base.specs.declared.request.Request.{Request}
use Rattle.lo_machine.specs.Program.{IsProgram, program_of}
use Rattle.lo_machine.specs.Run.{IsOrderOf}
use Rattle.lo_script.specs.declared.script.Marking.{Marking}
use Rattle.lo_script.specs.Reading.{value_of}
use Rattle.lo_script.specs.Script.{ScriptText, IsFinished, empty_script, ends_in_sweep, entry_by, if_finished, is_request_line, script_by, with_entry, with_line, with_lines}
use Rattle.lo_script.specs.SweepForm.{is_in_sweep}
use Rattle.lo_script.proofs.DecimalsAndBytes.{tested, some_injective, and_then-some}
use Rattle.lo_script.proofs.Readers.{value_of-some}
use Rattle.lo_script.proofs.SpelledRequests.{ReadEntry, entry-spelled}
use Rattle.lo_script.proofs.SweepLines.{none_in, sweeps-push}

abbrev Entry : Type 0
Entry = ℕ × Request

-- sixteen programs, whose clean-ups stand as they must, and their order
record IsOrdered (script : ScriptText) : Type 0 where
  sixteen : length script.programs ≡ 16
  sessions : All (λ session. 1 ≤ session) script.order
  counted : (session : ℕ) → 1 ≤ session → length (program_of script.programs session) ≡ count_by (λ entry. entry == session) script.order
  sweeps : (session : ℕ) → 1 ≤ session → IsProgram (program_of script.programs session)

count_push : (s t : ℕ) (order : List ℕ) → count_by (λ entry. entry == s) (order ++ t ∷ []) ≡ count_by (λ entry. entry == s) order + cond (t == s) 1 0
count_push s t order = let e = sum_by-append (λ (u : ℕ). cond (u == s) 1 0) order (t ∷ []) in e ∙ ap (λ (n : ℕ). count_by (λ entry. entry == s) order + n) (omega arith)

grown_here : (programs : List (List Request)) (s : ℕ) (r : Request) → 1 ≤ s → s ≤ length programs
    → length (program_of (slice_set programs (s - 1) (program_of programs s ++ r ∷ [])) s) ≡ length (program_of programs s) + 1
grown_here programs s r low high =
    let same = get_or-set_same programs (s - 1) (program_of programs s ++ r ∷ []) [] (omega arith) in
    ap (λ (lines : List Request). length lines) same ∙ length-append (program_of programs s) (r ∷ [])

pub kept_elsewhere : (programs : List (List Request)) (s t : ℕ) (r : Request) → 1 ≤ s → 1 ≤ t → s ≢ t
    → program_of (slice_set programs (s - 1) (program_of programs s ++ r ∷ [])) t ≡ program_of programs t
kept_elsewhere programs s t r low-s low-t other = get_or-set_other programs (s - 1) (t - 1) (program_of programs s ++ r ∷ []) [] (λ e. other (omega arith))

counted_here : (script : ScriptText) (s : ℕ) (r : Request) → 1 ≤ s → s ≤ 16 → IsOrdered script
    → length (program_of (slice_set script.programs (s - 1) (program_of script.programs s ++ r ∷ [])) s) ≡ count_by (λ entry. entry == s) (script.order ++ s ∷ [])
counted_here script s r low high h =
    let n = cond {A = ℕ} (s == s) 1 0 in
    let one : n ≡ 1 = grind (arith, nat_tests) in
    let within : s ≤ length script.programs = rw h.sixteen high in
    omega (arith, grown_here script.programs s r low within, h.counted s low, count_push s s script.order, one)

counted_more : (script : ScriptText) (s : ℕ) (r : Request) → 1 ≤ s → s ≤ 16 → IsOrdered script → (t : ℕ) → 1 ≤ t
    → length (program_of (slice_set script.programs (s - 1) (program_of script.programs s ++ r ∷ [])) t) ≡ count_by (λ entry. entry == t) (script.order ++ s ∷ [])
counted_more script s r low high h t low-t = elim (cases_eq s t) [
  | inl same ↦ rw (← same) (counted_here script s r low high h)
  | inr other ↦
      let n = cond {A = ℕ} (s == t) 1 0 in
      let none : n ≡ 0 = grind (arith, nat_tests, other) in
      let kept = ap (λ (lines : List Request). length lines) (kept_elsewhere script.programs s t r low low-t other) in
      omega (arith, kept, h.counted t low-t, count_push t s script.order, none)
]

pub grows_at : (programs : List (List Request)) (s : ℕ) (r : Request) → 1 ≤ s → s ≤ length programs → program_of (slice_set programs (s - 1) (program_of programs s ++ r ∷ [])) s ≡ program_of programs s ++ r ∷ []
grows_at programs s r low high = get_or-set_same programs (s - 1) (program_of programs s ++ r ∷ []) [] (omega arith)

sweeps_more : (script : ScriptText) (entry : Entry) → ReadEntry script.programs entry → IsOrdered script → (t : ℕ) → 1 ≤ t → IsProgram (program_of (with_entry script entry).programs t)
sweeps_more script entry read h t low-t = elim (cases_eq entry.0 t) [
  | inl same ↦
      let grown = grows_at script.programs entry.0 entry.1 read.low (rw h.sixteen read.high) in
      let longer = sweeps-push false (program_of script.programs entry.0) entry.1 (h.sweeps entry.0 read.low) read.stands in
      rw (← same) (subst IsProgram (sym grown) longer)
  | inr other ↦ subst IsProgram (sym (kept_elsewhere script.programs entry.0 t entry.1 read.low low-t other)) (h.sweeps t low-t)
]

ordered_more : (script : ScriptText) (entry : Entry) → ReadEntry script.programs entry → IsOrdered script → IsOrdered (with_entry script entry)
ordered_more script entry read h = record {
  sixteen = rw length-set h.sixteen;
  sessions = All-push (λ s. 1 ≤ s) script.order entry.0 h.sessions read.low;
  counted = counted_more script entry.0 entry.1 read.low read.high h;
  sweeps = sweeps_more script entry read h;
}

pub no_lines : (session : ℕ) → program_of (replicate 16 []) session ≡ []
no_lines session = elim (tested (nat_lt (session - 1) 16)) [
  | inl within ↦ get_or-replicate 16 (session - 1) [] [] (grind (arith, nat_tests))
  | inr beyond ↦ get_or_past (replicate 16 []) (session - 1) [] (grind (arith, nat_tests))
]

nothing_ordered : IsOrdered empty_script
nothing_ordered = record {
  sixteen = refl;
  sessions = All-nil (λ session. 1 ≤ session);
  counted = λ session low. ap (λ (program : List Request). length program) (no_lines session);
  sweeps = λ session low. subst IsProgram (sym (no_lines session)) refl;
}

pub map-some : {A B : Type 0} (f : A → B) (o : Option A) (b : B) → option_map f o ≡ Some b → (a : A) × (o ≡ Some a) × (f a ≡ b)
map-some f None b h = cc h
map-some f (Some a) b h = (a, refl, some_injective (f a) b h)

ordered_line : (marking : Marking) (script longer : ScriptText) (line : List ℕ) → with_line marking script line ≡ Some longer → IsOrdered script → IsOrdered longer
ordered_line marking script longer line h ordered = elim (tested (is_request_line line)) [
  | inl request ↦
      let found = map-some (with_entry script) (value_of (entry_by marking script.programs line)) longer (rw request at h) in
      let read = entry-spelled marking script.programs line found.0 (value_of-some (entry_by marking script.programs line) found.0 found.1) in
      subst IsOrdered found.2 (ordered_more script found.0 read ordered)
  | inr skipped ↦ subst IsOrdered (some_injective script longer (rw skipped at h)) ordered
]

ordered_lines : (marking : Marking) (added : List (List ℕ)) (script longer : ScriptText) → with_lines marking script added ≡ Some longer → IsOrdered script → IsOrdered longer
ordered_lines marking [] script longer h ordered = subst IsOrdered (some_injective script longer h) ordered
ordered_lines marking (line ∷ added) script longer h ordered =
    let first = and_then-some (λ next. with_lines marking next added) (with_line marking script line) longer h in
    ordered_lines marking added first.0 longer first.2 (ordered_line marking script first.0 line first.1 ordered)

-- a script that was read whole
record IsReadWhole (script : ScriptText) : Type 0 where
  ordered : IsOrdered script
  finished : ends_in_sweep script.programs ≡ false

read_whole : (marking : Marking) (text : List ℕ) (script : ScriptText) → script_by marking text ≡ Some script → IsReadWhole script
read_whole marking text script h =
    let read = and_then-some if_finished (with_lines marking empty_script (lines text)) script h in
    let ordered = ordered_lines marking (lines text) empty_script read.0 read.1 nothing_ordered in
    elim (tested (ends_in_sweep read.0.programs)) [
      | inl unfinished ↦ let none = rw unfinished at read.2 in cc none
      | inr closed ↦ subst IsReadWhole (some_injective read.0 script (rw closed at read.2)) (record { ordered = ordered; finished = closed })
    ]

pub script-ordered : (marking : Marking) (text : List ℕ) (script : ScriptText) → script_by marking text ≡ Some script → IsOrderOf script.programs script.order
script-ordered marking text script h =
    let whole = read_whole marking text script h in
    record { sessions = whole.ordered.sessions; lines = whole.ordered.counted }

-- each session's clean-ups have their finish

finished_within : (script : ScriptText) → IsReadWhole script → (s : ℕ) → 1 ≤ s → IsFinished (program_of script.programs s)
finished_within script whole s low = elim (tested (nat_lt s 17)) [
  | inl within ↦ record {
    sweeps = whole.ordered.sweeps s low;
    outside = none_in (λ session. is_in_sweep (program_of script.programs session)) 1 16 whole.finished s low (grind (arith, nat_tests, within));
  }
  | inr beyond ↦
      let long : 17 ≤ s = grind (arith, nat_tests, beyond) in
      let none : program_of script.programs s ≡ [] = get_or_past script.programs (s - 1) [] (omega (arith, whole.ordered.sixteen, long)) in
      subst IsFinished (sym none) (record { sweeps = refl; outside = refl })
]

pub script-finished : (marking : Marking) (text : List ℕ) (script : ScriptText) → script_by marking text ≡ Some script → (s : ℕ) → IsFinished (program_of script.programs s)
script-finished marking text script h zero = finished_within script (read_whole marking text script h) 1 (omega arith)
script-finished marking text script h (suc s) = finished_within script (read_whole marking text script h) (suc s) (omega arith)
