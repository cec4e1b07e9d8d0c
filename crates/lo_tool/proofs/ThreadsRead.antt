-- Programs of files, read one after the other.
use Rattle.std.proofs.Common.{◌≡◌, ◌≤◌, ◌<◌, ◌+◌, ◌-◌, ℕ, suc, List, [], ◌∷◌, ◌++◌, Option, Some, None, length, replicate, refl, ap, sym, subst, ◌∙◌, arith, append_assoc, length-append, get_or, take, drop, Ok, Err}
use Rattle.std.specs.Prelude.{IfErr, Result, slice_set, option_map}
use Rattle.std.specs.Result.{IsErrAnd}
use Rattle.std.proofs.lemmas.List.{drop_more, length-take, take-append-drop, take_more}
use Rattle.std.proofs.Math.Seq.{set-append_seam}
use Rattle.lo_base.specs.declared.request.Request.{Request}
use Rattle.lo_machine.specs.Program.{program_of}
use Rattle.lo_script.specs.declared.script.Marking.TheVariants.{Unmarked}
use Rattle.lo_script.specs.Script.{ScriptText, program_in, script_by}
use Rattle.lo_tool.specs.declared.stop.Stop.{Stop}
use Rattle.lo_tool.specs.Outside.{FilesState}
use Rattle.lo_tool.specs.Reading.{IsStop}
use Rattle.lo_tool.specs.ScriptFile.{BadScript}
use Rattle.lo_tool.specs.Threads.{AreProgramsIn, HasBadProgram, IsProgramIn, with_others}
use Rattle.lo_tool.specs.ThreadsWork.{HasRead}
use Rattle.lo_tool.proofs.Stops.{same_state, stop_weaker}

-- a text that spells no program spells no script
no_script : (script : Option ScriptText) → option_map (λ (s : ScriptText). program_of s.programs 1) script ≡ None → script ≡ None
no_script None none = refl
no_script (Some script) none = cc

pub no_program : (text : List ℕ) → program_in text ≡ None → script_by Unmarked text ≡ None
no_program text none = no_script (script_by Unmarked text) none

as_many : (files : FilesState) (names : List (List ℕ)) (programs : List (List Request)) → AreProgramsIn files names programs → length programs ≡ length names
as_many files [] [] are = refl
as_many files [] (program ∷ programs) are = absurd are
as_many files (name ∷ names) [] are = absurd are
as_many files (name ∷ names) (program ∷ programs) are = ap (λ (n : ℕ). suc n) (as_many files names programs are.1)

are_more : (files : FilesState) (names : List (List ℕ)) (name : List ℕ) (programs : List (List Request)) (program : List Request) → AreProgramsIn files names programs → IsProgramIn files name program → AreProgramsIn files (names ++ name ∷ []) (programs ++ program ∷ [])
are_more files [] name [] program are is = (is, tt)
are_more files [] name (first ∷ programs) program are is = absurd are
are_more files (here ∷ names) name [] program are is = absurd are
are_more files (here ∷ names) name (first ∷ programs) program are is = (are.0, are_more files names name programs program are.1 is)

empty_next : (n k : ℕ) → n ≡ suc k → replicate {A = List Request} n [] ≡ [] ∷ replicate k []
empty_next n k is = ap (λ (m : ℕ). replicate {A = List Request} m []) is

-- the next program stands in the place of the first empty one
filled_more : (read : List (List Request)) (program : List Request) → length read < 16 → slice_set (with_others read) (length read) program ≡ with_others (read ++ program ∷ [])
filled_more read program below =
    let k : ℕ = 15 - length read in
    let next : replicate {A = List Request} (16 - length read) [] ≡ [] ∷ replicate k [] = empty_next (16 - length read) k (omega (arith, below)) in
    let last : k ≡ 16 - length (read ++ program ∷ []) = omega (arith, below, length-append read (program ∷ [])) in
    ap (λ (rest : List (List Request)). slice_set (read ++ rest) (length read) program) next
    ∙ set-append_seam read [] (replicate k []) program
    ∙ ap (λ (m : ℕ). read ++ program ∷ replicate {A = List Request} m []) last
    ∙ sym (append_assoc read (program ∷ []) (replicate (16 - length (read ++ program ∷ [])) []))

-- one program more
one_read : (old mid new : FilesState) (names : List (List ℕ)) (name : List ℕ) (now : List (List Request)) (place : ℕ) (program : List Request) → HasRead old mid names now → place ≡ length names → place < 16 → IsProgramIn mid name program → new.tells ≡ mid.tells → new.folder ≡ mid.folder → new.faults ≡ mid.faults → HasRead old new (names ++ name ∷ []) (slice_set now place program)
one_read old mid new names name now place program has at below is tells folder count =
    let read : List (List Request) = has.so_far.programs in
    let long : place ≡ length read = at ∙ sym (as_many old names read has.so_far.are) in
    record {
      so_far = record {
        programs = read ++ program ∷ [];
        are = are_more old names name read program has.so_far.are (subst (λ (state : FilesState). IsProgramIn state name program) (same_state old mid has.same has.files has.count) is);
        filled =
            ap (λ (before : List (List Request)). slice_set before place program) has.so_far.filled
            ∙ ap (λ (n : ℕ). slice_set (with_others read) n program) long
            ∙ filled_more read program (subst (λ (n : ℕ). n < 16) long below);
      };
      same = tells ∙ has.same;
      files = folder ∙ has.files;
      count = count ∙ has.count;
    }

-- a file that is no program, behind those that are
bad_here : (old mid : FilesState) (names before : List (List ℕ)) (name : List ℕ) (after : List (List ℕ)) (now : List (List Request)) → HasRead old mid before now → names ≡ before ++ name ∷ after → (stop : Stop) → IsStop (BadScript Unmarked mid name) stop → IsStop (HasBadProgram old names) stop
bad_here old mid names before name after now has split =
    stop_weaker (BadScript Unmarked mid name) (HasBadProgram old names) (λ line bad. record {
      before = before;
      name = name;
      after = after;
      split = split;
      programs = has.so_far.programs;
      usable = has.so_far.are;
      bad = subst (λ (state : FilesState). BadScript Unmarked state name line) (same_state old mid has.same has.files has.count) bad;
    })

-- the same at a place of the files' names
module _ (old mid : FilesState) (names : List (List ℕ)) (place : ℕ) (name : List ℕ) (now : List (List Request)) (has : HasRead old mid (take place names) now) (within : place < length names) (is : name ≡ get_or names place []) where
  pub next_read : (new : FilesState) (s : ℕ) (next : List (List Request)) (program : List Request) → length names ≤ 16 → s ≡ place + 1 → next ≡ slice_set now (s - 1) program → IsProgramIn mid name program → new.tells ≡ mid.tells → new.folder ≡ mid.folder → new.faults ≡ mid.faults → HasRead old new (take (place + 1) names) next
  next_read new s next program few number set spells tells folder count =
      let long : place ≡ length (take place names) = omega (arith, within, length-take place names) in
      let here : s - 1 ≡ place = omega (arith, number) in
      let more : take (place + 1) names ≡ take place names ++ name ∷ [] = take_more names place [] within ∙ ap (λ (x : List ℕ). take place names ++ x ∷ []) (sym is) in
      let filled : next ≡ slice_set now place program = set ∙ ap (λ (n : ℕ). slice_set now n program) here in
      subst (λ (xs : List (List ℕ)). HasRead old new xs next) (sym more)
      (subst (HasRead old new (take place names ++ name ∷ [])) (sym filled)
      (one_read old mid new (take place names) name now place program has long (omega (arith, within, few)) spells tells folder count))

  pub bad_next : (stop : Stop) → IsStop (BadScript Unmarked mid name) stop → IsStop (HasBadProgram old names) stop
  bad_next =
      bad_here old mid names (take place names) name (drop (place + 1) names) now has
      (sym (take-append-drop place names)
      ∙ ap (λ (rest : List (List ℕ)). take place names ++ rest) (drop_more names place [] within ∙ ap (λ (x : List ℕ). x ∷ drop (place + 1) names) (sym is)))

-- a stop that is handed on
pub stopped_as : {T : Type 0} (P : Stop → Type 0) (result : Result T Stop) (stop : Stop) → IsErrAnd result (λ e. e ≡ stop) → P stop → IfErr result P
stopped_as P (Ok made) stop same is = tt
stopped_as P (Err e) stop same is = subst P (sym same) is
