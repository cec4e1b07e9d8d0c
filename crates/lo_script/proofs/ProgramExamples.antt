-- Worked examples of programs, each computed by the checker: a wrong one fails the crate.
use Rattle.std.proofs.Common.{◌≡◌, [], ◌∷◌, Some, None, refl, replicate, true, false}
use Rattle.std.specs.Prelude.{codes}
use Rattle.std.specs.Fmt.{digits}
use Rattle.lo_base.specs.declared.request.Request.TheVariants.{Begin, Commit, LoCreate, Vacuumlo, Step, Finish}
use Rattle.lo_script.specs.declared.script.Marking.TheVariants.{Unmarked}
use Rattle.lo_script.specs.Reading.{BadAt}
use Rattle.lo_script.specs.Script.{IsFirstBadBy, AtEnd, InLine, empty_script, entry_by, program_in, script_by, script_with, with_entries, entries_by}

a_program : program_in (codes "begin\n# a note\n\nlo_create 7\r\ncommit") ≡ Some (Begin ∷ LoCreate 7 ∷ Commit ∷ [])
unfolding digits
a_program = refl

swept : script_by Unmarked (codes "vacuumlo -n 7\nstep\nfinish\n")
    ≡ Some (script_with ((Vacuumlo true 7 ∷ Step ∷ Finish ∷ []) ∷ replicate 15 []) (1 ∷ 1 ∷ 1 ∷ []))
unfolding digits
swept = refl

no_lines : program_in [] ≡ Some []
no_lines = refl

finish_missing : program_in (codes "vacuumlo 0\nstep\n") ≡ None
unfolding digits
finish_missing = refl

-- a mark is no word of a form
marked_line : entry_by Unmarked [] (codes "A: begin") ≡ BadAt 1
marked_line = refl

place_of_a_mark : IsFirstBadBy Unmarked (codes "begin\n\nA: commit\n") 3 1
place_of_a_mark = InLine (record {
  before = codes "begin" ∷ [] ∷ [];
  line = codes "A: commit";
  after = [];
  so_far = with_entries empty_script (entries_by 1 (Begin ∷ []));
  split = refl;
  counted = refl;
  allowed = refl;
  request = refl;
  bad = refl;
})

place_of_a_missing_finish : IsFirstBadBy Unmarked (codes "vacuumlo 0\n#\n") 3 1
unfolding digits
place_of_a_missing_finish = AtEnd (record {
  script = script_with ((Vacuumlo false 0 ∷ []) ∷ replicate 15 []) (1 ∷ []);
  allowed = refl;
  unfinished = refl;
  counted = refl;
  first = refl;
})
