-- Worked examples of scripts with clean-ups, each computed by the checker: a wrong one fails the crate.
use Rattle.std.proofs.Common.{◌≡◌, List, [], ◌∷◌, Some, None, true, false, refl, replicate}
use Rattle.std.specs.Prelude.{codes}
use Rattle.std.specs.Fmt.{digits}
use Rattle.lo_base.specs.declared.request.Request.{Request}
use Rattle.lo_base.specs.declared.request.Request.TheVariants.{Begin, Vacuumlo, Step, Finish}
use Rattle.lo_script.specs.Reading.{Read, BadAt}
use Rattle.lo_script.specs.Script.{IsFirstBad, AtEnd, entry_behind, script_of, script_with}

-- session 1 is inside a clean-up
abbrev inside : List (List Request)
inside = (Vacuumlo false 0 ∷ Step ∷ []) ∷ replicate 15 []

-- another session's line stands between
swept : script_of (codes "A: vacuumlo -n 7\nB: begin\nA: step\nA: finish\n")
    ≡ Some (script_with ((Vacuumlo true 7 ∷ Step ∷ Finish ∷ []) ∷ (Begin ∷ []) ∷ replicate 14 []) (1 ∷ 2 ∷ 1 ∷ 1 ∷ []))
unfolding digits
swept = refl

finish_missing : script_of (codes "A: vacuumlo 0\nA: step\n") ≡ None
unfolding digits
finish_missing = refl

-- skipped lines count, and the place is on the line after the last
place_of_a_missing_finish : IsFirstBad (codes "A: vacuumlo 0\n#\n") 3 1
unfolding digits
place_of_a_missing_finish = AtEnd (record {
  script = script_with ((Vacuumlo false 0 ∷ []) ∷ replicate 15 []) (1 ∷ []);
  allowed = refl;
  unfinished = refl;
  counted = refl;
  first = refl;
})

step_outside : entry_behind [] (codes "A: step 1") ≡ BadAt 4
step_outside = refl

step_inside : entry_behind inside (codes "A: step") ≡ Read (1, Step)
step_inside = refl

step_with_an_argument : entry_behind inside (codes "A: step 1") ≡ BadAt 9
step_with_an_argument = refl

step_of_another_session : entry_behind inside (codes "B: step") ≡ BadAt 4
step_of_another_session = refl

-- the word is outside the grammar, whatever follows it
other_word_inside : entry_behind inside (codes "A: lo_open x") ≡ BadAt 4
other_word_inside = refl

second_clean_up_inside : entry_behind inside (codes "A: vacuumlo 0") ≡ BadAt 4
second_clean_up_inside = refl

other_word_of_another_session : entry_behind inside (codes "B: begin") ≡ Read (2, Begin)
other_word_of_another_session = refl

highest_limit : entry_behind [] (codes "A: vacuumlo 2147483647") ≡ Read (1, Vacuumlo false 2147483647)
unfolding digits
highest_limit = refl

limit_too_high : entry_behind [] (codes "A: vacuumlo 2147483648") ≡ BadAt 13
unfolding digits
limit_too_high = refl

other_mark : entry_behind [] (codes "A: vacuumlo -x 5") ≡ BadAt 13
unfolding digits
other_mark = refl

limit_missing : entry_behind [] (codes "A: vacuumlo") ≡ BadAt 12
limit_missing = refl

limit_missing_behind_the_mark : entry_behind [] (codes "A: vacuumlo -n") ≡ BadAt 15
limit_missing_behind_the_mark = refl
