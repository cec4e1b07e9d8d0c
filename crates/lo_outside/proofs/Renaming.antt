-- What a file's other name does to the files of a folder in memory: the file is taken out, named anew, and put in place of the
-- file of that name, or added at the end.
use Rattle.std.proofs.Common.{◌≡◌, ◌≢◌, ◌+◌, ◌-◌, ◌<◌, ◌≤◌, ℕ, suc, List, [], ◌∷◌, ◌++◌, Bool, true, false, refl, sym, ap, ◌∙◌, Option, Some, None, map, find, length, set, get_or, length-set, length-append, arith, position, Decides}
use Rattle.std.specs.Prelude.{◌&&◌, not, is_some, if◌then◌else◌}
use Rattle.std.specs.Option.{option_map}
use Rattle.std.specs.List.{count_by, remove}
use Rattle.std.specs.Str.{bytes_eq}
use Rattle.std.proofs.lemmas.Bool.{true≢false, false≢true}
use Rattle.std.proofs.lemmas.Option.{none-some}
use Rattle.std.proofs.lemmas.List.{length-map}
use Rattle.std.proofs.lemmas.List.Edits.{length-remove}
use Rattle.std.proofs.lemmas.Slice.Eq.{bytes_eq-Decides}
use Rattle.lo_outside.specs.FaultPlan.{Planned}
use Rattle.lo_outside.specs.MemFiles.{Moves, file_named}
use Rattle.lo_outside.specs.Place.{Held, named_of, has_name, file_in}
use Rattle.lo_outside.proofs.FilesByName.{found}
use Rattle.lo_outside.proofs.SettingBytes.{first_of, passes_at, at_position, no_find, no_position, refilled_there, refilled_others, pushed_there, pushed_others, fails_by}
use Rattle.lo_outside.proofs.NamesOnce.{removed_find, other_find}

-- what is known of the list and of the file that is taken out and named anew
pub record TakesOut (old : List Held) (i : ℕ) (taken place : Held) (from to : List ℕ) : Type 0 where
  pub single : (name : List ℕ) → count_by (has_name name) old ≤ 1
  pub at : Some i ≡ position (has_name from) old
  pub called : place.named.name ≡ to
  pub was : taken ≡ get_or old i taken
  pub file : place.named.file ≡ taken.named.file

from_gone : (old : List Held) (i : ℕ) (taken place : Held) (from to : List ℕ) → TakesOut old i taken place from to → find (has_name from) (remove old i) ≡ None
from_gone old i taken place from to takes =
    removed_find old i taken from (first_of from old i takes.at).1 (passes_at from old i taken takes.at) takes.single

kept : (old : List Held) (i : ℕ) (taken place : Held) (from to other : List ℕ) → TakesOut old i taken place from to → other ≢ from → file_named other (map named_of (remove old i)) ≡ file_named other (map named_of old)
kept old i taken place from to other takes differs =
    let is : (get_or old i taken).named.name ≡ from = (bytes_eq-Decides _ from).0 (passes_at from old i taken takes.at) in
    let fails : has_name other (get_or old i taken) ≡ false = fails_by _ (bytes_eq-Decides _ other) (λ e. differs (sym e ∙ is)) in
    found other (remove old i) ∙ ap (option_map file_in) (other_find old i taken other (first_of from old i takes.at).1 fails) ∙ sym (found other old)

gone_from : (old : List Held) (i : ℕ) (taken place : Held) (from to : List ℕ) → TakesOut old i taken place from to → file_named from (map named_of (remove old i)) ≡ None
gone_from old i taken place from to takes = found from (remove old i) ∙ ap (option_map file_in) (from_gone old i taken place from to takes)

passes_to : (old : List Held) (i : ℕ) (taken place : Held) (from to : List ℕ) → TakesOut old i taken place from to → has_name to place ≡ true
passes_to old i taken place from to takes = (bytes_eq-Decides place.named.name to).1 takes.called

fails_other : (old : List Held) (i : ℕ) (taken place : Held) (from to other : List ℕ) → TakesOut old i taken place from to → other ≢ to → has_name other place ≡ false
fails_other old i taken place from to other takes differs = fails_by _ (bytes_eq-Decides place.named.name other) (λ e. differs (sym e ∙ takes.called))

over_count : (there same : Bool) (old new : ℕ) → there ≡ true → same ≡ false → new + 1 ≡ old → new ≡ (if there && not same then old - 1 else old)
over_count true false old new a b one = omega (arith, one)
over_count true true old new a b one = absurd (true≢false b)
over_count false false old new a b one = absurd (false≢true a)
over_count false true old new a b one = absurd (false≢true a)

end_count : (there same : Bool) (old new : ℕ) → (same ≡ false → there ≡ false) → new ≡ old → new ≡ (if there && not same then old - 1 else old)
end_count true false old new a e = absurd (true≢false (a refl))
end_count true true old new a e = e
end_count false false old new a e = e
end_count false true old new a e = e

pub renamed_over : (old : List Held) (free before room : ℕ) (plan : Planned) (i j : ℕ) (taken place : Held) (from to : List ℕ) → TakesOut old i taken place from to → Some j ≡ position (has_name to) (remove old i) → free ≡ before + 1 → Moves (record { files = map named_of old; places = length old + before; room = room; plan = plan }) (record { files = map named_of (set (remove old i) j place); places = length (set (remove old i) j place) + free; room = room; plan = plan }) from to
renamed_over old free before room plan i j taken place from to takes over one_more =
    let passed : has_name to (get_or (remove old i) j place) ≡ true = passes_at to (remove old i) j place over in
    let same : place.named.name ≡ (get_or (remove old i) j place).named.name = takes.called ∙ sym ((bytes_eq-Decides (get_or (remove old i) j place).named.name to).0 passed) in
    let some : file_named to (map named_of (remove old i)) ≡ Some (get_or (remove old i) j place).named.file = at_position (remove old i) j place to over in
    let apart : to ≢ from = λ e. none-some _ (sym (gone_from old i taken place from to takes) ∙ ap (λ n. file_named n (map named_of (remove old i))) (sym e) ∙ some) in
    let long : length (remove old i) + 1 ≡ length old = length-remove old i (first_of from old i takes.at).1 in
    let kept_long : length (set (remove old i) j place) ≡ length (remove old i) = length-set (remove old i) j place in
    record {
      there = refilled_there (remove old i) j place to over (passes_to old i taken place from to takes) ∙ ap (λ f. Some f) takes.file ∙ ap (λ h. Some h.named.file) takes.was ∙ sym (at_position old i taken from takes.at);
      gone = λ differs. refilled_others (remove old i) j place place to from over same differs ∙ gone_from old i taken place from to takes;
      others = λ other not_from not_to. refilled_others (remove old i) j place place to other over same not_to ∙ kept old i taken place from to other takes not_from;
      count = rw (length-map (set (remove old i) j place) named_of, length-map old named_of) (over_count (is_some (file_named to (map named_of old))) (bytes_eq from to) (length old) (length (set (remove old i) j place)) (ap is_some (sym (kept old i taken place from to to takes apart) ∙ some)) (fails_by _ (bytes_eq-Decides from to) (λ e. apart (sym e))) (omega (arith, long, kept_long)));
      places = omega (arith, long, kept_long, one_more);
      room = refl;
      plan = refl;
    }

pub renamed_to_end : (old : List Held) (free room : ℕ) (plan : Planned) (i : ℕ) (taken place : Held) (from to : List ℕ) → TakesOut old i taken place from to → None ≡ position (has_name to) (remove old i) → Moves (record { files = map named_of old; places = length old + free; room = room; plan = plan }) (record { files = map named_of (remove old i ++ place ∷ []); places = length (remove old i ++ place ∷ []) + free; room = room; plan = plan }) from to
renamed_to_end old free room plan i taken place from to takes none =
    let long : length (remove old i) + 1 ≡ length old = length-remove old i (first_of from old i takes.at).1 in
    let kept_long : length (remove old i ++ place ∷ []) ≡ length (remove old i) + 1 = length-append (remove old i) (place ∷ []) in
    record {
      there = pushed_there (remove old i) place to (no_find (remove old i) to none) (passes_to old i taken place from to takes) ∙ ap (λ f. Some f) takes.file ∙ ap (λ h. Some h.named.file) takes.was ∙ sym (at_position old i taken from takes.at);
      gone = λ differs. pushed_others (remove old i) place from (fails_other old i taken place from to from takes differs) ∙ gone_from old i taken place from to takes;
      others = λ other not_from not_to. pushed_others (remove old i) place other (fails_other old i taken place from to other takes not_to) ∙ kept old i taken place from to other takes not_from;
      count = rw (length-map (remove old i ++ place ∷ []) named_of, length-map old named_of) (end_count (is_some (file_named to (map named_of old))) (bytes_eq from to) (length old) (length (remove old i ++ place ∷ [])) (λ apart. ap is_some (sym (kept old i taken place from to to takes (λ e. differ apart (sym e))) ∙ no_position (remove old i) to none)) (omega (arith, long, kept_long)));
      places = omega (arith, long, kept_long);
      room = refl;
      plan = refl;
    }
  where
    differ : bytes_eq from to ≡ false → from ≢ to
    differ apart e = absurd (false≢true (sym apart ∙ (bytes_eq-Decides from to).1 e))
