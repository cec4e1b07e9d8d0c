-- What the setting of a file does to the files of a folder in memory.
use Rattle.std.proofs.Common.{◌≡◌, ◌≢◌, ◌+◌, ◌≤◌, ◌<◌, ℕ, List, [], ◌∷◌, ◌++◌, Bool, true, false, refl, sym, ap, ◌∙◌, Option, Some, None, map, find, length, set, get_or, length-set, length-append, arith, position, Decides}
use Rattle.std.specs.Option.{option_map, option_or}
use Rattle.std.proofs.lemmas.Option.{slice_get_past}
use Rattle.std.specs.List.{position_or_len}
use Rattle.std.proofs.lemmas.List.{length-map, set-get_or}
use Rattle.std.proofs.lemmas.List.Folds.{find_at, find-set, find_past, find-append}
use Rattle.std.proofs.lemmas.List.Quantifiers.{position-Some}
use Rattle.std.proofs.lemmas.Bool.Decides.{nat_tests}
use Rattle.std.proofs.lemmas.Slice.Eq.{bytes_eq-Decides}
use Rattle.lo_outside.specs.FaultPlan.{Planned}
use Rattle.lo_outside.specs.Files.{File}
use Rattle.lo_outside.specs.MemFiles.{Sets, Puts, file_named, can_put}
use Rattle.lo_outside.specs.Place.{Held, named_of, has_name, file_in, empty_place}
use Rattle.lo_outside.proofs.FilesByName.{found}

-- a place that is found is the first that passes
pub first_of : (name : List ℕ) (places : List Held) (i : ℕ) → Some i ≡ position (has_name name) places → (i ≡ position_or_len (has_name name) places) × (i < length places)
first_of name places i at = grind (arith, nat_tests)

pub passes_at : (name : List ℕ) (places : List Held) (i : ℕ) (d : Held) → Some i ≡ position (has_name name) places → has_name name (get_or places i d) ≡ true
passes_at name places i d at = (position-Some (has_name name) places i d (sym at)).1

-- the file of that name is found, in the bytes that were set
pub refilled_there : (old : List Held) (i : ℕ) (place : Held) (name : List ℕ) → Some i ≡ position (has_name name) old → has_name name place ≡ true → file_named name (map named_of (set old i place)) ≡ Some place.named.file
refilled_there old i place name at named =
    let first : (i ≡ position_or_len (has_name name) old) × (i < length old) = first_of name old i at in
    found name (set old i place) ∙ ap (option_map file_in) (find-set (has_name name) old i place first.0 first.1 named)

-- the file at the place that a name has
pub at_position : (files : List Held) (i : ℕ) (d : Held) (name : List ℕ) → Some i ≡ position (has_name name) files → file_named name (map named_of files) ≡ Some (get_or files i d).named.file
at_position files i d name at =
    ap (λ xs. file_named name (map named_of xs)) (sym (set-get_or files i d)) ∙ refilled_there files i (get_or files i d) name at (passes_at name files i d at)

none_passes : (name : List ℕ) (files : List Held) → None ≡ position (has_name name) files → length files ≤ position_or_len (has_name name) files
none_passes name files none = grind (arith, nat_tests)

pub no_find : (files : List Held) (name : List ℕ) → None ≡ position (has_name name) files → find (has_name name) files ≡ None
no_find files name none = find_at (has_name name) files ∙ slice_get_past files _ (none_passes name files none)

-- no file has a name that no place has
pub no_position : (files : List Held) (name : List ℕ) → None ≡ position (has_name name) files → file_named name (map named_of files) ≡ None
no_position files name none =
    found name files ∙ ap (option_map file_in) (no_find files name none)

pub fails_by : {P : Type 0} (r : Bool) → Decides r P → (P → ⊥) → r ≡ false
fails_by true decided refuted = absurd (refuted (decided.0 refl))
fails_by false decided refuted = refl

-- a file of another name is as before where a place changes whose file keeps its name
pub refilled_others : (old : List Held) (i : ℕ) (d place : Held) (name other : List ℕ) → Some i ≡ position (has_name name) old → place.named.name ≡ (get_or old i d).named.name → other ≢ name → file_named other (map named_of (set old i place)) ≡ file_named other (map named_of old)
refilled_others old i d place name other at same differs =
    let is : (get_or old i d).named.name ≡ name = (bytes_eq-Decides _ name).0 (passes_at name old i d at) in
    let fails : has_name other (get_or old i d) ≡ false = fails_by _ (bytes_eq-Decides _ other) (λ e. differs (sym e ∙ is)) in
    let fails_too : has_name other place ≡ false = fails_by _ (bytes_eq-Decides _ other) (λ e. differs (sym e ∙ same ∙ is)) in
    found other (set old i place) ∙ ap (option_map file_in) (find_past (has_name other) old i place d fails fails_too) ∙ sym (found other old)

-- a file that is there is set, in its place
pub set_there : (old : List Held) (free room : ℕ) (plan : Planned) (i : ℕ) (before place : Held) (name : List ℕ) (file : File) → Some i ≡ position (has_name name) old → before ≡ get_or old i before → place.named.name ≡ before.named.name → place.named.file ≡ file → Sets (record { files = map named_of old; places = length old + free; room = room; plan = plan }) (record { files = map named_of (set old i place); places = length (set old i place) + free; room = room; plan = plan }) name file
set_there old free room plan i before place name file at was called is =
    let same : place.named.name ≡ (get_or old i before).named.name = called ∙ ap (λ p. p.named.name) was in
    record {
      there = refilled_there old i place name at (rw same (passes_at name old i before at)) ∙ ap (λ f. Some f) is;
      others = λ other differs. refilled_others old i before place name other at same differs;
      count = rw (at_position old i before name at, length-map (set old i place) named_of, length-map old named_of) (length-set old i place);
      places = ap (λ n. n + free) (length-set old i place);
      room = refl;
      plan = refl;
    }

-- the bytes of a file that is there are set
pub put_there : (old : List Held) (free room : ℕ) (plan : Planned) (i : ℕ) (before place : Held) (name bytes : List ℕ) → Some i ≡ position (has_name name) old → before ≡ get_or old i before → place ≡ record { named = record { name = before.named.name; file = record { bytes = bytes; synced = false } }; room = before.room } → Puts (record { files = map named_of old; places = length old + free; room = room; plan = plan }) (record { files = map named_of (set old i place); places = length (set old i place) + free; room = room; plan = plan }) name bytes
put_there old free room plan i before place name bytes at was is =
    set_there old free room plan i before place name _ at was (ap (λ p. p.named.name) is) (ap (λ p. p.named.file) is)

or_none : {X : Type 0} (o : Option X) → option_or o None ≡ o
or_none None = refl
or_none (Some x) = refl

-- a file is added at the end, of a name that no file had
pub pushed_there : (old : List Held) (place : Held) (name : List ℕ) → find (has_name name) old ≡ None → has_name name place ≡ true → file_named name (map named_of (old ++ place ∷ [])) ≡ Some place.named.file
pushed_there old place name none passes =
    found name (old ++ place ∷ []) ∙ ap (option_map file_in) (find-append (has_name name) old (place ∷ [])) ∙ rw (none, passes) refl

pub pushed_others : (old : List Held) (place : Held) (other : List ℕ) → has_name other place ≡ false → file_named other (map named_of (old ++ place ∷ [])) ≡ file_named other (map named_of old)
pushed_others old place other fails =
    found other (old ++ place ∷ []) ∙ ap (option_map file_in) (find-append (has_name other) old (place ∷ []) ∙ rw fails (or_none (find (has_name other) old))) ∙ sym (found other old)

-- a file is put into a place that was free
pub put_new : (old : List Held) (before after room : ℕ) (plan : Planned) (place taken : Held) (name bytes : List ℕ) → None ≡ position (has_name name) old → taken.named.name ≡ name → place ≡ record { named = record { name = taken.named.name; file = record { bytes = bytes; synced = false } }; room = taken.room } → after + 1 ≡ before → Puts (record { files = map named_of old; places = length old + before; room = room; plan = plan }) (record { files = map named_of (old ++ place ∷ []); places = length (old ++ place ∷ []) + after; room = room; plan = plan }) name bytes
put_new old before after room plan place taken name bytes none called is one_less =
    let same : place.named.name ≡ name = ap (λ p. p.named.name) is ∙ called in
    let passes : has_name name place ≡ true = rw same ((bytes_eq-Decides name name).1 refl) in
    record {
      there = pushed_there old place name (no_find old name none) passes ∙ ap (λ p. Some p.named.file) is;
      others = λ other differs. pushed_others old place other (fails_by _ (bytes_eq-Decides _ other) (λ e. differs (sym e ∙ same)));
      count = rw (no_position old name none, length-map (old ++ place ∷ []) named_of, length-map old named_of) (length-append old (place ∷ []));
      places = omega (arith, length-append old (place ∷ []), one_less);
      room = refl;
      plan = refl;
    }

-- bytes that have room can be put where there is a file of that name
pub can_there : (files : List Held) (places room : ℕ) (plan : Planned) (i : ℕ) (name bytes : List ℕ) → length name ≤ 255 → length bytes ≤ room → Some i ≡ position (has_name name) files → true ≡ can_put (record { files = map named_of files; places = places; room = room; plan = plan }) name bytes
can_there files places room plan i name bytes short fits at = rw (at_position files i (empty_place 0) name at) (grind (arith, nat_tests))

-- nothing can be put where there is no file of that name and no place is free
pub cannot_new : (files : List Held) (free room : ℕ) (plan : Planned) (name bytes : List ℕ) → None ≡ position (has_name name) files → free ≡ 0 → false ≡ can_put (record { files = map named_of files; places = length files + free; room = room; plan = plan }) name bytes
cannot_new files free room plan name bytes none full =
    rw (no_position files name none, length-map files named_of, full) (grind (arith, nat_tests))
