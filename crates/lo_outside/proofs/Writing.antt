-- What the calls that write make of a folder in memory: who fails, and what is left then.
use Rattle.std.proofs.Common.{◌≡◌, ◌≢◌, ◌+◌, ◌-◌, ◌/◌, ◌≤◌, ◌<◌, ℕ, suc, List, [], ◌∷◌, ◌++◌, Bool, true, false, refl, sym, ap, ◌∙◌, subst, Option, Some, None, map, length, set, get_or, take, drop, min, arith, position, length-set, length-append, All, Vec}
use Rattle.std.specs.Prelude.{◌&&◌, ◌||◌, not, is_some, IsTrue, IsSome, IsNone, IfErr, OnErr, Result, Ok, Err, nat_lt, nat_le, vec_capacity, if◌then◌else◌}
use Rattle.std.specs.List.{count_by, remove}
use Rattle.std.specs.Vec.{with_item}
use Rattle.std.specs.declared.alloc.Global.{Global}
use Rattle.std.proofs.lemmas.Bool.{false≢true}
use Rattle.std.proofs.lemmas.Bool.Decides.{nat_tests}
use Rattle.std.proofs.lemmas.List.{length-map}
use Rattle.std.proofs.lemmas.List.Elements.{All-get_or, All-set, All-append, All-take, All-drop, All-push}
use Rattle.std.proofs.lemmas.List.Edits.{length-remove}
use Rattle.std.proofs.lemmas.Slice.Eq.{bytes_eq-Decides}
use Rattle.lo_outside.specs.Files.{File, unsynced, bytes_of}
use Rattle.lo_outside.specs.FaultPlan.{Planned, is_due, after_call}
use Rattle.lo_outside.specs.MemFiles.{MemFolder, Sets, Puts, Moves, file_named, can_put, has_room_for, half_of, append_fails, appended, after_look, after_fault}
use Rattle.lo_outside.specs.Place.{Held, named_of, has_name, empty_place, with_piece, in_sync, HasRoom, IsRoomy}
use Rattle.lo_outside.proofs.SettingBytes.{first_of, passes_at, at_position, no_position, set_there, put_there}
use Rattle.lo_outside.proofs.NamesOnce.{single_set, single_push, single_remove}

-- the folder of those files, with so many free places
abbrev pub folder_of : List Held → ℕ → ℕ → Planned → MemFolder
folder_of files free room plan = record { files = map named_of files; places = length files + free; room = room; plan = plan }

pub on_err : {T E : Type 0} {P : Type 0} (r : Result T E) → P → OnErr r P
on_err (Ok x) p = tt
on_err (Err e) p = p

-- the plan after a call that failed, and after one that was granted
pub faulted : (a : Bool) (old new : Planned) → new ≡ after_call a old → a ≡ true → new ≡ after_call true old
faulted a old new is fails = is ∙ ap (λ b. after_call b old) fails

pub granted : (a b : Bool) → (IsTrue (a || b) → false ≡ true) → (a || b) ≡ false
granted true b refused = absurd (false≢true (refused refl))
granted false true refused = absurd (false≢true (refused refl))
granted false false refused = refl

first_granted : (a b : Bool) → (a || b) ≡ false → (a || b) ≡ a
first_granted true b refused = refl
first_granted false b refused = refused

pub looked : (a b : Bool) (old new : Planned) → new ≡ after_call (a || b) old → (a || b) ≡ false → new ≡ after_call a old
looked a b old new is refused = is ∙ ap (λ c. after_call c old) (first_granted a b refused)

by_position : (files : List Held) (name : List ℕ) (o : Option ℕ) → o ≡ position (has_name name) files → is_some (file_named name (map named_of files)) ≡ is_some o
by_position files name None none = ap is_some (no_position files name none)
by_position files name (Some i) at = ap is_some (at_position files i (empty_place 0) name at)

-- whether there is a place for a file
pub can_create : (files : List Held) (free room : ℕ) (plan : Planned) (name : List ℕ) → length name ≤ 255 → can_put (folder_of files free room plan) name [] ≡ (is_some (position (has_name name) files) || nat_lt 0 free)
can_create files free room plan name short =
    let a : nat_le (length name) 255 ≡ true = grind (arith, nat_tests) in
    let b : nat_le 0 room ≡ true = grind (arith, nat_tests) in
    let c : nat_lt (length files) (length files + free) ≡ nat_lt 0 free = grind (arith, nat_tests) in
    rw (a, b, by_position files name (position (has_name name) files) refl, length-map files named_of, c) refl

-- whether a piece has room
pub room_test : (files : List Held) (i : ℕ) (d : Held) (name piece : List ℕ) (room free : ℕ) → Some i ≡ position (has_name name) files → length (get_or files i d).named.file.bytes + free ≡ room → not (has_room_for room piece (file_named name (map named_of files))) ≡ nat_lt free (length piece)
room_test files i d name piece room free at total =
    rw (at_position files i d name at) test
  where
    test : not (nat_le (length (get_or files i d).named.file.bytes + length piece) room) ≡ nat_lt free (length piece)
    test = grind (arith, nat_tests)

-- the bytes that are free in a file, as two looks at it tell
pub spare_of : (files : List Held) (i room spare : ℕ) (seen before : Held) (name : List ℕ) → Some i ≡ position (has_name name) files → All (HasRoom room) files → seen ≡ get_or files i seen → before ≡ get_or files i before → length seen.named.file.bytes + spare ≡ seen.room → length before.named.file.bytes + spare ≡ room
spare_of files i room spare seen before name at rooms saw was total =
    let sized : (get_or files i seen).room ≡ room = All-get_or (HasRoom room) files i seen (first_of name files i at).1 rooms in
    let one : file_named name (map named_of files) ≡ Some before.named.file = at_position files i before name at ∙ ap (λ h. Some h.named.file) (sym was) in
    let two : file_named name (map named_of files) ≡ Some seen.named.file = at_position files i seen name at ∙ ap (λ h. Some h.named.file) (sym saw) in
    let long : length before.named.file.bytes ≡ length seen.named.file.bytes = ap (λ o. length (bytes_of o)) (sym one ∙ two) in
    ap (λ n. n + spare) long ∙ total ∙ ap (λ h. h.room) saw ∙ sized

-- the bytes of a file after an append, by whether the call fails
abbrev pub append_bytes : (fails : Bool) (room : ℕ) (piece : List ℕ) (o : Option File) → List ℕ
append_bytes fails room piece o = bytes_of o ++ (if fails then half_of room piece o else piece)

-- half of a piece is added where the call fails
pub appended_half : (old : List Held) (free room spare : ℕ) (plan plan' : Planned) (i : ℕ) (before place : Held) (name piece : List ℕ) → Some i ≡ position (has_name name) old → before ≡ get_or old i before → length before.named.file.bytes + spare ≡ room → plan' ≡ after_call (is_due plan || nat_lt spare (length piece)) plan → (is_due plan || nat_lt spare (length piece)) ≡ true → place ≡ with_piece (take (min (length piece / 2) spare) piece) before → Puts (after_fault (folder_of old free room plan)) (folder_of (set old i place) free room plan') name (appended name piece (folder_of old free room plan))
appended_half old free room spare plan plan' i before place name piece at was total counted fails is =
    let set = put_there old free room plan' i before place name _ at was is in
    let file : file_named name (map named_of old) ≡ Some before.named.file = at_position old i before name at ∙ ap (λ h. Some h.named.file) (sym was) in
    let test : append_fails name piece (folder_of old free room plan) ≡ true = ap (λ b. is_due plan || b) (room_test old i before name piece room spare at (ap (λ h. length h.named.file.bytes + spare) (sym was) ∙ total)) ∙ fails in
    let left : room - length before.named.file.bytes ≡ spare = omega (arith, total) in
    let bytes : before.named.file.bytes ++ take (min (length piece / 2) spare) piece ≡ appended name piece (folder_of old free room plan) =
    ap (λ n. before.named.file.bytes ++ take (min (length piece / 2) n) piece) (sym left) ∙ sym (ap (λ b. append_bytes b room piece (file_named name (map named_of old))) test ∙ ap (append_bytes true room piece) file) in
    record {
      there = set.there ∙ ap (λ b. Some (unsynced b)) bytes;
      others = set.others;
      count = set.count;
      places = set.places;
      room = refl;
      plan = faulted _ plan plan' counted fails;
    }

-- the whole piece is added where it is granted
pub appended_whole : (old : List Held) (free room spare : ℕ) (plan plan' : Planned) (i : ℕ) (before place : Held) (name piece : List ℕ) → Some i ≡ position (has_name name) old → before ≡ get_or old i before → length before.named.file.bytes + spare ≡ room → plan' ≡ after_call (is_due plan || nat_lt spare (length piece)) plan → (is_due plan || nat_lt spare (length piece)) ≡ false → place ≡ with_piece piece before → Puts (after_look (folder_of old free room plan)) (folder_of (set old i place) free room plan') name (appended name piece (folder_of old free room plan))
appended_whole old free room spare plan plan' i before place name piece at was total counted passes is =
    let set = put_there old free room plan' i before place name _ at was is in
    let file : file_named name (map named_of old) ≡ Some before.named.file = at_position old i before name at ∙ ap (λ h. Some h.named.file) (sym was) in
    let test : append_fails name piece (folder_of old free room plan) ≡ false = ap (λ b. is_due plan || b) (room_test old i before name piece room spare at (ap (λ h. length h.named.file.bytes + spare) (sym was) ∙ total)) ∙ passes in
    let bytes : before.named.file.bytes ++ piece ≡ appended name piece (folder_of old free room plan) =
    sym (ap (λ b. append_bytes b room piece (file_named name (map named_of old))) test ∙ ap (append_bytes false room piece) file) in
    record {
      there = set.there ∙ ap (λ b. Some (unsynced b)) bytes;
      others = set.others;
      count = set.count;
      places = set.places;
      room = refl;
      plan = looked (is_due plan) _ plan plan' counted passes;
    }

-- a file that is found is there
pub not_missing : {P : Type 0} (old : List Held) (i : ℕ) (d : Held) (name : List ℕ) → Some i ≡ position (has_name name) old → IsNone (file_named name (map named_of old)) → P
not_missing old i d name at none = absurd (false≢true (sym none ∙ ap is_some (at_position old i d name at)))

pub not_there : {P : Type 0} (old : List Held) (name : List ℕ) → None ≡ position (has_name name) old → IsSome (file_named name (map named_of old)) → P
not_there old name none some =
    let test : false ≡ is_some (file_named name (map named_of old)) = sym (ap is_some (no_position old name none)) in
    absurd (false≢true (test ∙ some))

-- the mark is set
pub marked : (old : List Held) (free room : ℕ) (plan plan' : Planned) (i : ℕ) (before place : Held) (name : List ℕ) → Some i ≡ position (has_name name) old → before ≡ get_or old i before → plan' ≡ after_call (is_due plan || false) plan → (is_due plan || false) ≡ false → place ≡ in_sync before → Sets (after_look (folder_of old free room plan)) (folder_of (set old i place) free room plan') name (record { bytes = bytes_of (file_named name (map named_of old)); synced = true })
marked old free room plan plan' i before place name at was counted passes is =
    let set = set_there old free room plan' i before place name _ at was (ap (λ p. p.named.name) is) (ap (λ p. p.named.file) is) in
    let file : Some before.named.file ≡ file_named name (map named_of old) = sym (at_position old i before name at ∙ ap (λ h. Some h.named.file) (sym was)) in
    record {
      there = set.there ∙ ap (λ o. Some (record { bytes = bytes_of o; synced = true })) file;
      others = set.others;
      count = set.count;
      places = set.places;
      room = refl;
      plan = looked (is_due plan) false plan plan' counted passes;
    }

-- the plan alone is another
pub counted_move : (old : MemFolder) (files : MemFolder) (plan' : Planned) (from to : List ℕ) → plan' ≡ after_call (is_due old.plan) old.plan → Moves (record { files = old.files; places = old.places; room = old.room; plan = plan' }) files from to → files.plan ≡ plan' → Moves (after_look old) files from to
counted_move old files plan' from to counted moves same =
    record { there = moves.there; gone = moves.gone; others = moves.others; count = moves.count; places = moves.places; room = moves.room; plan = same ∙ counted }

-- the places keep their room where a file changes that keeps its name
pub roomy_set : (room : ℕ) (files free : Vec Held Global) (i : ℕ) (before place : Held) → IsRoomy room files free → i < length files.items → before ≡ get_or files.items i before → place.named.name ≡ before.named.name → place.room ≡ before.room → IsRoomy room (with_item files i place) free
roomy_set room files free i before place roomy within was called sized =
    let had : (get_or files.items i before).room ≡ room = All-get_or (HasRoom room) files.items i before within roomy.files_room in
    let long : length (set files.items i place) ≡ length files.items = length-set files.items i place in
    record {
      capacity = let old = roomy.capacity in omega (arith, old, long);
      free_capacity = let old = roomy.free_capacity in omega (arith, old, long);
      single = single_set files.items i before place within (called ∙ ap (λ h. h.named.name) was) roomy.single;
      files_room = All-set (HasRoom room) files.items i place (sized ∙ ap (λ h. h.room) was ∙ had) roomy.files_room;
      free_room = roomy.free_room;
    }

rooms_left : (room : ℕ) (files : List Held) (i : ℕ) → All (HasRoom room) files → All (HasRoom room) (remove files i)
rooms_left room files i rooms = All-append (HasRoom room) (take i files) (drop (suc i) files) (All-take (HasRoom room) i files rooms) (All-drop (HasRoom room) (suc i) files rooms)

-- the same where a file is taken out and put, under a name, in place of the one that has it
pub roomy_over : (room : ℕ) (files free files' free' : Vec Held Global) (i j : ℕ) (taken place other : Held) (to : List ℕ) → IsRoomy room files free → i < length files.items → taken ≡ get_or files.items i taken → files'.items ≡ remove files.items i → vec_capacity files' ≡ vec_capacity files → Some j ≡ position (has_name to) files'.items → place.named.name ≡ to → place.room ≡ taken.room → free'.items ≡ free.items ++ other ∷ [] → vec_capacity free' ≡ vec_capacity free → other ≡ get_or files'.items j other → IsRoomy room (with_item files' j place) free'
roomy_over room files free files' free' i j taken place other to roomy within was items kept at called sized pushed kept_free had =
    let rooms : All (HasRoom room) files'.items = subst (λ xs. All (HasRoom room) xs) (sym items) (rooms_left room files.items i roomy.files_room) in
    let single : (name : List ℕ) → count_by (has_name name) files'.items ≤ 1 = λ name. subst (λ xs. count_by (has_name name) xs ≤ 1) (sym items) (single_remove files.items i taken within roomy.single name) in
    let taken_room : taken.room ≡ room = ap (λ h. h.room) was ∙ All-get_or (HasRoom room) files.items i taken within roomy.files_room in
    let within' : j < length files'.items = (first_of to files'.items j at).1 in
    let other_room : other.room ≡ room = ap (λ h. h.room) had ∙ All-get_or (HasRoom room) files'.items j other within' rooms in
    let same : place.named.name ≡ (get_or files'.items j place).named.name = called ∙ sym ((bytes_eq-Decides (get_or files'.items j place).named.name to).0 (passes_at to files'.items j place at)) in
    let less : length files'.items + 1 ≡ length files.items = ap (λ xs. length xs + 1) items ∙ length-remove files.items i within in
    let long : length (set files'.items j place) ≡ length files'.items = length-set files'.items j place in
    let more : length free'.items ≡ length free.items + 1 = ap length pushed ∙ length-append free.items (other ∷ []) in
    record {
      capacity = let old = roomy.capacity in omega (arith, old, less, long, more, kept);
      free_capacity = let old = roomy.free_capacity in omega (arith, old, less, long, more, kept_free);
      single = single_set files'.items j place place within' same single;
      files_room = All-set (HasRoom room) files'.items j place (sized ∙ taken_room) rooms;
      free_room = subst (λ xs. All (HasRoom room) xs) (sym pushed) (All-push (HasRoom room) free.items other roomy.free_room other_room);
    }

-- and where it is put at the end, under a name that no other file has
pub roomy_end : (room : ℕ) (files free files' files'' : Vec Held Global) (i : ℕ) (taken place : Held) (to : List ℕ) → IsRoomy room files free → i < length files.items → taken ≡ get_or files.items i taken → files'.items ≡ remove files.items i → vec_capacity files' ≡ vec_capacity files → None ≡ position (has_name to) files'.items → place.named.name ≡ to → place.room ≡ taken.room → files''.items ≡ files'.items ++ place ∷ [] → vec_capacity files'' ≡ vec_capacity files' → IsRoomy room files'' free
roomy_end room files free files' files'' i taken place to roomy within was items kept none called sized pushed kept' =
    let rooms : All (HasRoom room) files'.items = subst (λ xs. All (HasRoom room) xs) (sym items) (rooms_left room files.items i roomy.files_room) in
    let single : (name : List ℕ) → count_by (has_name name) files'.items ≤ 1 = λ name. subst (λ xs. count_by (has_name name) xs ≤ 1) (sym items) (single_remove files.items i taken within roomy.single name) in
    let taken_room : taken.room ≡ room = ap (λ h. h.room) was ∙ All-get_or (HasRoom room) files.items i taken within roomy.files_room in
    let less : length files'.items + 1 ≡ length files.items = ap (λ xs. length xs + 1) items ∙ length-remove files.items i within in
    let long : length files''.items ≡ length files'.items + 1 = ap length pushed ∙ length-append files'.items (place ∷ []) in
    record {
      capacity = let old = roomy.capacity in omega (arith, old, less, long, kept, kept');
      free_capacity = let old = roomy.free_capacity in omega (arith, old, less, long);
      single = λ name. subst (λ xs. count_by (has_name name) xs ≤ 1) (sym pushed) (single_push files'.items place to none called single name);
      files_room = subst (λ xs. All (HasRoom room) xs) (sym pushed) (All-push (HasRoom room) files'.items place rooms (sized ∙ taken_room));
      free_room = roomy.free_room;
    }
