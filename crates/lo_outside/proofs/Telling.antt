-- What the clauses of `append` of a folder in memory tell, in the words of `Files`.
use Rattle.std.proofs.Common.{◌≡◌, ◌-◌, ◌/◌, ℕ, List, ◌++◌, Bool, true, false, refl, sym, ap, ◌∙◌, Option, Some, None, length, take, min}
use Rattle.std.specs.Prelude.{◌||◌, not, is_some, IsTrue, IsSome, IsNone, IsErr, OnOk, OnErr, ◌↔◌, Result, Ok, Err, if◌then◌else◌}
use Rattle.std.proofs.lemmas.Bool.{false≢true, true≢false}
use Rattle.lo_outside.specs.Files.{File, unsynced, bytes_of, with_more, SetsFile, AppendsFront}
use Rattle.lo_outside.specs.FaultPlan.{is_due}
use Rattle.lo_outside.proofs.Writing.{append_bytes}
use Rattle.lo_outside.specs.MemFiles.{MemFolder, Puts, file_named, has_room_for, append_fails, appended, after_look, after_fault}

abbrev under : MemFolder → List ℕ → Option File
under folder name = file_named name folder.files

or_true : (b : Bool) → (b || true) ≡ true
or_true true = refl
or_true false = refl

passes : (b : Bool) → (IsTrue b → false ≡ true) → b ≡ false
passes true refused = absurd (false≢true (refused refl))
passes false refused = refl

fails_without : (old : MemFolder) (name piece : List ℕ) → under old name ≡ None → append_fails name piece old ≡ true
fails_without old name piece none = ap (λ o. is_due old.plan || not (has_room_for old.room piece o)) none ∙ or_true (is_due old.plan)

there_by : (old : MemFolder) (name piece : List ℕ) → append_fails name piece old ≡ false → (file : Option File) → under old name ≡ file → is_some file ≡ true
there_by old name piece granted None none = absurd (true≢false (sym (fails_without old name piece none) ∙ granted))
there_by old name piece granted (Some file) is = refl

whole_by : (old : MemFolder) (name piece : List ℕ) → append_fails name piece old ≡ false → (file : Option File) → under old name ≡ file → Some (unsynced (appended name piece old)) ≡ with_more piece (under old name)
whole_by old name piece granted None none = absurd (true≢false (sym (fails_without old name piece none) ∙ granted))
whole_by old name piece granted (Some file) is =
    ap (λ b. Some (unsynced (append_bytes b old.room piece (under old name)))) granted ∙ ap (λ o. Some (unsynced (append_bytes false old.room piece o))) is ∙ sym (ap (with_more piece) is)

front_by : (old new : MemFolder) (name piece : List ℕ) → append_fails name piece old ≡ true → (IsSome (under old name) → Puts (after_fault old) new name (appended name piece old)) → (IsNone (under old name) → new ≡ after_fault old) → (file : Option File) → under old name ≡ file → AppendsFront (under old) (under new) name piece
front_by old new name piece fails puts kept None none =
    let same : new ≡ after_fault old = kept (ap is_some none) in
    record {
      count = 0;
      is = record {
        there = ap (λ m. under m name) same ∙ none ∙ sym (ap (with_more (take 0 piece)) none);
        others = λ other differs. ap (λ m. under m other) same;
      };
    }
front_by old new name piece fails puts kept (Some file) is =
    let set : Puts (after_fault old) new name (appended name piece old) = puts (ap is_some is) in
    record {
      count = min (length piece / 2) (old.room - length file.bytes);
      is = record {
        there = set.there ∙ ap (λ b. Some (unsynced (append_bytes b old.room piece (under old name)))) fails ∙ ap (λ o. Some (unsynced (append_bytes true old.room piece o))) is ∙ sym (ap (with_more (take (min (length piece / 2) (old.room - length file.bytes)) piece)) is);
        others = set.others;
      };
    }

pub tells_found : {T E : Type 0} (r : Result T E) (old : MemFolder) (name piece : List ℕ) → (IsErr r ↔ IsTrue (append_fails name piece old)) → OnOk r (IsSome (under old name))
tells_found (Ok x) old name piece failed = there_by old name piece (passes (append_fails name piece old) failed.1) (under old name) refl
tells_found (Err e) old name piece failed = tt

pub tells_appended : {T E : Type 0} (r : Result T E) (old new : MemFolder) (name piece : List ℕ) → (IsErr r ↔ IsTrue (append_fails name piece old)) → OnOk r (Puts (after_look old) new name (appended name piece old)) → OnOk r (SetsFile (under old) (under new) name (with_more piece (under old name)))
tells_appended (Ok x) old new name piece failed puts = record { there = puts.there ∙ whole_by old name piece (passes (append_fails name piece old) failed.1) (under old name) refl; others = puts.others }
tells_appended (Err e) old new name piece failed puts = tt

pub tells_front : {T E : Type 0} (r : Result T E) (old new : MemFolder) (name piece : List ℕ) → (IsErr r ↔ IsTrue (append_fails name piece old)) → OnErr r (IsSome (under old name) → Puts (after_fault old) new name (appended name piece old)) → (IsNone (under old name) → new ≡ after_fault old) → OnErr r (AppendsFront (under old) (under new) name piece)
tells_front (Ok x) old new name piece failed puts kept = tt
tells_front (Err e) old new name piece failed puts kept = front_by old new name piece (failed.0 refl) puts kept (under old name) refl
