-- Writing one piece behind another, and where a call fails.
use Rattle.std.proofs.Common.{◌≡◌, ℕ, ◌+◌, Bool, List, [], ◌++◌, take, drop, Option, Some, Result, Ok, Err, refl, sym, ap, subst, ◌∙◌, append_assoc}
use Rattle.std.specs.Prelude.{IsTrue, IsErrAnd}
use Rattle.std.proofs.lemmas.List.{append-nil, take-append-drop}
use Rattle.lo_outside.specs.declared.files.Failed.{Failed}
use Rattle.lo_outside.specs.Files.{File, SetsFile, AppendsFront, unsynced, with_more}
use Rattle.lo_image.specs.Writing.{Written, WasGiven, HoldsFront, GivesMore, FailsWithin, Puts, HasLeft}

-- nothing was given
pub nothing_given : (old : Written) (name total : List ℕ) → HasLeft old old name total total
nothing_given old name total =
    record {
      done = [];
      given = record { tells = refl; count = refl; gives = λ t start before h. subst (WasGiven start old name) (sym (append-nil before)) h };
      all = refl;
    }

-- two runs of bytes, one behind the other
pub both_given : {old mid new : Written} {name a b : List ℕ} → GivesMore old mid name a → GivesMore mid new name b → GivesMore old new name (a ++ b)
both_given {old} {mid} {new} {name} {a} {b} f g =
    record {
      tells = g.tells ∙ f.tells;
      count = g.count ∙ f.count;
      gives = λ t start before h. subst (WasGiven start new name) (append_assoc before a b) (g.gives (subst IsTrue (sym f.tells) t) start (before ++ a) (f.gives t start before h));
    }

-- one piece more
pub step : {old mid new : Written} {name total : List ℕ} (a rest : List ℕ) → HasLeft old mid name total (a ++ rest) → GivesMore mid new name a → HasLeft old new name total rest
step {old} {mid} {new} {name} {total} a rest h g =
    record {
      done = h.done ++ a;
      given = both_given h.given g;
      all = append_assoc h.done a rest ∙ h.all;
    }

longer : (start now : List ℕ → Option File) (name before done a rest total : List ℕ) → done ++ (a ++ rest) ≡ total → HoldsFront start now name ((before ++ done) ++ a) → HoldsFront start now name (before ++ total)
longer start now name before done a rest total all h =
    record {
      front = h.front;
      behind = h.behind ++ rest;
      is = h.is;
      all = sym (append_assoc h.front h.behind rest) ∙ ap (λ (x : List ℕ). x ++ rest) h.all ∙ append_assoc (before ++ done) a rest ∙ append_assoc before done (a ++ rest) ∙ ap (λ (x : List ℕ). before ++ x) all;
    }

-- a piece whose writing failed
pub stop : {old mid new : Written} {name total : List ℕ} (a rest : List ℕ) → HasLeft old mid name total (a ++ rest) → FailsWithin mid new name a → FailsWithin old new name total
stop {old} {mid} {new} {name} {total} a rest h g =
    record {
      tells = g.tells ∙ h.given.tells;
      later = rw (← h.given.count) g.later;
      rose = rw (← h.given.count) g.rose;
      leaves = λ t start before was. longer start new.folder name before h.done a rest total h.all (g.leaves (subst IsTrue (sym h.given.tells) t) start (before ++ h.done) (h.given.gives t start before was));
    }

-- nothing is left
pub all_given : {old new : Written} {name total : List ℕ} → HasLeft old new name total [] → GivesMore old new name total
all_given {old} {new} {name} {total} h = subst (GivesMore old new name) (sym (append-nil h.done) ∙ h.all) h.given

pub only_nothing : {old new : Written} {name total rest : List ℕ} → rest ≡ [] → HasLeft old new name total rest → GivesMore old new name total
only_nothing {old} {new} {name} {total} none h = all_given (subst (HasLeft old new name total) none h)

-- the last piece
pub last : {T : Type 0} {old mid : Written} {name total : List ℕ} (new : Written) (a : List ℕ) (r : Result T Failed) → HasLeft old mid name total a → Puts mid new name a r → Puts old new name total r
last {T} {old} {mid} {name} {total} new a (Ok x) h g = all_given (step a [] (subst (HasLeft old mid name total) (sym (append-nil a)) h) g)
last {T} {old} {mid} {name} {total} new a (Err e) h g = stop a [] (subst (HasLeft old mid name total) (sym (append-nil a)) h) g

-- a call failed, and its error is returned
pub fails : {T : Type 0} (Q : Failed → Type 0) {old new : Written} {name more : List ℕ} (r : Result T Failed) → IsErrAnd r Q → FailsWithin old new name more → Puts old new name more r
fails {T} Q {old} {new} {name} {more} (Ok x) h f = absurd h
fails {T} Q {old} {new} {name} {more} (Err e) h f = f

-- bytes that are added to those that wait
pub waits_longer : (tells : Bool) (folder : List ℕ → Option File) (faults : ℕ) (waits new_waits name more : List ℕ) → new_waits ≡ waits ++ more → GivesMore (record { tells = tells; folder = folder; faults = faults; waits = waits }) (record { tells = tells; folder = folder; faults = faults; waits = new_waits }) name more
waits_longer tells folder faults waits new_waits name more is =
    record {
      tells = refl;
      count = refl;
      gives = λ t start before h. record {
        front = h.front;
        is = h.is;
        all = ap (λ (x : List ℕ). h.front ++ x) is ∙ sym (append_assoc h.front waits more) ∙ ap (λ (x : List ℕ). x ++ more) h.all;
      };
    }

-- a front of what waits was appended
pub front_appended : (start old new : List ℕ → Option File) (name front waits before : List ℕ) → SetsFile start old name (Some (unsynced front)) → front ++ waits ≡ before → AppendsFront old new name waits → HoldsFront start new name (before ++ [])
front_appended start old new name front waits before was all added =
    record {
      front = front ++ take added.count waits;
      behind = drop added.count waits;
      is = record {
        there = added.is.there ∙ ap (with_more (take added.count waits)) was.there;
        others = λ other differs. added.is.others other differs ∙ was.others other differs;
      };
      all = append_assoc front (take added.count waits) (drop added.count waits) ∙ ap (λ (x : List ℕ). front ++ x) (take-append-drop added.count waits) ∙ all ∙ sym (append-nil before);
    }

-- as many bytes as had room
pub put_front : {old mid : Written} {name total : List ℕ} (tells : Bool) (folder : List ℕ → Option File) (faults : ℕ) (waits new_waits rest behind : List ℕ) (n : ℕ) → new_waits ≡ waits ++ take n rest → behind ≡ drop n rest
    → HasLeft old mid name total rest → GivesMore mid (record { tells = tells; folder = folder; faults = faults; waits = waits }) name [] → HasLeft old (record { tells = tells; folder = folder; faults = faults; waits = new_waits }) name total behind
put_front {old} {mid} {name} {total} tells folder faults waits new_waits rest behind n added dropped h room =
    let there = step [] rest h room in
    let whole = subst (HasLeft old (record { tells = tells; folder = folder; faults = faults; waits = waits }) name total) (sym (take-append-drop n rest)) there in
    rw dropped (step (take n rest) (drop n rest) whole (waits_longer tells folder faults waits new_waits name (take n rest) added))

-- one piece more, of what is left by other words
pub step_by : {old mid new : Written} {name total : List ℕ} (a rest left : List ℕ) → left ≡ a ++ rest → HasLeft old mid name total left → GivesMore mid new name a → HasLeft old new name total rest
step_by {old} {mid} {new} {name} {total} a rest left is h g = step a rest (subst (HasLeft old mid name total) is h) g

pub stop_by : {old mid new : Written} {name total : List ℕ} (a rest left : List ℕ) → left ≡ a ++ rest → HasLeft old mid name total left → FailsWithin mid new name a → FailsWithin old new name total
stop_by {old} {mid} {new} {name} {total} a rest left is h g = stop a rest (subst (HasLeft old mid name total) is h) g
