-- What views have of edits through the ends of levels and transactions.
use Rattle.std.proofs.Common.{ℕ, ◌+◌, ◌<◌, ◌≤◌, ◌≡◌, Bool, true, false, cond, List, [], ◌∷◌, ◌++◌, Option, Some, None, refl, ap, sym, subst, ◌∙◌, arith}
use Rattle.std.specs.Prelude.{option_and_then, nat_lt, ◌&&◌, if◌then◌else◌, filter, map, not}
use Rattle.std.proofs.lemmas.Bool.{false≢true}
use Rattle.std.proofs.lemmas.Bool.Decides.{nat_tests}
use Rattle.lo_model.specs.declared.owner.Owner.{Owner}
use Rattle.lo_model.specs.declared.owner.Owner.TheVariants.{Running, Committed}
use Rattle.lo_model.specs.declared.viewer.Viewer.{Viewer}
use Rattle.lo_model.specs.declared.viewer.Viewer.TheVariants.{Nobody, Whole, Below}
use Rattle.lo_model.specs.Edit.{Edit, deeds}
use Rattle.lo_model.specs.Levels.{is_from_level, owned_by, stays, released_owner, committed_owner, released, undone, committed}
use Rattle.lo_model.specs.View.{sees, sees_edit, has_owner, view}
use Rattle.xact_core.specs.declared.snapshot.Snapshot.{Snapshot}
use Rattle.xact_core.specs.declared.stamp.Stamp.{Stamp}
use Rattle.xact_core.specs.Ends.{Turns, release, undo, commit_at}
use Rattle.xact_core.specs.Kept.{view_at}
use Rattle.xact_core.specs.Laws.{is_open, looks_as, before_release, before_undo}
use Rattle.xact_core.specs.Stamp.{made_at, owner_of, IsIssued, sees_made, sees_stamp}
use Rattle.xact_core.specs.Transactions.{Transactions}

-- What views have of one edit, by its owner

pub sees_released : (s k clock made : ℕ) (viewer : Viewer) (owner : Owner) → 1 ≤ k → sees clock viewer made (released_owner s k owner) ≡ sees clock (before_release s k viewer) made owner
sees_released s k clock made Nobody (Committed c) low = refl
sees_released s k clock made (Whole t) (Committed c) low = refl
sees_released s k clock made (Below t l) (Committed c) low = grind (arith, nat_tests)
sees_released s k clock made Nobody (Running u m) low = grind (arith, nat_tests)
sees_released s k clock made (Whole t) (Running u m) low = grind (arith, nat_tests)
sees_released s k clock made (Below t l) (Running u m) low = grind (arith, nat_tests)

pub sees_undone : (s k clock made : ℕ) (viewer : Viewer) (owner : Owner) → sees_made (view_at clock viewer) made (undo s k owner) ≡ sees clock (before_undo s k viewer) made owner
sees_undone s k clock made Nobody (Committed c) = refl
sees_undone s k clock made (Whole t) (Committed c) = grind (arith, nat_tests)
sees_undone s k clock made (Below t l) (Committed c) = grind (arith, nat_tests)
sees_undone s k clock made Nobody (Running u m) = grind (arith, nat_tests)
sees_undone s k clock made (Whole t) (Running u m) = grind (arith, nat_tests)
sees_undone s k clock made (Below t l) (Running u m) = grind (arith, nat_tests)

-- an open edit of the session after a commit
pub sees_committed : (s c clock made : ℕ) (viewer : Viewer) (owner : Owner) → made ≤ c → is_open s (Some owner) ≡ true → sees clock viewer made (committed_owner s c owner) ≡ nat_lt c clock
sees_committed s c clock made viewer (Committed d) past own = absurd (false≢true own)
sees_committed s c clock made viewer (Running u m) past own = grind (arith, nat_tests)

-- any other edit
pub sees_other : (s c clock made : ℕ) (viewer : Viewer) (owner : Owner) → is_open s (Some owner) ≡ false → sees clock viewer made (committed_owner s c owner) ≡ sees clock viewer made owner
sees_other s c clock made viewer (Committed d) other = refl
sees_other s c clock made viewer (Running u m) other = grind (arith, nat_tests)

-- an open edit of the session, for a view of another
pub sees_open : (s clock made : ℕ) (viewer : Viewer) (owner : Owner) → looks_as s viewer ≡ false → is_open s (Some owner) ≡ true → sees clock viewer made owner ≡ false
sees_open s clock made viewer (Committed d) apart own = absurd (false≢true own)
sees_open s clock made Nobody (Running u m) apart own = grind (arith, nat_tests)
sees_open s clock made (Whole t) (Running u m) apart own = grind (arith, nat_tests)
sees_open s clock made (Below t l) (Running u m) apart own = grind (arith, nat_tests)

-- who looks as another sees after an end what he saw before
pub release_spares : (s k : ℕ) (viewer : Viewer) → looks_as s viewer ≡ false → before_release s k viewer ≡ viewer
release_spares s k Nobody apart = refl
release_spares s k (Whole t) apart = refl
release_spares s k (Below t l) apart = rw apart refl

pub undo_spares : (s k : ℕ) (viewer : Viewer) → looks_as s viewer ≡ false → before_undo s k viewer ≡ viewer
undo_spares s k Nobody apart = refl
undo_spares s k (Whole t) apart = rw apart refl
undo_spares s k (Below t l) apart = rw apart refl

-- The same of stamps

pub release_views : (s k : ℕ) (old new : Transactions) → 1 ≤ k → Turns (release s k) old new → (v : Snapshot) (st : Stamp) → IsIssued old st → sees_stamp new v st ≡ sees_stamp old (view_at v.clock (before_release s k v.viewer)) st
release_views s k old new low turns v st given = ap (sees_made v (made_at st)) (turns.owners st given) ∙ by_owner (owner_of old st)
  where
    by_owner : (o : Option Owner) → sees_made v (made_at st) (option_and_then (release s k) o) ≡ sees_made (view_at v.clock (before_release s k v.viewer)) (made_at st) o
    by_owner None = refl
    by_owner (Some owner) = sees_released s k v.clock (made_at st) v.viewer owner low

pub undo_views : (s k : ℕ) (old new : Transactions) → Turns (undo s k) old new → (v : Snapshot) (st : Stamp) → IsIssued old st → sees_stamp new v st ≡ sees_stamp old (view_at v.clock (before_undo s k v.viewer)) st
undo_views s k old new turns v st given = ap (sees_made v (made_at st)) (turns.owners st given) ∙ by_owner (owner_of old st)
  where
    by_owner : (o : Option Owner) → sees_made v (made_at st) (option_and_then (undo s k) o) ≡ sees_made (view_at v.clock (before_undo s k v.viewer)) (made_at st) o
    by_owner None = refl
    by_owner (Some owner) = sees_undone s k v.clock (made_at st) v.viewer owner

pub commit_shows : (s c : ℕ) (old new : Transactions) → Turns (commit_at s c) old new → old.clock ≡ c → (v : Snapshot) (st : Stamp) → IsIssued old st → is_open s (owner_of old st) ≡ true → sees_stamp new v st ≡ nat_lt c v.clock
commit_shows s c old new turns now v st given own = ap (sees_made v (made_at st)) (turns.owners st given) ∙ by_owner (owner_of old st) own
  where
    past : made_at st ≤ c
    past = subst (λ (n : ℕ). made_at st ≤ n) now given.clock

    by_owner : (o : Option Owner) → is_open s o ≡ true → sees_made v (made_at st) (option_and_then (commit_at s c) o) ≡ nat_lt c v.clock
    by_owner None is = absurd (false≢true is)
    by_owner (Some owner) is = sees_committed s c v.clock (made_at st) v.viewer owner past is

pub commit_spares : (s c : ℕ) (old new : Transactions) → Turns (commit_at s c) old new → (v : Snapshot) (st : Stamp) → IsIssued old st → is_open s (owner_of old st) ≡ false → sees_stamp new v st ≡ sees_stamp old v st
commit_spares s c old new turns v st given other = ap (sees_made v (made_at st)) (turns.owners st given) ∙ by_owner (owner_of old st) other
  where
    by_owner : (o : Option Owner) → is_open s o ≡ false → sees_made v (made_at st) (option_and_then (commit_at s c) o) ≡ sees_made v (made_at st) o
    by_owner None is = refl
    by_owner (Some owner) is = sees_other s c v.clock (made_at st) v.viewer owner is

-- a view of another that was taken before the clock moved on
pub commit_held : (s c : ℕ) (old new : Transactions) → Turns (commit_at s c) old new → old.clock ≡ c → (v : Snapshot) (st : Stamp) → IsIssued old st → looks_as s v.viewer ≡ false → v.clock ≤ c → sees_stamp new v st ≡ sees_stamp old v st
commit_held s c old new turns now v st given apart earlier = by_owner (owner_of old st) refl (is_open s (owner_of old st)) refl
  where
    hidden : (o : Option Owner) → is_open s o ≡ true → sees_made v (made_at st) o ≡ false
    hidden None is = absurd (false≢true is)
    hidden (Some owner) is = sees_open s v.clock (made_at st) v.viewer owner apart is

    by_owner : (o : Option Owner) → owner_of old st ≡ o → (b : Bool) → is_open s (owner_of old st) ≡ b → sees_stamp new v st ≡ sees_stamp old v st
    by_owner o is true own = commit_shows s c old new turns now v st given own ∙ (let late : nat_lt c v.clock ≡ false = grind (arith, nat_tests) in late) ∙ sym (hidden (owner_of old st) own)
    by_owner o is false other = commit_spares s c old new turns v st given other

-- The same of lists of edits

filter_end : {A : Type 0} (test : A → Bool) (xs : List A) (x : A) → test x ≡ false → filter test (xs ++ x ∷ []) ≡ filter test xs
filter_end test [] x fails = rw fails refl
filter_end test (y ∷ ys) x fails = rw (filter_end test ys x fails) refl

deeds_cons : {D : Type 0} (b c : Bool) (x y : Edit D) (xs ys : List (Edit D)) → b ≡ c → x.deed ≡ y.deed → deeds xs ≡ deeds ys → deeds (cond b (x ∷ xs) xs) ≡ deeds (cond c (y ∷ ys) ys)
deeds_cons true true x y xs ys alike deed rest = rw (deed, rest) refl
deeds_cons true false x y xs ys alike deed rest = absurd (false≢true (sym alike))
deeds_cons false true x y xs ys alike deed rest = absurd (false≢true alike)
deeds_cons false false x y xs ys alike deed rest = rest

-- edits that have other owners, and a test of them that answers as another test did before
deeds_changed : {D : Type 0} (before after : Edit D → Bool) (change : Owner → Owner) → ((e : Edit D) → after (owned_by change e) ≡ before e) → (edits : List (Edit D)) → deeds (filter after (map (owned_by change) edits)) ≡ deeds (filter before edits)
deeds_changed before after change alike [] = refl
deeds_changed before after change alike (e ∷ es) = deeds_cons (after (owned_by change e)) (before e) (owned_by change e) e (filter after (map (owned_by change) es)) (filter before es) (alike e) refl (deeds_changed before after change alike es)

filter_twice : {A : Type 0} (first second both : A → Bool) → ((x : A) → (first x && second x) ≡ both x) → (xs : List A) → filter second (filter first xs) ≡ filter both xs
filter_twice first second both alike [] = refl
filter_twice first second both alike (x ∷ xs) = by_tests (first x) (second x) (both x) (alike x) refl (filter_twice first second both alike xs)
  where
    by_tests : (a b c : Bool) → (a && b) ≡ c → second x ≡ b → filter second (filter first xs) ≡ filter both xs → filter second (cond a (x ∷ filter first xs) (filter first xs)) ≡ cond c (x ∷ filter both xs) (filter both xs)
    by_tests true true true alike is rest = rw (is, rest) refl
    by_tests true false false alike is rest = rw (is, rest) refl
    by_tests false b false alike is rest = rest
    by_tests true true false alike is rest = absurd (false≢true (sym alike))
    by_tests true false true alike is rest = absurd (false≢true alike)
    by_tests false b true alike is rest = absurd (false≢true alike)

pub released_views : {D : Type 0} (s k clock : ℕ) (viewer : Viewer) (edits : List (Edit D)) → 1 ≤ k → deeds (view clock viewer (released s k edits)) ≡ deeds (view clock (before_release s k viewer) edits)
released_views {D} s k clock viewer edits low = deeds_changed (sees_edit {D = D} clock (before_release s k viewer)) (sees_edit {D = D} clock viewer) (released_owner s k) (λ e. sees_released s k clock e.clock viewer e.owner low) edits

pub undone_views : {D : Type 0} (s k clock : ℕ) (viewer : Viewer) (edits : List (Edit D)) → view clock viewer (undone s k edits) ≡ view clock (before_undo s k viewer) edits
undone_views {D} s k clock viewer edits = filter_twice (stays {D = D} s k) (sees_edit {D = D} clock viewer) (sees_edit {D = D} clock (before_undo s k viewer)) alike edits
  where
    by_test : (b : Bool) (made : ℕ) (owner : Owner) → (not b && sees clock viewer made owner) ≡ sees_made (view_at clock viewer) made (if b then None else Some owner)
    by_test true made owner = refl
    by_test false made owner = refl

    alike : (e : Edit D) → (stays s k e && sees_edit clock viewer e) ≡ sees_edit clock (before_undo s k viewer) e
    alike e = by_test (is_from_level s k e.owner) e.clock e.owner ∙ sees_undone s k clock e.clock viewer e.owner

-- what a later view of nobody, or of the session, has after a commit
sees_later : (s c clock made : ℕ) (owner : Owner) → c < clock → sees clock Nobody made (committed_owner s c owner) ≡ sees clock (Whole s) made owner
sees_later s c clock made (Committed d) later = refl
sees_later s c clock made (Running u m) later = grind (arith, nat_tests)

pub committed_later : {D : Type 0} (s c clock : ℕ) (edits : List (Edit D)) → c < clock → deeds (view clock Nobody (committed s c edits)) ≡ deeds (view clock (Whole s) edits)
committed_later {D} s c clock edits later = deeds_changed (sees_edit {D = D} clock (Whole s)) (sees_edit {D = D} clock Nobody) (committed_owner s c) (λ e. sees_later s c clock e.clock e.owner later) edits

-- what an earlier view of another has after it
sees_earlier : (s c clock made : ℕ) (viewer : Viewer) (owner : Owner) → clock ≤ c → looks_as s viewer ≡ false → sees clock viewer made (committed_owner s c owner) ≡ sees clock viewer made owner
sees_earlier s c clock made viewer (Committed d) earlier apart = refl
sees_earlier s c clock made Nobody (Running u m) earlier apart = grind (arith, nat_tests)
sees_earlier s c clock made (Whole t) (Running u m) earlier apart = grind (arith, nat_tests)
sees_earlier s c clock made (Below t l) (Running u m) earlier apart = grind (arith, nat_tests)

pub committed_earlier : {D : Type 0} (s c clock : ℕ) (viewer : Viewer) (edits : List (Edit D)) → clock ≤ c → looks_as s viewer ≡ false → deeds (view clock viewer (committed s c edits)) ≡ deeds (view clock viewer edits)
committed_earlier {D} s c clock viewer edits earlier apart = deeds_changed (sees_edit {D = D} clock viewer) (sees_edit {D = D} clock viewer) (committed_owner s c) (λ e. sees_earlier s c clock e.clock viewer e.owner earlier apart) edits

-- an open edit more, for a view of another
pub open_hidden : {D : Type 0} (s l made clock : ℕ) (viewer : Viewer) (deed : D) (edits : List (Edit D)) → looks_as s viewer ≡ false → view clock viewer (edits ++ record { clock = made; owner = Running s l; deed = deed } ∷ []) ≡ view clock viewer edits
open_hidden {D} s l made clock viewer deed edits apart = filter_end (sees_edit {D = D} clock viewer) edits (record { clock = made; owner = Running s l; deed = deed }) (sees_open s clock made viewer (Running s l) apart (itself s l))
  where
    itself : (s l : ℕ) → is_open s (Some (Running s l)) ≡ true
    itself s l = grind (arith, nat_tests)

-- an edit more that is made at the view's clock or later
pub later_hidden : {D : Type 0} (made clock : ℕ) (viewer : Viewer) (owner : Owner) (deed : D) (edits : List (Edit D)) → clock ≤ made → view clock viewer (edits ++ record { clock = made; owner = owner; deed = deed } ∷ []) ≡ view clock viewer edits
later_hidden {D} made clock viewer owner deed edits later = filter_end (sees_edit {D = D} clock viewer) edits (record { clock = made; owner = owner; deed = deed }) (let unmade : nat_lt made clock ≡ false = grind (arith, nat_tests) in ap (λ (b : Bool). b && has_owner clock viewer owner) unmade)

-- The edit of a stamp that is given

pub stamp_seen : (x : Transactions) (s l : ℕ) (st : Stamp) → owner_of x st ≡ Some (Running s l) → made_at st ≡ x.clock → sees_stamp x (view_at (x.clock + 1) (Whole s)) st ≡ true
stamp_seen x s l st owner made = rw (owner, made) (seen s l x.clock)
  where
    seen : (s l n : ℕ) → sees (n + 1) (Whole s) n (Running s l) ≡ true
    seen s l n = grind (arith, nat_tests)

pub stamp_hidden : (x : Transactions) (s l : ℕ) (st : Stamp) → owner_of x st ≡ Some (Running s l) → (v : Snapshot) → looks_as s v.viewer ≡ false → sees_stamp x v st ≡ false
stamp_hidden x s l st owner v apart = rw owner (sees_open s v.clock (made_at st) v.viewer (Running s l) apart (itself s l))
  where
    itself : (s l : ℕ) → is_open s (Some (Running s l)) ≡ true
    itself s l = grind (arith, nat_tests)

pub stamp_later : (x : Transactions) (st : Stamp) → made_at st ≡ x.clock → (v : Snapshot) → v.clock ≤ x.clock → sees_stamp x v st ≡ false
stamp_later x st made v later = by_owner (owner_of x st)
  where
    unmade : nat_lt (made_at st) v.clock ≡ false
    unmade = rw made (grind (arith, nat_tests))

    by_owner : (o : Option Owner) → sees_made v (made_at st) o ≡ false
    by_owner None = refl
    by_owner (Some owner) = ap (λ (b : Bool). b && has_owner v.clock v.viewer owner) unmade

-- views of others through a release and an undoing
pub release_held : (s k : ℕ) (old new : Transactions) → 1 ≤ k → Turns (release s k) old new → (v : Snapshot) (st : Stamp) → IsIssued old st → looks_as s v.viewer ≡ false → sees_stamp new v st ≡ sees_stamp old v st
release_held s k old new low turns v st given apart = release_views s k old new low turns v st given ∙ ap (λ (w : Viewer). sees_stamp old (view_at v.clock w) st) (release_spares s k v.viewer apart)

pub undo_held : (s k : ℕ) (old new : Transactions) → Turns (undo s k) old new → (v : Snapshot) (st : Stamp) → IsIssued old st → looks_as s v.viewer ≡ false → sees_stamp new v st ≡ sees_stamp old v st
undo_held s k old new turns v st given apart = undo_views s k old new turns v st given ∙ ap (λ (w : Viewer). sees_stamp old (view_at v.clock w) st) (undo_spares s k v.viewer apart)
