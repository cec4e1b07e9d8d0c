-- Versions stand for edits through every end.
use Rattle.std.proofs.Common.{ℕ, ◌≤◌, ◌≡◌, inl, inr, Bool, true, false, cond, List, [], ◌∷◌, ◌++◌, map, Option, Some, None, refl, ap, sym, subst, ◌∙◌, arith}
use Rattle.std.specs.Prelude.{◌||◌, option_and_then, filter}
use Rattle.std.proofs.lemmas.Bool.{false≢true}
use Rattle.std.proofs.lemmas.Bool.Decides.{nat_tests}
use Rattle.std.proofs.lemmas.List.Folds.{list_any-append}
use Rattle.lo_model.specs.declared.owner.Owner.{Owner}
use Rattle.lo_model.specs.declared.owner.Owner.TheVariants.{Running, Committed}
use Rattle.lo_model.specs.declared.viewer.Viewer.{Viewer}
use Rattle.lo_model.specs.declared.viewer.Viewer.TheVariants.{Nobody, Whole, Below}
use Rattle.lo_model.specs.Edit.{Edit}
use Rattle.lo_model.specs.Levels.{released_owner, committed_owner}
use Rattle.lo_model.specs.View.{sees, view}
use Rattle.xact_core.specs.declared.snapshot.Snapshot.{Snapshot}
use Rattle.xact_core.specs.Ends.{Turns, same, release, undo, commit_at}
use Rattle.xact_core.specs.Kept.{kept_views}
use Rattle.xact_core.specs.Laws.{before_release, before_undo}
use Rattle.xact_core.specs.Stamp.{owner_of, IsIssued, sees_made}
use Rattle.xact_core.specs.Transactions.{Transactions}
use Rattle.row_versions.specs.Stack.{Each, IsStack, owned, left_of, turned, KeepsStacks}
use Rattle.row_versions.specs.Looks.{SeesAsBefore, IsCoveredBy}
use Rattle.row_versions.specs.Vacuum.{is_open_to, any_open, reclaimed}
use Rattle.row_versions.specs.Stands.{OpensAs, Version, edit_of, standing_of, standing, Fits, after_all, Agrees, HasMark, IsLinked, some_open, BusyAlike, opens_if, before_commit, replaces, StandsAt}
use Rattle.row_versions.proofs.Stacking.{each_more, stack_turned}
use Rattle.row_versions.proofs.Vacuuming.{reclaimed_any_open}

-- an end turns what versions stand for by_viewer it turns edits

standing_turned_one : {D : Type 0} (turn : Owner → Option Owner) (v : Version D) (o : Option Owner) (rest : List (Edit D)) → standing_of (option_and_then turn o) v (turned turn rest) ≡ turned turn (standing_of o v rest)
standing_turned_one turn v None rest = refl
standing_turned_one {D} turn v (Some w) rest = by_turn (turn w)
  where
    by_turn : (o : Option Owner) → standing_of o v (turned turn rest) ≡ left_of o (edit_of v w) (turned turn rest)
    by_turn None = refl
    by_turn (Some u) = refl

pub standing_turned : {D : Type 0} (turn : Owner → Option Owner) (old new : Transactions) (vs : List (Version D)) → Turns turn old new → Fits old vs → standing new vs ≡ turned turn (standing old vs)
standing_turned turn old new [] turns fits = refl
standing_turned turn old new (v ∷ vs) turns fits = rw (turns.owners v.stamp fits.0, standing_turned turn old new vs turns fits.1) (standing_turned_one turn v (owner_of old v.stamp) (standing old vs))

pub fits_turned : {D : Type 0} (turn : Owner → Option Owner) (old new : Transactions) (vs : List (Version D)) → Turns turn old new → Fits old vs → Fits new vs
fits_turned {D} turn old new vs turns fits = each_more (λ (v : Version D). IsIssued old v.stamp) (λ (v : Version D). IsIssued new v.stamp) (λ v given. turns.issued v.stamp given) vs fits

-- links

mark_each : {E : Type 0} (R : ℕ → Owner → Type 0) (c : ℕ) (w : Owner) (ys : List (Edit E)) → Each (λ (f : Edit E). R f.clock f.owner) ys → HasMark c w ys → R c w
mark_each R c w [] h mark = absurd mark
mark_each R c w (f ∷ fs) h (inl is) = subst (λ (v : Owner). R c v) is.1 (subst (λ (n : ℕ). R n f.owner) is.0 h.0)
mark_each R c w (f ∷ fs) h (inr later) = mark_each R c w fs h.1 later

pub linked_each : {D E : Type 0} (R : ℕ → Owner → Type 0) (xs : List (Edit D)) (ys : List (Edit E)) → Each (λ (f : Edit E). R f.clock f.owner) ys → IsLinked xs ys → Each (λ (e : Edit D). R e.clock e.owner) xs
linked_each {D} R xs ys h link = each_more (λ (e : Edit D). HasMark e.clock e.owner ys) (λ (e : Edit D). R e.clock e.owner) (λ e mark. mark_each R e.clock e.owner ys h mark) xs link

mark_turned : {E : Type 0} (turn : Owner → Option Owner) (c : ℕ) (w u : Owner) → turn w ≡ Some u → (ys : List (Edit E)) → HasMark c w ys → HasMark c u (turned turn ys)
mark_turned turn c w u is [] mark = absurd mark
mark_turned {E} turn c w u is (f ∷ fs) (inl at) = by_turn (turn f.owner) (ap turn at.1 ∙ is)
  where
    by_turn : (o : Option Owner) → o ≡ Some u → HasMark c u (left_of o f (turned turn fs))
    by_turn o made = subst (λ (p : Option Owner). HasMark c u (left_of p f (turned turn fs))) (sym made) (inl (at.0, refl))
mark_turned {E} turn c w u is (f ∷ fs) (inr later) = by_turn (turn f.owner) (mark_turned turn c w u is fs later)
  where
    by_turn : (o : Option Owner) → HasMark c u (turned turn fs) → HasMark c u (left_of o f (turned turn fs))
    by_turn None rest = rest
    by_turn (Some v) rest = inr rest

pub linked_turned : {D E : Type 0} (turn : Owner → Option Owner) (xs : List (Edit D)) (ys : List (Edit E)) → IsLinked xs ys → IsLinked (turned turn xs) (turned turn ys)
linked_turned turn [] ys link = tt
linked_turned {D} {E} turn (e ∷ es) ys link = by_turn (turn e.owner) refl (linked_turned turn es ys link.1)
  where
    by_turn : (o : Option Owner) → turn e.owner ≡ o → IsLinked (turned turn es) (turned turn ys) → IsLinked (left_of o e (turned turn es)) (turned turn ys)
    by_turn None is rest = rest
    by_turn (Some w) is rest = (mark_turned turn e.clock e.owner w is ys link.0, rest)

-- what views make of a place

after_turned : {D S : Type 0} (after : S → ℕ → D → S) (turn : Owner → Option Owner) (v u : Snapshot) (old : S) (es : List (Edit D)) → Each (SeesAsBefore turn v u) es → after_all after old (view v.clock v.viewer (turned turn es)) ≡ after_all after old (view u.clock u.viewer es)
after_turned after turn v u old [] alike = refl
after_turned {D} {S} after turn v u old (e ∷ es) alike = by_turn (turn e.owner) (sees u.clock u.viewer e.clock e.owner) alike.0 refl (λ was. after_turned after turn v u was es alike.1)
  where
    by_seen : (b c : Bool) (w : Owner) → sees v.clock v.viewer e.clock w ≡ b → b ≡ c → ((was : S) → after_all after was (view v.clock v.viewer (turned turn es)) ≡ after_all after was (view u.clock u.viewer es)) → after_all after old (cond b (owned w e ∷ view v.clock v.viewer (turned turn es)) (view v.clock v.viewer (turned turn es))) ≡ after_all after old (cond c (e ∷ view u.clock u.viewer es) (view u.clock u.viewer es))
    by_seen true true w at is left = left (after old e.clock e.deed)
    by_seen false false w at is left = left old
    by_seen true false w at is left = absurd (false≢true (sym is))
    by_seen false true w at is left = absurd (false≢true is)

    by_turn : (o : Option Owner) (c : Bool) → sees_made v e.clock o ≡ c → sees u.clock u.viewer e.clock e.owner ≡ c → ((was : S) → after_all after was (view v.clock v.viewer (turned turn es)) ≡ after_all after was (view u.clock u.viewer es)) → after_all after old (view v.clock v.viewer (left_of o e (turned turn es))) ≡ after_all after old (view u.clock u.viewer (e ∷ es))
    by_turn None true unseen at left = absurd (false≢true unseen)
    by_turn None false unseen at left = rw at (left old)
    by_turn (Some w) c seen at left = rw at (by_seen (sees v.clock v.viewer e.clock w) c w refl seen left)

pub agrees_turned : {D E S : Type 0} (W W' : Snapshot → Type 0) (after : S → ℕ → D → S) (after' : S → ℕ → E → S) (first : S) (turn : Owner → Option Owner) (xs : List (Edit D)) (ys : List (Edit E)) → ((v : Snapshot) → W' v → IsCoveredBy W turn ys v) → IsLinked xs ys → Agrees W after after' first xs ys → Agrees W' after after' first (turned turn xs) (turned turn ys)
agrees_turned {D} {E} W W' after after' first turn xs ys covers link agrees = record { same = λ v kept. by_cover v (covers v kept) }
  where
    by_cover : (v : Snapshot) → IsCoveredBy W turn ys v → after_all after first (view v.clock v.viewer (turned turn xs)) ≡ after_all after' first (view v.clock v.viewer (turned turn ys))
    by_cover v covered =
        after_turned after turn v covered.before first xs (linked_each (λ (c : ℕ) (w : Owner). sees_made v c (turn w) ≡ sees covered.before.clock covered.before.viewer c w) xs ys covered.alike link)
        ∙ (agrees.same covered.before covered.kept
        ∙ sym (after_turned after' turn v covered.before first ys covered.alike))

-- for whom a place is open

pub open_turned : {D : Type 0} (turn : Owner → Option Owner) (before : Viewer → Viewer) → OpensAs turn before → (viewer : Viewer) (es : List (Edit D)) → any_open viewer (turned turn es) ≡ any_open (before viewer) es
open_turned turn before by_viewer viewer [] = refl
open_turned {D} turn before by_viewer viewer (e ∷ es) = by_turn (turn e.owner) (by_viewer.opens viewer e.owner) (open_turned turn before by_viewer viewer es)
  where
    by_turn : (o : Option Owner) → opens_if viewer o ≡ is_open_to (before viewer) e.owner → any_open viewer (turned turn es) ≡ any_open (before viewer) es → any_open viewer (left_of o e (turned turn es)) ≡ any_open (before viewer) (e ∷ es)
    by_turn None is rest = rw (sym is) rest
    by_turn (Some w) is rest = rw (is, rest) refl

pub some_turned : {D : Type 0} (turn : Owner → Option Owner) (before : Viewer → Viewer) → OpensAs turn before → (viewer : Viewer) (keys : List (List (Edit D))) → some_open viewer (map (turned turn) keys) ≡ some_open (before viewer) keys
some_turned turn before by_viewer viewer [] = refl
some_turned turn before by_viewer viewer (es ∷ keys) = rw (open_turned turn before by_viewer viewer es, some_turned turn before by_viewer viewer keys) refl

pub busy_turned : {D E : Type 0} (turn : Owner → Option Owner) (before : Viewer → Viewer) → OpensAs turn before → (keys : List (List (Edit D))) (ys : List (Edit E)) → BusyAlike keys ys → BusyAlike (map (turned turn) keys) (turned turn ys)
busy_turned turn before by_viewer keys ys alike = record { alike = λ viewer. some_turned turn before by_viewer viewer keys ∙ (alike.alike (before viewer) ∙ sym (open_turned turn before by_viewer viewer ys)) }

-- and through a reclamation
pub some_reclaimed : {D : Type 0} (erases : D → Bool) (x : Transactions) (viewer : Viewer) (keys : List (List (Edit D))) → Each (IsStack x) keys → some_open viewer (map (reclaimed erases (kept_views x)) keys) ≡ some_open viewer keys
some_reclaimed erases x viewer [] stacks = refl
some_reclaimed erases x viewer (es ∷ keys) stacks = rw (reclaimed_any_open erases x viewer es stacks.0, some_reclaimed erases x viewer keys stacks.1) refl

pub busy_reclaimed : {D E : Type 0} (erases : D → Bool) (x : Transactions) (keys : List (List (Edit D))) (ys : List (Edit E)) → Each (IsStack x) keys → BusyAlike keys ys → BusyAlike (map (reclaimed erases (kept_views x)) keys) ys
busy_reclaimed erases x keys ys stacks alike = record { alike = λ viewer. some_reclaimed erases x viewer keys stacks ∙ alike.alike viewer }

-- one of the keys has one more, and so has the place
pub busy_pushed : {D E : Type 0} (keys more : List (List (Edit D))) (es : List (Edit D)) (ys : List (Edit E)) (c d : ℕ) (w : Owner) (put : D) (deed : E) → BusyAlike (keys ++ es ∷ more) ys → BusyAlike (keys ++ (es ++ record { clock = c; owner = w; deed = put } ∷ []) ∷ more) (ys ++ record { clock = d; owner = w; deed = deed } ∷ [])
busy_pushed {D} {E} keys more es ys c d w put deed alike = record { alike = λ viewer. both viewer }
  where
    new : Edit D
    new = record { clock = c; owner = w; deed = put }

    made : Edit E
    made = record { clock = d; owner = w; deed = deed }

    arranged : (a b m n : Bool) → (a || ((b || (m || false)) || n)) ≡ ((a || (b || n)) || (m || false))
    arranged true b m n = refl
    arranged false true m n = refl
    arranged false false true true = refl
    arranged false false true false = refl
    arranged false false false true = refl
    arranged false false false false = refl

    both : (viewer : Viewer) → some_open viewer (keys ++ (es ++ new ∷ []) ∷ more) ≡ any_open viewer (ys ++ made ∷ [])
    both viewer =
        list_any-append (any_open viewer) keys ((es ++ new ∷ []) ∷ more)
        ∙ (ap (λ (b : Bool). some_open viewer keys || (b || some_open viewer more)) (list_any-append (λ (e : Edit D). is_open_to viewer e.owner) es (new ∷ []))
        ∙ (arranged (some_open viewer keys) (any_open viewer es) (is_open_to viewer w) (some_open viewer more)
        ∙ (ap (λ (b : Bool). b || (is_open_to viewer w || false)) (sym (list_any-append (any_open viewer) keys (es ∷ more)) ∙ alike.alike viewer)
        ∙ sym (list_any-append (λ (e : Edit E). is_open_to viewer e.owner) ys (made ∷ [])))))

pub opens_same : OpensAs same (λ viewer. viewer)
opens_same = record { opens = λ viewer w. refl }

pub opens_release : (s k : ℕ) → 1 ≤ k → OpensAs (release s k) (before_release s k)
opens_release s k low = record { opens = opens }
  where
    opens : (viewer : Viewer) (w : Owner) → is_open_to viewer (released_owner s k w) ≡ is_open_to (before_release s k viewer) w
    opens viewer (Committed c) = refl
    opens Nobody (Running u m) = grind (arith, nat_tests)
    opens (Whole t) (Running u m) = grind (arith, nat_tests)
    opens (Below t l) (Running u m) = grind (arith, nat_tests)

pub opens_undo : (s k : ℕ) → OpensAs (undo s k) (before_undo s k)
opens_undo s k = record { opens = opens }
  where
    opens : (viewer : Viewer) (w : Owner) → opens_if viewer (undo s k w) ≡ is_open_to (before_undo s k viewer) w
    opens viewer (Committed c) = refl
    opens Nobody (Running u m) = grind (arith, nat_tests)
    opens (Whole t) (Running u m) = grind (arith, nat_tests)
    opens (Below t l) (Running u m) = grind (arith, nat_tests)

pub opens_commit : (s c : ℕ) → OpensAs (commit_at s c) (before_commit s)
opens_commit s c = record { opens = opens }
  where
    opens : (viewer : Viewer) (w : Owner) → is_open_to viewer (committed_owner s c w) ≡ is_open_to (before_commit s viewer) w
    opens viewer (Committed d) = refl
    opens Nobody (Running u m) = grind (arith, nat_tests)
    opens (Whole t) (Running u m) = grind (arith, nat_tests)
    opens (Below t l) (Running u m) = grind (arith, nat_tests)

-- the relation through an end

pub stands_turned : {D E S : Type 0} (W W' : Snapshot → Type 0) (value : ℕ → D → S) (after : S → ℕ → E → S) (first : S) (turn : Owner → Option Owner) (old new : Transactions) (vs : List (Version D)) (ys : List (Edit E)) → KeepsStacks turn old new → Turns turn old new → ((v : Snapshot) → W' v → IsCoveredBy W turn ys v) → StandsAt W old value after first vs ys → StandsAt W' new value after first vs (turned turn ys)
stands_turned {D} {E} {S} W W' value after first turn old new vs ys keeps turns covers stands =
    let are : standing new vs ≡ turned turn (standing old vs) = standing_turned turn old new vs turns stands.fits in
    record {
      fits = fits_turned turn old new vs turns stands.fits;
      versions = rw are (stack_turned turn old new keeps (standing old vs) stands.versions);
      edits = stack_turned turn old new keeps ys stands.edits;
      linked = rw are (linked_turned turn (standing old vs) ys stands.linked);
      same = rw are (agrees_turned W W' (replaces value) after first turn (standing old vs) ys covers stands.linked stands.same);
    }

-- the edits of a place, through an end
pub at_turned : {D : Type 0} (touches : D → Bool) (turn : Owner → Option Owner) (es : List (Edit D)) → filter (λ (e : Edit D). touches e.deed) (turned turn es) ≡ turned turn (filter (λ (e : Edit D). touches e.deed) es)
at_turned touches turn [] = refl
at_turned {D} touches turn (e ∷ es) = by_both (turn e.owner) (touches e.deed) refl refl (at_turned touches turn es)
  where
    by_both : (o : Option Owner) (b : Bool) → turn e.owner ≡ o → touches e.deed ≡ b → filter (λ (f : Edit D). touches f.deed) (turned turn es) ≡ turned turn (filter (λ (f : Edit D). touches f.deed) es) → filter (λ (f : Edit D). touches f.deed) (turned turn (e ∷ es)) ≡ turned turn (filter (λ (f : Edit D). touches f.deed) (e ∷ es))
    by_both None true is at rest = rw (at, is) rest
    by_both None false is at rest = rw (at, is) rest
    by_both (Some w) true is at rest = rw (at, is, at) (ap (λ fs. owned w e ∷ fs) rest)
    by_both (Some w) false is at rest = rw (at, is, at) rest
