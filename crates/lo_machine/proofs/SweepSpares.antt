-- What an advance of a clean-up leaves where no other session has a transaction block: the objects that it does not unlink are
-- still there, and so nothing is in the way of their unlinks.
use Rattle.std.proofs.Common.{◌≡◌, ◌≢◌, refl, sym, ap, ◌∙◌, ℕ, pos, ◌==◌, Bool, true, false, not, ◌&&◌, ◌||◌, cond, ◌⊎◌, inl, inr, List, [], ◌∷◌, ◌++◌, length, map, Option, Some, None, arith}
use Rattle.std.specs.Prelude.{is_some, filter, All, if◌then◌else◌}
use Rattle.std.specs.List.{list_any}
use Rattle.std.proofs.lemmas.Bool.{cases_eq}
use Rattle.std.proofs.lemmas.Bool.Decides.{nat_tests}
use Rattle.std.proofs.lemmas.List.{map-append}
use Rattle.std.proofs.lemmas.List.Elements.{All-head, All-tail}
use Rattle.lo_base.specs.declared.refusal.Cause.TheVariants.{Failed, NoObject}
use Rattle.lo_base.specs.declared.refusal.Refusal.{Refusal}
use Rattle.lo_base.specs.declared.request.Request.{Request}
use Rattle.lo_base.specs.declared.request.Request.TheVariants.{Step, Finish}
use Rattle.lo_calls.specs.Terms.{when, no_object, busy_for, held_by_session}
use Rattle.lo_model.specs.declared.owner.Owner.{Owner}
use Rattle.lo_model.specs.declared.owner.Owner.TheVariants.{Running, Committed}
use Rattle.lo_model.specs.declared.viewer.Viewer.TheVariants.{Whole}
use Rattle.lo_model.specs.Database.{Database}
use Rattle.lo_model.specs.Edit.{Deed, Unlink, Edit, edits_by, deeds}
use Rattle.lo_model.specs.Held.{need_of}
use Rattle.lo_model.specs.Levels.{owned_by, committed_owner}
use Rattle.lo_model.specs.Listing.{has_object}
use Rattle.lo_model.specs.Object.{object_after, object_after_all, object_in}
use Rattle.lo_model.specs.Session.{Session}
use Rattle.lo_model.specs.Touch.{Touched, touched, meets, other_session, lower_of, busy_with}
use Rattle.lo_model.specs.Transaction.{is_open}
use Rattle.lo_model.specs.View.{has_owner, sees_edit}
use Rattle.lo_pages.specs.Outcome.{first_of}
use Rattle.orphan_sweep.specs.declared.act.SweepAct.{SweepAct}
use Rattle.orphan_sweep.specs.declared.act.SweepAct.TheVariants as acts
use Rattle.orphan_sweep.specs.Plan.{unlinked_by}
use Rattle.lo_machine.specs.CallRows.{here}
use Rattle.lo_machine.specs.Row.{objects_here}
use Rattle.lo_machine.specs.Run.{Moment, moment_after}
use Rattle.lo_machine.specs.State.{State, Player, now, edits, session_of, view_of, owner_in}
use Rattle.lo_machine.specs.Step.{failed, may_go_on, refusal_of}
use Rattle.lo_machine.specs.SweepRows.{act_of, act_refusals, act_granted}
use Rattle.lo_machine.specs.Terms.{held_count, short_of, pool_short}
use Rattle.lo_machine.specs.TransactionRows.{begun, committed_in, rolled_back}
use Rattle.lo_machine.specs.Well.{IsOwner, IsPast}
use Rattle.lo_machine.specs.SweepLaw.{is_act_line, does_act}
use Rattle.lo_machine.proofs.SweepActs.{other_player}
use Rattle.lo_machine.proofs.SweepGroups.{Leaves, leaves}
use Rattle.lo_machine.proofs.SweepObjects.{both_and}
use Rattle.lo_machine.proofs.SweepPast.{ArePast, past_advance}
use Rattle.lo_machine.proofs.SweepViews.{there_still}
use Rattle.lo_machine.proofs.WellSessions.{none_open}

-- no other session has a block of its own
abbrev pub AreClosed : State → (session : ℕ) → Type 0
AreClosed st s = (t : ℕ) → t ≢ s → is_open (session_of st t).transaction ≡ false

-- Then each edit is the session's own or committed.

record IsVisible (st : State) (s : ℕ) (owner : Owner) : Type 0 where
  free : other_session s owner ≡ None
  seen : has_owner (now st) (Whole s) owner ≡ true

visible : (st : State) (s : ℕ) → AreClosed st s → (owner : Owner) → IsOwner (now st) (session_of st) owner → IsVisible st s owner
visible st s closed (Committed c) own = record { free = refl; seen = grind (arith, nat_tests, own) }
visible st s closed (Running t l) own = by (cases_eq t s)
  where
    by : (t ≡ s) ⊎ (t ≢ s) → IsVisible st s (Running t l)
    by (inl same) =
        let is : (t == s) ≡ true = grind (arith, nat_tests, same) in
        record { free = ap (λ b. if b then None else Some t) is; seen = is }
    by (inr other) =
        let none : length (session_of st t).transaction.levels ≡ 0 = ap length (none_open (session_of st t).transaction.levels (closed t other)) in
        absurd (omega (arith, own.0, own.1, none))

all_pass : (p : Edit Deed → Bool) (P : Edit Deed → Type 0) → ((e : Edit Deed) → P e → p e ≡ true) → (es : List (Edit Deed)) → All P es → filter p es ≡ es
all_pass p P each [] all = refl
all_pass p P each (e ∷ es) all =
    ap (λ b. cond b (e ∷ filter p es) (filter p es)) (each e (All-head P e es all)) ∙ ap (λ xs. e ∷ xs) (all_pass p P each es (All-tail P e es all))

-- so its current view has them all
pub whole_view : (st : State) (s : ℕ) → ArePast st → AreClosed st s → view_of st s ≡ edits st
whole_view st s past closed = all_pass (sees_edit (now st) (Whole s)) (IsPast (now st) (session_of st)) each (edits st) past.past
  where
    each : (e : Edit Deed) → IsPast (now st) (session_of st) e → sees_edit (now st) (Whole s) e ≡ true
    each e is =
        let made = is.made in
        both_and _ (has_owner (now st) (Whole s) e.owner) (grind (arith, nat_tests, made)) (visible st s closed e.owner is.owner).seen

-- and nothing is held by another one
none_holds : (s : ℕ) (wanted : Touched) (P : Edit Deed → Type 0) → ((e : Edit Deed) → P e → other_session s e.owner ≡ None) → (es : List (Edit Deed)) → All P es → busy_with s wanted es ≡ None
none_holds s wanted P each [] all = refl
none_holds s wanted P each (e ∷ es) all =
    ap (λ a. lower_of a (busy_with s wanted es)) (by (meets wanted (touched e.deed)))
    ∙ none_holds s wanted P each es (All-tail P e es all)
  where
    by : (b : Bool) → (if b then other_session s e.owner else None) ≡ None
    by true = each e (All-head P e es all)
    by false = refl

-- A state in which no other session has a block, and a clean-up's block is not failed, with an object.
pub record IsReady (st : State) (s oid : ℕ) : Type 0 where
  pub past : ArePast st
  pub closed : AreClosed st s
  pub unfailed : (session_of st s).transaction.failed ≡ false
  pub there : has_object (edits st) oid ≡ true

-- There the unlink of the object is not refused.

nones : (a b c d : Option Refusal) → a ≡ None → b ≡ None → c ≡ None → d ≡ None → first_of (a ∷ b ∷ c ∷ d ∷ []) ≡ None
nones a b c d first second third fourth = rw (first, second, third, fourth) refl

none_short : (clock o held : ℕ) (blocks : Option ℕ) → short_of blocks (need_of clock (Unlink o ∷ [])) held ≡ None
none_short clock o held None = refl
none_short clock o held (Some blocks) = refl

module _ (st : State) (s o : ℕ) (ready : IsReady st s o) where
  unfailed_term : (r : Request) → failed st s r ≡ None
  unfailed_term r = ap (λ b. when (b && not (may_go_on st s r)) Failed (pos 0)) ready.unfailed

  there_term : no_object (objects_here (here st s)) o ≡ None
  there_term = ap (λ b. when (not b) NoObject (pos o)) (ap (λ v. has_object v o) (whole_view st s ready.past ready.closed) ∙ ready.there)

  free_term : busy_for (objects_here (here st s)) (Unlink o ∷ []) ≡ None
  free_term =
      ap (λ a. held_by_session (lower_of a None))
      (none_holds s (touched (Unlink o)) (IsPast (now st) (session_of st)) (λ e is. (visible st s ready.closed e.owner is.owner).free) (edits st) ready.past.past)

  unlink_terms : (r : Request) → first_of (failed st s r ∷ act_refusals st s (acts.Unlink o)) ≡ None
  unlink_terms r =
      nones (failed st s r) (no_object (objects_here (here st s)) o) (busy_for (objects_here (here st s)) (Unlink o ∷ [])) (pool_short st (Unlink o ∷ []))
      (unfailed_term r) there_term free_term (none_short (now st) o (held_count st) st.blocks)

  pub unlink_unrefused : (r : Request) → is_act_line r ≡ true → act_of st s ≡ acts.Unlink o → refusal_of st s r ≡ None
  unlink_unrefused Step does is = ap (λ a. first_of (failed st s Step ∷ act_refusals st s a)) is ∙ unlink_terms Step
  unlink_unrefused Finish does is = ap (λ a. first_of (failed st s Finish ∷ act_refusals st s a)) is ∙ unlink_terms Finish
  unlink_unrefused r does is = cc

-- What the acts leave.

abbrev pub is_rollback : SweepAct → Bool
is_rollback (acts.Scan table column) = false
is_rollback acts.Begin = false
is_rollback (acts.Unlink o) = false
is_rollback acts.Commit = false
is_rollback acts.Rollback = true
is_rollback acts.Report = false
is_rollback acts.Idle = false

deeds_owned : (change : Owner → Owner) (es : List (Edit Deed)) → deeds (map (owned_by change) es) ≡ deeds es
deeds_owned change [] = refl
deeds_owned change (e ∷ es) = ap (λ ds. e.deed ∷ ds) (deeds_owned change es)

after_both : (o : ℕ) (old : Option (List ℕ)) (xs ys : List Deed) → object_after_all o old (xs ++ ys) ≡ object_after_all o (object_after_all o old xs) ys
after_both o old [] ys = refl
after_both o old (d ∷ xs) ys = after_both o (object_after o old d) xs ys

there_unlinked : (clock o p : ℕ) (owner : Owner) (es : List (Edit Deed)) → has_object es o ≡ true → (p == o) ≡ false → has_object (es ++ edits_by clock owner (Unlink p ∷ [])) o ≡ true
there_unlinked clock o p owner es there other =
    ap (λ ds. is_some (object_after_all o None ds)) (map-append (λ (e : Edit Deed). e.deed) es (edits_by clock owner (Unlink p ∷ [])))
    ∙ (ap is_some (after_both o None (deeds es) (Unlink p ∷ []))
    ∙ there_still o (object_in o es) (Unlink p) other there)

or_false : (b : Bool) → (b || false) ≡ false → b ≡ false
or_false true h = cc
or_false false h = refl

module _ (st : State) (s o : ℕ) (ready : IsReady st s o) where
  abbrev failing : Bool
  failing = (session_of st s).transaction.failed

  begun_there : (inside : Bool) → has_object (begun st s inside).database.edits o ≡ true
  begun_there true = ready.there
  begun_there false = ready.there

  committed_there : (inside fails : Bool) → fails ≡ false → has_object (committed_in st s inside fails).database.edits o ≡ true
  committed_there false fails not_failed = ready.there
  committed_there true true not_failed = cc
  committed_there true false not_failed =
      ap (λ ds. is_some (object_after_all o None ds)) (deeds_owned (committed_owner s (now st)) (edits st)) ∙ ready.there

  act_there : (act : SweepAct) → is_rollback act ≡ false → list_any (λ n. n == o) (unlinked_by act) ≡ false → has_object (act_granted st s act).database.edits o ≡ true
  act_there (acts.Scan table column) onward other = ready.there
  act_there acts.Begin onward other = begun_there (is_open (session_of st s).transaction)
  act_there (acts.Unlink p) onward other =
      there_unlinked (now st) o p (owner_in (now st) s (session_of st s).transaction.levels) (edits st) ready.there (or_false (p == o) other)
  act_there acts.Commit onward other = committed_there (is_open (session_of st s).transaction) failing ready.unfailed
  act_there acts.Rollback onward other = cc
  act_there acts.Report onward other = ready.there
  act_there acts.Idle onward other = ready.there

  begun_unfailed : (inside : Bool) → (begun st s inside).player.session.transaction.failed ≡ false
  begun_unfailed true = ready.unfailed
  begun_unfailed false = refl

  rolled_back_unfailed : (inside : Bool) → (rolled_back st s inside).player.session.transaction.failed ≡ false
  rolled_back_unfailed true = refl
  rolled_back_unfailed false = ready.unfailed

  committed_unfailed : (inside fails : Bool) → (committed_in st s inside fails).player.session.transaction.failed ≡ false
  committed_unfailed false fails = ready.unfailed
  committed_unfailed true true = refl
  committed_unfailed true false = refl

  act_unfailed : (act : SweepAct) → (act_granted st s act).player.session.transaction.failed ≡ false
  act_unfailed (acts.Scan table column) = ready.unfailed
  act_unfailed acts.Begin = begun_unfailed (is_open (session_of st s).transaction)
  act_unfailed (acts.Unlink p) = ready.unfailed
  act_unfailed acts.Commit = committed_unfailed (is_open (session_of st s).transaction) failing
  act_unfailed acts.Rollback = rolled_back_unfailed (is_open (session_of st s).transaction)
  act_unfailed acts.Report = ready.unfailed
  act_unfailed acts.Idle = ready.unfailed

-- An advance of the clean-up that is not refused, and neither a rollback nor the object's own unlink.
pub ready_after : (m : Moment) (s o : ℕ) (r : Request) → IsReady m.state s o → does_act m.state s (Some r) ≡ true → is_some (refusal_of m.state s r) ≡ false → is_rollback (act_of m.state s) ≡ false → list_any (λ n. n == o) (unlinked_by (act_of m.state s)) ≡ false → IsReady (moment_after m s (Some r)).state s o
ready_after m s o r ready does granted onward other = record {
  past = past_advance m s (Some r) ready.past;
  closed = λ t differ. ap (λ (p : Player). is_open p.session.transaction) (other_player m t s (Some r) (λ same. differ (sym same))) ∙ ready.closed t differ;
  unfailed = ap (λ (one : Session). one.transaction.failed) left.session ∙ act_unfailed m.state s o ready (act_of m.state s);
  there = ap (λ (d : Database). has_object d.edits o) left.database ∙ act_there m.state s o ready (act_of m.state s) onward other;
}
  where
    left : Leaves m.state s r (act_of m.state s)
    left = leaves m.state s r (act_of m.state s) does granted refl
