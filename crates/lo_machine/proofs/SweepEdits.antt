-- Which edits an advance leaves in the list: all of other sessions, and all that are committed.
use Rattle.std.proofs.Common.{◌≡◌, ◌≢◌, refl, sym, ap, ◌∙◌, subst, ℕ, ◌-◌, ◌==◌, Bool, true, false, not, ◌&&◌, nat_le, cond, List, [], ◌∷◌, ◌++◌, map, Option, Some, None, append_assoc, arith}
use Rattle.std.specs.Prelude.{is_some, filter, if◌then◌else◌}
use Rattle.std.proofs.lemmas.Bool.Decides.{nat_tests}
use Rattle.std.proofs.lemmas.List.{map-append}
use Rattle.std.proofs.lemmas.List.Elements.{filter-append}
use Rattle.lo_base.specs.declared.refusal.Refusal.{Refusal}
use Rattle.lo_base.specs.declared.request.Request.{Request}
use Rattle.lo_base.specs.declared.request.Request.TheVariants.{Begin, Commit, Rollback, Savepoint, Release, RollbackTo, Vacuum, Vacuumlo, Step, Finish}
use Rattle.lo_model.specs.declared.owner.Owner.{Owner}
use Rattle.lo_model.specs.declared.owner.Owner.TheVariants.{Running, Committed}
use Rattle.lo_model.specs.Edit.{Deed, Edit}
use Rattle.lo_model.specs.Levels.{is_from_level, owned_by, released_owner, released, stays, undone, committed_owner, committed}
use Rattle.lo_model.specs.Transaction.{is_open, top_level}
use Rattle.orphan_sweep.specs.declared.act.SweepAct.{SweepAct}
use Rattle.orphan_sweep.specs.declared.act.SweepAct.TheVariants as acts
use Rattle.orphan_sweep.specs.History.{History}
use Rattle.lo_machine.specs.Run.{Moment, next_line, moment_after, end_from}
use Rattle.lo_machine.specs.State.{State, Outcome, now, edits, session_of, refused, refused_in}
use Rattle.lo_machine.specs.Step.{granted, refusal_of, granted_or_refused, told_sweep, state_after}
use Rattle.lo_machine.specs.SweepRows.{act_of, act_granted, told_of}
use Rattle.lo_machine.specs.TransactionRows.{level_named, level_or_0, begun, rolled_back, committed_in}
use Rattle.lo_machine.specs.SweepLaw.{HasEdit}

-- Lists of edits.

pub has_more : (es more : List (Edit Deed)) (deed : Deed) (owner : Owner) → HasEdit es deed owner → HasEdit (es ++ more) deed owner
has_more es more deed owner has = record {
  before = has.before;
  edit = has.edit;
  after = has.after ++ more;
  is = ap (λ xs. xs ++ more) has.is ∙ append_assoc has.before (has.edit ∷ has.after) more;
  does = has.does;
  owned = has.owned;
}

pub has_owned : (es : List (Edit Deed)) (deed : Deed) (owner : Owner) (change : Owner → Owner) → HasEdit es deed owner → HasEdit (map (owned_by change) es) deed (change owner)
has_owned es deed owner change has = record {
  before = map (owned_by change) has.before;
  edit = owned_by change has.edit;
  after = map (owned_by change) has.after;
  is = ap (map (owned_by change)) has.is ∙ map-append (owned_by change) has.before (has.edit ∷ has.after);
  does = has.does;
  owned = ap change has.owned;
}

has_stayed : (es : List (Edit Deed)) (deed : Deed) (owner : Owner) (s k : ℕ) → is_from_level s k owner ≡ false → HasEdit es deed owner → HasEdit (undone s k es) deed owner
has_stayed es deed owner s k other has =
    let stays' : stays s k has.edit ≡ true = ap (λ o. not (is_from_level s k o)) has.owned ∙ ap not other in
    record {
      before = undone s k has.before;
      edit = has.edit;
      after = undone s k has.after;
      is = ap (filter (stays s k)) has.is ∙ (filter-append (stays s k) has.before (has.edit ∷ has.after) ∙ ap (λ b. undone s k has.before ++ cond b (has.edit ∷ undone s k has.after) (undone s k has.after)) stays');
      does = has.does;
      owned = has.owned;
    }

-- an owner that is no open transaction of a session
abbrev pub IsForeign : (session : ℕ) → Owner → Type 0
IsForeign s owner = (k : ℕ) → is_from_level s k owner ≡ false

pub committed_foreign : (s c : ℕ) → IsForeign s (Committed c)
committed_foreign s c k = refl

pub running_foreign : (s t level : ℕ) → t ≢ s → IsForeign t (Running s level)
running_foreign s t level other k =
    let differ : (s == t) ≡ false = grind (arith, nat_tests, other) in
    ap (λ b. b && nat_le k level) differ

has_released : (es : List (Edit Deed)) (deed : Deed) (owner : Owner) (s k : ℕ) → IsForeign s owner → HasEdit es deed owner → HasEdit (released s k es) deed owner
has_released es deed owner s k foreign has =
    subst (HasEdit (released s k es) deed) (ap (λ b. if b then Running s (k - 1) else owner) (foreign k)) (has_owned es deed owner (released_owner s k) has)

has_committed : (es : List (Edit Deed)) (deed : Deed) (owner : Owner) (s clock : ℕ) → IsForeign s owner → HasEdit es deed owner → HasEdit (committed s clock es) deed owner
has_committed es deed owner s clock foreign has =
    subst (HasEdit (committed s clock es) deed) (ap (λ b. if b then Committed clock else owner) (foreign 0)) (has_owned es deed owner (committed_owner s clock) has)

-- One request.

module _ (st : State) (s : ℕ) (deed : Deed) (owner : Owner) (foreign : IsForeign s owner) (has : HasEdit (edits st) deed owner) where
  abbrev keeps : Outcome → Type 0
  keeps done = HasEdit done.database.edits deed owner

  refused_keeps : (r : Refusal) → keeps (refused st s r)
  refused_keeps r = by (is_open (session_of st s).transaction)
    where
      by : (inside : Bool) → keeps (refused_in st s inside r)
      by false = has
      by true = has_stayed (edits st) deed owner s (top_level (session_of st s).transaction) (foreign (top_level (session_of st s).transaction)) has

  begun_keeps : (inside : Bool) → keeps (begun st s inside)
  begun_keeps true = has
  begun_keeps false = has

  rolled_back_keeps : (inside : Bool) → keeps (rolled_back st s inside)
  rolled_back_keeps false = has
  rolled_back_keeps true = has_stayed (edits st) deed owner s 1 (foreign 1) has

  committed_keeps : (inside failed : Bool) → keeps (committed_in st s inside failed)
  committed_keeps false failed = has
  committed_keeps true true = rolled_back_keeps true
  committed_keeps true false = has_committed (edits st) deed owner s (now st) foreign has

  act_keeps : (act : SweepAct) → keeps (act_granted st s act)
  act_keeps (acts.Scan table column) = has
  act_keeps acts.Begin = begun_keeps (is_open (session_of st s).transaction)
  act_keeps (acts.Unlink o) = has_more (edits st) _ deed owner has
  act_keeps acts.Commit = committed_keeps (is_open (session_of st s).transaction) (session_of st s).transaction.failed
  act_keeps acts.Rollback = rolled_back_keeps (is_open (session_of st s).transaction)
  act_keeps acts.Report = has
  act_keeps acts.Idle = has

  granted_keeps : (r : Request) → keeps (granted st s r)
  granted_keeps Begin = begun_keeps (is_open (session_of st s).transaction)
  granted_keeps Commit = committed_keeps (is_open (session_of st s).transaction) (session_of st s).transaction.failed
  granted_keeps Rollback = rolled_back_keeps (is_open (session_of st s).transaction)
  granted_keeps (Savepoint name) = has
  granted_keeps (Release name) = has_released (edits st) deed owner s (level_or_0 (level_named st s name)) foreign has
  granted_keeps (RollbackTo name) = has_stayed (edits st) deed owner s (level_or_0 (level_named st s name)) (foreign (level_or_0 (level_named st s name))) has
  granted_keeps Vacuum = has
  granted_keeps (Vacuumlo dry limit) = has
  granted_keeps Step = act_keeps (act_of st s)
  granted_keeps Finish = act_keeps (act_of st s)
  granted_keeps r = has_more (edits st) _ deed owner has

  done_keeps : (r : Request) (refusal : Option Refusal) → keeps (granted_or_refused st s r refusal)
  done_keeps r None = granted_keeps r
  done_keeps r (Some refusal) = refused_keeps refusal

-- what a clean-up is told changes neither the database nor the transaction
pub same_database : (st : State) (s : ℕ) (act : SweepAct) (is_refused : Bool) (done : Outcome) → (told_of st s act is_refused done).database ≡ done.database
same_database st s (acts.Scan table column) is_refused done = refl
same_database st s acts.Begin is_refused done = refl
same_database st s (acts.Unlink o) is_refused done = refl
same_database st s acts.Commit is_refused done = refl
same_database st s acts.Rollback is_refused done = refl
same_database st s acts.Report is_refused done = refl
same_database st s acts.Idle is_refused done = refl

pub told_session : (st : State) (s : ℕ) (act : SweepAct) (refused : Bool) (sweep : Option History) (o : Outcome) → (st.players s).sweep ≡ sweep → (told_of st s act refused o).player.session ≡ o.player.session
told_session st s (acts.Scan t c) refused None o is = rw is refl
told_session st s (acts.Scan t c) refused (Some h) o is = rw is refl
told_session st s acts.Begin refused None o is = rw is refl
told_session st s acts.Begin refused (Some h) o is = rw is refl
told_session st s (acts.Unlink n) refused None o is = rw is refl
told_session st s (acts.Unlink n) refused (Some h) o is = rw is refl
told_session st s acts.Commit refused None o is = rw is refl
told_session st s acts.Commit refused (Some h) o is = rw is refl
told_session st s acts.Rollback refused None o is = rw is refl
told_session st s acts.Rollback refused (Some h) o is = rw is refl
told_session st s acts.Report refused None o is = rw is refl
told_session st s acts.Report refused (Some h) o is = rw is refl
told_session st s acts.Idle refused sweep o is = refl

pub told_database : (st : State) (s : ℕ) (r : Request) (is_refused : Bool) (done : Outcome) → (told_sweep st s r is_refused done).database ≡ done.database
told_database st s Step is_refused done = same_database st s (act_of st s) is_refused done
told_database st s Finish is_refused done = same_database st s (act_of st s) is_refused done
told_database st s r is_refused done = refl

pub told_line_session : (st : State) (s : ℕ) (r : Request) (is_refused : Bool) (done : Outcome) → (told_sweep st s r is_refused done).player.session ≡ done.player.session
told_line_session st s Step is_refused done = told_session st s (act_of st s) is_refused (st.players s).sweep done refl
told_line_session st s Finish is_refused done = told_session st s (act_of st s) is_refused (st.players s).sweep done refl
told_line_session st s r is_refused done = refl

pub request_keeps : (st : State) (s : ℕ) (r : Request) (deed : Deed) (owner : Owner) → IsForeign s owner → HasEdit (edits st) deed owner → HasEdit (edits (state_after st s r)) deed owner
request_keeps st s r deed owner foreign has =
    subst (λ database. HasEdit database.edits deed owner) (sym (told_database st s r (is_some (refusal_of st s r)) (granted_or_refused st s r (refusal_of st s r))))
    (done_keeps st s deed owner foreign has r (refusal_of st s r))

pub advance_keeps : (m : Moment) (s : ℕ) (line : Option Request) (deed : Deed) (owner : Owner) → IsForeign s owner → HasEdit (edits m.state) deed owner → HasEdit (edits (moment_after m s line).state) deed owner
advance_keeps m s None deed owner foreign has = has
advance_keeps m s (Some r) deed owner foreign has = request_keeps m.state s r deed owner foreign has

-- What is committed stays.
pub stays_committed : (programs : List (List Request)) (m : Moment) (schedule : List ℕ) (deed : Deed) (clock : ℕ) → HasEdit (edits m.state) deed (Committed clock) → HasEdit (edits (end_from programs m schedule).state) deed (Committed clock)
stays_committed programs m [] deed clock has = has
stays_committed programs m (t ∷ schedule) deed clock has =
    stays_committed programs (moment_after m t (next_line programs m t)) schedule deed clock (advance_keeps m t (next_line programs m t) deed (Committed clock) (committed_foreign t clock) has)
