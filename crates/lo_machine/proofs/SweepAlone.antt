-- The edit of an unlink that a clean-up made stands alone at its clock, between older and newer ones, as long as it is there.
use Rattle.std.proofs.Common.{◌≡◌, refl, sym, ap, ◌∙◌, subst, ℕ, ◌≤◌, ◌<◌, ◌==◌, Bool, true, false, List, [], ◌∷◌, ◌++◌, length, map, Option, Some, None, append_assoc, arith}
use Rattle.std.specs.Prelude.{is_some, filter, All, if◌then◌else◌}
use Rattle.std.proofs.lemmas.Bool.Decides.{nat_tests}
use Rattle.std.proofs.lemmas.List.{map-append, length-map}
use Rattle.std.proofs.lemmas.List.Elements.{All-nil, All-cons, All-append, All-weaker, All-head, All-map, All-filter, All-tail, filter-append}
use Rattle.std.proofs.lemmas.List.Sums.{length-filter, count_by-le-length}
use Rattle.lo_base.specs.declared.refusal.Refusal.{Refusal}
use Rattle.lo_base.specs.declared.request.Request.{Request}
use Rattle.lo_base.specs.declared.request.Request.TheVariants.{Begin, Commit, Rollback, Savepoint, Release, RollbackTo, Vacuum, Vacuumlo, Step, Finish}
use Rattle.lo_model.specs.declared.owner.Owner.{Owner}
use Rattle.lo_model.specs.Edit.{Deed, Unlink, Edit, edits_by}
use Rattle.lo_model.specs.Levels.{owned_by, released_owner, stays, committed_owner}
use Rattle.lo_model.specs.Transaction.{is_open, top_level}
use Rattle.orphan_sweep.specs.declared.act.SweepAct.{SweepAct}
use Rattle.orphan_sweep.specs.declared.act.SweepAct.TheVariants as acts
use Rattle.lo_calls.specs.ObjectRows.{unlink_row}
use Rattle.lo_machine.specs.CallRow.{call_row}
use Rattle.lo_machine.specs.CallRows.{called, row_at}
use Rattle.lo_machine.specs.Row.{Granted, on_objects}
use Rattle.lo_machine.specs.Run.{Moment, next_line, moment_after, end_from}
use Rattle.lo_machine.specs.State.{State, Outcome, now, edits, session_of, refused, refused_in, owner_in}
use Rattle.lo_machine.specs.Step.{granted, refusal_of, granted_or_refused, state_after}
use Rattle.lo_machine.specs.SweepRows.{act_of, act_granted}
use Rattle.lo_machine.specs.TransactionRows.{level_named, level_or_0, begun, rolled_back, committed_in}
use Rattle.lo_machine.specs.Well.{IsPast}
use Rattle.lo_machine.specs.SweepLaw.{Done, does_act, done_at, acts_by, is_denied}
use Rattle.lo_machine.proofs.SweepEdits.{told_database}
use Rattle.lo_machine.proofs.SweepGroups.{leaves}
use Rattle.lo_machine.proofs.SweepPast.{ArePast, past_advance}
use Rattle.lo_machine.proofs.SweepViews.{now_later}

pub record AloneAt (k : ℕ) (es : List (Edit Deed)) : Type 0 where
  pub before : List (Edit Deed)
  pub here : List (Edit Deed)
  pub after : List (Edit Deed)
  pub is : es ≡ before ++ (here ++ after)
  pub one : length here ≤ 1
  pub low : All (λ (e : Edit Deed). e.clock < k) before
  pub high : All (λ (e : Edit Deed). k < e.clock) after

module _ (k : ℕ) where
  abbrev older : Edit Deed → Type 0
  older e = e.clock < k

  abbrev newer : Edit Deed → Type 0
  newer e = k < e.clock

  alone_owned : (change : Owner → Owner) (es : List (Edit Deed)) → AloneAt k es → AloneAt k (map (owned_by change) es)
  alone_owned change es a = record {
    before = map (owned_by change) a.before;
    here = map (owned_by change) a.here;
    after = map (owned_by change) a.after;
    is =
        ap (map (owned_by change)) a.is
        ∙ (map-append (owned_by change) a.before (a.here ++ a.after) ∙ ap (λ xs. map (owned_by change) a.before ++ xs) (map-append (owned_by change) a.here a.after));
    one = omega (arith, a.one, length-map a.here (owned_by change));
    low = All-map older (owned_by change) a.before a.low;
    high = All-map newer (owned_by change) a.after a.high;
  }

  alone_filtered : (p : Edit Deed → Bool) (es : List (Edit Deed)) → AloneAt k es → AloneAt k (filter p es)
  alone_filtered p es a = record {
    before = filter p a.before;
    here = filter p a.here;
    after = filter p a.after;
    is = ap (filter p) a.is ∙ (filter-append p a.before (a.here ++ a.after) ∙ ap (λ xs. filter p a.before ++ xs) (filter-append p a.here a.after));
    one = omega (arith, a.one, length-filter p a.here, count_by-le-length p a.here);
    low = All-filter p older a.before a.low;
    high = All-filter p newer a.after a.high;
  }

  made_newer : (clock : ℕ) (owner : Owner) (ds : List Deed) → k < clock → All newer (edits_by clock owner ds)
  made_newer clock owner [] later = All-nil newer
  made_newer clock owner (d ∷ ds) later =
      All-cons newer (record { clock = clock; owner = owner; deed = d }) (edits_by clock owner ds) later (made_newer clock owner ds later)

  alone_more : (clock : ℕ) (owner : Owner) (ds : List Deed) (es : List (Edit Deed)) → k < clock → AloneAt k es → AloneAt k (es ++ edits_by clock owner ds)
  alone_more clock owner ds es later a = record {
    before = a.before;
    here = a.here;
    after = a.after ++ edits_by clock owner ds;
    is =
        ap (λ xs. xs ++ edits_by clock owner ds) a.is
        ∙ (append_assoc a.before (a.here ++ a.after) (edits_by clock owner ds) ∙ ap (λ xs. a.before ++ xs) (append_assoc a.here a.after (edits_by clock owner ds)));
    one = a.one;
    low = a.low;
    high = All-append newer a.after (edits_by clock owner ds) a.high (made_newer clock owner ds later);
  }

module _ (k : ℕ) (st : State) (s : ℕ) (later : k < now st) (alone : AloneAt k (edits st)) where
  abbrev still : Outcome → Type 0
  still done = AloneAt k done.database.edits

  refused_still : (r : Refusal) → still (refused st s r)
  refused_still r = by (is_open (session_of st s).transaction)
    where
      by : (inside : Bool) → still (refused_in st s inside r)
      by false = alone
      by true = alone_filtered k (stays s (top_level (session_of st s).transaction)) (edits st) alone

  begun_still : (inside : Bool) → still (begun st s inside)
  begun_still true = alone
  begun_still false = alone

  rolled_back_still : (inside : Bool) → still (rolled_back st s inside)
  rolled_back_still false = alone
  rolled_back_still true = alone_filtered k (stays s 1) (edits st) alone

  committed_still : (inside failed : Bool) → still (committed_in st s inside failed)
  committed_still false failed = alone
  committed_still true true = rolled_back_still true
  committed_still true false = alone_owned k (committed_owner s (now st)) (edits st) alone

  called_still : (by : Granted) → still (called st s by)
  called_still by = alone_more k (now st) (owner_in (now st) s (session_of st s).transaction.levels) by.deeds (edits st) later alone

  act_still : (act : SweepAct) → still (act_granted st s act)
  act_still (acts.Scan table column) = alone
  act_still acts.Begin = begun_still (is_open (session_of st s).transaction)
  act_still (acts.Unlink o) = called_still (row_at st s (on_objects (unlink_row o))).granted
  act_still acts.Commit = committed_still (is_open (session_of st s).transaction) (session_of st s).transaction.failed
  act_still acts.Rollback = rolled_back_still (is_open (session_of st s).transaction)
  act_still acts.Report = alone
  act_still acts.Idle = alone

  granted_still : (r : Request) → still (granted st s r)
  granted_still Begin = begun_still (is_open (session_of st s).transaction)
  granted_still Commit = committed_still (is_open (session_of st s).transaction) (session_of st s).transaction.failed
  granted_still Rollback = rolled_back_still (is_open (session_of st s).transaction)
  granted_still (Savepoint name) = alone
  granted_still (Release name) = alone_owned k (released_owner s (level_or_0 (level_named st s name))) (edits st) alone
  granted_still (RollbackTo name) = alone_filtered k (stays s (level_or_0 (level_named st s name))) (edits st) alone
  granted_still Vacuum = alone
  granted_still (Vacuumlo dry limit) = alone
  granted_still Step = act_still (act_of st s)
  granted_still Finish = act_still (act_of st s)
  granted_still r = called_still (row_at st s (call_row r)).granted

  done_still : (r : Request) (refusal : Option Refusal) → still (granted_or_refused st s r refusal)
  done_still r None = granted_still r
  done_still r (Some refusal) = refused_still refusal

  request_still : (r : Request) → AloneAt k (edits (state_after st s r))
  request_still r =
      subst (λ database. AloneAt k database.edits) (sym (told_database st s r (is_some (refusal_of st s r)) (granted_or_refused st s r (refusal_of st s r))))
      (done_still r (refusal_of st s r))

alone_advance : (k : ℕ) (m : Moment) (s : ℕ) (line : Option Request) → k < now m.state → AloneAt k (edits m.state) → AloneAt k (edits (moment_after m s line).state)
alone_advance k m s None later alone = alone
alone_advance k m s (Some r) later alone = request_still k m.state s later alone r

alone_from : (k : ℕ) (programs : List (List Request)) (m : Moment) (schedule : List ℕ) → k < now m.state → AloneAt k (edits m.state) → AloneAt k (edits (end_from programs m schedule).state)
alone_from k programs m [] later alone = alone
alone_from k programs m (t ∷ schedule) later alone =
    alone_from k programs (moment_after m t (next_line programs m t)) schedule (omega (arith, later, now_later m t (next_line programs m t)))
    (alone_advance k m t (next_line programs m t) later alone)

-- Where an unlink is made.
alone_unlink : (st : State) (s : ℕ) (r : Request) (o : ℕ) → ArePast st → does_act st s (Some r) ≡ true → act_of st s ≡ acts.Unlink o → is_some (refusal_of st s r) ≡ false → AloneAt (now st) (edits (state_after st s r))
alone_unlink st s r o past does is granted' = record {
  before = edits st;
  here = edits_by (now st) (owner_in (now st) s (session_of st s).transaction.levels) (Unlink o ∷ []);
  after = [];
  is = ap (λ database. database.edits) (leaves st s r (acts.Unlink o) does granted' is).database;
  one = omega arith;
  low = All-weaker (IsPast (now st) (session_of st)) (λ (e : Edit Deed). e.clock < now st) (λ e past'. past'.made) (edits st) past.past;
  high = All-nil (λ (e : Edit Deed). now st < e.clock);
}

-- so it is at the end, for each that was done
record IsUnlinkDone (s : ℕ) (o : ℕ) (d : Done) : Type 0 where
  act : d.act ≡ acts.Unlink o
  granted' : is_denied s d ≡ false

alone_here : (s : ℕ) (programs : List (List Request)) (m : Moment) (line : Option Request) (since : List ℕ) (o : ℕ) (more before : List Done) (d : Done) (after : List Done) → ArePast m.state → done_at m.state s line ++ more ≡ before ++ d ∷ after → IsUnlinkDone s o d → ((before' : List Done) → more ≡ before' ++ d ∷ after → AloneAt (now d.state) (edits (end_from programs (moment_after m s line) since).state)) → AloneAt (now d.state) (edits (end_from programs (moment_after m s line) since).state)
alone_here s programs m None since o more before d after past split it later = later before split
alone_here s programs m (Some r) since o more before d after past split it later = by (does_act m.state s (Some r)) refl before split
  where
    first : Done
    first = record { act = act_of m.state s; line = r; state = m.state }

    own : first ≡ d → does_act m.state s (Some r) ≡ true → AloneAt (now d.state) (edits (end_from programs (moment_after m s (Some r)) since).state)
    own same does =
        let act : act_of m.state s ≡ acts.Unlink o = ap (λ (e : Done). e.act) same ∙ it.act in
        let granted'' : is_some (refusal_of m.state s r) ≡ false = ap (is_denied s) same ∙ it.granted' in
        subst (λ (st : State). AloneAt (now st) (edits (end_from programs (moment_after m s (Some r)) since).state)) (ap (λ (e : Done). e.state) same)
        (alone_from (now m.state) programs (moment_after m s (Some r)) since (omega arith) (alone_unlink m.state s r o past does act granted''))

    by : (b : Bool) → does_act m.state s (Some r) ≡ b → (bs : List Done) → (if b then first ∷ [] else []) ++ more ≡ bs ++ d ∷ after → AloneAt (now d.state) (edits (end_from programs (moment_after m s (Some r)) since).state)
    by false does bs split' = later bs split'
    by true does [] split' = let same : first ≡ d = cc in own same does
    by true does (b ∷ bs) split' = let same : more ≡ bs ++ d ∷ after = cc in later bs same

pub alone_done : (s : ℕ) (programs : List (List Request)) (m : Moment) (since : List ℕ) (o : ℕ) (before : List Done) (d : Done) (after : List Done) → ArePast m.state → acts_by s programs m since ≡ before ++ d ∷ after → d.act ≡ acts.Unlink o → is_denied s d ≡ false → AloneAt (now d.state) (edits (end_from programs m since).state)
alone_done s programs m [] o [] d after past split is granted' = cc
alone_done s programs m [] o (b ∷ before) d after past split is granted' = cc
alone_done s programs m (t ∷ since) o before d after past split is granted' =
    by (t == s) refl (λ bs split'. alone_done s programs (moment_after m t (next_line programs m t)) since o bs d after (past_advance m t (next_line programs m t) past) split' is granted')
  where
    by : (b : Bool) → (t == s) ≡ b → ((bs : List Done) → acts_by s programs (moment_after m t (next_line programs m t)) since ≡ bs ++ d ∷ after → AloneAt (now d.state) (edits (end_from programs (moment_after m t (next_line programs m t)) since).state)) → AloneAt (now d.state) (edits (end_from programs (moment_after m t (next_line programs m t)) since).state)
    by false e later =
        later before (sym (ap (λ b. (if b then done_at m.state t (next_line programs m t) else []) ++ acts_by s programs (moment_after m t (next_line programs m t)) since) e) ∙ split)
    by true e later =
        let same : t ≡ s = grind (arith, nat_tests, e) in
        alone_here t programs m (next_line programs m t) since o (acts_by s programs (moment_after m t (next_line programs m t)) since) before d after past
        (sym (ap (λ b. (if b then done_at m.state t (next_line programs m t) else []) ++ acts_by s programs (moment_after m t (next_line programs m t)) since) e) ∙ split)
        (record { act = is; granted' = ap (λ u. is_denied u d) same ∙ granted' }) later

-- What stands behind it is newer.

all_middle : (P : Edit Deed → Type 0) (before : List (Edit Deed)) (e : Edit Deed) (after : List (Edit Deed)) → All P (before ++ e ∷ after) → P e
all_middle P [] e after all = All-head P e after all
all_middle P (x ∷ before) e after all = all_middle P before e after (All-tail P x (before ++ e ∷ after) all)

newer_behind : (k : ℕ) (xs here ys before : List (Edit Deed)) (e : Edit Deed) (after : List (Edit Deed)) → xs ++ (here ++ ys) ≡ before ++ e ∷ after → e.clock ≡ k → All (λ (x : Edit Deed). x.clock < k) xs → length here ≤ 1 → All (λ (x : Edit Deed). k < x.clock) ys → All (λ (x : Edit Deed). k < x.clock) after
newer_behind k [] [] ys before e after split is low one high =
    absurd (let late : k < e.clock = all_middle (λ (x : Edit Deed). k < x.clock) before e after (subst (All (λ (x : Edit Deed). k < x.clock)) split high) in omega (arith, late, is))
newer_behind k [] (x ∷ []) ys [] e after split is low one high =
    let same : ys ≡ after = cc in subst (All (λ (z : Edit Deed). k < z.clock)) same high
newer_behind k [] (x ∷ []) ys (b ∷ before) e after split is low one high =
    let same : ys ≡ before ++ e ∷ after = cc in
    absurd (let late : k < e.clock = all_middle (λ (z : Edit Deed). k < z.clock) before e after (subst (All (λ (z : Edit Deed). k < z.clock)) same high) in omega (arith, late, is))
newer_behind k [] (x ∷ y ∷ here) ys before e after split is low one high = absurd (omega (arith, one))
newer_behind k (x ∷ xs) here ys [] e after split is low one high =
    let same : x ≡ e = cc in
    absurd (let early : x.clock < k = All-head (λ (z : Edit Deed). z.clock < k) x xs low in let clocks : x.clock ≡ e.clock = ap (λ (z : Edit Deed). z.clock) same in omega (arith, early, clocks, is))
newer_behind k (x ∷ xs) here ys (b ∷ before) e after split is low one high =
    let same : xs ++ (here ++ ys) ≡ before ++ e ∷ after = cc in
    newer_behind k xs here ys before e after same is (All-tail (λ (z : Edit Deed). z.clock < k) x xs low) one high

pub alone_behind : (k : ℕ) (es before : List (Edit Deed)) (e : Edit Deed) (after : List (Edit Deed)) → AloneAt k es → es ≡ before ++ e ∷ after → e.clock ≡ k → All (λ (x : Edit Deed). k < x.clock) after
alone_behind k es before e after a split is = newer_behind k a.before a.here a.after before e after (sym a.is ∙ split) is a.low a.one a.high
