-- Each group of a clean-up is committed whole, whatever other sessions do in between.
use Rattle.std.proofs.Common.{◌≡◌, ◌≢◌, refl, sym, ap, ◌∙◌, subst, ℕ, pos, ◌==◌, Bool, true, false, not, ◌&&◌, cond, ◌⊎◌, inl, inr, List, [], ◌∷◌, ◌++◌, map, Option, Some, None, append_assoc, append-nil, arith}
use Rattle.std.specs.Prelude.{is_some, filter, All, if◌then◌else◌}
use Rattle.std.specs.List.{list_any, flat_map}
use Rattle.std.proofs.lemmas.Bool.{cases_eq}
use Rattle.std.proofs.lemmas.Bool.Decides.{nat_tests}
use Rattle.std.proofs.lemmas.List.Elements.{All-nil, All-cons, All-append, All-weaker}
use Rattle.lo_base.specs.declared.refusal.Cause.TheVariants.{InBlock}
use Rattle.lo_base.specs.declared.refusal.Refusal.{Refusal}
use Rattle.lo_base.specs.declared.request.Request.{Request}
use Rattle.lo_base.specs.declared.request.Request.TheVariants.{Vacuumlo, Step, Finish}
use Rattle.lo_model.specs.declared.owner.Owner.TheVariants.{Running, Committed}
use Rattle.lo_model.specs.Edit.{Deed, Unlink, edits_by}
use Rattle.lo_model.specs.Levels.{committed_owner, committed}
use Rattle.lo_model.specs.Session.{Session}
use Rattle.lo_model.specs.Transaction.{Transaction, is_open, new_transaction}
use Rattle.orphan_sweep.specs.declared.act.Scan.{Scan}
use Rattle.orphan_sweep.specs.declared.act.SweepAct.{SweepAct}
use Rattle.orphan_sweep.specs.declared.act.SweepAct.TheVariants as acts
use Rattle.orphan_sweep.specs.History.{is_commit}
use Rattle.orphan_sweep.specs.Plan.{scan_act, group_acts}
use Rattle.orphan_sweep.specs.Rest.{groups}
use Rattle.lo_machine.specs.Run.{Moment, next_line, moment_after, end_from}
use Rattle.lo_machine.specs.State.{State, Outcome, Player, now, edits, session_of, owner_in}
use Rattle.lo_machine.specs.Step.{failed, granted, refusal_of, refusals, granted_or_refused, outcome, state_after}
use Rattle.lo_machine.specs.SweepRows.{act_of, act_granted, told_of, is_idle}
use Rattle.lo_machine.specs.Terms.{in_block}
use Rattle.lo_machine.specs.TransactionRows.{begun, committed_in}
use Rattle.lo_machine.proofs.Unmet.{first_none, unmet}
use Rattle.lo_machine.specs.SweepLaw.{Done, is_act_line, does_act, done_at, acts_by, acts_of, is_denied, EachOwn, HasEdit, AreCommitted, commit_clocks, CommitsWhole, Sweeping, IsSweeping, beginning, done, scans, rest}
use Rattle.lo_machine.proofs.SweepActs.{own_player, other_player}
use Rattle.lo_machine.proofs.SweepEdits.{running_foreign, has_more, has_owned, same_database, told_session, advance_keeps, stays_committed}
use Rattle.lo_machine.proofs.SweepReports.{both_false, removes}

-- The next act that a session does, after advances of others.

record NextAct (s : ℕ) (programs : List (List Request)) (m : Moment) (since : List ℕ) (d : Done) (more : List Done) : Type 0 where
  moment : Moment
  line : Request
  later : List ℕ
  does : does_act moment.state s (Some line) ≡ true
  is : d ≡ record { act = act_of moment.state s; line = line; state = moment.state }
  player : moment.state.players s ≡ m.state.players s
  keeps : (deed : Deed) (level : ℕ) → HasEdit (edits m.state) deed (Running s level) → HasEdit (edits moment.state) deed (Running s level)
  rest : acts_by s programs (moment_after moment s (Some line)) later ≡ more
  ends : end_from programs (moment_after moment s (Some line)) later ≡ end_from programs m since
  each : EachOwn does_act s programs (moment_after moment s (Some line)) later

own_next : (s : ℕ) (programs : List (List Request)) (m : Moment) (since : List ℕ) (d : Done) (more : List Done) (line : Option Request) → next_line programs m s ≡ line → does_act m.state s line ≡ true → done_at m.state s line ++ acts_by s programs (moment_after m s line) since ≡ d ∷ more → EachOwn does_act s programs (moment_after m s line) since → NextAct s programs m (s ∷ since) d more
own_next s programs m since d more None is does all each = cc
own_next s programs m since d more (Some r) is does all each =
    let here : record { act = act_of m.state s; line = r; state = m.state } ∷ acts_by s programs (moment_after m s (Some r)) since ≡ d ∷ more =
    sym (ap (λ b. (if b then record { act = act_of m.state s; line = r; state = m.state } ∷ [] else []) ++ acts_by s programs (moment_after m s (Some r)) since) does) ∙ all in
    record {
      moment = m;
      line = r;
      later = since;
      does = does;
      is = cc;
      player = refl;
      keeps = λ deed level has. has;
      rest = cc;
      ends = ap (λ l. end_from programs (moment_after m s l) since) (sym is);
      each = each;
    }

next_act_of : (s : ℕ) (programs : List (List Request)) (m : Moment) (since : List ℕ) (d : Done) (more : List Done) → acts_by s programs m since ≡ d ∷ more → EachOwn does_act s programs m since → NextAct s programs m since d more
next_act_of s programs m [] d more all each = cc
next_act_of s programs m (t ∷ since) d more all each = by (cases_eq t s) (next_act_of s programs (moment_after m t (next_line programs m t)) since d more)
  where
    itself : (s == s) ≡ true
    itself = grind (arith, nat_tests)

    P : ℕ → Type 0
    P u = acts_by s programs m (u ∷ since) ≡ d ∷ more → EachOwn does_act s programs m (u ∷ since) → NextAct s programs m (u ∷ since) d more

    own : P s
    own all' each' =
        own_next s programs m since d more (next_line programs m s) refl (each'.0 refl)
        (sym (ap (λ b. (if b then done_at m.state s (next_line programs m s) else []) ++ acts_by s programs (moment_after m s (next_line programs m s)) since) itself) ∙ all') each'.1

    by : (t ≡ s) ⊎ (t ≢ s) → (acts_by s programs (moment_after m t (next_line programs m t)) since ≡ d ∷ more → EachOwn does_act s programs (moment_after m t (next_line programs m t)) since → NextAct s programs (moment_after m t (next_line programs m t)) since d more) → NextAct s programs m (t ∷ since) d more
    by (inl same) on = subst P (sym same) own all each
    by (inr other) on =
        let differ : (t == s) ≡ false = grind (arith, nat_tests, other) in
        let next = on (sym (ap (λ b. (if b then done_at m.state t (next_line programs m t) else []) ++ acts_by s programs (moment_after m t (next_line programs m t)) since) differ) ∙ all) each.1 in
        record {
          moment = next.moment;
          line = next.line;
          later = next.later;
          does = next.does;
          is = next.is;
          player = next.player ∙ other_player m s t (next_line programs m t) other;
          keeps = λ deed level has. next.keeps deed level (advance_keeps m t (next_line programs m t) deed (Running s level) (running_foreign s t level other) has);
          rest = next.rest;
          ends = next.ends;
          each = next.each;
        }

-- What an act leaves that is not refused.

pub record Leaves (st : State) (s : ℕ) (line : Request) (act : SweepAct) : Type 0 where
  pub database : (state_after st s line).database ≡ (act_granted st s act).database
  pub session : session_of (state_after st s line) s ≡ (act_granted st s act).player.session

is_none_where : (refusal : Option Refusal) → is_some refusal ≡ false → refusal ≡ None
is_none_where None h = refl
is_none_where (Some r) h = cc

first_true : (a b : Bool) → (a && b) ≡ true → a ≡ true
first_true true b h = refl
first_true false b h = cc

line_outcome : (st : State) (s : ℕ) (line : Request) → is_act_line line ≡ true → refusal_of st s line ≡ None → outcome st s line ≡ told_of st s (act_of st s) (is_some (refusal_of st s line)) (act_granted st s (act_of st s))
line_outcome st s Step is none = ap (λ r. told_of st s (act_of st s) (is_some (refusal_of st s Step)) (granted_or_refused st s Step r)) none
line_outcome st s Finish is none = ap (λ r. told_of st s (act_of st s) (is_some (refusal_of st s Finish)) (granted_or_refused st s Finish r)) none
line_outcome st s line is none = cc

pub leaves : (st : State) (s : ℕ) (line : Request) (act : SweepAct) → does_act st s (Some line) ≡ true → is_some (refusal_of st s line) ≡ false → act_of st s ≡ act → Leaves st s line act
leaves st s line act does granted is =
    let out = line_outcome st s line (first_true (is_act_line line) (not (is_idle (act_of st s))) does) (is_none_where (refusal_of st s line) granted) in
    record {
      database =
          ap (λ (o : Outcome). o.database) out
          ∙ (same_database st s (act_of st s) (is_some (refusal_of st s line)) (act_granted st s (act_of st s))
          ∙ ap (λ a. (act_granted st s a).database) is);
      session =
          ap (λ (p : Player). p.session) (own_player st s line)
          ∙ (ap (λ (o : Outcome). o.player.session) out
          ∙ (told_session st s (act_of st s) (is_some (refusal_of st s line)) (st.players s).sweep (act_granted st s (act_of st s)) refl
          ∙ ap (λ a. (act_granted st s a).player.session) is));
    }

-- Outside a transaction, and inside the one of a group.

abbrev pub IsOutside : State → ℕ → Type 0
IsOutside st s = is_open (session_of st s).transaction ≡ false

record IsInside (st : State) (s : ℕ) (unlinked : List ℕ) : Type 0 where
  transaction : (session_of st s).transaction ≡ new_transaction
  each : All (λ o. HasEdit (edits st) (Unlink o) (Running s 1)) unlinked

-- A session goes on: what it has still to do, and where that leads.
record GoesOn (s : ℕ) (programs : List (List Request)) (m : Moment) (since : List ℕ) (ds : List Done) (tail : List SweepAct) : Type 0 where
  acts : acts_of ds ≡ tail
  is : acts_by s programs m since ≡ ds
  each : EachOwn does_act s programs m since
  granted : list_any (is_denied s) ds ≡ false

-- one act of it
record OneAct (s : ℕ) (programs : List (List Request)) (m : Moment) (since : List ℕ) (ds : List Done) (act : SweepAct) (tail : List SweepAct) : Type 0 where
  first : Done
  more : List Done
  split : ds ≡ first ∷ more
  is : first.act ≡ act
  moment : Moment
  line : Request
  later : List ℕ
  at : first.state ≡ moment.state
  player : moment.state.players s ≡ m.state.players s
  keeps : (deed : Deed) (level : ℕ) → HasEdit (edits m.state) deed (Running s level) → HasEdit (edits moment.state) deed (Running s level)
  leaves_it : Leaves moment.state s line act
  on : GoesOn s programs (moment_after moment s (Some line)) later more tail
  ends : end_from programs (moment_after moment s (Some line)) later ≡ end_from programs m since

one_act : (s : ℕ) (programs : List (List Request)) (m : Moment) (since : List ℕ) (ds : List Done) (act : SweepAct) (tail : List SweepAct) → GoesOn s programs m since ds (act ∷ tail) → OneAct s programs m since ds act tail
one_act s programs m since [] act tail on = absurd (let e = on.acts in cc)
one_act s programs m since (d ∷ ds) act tail on =
    let next = next_act_of s programs m since d ds on.is on.each in
    let split : acts_of (d ∷ ds) ≡ act ∷ tail = on.acts in
    let here : d.act ≡ act = cc in
    let after : acts_of ds ≡ tail = cc in
    let none = both_false (is_denied s d) (list_any (is_denied s) ds) on.granted in
    let granted : is_some (refusal_of next.moment.state s next.line) ≡ false = sym (ap (is_denied s) next.is) ∙ none.0 in
    let act' : act_of next.moment.state s ≡ act = sym (ap (λ (e : Done). e.act) next.is) ∙ here in
    record {
      first = d;
      more = ds;
      split = refl;
      is = here;
      moment = next.moment;
      line = next.line;
      later = next.later;
      at = ap (λ (e : Done). e.state) next.is;
      player = next.player;
      keeps = next.keeps;
      leaves_it = leaves next.moment.state s next.line act next.does granted act';
      on = record { acts = after; is = next.rest; each = next.each; granted = none.1 };
      ends = next.ends;
    }

same_session : (s : ℕ) (m at : Moment) → at.state.players s ≡ m.state.players s → session_of at.state s ≡ session_of m.state s
same_session s m at same = ap (λ (p : Player). p.session) same

-- a begin opens the transaction
begins_group : (st : State) (s : ℕ) (line : Request) → IsOutside st s → Leaves st s line acts.Begin → IsInside (state_after st s line) s []
begins_group st s line outside by = record {
  transaction = ap (λ (p : Session). p.transaction) by.session ∙ ap (λ b. (begun st s b).player.session.transaction) outside;
  each = All-nil (λ o. HasEdit (edits (state_after st s line)) (Unlink o) (Running s 1));
}

-- an unlink adds its edit
unlinks_one : (st : State) (s : ℕ) (line : Request) (o : ℕ) (unlinked : List ℕ) → IsInside st s unlinked → Leaves st s line (acts.Unlink o) → IsInside (state_after st s line) s (unlinked ++ o ∷ [])
unlinks_one st s line o unlinked inside by = record {
  transaction = ap (λ (p : Session). p.transaction) by.session ∙ inside.transaction;
  each = All-append (λ n. HasEdit (edits (state_after st s line)) (Unlink n) (Running s 1)) unlinked (o ∷ [])
      (All-weaker (λ n. HasEdit (edits st) (Unlink n) (Running s 1)) (λ n. HasEdit (edits (state_after st s line)) (Unlink n) (Running s 1)) (λ n has. old n has) unlinked inside.each)
      (All-cons (λ n. HasEdit (edits (state_after st s line)) (Unlink n) (Running s 1)) o [] new (All-nil (λ n. HasEdit (edits (state_after st s line)) (Unlink n) (Running s 1))));
}
  where
    made : edits (state_after st s line) ≡ edits st ++ record { clock = now st; owner = Running s 1; deed = Unlink o } ∷ []
    made =
        ap (λ database. database.edits) by.database
        ∙ ap (λ (t : Transaction). edits st ++ edits_by (now st) (owner_in (now st) s t.levels) (Unlink o ∷ [])) inside.transaction

    old : (n : ℕ) → HasEdit (edits st) (Unlink n) (Running s 1) → HasEdit (edits (state_after st s line)) (Unlink n) (Running s 1)
    old n has = subst (λ es. HasEdit es (Unlink n) (Running s 1)) (sym made) (has_more (edits st) _ (Unlink n) (Running s 1) has)

    new : HasEdit (edits (state_after st s line)) (Unlink o) (Running s 1)
    new = record {
      before = edits st;
      edit = record { clock = now st; owner = Running s 1; deed = Unlink o };
      after = [];
      is = made;
      does = refl;
      owned = refl;
    }

-- a commit gives them all to its clock
record IsCommitted (st : State) (s clock : ℕ) (unlinked : List ℕ) : Type 0 where
  outside : IsOutside st s
  each : All (λ o. HasEdit (edits st) (Unlink o) (Committed clock)) unlinked

commits_group : (st : State) (s : ℕ) (line : Request) (unlinked : List ℕ) → IsInside st s unlinked → Leaves st s line acts.Commit → IsCommitted (state_after st s line) s (now st) unlinked
commits_group st s line unlinked inside by = record {
  outside = ap (λ (p : Session). is_open p.transaction) by.session ∙ ap (λ (t : Transaction). is_open (committed_in st s (is_open t) t.failed).player.session.transaction) inside.transaction;
  each = All-weaker (λ o. HasEdit (edits st) (Unlink o) (Running s 1)) (λ o. HasEdit (edits (state_after st s line)) (Unlink o) (Committed (now st))) (λ o has. given o has) unlinked inside.each;
}
  where
    made : edits (state_after st s line) ≡ committed s (now st) (edits st)
    made = ap (λ database. database.edits) by.database ∙ ap (λ (t : Transaction). (committed_in st s (is_open t) t.failed).database.edits) inside.transaction

    own : committed_owner s (now st) (Running s 1) ≡ Committed (now st)
    own = let itself : (s == s) ≡ true = grind (arith, nat_tests) in rw itself refl

    given : (o : ℕ) → HasEdit (edits st) (Unlink o) (Running s 1) → HasEdit (edits (state_after st s line)) (Unlink o) (Committed (now st))
    given o has =
        subst (λ es. HasEdit es (Unlink o) (Committed (now st))) (sym made)
        (subst (HasEdit (committed s (now st) (edits st)) (Unlink o)) own (has_owned (edits st) (Unlink o) (Running s 1) (committed_owner s (now st)) has))

-- The rest of a group, up to its commit.
record GroupDone (s : ℕ) (programs : List (List Request)) (m : Moment) (since : List ℕ) (ds : List Done) (unlinked : List ℕ) (tail : List SweepAct) : Type 0 where
  moment : Moment
  later : List ℕ
  more : List Done
  clock : ℕ
  committed_whole : IsCommitted moment.state s clock unlinked
  clocks : commit_clocks ds ≡ clock ∷ commit_clocks more
  on : GoesOn s programs moment later more tail
  ends : end_from programs moment later ≡ end_from programs m since

inside_moved : (s : ℕ) (m at : Moment) (unlinked : List ℕ) → at.state.players s ≡ m.state.players s → ((deed : Deed) (level : ℕ) → HasEdit (edits m.state) deed (Running s level) → HasEdit (edits at.state) deed (Running s level)) → IsInside m.state s unlinked → IsInside at.state s unlinked
inside_moved s m at unlinked same keeps inside = record {
  transaction = ap (λ (p : Session). p.transaction) (same_session s m at same) ∙ inside.transaction;
  each = All-weaker (λ o. HasEdit (edits m.state) (Unlink o) (Running s 1)) (λ o. HasEdit (edits at.state) (Unlink o) (Running s 1)) (λ o has. keeps (Unlink o) 1 has) unlinked inside.each;
}

no_clock : (d : Done) (ds : List Done) (act : SweepAct) → d.act ≡ act → is_commit act ≡ false → commit_clocks (d ∷ ds) ≡ commit_clocks ds
no_clock d ds act is other =
    ap (λ b. map (λ (e : Done). now e.state) (cond b (d ∷ filter (λ (e : Done). is_commit e.act) ds) (filter (λ (e : Done). is_commit e.act) ds))) (ap is_commit is ∙ other)

one_clock : (d : Done) (ds : List Done) → d.act ≡ acts.Commit → commit_clocks (d ∷ ds) ≡ now d.state ∷ commit_clocks ds
one_clock d ds is =
    ap (λ b. map (λ (e : Done). now e.state) (cond b (d ∷ filter (λ (e : Done). is_commit e.act) ds) (filter (λ (e : Done). is_commit e.act) ds))) (ap is_commit is)

group_goes : (s : ℕ) (programs : List (List Request)) (us unlinked : List ℕ) (tail : List SweepAct) (m : Moment) (since : List ℕ) (ds : List Done) → IsInside m.state s unlinked → GoesOn s programs m since ds (map (λ o. acts.Unlink o) us ++ acts.Commit ∷ tail) → GroupDone s programs m since ds (unlinked ++ us) tail
group_goes s programs [] unlinked tail m since ds inside on =
    let one = one_act s programs m since ds acts.Commit tail on in
    record {
      moment = moment_after one.moment s (Some one.line);
      later = one.later;
      more = one.more;
      clock = now one.moment.state;
      committed_whole = subst (IsCommitted (state_after one.moment.state s one.line) s (now one.moment.state)) (sym (append-nil unlinked))
          (commits_group one.moment.state s one.line unlinked (inside_moved s m one.moment unlinked one.player one.keeps inside) one.leaves_it);
      clocks = ap commit_clocks one.split ∙ (one_clock one.first one.more one.is ∙ ap (λ st. now st ∷ commit_clocks one.more) one.at);
      on = one.on;
      ends = one.ends;
    }
group_goes s programs (u ∷ us) unlinked tail m since ds inside on =
    let one = one_act s programs m since ds (acts.Unlink u) (map (λ o. acts.Unlink o) us ++ acts.Commit ∷ tail) on in
    let whole = group_goes s programs us (unlinked ++ u ∷ []) tail (moment_after one.moment s (Some one.line)) one.later one.more
    (unlinks_one one.moment.state s one.line u unlinked (inside_moved s m one.moment unlinked one.player one.keeps inside) one.leaves_it) one.on in
    record {
      moment = whole.moment;
      later = whole.later;
      more = whole.more;
      clock = whole.clock;
      committed_whole = subst (IsCommitted whole.moment.state s whole.clock) (append_assoc unlinked (u ∷ []) us) whole.committed_whole;
      clocks = ap commit_clocks one.split ∙ (no_clock one.first one.more (acts.Unlink u) one.is refl ∙ whole.clocks);
      on = whole.on;
      ends = whole.ends ∙ one.ends;
    }

-- All groups.
no_acts : (ds : List Done) → acts_of ds ≡ [] → commit_clocks ds ≡ []
no_acts [] is = refl
no_acts (d ∷ ds) is = cc

begin_first : (g : List ℕ) (tail : List SweepAct) → group_acts g ++ tail ≡ acts.Begin ∷ (map (λ o. acts.Unlink o) g ++ acts.Commit ∷ tail)
begin_first g tail = ap (λ as'. acts.Begin ∷ as') (append_assoc (map (λ o. acts.Unlink o) g) (acts.Commit ∷ []) tail)

groups_go : (s : ℕ) (programs : List (List Request)) (gs : List (List ℕ)) (m : Moment) (since : List ℕ) (ds : List Done) → IsOutside m.state s → GoesOn s programs m since ds (flat_map group_acts gs) → AreCommitted (edits (end_from programs m since).state) gs (commit_clocks ds)
groups_go s programs [] m since ds outside on = no_acts ds on.acts
groups_go s programs (g ∷ gs) m since ds outside on =
    let start : GoesOn s programs m since ds (acts.Begin ∷ (map (λ o. acts.Unlink o) g ++ acts.Commit ∷ flat_map group_acts gs)) =
    subst (GoesOn s programs m since ds) (begin_first g (flat_map group_acts gs)) on in
    let one = one_act s programs m since ds acts.Begin (map (λ o. acts.Unlink o) g ++ acts.Commit ∷ flat_map group_acts gs) start in
    let inside : IsInside (moment_after one.moment s (Some one.line)).state s [] =
    begins_group one.moment.state s one.line (ap (λ (p : Session). is_open p.transaction) (same_session s m one.moment one.player) ∙ outside) one.leaves_it in
    let whole = group_goes s programs g [] (flat_map group_acts gs) (moment_after one.moment s (Some one.line)) one.later one.more inside one.on in
    let later = groups_go s programs gs whole.moment whole.later whole.more whole.committed_whole.outside whole.on in
    let clocks : commit_clocks ds ≡ whole.clock ∷ commit_clocks whole.more = ap commit_clocks one.split ∙ (no_clock one.first one.more acts.Begin one.is refl ∙ whole.clocks) in
    let ends : end_from programs whole.moment whole.later ≡ end_from programs m since = whole.ends ∙ one.ends in
    subst (AreCommitted (edits (end_from programs m since).state) (g ∷ gs)) (sym clocks)
    (subst (λ (e : Moment). AreCommitted (edits e.state) (g ∷ gs) (whole.clock ∷ commit_clocks whole.more)) ends
    (All-weaker (λ o. HasEdit (edits whole.moment.state) (Unlink o) (Committed whole.clock)) (λ o. HasEdit (edits (end_from programs whole.moment whole.later).state) (Unlink o) (Committed whole.clock)) (λ o has. stays_committed programs whole.moment whole.later (Unlink o) whole.clock has) g whole.committed_whole.each, later))

-- The scans before them.
scans_go : (s : ℕ) (programs : List (List Request)) (columns : List Scan) (gs : List (List ℕ)) (m : Moment) (since : List ℕ) (ds : List Done) → IsOutside m.state s → GoesOn s programs m since ds (map scan_act columns ++ flat_map group_acts gs) → AreCommitted (edits (end_from programs m since).state) gs (commit_clocks ds)
scans_go s programs [] gs m since ds outside on = groups_go s programs gs m since ds outside on
scans_go s programs (column ∷ columns) gs m since ds outside on =
    let one = one_act s programs m since ds (scan_act column) (map scan_act columns ++ flat_map group_acts gs) on in
    let still : IsOutside (state_after one.moment.state s one.line) s = ap (λ (p : Session). is_open p.transaction) (one.leaves_it.session ∙ same_session s m one.moment one.player) ∙ outside in
    let later = scans_go s programs columns gs (moment_after one.moment s (Some one.line)) one.later one.more still one.on in
    subst (AreCommitted (edits (end_from programs m since).state) gs) (sym (ap commit_clocks one.split ∙ no_clock one.first one.more (scan_act column) one.is refl))
    (subst (λ (e : Moment). AreCommitted (edits e.state) gs (commit_clocks one.more)) one.ends later)

-- A vacuumlo is granted outside a transaction alone, and leaves the session there.
pub was_outside : (w : Sweeping) → IsSweeping w → IsOutside w.moment.state w.session
was_outside w is =
    unmet (is_open (session_of w.moment.state w.session).transaction) InBlock (pos 0)
    (first_none (in_block w.moment.state w.session) [] (first_none (failed w.moment.state w.session (Vacuumlo w.dry w.limit)) (refusals w.moment.state w.session (Vacuumlo w.dry w.limit)) is.granted).1).0

begins_outside : (w : Sweeping) → IsSweeping w → IsOutside (beginning w).state w.session
begins_outside w is =
    ap (λ (p : Player). is_open p.session.transaction) (own_player w.moment.state w.session (Vacuumlo w.dry w.limit))
    ∙ (ap (λ r. is_open (granted_or_refused w.moment.state w.session (Vacuumlo w.dry w.limit) r).player.session.transaction) is.granted
    ∙ was_outside w is)

pub commits_whole : (w : Sweeping) → IsSweeping w → CommitsWhole w
commits_whole w is ends =
    scans_go w.session w.programs (scans w) (groups w.limit (rest w)) (beginning w) w.since (done w) (begins_outside w is)
    (record { acts = (removes w is ends.wet ends.granted ends.next).0.by_groups; is = refl; each = ends.alone; granted = ends.granted })
