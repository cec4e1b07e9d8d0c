-- One line of a script: its session advances until the line is over, which ends, since each act of a clean-up leaves fewer.
use Rattle.std.proofs.Common.{◌≡◌, refl, sym, ap, ◌∙◌, subst, ℕ, zero, suc, ◌+◌, ◌≤◌, ◌==◌, Bool, true, false, ◌&&◌, List, [], ◌∷◌, length, Option, Some, None, arith}
use Rattle.std.specs.Prelude.{All, is_some, if◌then◌else◌}
use Rattle.std.proofs.lemmas.Bool.Decides.{nat_tests}
use Rattle.std.proofs.lemmas.List.Elements.{All-cons, All-nil}
use Rattle.lo_base.specs.declared.request.Request.{Request}
use Rattle.lo_base.specs.declared.request.Request.TheVariants.{Begin, Commit, Rollback, Savepoint, Release, RollbackTo, LoCreat, LoCreate, LoOpen, LoClose, LoRead, LoWrite, LoLseek, LoLseek64, LoTell, LoTell64, LoTruncate, LoTruncate64, LoUnlink, LoGet, LoPut, LoFromBytea, CreateTable, Insert, Update, Delete, Get, Ids, Slice, Declare, Fetch, Close, Rewrite, Vacuum, Array, Load, Set, Elem, Show, Vacuumlo, Step, Finish}
use Rattle.orphan_sweep.specs.declared.act.SweepAct.{SweepAct}
use Rattle.orphan_sweep.specs.declared.act.SweepAct.TheVariants as acts
use Rattle.orphan_sweep.specs.History.{History, and_told, next_act, acts_left}
use Rattle.orphan_sweep.specs.Plan.{is_answer_to}
use Rattle.orphan_sweep.proofs.Endings.{leaves_fewer}
use Rattle.lo_machine.specs.Run.{Moment, next_line, one_more, stays_at_line, is_finish, moment_after, end_from, IsPlayable, acts_before, line_schedule}
use Rattle.lo_machine.specs.State.{State, Outcome, Player, session_of}
use Rattle.lo_machine.specs.Step.{refusal_of, granted_or_refused, outcome, state_after}
use Rattle.lo_machine.specs.SweepRows.{act_of, act_in, told_of, answer_to, is_before_report, is_idle}

-- The acts of a clean-up.

abbrev is_unlink : SweepAct → Bool
is_unlink (acts.Unlink o) = true
is_unlink _ = false

-- an act's outcome is told to the clean-up
told_player : (st : State) (s : ℕ) (act : SweepAct) (refused : Bool) (done : Outcome) (h : History) → (st.players s).sweep ≡ Some h → is_idle act ≡ false → (told_of st s act refused done).player.sweep ≡ Some (and_told h (answer_to st s act refused))
told_player st s (acts.Scan t c) refused done h is busy = rw is refl
told_player st s acts.Begin refused done h is busy = rw is refl
told_player st s (acts.Unlink o) refused done h is busy = rw is refl
told_player st s acts.Commit refused done h is busy = rw is refl
told_player st s acts.Rollback refused done h is busy = rw is refl
told_player st s acts.Report refused done h is busy = rw is refl
told_player st s acts.Idle refused done h is busy = cc

-- an answer is of its act's kind, where only an unlink is refused
fitting : (st : State) (s : ℕ) (act : SweepAct) (refused : Bool) → is_idle act ≡ false → (is_unlink act ≡ false → refused ≡ false) → is_answer_to act (answer_to st s act refused) ≡ true
fitting st s (acts.Scan t c) refused busy granted = refl
fitting st s acts.Begin true busy granted = let no : true ≡ false = granted refl in cc
fitting st s acts.Begin false busy granted = refl
fitting st s (acts.Unlink o) true busy granted = refl
fitting st s (acts.Unlink o) false busy granted = refl
fitting st s acts.Commit true busy granted = let no : true ≡ false = granted refl in cc
fitting st s acts.Commit false busy granted = refl
fitting st s acts.Rollback true busy granted = let no : true ≡ false = granted refl in cc
fitting st s acts.Rollback false busy granted = refl
fitting st s acts.Report true busy granted = let no : true ≡ false = granted refl in cc
fitting st s acts.Report false busy granted = refl
fitting st s acts.Idle refused busy granted = cc

-- a finish whose act is no unlink is not refused
unrefused : (st : State) (s : ℕ) (act : SweepAct) (mark : Bool) → act_of st s ≡ act → (session_of st s).transaction.failed ≡ mark → is_idle act ≡ false → is_unlink act ≡ false → is_some (refusal_of st s Finish) ≡ false
unrefused st s (acts.Scan t c) true is at busy other = rw (is, at) refl
unrefused st s (acts.Scan t c) false is at busy other = rw (is, at) refl
unrefused st s acts.Begin true is at busy other = rw (is, at) refl
unrefused st s acts.Begin false is at busy other = rw (is, at) refl
unrefused st s (acts.Unlink o) mark is at busy other = cc
unrefused st s acts.Commit true is at busy other = rw (is, at) refl
unrefused st s acts.Commit false is at busy other = rw (is, at) refl
unrefused st s acts.Rollback true is at busy other = rw (is, at) refl
unrefused st s acts.Rollback false is at busy other = rw (is, at) refl
unrefused st s acts.Report true is at busy other = rw (is, at) refl
unrefused st s acts.Report false is at busy other = rw (is, at) refl
unrefused st s acts.Idle mark is at busy other = cc

pub before_is_busy : (act : SweepAct) → is_before_report act ≡ true → is_idle act ≡ false
before_is_busy (acts.Scan t c) h = refl
before_is_busy acts.Begin h = refl
before_is_busy (acts.Unlink o) h = refl
before_is_busy acts.Commit h = refl
before_is_busy acts.Rollback h = refl
before_is_busy acts.Report h = cc
before_is_busy acts.Idle h = cc

pub itself : (s : ℕ) → (s == s) ≡ true
itself s = grind (arith, nat_tests)

-- the session that advanced
own_player : (st : State) (s : ℕ) (request : Request) → (state_after st s request).players s ≡ (outcome st s request).player
own_player st s request = rw (itself s) refl

-- a finish whose act stands before the report leaves fewer acts
finish_leaves : (st : State) (s : ℕ) (h : History) → (st.players s).sweep ≡ Some h → is_before_report (next_act h) ≡ true → acts_before ((state_after st s Finish).players s).sweep + 1 ≤ acts_before (st.players s).sweep
finish_leaves st s h is before =
    let act : act_of st s ≡ next_act h = ap act_in is in
    let busy : is_idle (next_act h) ≡ false = before_is_busy (next_act h) before in
    let refused = is_some (refusal_of st s Finish) in
    let told : ((state_after st s Finish).players s).sweep ≡ Some (and_told h (answer_to st s (next_act h) refused)) =
    ap (λ (p : Player). p.sweep) (own_player st s Finish) ∙ (ap (λ (a : SweepAct). (told_of st s a refused (granted_or_refused st s Finish (refusal_of st s Finish))).player.sweep) act ∙ told_player st s (next_act h) refused _ h is busy) in
    let fits : is_answer_to (next_act h) (answer_to st s (next_act h) refused) ≡ true =
    fitting st s (next_act h) refused busy (unrefused st s (next_act h) (session_of st s).transaction.failed act refl busy) in
    subst (λ (now : Option History). acts_before now + 1 ≤ acts_before (st.players s).sweep) (sym told)
    (subst (λ (before : Option History). length (acts_left (and_told h (answer_to st s (next_act h) refused))) + 1 ≤ acts_before before) (sym is)
    (leaves_fewer h (answer_to st s (next_act h) refused) fits))

finish_fewer : (st : State) (s : ℕ) (sweep : Option History) → (st.players s).sweep ≡ sweep → is_before_report (act_in sweep) ≡ true → acts_before ((state_after st s Finish).players s).sweep + 1 ≤ acts_before (st.players s).sweep
finish_fewer st s None is before = cc
finish_fewer st s (Some h) is before = finish_leaves st s h is before

-- A line at which a session stays is a finish.

finishes : (request : Request) → is_finish request ≡ true → request ≡ Finish
finishes Finish h = refl
finishes Begin h = cc
finishes Commit h = cc
finishes Rollback h = cc
finishes (Savepoint a) h = cc
finishes (Release a) h = cc
finishes (RollbackTo a) h = cc
finishes Vacuum h = cc
finishes Step h = cc
finishes (LoCreate a) h = cc
finishes (LoPut a b c) h = cc
finishes (LoGet a b c) h = cc
finishes (LoCreat a) h = cc
finishes (LoOpen a b) h = cc
finishes (LoClose a) h = cc
finishes (LoRead a b) h = cc
finishes (LoWrite a b) h = cc
finishes (LoLseek a b c) h = cc
finishes (LoLseek64 a b c) h = cc
finishes (LoTell a) h = cc
finishes (LoTell64 a) h = cc
finishes (LoTruncate a b) h = cc
finishes (LoTruncate64 a b) h = cc
finishes (LoUnlink a) h = cc
finishes (LoFromBytea a b) h = cc
finishes (CreateTable a b) h = cc
finishes (Insert a b) h = cc
finishes (Update a b c) h = cc
finishes (Delete a b) h = cc
finishes (Get a b) h = cc
finishes (Ids a) h = cc
finishes (Slice a b c d e) h = cc
finishes (Declare a b c) h = cc
finishes (Fetch a b c d) h = cc
finishes (Close a) h = cc
finishes (Rewrite a b) h = cc
finishes (Array a b) h = cc
finishes (Load a b c d) h = cc
finishes (Set a b c) h = cc
finishes (Elem a b) h = cc
finishes (Show a) h = cc
finishes (Vacuumlo a b) h = cc

first_true : (a b : Bool) → (a && b) ≡ true → a ≡ true
first_true true b h = refl
first_true false b h = h

second_true : (a b : Bool) → (a && b) ≡ true → b ≡ true
second_true true b h = h
second_true false b h = cc

pub stays_shorter : (st : State) (s : ℕ) (request : Request) → stays_at_line st s request ≡ true → acts_before ((state_after st s request).players s).sweep + 1 ≤ acts_before (st.players s).sweep
stays_shorter st s request stays =
    let finish : request ≡ Finish = finishes request (first_true (is_finish request) (is_before_report (act_of st s)) stays) in
    subst (λ (r : Request). acts_before ((state_after st s r).players s).sweep + 1 ≤ acts_before (st.players s).sweep) (sym finish)
    (finish_fewer st s (st.players s).sweep refl (second_true (is_finish request) (is_before_report (act_of st s)) stays))

-- What a line's advances are: each of them is defined and of the session, and after the last one the line is over.
pub record Runs (programs : List (List Request)) (m : Moment) (s : ℕ) (run : List ℕ) : Type 0 where
  pub sessions : All (λ t. t ≡ s) run
  pub playable : IsPlayable programs m run
  pub over : (t : ℕ) → (end_from programs m run).lines_done t ≡ one_more s m.lines_done t

runs_once : (programs : List (List Request)) (m : Moment) (s : ℕ) (request : Request) → next_line programs m s ≡ Some request → stays_at_line m.state s request ≡ false → Runs programs m s (s ∷ [])
runs_once programs m s request line over = record {
  sessions = All-cons (λ t. t ≡ s) s [] refl (All-nil (λ t. t ≡ s));
  playable = (rw line refl, tt);
  over = λ t. rw (line, over) refl;
}

runs_on : (programs : List (List Request)) (m : Moment) (s : ℕ) (request : Request) (run : List ℕ) → next_line programs m s ≡ Some request → stays_at_line m.state s request ≡ true → Runs programs (moment_after m s (Some request)) s run → Runs programs m s (s ∷ run)
runs_on programs m s request run line stays more = record {
  sessions = All-cons (λ t. t ≡ s) s run refl more.sessions;
  playable = (rw line refl, rw line more.playable);
  over = λ t.
      ap (λ (l : Option Request). (end_from programs (moment_after m s l) run).lines_done t) line
      ∙ (more.over t ∙ ap (λ (b : Bool). one_more s (if b then m.lines_done else one_more s m.lines_done) t) stays);
}

pub same_line : (programs : List (List Request)) (m : Moment) (s : ℕ) (request : Request) → stays_at_line m.state s request ≡ true → next_line programs (moment_after m s (Some request)) s ≡ next_line programs m s
same_line programs m s request stays = rw stays refl

pub line_runs : (more : ℕ) (programs : List (List Request)) (m : Moment) (s : ℕ) (request : Request) → next_line programs m s ≡ Some request → acts_before (m.state.players s).sweep ≤ more → Runs programs m s (line_schedule more programs m s (Some request))
line_runs zero programs m s request line enough = by (stays_at_line m.state s request) refl
  where
    by : (stays : Bool) → stays_at_line m.state s request ≡ stays → Runs programs m s (s ∷ [])
    by false over = runs_once programs m s request line over
    by true stays = absurd (omega (arith, enough, stays_shorter m.state s request stays))
line_runs (suc more) programs m s request line enough = by (stays_at_line m.state s request) refl (line_runs more programs (moment_after m s (Some request)) s request)
  where
    by : (stays : Bool) → stays_at_line m.state s request ≡ stays → (next_line programs (moment_after m s (Some request)) s ≡ Some request → acts_before ((moment_after m s (Some request)).state.players s).sweep ≤ more → Runs programs (moment_after m s (Some request)) s (line_schedule more programs (moment_after m s (Some request)) s (Some request))) → Runs programs m s (line_schedule (suc more) programs m s (Some request))
    by false over on = rw over (runs_once programs m s request line over)
    by true stays on =
        let next : next_line programs (moment_after m s (Some request)) s ≡ Some request = same_line programs m s request stays ∙ line in
        let rest : Runs programs (moment_after m s (Some request)) s (line_schedule more programs (moment_after m s (Some request)) s (Some request)) = on next (omega (arith, enough, stays_shorter m.state s request stays)) in
        subst (Runs programs m s)
        (sym (ap (λ (b : Bool). if b then s ∷ line_schedule more programs (moment_after m s (Some request)) s (next_line programs (moment_after m s (Some request)) s) else s ∷ []) stays
        ∙ ap (λ (l : Option Request). s ∷ line_schedule more programs (moment_after m s (Some request)) s l) next))
        (runs_on programs m s request (line_schedule more programs (moment_after m s (Some request)) s (Some request)) line stays rest)
