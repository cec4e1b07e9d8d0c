-- A request that needs a transaction, outside a block: its transaction begins, it is called, and the transaction ends.
use Rattle.std.proofs.Common.{◌≡◌, ◌≤◌, ℕ, Bool, true, false, List, [], ◌∷◌, ◌++◌, length, Option, Some, None, refl, ap, sym, subst, ◌∙◌, arith}
use Rattle.std.specs.Prelude.{◌||◌}
use Rattle.lo_base.specs.declared.refusal.Refusal.{Refusal}
use Rattle.lo_base.specs.declared.reply.Reply.{Reply}
use Rattle.lo_base.specs.declared.reply.Reply.TheVariants.{Refused}
use Rattle.lo_base.specs.declared.request.Request.{Request}
use Rattle.lo_model.specs.declared.owner.Owner.{Owner}
use Rattle.lo_model.specs.declared.owner.Owner.TheVariants.{Running, Committed}
use Rattle.lo_model.specs.Database.{Table}
use Rattle.lo_model.specs.Edit.{Deed, edits_by}
use Rattle.lo_model.specs.Levels.{undone, committed, aborted}
use Rattle.lo_model.specs.Session.{Session, idle_session, session_undone}
use Rattle.lo_model.specs.Transaction.{has_levels, is_open, top_level}
use Rattle.lo_pages.specs.Outcome.{first_of}
use Rattle.xact_core.specs.Kept.{HoldsOthers}
use Rattle.lo_machine.specs.declared.server.Server.{Server}
use Rattle.lo_machine.specs.CallRow.{call_row, is_call, is_on_data, sets}
use Rattle.lo_machine.specs.CallRows.{Shared, shared_of, shared_by, session_by, here, called, misplaced_by}
use Rattle.lo_machine.specs.Dispatch.{here_in, IsGranted, Grants, Refuses, FindsNoMemory}
use Rattle.lo_machine.specs.Server.{xacts_of, clock_of, names_in, HasVariables, with_variables_at, StandsFor, Leaves, Becomes, Loses}
use Rattle.lo_machine.specs.Later.{with_session_at}
use Rattle.lo_machine.specs.Moves.{unturned, session_opened}
use Rattle.lo_machine.specs.Row.{Here, Row}
use Rattle.lo_machine.specs.State.{State, Outcome, Variable, now, edits, session_of, variables_of, owner_in, and_made, refused_in}
use Rattle.lo_machine.specs.Step.{tried}
use Rattle.lo_machine.proofs.CallFinds.{set_again, has_same, variables_kept, same_variables, clock_kept, lost_has, lost_variables, has_opened, time_opened, variables_opened, finds_opened, here_opened}
use Rattle.lo_machine.proofs.CallLevels.{IsAlike, level_free}
use Rattle.lo_machine.proofs.OpenEdits.{all_none, all_below, committed_both, undone_below}
use Rattle.lo_machine.proofs.Outcomes.{IsPlaced, tried_granted, tried_refused}
use Rattle.lo_machine.proofs.WellEdits.{session_again}
use Rattle.lo_machine.proofs.WellSessions.{idle}

-- a request that needs a transaction is on data
pub call_on_data : (r : Request) → is_call r ≡ true → is_on_data r ≡ true
call_on_data r call = ap (λ (b : Bool). b || sets r) call

-- a session's variables after a grant that leaves those of the row
pub granted_variables : (e : Server) (s : ℕ) (variables : ℕ → List Variable) (own own' : List Variable) → own ≡ own' → HasVariables e (with_variables_at s own variables) → HasVariables e (with_variables_at s own' variables)
granted_variables e s variables own own' same has = subst (λ (vs : List Variable). HasVariables e (with_variables_at s vs variables)) same has

-- what sessions share after two grants of rows that are alike
pub shared_alike : (a b : Row) → IsAlike a b → shared_by a.granted ≡ shared_by b.granted
shared_alike a b alike =
    ap (λ (n : ℕ). record { counter = n; tables = a.granted.tables }) alike.counter
    ∙ ap (λ (ts : List Table). record { counter = b.granted.counter; tables = ts }) alike.tables

module _ (s : ℕ) (low : 1 ≤ s) (high : s ≤ 16) (e0 e1 e2 : Server) (none : names_in e0 s ≡ []) (opens : Becomes s (None ∷ []) unturned (session_opened None) e0 e1) (holds : HoldsOthers (xacts_of e1) (xacts_of e2)) where
  module _ (st : State) (stands : StandsFor e0 st) where
    abbrev pub mine : Session
    mine = session_of st s

    none' : mine.transaction.levels ≡ []
    none' = sym (stands.has.sessions s low high).levels ∙ none

    is_idle : mine ≡ idle_session
    is_idle = idle (now st) (edits st) mine (stands.well.well.each s) none'

    outside : is_open mine.transaction ≡ false
    outside = ap has_levels none'

    abbrev pub opened : Session
    opened = session_opened None mine

    abbrev pub sessions1 : ℕ → Session
    sessions1 = with_session_at s opened (session_of st)

    abbrev pub shared : Shared
    shared = shared_of st.database

    time2 : clock_of e2 ≡ now st
    time2 = clock_kept (xacts_of e1) (xacts_of e2) holds ∙ time_opened s low high e0 st stands None (None ∷ []) e1 opens

    -- once its transaction ended, the session is idle as before
    ended_same : (last : Session) (t : ℕ) → with_session_at s idle_session (with_session_at s last sessions1) t ≡ session_of st t
    ended_same last t =
        set_again s last idle_session sessions1 t
        ∙ (set_again s opened idle_session (session_of st) t
        ∙ (ap (λ (session : Session). with_session_at s session (session_of st) t) (sym is_idle)
        ∙ session_again s (session_of st) t))

    -- what was there is no edit of its transaction
    below : undone s 1 (edits st) ≡ edits st
    below = undone_below s 1 (edits st) (all_below (now st) s 1 (session_of st) (edits st) stands.well.well.past (omega (arith, ap length none')))

    module _ (r : Request) (call : is_call r ≡ true) (placed' : misplaced_by r false ≡ None) where
      placed : IsPlaced st s r
      placed = ap (misplaced_by r) outside ∙ placed'

      -- the row as it was read, and as it is of the state
      abbrev pub read : Row
      read = call_row r (here_in s e1 (edits st) shared sessions1 (variables_of st))

      abbrev pub row : Row
      row = call_row r (here st s)

      alike : IsAlike read row
      alike = subst (λ (h : Here). IsAlike (call_row r h) row) (sym (here_opened s low high e0 st stands None (None ∷ []) e1 opens)) (level_free r call (here st s) (length (names_in e1 s)) (top_level mine.transaction))

      -- a call that was granted
      module _ (reply : Reply) (grants : Grants s (call_row r) e1 e2 reply) where
        granted : IsGranted s read e1 e2 reply (edits st) sessions1 (variables_of st)
        granted = grants.granted (edits st) shared sessions1 (variables_of st) (finds_opened s low high e0 st stands None (None ∷ []) e1 opens)

        abbrev pub does : Outcome
        does = called st s row.granted

        is_tried : tried st s r ≡ does
        is_tried = tried_granted st s r (call_on_data r call) placed stands.well.uncounted (ap first_of (sym alike.refusals) ∙ granted.unrefused)

        pub alone_reply : reply ≡ (tried st s r).reply
        alone_reply = granted.answer ∙ (alike.reply ∙ ap (λ (done : Outcome). done.reply) (sym is_tried))

        pub alone_leaves : (e3 : Server) → Becomes s [] (committed s (clock_of e2)) (λ session. idle_session) e2 e3 → Leaves e3 st s (tried st s r)
        alone_leaves e3 ends =
            let has3 = ends.has _ _ _ granted.has in
            subst (Leaves e3 st s) (sym is_tried) record {
              time = ends.time ∙ time2;
              has = has_same e3 _ _ _ (shared_by row.granted) _ _ all_same (shared_alike read row alike) session_same has3;
              variables = granted_variables e3 s (variables_of st) _ _ alike.variables (variables_kept e2 e3 _ ends.variables granted.arrays);
            }
          where
            all_same : committed s (clock_of e2) (edits st ++ edits_by (clock_of e1) (Running s (length (names_in e1 s))) read.granted.deeds) ≡ and_made st s row.granted.deeds
            all_same =
                committed_both s (clock_of e2) (clock_of e1) (length (names_in e1 s)) (edits st) read.granted.deeds (all_none (now st) s (session_of st) (edits st) stands.well.well.past none')
                ∙ (ap (λ (clock : ℕ). edits st ++ edits_by clock (Committed (clock_of e2)) read.granted.deeds) (time_opened s low high e0 st stands None (None ∷ []) e1 opens)
                ∙ (ap (λ (ds : List Deed). edits st ++ edits_by (now st) (Committed (clock_of e2)) ds) alike.deeds
                ∙ ap (λ (owner : Owner). edits st ++ edits_by (now st) owner row.granted.deeds) (ap Committed time2 ∙ ap (owner_in (now st) s) (sym none'))))

            by : (session : Session) → is_open session.transaction ≡ false → session_by (is_open session.transaction) row.granted session ≡ session
            by session is = rw is refl

            session_same : (t : ℕ) → with_session_at s idle_session (with_session_at s (session_by true read.granted (sessions1 s)) sessions1) t ≡ with_session_at s does.player.session (session_of st) t
            session_same t =
                ended_same (session_by true read.granted (sessions1 s)) t
                ∙ (sym (session_again s (session_of st) t) ∙ ap (λ (session : Session). with_session_at s session (session_of st) t) (sym (by mine outside)))

      -- one that was refused
      module _ (refusal : Refusal) (refuses : Refuses s (call_row r) e1 e2 refusal) where
        first : first_of row.refusals ≡ Some refusal
        first = ap first_of (sym alike.refusals) ∙ refuses.first (edits st) shared sessions1 (variables_of st) (finds_opened s low high e0 st stands None (None ∷ []) e1 opens)

        is_refused : tried st s r ≡ refused_in st s false refusal
        is_refused = tried_refused st s r refusal (call_on_data r call) placed stands.well.uncounted first ∙ ap (λ (open' : Bool). refused_in st s open' refusal) outside

        pub alone_refused : Refused refusal ≡ (tried st s r).reply
        alone_refused = sym (ap (λ (done : Outcome). done.reply) is_refused)

        pub alone_refused_leaves : (e3 : Server) → Becomes s [] (aborted s) (λ session. idle_session) e2 e3 → Leaves e3 st s (tried st s r)
        alone_refused_leaves e3 ends =
            let has2 = refuses.stays.has (edits st) shared sessions1 (has_opened s low high e0 st stands None (None ∷ []) e1 opens) in
            let arrays2 = refuses.stays.variables (variables_of st) (variables_opened s low high e0 st stands None (None ∷ []) e1 opens) in
            subst (Leaves e3 st s) (sym is_refused) record {
              time = ends.time ∙ time2;
              has = has_same e3 _ _ shared shared _ _ below refl session_same (ends.has (edits st) shared sessions1 has2);
              variables = same_variables e3 s (variables_of st) (variables_kept e2 e3 (variables_of st) ends.variables arrays2);
            }
          where
            session_same : (t : ℕ) → with_session_at s idle_session sessions1 t ≡ with_session_at s (session_of st s) (session_of st) t
            session_same t =
                set_again s opened idle_session (session_of st) t
                ∙ ap (λ (session : Session). with_session_at s session (session_of st) t) (sym is_idle)

    -- one that found no memory: its level is undone, and then its transaction
    module _ (lacks : FindsNoMemory s e1 e2) (e3 e4 : Server) (names : List (Option (List ℕ))) (undoes : Becomes s names (undone s 1) (session_undone 1 false) e2 e3) (loses : Loses s 1 e2 e3) (ends : Becomes s [] (aborted s) (λ session. idle_session) e3 e4) where
      pub alone_stands : StandsFor e4 st
      alone_stands =
          let has3 = lost_has s 1 e1 e2 e3 (sym (ap length opens.names)) lacks names (session_undone 1 false) undoes loses (edits st) shared sessions1 (has_opened s low high e0 st stands None (None ∷ []) e1 opens) in
          let arrays3 = lost_variables s 1 e1 e2 e3 (sym (ap length opens.names)) lacks names (session_undone 1 false) undoes loses (variables_of st) (variables_opened s low high e0 st stands None (None ∷ []) e1 opens) in
          record {
            time = ends.time ∙ (undoes.time ∙ time2);
            has = has_same e4 _ _ shared shared _ _ (ap (aborted s) below ∙ below) refl (ended_same (session_undone 1 false (sessions1 s))) (ends.has _ _ _ has3);
            variables = variables_kept e3 e4 (variables_of st) ends.variables arrays3;
            well = stands.well;
            fit = stands.fit;
          }
