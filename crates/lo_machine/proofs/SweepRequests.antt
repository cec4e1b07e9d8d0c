-- What an engine does of the requests of clean-ups.
use Rattle.std.proofs.Common.{◌≡◌, ◌≤◌, ℕ, ◌-◌, pos, Bool, true, false, List, [], ◌∷◌, length, Option, Some, None, Vec, Global, refl, ap, sym, subst, ◌∙◌}
use Rattle.std.specs.Prelude.{slice_set, slice_index_or}
use Rattle.lo_base.specs.declared.refusal.Cause.{Cause}
use Rattle.lo_base.specs.declared.refusal.Cause.TheVariants.{Failed, InBlock}
use Rattle.lo_base.specs.declared.refusal.Refusal.{Refusal}
use Rattle.lo_base.specs.declared.reply.Reply.{Reply}
use Rattle.lo_base.specs.declared.reply.Reply.TheVariants.{Counted, Word}
use Rattle.lo_base.specs.declared.reply.Word.TheVariants as words
use Rattle.lo_base.specs.declared.request.Request.{Request}
use Rattle.lo_base.specs.declared.request.Request.TheVariants.{Step, Vacuumlo}
use Rattle.lo_model.specs.Listing.{oids_in}
use Rattle.lo_pages.specs.Outcome.{first_of}
use Rattle.orphan_sweep.specs.declared.act.Scan.{Scan}
use Rattle.orphan_sweep.specs.declared.act.SweepAct.{SweepAct}
use Rattle.orphan_sweep.specs.declared.act.SweepAct.TheVariants as acts
use Rattle.orphan_sweep.specs.declared.act.Told.{Told}
use Rattle.orphan_sweep.specs.declared.act.Told.TheVariants.{Found, Granted}
use Rattle.orphan_sweep.specs.History.{History, and_told, begun, next_act, rest_of}
use Rattle.orphan_sweep.specs.Plan.{is_answer_to}
use Rattle.orphan_sweep.specs.Rest.{less}
use Rattle.orphan_sweep.specs.State as sweep
use Rattle.orphan_sweep.specs.State.{next_of}
use Rattle.orphan_sweep.proofs.OneMoreAnswer.{state-found}
use Rattle.lo_machine.specs.declared.cleanup.Cleanup.{Cleanup}
use Rattle.lo_machine.specs.declared.engine.Engine.{Engine}
use Rattle.lo_machine.specs.declared.server.Server.{Server}
use Rattle.lo_machine.specs.Engine.{Does, Leaves, StandsFor, next_in}
use Rattle.lo_machine.specs.Server as server
use Rattle.lo_machine.specs.State.{State, Outcome, answered, refused, session_of, view_of}
use Rattle.lo_machine.specs.Step.{outcome, refusal_of, tried}
use Rattle.lo_machine.specs.SweepRows.{act_granted, act_in, act_of, act_refusals, answer_to, found_in, is_idle, rest_in, scan_reply, scans_of, told_of, vacuumlo_granted}
use Rattle.lo_machine.specs.Sweeping.{IsAt, IsFor, answer_of, request_of, sweeps_of}
use Rattle.lo_machine.specs.Terms.{refusal}
use Rattle.lo_machine.proofs.ActOutcomes.{DoneByRequest, IsByRequest, by_request, done_by_request, granted_of, idle_answered, idle_refused, outcome_of, refused_sweep, term_of, told_sweep_of, vacuumlo_begun, vacuumlo_failed, vacuumlo_inside}
use Rattle.lo_machine.proofs.BlockRequests.{failure_is, nothing_does, outside}
use Rattle.lo_machine.proofs.CleanupsKept.{IsBegun, IsOwn, act_for, begun_of, exchanged, own_for, own_next, sweeps_kept}
use Rattle.lo_machine.proofs.EngineSteps.{leaves_same}
use Rattle.lo_machine.proofs.ToldSweeps.{IsSame, told_same}

-- An engine whose session's clean-up is another one.
abbrev pub with_own : Server → Vec Cleanup Global → Engine
with_own new cleanups = record { server = new; cleanups = cleanups }

module _ (old : Engine) (s place : ℕ) (own : Cleanup) (is : IsOwn old s place own) where
  -- the act that comes next, in each state that the engine stands for
  pub act_is : (st : State) → StandsFor old st → act_of st s ≡ next_in old s
  act_is st stands = sym (act_for own (sweeps_of st s) (own_for old s place own is st stands)) ∙ sym (own_next old s place own is)

  pub own_begun : (st : State) → StandsFor old st → is_idle (next_in old s) ≡ false → IsBegun (sweeps_of st s)
  own_begun st stands busy = begun_of (sweeps_of st s) (ap is_idle (act_is st stands) ∙ busy)

  pub own_at : (st : State) → StandsFor old st → (h : History) → sweeps_of st s ≡ Some h → IsAt own h
  own_at st stands h begun' = subst (IsFor own) begun' (own_for old s place own is st stands)

  module _ (own' : Cleanup) (cleanups : Vec Cleanup Global) (set : cleanups.items ≡ slice_set old.cleanups.items place own') where
    -- an act that was done as a request
    pub request_does : (new : Server) (r : Request) (reply : Reply) → request_of (next_in old s) ≡ Some r → server.Does old.server new s (λ st. tried st s r) reply → ((h : History) → IsAt own h → IsAt own' (and_told h (answer_of reply))) → Does old (with_own new cleanups) s (λ st. outcome st s Step) reply
    request_does new r reply request does tells = record {
      reply = λ st stands. does.reply st stands.server ∙ sym (done st stands).same.reply;
      leaves = λ st stands. record {
        server = leaves_same new st s (outcome st s Step) (tried st s r) (done st stands).same (does.leaves st stands.server);
        sweeps = exchanged old s place own is cleanups.items own' (sweeps_of st) (outcome st s Step).player.sweep set stands.sweeps (own_then st stands);
      };
      rows = does.rows;
      time = does.time;
    }
      where
        done : (st : State) → StandsFor old st → DoneByRequest st s r
        done st stands = done_by_request st s (next_in old s) r (act_is st stands) request

        own_then : (st : State) → StandsFor old st → IsFor own' (outcome st s Step).player.sweep
        own_then st stands =
            let begun' = own_begun st stands (by_request st s (next_in old s) r request).busy in
            let at : IsAt own' (and_told begun'.history (answer_of reply)) = tells begun'.history (own_at st stands begun'.history begun'.is) in
            let answer : answer_of reply ≡ answer_of (tried st s r).reply = ap answer_of (does.reply st stands.server) in
            subst (IsFor own') (sym ((done st stands).sweep begun'.history begun'.is)) (subst (λ (a : Told). IsAt own' (and_told begun'.history a)) answer at)

    -- an act that only answers
    pub answer_does : (reply : Reply) (answer : Told) → is_idle (next_in old s) ≡ false → ((st : State) → StandsFor old st → act_refusals st s (next_in old s) ≡ []) → ((st : State) → StandsFor old st → act_granted st s (next_in old s) ≡ answered st s reply) → ((st : State) → StandsFor old st → answer_to st s (next_in old s) false ≡ answer) → ((h : History) → IsAt own h → IsAt own' (and_told h answer)) → Does old (with_own old.server cleanups) s (λ st. outcome st s Step) reply
    answer_does reply answer busy terms granted' told tells = record {
      reply = λ st stands. sym (same st stands).reply;
      leaves = λ st stands. record {
        server = leaves_same old.server st s (outcome st s Step) (answered st s reply) (same st stands) ((nothing_does old.server s reply).leaves st stands.server);
        sweeps = exchanged old s place own is cleanups.items own' (sweeps_of st) (outcome st s Step).player.sweep set stands.sweeps (own_then st stands);
      };
      rows = λ rows. rows;
      time = refl;
    }
      where
        act : SweepAct
        act = next_in old s

        one_is : (st : State) → StandsFor old st → outcome st s Step ≡ told_of st s act false (answered st s reply)
        one_is st stands =
            let term : refusal_of st s Step ≡ None = term_of st s act (act_is st stands) busy ∙ ap first_of (terms st stands) in
            outcome_of st s act (act_is st stands) None term ∙ ap (told_of st s act false) (granted_of st s act (act_is st stands) ∙ granted' st stands)

        same : (st : State) → StandsFor old st → IsSame (outcome st s Step) (answered st s reply)
        same st stands = subst (λ (one : Outcome). IsSame one (answered st s reply)) (sym (one_is st stands)) (told_same st s act false (answered st s reply))

        own_then : (st : State) → StandsFor old st → IsFor own' (outcome st s Step).player.sweep
        own_then st stands =
            let begun' = own_begun st stands busy in
            let sweep' : (outcome st s Step).player.sweep ≡ Some (and_told begun'.history answer) =
            ap (λ (one : Outcome). one.player.sweep) (one_is st stands)
            ∙ (told_sweep_of st s act false (answered st s reply) begun'.history begun'.is busy
            ∙ ap (λ (a : Told). Some (and_told begun'.history a)) (told st stands)) in
            subst (IsFor own') (sym sweep') (tells begun'.history (own_at st stands begun'.history begun'.is))

    -- a clean-up that begins
    pub begin_does : (dry : Bool) (limit : ℕ) (list : List ℕ) (scans : List Scan) → server.names_in old.server s ≡ [] → slice_index_or old.server.failed.items (s - 1) false ≡ false → ((st : State) → server.StandsFor old.server st → list ≡ oids_in (view_of st s)) → ((st : State) → server.StandsFor old.server st → scans ≡ scans_of st.database.tables) → IsAt own' (begun dry limit list scans) → Does old (with_own old.server cleanups) s (λ st. outcome st s (Vacuumlo dry limit)) (Counted words.Listed (length list))
    begin_does dry limit list scans none unfailed lists scanned at = record {
      reply = λ st stands. ap (λ (l : List ℕ). Counted words.Listed (length l)) (lists st stands.server) ∙ ap (λ (one : Outcome). one.reply) (sym (one_is st stands));
      leaves = λ st stands. record {
        server = leaves_same old.server st s (outcome st s (Vacuumlo dry limit)) (answered st s (Counted words.Listed (length (oids_in (view_of st s))))) (same st stands) ((nothing_does old.server s (Counted words.Listed (length (oids_in (view_of st s))))).leaves st stands.server);
        sweeps = exchanged old s place own is cleanups.items own' (sweeps_of st) (outcome st s (Vacuumlo dry limit)).player.sweep set stands.sweeps
            (subst (λ (one : Outcome). IsFor own' one.player.sweep) (sym (one_is st stands)) (own_then st stands));
      };
      rows = λ rows. rows;
      time = refl;
    }
      where
        one_is : (st : State) → StandsFor old st → outcome st s (Vacuumlo dry limit) ≡ vacuumlo_granted st s dry limit
        one_is st stands = vacuumlo_begun st s dry limit (failure_is s is.low is.high old.server false (sym unfailed) st stands.server) (outside s is.low is.high old.server none st stands.server)

        same : (st : State) → StandsFor old st → IsSame (outcome st s (Vacuumlo dry limit)) (answered st s (Counted words.Listed (length (oids_in (view_of st s)))))
        same st stands = subst (λ (one : Outcome). IsSame one (answered st s (Counted words.Listed (length (oids_in (view_of st s)))))) (sym (one_is st stands)) (record { reply = refl; database = refl; session = refl; variables = refl })

        own_then : (st : State) → StandsFor old st → IsAt own' (begun dry limit (oids_in (view_of st s)) (scans_of st.database.tables))
        own_then st stands = subst (λ (l : List ℕ). IsAt own' (begun dry limit l (scans_of st.database.tables))) (lists st stands.server) (subst (λ (columns : List Scan). IsAt own' (begun dry limit list columns)) (scanned st stands.server) at)

-- A request was refused: the server did so, and the clean-up stays.
pub refused_does : (old : Engine) (new : Server) (s : ℕ) (r : Request) (cause : Cause) (reply : Reply) → ((st : State) → StandsFor old st → outcome st s r ≡ refused st s (refusal cause (pos 0))) → server.Does old.server new s (λ st. refused st s (refusal cause (pos 0))) reply → Does old (with_own new old.cleanups) s (λ st. outcome st s r) reply
refused_does old new s r cause reply one_is does = record {
  reply = λ st stands. does.reply st stands.server ∙ ap (λ (one : Outcome). one.reply) (sym (one_is st stands));
  leaves = λ st stands. record {
    server = subst (server.Leaves new st s) (sym (one_is st stands)) (does.leaves st stands.server);
    sweeps = sweeps_kept old.cleanups.items s (sweeps_of st) (outcome st s r).player.sweep (ap (λ (one : Outcome). one.player.sweep) (one_is st stands) ∙ refused_sweep st s (refusal cause (pos 0))) stands.sweeps;
  };
  rows = does.rows;
  time = does.time;
}

-- there is no act
pub idle_does : (old : Engine) (s place : ℕ) (own : Cleanup) → IsOwn old s place own → next_in old s ≡ acts.Idle → slice_index_or old.server.failed.items (s - 1) false ≡ false → Does old old s (λ st. outcome st s Step) (Word words.Idle)
idle_does old s place own is idle unfailed = record {
  reply = λ st stands. ap (λ (one : Outcome). one.reply) (sym (one_is st stands));
  leaves = λ st stands. record {
    server = subst (server.Leaves old.server st s) (sym (one_is st stands)) ((nothing_does old.server s (Word words.Idle)).leaves st stands.server);
    sweeps = sweeps_kept old.cleanups.items s (sweeps_of st) (outcome st s Step).player.sweep (ap (λ (one : Outcome). one.player.sweep) (one_is st stands)) stands.sweeps;
  };
  rows = λ rows. rows;
  time = refl;
}
  where
    one_is : (st : State) → StandsFor old st → outcome st s Step ≡ answered st s (Word words.Idle)
    one_is st stands = idle_answered st s (act_is old s place own is st stands ∙ idle) (failure_is s is.low is.high old.server false (sym unfailed) st stands.server)

-- the numbers that are left once a column was scanned
pub rest_found : (h : History) (numbers : List ℕ) → is_answer_to (next_act h) (Found numbers) ≡ true → rest_of (and_told h (Found numbers)) ≡ less (rest_of h) numbers
rest_found h numbers fits = ap (λ (s : sweep.State). s.rest) (state-found h numbers fits)
