-- What a request on data answers, from every state: in a block, outside one where it is on array variables alone, or out of place.
use Rattle.std.proofs.Common.{◌≡◌, ◌≤◌, ◌<◌, ℕ, pos, ◌-◌, Bool, true, false, List, [], ◌∷◌, ◌++◌, length, Option, Some, None, Ok, Err, refl, ap, sym, subst, ◌∙◌, arith}
use Rattle.std.specs.Prelude.{slice_index_or, Result, IfOk, IfErr, OnErr, ◌||◌}
use Rattle.lo_base.specs.declared.refusal.Cause.{Cause}
use Rattle.lo_base.specs.declared.refusal.Denied.{Denied}
use Rattle.lo_base.specs.declared.refusal.Denied.TheVariants.{By, NoMemory}
use Rattle.lo_base.specs.declared.refusal.Refusal.{Refusal}
use Rattle.lo_base.specs.declared.reply.Reply.{Reply}
use Rattle.lo_base.specs.declared.request.Request.{Request}
use Rattle.lo_model.specs.Levels.{released, undone}
use Rattle.lo_model.specs.Session.{session_released, session_undone}
use Rattle.lo_model.specs.Transaction.{has_levels, is_open}
use Rattle.xact_core.specs.Transactions.{Transactions}
use Rattle.lo_machine.specs.declared.server.Server.{Server}
use Rattle.lo_machine.specs.CallRow.{call_row, writes, reads, sets, is_call, is_on_data}
use Rattle.lo_machine.specs.CallRows.{misplaced_by}
use Rattle.lo_machine.specs.Dispatch.{Grants, Denies, Stays, AnswersCall, ReadsCall, DeniesInBlock, AnswersInBlock}
use Rattle.lo_machine.specs.Server.{xacts_of, names_in, IsServer, StandsFor, Leaves, Does, Undone, Becomes, Loses}
use Rattle.lo_machine.specs.Moves.{unturned, session_opened}
use Rattle.lo_machine.specs.State.{State, Outcome, session_of, refused}
use Rattle.lo_machine.specs.Step.{granted_or_refused, tried}
use Rattle.lo_machine.specs.Terms.{refusal}
use Rattle.lo_machine.proofs.BlockRequests.{does_as}
use Rattle.lo_machine.proofs.CallAlone.{call_on_data}
use Rattle.lo_machine.proofs.CallCases.{each_set}
use Rattle.lo_machine.proofs.CallFinds.{clock_kept, still_stands, lost_rows}
use Rattle.lo_machine.proofs.CallInBlock.{open_levels, look_reply, look_leaves, set_leaves, look_first, write_reply, write_leaves, write_first, write_refused, write_starved}
use Rattle.lo_machine.proofs.Outcomes.{IsPlaced, tried_misplaced}

-- A request that makes no edit, at the session's levels.
module _ (s : ℕ) (low : 1 ≤ s) (high : s ≤ 16) (e0 e2 : Server) (r : Request) (data' : is_on_data r ≡ true) (placed : (st : State) → StandsFor e0 st → IsPlaced st s r) (leaves : (st : State) → StandsFor e0 st → (reply : Reply) → Grants s (call_row r) e0 e2 reply → Leaves e2 st s (tried st s r)) where
  module _ (result : Result Reply Denied) (answers : AnswersCall s (call_row r) e0 e2 result) where
    time_same : (xacts_of e2).clock ≡ (xacts_of e0).clock
    time_same = clock_kept (xacts_of e0) (xacts_of e2) answers.xacts

    stands_still : Stays e0 e2 → Undone e0 e2
    stands_still stays = record { stands = λ st stands. still_stands e0 e2 st stays answers.xacts stands; rows = λ old. stays.rows; time = time_same }

    look_granted : (one : Result Reply Denied) → IfOk one (Grants s (call_row r) e0 e2) → IfOk one (Does e0 e2 s (λ st. tried st s r))
    look_granted (Ok reply) grants = record {
      reply = λ st stands. look_reply s low high e0 st stands e2 answers.xacts r data' (placed st stands) reply grants;
      leaves = λ st stands. leaves st stands reply grants;
      rows = λ old. grants.rows;
      time = time_same;
    }
    look_granted (Err denied) grants = tt

    look_denied : (one : Result Reply Denied) → OnErr one (Stays e0 e2) → IfErr one (Denies s (call_row r) e0 e2) → IfErr one (DeniesInBlock s r e0 e2)
    look_denied (Ok reply) stays denies = tt
    look_denied (Err (By refusal)) stays refuses = record {
      first = λ st stands. look_first s low high e0 st stands e2 answers.xacts r data' (placed st stands) refusal refuses;
      undone = stands_still stays;
    }
    look_denied (Err NoMemory) stays lacks = record { first = λ st stands. tt; undone = stands_still stays }

  answers_as : (result : Result Reply Denied) → ReadsCall s (call_row r) e0 e2 result → AnswersInBlock s r e0 e2 result
  answers_as result reads =
      let same = ap (λ (x : Transactions). x.undos) reads.answers.xacts.rest in
      record {
        sound = reads.answers.sound;
        undos = omega (arith, same);
        ok = look_granted result reads.answers result reads.answers.ok;
        err = look_denied result reads.answers result reads.stays reads.answers.err;
      }

-- one in a block
pub look_answers : (s : ℕ) → 1 ≤ s → s ≤ 16 → (e0 e2 : Server) → 0 < length (names_in e0 s) → (r : Request) → is_call r ≡ true → misplaced_by r true ≡ None → (result : Result Reply Denied) → ReadsCall s (call_row r) e0 e2 result → AnswersInBlock s r e0 e2 result
look_answers s low high e0 e2 some r call in_block result reads =
    answers_as s low high e0 e2 r (call_on_data r call) placed (λ st stands reply grants. look_leaves s low high e0 st stands e2 reads.answers.xacts r (call_on_data r call) (placed st stands) reply grants some) result reads
  where
    placed : (st : State) → StandsFor e0 st → IsPlaced st s r
    placed st stands = ap (misplaced_by r) (open_levels (session_of st s).transaction.levels (subst (λ (names : List (Option (List ℕ))). 0 < length names) (stands.has.sessions s low high).levels some)) ∙ in_block

-- and one on array variables
pub set_on_data : (r : Request) → sets r ≡ true → is_on_data r ≡ true
set_on_data = each_set (λ r. is_on_data r ≡ true) record { array = λ name text. refl; set = λ name sub value. refl; elem' = λ name sub. refl; show = λ name. refl }

set_placed : (r : Request) → sets r ≡ true → (in_block : Bool) → misplaced_by r in_block ≡ None
set_placed = each_set (λ r. (in_block : Bool) → misplaced_by r in_block ≡ None) record { array = λ name text in_block. refl; set = λ name sub value in_block. refl; elem' = λ name sub in_block. refl; show = λ name in_block. refl }

pub set_answers : (s : ℕ) → 1 ≤ s → s ≤ 16 → (e0 e2 : Server) (r : Request) → sets r ≡ true → (result : Result Reply Denied) → ReadsCall s (call_row r) e0 e2 result → AnswersInBlock s r e0 e2 result
set_answers s low high e0 e2 r set result reads =
    answers_as s low high e0 e2 r (set_on_data r set) placed (λ st stands reply grants. set_leaves s low high e0 st stands e2 reads.answers.xacts r (set_on_data r set) (placed st stands) reply grants set) result reads
  where
    placed : (st : State) → StandsFor e0 st → IsPlaced st s r
    placed st stands = set_placed r set (is_open (session_of st s).transaction)

-- One that writes, in a level of its own.
module _ (s : ℕ) (low : 1 ≤ s) (high : s ≤ 16) (e0 e1 e2 : Server) (some : 0 < length (names_in e0 s)) (name : List ℕ) (opens : Becomes s (names_in e0 s ++ Some name ∷ []) unturned (session_opened (Some name)) e0 e1) (level : ℕ) (is_level : level ≡ length (names_in e1 s)) (r : Request) (in_block : misplaced_by r true ≡ None) (is_writing : writes r ≡ true) where
  is_a_call : is_call r ≡ true
  is_a_call = ap (λ (b : Bool). b || reads r) is_writing

  module _ (e3 : Server) (names : List (Option (List ℕ))) (merges : Becomes s names (released s level) (session_released level) e2 e3) (reply : Reply) (answers : AnswersCall s (call_row r) e1 e2 (Ok reply)) where
    pub level_granted : IsServer e3 → AnswersInBlock s r e0 e3 (Ok reply)
    level_granted sound3 =
        let same = ap (λ (x : Transactions). x.undos) answers.xacts.rest in
        record {
          sound = sound3;
          undos = omega (arith, same, opens.undos, merges.undos);
          ok = record {
            reply = λ st stands. write_reply s low high e0 st stands name e1 e2 some opens answers.xacts level is_level r is_a_call in_block is_writing reply answers.ok;
            leaves = λ st stands. write_leaves s low high e0 st stands name e1 e2 some opens answers.xacts level is_level r is_a_call in_block is_writing reply answers.ok e3 names merges;
            rows = λ old. merges.rows answers.ok.rows;
            time = merges.time ∙ (clock_kept (xacts_of e1) (xacts_of e2) answers.xacts ∙ opens.time);
          };
          err = tt;
        }

  module _ (fails : Bool) (failure : fails ≡ slice_index_or e0.failed.items (s - 1) false) (e3 e4 : Server) (names names' : List (Option (List ℕ))) (undoes : Becomes s names (undone s level) (session_undone level fails) e2 e3) (loses : Loses s level e2 e3) (merges : Becomes s names' (released s level) (session_released level) e3 e4) (denied : Denied) (answers : AnswersCall s (call_row r) e1 e2 (Err denied)) where
    time_kept : (xacts_of e4).clock ≡ (xacts_of e0).clock
    time_kept = merges.time ∙ (undoes.time ∙ (clock_kept (xacts_of e1) (xacts_of e2) answers.xacts ∙ opens.time))

    denies_level : (d : Denied) → Denies s (call_row r) e1 e2 d → DeniesInBlock s r e0 e4 d
    denies_level (By refusal) refuses = record {
      first = λ st stands. write_first s low high e0 st stands name e1 e2 some opens answers.xacts level is_level r is_a_call in_block is_writing refusal refuses;
      undone = record {
        stands = λ st stands. write_refused s low high e0 st stands name e1 e2 some opens answers.xacts level is_level fails (sym (failure ∙ (stands.has.sessions s low high).failed)) e3 e4 names names' undoes merges refuses.stays;
        rows = λ old. merges.rows (undoes.rows refuses.stays.rows);
        time = time_kept;
      };
    }
    denies_level NoMemory lacks = record {
      first = λ st stands. tt;
      undone = record {
        stands = λ st stands. write_starved s low high e0 st stands name e1 e2 some opens answers.xacts level is_level fails (sym (failure ∙ (stands.has.sessions s low high).failed)) e3 e4 names names' undoes merges loses lacks;
        rows = λ old. merges.rows (lost_rows s level e1 e2 e3 is_level lacks names (session_undone level fails) undoes loses (opens.rows old));
        time = time_kept;
      };
    }

    pub level_denied : IsServer e4 → AnswersInBlock s r e0 e4 (Err denied)
    level_denied sound4 =
        let same = ap (λ (x : Transactions). x.undos) answers.xacts.rest in
        record {
          sound = sound4;
          undos = omega (arith, same, opens.undos, undoes.undos, merges.undos);
          ok = tt;
          err = denies_level denied answers.err;
        }

-- A request that was refused, and then the refusal undid the block's top level.
pub refused_after : (s : ℕ) (e0 e2 e3 : Server) (r : Request) (refusal : Refusal) (reply : Reply) → DeniesInBlock s r e0 e2 (By refusal) → Does e2 e3 s (λ st. refused st s refusal) reply → Does e0 e3 s (λ st. tried st s r) reply
refused_after s e0 e2 e3 r refusal reply denies does = record {
  reply = λ st stands. does.reply st (denies.undone.stands st stands) ∙ ap (λ (done : Outcome). done.reply) (sym (is_tried st stands));
  leaves = λ st stands. subst (Leaves e3 st s) (sym (is_tried st stands)) (does.leaves st (denies.undone.stands st stands));
  rows = λ old. does.rows (denies.undone.rows old);
  time = does.time ∙ denies.undone.time;
}
  where
    is_tried : (st : State) → StandsFor e0 st → tried st s r ≡ refused st s refusal
    is_tried st stands = ap (granted_or_refused st s r) (denies.first st stands)

-- A request out of place, which was refused.
pub misplaced_does : (s : ℕ) → 1 ≤ s → s ≤ 16 → (e0 e2 : Server) (r : Request) → is_on_data r ≡ true → (in_block : Bool) → (in_block ≡ true → 0 < length (names_in e0 s)) → (in_block ≡ false → names_in e0 s ≡ []) → (cause : Cause) → misplaced_by r in_block ≡ Some cause → (reply : Reply) → Does e0 e2 s (λ st. refused st s (refusal cause (pos 0))) reply → Does e0 e2 s (λ st. tried st s r) reply
misplaced_does s low high e0 e2 r data' in_block open' none cause is reply does =
    does_as e0 e2 s (λ st. refused st s (refusal cause (pos 0))) (λ st. tried st s r) reply (λ st stands. sym (tried_misplaced st s r cause data' (ap (misplaced_by r) (stood st stands in_block open' none) ∙ is))) does
  where
    stood : (st : State) → StandsFor e0 st → (b : Bool) → (b ≡ true → 0 < length (names_in e0 s)) → (b ≡ false → names_in e0 s ≡ []) → is_open (session_of st s).transaction ≡ b
    stood st stands true some none = open_levels (session_of st s).transaction.levels (subst (λ (names : List (Option (List ℕ))). 0 < length names) (stands.has.sessions s low high).levels (some refl))
    stood st stands false some none = ap has_levels (sym (stands.has.sessions s low high).levels ∙ none refl)
