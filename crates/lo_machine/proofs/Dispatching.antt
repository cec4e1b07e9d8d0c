-- A request on large objects is the call of its session's entry.
use Rattle.std.proofs.Common.{◌≡◌, ◌≤◌, ℕ, ◌+◌, ◌-◌, Some, refl, ap, sym, subst, arith}
use Rattle.std.specs.Prelude.{slice_get, slice_set, slice_index_or, Result, Ok, Err, IfOk, IfErr, OnErr}
use Rattle.std.specs.Vec.{with_item}
use Rattle.std.proofs.lemmas.Option.{slice_get_read}
use Rattle.lo_base.specs.declared.refusal.Denied.{Denied}
use Rattle.lo_base.specs.declared.reply.Reply.{Reply}
use Rattle.lo_calls.specs.declared.session.LoSession.{LoSession}
use Rattle.lo_calls.specs.declared.store.LoStore.{LoStore}
use Rattle.lo_calls.specs.Row.{Here, Row}
use Rattle.lo_calls.specs.World.{world, IsReady, Grants, Denies, Keeps}
use Rattle.row_versions.specs.declared.Core.{Core}
use Rattle.lo_machine.specs.declared.server.Server.{Server}
use Rattle.lo_machine.specs.Dispatch.{AnswersCall, CanCall, ReadsCall, Stays}
use Rattle.lo_machine.specs.Dispatch as dispatch
use Rattle.lo_machine.specs.Server.{xacts_of}
use Rattle.lo_machine.specs.Row.{on_objects}
use Rattle.lo_machine.proofs.CallSteps.{denies, grants, stays_denied}
use Rattle.lo_machine.proofs.CallsKept.{IsCall, call_sound, is_ready}
use Rattle.lo_machine.proofs.RowsAlike.{IsObjectsRow}
use Rattle.lo_machine.proofs.SessionPlaces.{set_same}

-- the entry that was taken from its place
pub record Takes (s place : ℕ) (e : Server) (own : LoSession) : Type 0 where
  pub place' : place + 1 ≡ s
  pub within : place + 1 ≤ 16
  pub taken : own ≡ slice_index_or e.sessions.items place own

low : (s place : ℕ) (e : Server) (own : LoSession) → Takes s place e own → 1 ≤ s
low s place e own takes = omega (arith, takes.place')

entry : (s place : ℕ) (e : Server) (own : LoSession) → Takes s place e own → CanCall s e → slice_get e.sessions.items (s - 1) ≡ Some own
entry s place e own takes can =
    let at : place ≡ s - 1 = omega (arith, takes.place') in
    subst (λ (n : ℕ). slice_get e.sessions.items n ≡ Some own) at (slice_get_read e.sessions.items 16 place own (sym can.sound.sixteen) (omega (arith, takes.within)) takes.taken)

pub call_ready : (s place : ℕ) (e : Server) (own : LoSession) → Takes s place e own → CanCall s e → IsReady (world (xacts_of e) e.store own)
call_ready s place e own takes can = is_ready s e own (low s place e own takes) can (entry s place e own takes can)

-- the server with another core, store and entry
abbrev pub with_entry : Server → Core → LoStore → (place : ℕ) → LoSession → Server
with_entry e core store place own = record {
  alloc = e.alloc;
  core = core;
  store = store;
  tables = e.tables;
  sessions = with_item e.sessions place own;
  variables = e.variables;
  failed = e.failed;
  undos = e.undos;
}

abbrev pub with_store : Server → Core → LoStore → Server
with_store e core store = record { alloc = e.alloc; core = core; store = store; tables = e.tables; sessions = e.sessions; variables = e.variables; failed = e.failed; undos = e.undos }

-- what a call answers, from what lo_calls says of it
module _ (s : ℕ) (old new : Server) (own own' : LoSession) (call : IsCall s old new own own') (row : Here → Row) (is : IsObjectsRow row) where
  ok_by : (result : Result Reply Denied) → IfOk result (Grants row (world (xacts_of old) old.store own) (world (xacts_of new) new.store own')) → IfOk result (dispatch.Grants s (on_objects row) old new)
  ok_by (Ok reply) ok = grants s old new own own' call row is reply ok
  ok_by (Err denied) ok = tt

  err_by : (result : Result Reply Denied) → IfErr result (Denies row (world (xacts_of old) old.store own) (world (xacts_of new) new.store own')) → IfErr result (dispatch.Denies s (on_objects row) old new)
  err_by (Ok reply) err = tt
  err_by (Err denied) err = denies s old new own own' call row is denied err

  stays_by : new.store ≡ old.store → (result : Result Reply Denied) → IfErr result (Denies row (world (xacts_of old) old.store own) (world (xacts_of new) new.store own')) → OnErr result (Stays old new)
  stays_by store (Ok reply) err = tt
  stays_by store (Err denied) err = stays_denied s old new own own' call row is store denied err

  call_answers : (result : Result Reply Denied) → IfOk result (Grants row (world (xacts_of old) old.store own) (world (xacts_of new) new.store own')) → IfErr result (Denies row (world (xacts_of old) old.store own) (world (xacts_of new) new.store own')) → AnswersCall s (on_objects row) old new result
  call_answers result ok err = record {
    sound = call_sound s old new own own' call;
    xacts = call.keeps.others;
    views = call.keeps.views;
    ok = ok_by result ok;
    err = err_by result err;
  }

module _ (s place : ℕ) (old : Server) (own : LoSession) (takes : Takes s place old own) (can : CanCall s old) (core : Core) where
  -- a call that may change the entry

  entry_call : (store : LoStore) (own' : LoSession) → Keeps (world (xacts_of old) old.store own) (world core.xacts store own') → IsCall s old (with_entry old core store place own') own own'
  entry_call store own' keeps =
      let at : place ≡ s - 1 = omega (arith, takes.place') in
      record {
        low = low s place old own takes;
        high = omega (arith, takes.place', takes.within);
        can = can;
        stood = entry s place old own takes can;
        set = ap (λ (n : ℕ). slice_set old.sessions.items n own') at;
        failed = refl;
        undos = refl;
        tables = refl;
        variables = refl;
        keeps = keeps;
      }

  pub entry_answers : (store : LoStore) (row : Here → Row) (is : IsObjectsRow row) (result : Result Reply Denied) (own' : LoSession) → Keeps (world (xacts_of old) old.store own) (world core.xacts store own') → IfOk result (Grants row (world (xacts_of old) old.store own) (world core.xacts store own')) → IfErr result (Denies row (world (xacts_of old) old.store own) (world core.xacts store own')) → AnswersCall s (on_objects row) old (with_entry old core store place own') result
  entry_answers store row is result own' keeps ok err = call_answers s old (with_entry old core store place own') own own' (entry_call store own' keeps) row is result ok err

  pub entry_reads : (row : Here → Row) (is : IsObjectsRow row) (result : Result Reply Denied) (own' : LoSession) → Keeps (world (xacts_of old) old.store own) (world core.xacts old.store own') → IfOk result (Grants row (world (xacts_of old) old.store own) (world core.xacts old.store own')) → IfErr result (Denies row (world (xacts_of old) old.store own) (world core.xacts old.store own')) → ReadsCall s (on_objects row) old (with_entry old core old.store place own') result
  entry_reads row is result own' keeps ok err = record {
    answers = entry_answers old.store row is result own' keeps ok err;
    stays = stays_by s old (with_entry old core old.store place own') own own' (entry_call old.store own' keeps) row is refl result err;
  }

  -- one that leaves it

  store_call : (store : LoStore) → Keeps (world (xacts_of old) old.store own) (world core.xacts store own) → IsCall s old (with_store old core store) own own
  store_call store keeps = record {
    low = low s place old own takes;
    high = omega (arith, takes.place', takes.within);
    can = can;
    stood = entry s place old own takes can;
    set = set_same old.sessions.items (s - 1) own (entry s place old own takes can);
    failed = refl;
    undos = refl;
    tables = refl;
    variables = refl;
    keeps = keeps;
  }

  pub store_answers : (store : LoStore) (row : Here → Row) (is : IsObjectsRow row) (result : Result Reply Denied) → Keeps (world (xacts_of old) old.store own) (world core.xacts store own) → IfOk result (Grants row (world (xacts_of old) old.store own) (world core.xacts store own)) → IfErr result (Denies row (world (xacts_of old) old.store own) (world core.xacts store own)) → AnswersCall s (on_objects row) old (with_store old core store) result
  store_answers store row is result keeps ok err = call_answers s old (with_store old core store) own own (store_call store keeps) row is result ok err

  pub store_reads : (row : Here → Row) (is : IsObjectsRow row) (result : Result Reply Denied) → Keeps (world (xacts_of old) old.store own) (world core.xacts old.store own) → IfOk result (Grants row (world (xacts_of old) old.store own) (world core.xacts old.store own)) → IfErr result (Denies row (world (xacts_of old) old.store own) (world core.xacts old.store own)) → ReadsCall s (on_objects row) old (with_store old core old.store) result
  store_reads row is result keeps ok err = record {
    answers = store_answers old.store row is result keeps ok err;
    stays = stays_by s old (with_store old core old.store) own own (store_call old.store keeps) row is refl result err;
  }
