-- What a call of a session on large objects keeps of its server: the session is ready for it, and its entry alone is another
-- one after it.
use Rattle.std.proofs.Common.{◌≡◌, ◌≢◌, ◌≤◌, ◌<◌, ℕ, ◌+◌, ◌-◌, List, [], ◌++◌, length, Some, ap, sym, subst, ◌∙◌, arith, length-set}
use Rattle.std.specs.Prelude.{All, IsPermutation, slice_get, slice_set}
use Rattle.std.proofs.lemmas.Option.{slice_get_within}
use Rattle.lo_calls.specs.declared.session.LoSession.{LoSession}
use Rattle.lo_calls.specs.Descriptors.{AreOpen}
use Rattle.lo_calls.specs.World.{world, IsReady, Keeps}
use Rattle.row_tables.specs.declared.tables.Tables.{Tables}
use Rattle.row_tables.specs.Cursors.{HoldsOwn, cursors_of, holds_of as cursor_holds}
use Rattle.row_tables.specs.Standing.{cursors_in, tables_in}
use Rattle.xact_core.specs.Transactions.{Transactions, levels_of}
use Rattle.xact_core.proofs.ListPlaces.{set_here, set_other}
use Rattle.lo_machine.specs.declared.server.Server.{Server}
use Rattle.lo_machine.specs.Dispatch.{CanCall}
use Rattle.lo_machine.specs.Server.{xacts_of, names_in, all_holds, views_held, IsServer, IsNamed}
use Rattle.lo_machine.specs.Well.{IsFirst}
use Rattle.lo_machine.proofs.SessionPlaces.{holds_exchanged, placed_exchanged, own_open, placed_open}

-- a session whose entry it is, and its number
pub own_number : (s : ℕ) (e : Server) (own : LoSession) → 1 ≤ s → IsServer e → slice_get e.sessions.items (s - 1) ≡ Some own → own.s ≡ s
own_number s e own low sound stood = let is : s - 1 + 1 ≡ s = omega arith in (sound.placed (s - 1) own stood).number ∙ is

-- it is ready for a call
pub is_ready : (s : ℕ) (e : Server) (own : LoSession) → 1 ≤ s → CanCall s e → slice_get e.sessions.items (s - 1) ≡ Some own → IsReady (world (xacts_of e) e.store own)
is_ready s e own low can stood = record {
  transaction = subst (λ (n : ℕ). 0 < length (levels_of (xacts_of e) n)) (sym number) can.begun;
  whole = can.sound.whole;
  goes = can.sound.goes;
  descriptors = subst (λ (n : ℕ). AreOpen (xacts_of e) n own.descs) (sym number) (own_open s e own low can.sound stood);
  counter = can.sound.counter;
}
  where
    number : own.s ≡ s
    number = own_number s e own low can.sound stood

-- A call of a session. Beside transactions, objects and the session's entry the server is as it was.
pub record IsCall (s : ℕ) (old new : Server) (own own' : LoSession) : Type 0 where
  pub low : 1 ≤ s
  pub high : s ≤ 16
  pub can : CanCall s old
  pub stood : slice_get old.sessions.items (s - 1) ≡ Some own
  pub set : new.sessions.items ≡ slice_set old.sessions.items (s - 1) own'
  pub failed : new.failed ≡ old.failed
  pub undos : new.undos ≡ old.undos
  pub tables : new.tables ≡ old.tables
  pub variables : new.variables ≡ old.variables
  pub keeps : Keeps (world (xacts_of old) old.store own) (world (xacts_of new) new.store own')

module _ (s : ℕ) (old new : Server) (own own' : LoSession) (call : IsCall s old new own own') where
  -- the levels of each session
  pub same_names : (t : ℕ) → names_in new t ≡ names_in old t
  same_names t = ap (λ (x : Transactions). levels_of x t) call.keeps.others.rest

  -- what stands at its place, and at those of others

  within : s - 1 < length old.sessions.items
  within = slice_get_within old.sessions.items (s - 1) own call.stood

  pub stands_after : slice_get new.sessions.items (s - 1) ≡ Some own'
  stands_after = ap (λ (sessions : List LoSession). slice_get sessions (s - 1)) call.set ∙ set_here old.sessions.items (s - 1) own' within

  pub stands_beside : (t : ℕ) → 1 ≤ t → t ≢ s → slice_get new.sessions.items (t - 1) ≡ slice_get old.sessions.items (t - 1)
  stands_beside t low' other =
      let low = call.low in
      ap (λ (sessions : List LoSession). slice_get sessions (t - 1)) call.set ∙ set_other old.sessions.items (s - 1) (t - 1) own' (λ same. other (omega (arith, low, low', same)))

  -- the server is sound

  number : own'.s ≡ s
  number = call.keeps.session ∙ own_number s old own call.low call.can.sound call.stood

  held_after : IsPermutation (xacts_of new).held (views_held new)
  held_after =
      let cursors = cursor_holds (cursors_in old.tables) in
      let all = holds_exchanged (xacts_of old).held (xacts_of new).held old.sessions.items (s - 1) own own' cursors call.stood call.keeps.holds call.can.sound.held in
      subst (λ (tables : Tables). IsPermutation (xacts_of new).held (all_holds new.sessions.items ++ cursor_holds (cursors_in tables))) (sym call.tables)
      (subst (λ (sessions : List LoSession). IsPermutation (xacts_of new).held (all_holds sessions ++ cursors)) (sym call.set) all)

  pub call_sound : IsServer new
  call_sound = record {
    goes = call.keeps.ready.goes;
    whole = call.keeps.ready.whole;
    counter = call.keeps.ready.counter;
    undos = call.undos ∙ (call.can.sound.undos ∙ sym (ap (λ (x : Transactions). x.undos) call.keeps.others.rest));
    flags = ap (λ (flags : _). length flags.items) call.failed ∙ call.can.sound.flags;
    sixteen = ap length call.set ∙ (length-set old.sessions.items (s - 1) own' ∙ call.can.sound.sixteen);
    sixteen_lists = ap (λ (lists : _). length lists.items) call.variables ∙ call.can.sound.sixteen_lists;
    sixteen_levels = ap (λ (x : Transactions). length x.levels) call.keeps.others.rest ∙ call.can.sound.sixteen_levels;
    placed = λ place session is.
        placed_exchanged old.sessions.items (s - 1) own' within
        (placed_open s (xacts_of new) own' call.low number (subst (λ (n : ℕ). AreOpen (xacts_of new) n own'.descs) number call.keeps.ready.descriptors))
        call.can.sound.placed place session (ap (λ (sessions : List LoSession). slice_get sessions place) (sym call.set) ∙ is);
    held = held_after;
    own = subst (λ (tables : Tables). All HoldsOwn (cursors_in tables).entries.items) (sym call.tables) call.can.sound.own;
    numbered = subst (λ (tables : Tables). (t : ℕ) → (1 ≤ t → 16 < t) → cursors_of t (cursors_in tables) ≡ []) (sym call.tables) call.can.sound.numbered;
    named = subst (λ (tables : Tables). (t : ℕ) → All (IsNamed (tables_in tables)) (cursors_of t (cursors_in tables))) (sym call.tables) call.can.sound.named;
    first = λ t. subst IsFirst (sym (same_names t)) (call.can.sound.first t);
  }
