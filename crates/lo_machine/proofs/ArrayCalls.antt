-- A request on array variables changes one session's variables at most, and of the server nothing else.
use Rattle.std.proofs.Common.{◌≡◌, ◌≢◌, ◌≤◌, ◌<◌, ℕ, ◌+◌, ◌-◌, true, false, List, length, Option, Some, None, inl, inr, refl, ap, sym, subst, ◌∙◌, arith, append-nil, length-set, Vec, Global}
use Rattle.std.specs.Prelude.{slice_get, slice_set, slice_index_or, ◌==◌, Result, Ok, Err, IfOk, IfErr}
use Rattle.std.specs.Vec.{with_item}
use Rattle.std.proofs.lemmas.Bool.{cases_eq}
use Rattle.std.proofs.lemmas.Bool.Decides.{nat_tests}
use Rattle.std.proofs.lemmas.Option.{slice_get_read}
use Rattle.lo_base.specs.declared.refusal.Denied.{Denied}
use Rattle.lo_base.specs.declared.refusal.Denied.TheVariants.{By, NoMemory}
use Rattle.lo_base.specs.declared.reply.Reply.{Reply}
use Rattle.lo_calls.proofs.Closing.{holds_same}
use Rattle.lo_model.specs.Edit.{Deed, Edit}
use Rattle.lo_model.specs.Session.{Session}
use Rattle.lo_pages.proofs.Steps.{left_none}
use Rattle.lo_pages.specs.Outcome.{first_of}
use Rattle.row_tables.proofs.StoringRows.{leaves_none}
use Rattle.xact_core.proofs.ListPlaces.{set_here, set_other}
use Rattle.lo_machine.specs.declared.server.Server.{Server}
use Rattle.lo_machine.specs.declared.variables.Variables.{Variables}
use Rattle.lo_machine.specs.CallRows.{Shared}
use Rattle.lo_machine.specs.Dispatch.{Finds, IsGranted, Grants, FindsNoMemory, Denies, Stays, AnswersCall, ReadsCall, here_in}
use Rattle.lo_machine.specs.Server.{xacts_of, IsServer, HasRows, HasSession, Has, HasVariables, with_variables_at}
use Rattle.lo_machine.specs.Later.{with_session_at}
use Rattle.lo_machine.specs.Row.{Here, Row, with_variables}
use Rattle.lo_machine.specs.State.{Variable}
use Rattle.lo_machine.specs.Variables.{IsAs}
use Rattle.lo_machine.proofs.SessionPlaces.{set_same}
use Rattle.lo_machine.proofs.WellEdits.{session_again}

-- the server with other lists of variables
abbrev pub with_lists : Server → Vec Variables Global → Server
with_lists e lists = record e { variables = lists }

module _ (e : Server) (lists : Vec Variables Global) where
  abbrev new : Server
  new = with_lists e lists

  sound_as : IsServer e → length lists.items ≡ 16 → IsServer new
  sound_as sound count = record {
    goes = sound.goes;
    whole = sound.whole;
    counter = sound.counter;
    undos = sound.undos;
    flags = sound.flags;
    sixteen = sound.sixteen;
    sixteen_lists = count;
    sixteen_levels = sound.sixteen_levels;
    placed = sound.placed;
    held = sound.held;
    own = sound.own;
    numbered = sound.numbered;
    named = sound.named;
    first = sound.first;
  }

  session_as : (s : ℕ) (session : Session) → HasSession e s session → HasSession new s session
  session_as s session has = record { levels = has.levels; failed = has.failed; descriptors = has.descriptors; cursors = has.cursors; leveled = has.leveled }

  has_as : (ys : List (Edit Deed)) (shared : Shared) (sessions sessions' : ℕ → Session) → ((t : ℕ) → sessions t ≡ sessions' t) → Has e ys shared sessions → Has new ys shared sessions'
  has_as ys shared sessions sessions' same has = record {
    edits = has.edits;
    rows = has.rows;
    counter = has.counter;
    tables = has.tables;
    sessions = λ t low high. subst (HasSession new t) (same t) (session_as t (sessions t) (has.sessions t low high));
  }

variables_again : (s : ℕ) (variables : ℕ → List Variable) (t : ℕ) → with_variables_at s (variables s) variables t ≡ variables t
variables_again s variables t = elim (cases_eq t s) [
  | inl same ↦
      let test : (t == s) ≡ true = grind (arith, nat_tests, same) in
      rw test (ap variables (sym same))
  | inr other ↦
      let test : (t == s) ≡ false = grind (arith, nat_tests, other) in
      rw test refl
]

-- one session's list of variables at its place

module _ (e : Server) (s place : ℕ) (own' : Variables) (at : place + 1 ≡ s) (within : place < length e.variables.items) where
  -- the variables of all sessions, once those of one are others
  variables_as : (lists : List Variables) → lists ≡ slice_set e.variables.items place own' → (mine : List Variable) (variables : ℕ → List Variable) → HasVariables e variables → IsAs own' mine → (t : ℕ) (own : Variables) → 1 ≤ t → t ≤ 16 → slice_get lists (t - 1) ≡ Some own → IsAs own (with_variables_at s mine variables t)
  variables_as lists set mine variables has is t own low high stood = elim (cases_eq t s) [
    | inl same ↦
        let test : (t == s) ≡ true = grind (arith, nat_tests, same) in
        let here : t - 1 ≡ place = omega (arith, same, at) in
        let there = ap (λ (l : List Variables). slice_get l (t - 1)) set ∙ (ap (slice_get (slice_set e.variables.items place own')) here ∙ set_here e.variables.items place own' within) in
        let one : own ≡ own' = same_some own own' (sym stood ∙ there) in
        rw (test, one) is
    | inr other ↦
        let test : (t == s) ≡ false = grind (arith, nat_tests, other) in
        let far : place ≢ t - 1 = λ same. other (omega (arith, same, at, low)) in
        let there = ap (λ (l : List Variables). slice_get l (t - 1)) set ∙ set_other e.variables.items place (t - 1) own' far in
        rw test (has.each t own low high (sym there ∙ stood))
  ]
    where
      same_some : (a b : Variables) → Some a ≡ Some b → a ≡ b
      same_some a b is = ap (λ (o : Option Variables). or_else o) is
        where
          or_else : Option Variables → Variables
          or_else None = a
          or_else (Some x) = x

-- A request of a session on its list, which stood at its place. What the row grants, told of the list as it was.
pub record IsGrant (own own' : Variables) (row : Here → Row) (reply : Reply) (after : List Variable → List Variable) : Type 0 where
  pub unrefused : (here : Here) → IsAs own here.variables → first_of (row here).refusals ≡ None
  pub granted : (here : Here) → IsAs own here.variables → (row here).granted ≡ with_variables here reply (after here.variables)
  pub leaves : (mine : List Variable) → IsAs own mine → IsAs own' (after mine)

-- a row that grants other variables of its session and nothing else, of what the server has
pub record GrantsList (s : ℕ) (e : Server) (row : Here → Row) (reply : Reply) (after : List Variable → List Variable) (ys : List (Edit Deed)) (shared : Shared) (sessions : ℕ → Session) (variables : ℕ → List Variable) : Type 0 where
  pub unrefused : first_of (row (here_in s e ys shared sessions variables)).refusals ≡ None
  pub granted : (row (here_in s e ys shared sessions variables)).granted ≡ with_variables (here_in s e ys shared sessions variables) reply (after (variables s))

abbrev pub GrantsLists : (s : ℕ) → Server → (Here → Row) → Reply → (List Variable → List Variable) → Type 0
GrantsLists s e row reply after = (ys : List (Edit Deed)) (shared : Shared) (sessions : ℕ → Session) (variables : ℕ → List Variable) → Finds s e ys shared sessions variables → GrantsList s e row reply after ys shared sessions variables

-- why the row refuses
abbrev pub IsWhy : (own : Variables) → (Here → Row) → Denied → Type 0
IsWhy own row NoMemory = Unit {0}
IsWhy own row (By r) = (here : Here) → IsAs own here.variables → first_of (row here).refusals ≡ Some r

-- the server, and the session's list in it before and after
pub record Takes (s place : ℕ) (e : Server) (lists : Vec Variables Global) (own own' : Variables) : Type 0 where
  pub sound : IsServer e
  pub rows : HasRows e
  pub at : place + 1 ≡ s
  pub most : place + 1 ≤ 16
  pub taken : own ≡ slice_index_or e.variables.items place own
  pub set : lists.items ≡ slice_set e.variables.items place own'

module _ (s place : ℕ) (e : Server) (lists : Vec Variables Global) (own own' : Variables) (takes : Takes s place e lists own own') where
  abbrev sound : IsServer e
  sound = takes.sound

  within : place < length e.variables.items
  within = omega (arith, takes.most, sound.sixteen_lists)

  count : length lists.items ≡ 16
  count = ap (λ (l : List Variables). length l) takes.set ∙ (length-set e.variables.items place own' ∙ sound.sixteen_lists)

  entry : slice_get e.variables.items (s - 1) ≡ Some own
  entry =
      let here : place ≡ s - 1 = omega (arith, takes.at) in
      subst (λ (n : ℕ). slice_get e.variables.items n ≡ Some own) here (slice_get_read e.variables.items 16 place own (sym sound.sixteen_lists) (omega (arith, takes.most)) takes.taken)

  is_own : (variables : ℕ → List Variable) → HasVariables e variables → IsAs own (variables s)
  is_own variables has = has.each s own (omega (arith, takes.at)) (omega (arith, takes.at, takes.most)) entry

  grants_here : (row : Here → Row) (reply : Reply) (after : List Variable → List Variable) → ((mine : List Variable) → IsAs own mine → IsAs own' (after mine)) → GrantsLists s e row reply after → Grants s row e (with_lists e lists) reply
  grants_here row reply after leaves grant = record {
    granted = λ ys shared sessions variables finds.
        let here = here_in s e ys shared sessions variables in
        let mine = is_own variables finds.arrays in
        let given = grant ys shared sessions variables finds in
        let grants : IsGranted s (record { refusals = (row here).refusals; granted = with_variables here reply (after (variables s)) }) e (with_lists e lists) reply ys sessions variables = record {
          unrefused = given.unrefused;
          answer = refl;
          has = subst (λ (edits : List (Edit Deed)). Has (with_lists e lists) edits shared (with_session_at s (sessions s) sessions)) (sym (append-nil ys)) (has_as e lists ys shared sessions (with_session_at s (sessions s) sessions) (λ t. sym (session_again s sessions t)) finds.has);
          arrays = record { each = variables_as e s place own' takes.at within lists.items takes.set (after (variables s)) variables finds.arrays (leaves (variables s) mine) };
        } in
        subst (λ granted. IsGranted s (record { refusals = (row here).refusals; granted = granted }) e (with_lists e lists) reply ys sessions variables) (sym given.granted) grants;
    rows = takes.rows;
  }

  granted : (row : Here → Row) (reply : Reply) (after : List Variable → List Variable) → IsGrant own own' row reply after → Grants s row e (with_lists e lists) reply
  granted row reply after grant = grants_here row reply after grant.leaves (λ ys shared sessions variables finds.
      let mine = is_own variables finds.arrays in
      record { unrefused = grant.unrefused (here_in s e ys shared sessions variables) mine; granted = grant.granted (here_in s e ys shared sessions variables) mine })

  -- where the list has what it had, so has the server
  abbrev pub Same : Type 0
  Same = (mine : List Variable) → IsAs own mine → IsAs own' mine

  same_variables : Same → (variables : ℕ → List Variable) → HasVariables e variables → HasVariables (with_lists e lists) variables
  same_variables same variables has = record { each = λ t found low high stood. subst (IsAs found) (variables_again s variables t) (variables_as e s place own' takes.at within lists.items takes.set (variables s) variables has (same (variables s) (is_own variables has)) t found low high stood) }

  stays : Same → Stays e (with_lists e lists)
  stays same = record {
    has = λ ys shared sessions has. has_as e lists ys shared sessions sessions (λ t. refl) has;
    variables = same_variables same;
    rows = takes.rows;
  }

  no_memory : Same → FindsNoMemory s e (with_lists e lists)
  no_memory same = record {
    pages = left_none (xacts_of e) s e.store.pages;
    tables = leaves_none (xacts_of e) s e.tables;
    go = takes.rows.stores;
    counter = refl;
    sessions = λ sessions has t low high. session_as e lists t (sessions t) (has t low high);
    variables = same_variables same;
    xacts = refl;
  }

  denied_as : (row : Here → Row) (denied : Denied) → Same → IsWhy own row denied → Denies s row e (with_lists e lists) denied
  denied_as row NoMemory same why = no_memory same
  denied_as row (By r) same why = record { first = λ ys shared sessions variables finds. why (here_in s e ys shared sessions variables) (is_own variables finds.arrays); stays = stays same }

  answers_as : (row : Here → Row) (result : Result Reply Denied) → IfOk result (Grants s row e (with_lists e lists)) → IfErr result (Denies s row e (with_lists e lists)) → AnswersCall s row e (with_lists e lists) result
  answers_as row result ok err = record { sound = sound_as e lists sound count; xacts = holds_same (xacts_of e); views = omega arith; ok = ok; err = err }

  pub granted_reads : (row : Here → Row) (reply : Reply) (after : List Variable → List Variable) → IsGrant own own' row reply after → ReadsCall s row e (with_lists e lists) (Ok reply)
  granted_reads row reply after grant = record { answers = answers_as row (Ok reply) (granted row reply after grant) tt; stays = tt }

  pub found_reads : (row : Here → Row) (reply : Reply) (after : List Variable → List Variable) → ((mine : List Variable) → IsAs own mine → IsAs own' (after mine)) → GrantsLists s e row reply after → ReadsCall s row e (with_lists e lists) (Ok reply)
  found_reads row reply after leaves grant = record { answers = answers_as row (Ok reply) (grants_here row reply after leaves grant) tt; stays = tt }

  pub denied_reads : (row : Here → Row) (denied : Denied) → Same → IsWhy own row denied → ReadsCall s row e (with_lists e lists) (Err denied)
  denied_reads row denied same why = record { answers = answers_as row (Err denied) tt (denied_as row denied same why); stays = stays same }

-- a list that was looked at alone, and one that was changed
pub looked : (s place : ℕ) (e : Server) (own : Variables) → IsServer e → HasRows e → place + 1 ≡ s → place + 1 ≤ 16 → own ≡ slice_index_or e.variables.items place own → Takes s place e e.variables own own
looked s place e own sound rows at most taken = record {
  sound = sound;
  rows = rows;
  at = at;
  most = most;
  taken = taken;
  set = set_same e.variables.items place own (slice_get_read e.variables.items 16 place own (sym sound.sixteen_lists) (omega (arith, most)) taken);
}

pub changed : (s place : ℕ) (e : Server) (own own' : Variables) → IsServer e → HasRows e → place + 1 ≡ s → place + 1 ≤ 16 → own ≡ slice_index_or e.variables.items place own → Takes s place e (with_item e.variables place own') own own'
changed s place e own own' sound rows at most taken = record { sound = sound; rows = rows; at = at; most = most; taken = taken; set = refl }
