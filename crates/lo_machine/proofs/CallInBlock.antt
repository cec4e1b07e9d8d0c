-- A request on data in a block: one that writes in a level of its own, which is merged into the top level or undone; one that
-- makes no edit at the top level itself. A request on array variables is done alike outside a block.
use Rattle.std.proofs.Common.{◌≡◌, ◌≤◌, ◌<◌, ℕ, ◌+◌, ◌-◌, Bool, true, false, List, [], ◌∷◌, ◌++◌, length, take, Option, Some, None, refl, ap, sym, subst, ◌∙◌, arith, length-append}
use Rattle.std.specs.Prelude.{map, min, nat_lt}
use Rattle.std.proofs.lemmas.Bool.Decides.{nat_tests}
use Rattle.std.proofs.lemmas.List.{take-append-le, take_all}
use Rattle.std.proofs.lemmas.List.Elements.{All-head, All-tail, All-weaker}
use Rattle.lo_base.specs.declared.refusal.Refusal.{Refusal}
use Rattle.lo_base.specs.declared.reply.Reply.{Reply}
use Rattle.lo_base.specs.declared.request.Request.{Request}
use Rattle.lo_model.specs.declared.owner.Owner.{Owner}
use Rattle.lo_model.specs.declared.owner.Owner.TheVariants.{Running}
use Rattle.lo_model.specs.Descriptor.{Cursor, Descriptor, cursor_released, cursors_below, descriptor_released, descriptors_below}
use Rattle.lo_model.specs.Edit.{Deed, edits_by}
use Rattle.lo_model.specs.Levels.{released, undone}
use Rattle.lo_model.specs.Session.{Session, session_released, session_undone}
use Rattle.lo_model.specs.Transaction.{has_levels, is_open, top_level}
use Rattle.lo_pages.specs.Outcome.{first_of}
use Rattle.xact_core.specs.Kept.{HoldsOthers}
use Rattle.lo_machine.specs.declared.server.Server.{Server}
use Rattle.lo_machine.specs.CallRow.{call_row, writes, sets, is_call, is_on_data}
use Rattle.lo_machine.specs.CallRows.{Shared, shared_of, shared_by, session_by, here, called, misplaced_by}
use Rattle.lo_machine.specs.Dispatch.{here_in, IsGranted, Grants, Refuses, FindsNoMemory, Stays}
use Rattle.lo_machine.specs.Server.{xacts_of, clock_of, names_in, Has, HasVariables, StandsFor, Leaves, Becomes, Loses}
use Rattle.lo_machine.specs.Later.{with_session_at}
use Rattle.lo_machine.specs.Moves.{unturned, session_opened}
use Rattle.lo_machine.specs.Row.{Here, Row, Granted}
use Rattle.lo_machine.specs.State.{State, Outcome, now, edits, session_of, variables_of, owner_in, and_made}
use Rattle.lo_machine.specs.Step.{refusals, tried}
use Rattle.lo_machine.specs.Well.{IsCursor, IsDescriptor, IsSession}
use Rattle.lo_machine.proofs.CallAlone.{call_on_data, granted_variables, shared_alike}
use Rattle.lo_machine.proofs.CallFinds.{set_again, has_same, variables_kept, clock_kept, lost_has, lost_variables, top_same, finds, here_same, has_opened, time_opened, variables_opened, finds_opened, here_opened}
use Rattle.lo_machine.proofs.CallLevels.{at_level, IsAlike, level_free, AreWithin, writes_level, writes_within, StandWithin, cursors_released, releases_cursors, LeavesOthers, sets_alone}
use Rattle.lo_machine.proofs.OpenEdits.{AreBelow, all_below, released_both, released_below, undone_below}
use Rattle.lo_machine.proofs.Outcomes.{IsPlaced, first_refusal, tried_granted}
use Rattle.lo_machine.proofs.WellEdits.{own_session, session_again}

-- the end of a level above descriptors, and above cursors, leaves them

released_within : (n : ℕ) (ds : List Descriptor) → AreWithin n ds → map (descriptor_released (n + 1)) ds ≡ ds
released_within n [] all = refl
released_within n (d ∷ ds) all =
    let low : d.level ≤ n = All-head (λ (e : Descriptor). e.level ≤ n) d ds all in
    let same : min d.level (n + 1 - 1) ≡ d.level = grind (arith, nat_tests, low) in
    rw (same, released_within n ds (All-tail (λ (e : Descriptor). e.level ≤ n) d ds all)) refl

below_within : (n : ℕ) (ds : List Descriptor) → AreWithin n ds → descriptors_below (n + 1) ds ≡ ds
below_within n [] all = refl
below_within n (d ∷ ds) all =
    let low : d.level ≤ n = All-head (λ (e : Descriptor). e.level ≤ n) d ds all in
    let here : nat_lt d.level (n + 1) ≡ true = grind (arith, nat_tests, low) in
    rw here (ap (λ (rest : List Descriptor). d ∷ rest) (below_within n ds (All-tail (λ (e : Descriptor). e.level ≤ n) d ds all)))

cursors_within : (n : ℕ) (cs : List Cursor) → StandWithin n cs → cursors_below (n + 1) cs ≡ cs
cursors_within n [] all = refl
cursors_within n (c ∷ cs) all =
    let low : c.level ≤ n = All-head (λ (e : Cursor). e.level ≤ n) c cs all in
    let here : nat_lt c.level (n + 1) ≡ true = grind (arith, nat_tests, low) in
    rw here (ap (λ (rest : List Cursor). c ∷ rest) (cursors_within n cs (All-tail (λ (e : Cursor). e.level ≤ n) c cs all)))

take_opened : {A : Type 0} (xs : List A) (x : A) → take (length xs + 1 - 1) (xs ++ x ∷ []) ≡ xs
take_opened xs x =
    let count : length xs + 1 - 1 ≡ length xs = omega arith in
    ap (λ (n : ℕ). take n (xs ++ x ∷ [])) count ∙ (take-append-le (length xs) xs (x ∷ []) (omega arith) ∙ take_all (length xs) xs (omega arith))

take_whole : {A : Type 0} (xs : List A) (x : A) → take (length xs + 1) (xs ++ x ∷ []) ≡ xs ++ x ∷ []
take_whole xs x = take_all (length xs + 1) (xs ++ x ∷ []) (omega (arith, length-append xs (x ∷ [])))

-- a session with other descriptors and cursors, at its levels or at one more, which is merged again, and one which is undone

abbrev pub having : List Descriptor → List Cursor → Session → Session
having ds cs session = record { transaction = session.transaction; descriptors = ds; cursors = cs }

merged_again : (name : Option (List ℕ)) (session : Session) (ds : List Descriptor) (cs cs' : List Cursor) → AreWithin (top_level session.transaction) ds → map (cursor_released (top_level session.transaction + 1)) cs ≡ cs' → session_released (top_level session.transaction + 1) (having ds cs (session_opened name session)) ≡ having ds cs' session
merged_again name session ds cs cs' all every = rw (take_opened session.transaction.levels name, released_within (top_level session.transaction) ds all, every) refl

undone_again : (name : Option (List ℕ)) (session : Session) (fails : Bool) → session.transaction.failed ≡ fails → AreWithin (top_level session.transaction) session.descriptors → StandWithin (top_level session.transaction) session.cursors → session_undone (top_level session.transaction + 1) fails (session_opened name session) ≡ session_opened name session
undone_again name session fails failure all every = rw (take_whole session.transaction.levels name, below_within (top_level session.transaction) session.descriptors all, cursors_within (top_level session.transaction) session.cursors every, failure) refl

-- the owner of an edit in a block
owner_open : (now s : ℕ) (levels : List (Option (List ℕ))) → 0 < length levels → owner_in now s levels ≡ Running s (length levels)
owner_open now s [] some = absurd (omega (arith, some))
owner_open now s (level ∷ levels) some = refl

pub open_levels : (levels : List (Option (List ℕ))) → 0 < length levels → has_levels levels ≡ true
open_levels [] some = absurd (omega (arith, some))
open_levels (level ∷ levels) some = refl

-- a session that a grant leaves its descriptors and cursors, in a block or outside one
left_alike : (b : Bool) (granted : Granted) (session : Session) → granted.descriptors ≡ session.descriptors → granted.cursors ≡ session.cursors → session_by true granted session ≡ session_by b granted session
left_alike true granted session ds cs = refl
left_alike false granted session ds cs =
    ap (λ (list : List Descriptor). having list granted.cursors session) ds
    ∙ ap (λ (list : List Cursor). having session.descriptors list session) cs

module _ (s : ℕ) (low : 1 ≤ s) (high : s ≤ 16) (e0 : Server) (st : State) (stands : StandsFor e0 st) where
  abbrev pub mine : Session
  mine = session_of st s

  abbrev pub top : ℕ
  top = top_level mine.transaction

  abbrev pub shared : Shared
  shared = shared_of st.database

  -- the row of a request, and what a grant leaves of the state

  abbrev pub row : Request → Row
  row r = call_row r (here st s)

  abbrev pub does : Request → Outcome
  does r = called st s (row r).granted

  -- A request that makes no edit, at the session's levels.
  module _ (e2 : Server) (holds : HoldsOthers (xacts_of e0) (xacts_of e2)) (r : Request) (data' : is_on_data r ≡ true) (placed : IsPlaced st s r) where
    abbrev pub read : Row
    read = call_row r (here_in s e0 (edits st) shared (session_of st) (variables_of st))

    same : read ≡ row r
    same = ap (call_row r) (here_same s low high e0 st stands)

    module _ (reply : Reply) (grants : Grants s (call_row r) e0 e2 reply) where
      granted : IsGranted s (row r) e0 e2 reply (edits st) (session_of st) (variables_of st)
      granted = subst (λ (one : Row). IsGranted s one e0 e2 reply (edits st) (session_of st) (variables_of st)) same (grants.granted (edits st) shared (session_of st) (variables_of st) (finds s low high e0 st stands))

      is_done : tried st s r ≡ does r
      is_done = tried_granted st s r data' placed stands.well.uncounted granted.unrefused

      pub look_reply : reply ≡ (tried st s r).reply
      look_reply = granted.answer ∙ ap (λ (done : Outcome). done.reply) (sym is_done)

      -- where edits and session are as the outcome says
      leaves_same : edits st ++ edits_by (clock_of e0) (Running s (length (names_in e0 s))) (row r).granted.deeds ≡ and_made st s (row r).granted.deeds → session_by true (row r).granted mine ≡ session_by (is_open mine.transaction) (row r).granted mine → Leaves e2 st s (tried st s r)
      leaves_same made session = subst (Leaves e2 st s) (sym is_done) record {
        time = clock_kept (xacts_of e0) (xacts_of e2) holds ∙ stands.time;
        has = has_same e2 _ _ (shared_by (row r).granted) (shared_by (row r).granted) _ _ made refl (λ t. ap (λ (one : Session). with_session_at s one (session_of st) t) session) granted.has;
        variables = granted.arrays;
      }

      pub look_leaves : 0 < length (names_in e0 s) → Leaves e2 st s (tried st s r)
      look_leaves some = leaves_same made (ap (λ (b : Bool). session_by b (row r).granted mine) (sym (open_levels mine.transaction.levels some')))
        where
          some' : 0 < top
          some' = omega (arith, some, top_same s low high e0 st stands)

          made : edits st ++ edits_by (clock_of e0) (Running s (length (names_in e0 s))) (row r).granted.deeds ≡ and_made st s (row r).granted.deeds
          made =
              ap (λ (clock : ℕ). edits st ++ edits_by clock (Running s (length (names_in e0 s))) (row r).granted.deeds) stands.time
              ∙ (ap (λ (level : ℕ). edits st ++ edits_by (now st) (Running s level) (row r).granted.deeds) (top_same s low high e0 st stands)
              ∙ ap (λ (owner : Owner). edits st ++ edits_by (now st) owner (row r).granted.deeds) (sym (owner_open (now st) s mine.transaction.levels some')))

      pub set_leaves : sets r ≡ true → Leaves e2 st s (tried st s r)
      set_leaves set = leaves_same made (left_alike (is_open mine.transaction) (row r).granted mine alone.descriptors alone.cursors)
        where
          alone : LeavesOthers (here st s) (row r).granted
          alone = sets_alone r set (here st s)

          made : edits st ++ edits_by (clock_of e0) (Running s (length (names_in e0 s))) (row r).granted.deeds ≡ and_made st s (row r).granted.deeds
          made =
              ap (λ (ds : List Deed). edits st ++ edits_by (clock_of e0) (Running s (length (names_in e0 s))) ds) alone.deeds
              ∙ sym (ap (and_made st s) alone.deeds)

    pub look_first : (refusal : Refusal) → Refuses s (call_row r) e0 e2 refusal → first_of (refusals st s r) ≡ Some refusal
    look_first refusal refuses =
        first_refusal st s r data' placed stands.well.uncounted
        ∙ (ap (λ (one : Row). first_of one.refusals) (sym same)
        ∙ refuses.first (edits st) shared (session_of st) (variables_of st) (finds s low high e0 st stands))

  -- One that writes, in a level of its own.
  module _ (name : List ℕ) (e1 e2 : Server) (some : 0 < length (names_in e0 s)) (opens : Becomes s (names_in e0 s ++ Some name ∷ []) unturned (session_opened (Some name)) e0 e1) (holds : HoldsOthers (xacts_of e1) (xacts_of e2)) (level : ℕ) (is_level : level ≡ length (names_in e1 s)) where
    abbrev pub opened : Session
    opened = session_opened (Some name) mine

    abbrev pub sessions1 : ℕ → Session
    sessions1 = with_session_at s opened (session_of st)

    has1 : Has e1 (edits st) shared sessions1
    has1 = has_opened s low high e0 st stands (Some name) (names_in e0 s ++ Some name ∷ []) e1 opens

    time1 : clock_of e1 ≡ now st
    time1 = time_opened s low high e0 st stands (Some name) (names_in e0 s ++ Some name ∷ []) e1 opens

    arrays1 : HasVariables e1 (variables_of st)
    arrays1 = variables_opened s low high e0 st stands (Some name) (names_in e0 s ++ Some name ∷ []) e1 opens

    time2 : clock_of e2 ≡ now st
    time2 = clock_kept (xacts_of e1) (xacts_of e2) holds ∙ time1

    names_top : length (names_in e1 s) ≡ top + 1
    names_top =
        ap length opens.names
        ∙ (length-append (names_in e0 s) (Some name ∷ [])
        ∙ ap (λ (n : ℕ). n + 1) (top_same s low high e0 st stands))

    level_top : level ≡ top + 1
    level_top = is_level ∙ names_top

    some' : 0 < top
    some' = omega (arith, some, top_same s low high e0 st stands)

    well : IsSession (now st) (edits st) mine
    well = stands.well.well.each s

    within : AreWithin top mine.descriptors
    within = All-weaker (IsDescriptor (now st) (edits st) top) (λ (d : Descriptor). d.level ≤ top) (λ d is. is.level) mine.descriptors well.descriptors

    stand_within : StandWithin top mine.cursors
    stand_within = All-weaker (IsCursor (now st) (edits st) top) (λ (c : Cursor). c.level ≤ top) (λ c is. is.level) mine.cursors well.cursors

    before_below : AreBelow s (top + 1) (edits st)
    before_below = all_below (now st) s (top + 1) (session_of st) (edits st) stands.well.well.past (omega arith)

    module _ (r : Request) (call : is_call r ≡ true) (placed' : misplaced_by r true ≡ None) (is_writing : writes r ≡ true) where
      placed : IsPlaced st s r
      placed = ap (misplaced_by r) (open_levels mine.transaction.levels some') ∙ placed'

      abbrev pub read' : Row
      read' = call_row r (here_in s e1 (edits st) shared sessions1 (variables_of st))

      here1 : here_in s e1 (edits st) shared sessions1 (variables_of st) ≡ at_level (length (names_in e1 s)) (here st s)
      here1 = here_opened s low high e0 st stands (Some name) (names_in e0 s ++ Some name ∷ []) e1 opens

      alike : IsAlike read' (row r)
      alike = subst (λ (h : Here). IsAlike (call_row r h) (row r)) (sym here1) (level_free r call (here st s) (length (names_in e1 s)) top)

      descriptors_alike : read'.granted.descriptors ≡ (row r).granted.descriptors
      descriptors_alike = subst (λ (h : Here). (call_row r h).granted.descriptors ≡ (row r).granted.descriptors) (sym here1) (writes_level r call is_writing (here st s) (length (names_in e1 s)) top)

      cursors_alike : map (cursor_released (top + 1)) read'.granted.cursors ≡ (row r).granted.cursors
      cursors_alike = subst (λ (h : Here). map (cursor_released (top + 1)) (call_row r h).granted.cursors ≡ (row r).granted.cursors) (sym (here1 ∙ ap (λ (k : ℕ). at_level k (here st s)) names_top)) (releases_cursors r call is_writing top (here st s) stand_within)

      module _ (reply : Reply) (grants : Grants s (call_row r) e1 e2 reply) where
        granted' : IsGranted s read' e1 e2 reply (edits st) sessions1 (variables_of st)
        granted' = grants.granted (edits st) shared sessions1 (variables_of st) (finds_opened s low high e0 st stands (Some name) (names_in e0 s ++ Some name ∷ []) e1 opens)

        write_tried : tried st s r ≡ does r
        write_tried = tried_granted st s r (call_on_data r call) placed stands.well.uncounted (ap first_of (sym alike.refusals) ∙ granted'.unrefused)

        pub write_reply : reply ≡ (tried st s r).reply
        write_reply = granted'.answer ∙ (alike.reply ∙ ap (λ (done : Outcome). done.reply) (sym write_tried))

        abbrev pub after : Session
        after = session_by true read'.granted (sessions1 s)

        pub write_leaves : (e3 : Server) (names : List (Option (List ℕ))) → Becomes s names (released s level) (session_released level) e2 e3 → Leaves e3 st s (tried st s r)
        write_leaves e3 names merges =
            let has3 = merges.has _ _ _ granted'.has in
            subst (Leaves e3 st s) (sym write_tried) record {
              time = merges.time ∙ time2;
              has = has_same e3 _ _ _ (shared_by (row r).granted) _ _ made (shared_alike read' (row r) alike) session_same has3;
              variables = granted_variables e3 s (variables_of st) _ _ alike.variables (variables_kept e2 e3 _ merges.variables granted'.arrays);
            }
          where
            made : released s level (edits st ++ edits_by (clock_of e1) (Running s (length (names_in e1 s))) read'.granted.deeds) ≡ and_made st s (row r).granted.deeds
            made =
                ap (λ (k : ℕ). released s k (edits st ++ edits_by (clock_of e1) (Running s (length (names_in e1 s))) read'.granted.deeds)) level_top
                ∙ (ap (λ (k : ℕ). released s (top + 1) (edits st ++ edits_by (clock_of e1) (Running s k) read'.granted.deeds)) names_top
                ∙ (released_both s top (clock_of e1) (edits st) read'.granted.deeds before_below
                ∙ (ap (λ (clock : ℕ). edits st ++ edits_by clock (Running s top) read'.granted.deeds) time1
                ∙ (ap (λ (ds : List Deed). edits st ++ edits_by (now st) (Running s top) ds) alike.deeds
                ∙ ap (λ (owner : Owner). edits st ++ edits_by (now st) owner (row r).granted.deeds) (sym (owner_open (now st) s mine.transaction.levels some'))))))

            after_same : session_released level after ≡ session_by (is_open mine.transaction) (row r).granted mine
            after_same =
                ap (λ (k : ℕ). session_released k after) level_top
                ∙ (ap (λ (session : Session). session_released (top + 1) (session_by true read'.granted session)) (own_session s opened (session_of st))
                ∙ (ap (λ (ds : List Descriptor). session_released (top + 1) (having ds read'.granted.cursors opened)) descriptors_alike
                ∙ (merged_again (Some name) mine (row r).granted.descriptors read'.granted.cursors (row r).granted.cursors (writes_within r call is_writing top (here st s) within) cursors_alike
                ∙ ap (λ (b : Bool). session_by b (row r).granted mine) (sym (open_levels mine.transaction.levels some')))))

            session_same : (t : ℕ) → with_session_at s (session_released level (with_session_at s after sessions1 s)) (with_session_at s after sessions1) t ≡ with_session_at s (session_by (is_open mine.transaction) (row r).granted mine) (session_of st) t
            session_same t =
                set_again s after _ sessions1 t
                ∙ (set_again s opened _ (session_of st) t
                ∙ ap (λ (session : Session). with_session_at s session (session_of st) t) (ap (session_released level) (own_session s after sessions1) ∙ after_same))

      pub write_first : (refusal : Refusal) → Refuses s (call_row r) e1 e2 refusal → first_of (refusals st s r) ≡ Some refusal
      write_first refusal refuses =
          first_refusal st s r (call_on_data r call) placed stands.well.uncounted
          ∙ (ap first_of (sym alike.refusals)
          ∙ refuses.first (edits st) shared sessions1 (variables_of st) (finds_opened s low high e0 st stands (Some name) (names_in e0 s ++ Some name ∷ []) e1 opens))

    -- Where it was not done, its level is undone and merged.
    module _ (fails : Bool) (failure : mine.transaction.failed ≡ fails) (e3 e4 : Server) (names names' : List (Option (List ℕ))) (undoes : Becomes s names (undone s level) (session_undone level fails) e2 e3) (merges : Becomes s names' (released s level) (session_released level) e3 e4) where
      undone_session : session_undone level fails opened ≡ opened
      undone_session = ap (λ (k : ℕ). session_undone k fails opened) level_top ∙ undone_again (Some name) mine fails failure within stand_within

      merged_session : session_released level opened ≡ mine
      merged_session = ap (λ (k : ℕ). session_released k opened) level_top ∙ merged_again (Some name) mine mine.descriptors mine.cursors mine.cursors within (cursors_released top mine.cursors stand_within)

      undone_edits : undone s level (edits st) ≡ edits st
      undone_edits = ap (λ (k : ℕ). undone s k (edits st)) level_top ∙ undone_below s (top + 1) (edits st) before_below

      undone_same : (t : ℕ) → with_session_at s (session_undone level fails (sessions1 s)) sessions1 t ≡ sessions1 t
      undone_same t =
          set_again s opened _ (session_of st) t
          ∙ ap (λ (session : Session). with_session_at s session (session_of st) t) (ap (session_undone level fails) (own_session s opened (session_of st)) ∙ undone_session)

      left_stands : Has e3 (undone s level (edits st)) shared (with_session_at s (session_undone level fails (sessions1 s)) sessions1) → HasVariables e3 (variables_of st) → StandsFor e4 st
      left_stands has3 arrays =
          let has4 = merges.has (edits st) shared sessions1 (has_same e3 _ _ shared shared _ _ undone_edits refl undone_same has3) in
          record {
            time = merges.time ∙ (undoes.time ∙ time2);
            has = has_same e4 _ _ shared shared _ _ (ap (λ (k : ℕ). released s k (edits st)) level_top ∙ released_below s (top + 1) (edits st) before_below) refl session_same has4;
            variables = variables_kept e3 e4 (variables_of st) merges.variables arrays;
            well = stands.well;
            fit = stands.fit;
          }
        where
          session_same : (t : ℕ) → with_session_at s (session_released level (sessions1 s)) sessions1 t ≡ session_of st t
          session_same t = set_again s opened _ (session_of st) t ∙ (ap (λ (session : Session). with_session_at s session (session_of st) t) (ap (session_released level) (own_session s opened (session_of st)) ∙ merged_session) ∙ session_again s (session_of st) t)

      pub write_refused : Stays e1 e2 → StandsFor e4 st
      write_refused stays = left_stands (undoes.has (edits st) shared sessions1 (stays.has (edits st) shared sessions1 has1)) (variables_kept e2 e3 (variables_of st) undoes.variables (stays.variables (variables_of st) arrays1))

      pub write_starved : Loses s level e2 e3 → FindsNoMemory s e1 e2 → StandsFor e4 st
      write_starved loses lacks =
          left_stands (lost_has s level e1 e2 e3 is_level lacks names (session_undone level fails) undoes loses (edits st) shared sessions1 has1)
          (lost_variables s level e1 e2 e3 is_level lacks names (session_undone level fails) undoes loses (variables_of st) arrays1)
