-- Clean-ups of orphans: which objects are listed, which columns are scanned, and what each act does. Which act comes next is
-- orphan_sweep's own. (Manual, vacuumlo.)
use Rattle.std.specs.Prelude.{ℕ, Bool, true, false, List, [], ◌∷◌, length, map, filter, Option, Some, None, if◌then◌else◌}
use Rattle.std.specs.List.{flat_map}
use Rattle.lo_base.specs.declared.column.Column.{Column}
use Rattle.lo_base.specs.declared.column.ColType.{ColType}
use Rattle.lo_base.specs.declared.column.ColType.TheVariants as types
use Rattle.lo_base.specs.declared.refusal.Refusal.{Refusal}
use Rattle.lo_base.specs.declared.reply.Reply.{Reply}
use Rattle.lo_base.specs.declared.reply.Reply.TheVariants.{Word, Counted, Stopped}
use Rattle.lo_base.specs.declared.reply.Word.TheVariants as words
use Rattle.lo_base.specs.declared.value.Value.{Value}
use Rattle.lo_base.specs.declared.value.Value.TheVariants.{Oid}
use Rattle.lo_model.specs.Database.{Table}
use Rattle.lo_model.specs.Listing.{oids_in, tables_in_order}
use Rattle.orphan_sweep.specs.declared.act.Scan.{Scan}
use Rattle.orphan_sweep.specs.declared.act.SweepAct.{SweepAct}
use Rattle.orphan_sweep.specs.declared.act.SweepAct.TheVariants as acts
use Rattle.orphan_sweep.specs.declared.act.Told.{Told}
use Rattle.orphan_sweep.specs.declared.act.Told.TheVariants.{Found, Granted, Refused}
use Rattle.orphan_sweep.specs.History.{History, begun, and_told, next_act, rest_of, removed_of, acts_of}
use Rattle.orphan_sweep.specs.Rest.{less}
use Rattle.lo_machine.specs.State.{State, Outcome, Player, view_of, answered, with_sweep}
use Rattle.lo_machine.specs.Terms.{in_block}
use Rattle.lo_machine.specs.TransactionRows.{begin_granted, commit_granted, rollback_granted}
use Rattle.lo_calls.specs.ObjectRows.{unlink_row}
use Rattle.row_tables.specs.Catalog.{columns_in, table_in}
use Rattle.row_tables.specs.RowRules.{value_under, values_in}
use Rattle.lo_model.specs.Listing.{ids_in}
use Rattle.lo_model.specs.Row.{row_in}
use Rattle.lo_machine.specs.CallRows.{call_refusals, call_granted}
use Rattle.lo_machine.specs.Row.{on_objects}

-- vacuumlo lists all objects of the current view, and the columns that may name one, by table name and then position.

abbrev pub names_objects : ColType → Bool
names_objects types.Oid = true
names_objects types.Lo = true
names_objects _ = false

abbrev pub scans_of_table : Table → List Scan
scans_of_table t =
    map (λ (c : Column). record { table = t.name; column = c.name }) (filter (λ (c : Column). names_objects c.kind) t.columns)

abbrev pub scans_of : List Table → List Scan
scans_of tables = flat_map scans_of_table (tables_in_order tables)

abbrev pub sweep_begun : State → (session : ℕ) → (dry : Bool) → (limit : ℕ) → History
sweep_begun st s dry limit = begun dry limit (oids_in (view_of st s)) (scans_of st.database.tables)

abbrev pub vacuumlo_refusals : State → (session : ℕ) → List (Option Refusal)
vacuumlo_refusals st s = in_block st s ∷ []

abbrev pub vacuumlo_granted : State → (session : ℕ) → (dry : Bool) → (limit : ℕ) → Outcome
vacuumlo_granted st s dry limit = record {
  reply = Counted words.Listed (length (oids_in (view_of st s)));
  database = st.database;
  player = with_sweep (sweep_begun st s dry limit) (st.players s);
}

abbrev pub is_idle : SweepAct → Bool
is_idle acts.Idle = true
is_idle _ = false

-- the act that comes next: idle where no clean-up is before its report
abbrev pub act_in : Option History → SweepAct
act_in None = acts.Idle
act_in (Some h) = next_act h

abbrev pub act_of : State → (session : ℕ) → SweepAct
act_of st s = act_in (st.players s).sweep

-- A scan finds the numbers of its column in the current view of its own advance.

abbrev pub number_in : Value → List ℕ
number_in (Oid o) = o ∷ []
number_in _ = []

abbrev pub columns_of : State → (table : List ℕ) → List Column
columns_of st name = columns_in (table_in name st.database.tables)

-- the values of all rows of a table, by ascending id
abbrev pub rows_of : State → (session : ℕ) → (table : List ℕ) → List (List Value)
rows_of st s name = map (λ i. values_in (row_in name i (view_of st s))) (ids_in name (view_of st s))

abbrev pub found_in : State → (session : ℕ) → (table column : List ℕ) → List ℕ
found_in st s table column = flat_map (λ row. number_in (value_under column (columns_of st table) row)) (rows_of st s table)

abbrev pub rest_in : Option History → List ℕ
rest_in None = []
rest_in (Some h) = rest_of h

-- the list less what was found, up to the report
abbrev pub rest_before_report : Option History → List ℕ
rest_before_report sweep = if is_idle (act_in sweep) then [] else rest_in sweep

abbrev pub scan_reply : State → (session : ℕ) → (table column : List ℕ) → Reply
scan_reply st s table column =
    Counted words.Scanned (length (less (rest_in (st.players s).sweep) (found_in st s table column)))

-- The report: how many were removed, or would be; or the object whose removal was refused, and how many were removed before.

abbrev pub refused_at : List SweepAct → List Told → Option ℕ
refused_at (acts.Unlink o ∷ done) (Refused ∷ answers) = Some o
refused_at (act ∷ done) (answer ∷ answers) = refused_at done answers
refused_at _ _ = None

abbrev pub report : History → Option ℕ → Reply
report h (Some o) = Stopped o (removed_of h)
report h None = if h.dry then Counted words.WouldRemove (length (rest_of h)) else Counted words.Removed (removed_of h)

abbrev pub report_in : Option History → Reply
report_in None = Word words.Idle
report_in (Some h) = report h (refused_at (acts_of h) h.answers)

-- step and finish: what the act does. Only an unlink may be refused

abbrev pub act_refusals : State → (session : ℕ) → SweepAct → List (Option Refusal)
act_refusals st s (acts.Unlink o) = call_refusals st s (on_objects (unlink_row o))
act_refusals st s _ = []

abbrev pub act_granted : State → (session : ℕ) → SweepAct → Outcome
act_granted st s (acts.Scan table column) = answered st s (scan_reply st s table column)
act_granted st s acts.Begin = begin_granted st s
act_granted st s (acts.Unlink o) = call_granted st s (on_objects (unlink_row o))
act_granted st s acts.Commit = commit_granted st s
act_granted st s acts.Rollback = rollback_granted st s
act_granted st s acts.Report = answered st s (report_in (st.players s).sweep)
act_granted st s acts.Idle = answered st s (Word words.Idle)

-- and what the clean-up is told of it
abbrev pub answer_to : State → (session : ℕ) → SweepAct → (refused : Bool) → Told
answer_to st s (acts.Scan table column) refused = Found (found_in st s table column)
answer_to st s _ true = Refused
answer_to st s _ false = Granted

abbrev pub with_answer : Told → Option History → Player → Player
with_answer answer None player = player
with_answer answer (Some h) player = with_sweep (and_told h answer) player

-- An act was done with this outcome. After the report there is no act, and nothing is told.
abbrev pub told_of : State → (session : ℕ) → SweepAct → (refused : Bool) → Outcome → Outcome
told_of st s acts.Idle refused done = done
told_of st s act refused done = record {
  reply = done.reply;
  database = done.database;
  player = with_answer (answer_to st s act refused) (st.players s).sweep done.player;
}

-- whether an act stands before its clean-up's report
abbrev pub is_before_report : SweepAct → Bool
is_before_report acts.Report = false
is_before_report acts.Idle = false
is_before_report _ = true
