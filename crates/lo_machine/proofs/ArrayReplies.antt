-- Each text in a reply is an array's: those of variables that are shown, and those of values in rows.
use Rattle.std.proofs.Common.{ℕ, true, false, Bool, List, [], ◌∷◌, refl}
use Rattle.std.specs.Prelude.{Option, Some, None, ℤ, pos, if◌then◌else◌}
use Rattle.std.specs.List.{AllByRecursion}
use Rattle.expanded_array.specs.Array.{Array}
use Rattle.expanded_array.specs.Layout.{array_in}
use Rattle.expanded_array.specs.Text.{array_text}
use Rattle.lo_base.specs.declared.column.Column.{Column}
use Rattle.lo_base.specs.declared.column.ColType.{ColType}
use Rattle.lo_base.specs.declared.column.ColType.TheVariants.{Int4Array}
use Rattle.lo_base.specs.declared.refusal.Refusal.{Refusal}
use Rattle.lo_base.specs.declared.reply.Reply.{Reply}
use Rattle.lo_base.specs.declared.reply.Reply.TheVariants.{Number}
use Rattle.lo_base.specs.declared.request.Request.{Request}
use Rattle.lo_base.specs.declared.request.Request.TheVariants.{Begin, Commit, Rollback, Step, Finish, LoRead, LoWrite, LoLseek, LoLseek64, LoTell, LoTell64, LoTruncate, LoTruncate64, Get, Slice, Fetch, Elem, Show}
use Rattle.lo_base.specs.declared.value.Value.{Value}
use Rattle.lo_base.specs.declared.value.Value.TheVariants as values
use Rattle.lo_calls.specs.DescriptorRows.{at_descriptor, descriptor_of, read_at, write_at, seek_at, cuts_at}
use Rattle.lo_calls.specs.Row as objects
use Rattle.lo_model.specs.Descriptor.{Descriptor}
use Rattle.lo_model.specs.Transaction.{is_open}
use Rattle.orphan_sweep.specs.History.{History}
use Rattle.orphan_sweep.specs.declared.act.SweepAct.{SweepAct}
use Rattle.orphan_sweep.specs.declared.act.SweepAct.TheVariants as acts
use Rattle.row_tables.specs.RowRules.{slice_reply}
use Rattle.lo_machine.specs.ArrayRows.{array_here, element_reply}
use Rattle.lo_machine.specs.CallRows.{here}
use Rattle.lo_machine.specs.Row.{objects_here}
use Rattle.lo_machine.specs.Replies.{IsArrayText, HasArrayText, HasArrayTexts}
use Rattle.lo_machine.specs.State.{State, Outcome, refused_in, session_of}
use Rattle.lo_machine.specs.Step.{granted, granted_or_refused, refusal_of, told_sweep, reply_to}
use Rattle.lo_machine.specs.SweepRows.{act_of, act_granted, report, report_in, told_of}
use Rattle.lo_machine.specs.TransactionRows.{begun, rolled_back, committed_in}
use Rattle.lo_machine.specs.Values.{bytes_cell, cell_of, cells_of}

printed : (a : Array) → IsArrayText (array_text a)
printed a = record { array = a; printed = refl }

-- rows

bytes_cell-printed : (kind : ColType) (bytes : List ℕ) → HasArrayText (bytes_cell kind bytes)
bytes_cell-printed Int4Array bytes = printed (array_in bytes)
bytes_cell-printed other bytes = tt

cell_of-printed : (c : Column) (value : Value) → HasArrayText (cell_of c value)
cell_of-printed c (values.Bytes bytes) = bytes_cell-printed c.kind bytes
cell_of-printed c other = tt

cells_of-printed : (columns : List Column) (row : List Value) → AllByRecursion HasArrayText (cells_of columns row)
cells_of-printed [] row = tt
cells_of-printed (c ∷ columns) [] = tt
cells_of-printed (c ∷ columns) (value ∷ row) = (cell_of-printed c value, cells_of-printed columns row)

-- replies by parts

slice_reply-printed : (value : Value) → HasArrayTexts (slice_reply value)
slice_reply-printed (values.Bytes bytes) = tt
slice_reply-printed other = tt

element_reply-printed : (element : Option ℤ) → HasArrayTexts (element_reply element)
element_reply-printed None = tt
element_reply-printed (Some n) = tt

at_descriptor-printed : (here : objects.Here) (granted : Descriptor → objects.Granted) (found : Option Descriptor) →
    ((d : Descriptor) → HasArrayTexts (granted d).reply) → HasArrayTexts (at_descriptor here granted found).reply
at_descriptor-printed here granted None each = tt
at_descriptor-printed here granted (Some d) each = each d

begun-printed : (st : State) (s : ℕ) (in_block : Bool) → HasArrayTexts (begun st s in_block).reply
begun-printed st s true = tt
begun-printed st s false = tt

rolled_back-printed : (st : State) (s : ℕ) (in_block : Bool) → HasArrayTexts (rolled_back st s in_block).reply
rolled_back-printed st s true = tt
rolled_back-printed st s false = tt

committed_in-printed : (st : State) (s : ℕ) (in_block failed : Bool) → HasArrayTexts (committed_in st s in_block failed).reply
committed_in-printed st s false failed = tt
committed_in-printed st s true true = tt
committed_in-printed st s true false = tt

if_reply-printed : (b : Bool) (x y : Reply) → HasArrayTexts x → HasArrayTexts y → HasArrayTexts (if b then x else y)
if_reply-printed true x y h k = h
if_reply-printed false x y h k = k

report-printed : (h : History) (stopped : Option ℕ) → HasArrayTexts (report h stopped)
report-printed h (Some o) = tt
report-printed h None = if_reply-printed h.dry _ _ tt tt

report_in-printed : (sweep : Option History) → HasArrayTexts (report_in sweep)
report_in-printed None = tt
report_in-printed (Some h) = report-printed h _

act_granted-printed : (st : State) (s : ℕ) (act : SweepAct) → HasArrayTexts (act_granted st s act).reply
act_granted-printed st s acts.Begin = begun-printed st s (is_open (session_of st s).transaction)
act_granted-printed st s acts.Commit =
    committed_in-printed st s (is_open (session_of st s).transaction) (session_of st s).transaction.failed
act_granted-printed st s acts.Rollback = rolled_back-printed st s (is_open (session_of st s).transaction)
act_granted-printed st s acts.Report = report_in-printed (st.players s).sweep
act_granted-printed st s other = tt

-- what a session's descriptors are looked for in, and what is granted at one of them

abbrev own : State → (s : ℕ) → objects.Here
own st s = objects_here (here st s)

abbrev position_told : State → (s : ℕ) → Descriptor → objects.Granted
position_told st s d = objects.answered (own st s) (Number (pos d.position))

abbrev cut_made : State → (s : ℕ) → (size : ℤ) → Descriptor → objects.Granted
cut_made st s size d = objects.edited (own st s) (Number (pos 0)) (cuts_at size d)

-- what is granted, request by request
granted-printed : (st : State) (s : ℕ) (r : Request) → HasArrayTexts (granted st s r).reply
granted-printed st s Begin = begun-printed st s (is_open (session_of st s).transaction)
granted-printed st s Commit =
    committed_in-printed st s (is_open (session_of st s).transaction) (session_of st s).transaction.failed
granted-printed st s Rollback = rolled_back-printed st s (is_open (session_of st s).transaction)
granted-printed st s Step = act_granted-printed st s (act_of st s)
granted-printed st s Finish = act_granted-printed st s (act_of st s)
granted-printed st s (LoRead fd count) = at_descriptor-printed (own st s) (read_at (own st s) count) (descriptor_of (own st s) fd) (λ d. tt)
granted-printed st s (LoWrite fd bytes) = at_descriptor-printed (own st s) (write_at (own st s) bytes) (descriptor_of (own st s) fd) (λ d. tt)
granted-printed st s (LoLseek fd offset whence) = at_descriptor-printed (own st s) (seek_at (own st s) offset whence) (descriptor_of (own st s) fd) (λ d. tt)
granted-printed st s (LoLseek64 fd offset whence) = at_descriptor-printed (own st s) (seek_at (own st s) offset whence) (descriptor_of (own st s) fd) (λ d. tt)
granted-printed st s (LoTell fd) = at_descriptor-printed (own st s) (position_told st s) (descriptor_of (own st s) fd) (λ d. tt)
granted-printed st s (LoTell64 fd) = at_descriptor-printed (own st s) (position_told st s) (descriptor_of (own st s) fd) (λ d. tt)
granted-printed st s (LoTruncate fd size) = at_descriptor-printed (own st s) (cut_made st s size) (descriptor_of (own st s) fd) (λ d. tt)
granted-printed st s (LoTruncate64 fd size) = at_descriptor-printed (own st s) (cut_made st s size) (descriptor_of (own st s) fd) (λ d. tt)
granted-printed st s (Get t i) = cells_of-printed _ _
granted-printed st s (Slice t i column from count) = slice_reply-printed _
granted-printed st s (Fetch cursor column from count) = slice_reply-printed _
granted-printed st s (Elem name sub) = element_reply-printed _
granted-printed st s (Show name) = printed (array_here (here st s) name)
granted-printed st s other = tt

refused_in-printed : (st : State) (s : ℕ) (in_block : Bool) (r : Refusal) → HasArrayTexts (refused_in st s in_block r).reply
refused_in-printed st s true r = tt
refused_in-printed st s false r = tt

granted_or_refused-printed : (st : State) (s : ℕ) (request : Request) (refusal : Option Refusal) →
    HasArrayTexts (granted_or_refused st s request refusal).reply
granted_or_refused-printed st s request None = granted-printed st s request
granted_or_refused-printed st s request (Some r) = refused_in-printed st s (is_open (session_of st s).transaction) r

-- what a clean-up is told changes no reply
told_of-printed : (st : State) (s : ℕ) (act : SweepAct) (is_refused : Bool) (done : Outcome) →
    HasArrayTexts done.reply → HasArrayTexts (told_of st s act is_refused done).reply
told_of-printed st s acts.Idle is_refused done h = h
told_of-printed st s other is_refused done h = h

told_sweep-printed : (st : State) (s : ℕ) (request : Request) (is_refused : Bool) (done : Outcome) →
    HasArrayTexts done.reply → HasArrayTexts (told_sweep st s request is_refused done).reply
told_sweep-printed st s Step is_refused done h = told_of-printed st s (act_of st s) is_refused done h
told_sweep-printed st s Finish is_refused done h = told_of-printed st s (act_of st s) is_refused done h
told_sweep-printed st s other is_refused done h = h

pub reply_to-printed : (st : State) (s : ℕ) (request : Request) → HasArrayTexts (reply_to st s request)
reply_to-printed st s request =
    told_sweep-printed st s request _ _ (granted_or_refused-printed st s request (refusal_of st s request))
