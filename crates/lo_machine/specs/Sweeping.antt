-- What an engine keeps of a session's clean-up.
use Rattle.std.specs.Prelude.{◌≡◌, ℕ, ◌-◌, ◌==◌, Bool, true, false, List, [], ◌∷◌, Option, Some, None, if◌then◌else◌}
use Rattle.lo_base.specs.declared.reply.Reply.{Reply}
use Rattle.lo_base.specs.declared.reply.Reply.TheVariants as replies
use Rattle.lo_base.specs.declared.request.Request.{Request}
use Rattle.lo_base.specs.declared.request.Request.TheVariants.{Begin, Commit, Rollback, LoUnlink}
use Rattle.orphan_sweep.specs.declared.act.SweepAct.{SweepAct}
use Rattle.orphan_sweep.specs.declared.act.SweepAct.TheVariants as acts
use Rattle.orphan_sweep.specs.declared.act.Told.{Told}
use Rattle.orphan_sweep.specs.declared.act.Told.TheVariants.{Granted, Refused}
use Rattle.orphan_sweep.specs.History.{History, acts_of, begun}
use Rattle.orphan_sweep.specs.Law.{AreAnswers}
use Rattle.orphan_sweep.specs.State.{state_of, next_of}
use Rattle.lo_machine.specs.declared.cleanup.Cleanup.{Cleanup}
use Rattle.lo_machine.specs.State.{State}
use Rattle.lo_machine.specs.SweepRows.{refused_at}

-- the requests that are acts of clean-ups
abbrev pub is_act : Request → Bool
is_act Begin = true
is_act Commit = true
is_act Rollback = true
is_act (LoUnlink o) = true
is_act _ = false

-- the request that does an act, where one does
abbrev pub request_of : SweepAct → Option Request
request_of acts.Begin = Some Begin
request_of (acts.Unlink o) = Some (LoUnlink o)
request_of acts.Commit = Some Commit
request_of acts.Rollback = Some Rollback
request_of act = None

-- what a clean-up is told of an act that was done as a request
abbrev pub answer_where : (refused : Bool) → Told
answer_where true = Refused
answer_where false = Granted

abbrev pub answer_of : Reply → Told
answer_of (replies.Refused r) = Refused
answer_of reply = Granted

abbrev pub is_scan : SweepAct → Bool
is_scan (acts.Scan table column) = true
is_scan act = false

-- the first of two objects that is there, and the object of an act that was refused

abbrev pub first_some : Option ℕ → Option ℕ → Option ℕ
first_some None other = other
first_some (Some o) other = Some o

abbrev pub refused_by : SweepAct → Told → Option ℕ
refused_by act answer = refused_at (act ∷ []) (answer ∷ [])

-- a clean-up stands where its answers so far lead, each of which was one to the act that was next when it came
pub record IsAt (c : Cleanup) (h : History) : Type 0 where
  pub sweep : c.sweep ≡ state_of h
  pub dry : c.dry ≡ h.dry
  pub refused : c.refused ≡ refused_at (acts_of h) h.answers
  pub answers : AreAnswers (begun h.dry h.limit h.list h.scans) h.answers

-- one that is over, which stands for none too
pub record IsOver (c : Cleanup) : Type 0 where
  pub left : c.sweep.left ≡ []
  pub rest : c.sweep.rest ≡ []

abbrev pub IsFor : Cleanup → Option History → Type 0
IsFor c None = IsOver c
IsFor c (Some h) = IsAt c h

-- a session's clean-up in a state, and one session's changed
abbrev pub sweeps_of : State → (session : ℕ) → Option History
sweeps_of st s = (st.players s).sweep

abbrev pub with_sweep_at : (session : ℕ) → Option History → (ℕ → Option History) → ℕ → Option History
with_sweep_at s sweep sweeps t = if t == s then sweep else sweeps t
