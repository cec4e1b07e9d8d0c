-- What a call of a session reads, and the row that it answers by: the terms of its refusals, and what it makes where none
-- of them holds.
use Rattle.std.specs.Prelude.{ℕ, List, [], Option}
use Rattle.lo_base.specs.declared.refusal.Refusal.{Refusal}
use Rattle.lo_base.specs.declared.reply.Reply.{Reply}
use Rattle.lo_model.specs.Descriptor.{Descriptor}
use Rattle.lo_model.specs.Edit.{Deed, Edit}
use Rattle.lo_model.specs.View.{current_view}

-- The clock of the session's current view, the session with its top level and its descriptors, all edits, and the counter of
-- object numbers.
pub record Here : Type 0 where
  pub now : ℕ
  pub session : ℕ
  pub level : ℕ
  pub descriptors : List Descriptor
  pub edits : List (Edit Deed)
  pub counter : ℕ

-- what a granted call answers, which edits it makes, and what descriptors and counter are after it
pub record Granted : Type 0 where
  pub reply : Reply
  pub deeds : List Deed
  pub descriptors : List Descriptor
  pub counter : ℕ

-- A row has the terms of a call's refusals in order, each a refusal where it holds, and what is granted where none does.
pub record Row : Type 0 where
  pub refusals : List (Option Refusal)
  pub granted : Granted

-- the edits of the session's current view
abbrev pub view_of : Here → List (Edit Deed)
view_of here = current_view here.now here.session here.edits

-- a reply that changes nothing, one that makes edits, and one that leaves other descriptors
abbrev pub answered : Here → Reply → Granted
answered here reply =
    record { reply = reply; deeds = []; descriptors = here.descriptors; counter = here.counter }

abbrev pub edited : Here → Reply → List Deed → Granted
edited here reply deeds =
    record { reply = reply; deeds = deeds; descriptors = here.descriptors; counter = here.counter }

abbrev pub described : Here → Reply → List Descriptor → Granted
described here reply descriptors =
    record { reply = reply; deeds = []; descriptors = descriptors; counter = here.counter }
