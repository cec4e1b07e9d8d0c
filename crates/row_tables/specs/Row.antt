-- What a call of a session reads, and the row that it answers by: the terms of its refusals, and what it makes where none
-- of them holds.
use Rattle.std.specs.Prelude.{ℕ, List, [], Option}
use Rattle.lo_base.specs.declared.refusal.Refusal.{Refusal}
use Rattle.lo_base.specs.declared.reply.Reply.{Reply}
use Rattle.lo_model.specs.Database.{Table}
use Rattle.lo_model.specs.Descriptor.{Cursor}
use Rattle.lo_model.specs.Edit.{Deed, Edit}

-- The present clock, the session with its top level and its cursors, the edits of the view that is read, all edits, the tables,
-- and the lowest other session that has a transaction.
pub record Here : Type 0 where
  pub clock : ℕ
  pub session : ℕ
  pub level : ℕ
  pub cursors : List Cursor
  pub view : List (Edit Deed)
  pub edits : List (Edit Deed)
  pub tables : List Table
  pub other : Option ℕ

-- what a granted call answers, which edits it makes, and what tables and cursors are after it
pub record Granted : Type 0 where
  pub reply : Reply
  pub deeds : List Deed
  pub tables : List Table
  pub cursors : List Cursor

-- A row has the terms of a call's refusals in order, each a refusal where it holds, and what is granted where none does.
pub record Row : Type 0 where
  pub refusals : List (Option Refusal)
  pub granted : Granted

-- a reply that changes nothing, one that makes edits, and one that leaves other cursors
abbrev pub answered : Here → Reply → Granted
answered here reply = record { reply = reply; deeds = []; tables = here.tables; cursors = here.cursors }

abbrev pub edited : Here → Reply → List Deed → Granted
edited here reply deeds = record { reply = reply; deeds = deeds; tables = here.tables; cursors = here.cursors }

abbrev pub with_cursors : Here → Reply → List Cursor → Granted
with_cursors here reply cursors = record { reply = reply; deeds = []; tables = here.tables; cursors = cursors }
