-- What a request on data reads, and the row that it answers by: the terms of its refusals, and what it makes where none of them
-- holds. The rows of large objects stand in lo_calls and those of tables in row_tables; here each is read of one and the same.
use Rattle.std.specs.Prelude.{ℕ, List, [], Option}
use Rattle.lo_base.specs.declared.refusal.Refusal.{Refusal}
use Rattle.lo_base.specs.declared.reply.Reply.{Reply}
use Rattle.lo_calls.specs.Row as objects
use Rattle.lo_model.specs.Database.{Table}
use Rattle.lo_model.specs.Descriptor.{Cursor, Descriptor}
use Rattle.lo_model.specs.Edit.{Deed, Edit}
use Rattle.lo_model.specs.View.{current_view}
use Rattle.row_tables.specs.Row as tables
use Rattle.lo_machine.specs.State.{Variable}

-- The clock of the session's current view, the session with its top level, descriptors, cursors and array variables, all edits,
-- the counter of object numbers, the tables, and the lowest other session that has a transaction.
pub record Here : Type 0 where
  pub now : ℕ
  pub session : ℕ
  pub level : ℕ
  pub descriptors : List Descriptor
  pub cursors : List Cursor
  pub variables : List Variable
  pub edits : List (Edit Deed)
  pub counter : ℕ
  pub tables : List Table
  pub other : Option ℕ

-- what a granted request answers, which edits it makes, and what the session and what all sessions share are after it
pub record Granted : Type 0 where
  pub reply : Reply
  pub deeds : List Deed
  pub descriptors : List Descriptor
  pub cursors : List Cursor
  pub variables : List Variable
  pub counter : ℕ
  pub tables : List Table

-- A row has the terms of a request's refusals in order, each a refusal where it holds, and what is granted where none does.
pub record Row : Type 0 where
  pub refusals : List (Option Refusal)
  pub granted : Granted

-- the edits of the session's current view
abbrev pub view_of : Here → List (Edit Deed)
view_of here = current_view here.now here.session here.edits

-- a reply that changes nothing, one that leaves other cursors, and one that leaves other variables

abbrev pub answered : Here → Reply → Granted
answered here reply = record {
  reply = reply;
  deeds = [];
  descriptors = here.descriptors;
  cursors = here.cursors;
  variables = here.variables;
  counter = here.counter;
  tables = here.tables;
}

abbrev pub with_cursors : Here → Reply → List Cursor → Granted
with_cursors here reply cursors = record {
  reply = reply;
  deeds = [];
  descriptors = here.descriptors;
  cursors = cursors;
  variables = here.variables;
  counter = here.counter;
  tables = here.tables;
}

abbrev pub with_variables : Here → Reply → List Variable → Granted
with_variables here reply variables = record {
  reply = reply;
  deeds = [];
  descriptors = here.descriptors;
  cursors = here.cursors;
  variables = variables;
  counter = here.counter;
  tables = here.tables;
}

-- the row of a request on large objects, which leaves cursors, variables and tables

abbrev pub objects_here : Here → objects.Here
objects_here here = record {
  now = here.now;
  session = here.session;
  level = here.level;
  descriptors = here.descriptors;
  edits = here.edits;
  counter = here.counter;
}

abbrev pub objects_granted : Here → objects.Granted → Granted
objects_granted here granted = record {
  reply = granted.reply;
  deeds = granted.deeds;
  descriptors = granted.descriptors;
  cursors = here.cursors;
  variables = here.variables;
  counter = granted.counter;
  tables = here.tables;
}

abbrev pub on_objects : (objects.Here → objects.Row) → Here → Row
on_objects row here = record {
  refusals = (row (objects_here here)).refusals;
  granted = objects_granted here (row (objects_here here)).granted;
}

-- the row of a request on tables, which leaves descriptors, variables and the counter

abbrev pub tables_here : Here → tables.Here
tables_here here = record {
  clock = here.now;
  session = here.session;
  level = here.level;
  cursors = here.cursors;
  view = view_of here;
  edits = here.edits;
  tables = here.tables;
  other = here.other;
}

abbrev pub tables_granted : Here → tables.Granted → Granted
tables_granted here granted = record {
  reply = granted.reply;
  deeds = granted.deeds;
  descriptors = here.descriptors;
  cursors = granted.cursors;
  variables = here.variables;
  counter = here.counter;
  tables = granted.tables;
}

abbrev pub on_tables : (tables.Here → tables.Row) → Here → Row
on_tables row here = record {
  refusals = (row (tables_here here)).refusals;
  granted = tables_granted here (row (tables_here here)).granted;
}
