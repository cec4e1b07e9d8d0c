-- Tables that are made of plain data in a session's transaction, and what is still to be made.
use Rattle.std.specs.Prelude.{◌≡◌, ◌<◌, ℕ, ℤ, true, List, [], ◌++◌, length, Option, Some, None}
use Rattle.lo_base.specs.declared.value.Value.{Value}
use Rattle.lo_model.specs.declared.owner.Owner.TheVariants.{Running}
use Rattle.lo_model.specs.Database.{Table}
use Rattle.lo_model.specs.Edit.{Deed, edits_by}
use Rattle.lo_model.specs.Row.{row_after_all}
use Rattle.xact_core.specs.Transactions.{Transactions, levels_of}
use Rattle.row_tables.specs.declared.tables.Tables.{Tables}
use Rattle.row_tables.specs.Catalog.{most_tables, table_in}
use Rattle.row_tables.specs.Cursors.{holds_of}
use Rattle.row_tables.specs.Standing.{StandFor, cursors_in, tables_in}
use Rattle.row_tables.specs.World.{IsReady, other_open, world}
use Rattle.lo_opening.specs.declared.opening.TableData.{TableData}
use Rattle.lo_opening.specs.Opening.{AreRows, AreTables, IsTableAt, NameFollows, id_follows}
use Rattle.lo_restore.specs.Tables.{named_of}

-- a session is in its transaction at clock 0, and no other one has a transaction
pub record IsAlone (x : Transactions) (s : ℕ) : Type 0 where
  pub begun : 0 < length (levels_of x s)
  pub time : x.clock ≡ 0
  pub others : other_open x s ≡ None

-- The tables of a catalog stand for deeds at the top level of a session's transaction, and no cursor is open.
pub record HaveDone (x : Transactions) (s : ℕ) (tables : Tables) (named : List Table) (deeds : List Deed) : Type 0 where
  pub stand : StandFor x tables (edits_by x.clock (Running s (length (levels_of x s))) deeds)
  pub catalog : tables_in tables ≡ named
  pub ready : IsReady (world x tables s)
  pub cursors : holds_of (cursors_in tables) ≡ []

-- whatever the tables had done, they have done more deeds since, and there are more of them
pub record DoMore (x : Transactions) (s : ℕ) (more : List Table) (deeds : List Deed) (old new : Tables) : Type 0 where
  pub did : (catalog : List Table) (done : List Deed) → HaveDone x s old catalog done → HaveDone x s new (catalog ++ more) (done ++ deeds)

-- Rows that follow deeds: none of the deeds gives a row of the table whose id stands behind the last one.
pub record RowsFollow (t : TableData) (done : List Deed) (rows : List (List Value)) : Type 0 where
  pub table : ℕ
  pub value : ℕ
  pub last : Option ℤ
  pub are : AreRows t.columns table last value rows
  pub fresh : (id : ℤ) → id_follows last id ≡ true → row_after_all t.name id None done ≡ None

-- tables have a table, and can take rows of it
pub record CanTakeRows (x : Transactions) (s : ℕ) (tables : Tables) (t : TableData) (rows : List (List Value)) : Type 0 where
  pub catalog : List Table
  pub deeds : List Deed
  pub done : HaveDone x s tables catalog deeds
  pub there : table_in t.name (tables_in tables) ≡ Some (named_of t)
  pub follow : RowsFollow t deeds rows

-- tables can take one more
pub record CanTakeTable (x : Transactions) (s : ℕ) (tables : Tables) (t : TableData) : Type 0 where
  pub catalog : List Table
  pub deeds : List Deed
  pub done : HaveDone x s tables catalog deeds
  pub fresh : table_in t.name catalog ≡ None
  pub few : length catalog < most_tables
  pub number : ℕ
  pub value : ℕ
  pub is : IsTableAt number value t

-- Tables that follow those of a catalog: none of these has a name that stands behind the last one.
pub record TablesFollow (catalog : List Table) (list : List TableData) : Type 0 where
  pub number : ℕ
  pub value : ℕ
  pub last : Option (List ℕ)
  pub are : AreTables last number value list
  pub fresh : (name : List ℕ) → NameFollows last name → table_in name catalog ≡ None
