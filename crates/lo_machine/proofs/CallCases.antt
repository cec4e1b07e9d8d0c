-- What holds of each request on data that is served, said of one after another.
use Rattle.std.proofs.Common.{◌≡◌, ℕ, ℤ, true, List, Option}
use Rattle.std.proofs.lemmas.Bool.{false≢true}
use Rattle.lo_base.specs.declared.column.Column.{Column}
use Rattle.lo_base.specs.declared.request.Assign.{Assign}
use Rattle.lo_base.specs.declared.request.Request.{Request}
use Rattle.lo_base.specs.declared.request.Request.TheVariants.{Begin, Commit, Rollback, Savepoint, Release, RollbackTo, CreateTable, Insert, Update, Delete, Get, Ids, Slice, Declare, Fetch, Close, Rewrite, Vacuum, Array, Load, Set, Elem, Show, Vacuumlo, Step, Finish, LoCreat, LoCreate, LoOpen, LoClose, LoRead, LoWrite, LoLseek, LoLseek64, LoTell, LoTell64, LoTruncate, LoTruncate64, LoUnlink, LoGet, LoPut, LoFromBytea}
use Rattle.lo_base.specs.declared.value.Literal.{Literal}
use Rattle.lo_machine.specs.CallRow.{is_call, sets}

-- those that need a transaction: on large objects, on tables and cursors, and the load of an array

pub record CallCases (P : Request → Type 0) : Type 0 where
  pub creat : (mode : ℤ) → P (LoCreat mode)
  pub create : (o : ℕ) → P (LoCreate o)
  pub open' : (o : ℕ) (mode : ℤ) → P (LoOpen o mode)
  pub close : (fd : ℤ) → P (LoClose fd)
  pub read : (fd : ℤ) (count : ℤ) → P (LoRead fd count)
  pub write : (fd : ℤ) (bytes : List ℕ) → P (LoWrite fd bytes)
  pub seek : (fd : ℤ) (offset : ℤ) (whence : ℤ) → P (LoLseek fd offset whence)
  pub seek64 : (fd : ℤ) (offset : ℤ) (whence : ℤ) → P (LoLseek64 fd offset whence)
  pub tell : (fd : ℤ) → P (LoTell fd)
  pub tell64 : (fd : ℤ) → P (LoTell64 fd)
  pub truncate : (fd : ℤ) (size : ℤ) → P (LoTruncate fd size)
  pub truncate64 : (fd : ℤ) (size : ℤ) → P (LoTruncate64 fd size)
  pub unlink : (o : ℕ) → P (LoUnlink o)
  pub get : (o : ℕ) (from : ℤ) (count : Option ℤ) → P (LoGet o from count)
  pub put : (o : ℕ) (at : ℤ) (bytes : List ℕ) → P (LoPut o at bytes)
  pub from_bytea : (o : ℕ) (bytes : List ℕ) → P (LoFromBytea o bytes)
  pub create_table : (name : List ℕ) (columns : List Column) → P (CreateTable name columns)
  pub insert : (t : List ℕ) (values : List Literal) → P (Insert t values)
  pub update : (t : List ℕ) (i : ℤ) (changes : List Assign) → P (Update t i changes)
  pub delete : (t : List ℕ) (i : ℤ) → P (Delete t i)
  pub get_row : (t : List ℕ) (i : ℤ) → P (Get t i)
  pub ids : (t : List ℕ) → P (Ids t)
  pub slice : (t : List ℕ) (i : ℤ) (column : List ℕ) (from count : ℤ) → P (Slice t i column from count)
  pub declare : (cursor t : List ℕ) (i : ℤ) → P (Declare cursor t i)
  pub fetch : (cursor column : List ℕ) (from count : ℤ) → P (Fetch cursor column from count)
  pub close_cursor : (cursor : List ℕ) → P (Close cursor)
  pub rewrite : (t : List ℕ) (storages : List Column) → P (Rewrite t storages)
  pub load : (name t : List ℕ) (i : ℤ) (column : List ℕ) → P (Load name t i column)

pub each_call : (P : Request → Type 0) → CallCases P → (r : Request) → is_call r ≡ true → P r
each_call P cases (LoCreat mode) call = cases.creat mode
each_call P cases (LoCreate o) call = cases.create o
each_call P cases (LoOpen o mode) call = cases.open' o mode
each_call P cases (LoClose fd) call = cases.close fd
each_call P cases (LoRead fd count) call = cases.read fd count
each_call P cases (LoWrite fd bytes) call = cases.write fd bytes
each_call P cases (LoLseek fd offset whence) call = cases.seek fd offset whence
each_call P cases (LoLseek64 fd offset whence) call = cases.seek64 fd offset whence
each_call P cases (LoTell fd) call = cases.tell fd
each_call P cases (LoTell64 fd) call = cases.tell64 fd
each_call P cases (LoTruncate fd size) call = cases.truncate fd size
each_call P cases (LoTruncate64 fd size) call = cases.truncate64 fd size
each_call P cases (LoUnlink o) call = cases.unlink o
each_call P cases (LoGet o from count) call = cases.get o from count
each_call P cases (LoPut o at bytes) call = cases.put o at bytes
each_call P cases (LoFromBytea o bytes) call = cases.from_bytea o bytes
each_call P cases Begin call = absurd (false≢true call)
each_call P cases Commit call = absurd (false≢true call)
each_call P cases Rollback call = absurd (false≢true call)
each_call P cases (Savepoint a) call = absurd (false≢true call)
each_call P cases (Release a) call = absurd (false≢true call)
each_call P cases (RollbackTo a) call = absurd (false≢true call)
each_call P cases (CreateTable a b) call = cases.create_table a b
each_call P cases (Insert a b) call = cases.insert a b
each_call P cases (Update a b c) call = cases.update a b c
each_call P cases (Delete a b) call = cases.delete a b
each_call P cases (Get a b) call = cases.get_row a b
each_call P cases (Ids a) call = cases.ids a
each_call P cases (Slice a b c d e) call = cases.slice a b c d e
each_call P cases (Declare a b c) call = cases.declare a b c
each_call P cases (Fetch a b c d) call = cases.fetch a b c d
each_call P cases (Close a) call = cases.close_cursor a
each_call P cases (Rewrite a b) call = cases.rewrite a b
each_call P cases Vacuum call = absurd (false≢true call)
each_call P cases (Array a b) call = absurd (false≢true call)
each_call P cases (Load a b c d) call = cases.load a b c d
each_call P cases (Set a b c) call = absurd (false≢true call)
each_call P cases (Elem a b) call = absurd (false≢true call)
each_call P cases (Show a) call = absurd (false≢true call)
each_call P cases (Vacuumlo a b) call = absurd (false≢true call)
each_call P cases Step call = absurd (false≢true call)
each_call P cases Finish call = absurd (false≢true call)

-- those on array variables

pub record SetCases (P : Request → Type 0) : Type 0 where
  pub array : (name text : List ℕ) → P (Array name text)
  pub set : (name : List ℕ) (sub : ℤ) (value : Option ℤ) → P (Set name sub value)
  pub elem' : (name : List ℕ) (sub : ℤ) → P (Elem name sub)
  pub show : (name : List ℕ) → P (Show name)

pub each_set : (P : Request → Type 0) → SetCases P → (r : Request) → sets r ≡ true → P r
each_set P cases (Array name text) set = cases.array name text
each_set P cases (Set name sub value) set = cases.set name sub value
each_set P cases (Elem name sub) set = cases.elem' name sub
each_set P cases (Show name) set = cases.show name
each_set P cases r set = absurd (false≢true set)
