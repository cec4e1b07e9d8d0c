-- What reading a line gives: the value that it spells, or where it is outside the grammar.
use Rattle.std.specs.Prelude.{ℕ, Option, Some, None}

-- A value, or the column of the first token that is not allowed after those before it. Columns are counted in bytes from 1, and
-- where a token is missing the column is the line's length plus 1.
pub data Reading (A : Type 0) : Type 0 where
  Read : A → Reading A
  BadAt : (column : ℕ) → Reading A

-- the value of a token that begins at a column, if it has one
abbrev pub read_at : {A : Type 0} → (column : ℕ) → Option A → Reading A
read_at column None = BadAt column
read_at column (Some a) = Read a

-- reading goes on with the value
abbrev pub read_and : {A B : Type 0} → (A → Reading B) → Reading A → Reading B
read_and more (Read a) = more a
read_and more (BadAt column) = BadAt column

-- the value, if one was read
abbrev pub value_of : {A : Type 0} → Reading A → Option A
value_of (Read a) = Some a
value_of (BadAt column) = None
