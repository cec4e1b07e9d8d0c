-- What a reader answers.
use Rattle.std.specs.Prelude.{◌≡◌, ℕ, List, Result, IfOk, IfErr}
use Rattle.lo_script.specs.declared.error.LineError.{LineError}
use Rattle.lo_script.specs.declared.error.LineError.TheVariants as line
use Rattle.lo_script.specs.declared.error.ScriptError.{ScriptError}
use Rattle.lo_script.specs.declared.error.ScriptError.TheVariants.{Bad, NoMemory}
use Rattle.lo_script.specs.declared.script.Marking.{Marking}
use Rattle.lo_script.specs.declared.script.Marking.TheVariants.{Marked}
use Rattle.lo_script.specs.Reading.{Reading, Read, BadAt}
use Rattle.lo_script.specs.Script.{IsFirstBadBy}

-- the text is outside the grammar
abbrev pub IsBad : ScriptError → Type 0
IsBad (Bad start) = Unit {0}
IsBad NoMemory = ⊥

-- an error that names a place names the first line outside the grammar, and the column there
abbrev pub NamesFirstBadBy : Marking → (text : List ℕ) → ScriptError → Type 0
NamesFirstBadBy marking text (Bad place) = IsFirstBadBy marking text place.line place.column
NamesFirstBadBy marking text NoMemory = Unit {0}

abbrev pub NamesFirstBad : (text : List ℕ) → ScriptError → Type 0
NamesFirstBad text e = NamesFirstBadBy Marked text e

-- the error of a script whose line of that number was not read
abbrev pub in_line : (number : ℕ) → LineError → ScriptError
in_line number (line.Bad column) = Bad (record { line = number; column = column })
in_line number line.NoMemory = NoMemory

-- an error that names a column names the one of the reading
abbrev pub NamesColumn : {A : Type 0} → Reading A → LineError → Type 0
NamesColumn reading (line.Bad column) = reading ≡ BadAt column
NamesColumn reading line.NoMemory = Unit {0}

-- The answer is the value where one is read, and otherwise names the column of the first token that is not allowed. Want of
-- memory may come in either case.
pub record Reads {A : Type 0} (reading : Reading A) (result : Result A LineError) : Type 0 where
  pub ok : IfOk result (λ a. reading ≡ Read a)
  pub bad : IfErr result (NamesColumn reading)
