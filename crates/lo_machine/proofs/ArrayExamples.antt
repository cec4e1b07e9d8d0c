-- Worked examples of the requests on array variables, each computed by the checker: a wrong one fails the crate.
use Rattle.std.proofs.Common.{◌≡◌, refl, ℕ, pos, negsuc, List, [], ◌∷◌, None, Some}
use Rattle.std.specs.Prelude.{codes}
use Rattle.std.specs.Fmt.{digits}
use Rattle.lo_base.specs.declared.refusal.Cause.TheVariants.{Failed, NoVariable, NoTable, NoColumn, WrongType, NoRow, BadArray, ArrayTooBig}
use Rattle.lo_base.specs.declared.reply.Reply.TheVariants.{Number, Nothing, Text, Row}
use Rattle.lo_base.specs.declared.request.Request.TheVariants.{Begin, Commit, Savepoint, RollbackTo, CreateTable, Insert, Update, Get, Array, Load, Set, Elem, Show}
use Rattle.lo_base.specs.declared.value.Cell.TheVariants as cells
use Rattle.lo_base.specs.declared.value.Literal.TheVariants as literals
use Rattle.lo_base.specs.declared.value.Value.TheVariants.{Int, Bytes}
use Rattle.lo_model.specs.Edit.{Deed, Put, deeds}
use Rattle.lo_machine.specs.Run.{end_from, start}
use Rattle.lo_machine.proofs.WordsOfExamples.{refused, number, ok, begun, rolled_back, saved, made, inserted, updated, id_column, number_column, array_column, Turn, by_a, by_b, Plays, programs_in, schedule_in}

-- an element set above the bounds and one below them, and the first one of an empty array
set_and_shown : Plays (
    by_a (Array (codes "v") (codes "{1,2}")) ok
    ∷ by_a (Set (codes "v") (pos 5) (Some (pos 5))) ok
    ∷ by_a (Show (codes "v")) (Text (codes "{1,2,NULL,NULL,5}"))
    ∷ by_a (Set (codes "v") (pos 0) (Some (pos 9))) ok
    ∷ by_a (Show (codes "v")) (Text (codes "[0:5]={9,1,2,NULL,NULL,5}"))
    ∷ by_a (Elem (codes "v") (pos 3)) Nothing
    ∷ by_a (Elem (codes "v") (pos 2)) (number 2)
    ∷ by_a (Elem (codes "v") (pos 0)) (number 9)
    ∷ by_a (Elem (codes "v") (negsuc 0)) Nothing
    ∷ by_a (Elem (codes "v") (pos 6)) Nothing
    ∷ by_a (Array (codes "w") (codes "{}")) ok
    ∷ by_a (Show (codes "w")) (Text (codes "{}"))
    ∷ by_a (Elem (codes "w") (pos 1)) Nothing
    ∷ by_a (Set (codes "w") (pos 5) (Some (pos 7))) ok
    ∷ by_a (Show (codes "w")) (Text (codes "[5:5]={7}"))
    ∷ by_a (Set (codes "w") (pos 5) None) ok
    ∷ by_a (Show (codes "w")) (Text (codes "[5:5]={NULL}"))
    ∷ by_a (Array (codes "x") (codes "{1,")) (refused BadArray 0)
    ∷ [])
unfolding digits
set_and_shown = refl

-- variables are a session's own; an array of a name takes the place of the old one, but a malformed one does not
own_variables : Plays (
    by_a (Array (codes "v") (codes "{1}")) ok
    ∷ by_b (Show (codes "v")) (refused NoVariable 0)
    ∷ by_b (Array (codes "v") (codes "{2}")) ok
    ∷ by_a (Array (codes "w") (codes "{3}")) ok
    ∷ by_a (Show (codes "v")) (Text (codes "{1}"))
    ∷ by_a (Array (codes "v") (codes "[0:0]={4}")) ok
    ∷ by_a (Array (codes "v") (codes "{5}}")) (refused BadArray 0)
    ∷ by_a (Show (codes "v")) (Text (codes "[0:0]={4}"))
    ∷ by_a (Show (codes "w")) (Text (codes "{3}"))
    ∷ by_b (Show (codes "v")) (Text (codes "{2}"))
    ∷ [])
unfolding digits
own_variables = refl

-- no rollback changes them back, and a refusal in a block leaves them
kept_by_a_rollback : Plays (
    by_a Begin begun
    ∷ by_a (Array (codes "v") (codes "{1}")) ok
    ∷ by_a (Savepoint (codes "s")) saved
    ∷ by_a (Set (codes "v") (pos 1) (Some (negsuc 7))) ok
    ∷ by_a (RollbackTo (codes "s")) rolled_back
    ∷ by_a (Elem (codes "v") (pos 1)) (Number (negsuc 7))
    ∷ by_a (Set (codes "w") (pos 1) None) (refused NoVariable 0)
    ∷ by_a (Elem (codes "v") (pos 1)) (refused Failed 0)
    ∷ by_a Commit rolled_back
    ∷ by_a (Show (codes "v")) (Text (codes "{-8}"))
    ∷ [])
unfolding digits
kept_by_a_rollback = refl

-- set: a variable that is not there, then the last subscript
sets_refused : Plays (
    by_a (Set (codes "v") (pos 2147483647) None) (refused NoVariable 0)
    ∷ by_a (Elem (codes "v") (pos 1)) (refused NoVariable 0)
    ∷ by_a (Show (codes "v")) (refused NoVariable 0)
    ∷ by_a (Array (codes "v") (codes "{}")) ok
    ∷ by_a (Set (codes "v") (pos 2147483647) None) (refused ArrayTooBig 1048577)
    ∷ by_a (Show (codes "v")) (Text (codes "{}"))
    ∷ by_a (Set (codes "v") (pos 2147483646) (Some (pos 1))) ok
    ∷ by_a (Show (codes "v")) (Text (codes "[2147483646:2147483646]={1}"))
    ∷ [])
unfolding digits
sets_refused = refl

-- load: the table, the row, the column, its type, a null value
abbrev loads : List Turn
loads =
    by_a (Load (codes "v") (codes "t") (pos 9) (codes "x")) (refused NoTable 0)
    ∷ by_a (CreateTable (codes "t") (id_column ∷ number_column (codes "n") ∷ array_column (codes "a") ∷ [])) made
    ∷ by_a (Insert (codes "t") (literals.Number (pos 1) ∷ literals.Null ∷ literals.Null ∷ [])) inserted
    ∷ by_a (Load (codes "v") (codes "t") (pos 9) (codes "x")) (refused NoRow 9)
    ∷ by_a (Load (codes "v") (codes "t") (pos 1) (codes "x")) (refused NoColumn 3)
    ∷ by_a (Load (codes "v") (codes "t") (pos 1) (codes "n")) (refused WrongType 3)
    ∷ by_a (Load (codes "v") (codes "t") (pos 1) (codes "id")) (refused WrongType 3)
    ∷ by_a (Load (codes "v") (codes "t") (pos 1) (codes "a")) (refused WrongType 3)
    ∷ by_a (Show (codes "v")) (refused NoVariable 0)
    ∷ by_a (Array (codes "w") (codes "{1,2,null,NULL,+5}")) ok
    ∷ by_a (Update (codes "t") (pos 1) (record { column = codes "a"; value = literals.Variable (codes "w") } ∷ [])) updated
    ∷ by_a (Set (codes "w") (pos 1) (Some (pos 7))) ok
    ∷ by_a (Load (codes "v") (codes "t") (pos 1) (codes "a")) ok
    ∷ by_a (Show (codes "v")) (Text (codes "{1,2,NULL,NULL,5}"))
    ∷ by_a (Show (codes "w")) (Text (codes "{7,2,NULL,NULL,5}"))
    ∷ by_a (Load (codes "w") (codes "t") (pos 1) (codes "a")) ok
    ∷ by_a (Show (codes "w")) (Text (codes "{1,2,NULL,NULL,5}"))
    ∷ by_a (Get (codes "t") (pos 1)) (Row (cells.Int (pos 1) ∷ cells.Null ∷ cells.Text (codes "{1,2,NULL,NULL,5}") ∷ []))
    ∷ []

loaded_or_refused : Plays loads
unfolding digits
loaded_or_refused = refl

-- a stored array's bytes
abbrev stored_arrays : List Deed → List (List ℕ)
stored_arrays [] = []
stored_arrays (Put table i (Int n ∷ other ∷ Bytes bytes ∷ []) stored ∷ ds) = bytes ∷ stored_arrays ds
stored_arrays (d ∷ ds) = stored_arrays ds

stored_flat : stored_arrays (deeds (end_from (programs_in loads) start (schedule_in loads)).state.database.edits)
    ≡ (1 ∷ 0 ∷ 0 ∷ 0 ∷ 32 ∷ 0 ∷ 0 ∷ 0 ∷ 23 ∷ 0 ∷ 0 ∷ 0 ∷ 5 ∷ 0 ∷ 0 ∷ 0 ∷ 1 ∷ 0 ∷ 0 ∷ 0
    ∷ 19 ∷ 0 ∷ 0 ∷ 0 ∷ 0 ∷ 0 ∷ 0 ∷ 0 ∷ 1 ∷ 0 ∷ 0 ∷ 0 ∷ 2 ∷ 0 ∷ 0 ∷ 0 ∷ 5 ∷ 0 ∷ 0 ∷ 0 ∷ [])
    ∷ []
stored_flat = refl
