use Rattle.std.specs.Prelude.{ℕ, ◌+◌, ◌-◌, ◌==◌, List, [], ◌∷◌, ◌++◌, length, take, drop, replicate, Option, Some, None, option_map, if◌then◌else◌}
use Rattle.lo_model.specs.Edit.{Deed, Create, Write, Cut, Unlink, Put, Delete, Edit, deeds}

-- A large object is a list of bytes, or is not there. It is not there at first. A creation makes the empty list, a write
-- lays its bytes over the list from their place on, a cut gives a size, an unlink takes the object away.
-- (Manual, Large Objects: what was never written reads as zeros.)

-- the bytes at a size: the first ones, and zeros where there are too few
abbrev pub at_size : (size : ℕ) → List ℕ → List ℕ
at_size size bytes = take size bytes ++ replicate (size - length bytes) 0

-- the bytes with new ones over them from a place on, and zeros up to it where there are too few
abbrev pub laid_over : (at : ℕ) (new bytes : List ℕ) → List ℕ
laid_over at new bytes = at_size at bytes ++ new ++ drop (at + length new) bytes

-- an object after a deed. Deeds on other objects and on rows leave it, and so does a write or a cut where it is not there
abbrev pub object_after : (oid : ℕ) → Option (List ℕ) → Deed → Option (List ℕ)
object_after o old (Create p) = if p == o then Some [] else old
object_after o old (Write p at new) = if p == o then option_map (laid_over at new) old else old
object_after o old (Cut p size) = if p == o then option_map (at_size size) old else old
object_after o old (Unlink p) = if p == o then None else old
object_after o old (Put table id values stored) = old
object_after o old (Delete table id) = old

-- an object after deeds, in order
abbrev pub object_after_all : (oid : ℕ) → Option (List ℕ) → List Deed → Option (List ℕ)
object_after_all o old [] = old
object_after_all o old (d ∷ ds) = object_after_all o (object_after o old d) ds

-- the object that a view's edits fold to
abbrev pub object_in : (oid : ℕ) → List (Edit Deed) → Option (List ℕ)
object_in o edits = object_after_all o None (deeds edits)
