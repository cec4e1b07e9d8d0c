use Rattle.std.specs.Prelude.{ℕ, ℤ, List, [], ◌∷◌, Option, map}
use Rattle.lo_base.specs.declared.value.Value.{Value}
use Rattle.lo_model.specs.declared.owner.Owner.{Owner}

-- What an edit does. A write lays at least one byte over an object from a place on. A cut gives an object a size: it
-- takes bytes off the end or adds zeros there. A put gives a row its values, with one entry of `stored` a column.
pub data Deed : Type 0 where
  Create : (oid : ℕ) → Deed
  Write : (oid at : ℕ) (bytes : List ℕ) → Deed
  Cut : (oid size : ℕ) → Deed
  Unlink : (oid : ℕ) → Deed
  Put : (table : List ℕ) (id : ℤ) (values : List Value) (stored : List (Option ℕ)) → Deed
  Delete : (table : List ℕ) (id : ℤ) → Deed

-- An edit has the clock of the advance that made it, an owner, and a deed. Its owner changes as levels and transactions
-- end, its clock and its deed never do. What a store keeps in place of these deeds has deeds of its own type.
pub record Edit (D : Type 0) : Type 0 where
  pub clock : ℕ
  pub owner : Owner
  pub deed : D

-- the deeds of edits, in order
abbrev pub deeds : {D : Type 0} → List (Edit D) → List D
deeds {D} edits = map (λ (e : Edit D). e.deed) edits

-- the edits that do these deeds, in order, at one clock and of one owner
abbrev pub edits_by : {D : Type 0} → ℕ → Owner → List D → List (Edit D)
edits_by clock owner [] = []
edits_by clock owner (d ∷ ds) = record { clock = clock; owner = owner; deed = d } ∷ edits_by clock owner ds
