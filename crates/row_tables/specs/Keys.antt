-- Keys of rows, in the order in which they are kept: by table, and then by id.
use Rattle.std.specs.Prelude.{ℕ, ℤ, Bool, ◌&&◌, ◌==◌}
use Rattle.std.specs.Ordering.{nat_cmp, int_cmp, int_eq, ordering_then}
use Rattle.std.specs.declared.cmp.Ordering.{Ordering}
use Rattle.std.proofs.Common.{ap}
use Rattle.std.proofs.lemmas.Map.Lookups.{CmpEqualImpliesEq, exact_pairs, exact_unsigned, exact_signed}
use Rattle.row_tables.specs.declared.row_key.RowKey.{RowKey}

abbrev pub key_cmp : RowKey → RowKey → Ordering
key_cmp a b = ordering_then (nat_cmp a.table b.table) (int_cmp a.id b.id)

abbrev pub row_key : (table : ℕ) → (id : ℤ) → RowKey
row_key t i = record { table = t; id = i }

abbrev pub same_key : RowKey → RowKey → Bool
same_key a b = (a.table == b.table) && int_eq a.id b.id

-- keys that compare as equal are one
pub exact_keys : CmpEqualImpliesEq key_cmp
exact_keys a b equal = ap (λ (p : ℕ × ℤ). row_key p.0 p.1) (exact_pairs nat_cmp int_cmp exact_unsigned exact_signed (a.table, a.id) (b.table, b.id) equal)
