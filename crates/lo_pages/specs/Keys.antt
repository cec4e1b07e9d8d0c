-- Keys of pages, in the order in which they are kept.
use Rattle.std.specs.Prelude.{ℕ}
use Rattle.std.proofs.Common.{ap}
use Rattle.std.specs.Ordering.{nat_cmp, ordering_then}
use Rattle.std.specs.declared.cmp.Ordering.{Ordering}
use Rattle.std.proofs.lemmas.Map.Lookups.{CmpEqualImpliesEq, exact_pairs, exact_unsigned}
use Rattle.lo_pages.specs.declared.page_key.PageKey.{PageKey}

-- keys of pages by object, and then by number
abbrev pub key_cmp : PageKey → PageKey → Ordering
key_cmp a b = ordering_then (nat_cmp a.oid b.oid) (nat_cmp a.number b.number)

abbrev pub page_key : (oid number : ℕ) → PageKey
page_key o b = record { oid = o; number = b }

-- keys that compare as equal are one
pub exact_keys : CmpEqualImpliesEq key_cmp
exact_keys a b h = ap (λ (p : ℕ × ℕ). record { oid = p.0; number = p.1 }) (exact_pairs nat_cmp nat_cmp exact_unsigned exact_unsigned (a.oid, a.number) (b.oid, b.number) h)
