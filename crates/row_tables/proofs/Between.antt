-- The keys of one table's rows, between that of the lowest id and that of the highest.
use Rattle.std.proofs.Common.{◌≡◌, ◌<◌, ◌≤◌, ℕ, ℤ, pos, negsuc, ◌≤ℤ◌, ◌<ℤ◌, false, refl, ap, ◌∙◌, arith}
use Rattle.std.specs.Cmp.{int_ranks, nat_cmp_total, ranks}
use Rattle.std.specs.Int.{w64}
use Rattle.std.specs.Int.RustNames.{FitsSigned}
use Rattle.std.specs.Ordering.{MatchOrdering, int_cmp, is_gt, nat_cmp, ordering_then}
use Rattle.std.specs.declared.cmp.Ordering.{Ordering}
use Rattle.std.specs.declared.cmp.Ordering.TheVariants.{Less, Equal, Greater}
use Rattle.std.proofs.lemmas.Bool.{true≢false}
use Rattle.std.proofs.lemmas.Cmp.{tied_itself}
use Rattle.std.proofs.lemmas.Int.{ints}
use Rattle.row_versions.specs.Search.{IsBetween}
use Rattle.row_tables.specs.declared.row_key.RowKey.{RowKey}
use Rattle.row_tables.specs.Keys.{key_cmp, row_key}

abbrev pub lowest_id : ℤ
lowest_id = negsuc 9223372036854775807

abbrev pub highest_id : ℤ
highest_id = pos 9223372036854775807

from_lowest : (z : ℤ) → FitsSigned w64 z → lowest_id ≤ℤ z
from_lowest (pos n) fits = omega (arith, ints)
from_lowest (negsuc n) fits = omega (arith, ints, fits.sfits)

to_highest : (z : ℤ) → FitsSigned w64 z → z ≤ℤ highest_id
to_highest (pos n) fits = omega (arith, ints, fits.sfits)
to_highest (negsuc n) fits = omega (arith, ints)

not_above : (i j : ℤ) (r : Ordering) → MatchOrdering r (i <ℤ j) (i ≡ j) (j <ℤ i) → i ≤ℤ j → is_gt r ≡ false
not_above i j Less is le = refl
not_above i j Equal is le = refl
not_above i j Greater is le = absurd (let far : j <ℤ i = is in omega (arith, ints))

keys_rise : (n : ℕ) (i j : ℤ) → i ≤ℤ j → is_gt (key_cmp (row_key n i) (row_key n j)) ≡ false
keys_rise n i j le = ap is_gt (ap (λ (r : Ordering). ordering_then r (int_cmp i j)) (tied_itself nat_cmp_total n)) ∙ not_above i j (int_cmp i j) (int_ranks i j) le

pub key_between : (n : ℕ) (id : ℤ) → FitsSigned w64 id → IsBetween key_cmp (row_key n lowest_id) (row_key n highest_id) (row_key n id)
key_between n id fits = record { low = keys_rise n lowest_id id (from_lowest id fits); high = keys_rise n id highest_id (to_highest id fits) }

up_table : (a b : ℕ) (r o : Ordering) → MatchOrdering r (a < b) (a ≡ b) (b < a) → is_gt (ordering_then r o) ≡ false → a ≤ b
up_table a b Less o is le = omega (arith, is)
up_table a b Equal o is le = omega (arith, is)
up_table a b Greater o is le = absurd (true≢false le)

-- a key between two of one table is of that table
pub between_table : (n : ℕ) (i j : ℤ) (key : RowKey) → IsBetween key_cmp (row_key n i) (row_key n j) key → key ≡ row_key n key.id
between_table n i j key between =
    let up : n ≤ key.table = up_table n key.table (nat_cmp n key.table) (int_cmp i key.id) (ranks n key.table) between.low in
    let down : key.table ≤ n = up_table key.table n (nat_cmp key.table n) (int_cmp key.id j) (ranks key.table n) between.high in
    let same : key.table ≡ n = omega (arith, up, down) in
    ap (λ (t : ℕ). row_key t key.id) same
