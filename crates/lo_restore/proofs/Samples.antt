-- The tables of the tests keep the rules of an opening.
use Rattle.std.proofs.Common.{◌≡◌, ◌<◌, ◌≤◌, ◌+◌, ◌^◌, ℕ, zero, suc, ℤ, pos, negsuc, true, List, [], ◌∷◌, Option, Some, None, length, get_or, refl, ap, sym, subst, ◌∙◌, ◌++◌, ◌-◌, append_assoc, arith, lit≤}
use Rattle.std.specs.Prelude.{All, FitsSigned, IfSome, codes, nat_lt, replicate}
use Rattle.std.specs.Int.{w32}
use Rattle.std.proofs.lemmas.Bool.Decides.{nat_tests}
use Rattle.std.proofs.lemmas.List.Elements.{All-from_recursion, All-replicate}
use Rattle.std.proofs.lemmas.List.Sums.{AllPass-from_list_all}
use Rattle.std.proofs.lemmas.List.{length-replicate}
use Rattle.lo_base.specs.Name.{IsName, continues_name}
use Rattle.lo_base.specs.declared.value.Value.{Value}
use Rattle.lo_base.specs.declared.value.Value.TheVariants.{Null, Int, Bytes}
use Rattle.toast_plan.specs.Choice.{outside_of, planned_length}
use Rattle.toast_plan.specs.Columns.{IsTableColumns}
use Rattle.toast_plan.specs.Layout.{up_to_8}
use Rattle.toast_plan.specs.Row.{count_outside, value_lengths}
use Rattle.toast_plan.specs.Writing.{HasRange}
use Rattle.expanded_array.specs.Array.{Bounded}
use Rattle.expanded_array.specs.Flat.{IsFlat}
use Rattle.lo_opening.specs.Opening.{AreRows, AreTables, IsRowAt, IsTableAt, id_follows, row_outside}
use Rattle.lo_restore.specs.Tries.{body_column, first_table, id_column, long_row, pair, pair_column, pair_row, pair_rows, sample, second_table}

named_id : IsName (codes "id")
named_id = (refl, AllPass-from_list_all continues_name (codes "d") refl, omega arith)

named_body : IsName (codes "body")
named_body = (refl, AllPass-from_list_all continues_name (codes "ody") refl, omega arith)

first_columns : IsTableColumns (id_column ∷ body_column ∷ [])
first_columns = record {
  id_first = (refl, refl);
  few = omega arith;
  named = (named_id, (named_body, tt));
  distinct = (((λ same. absurd (shorter same)), tt), (tt, tt));
  fixed = (refl, (tt, tt));
}
  where
    shorter : codes "body" ≡ codes "id" → ⊥
    shorter same = absurd (omega (arith, ap length same))

named_pair : IsName (codes "pair")
named_pair = (refl, AllPass-from_list_all continues_name (codes "air") refl, omega arith)

second_columns : IsTableColumns (id_column ∷ body_column ∷ pair_column ∷ [])
second_columns = record {
  id_first = (refl, refl);
  few = omega arith;
  named = (named_id, (named_body, (named_pair, tt)));
  distinct = (
    ((λ same. absurd (body_id same)), ((λ same. absurd (pair_id same)), tt)),
    (((λ same. absurd (pair_body same)), tt), (tt, tt)),
  );
  fixed = (refl, (tt, (tt, tt)));
}
  where
    body_id : codes "body" ≡ codes "id" → ⊥
    body_id same = absurd (omega (arith, ap length same))

    pair_id : codes "pair" ≡ codes "id" → ⊥
    pair_id same = absurd (omega (arith, ap length same))

    pair_body : codes "pair" ≡ codes "body" → ⊥
    pair_body same = absurd (omega (arith, ap (λ (name : List ℕ). get_or name 0 0) same))

-- the rows

two_ranges : (z : ℤ) (v : Value) → HasRange (Int z) → HasRange v → All HasRange (Int z ∷ v ∷ [])
two_ranges z v first second = All-from_recursion HasRange (Int z ∷ v ∷ []) (first, (second, tt))

null_row : IsRowAt (id_column ∷ body_column ∷ []) 1 1 (Int (pos 0) ∷ Null ∷ [])
null_row = record {
  row = record {
    columns_are = first_columns;
    values_are = record { id = refl; fit = (tt, (tt, tt)) };
    range = two_ranges (pos 0) Null (record { sfits = omega arith }) tt;
    fits = lit≤ tt;
    numbers = lit≤ tt;
    table_is = omega arith;
  };
  arrays = (tt, (tt, tt));
}

short_row : IsRowAt (id_column ∷ body_column ∷ []) 1 1 (Int (pos 1) ∷ Bytes (replicate 10 65) ∷ [])
short_row = record {
  row = record {
    columns_are = first_columns;
    values_are = record { id = refl; fit = (tt, (lit≤ tt, tt)) };
    range = two_ranges (pos 1) (Bytes (replicate 10 65)) (record { sfits = omega arith }) (All-replicate (λ b. b < 256) 10 65 (omega arith));
    fits = lit≤ tt;
    numbers = lit≤ tt;
    table_is = omega arith;
  };
  arrays = (tt, (tt, tt));
}

first_is : IsTableAt 1 1 first_table
first_is = record {
  name = (refl, AllPass-from_list_all continues_name [] refl, omega arith);
  columns = first_columns;
  rows = (null_row, refl, (short_row, refl, tt));
  few_rows = omega arith;
}

-- a row with a value outside

three_ranges : (z : ℤ) (v w : Value) → HasRange (Int z) → HasRange v → HasRange w → All HasRange (Int z ∷ v ∷ w ∷ [])
three_ranges z v w first second third = All-from_recursion HasRange (Int z ∷ v ∷ w ∷ []) (first, (second, (third, tt)))

long_lengths : value_lengths long_row ≡ Some 8 ∷ Some 5000 ∷ None ∷ []
long_lengths = ap (λ n. Some 8 ∷ Some n ∷ None ∷ []) (length-replicate {A = ℕ} 5000 66)

long_is : IsRowAt second_table.columns 2 1 long_row
long_is = record {
  row = record {
    columns_are = second_columns;
    values_are = record { id = refl; fit = (tt, (short, (tt, tt))) };
    range = three_ranges (pos 0) (Bytes (replicate 5000 66)) Null (record { sfits = omega arith }) (All-replicate (λ b. b < 256) 5000 66 (omega arith)) tt;
    fits = subst (λ (lengths : List (Option ℕ)). up_to_8 (planned_length second_table.columns lengths) ≤ 8160) (sym long_lengths) (lit≤ tt);
    numbers = subst (λ (lengths : List (Option ℕ)). 1 + count_outside (outside_of second_table.columns lengths) ≤ 2 ^ 32) (sym long_lengths) (lit≤ tt);
    table_is = omega arith;
  };
  arrays = (tt, (tt, (tt, tt)));
}
  where
    short : length {A = ℕ} (replicate 5000 66) ≤ 16777216
    short = let many = length-replicate {A = ℕ} 5000 66 in omega (arith, many)

long_outside : row_outside second_table.columns long_row ≡ 1
long_outside = ap (λ lengths. count_outside (outside_of second_table.columns lengths)) long_lengths

-- rows with an array

pair_flat : IsFlat pair
pair_flat = record {
  array = Bounded (pos 1) (Some (pos 7) ∷ Some (negsuc 0) ∷ []);
  held = record {
    array = record {
      some = omega arith;
      int4 = record { sfits = omega arith };
      last = omega arith;
      numbers = All-from_recursion (λ e. IfSome e (FitsSigned w32)) (Some (pos 7) ∷ Some (negsuc 0) ∷ []) (record { sfits = omega arith }, (record { sfits = omega arith }, tt));
    };
    few = omega arith;
  };
  bytes_are = refl;
}

pair_bytes : All (λ b. b < 256) pair
pair_bytes k d within = let low = AllPass-from_list_all (λ b. nat_lt b 256) pair refl k d within in grind (arith, nat_tests, low)

pair_is : (id : ℕ) → id < 2 ^ 32 → IsRowAt second_table.columns 2 2 (pair_row id)
pair_is id small = record {
  row = record {
    columns_are = second_columns;
    values_are = record { id = refl; fit = (tt, (tt, (lit≤ tt, tt))) };
    range = three_ranges (pos id) Null (Bytes pair) (record { sfits = omega (arith, small) }) tt pair_bytes;
    fits = lit≤ tt;
    numbers = lit≤ tt;
    table_is = omega arith;
  };
  arrays = (tt, (tt, (pair_flat, tt)));
}

pairs_are : (first count : ℕ) (last : Option ℤ) → id_follows last (pos first) ≡ true → first + count < 2 ^ 32 → AreRows second_table.columns 2 last 2 (pair_rows first count)
pairs_are first zero last follows few = tt
pairs_are first (suc count) last follows few = (
  pair_is first (omega (arith, few)),
  follows,
  pairs_are (first + 1) count (Some (pos first)) (grind (arith, nat_tests)) (omega (arith, few)),
)

second_is : IsTableAt 2 1 second_table
second_is = record {
  name = (refl, AllPass-from_list_all continues_name (codes "a") refl, omega arith);
  columns = second_columns;
  rows = (long_is, refl, subst (λ (outside : ℕ). AreRows second_table.columns 2 (Some (pos 0)) (1 + outside) (pair_rows 1 300)) (sym long_outside) (pairs_are 1 300 (Some (pos 0)) refl (omega arith)));
  few_rows = omega (arith, pairs_many 1 300);
}
  where
    pairs_many : (first count : ℕ) → length (pair_rows first count) ≡ count
    pairs_many first zero = refl
    pairs_many first (suc count) = let more = pairs_many (first + 1) count in omega (arith, more)

pub sample_rules : AreTables None 1 1 sample
sample_rules = (first_is, tt, (second_is, refl, tt))

-- one row more of those that follow

pub one_more : (rows : List (List Value)) (id : ℕ) → id < 301 → (rows ++ pair_row id ∷ []) ++ pair_rows (id + 1) (301 - (id + 1)) ≡ rows ++ pair_rows id (301 - id)
one_more rows id low =
    let next : suc (301 - (id + 1)) ≡ 301 - id = omega (arith, low) in
    append_assoc rows (pair_row id ∷ []) (pair_rows (id + 1) (301 - (id + 1)))
    ∙ ap (λ (count : ℕ). rows ++ pair_rows id count) next
