-- The lengths of values, of cells, and of a row's columns.
use Rattle.std.proofs.Common.{◌≡◌, ℕ, suc, ◌<◌, ◌≤◌, ◌^◌, List, [], ◌∷◌, length, map, get_or, Option, Some, None, refl, sym, ap, subst, ◌∙◌, arith}
use Rattle.std.specs.Prelude.{IfSome}
use Rattle.std.specs.List.{AllByRecursion}
use Rattle.std.proofs.lemmas.List.{get_or-map, length-map}
use Rattle.std.proofs.lemmas.List.Elements.{All-from_recursion}
use Rattle.lo_base.specs.declared.column.Column.{Column}
use Rattle.lo_base.specs.declared.column.ColType.{ColType}
use Rattle.lo_base.specs.declared.column.ColType.TheVariants as types
use Rattle.lo_base.specs.declared.value.Value.{Value}
use Rattle.lo_base.specs.declared.value.Value.TheVariants as values
use Rattle.toast_plan.specs.Columns.{HasLength, HasLengthIfThere, AreLengths}
use Rattle.toast_plan.specs.Row.{FitsType, FitColumns, value_length, value_lengths}
use Rattle.toast_plan.specs.Rounds.{AreShort}

pub length_same : (cs : List Column) (ns : List (Option ℕ)) → AreLengths cs ns → length ns ≡ length cs
length_same [] [] h = refl
length_same [] (n ∷ ns) h = absurd h
length_same (c ∷ cs) [] h = absurd h
length_same (c ∷ cs) (n ∷ ns) h = ap suc (length_same cs ns h.1)

is_short : (kind : ColType) (n : ℕ) → HasLength kind n → n ≤ 2 ^ 24
is_short types.Int8 n h = omega arith
is_short types.Oid n h = omega arith
is_short types.Lo n h = omega arith
is_short types.Bytea n h = omega arith
is_short types.Int4Array n h = omega arith

is_short_if_there : (kind : ColType) (n : Option ℕ) → HasLengthIfThere kind n → IfSome n (λ b. b ≤ 2 ^ 24)
is_short_if_there kind None h = tt
is_short_if_there kind (Some n) h = is_short kind n h

all_short : (cs : List Column) (ns : List (Option ℕ)) → AreLengths cs ns → AllByRecursion (λ n. IfSome n (λ b. b ≤ 2 ^ 24)) ns
all_short [] [] h = tt
all_short [] (n ∷ ns) h = absurd h
all_short (c ∷ cs) [] h = absurd h
all_short (c ∷ cs) (n ∷ ns) h = (is_short_if_there c.kind n h.0, all_short cs ns h.1)

pub are_short : (cs : List Column) (ns : List (Option ℕ)) → AreLengths cs ns → AreShort ns
are_short cs ns h = All-from_recursion (λ n. IfSome n (λ b. b ≤ 2 ^ 24)) ns (all_short cs ns h)

-- one of some lengths is short
pub short_at : {A : Type 0} (f : A → Option ℕ) (xs : List A) (i : ℕ) (x : A) → AreShort (map f xs) → x ≡ get_or xs i x → i < length xs → IfSome (f x) (λ b. b ≤ 2 ^ 24)
short_at f xs i x h is lt = subst (λ n. IfSome n (λ b. b ≤ 2 ^ 24)) (get_or-map f xs i x (f x) lt ∙ ap f (sym is)) (h i (f x) (omega (arith, length-map xs f)))

-- values that fit their columns have lengths of theirs
value_has_length : (kind : ColType) (v : Value) → FitsType kind v → HasLengthIfThere kind (value_length v)
value_has_length kind values.Null h = tt
value_has_length types.Int8 (values.Int z) h = refl
value_has_length types.Int8 (values.Oid n) h = absurd h
value_has_length types.Int8 (values.Bytes bytes) h = absurd h
value_has_length types.Oid (values.Int z) h = absurd h
value_has_length types.Oid (values.Oid n) h = refl
value_has_length types.Oid (values.Bytes bytes) h = absurd h
value_has_length types.Lo (values.Int z) h = absurd h
value_has_length types.Lo (values.Oid n) h = refl
value_has_length types.Lo (values.Bytes bytes) h = absurd h
value_has_length types.Bytea (values.Int z) h = absurd h
value_has_length types.Bytea (values.Oid n) h = absurd h
value_has_length types.Bytea (values.Bytes bytes) h = h
value_has_length types.Int4Array (values.Int z) h = absurd h
value_has_length types.Int4Array (values.Oid n) h = absurd h
value_has_length types.Int4Array (values.Bytes bytes) h = h

pub values_have_lengths : (cs : List Column) (vs : List Value) → FitColumns cs vs → AreLengths cs (value_lengths vs)
values_have_lengths [] [] h = tt
values_have_lengths [] (v ∷ vs) h = absurd h
values_have_lengths (c ∷ cs) [] h = absurd h
values_have_lengths (c ∷ cs) (v ∷ vs) h = (value_has_length c.kind v h.0, values_have_lengths cs vs h.1)
