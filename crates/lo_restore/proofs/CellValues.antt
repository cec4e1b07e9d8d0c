-- Values and the cells that have them: one tells the other, and cells are turned one after another.
use Rattle.std.proofs.Common.{◌≡◌, ◌<◌, ℕ, zero, suc, List, [], ◌∷◌, ◌++◌, length, refl, ap, ap₂, sym, ◌∙◌, arith, append-nil, append_assoc}
use Rattle.std.specs.Prelude.{All, slice_index_or}
use Rattle.std.specs.List.{AllByRecursion}
use Rattle.std.proofs.lemmas.List.Elements.{All-append, All-nil}
use Rattle.lo_base.specs.declared.value.Cell.{Cell}
use Rattle.lo_base.specs.declared.value.Value.{Value}
use Rattle.lo_base.specs.declared.value.Value.TheVariants.{Null, Int, Oid, Bytes}
use Rattle.toast_plan.specs.Writing.{HasRange}
use Rattle.row_tables.specs.Values.{cell_of, cells_of}
use Rattle.lo_restore.specs.TablesSaved.{HasValueIn}

-- a cell tells its value

one_value : (v w : Value) → cell_of v ≡ cell_of w → v ≡ w
one_value Null Null same = refl
one_value Null (Int n) same = cc
one_value Null (Oid n) same = cc
one_value Null (Bytes b) same = cc
one_value (Int n) Null same = cc
one_value (Int n) (Int m) same = cc
one_value (Int n) (Oid m) same = cc
one_value (Int n) (Bytes b) same = cc
one_value (Oid n) Null same = cc
one_value (Oid n) (Int m) same = cc
one_value (Oid n) (Oid m) same = cc
one_value (Oid n) (Bytes b) same = cc
one_value (Bytes b) Null same = cc
one_value (Bytes b) (Int m) same = cc
one_value (Bytes b) (Oid m) same = cc
one_value (Bytes b) (Bytes d) same = cc

first_same : {X : Type 0} (x y : X) (xs ys : List X) → x ∷ xs ≡ y ∷ ys → x ≡ y
first_same x y xs ys same = cc

rest_same : {X : Type 0} (x y : X) (xs ys : List X) → x ∷ xs ≡ y ∷ ys → xs ≡ ys
rest_same x y xs ys same = cc

none_one : {X : Type 0} (x : X) (xs : List X) → [] ≡ x ∷ xs → ⊥
none_one x xs same = cc

pub one_row : (vs ws : List Value) → cells_of vs ≡ cells_of ws → vs ≡ ws
one_row [] [] same = refl
one_row [] (w ∷ ws) same = absurd (none_one (cell_of w) (cells_of ws) same)
one_row (v ∷ vs) [] same = absurd (none_one (cell_of v) (cells_of vs) (sym same))
one_row (v ∷ vs) (w ∷ ws) same = ap₂ (λ x xs. x ∷ xs) (one_value v w (first_same (cell_of v) (cell_of w) (cells_of vs) (cells_of ws) same)) (one_row vs ws (rest_same (cell_of v) (cell_of w) (cells_of vs) (cells_of ws) same))

has_value : (v : Value) → HasValueIn (cell_of v)
has_value Null = tt
has_value (Int n) = tt
has_value (Oid n) = tt
has_value (Bytes bytes) = tt

pub have_values : (vs : List Value) → AllByRecursion HasValueIn (cells_of vs)
have_values [] = tt
have_values (v ∷ vs) = (has_value v, have_values vs)

-- ---- cells that are turned

pub record Turning (cells left : List Cell) (row : List Value) : Type 0 where
  pub all : cells_of row ++ left ≡ cells
  pub each : AllByRecursion HasValueIn left
  pub range : All HasRange row

pub turning_begins : (cells : List Cell) → AllByRecursion HasValueIn cells → Turning cells cells []
turning_begins cells each = record { all = refl; each = each; range = All-nil HasRange }

cells_both : (vs ws : List Value) → cells_of (vs ++ ws) ≡ cells_of vs ++ cells_of ws
cells_both [] ws = refl
cells_both (v ∷ vs) ws = ap (λ (cs : List Cell). cell_of v ∷ cs) (cells_both vs ws)

one_ranged : (v : Value) → HasRange v → All HasRange (v ∷ [])
one_ranged v is k w within = by k within
  where
    by : (i : ℕ) → i < 1 → HasRange (slice_index_or (v ∷ []) i w)
    by zero low = is
    by (suc i) low = absurd (omega (arith, low))

pub turning_next : (cells : List Cell) (cell : Cell) (left : List Cell) (row : List Value) (v : Value) → Turning cells (cell ∷ left) row → cell_of v ≡ cell → HasRange v → Turning cells left (row ++ v ∷ [])
turning_next cells cell left row v turning is range = record {
  all = ap (λ (cs : List Cell). cs ++ left) (cells_both row (v ∷ []))
      ∙ (append_assoc (cells_of row) (cell_of v ∷ []) left ∙ (ap (λ (c : Cell). cells_of row ++ (c ∷ left)) is ∙ turning.all));
  each = turning.each.1;
  range = All-append HasRange row (v ∷ []) turning.range (one_ranged v range);
}

pub nothing_left : (xs : List Cell) → length xs ≡ 0 → xs ≡ []
nothing_left [] none = refl
nothing_left (x ∷ xs) none = absurd (omega arith)

pub turning_ends : (cells left : List Cell) (row : List Value) → Turning cells left row → left ≡ [] → cells_of row ≡ cells
turning_ends cells left row turning none = sym (append-nil (cells_of row)) ∙ (ap (λ (cs : List Cell). cells_of row ++ cs) (sym none) ∙ turning.all)
