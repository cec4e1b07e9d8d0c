-- The numbers of a pointer are read back.
use Rattle.std.proofs.Common.{◌≡◌, ℕ, List, take, drop, ap, ◌∙◌, arith}
use Rattle.std.specs.Int.{w32, from_le_bytes}
use Rattle.std.proofs.lemmas.Nat.{from_le_bytes-to_le_bytes_4}
use Rattle.toast_plan.specs.declared.pointer.Pointer.{Pointer}
use Rattle.toast_plan.specs.Pointer.{pointer_form, IsPointer}

pub length_again : (bytes : List ℕ) (p : Pointer) (n : ℕ) → IsPointer p → bytes ≡ pointer_form p → n ≡ from_le_bytes w32 (take 4 (drop 6 bytes)) → n ≡ p.length
length_again bytes p n is e read = read ∙ ap (λ (x : List ℕ). from_le_bytes w32 (take 4 (drop 6 x))) e ∙ from_le_bytes-to_le_bytes_4 p.length (omega (arith, is.length))

pub value_again : (bytes : List ℕ) (p : Pointer) (n : ℕ) → IsPointer p → bytes ≡ pointer_form p → n ≡ from_le_bytes w32 (take 4 (drop 10 bytes)) → n ≡ p.value
value_again bytes p n is e read = read ∙ ap (λ (x : List ℕ). from_le_bytes w32 (take 4 (drop 10 x))) e ∙ from_le_bytes-to_le_bytes_4 p.value is.value

pub table_again : (bytes : List ℕ) (p : Pointer) (n : ℕ) → IsPointer p → bytes ≡ pointer_form p → n ≡ from_le_bytes w32 (take 4 (drop 14 bytes)) → n ≡ p.table
table_again bytes p n is e read = read ∙ ap (λ (x : List ℕ). from_le_bytes w32 (take 4 (drop 14 x))) e ∙ from_le_bytes-to_le_bytes_4 p.table is.table

abbrev pub pointer_of : ℕ → ℕ → ℕ → Pointer
pointer_of n v t = record { length = n; value = v; table = t }

pub pointer_again : (bytes : List ℕ) (p : Pointer) (n v t : ℕ) → IsPointer p → bytes ≡ pointer_form p → n ≡ from_le_bytes w32 (take 4 (drop 6 bytes)) → v ≡ from_le_bytes w32 (take 4 (drop 10 bytes)) → t ≡ from_le_bytes w32 (take 4 (drop 14 bytes)) → pointer_of n v t ≡ p
pointer_again bytes p n v t is e rn rv rt =
    ap (λ (x : ℕ). pointer_of x v t) (length_again bytes p n is e rn) ∙ ap (λ (x : ℕ). pointer_of p.length x t) (value_again bytes p v is e rv) ∙ ap (λ (x : ℕ). pointer_of p.length p.value x) (table_again bytes p t is e rt)
