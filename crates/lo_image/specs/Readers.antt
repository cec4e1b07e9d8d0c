-- Reading fields from the left: a value and the bytes behind it, or the first field that does not hold. Its place is told
-- by the number of bytes from there to the end.
use Rattle.std.specs.Prelude.{◌≡◌, ℕ, zero, suc, nat_lt, ◌==◌, bytes_eq, if◌then◌else◌, List, [], ◌∷◌, ◌++◌, length, take, drop, Option, Some, None, Result, Ok, Err}
use Rattle.std.specs.Int.{Width, byte_len, from_le_bytes}
use Rattle.lo_image.specs.declared.fault.Defect.{Defect}
use Rattle.lo_image.specs.declared.fault.Defect.TheVariants.{Short}
use Rattle.lo_image.specs.declared.fault.Fault.{Fault}
use Rattle.lo_image.specs.declared.fault.Stop.{Stop}
use Rattle.lo_image.specs.declared.fault.Stop.TheVariants as stops

infixl 10 ◌>>=◌
abbrev pub ◌>>=◌ : {A B : Type 0} → Result A Fault → (A → Result B Fault) → Result B Fault
(Ok x) >>= f = f x
(Err e) >>= f = Err e

-- what a function returned, seen by `view`, is what reading gives, unless there was no memory
abbrev pub Fails : {Y : Type 0} → Stop → Result Y Fault → Type 0
Fails stops.Memory read = Unit {0}
Fails (stops.At f) read = read ≡ Err f

abbrev pub Gives : {X Y : Type 0} → (X → Y) → Result X Stop → Result Y Fault → Type 0
Gives view (Ok x) read = read ≡ Ok (view x)
Gives view (Err e) read = Fails e read

-- a field that fails, at the bytes from its first on
abbrev pub fails : {A : Type 0} → Defect → List ℕ → Result A Fault
fails kind bytes = Err (record { left = length bytes; kind = kind })

-- ---- fields

-- n bytes
abbrev pub piece : ℕ → List ℕ → Result (List ℕ × List ℕ) Fault
piece n bytes = if nat_lt (length bytes) n then fails Short bytes else Ok (take n bytes, drop n bytes)

abbrev pub number : Width → List ℕ → Result (ℕ × List ℕ) Fault
number w bytes = piece (byte_len w) bytes >>= λ x. Ok (from_le_bytes w x.0, x.1)

abbrev pub judged : {A : Type 0} → Option Defect → List ℕ → A → Result A Fault
judged None bytes x = Ok x
judged (Some kind) bytes x = fails kind bytes

-- a field on which a judgement is passed, once its bytes are there
abbrev pub tested : {A : Type 0} → (A → Option Defect) → (List ℕ → Result (A × List ℕ) Fault) → List ℕ → Result (A × List ℕ) Fault
tested judge r bytes = r bytes >>= λ x. judged (judge x.0) bytes x

-- a field that the fields before it fix: the bytes behind it
abbrev pub fixed : Width → ℕ → Defect → List ℕ → Result (List ℕ) Fault
fixed w n kind bytes = number w bytes >>= λ x. if x.0 == n then Ok x.1 else fails kind bytes

abbrev pub fixed_piece : List ℕ → Defect → List ℕ → Result (List ℕ) Fault
fixed_piece text kind bytes = piece (length text) bytes >>= λ x. if bytes_eq x.0 text then Ok x.1 else fails kind bytes

-- ---- several fields

-- a fixed field, and then another
abbrev pub behind : {A : Type 0} → (List ℕ → Result (List ℕ) Fault) → (List ℕ → Result (A × List ℕ) Fault) → List ℕ → Result (A × List ℕ) Fault
behind f r bytes = f bytes >>= r

-- a field, and another that may depend on it
abbrev pub both : {A B : Type 0} → (List ℕ → Result (A × List ℕ) Fault) → (A → List ℕ → Result (B × List ℕ) Fault) → List ℕ → Result ((A × B) × List ℕ) Fault
both r k bytes = r bytes >>= λ x. k x.0 x.1 >>= λ y. Ok ((x.0, y.0), y.1)

-- the value made of what was read
abbrev pub made : {A B : Type 0} → (A → B) → (List ℕ → Result (A × List ℕ) Fault) → List ℕ → Result (B × List ℕ) Fault
made f r bytes = r bytes >>= λ x. Ok (f x.0, x.1)

-- so many records, each after what those before it leave
unfoldable pub many : {A S : Type 0} → (S → List ℕ → Result (A × List ℕ) Fault) → (S → A → S) → S → ℕ → List ℕ → Result (List A × List ℕ) Fault
many r next s zero bytes = Ok ([], bytes)
many r next s (suc n) bytes = r s bytes >>= λ x. many r next (next s x.0) n x.1 >>= λ y. Ok (x.0 ∷ y.0, y.1)

-- one value for each item of a list that is known, each after what those before it leave
unfoldable pub each : {A B S : Type 0} → (S → A → List ℕ → Result (B × List ℕ) Fault) → (S → A → B → S) → S → List A → List ℕ → Result (List B × List ℕ) Fault
each r next s [] bytes = Ok ([], bytes)
each r next s (a ∷ items) bytes = r s a bytes >>= λ x. each r next (next s a x.0) items x.1 >>= λ y. Ok (x.0 ∷ y.0, y.1)

-- what was read before, and what is still read
abbrev pub with_front : {A : Type 0} → List A → Result (List A × List ℕ) Fault → Result (List A × List ℕ) Fault
with_front front read = read >>= λ x. Ok (front ++ x.0, x.1)
