-- What literals give their columns, and what they are refused by.
use Rattle.std.proofs.Common.{◌≡◌, ◌≤◌, ◌<◌, ℕ, true, false, List, length, Option, Some, None, refl, ap, sym, ◌∙◌, arith, ◌⊎◌, inl, inr}
use Rattle.std.specs.Prelude.{◌↔◌, nat_lt, Result, Ok, Err, IfOk, IfErr}
use Rattle.std.proofs.lemmas.Bool.{lt-ltb}
use Rattle.std.proofs.lemmas.Bool.Decides.{nat_tests}
use Rattle.expanded_array.specs.Answer.{too_big}
use Rattle.expanded_array.specs.Array.{Array, IsHeld, limit, size_of}
use Rattle.expanded_array.specs.Flat.{IsFlat, flat_bytes}
use Rattle.expanded_array.specs.Read.{array_of_text, refusal_of_array, size_refusal, text_refusal}
use Rattle.expanded_array.specs.Spelling.{IsTextDenial, IsTooBig, Spells, malformed}
use Rattle.lo_base.specs.declared.column.Column.{Column}
use Rattle.lo_base.specs.declared.column.ColType.TheVariants as types
use Rattle.lo_base.specs.declared.refusal.Denied.{Denied}
use Rattle.lo_base.specs.declared.refusal.Denied.TheVariants.{By, NoMemory}
use Rattle.lo_base.specs.declared.refusal.Refusal.{Refusal}
use Rattle.lo_base.specs.declared.value.Literal.{Literal}
use Rattle.lo_base.specs.declared.value.Literal.TheVariants.{ArrayText}
use Rattle.lo_base.specs.declared.value.Value.TheVariants.{Bytes}
use Rattle.lo_machine.specs.Literals.{DeniesText, IsArrayFrom, IsValueOf}
use Rattle.lo_machine.specs.Values.{array_or_empty}
use Rattle.lo_machine.specs.declared.variables.Variables.{Variables}

-- ---- texts of arrays

no_array_read : (text : List ℕ) (o : Option Array) → ((a : Array) → o ≡ Some a → ⊥) → o ≡ None
no_array_read text None none = refl
no_array_read text (Some a) none = absurd (none a refl)

small_enough : (a : Array) → size_of a ≤ limit → size_refusal a ≡ None
small_enough a few = let no : nat_lt limit (size_of a) ≡ false = grind (arith, nat_tests) in rw no refl

too_many : (a : Array) → limit < size_of a → size_refusal a ≡ Some (too_big (size_of a))
too_many a many = let yes : nat_lt limit (size_of a) ≡ true = lt-ltb limit (size_of a) many in rw yes refl

-- what is computed of a text is what it spells
module _ (read : (text : List ℕ) (a : Array) → (array_of_text text ≡ Some a) ↔ Spells text a) (text : List ℕ) where
  pub text_granted : (a : Array) → Spells text a → IsHeld a → IsArrayFrom text a
  text_granted a s h = record { unrefused = ap refusal_of_array ((read text a).1 s) ∙ small_enough a h.few; is = (read text a).1 s }

  text_refused : (r : Refusal) → ((r ≡ malformed) × ((a : Array) → Spells text a → ⊥)) ⊎ IsTooBig text r → text_refusal text ≡ Some r
  text_refused r (inl bad) = ap refusal_of_array (no_array_read text (array_of_text text) (λ a e. bad.1 a ((read text a).0 e))) ∙ ap (λ x. Some x) (sym bad.0)
  text_refused r (inr big) = ap refusal_of_array ((read text big.array).1 big.spelled) ∙ too_many big.array big.many ∙ ap (λ x. Some x) (sym big.names)

  pub text_denied : (d : Denied) → IsTextDenial text d → DeniesText text d
  text_denied NoMemory h = tt
  text_denied (By r) h = text_refused r h

  pub text_judged : (result : Result Array Denied) → IfOk result (λ a. Spells text a) → IfOk result (λ a. IsHeld a) → IfErr result (IsTextDenial text) → IfOk result (IsArrayFrom text) × IfErr result (DeniesText text)
  text_judged (Ok a) s h d = (text_granted a s h, tt)
  text_judged (Err e) s h d = (tt, text_denied e d)

-- ---- an array's text in its column

module _ (own : Variables) (c : Column) (place : ℕ) (literal : Literal) (text : List ℕ) (kind : c.kind ≡ types.Int4Array) (is : literal ≡ ArrayText text) where
  pub array_given : (a : Array) (bytes : List ℕ) → IsArrayFrom text a → bytes ≡ flat_bytes a → IsFlat bytes → length bytes ≤ 4325392 → IsValueOf own c place literal (Bytes bytes)
  array_given a bytes from e flat few = record {
    unrefused = λ variables named. rw is (rw kind (rw from.unrefused refl));
    is = λ variables named. rw is (ap Bytes (e ∙ ap (λ o. flat_bytes (array_or_empty o)) (sym from.is)));
    fits = rw kind (omega arith);
    flat = rw kind flat;
    there = λ id. refl;
  }
