-- What the row of `array` says of a text, told by what the text spells.
use Rattle.std.proofs.Common.{◌≡◌, ℕ, true, false, List, Option, Some, None, inl, inr, refl, ap, sym, ◌∙◌, arith}
use Rattle.std.specs.Prelude.{nat_lt}
use Rattle.std.proofs.lemmas.Bool.Decides.{nat_tests}
use Rattle.expanded_array.proofs.TextLaws.{text_read, text_shown}
use Rattle.expanded_array.specs.Answer.{too_big}
use Rattle.expanded_array.specs.Array.{Array, IsHeld, limit, size_of}
use Rattle.expanded_array.specs.Read.{array_of_text, refusal_of_array, size_refusal, text_refusal}
use Rattle.expanded_array.specs.Spelling.{IsTextDenial, IsTooBig, Spells}
use Rattle.lo_base.specs.declared.refusal.Denied.TheVariants.{By}
use Rattle.lo_base.specs.declared.refusal.Refusal.{Refusal}

pub text_fits : (text : List ℕ) (a : Array) → Spells text a → IsHeld a → text_refusal text ≡ None
text_fits text a spelled held = ap refusal_of_array (text_read text a spelled) ∙ few
  where
    few : size_refusal a ≡ None
    few = let most = held.few in let test : nat_lt limit (size_of a) ≡ false = grind (arith, nat_tests, most) in rw test refl

too_many : (text : List ℕ) (r : Refusal) → IsTooBig text r → text_refusal text ≡ Some r
too_many text r big = ap refusal_of_array (text_read text big.array big.spelled) ∙ (many ∙ ap Some (sym big.names))
  where
    many : size_refusal big.array ≡ Some (too_big (size_of big.array))
    many = let above = big.many in let test : nat_lt limit (size_of big.array) ≡ true = grind (arith, nat_tests, above) in rw test refl

pub text_denied : (text : List ℕ) (r : Refusal) → IsTextDenial text (By r) → text_refusal text ≡ Some r
text_denied text r (inl bad) = by (array_of_text text) refl
  where
    by : (found : Option Array) → array_of_text text ≡ found → text_refusal text ≡ Some r
    by None is = ap refusal_of_array is ∙ ap Some (sym bad.0)
    by (Some a) is = absurd (bad.1 a (text_shown text a is))
text_denied text r (inr big) = too_many text r big
