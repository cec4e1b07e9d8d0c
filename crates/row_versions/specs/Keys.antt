-- Keys of two numbers, which are compared by the first one and then by the second.
use Rattle.std.specs.Prelude.{ℕ, ◌≡◌}
use Rattle.std.specs.Ordering.{ordering_then, nat_cmp}
use Rattle.std.specs.declared.cmp.Ordering.TheVariants.{Equal}
use Rattle.std.proofs.Common.{ap, sym, ◌∙◌}
use Rattle.std.proofs.lemmas.Map.Lookups.{exact_pairs, exact_unsigned}

-- keys that compare as equal are one, where a key is made of its two numbers
pub exact_by_two : {K : Type 0} (first second : K → ℕ) (make : ℕ × ℕ → K) → ((a : K) → make (first a, second a) ≡ a) → (a b : K) → ordering_then (nat_cmp (first a) (first b)) (nat_cmp (second a) (second b)) ≡ Equal → a ≡ b
exact_by_two first second make made a b equal = sym (made a) ∙ (ap make (exact_pairs nat_cmp nat_cmp exact_unsigned exact_unsigned (first a, second a) (first b, second b) equal) ∙ made b)
