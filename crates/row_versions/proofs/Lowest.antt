-- The lowest other session with an open edit is told by who has open edits.
use Rattle.std.proofs.Common.{ℕ, ◌<◌, ◌≤◌, ◌≡◌, ◌≢◌, ◌⊎◌, inl, inr, min, Bool, true, false, List, [], ◌∷◌, Option, Some, None, refl, ap, sym, subst, ◌∙◌, arith}
use Rattle.std.specs.Prelude.{◌==◌, ◌||◌, if◌then◌else◌}
use Rattle.std.proofs.lemmas.Bool.{false≢true, cases_lt}
use Rattle.std.proofs.lemmas.Bool.Decides.{nat_tests}
use Rattle.lo_model.specs.declared.owner.Owner.{Owner}
use Rattle.lo_model.specs.declared.owner.Owner.TheVariants.{Running, Committed}
use Rattle.lo_model.specs.declared.viewer.Viewer.TheVariants.{Whole}
use Rattle.lo_model.specs.Edit.{Edit}
use Rattle.lo_model.specs.Touch.{lower_of, other_session}
use Rattle.row_versions.specs.Vacuum.{is_open_to, any_open}
use Rattle.row_versions.specs.Stands.{lowest_other}

-- the lowest number but one that passes a test, or none
abbrev pub IsLowest : (session : ℕ) → (ℕ → Bool) → Option ℕ → Type 0
IsLowest s test None = (t : ℕ) → t ≢ s → test t ≡ false
IsLowest s test (Some t) = (t ≢ s) × (test t ≡ true) × ((u : ℕ) → u ≢ s → u < t → test u ≡ false)

pub lowest_joined : (s : ℕ) (f g h : ℕ → Bool) → ((t : ℕ) → h t ≡ (f t || g t)) → (o p : Option ℕ) → IsLowest s f o → IsLowest s g p → IsLowest s h (lower_of o p)
lowest_joined s f g h both None None first second = λ t apart. both t ∙ rw (first t apart, second t apart) refl
lowest_joined s f g h both None (Some b) first second = (second.0, both b ∙ rw (first b second.0, second.1) refl, λ u apart less. both u ∙ rw (first u apart, second.2 u apart less) refl)
lowest_joined s f g h both (Some a) None first second = (first.0, both a ∙ (let here : f a ≡ true = first.1 in rw here refl), λ u apart less. both u ∙ rw (first.2 u apart less, second u apart) refl)
lowest_joined s f g h both (Some a) (Some b) first second = by_less (cases_lt a b)
  where
    by_less : (a < b) ⊎ (b ≤ a) → IsLowest s h (Some (min a b))
    by_less (inl less) =
        let least : a ≡ min a b = omega arith in
        subst (λ (n : ℕ). IsLowest s h (Some n)) least (first.0, both a ∙ (let here : f a ≡ true = first.1 in rw here refl), λ u apart under. both u ∙ rw (first.2 u apart under, second.2 u apart (omega (arith, under, less))) refl)
    by_less (inr more) =
        let least : b ≡ min a b = omega arith in
        subst (λ (n : ℕ). IsLowest s h (Some n)) least (second.0, both b ∙ by_first (f b) second.1, λ u apart under. both u ∙ rw (first.2 u apart (omega (arith, under, more)), second.2 u apart under) refl)
      where
        by_first : (c : Bool) → g b ≡ true → (c || g b) ≡ true
        by_first true is = refl
        by_first false is = is

one_lowest : (s : ℕ) (w : Owner) → IsLowest s (λ t. is_open_to (Whole t) w) (other_session s w)
one_lowest s (Committed c) = λ t apart. refl
one_lowest s (Running t l) = by_test (t == s) refl
  where
    by_test : (b : Bool) → (t == s) ≡ b → IsLowest s (λ u. is_open_to (Whole u) (Running t l)) (if b then None else Some t)
    by_test true is = λ u apart. grind (arith, nat_tests)
    by_test false is = ((λ equal. false≢true (grind (arith, nat_tests))), grind (arith, nat_tests), λ u apart less. grind (arith, nat_tests))

pub lowest_is : {D : Type 0} (s : ℕ) (es : List (Edit D)) → IsLowest s (λ t. any_open (Whole t) es) (lowest_other s es)
lowest_is s [] = λ t apart. refl
lowest_is s (e ∷ es) = lowest_joined s (λ t. is_open_to (Whole t) e.owner) (λ t. any_open (Whole t) es) (λ t. any_open (Whole t) (e ∷ es)) (λ t. refl) (other_session s e.owner) (lowest_other s es) (one_lowest s e.owner) (lowest_is s es)

pub lowest_same : (s : ℕ) (f g : ℕ → Bool) → ((t : ℕ) → f t ≡ g t) → (o p : Option ℕ) → IsLowest s f o → IsLowest s g p → o ≡ p
lowest_same s f g alike None None first second = refl
lowest_same s f g alike None (Some b) first second = absurd (false≢true (sym (first b second.0) ∙ (alike b ∙ second.1)))
lowest_same s f g alike (Some a) None first second = absurd (false≢true (sym (second a first.0) ∙ (sym (alike a) ∙ first.1)))
lowest_same s f g alike (Some a) (Some b) first second = by_less (cases_lt a b) (cases_lt b a)
  where
    by_less : (a < b) ⊎ (b ≤ a) → (b < a) ⊎ (a ≤ b) → Some a ≡ Some b
    by_less (inl less) more = absurd (false≢true (sym (second.2 a first.0 less) ∙ (sym (alike a) ∙ first.1)))
    by_less (inr more) (inl less) = absurd (false≢true (sym (first.2 b second.0 less) ∙ (alike b ∙ second.1)))
    by_less (inr more) (inr least) = let equal : a ≡ b = omega arith in ap (λ (n : ℕ). Some n) equal

-- So lists that are open for the same sessions have the same lowest other.
pub lowest_alike : {D E : Type 0} (s : ℕ) (xs : List (Edit D)) (ys : List (Edit E)) → ((t : ℕ) → any_open (Whole t) xs ≡ any_open (Whole t) ys) → lowest_other s xs ≡ lowest_other s ys
lowest_alike s xs ys alike = lowest_same s (λ t. any_open (Whole t) xs) (λ t. any_open (Whole t) ys) alike (lowest_other s xs) (lowest_other s ys) (lowest_is s xs) (lowest_is s ys)
