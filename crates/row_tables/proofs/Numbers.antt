-- Numbers of values outside: whether a row or a list of them has one.
use Rattle.std.proofs.Common.{◌≡◌, ℕ, ◌==◌, ◌||◌, List, [], ◌∷◌, refl, sym, ap, ◌∙◌, append-nil}
use Rattle.std.specs.List.{list_any}
use Rattle.std.proofs.lemmas.List.Folds.{list_any-append}
use Rattle.lo_base.specs.declared.value.Cell.{Cell}
use Rattle.row_tables.specs.Cells.{has_number, is_among, number_of, numbers_in}

pub has_more : (c : Cell) (cs : List Cell) (n : ℕ) → has_number (c ∷ cs) n ≡ (is_among (number_of c) n || has_number cs n)
has_more c cs n = list_any-append (λ m. m == n) (number_of c) (numbers_in cs)

has_one : (c : Cell) (n : ℕ) → has_number (c ∷ []) n ≡ is_among (number_of c) n
has_one c n = ap (λ ns. is_among ns n) (append-nil (number_of c))

-- a row has a number where one of its cells has it
pub any_has : (row : List Cell) (n : ℕ) → list_any (λ (c : Cell). has_number (c ∷ []) n) row ≡ has_number row n
any_has [] n = refl
any_has (c ∷ cs) n = ap (λ b. b || list_any (λ (d : Cell). has_number (d ∷ []) n) cs) (has_one c n) ∙ ap (λ b. is_among (number_of c) n || b) (any_has cs n) ∙ sym (has_more c cs n)
