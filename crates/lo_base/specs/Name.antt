use Rattle.std.specs.Prelude.{◌≡◌, ◌==◌, ◌≤◌, true, ℕ, Bool, ◌||◌, ◌&&◌, nat_le, List, [], ◌∷◌, length}
use Rattle.std.specs.List.{AllPass}

-- a small letter or `_`
abbrev pub starts_name : ℕ → Bool
starts_name b = (nat_le 97 b && nat_le b 122) || (b == 95)

-- a small letter, `_` or a digit
abbrev pub continues_name : ℕ → Bool
continues_name b = starts_name b || (nat_le 48 b && nat_le b 57)

-- a name: 1 to 63 bytes, the first a small letter or `_`, the others these or digits. 63 bytes is PostgreSQL's limit
-- on an identifier (manual, SQL Syntax, Identifiers and Key Words)
abbrev pub IsName : List ℕ → Type 0
IsName [] = ⊥
IsName (first ∷ others) = (starts_name first ≡ true) × AllPass continues_name others × (length others ≤ 62)
