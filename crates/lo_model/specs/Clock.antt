use Rattle.std.specs.Prelude.{ℕ, ◌+◌}

-- The clock of an advance is the number of advances made before it, plus 1. An advance is one session's next request, or
-- one act of its sweep, done whole. Clock 0 is the opening's.
abbrev pub clock_after : (advances : ℕ) → ℕ
clock_after advances = advances + 1
