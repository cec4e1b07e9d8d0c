use Rattle.std.specs.Prelude.{◌≡◌, ℕ, List, ◌++◌, take}

-- the new bytes are the old ones and a front of the text, of any length
pub record AddsFront (old new text : List ℕ) : Type 0 where
  pub count : ℕ
  pub front : new ≡ old ++ take count text
