use Rattle.std.specs.Prelude.{ℕ, ℤ, List, [], ◌++◌, Option, Some, None}
use Rattle.std.specs.Fmt.{signed_decimal}
use Rattle.lo_base.specs.declared.refusal.Refusal.{Refusal}
use Rattle.lo_base.specs.Cause.{opening_of, ending_of}

-- a text's number in decimal and what follows it
abbrev pub numbered : ℤ → Option (List ℕ) → List ℕ
numbered n None = []
numbered n (Some ending) = signed_decimal n ++ ending

-- a refusal's text: that of its cause, with the subject in the place of its number
abbrev pub text_of : Refusal → List ℕ
text_of r = opening_of r.cause ++ numbered r.subject (ending_of r.cause)
