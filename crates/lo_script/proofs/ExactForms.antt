-- A form is exact: each request that it gives is spelled by the tokens that it was read from.
use Rattle.std.proofs.Common.{◌≡◌, ℕ, Bool, false, List, [], ◌∷◌, ◌++◌}
use Rattle.lo_base.specs.declared.request.Request.{Request}
use Rattle.lo_script.specs.Reader.{Form}
use Rattle.lo_script.specs.Spelling.{SpellRest, Spells, SpellsServed, printed}
use Rattle.lo_script.specs.SweepForm.{is_of_sweep}
use Rattle.lo_script.specs.Token.{TokenList}
use Rattle.lo_script.proofs.Readers.{Finds}

-- a request that stands inside clean-ups or outside, with the tokens of its printed form, the first of them apart
abbrev pub IsPrintedIn : (in_sweep : Bool) → (word : List ℕ) → (arguments : TokenList) → Request → Type 0
IsPrintedIn in_sweep word arguments r = (is_of_sweep r ≡ in_sweep) × SpellsServed r (word ∷ arguments)

-- each request that the form gives is spelled so
abbrev pub IsExactIn : (in_sweep : Bool) → Form → Type 0
IsExactIn in_sweep f = Finds f.request (IsPrintedIn in_sweep f.word)

-- outside
abbrev pub IsPrinted : (word : List ℕ) → (arguments : TokenList) → Request → Type 0
IsPrinted word arguments r = IsPrintedIn false word arguments r

abbrev pub IsExact : Form → Type 0
IsExact f = IsExactIn false f

-- tokens that can be written in one way alone
pub plainly : {r : Request} {tokens : TokenList} → SpellRest r [] → tokens ≡ printed r ++ [] → Spells r tokens
plainly free is = record { rest = []; is = is; spell_rest = free }

-- the facts of a table's forms are listed in the table's order
infixr 20 ◌also◌
pub ◌also◌ : {P Q : Type 0} → P → Q → P × Q
p also q = (p, q)
