-- The forms of clean-ups, and which requests stand inside one.
use Rattle.std.specs.Prelude.{Bool, true, false, List, [], ◌∷◌, codes}
use Rattle.lo_base.specs.declared.request.Request.{Request}
use Rattle.lo_base.specs.declared.request.Request.TheVariants.{Vacuumlo, Step, Finish}
use Rattle.lo_script.specs.Reader.{Reader, Form, form, no_token, one_token, behind_word_or}
use Rattle.lo_script.specs.Token.{limit_of}

-- vacuumlo LIMIT, or vacuumlo -n LIMIT, which removes nothing
abbrev pub vacuumlo_of : Reader Request
vacuumlo_of = behind_word_or (codes "-n") (one_token limit_of (Vacuumlo true)) (one_token limit_of (Vacuumlo false))

-- the forms that stand inside a clean-up, and nowhere else
abbrev pub sweep_forms : List Form
sweep_forms = form (codes "step") (no_token Step) ∷ form (codes "finish") (no_token Finish) ∷ []

-- whether a request stands inside a clean-up, and nowhere else
abbrev pub is_of_sweep : Request → Bool
is_of_sweep Step = true
is_of_sweep Finish = true
is_of_sweep _ = false

-- whether a session is inside a clean-up behind the request
abbrev pub leaves_open : Request → Bool
leaves_open (Vacuumlo dry limit) = true
leaves_open Step = true
leaves_open _ = false

-- whether a session is inside a clean-up behind some lines, with what held before them
abbrev pub in_sweep_after : (in_sweep : Bool) → List Request → Bool
in_sweep_after in_sweep [] = in_sweep
in_sweep_after in_sweep (request ∷ lines) = in_sweep_after (leaves_open request) lines

-- whether a session is inside a clean-up behind all its lines so far
abbrev pub is_in_sweep : List Request → Bool
is_in_sweep lines = in_sweep_after false lines
