use Rattle.std.proofs.Common.{◌≡◌, ◌++◌, [], ◌∷◌, drop}
use Rattle.std.specs.Prelude.{flat_map}
use Rattle.lo_tool.specs.CleanUpTexts.{counted_line}
use Rattle.lo_tool.proofs.cleaning_text.say_each.Given as goal

abbrev pub invariant-loop-oid : goal.invariant-loop-oid
invariant-loop-oid l =
    l.text ++ flat_map (λ o. counted_line l.what o (10 ∷ [])) (drop l.oid-index l.oids)
    ≡ l.fn.text ++ flat_map (λ o. counted_line l.what o (10 ∷ [])) l.oids
