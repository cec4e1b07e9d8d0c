use Rattle.std.proofs.Common.{◌≢◌, length, refl, rules}
use Rattle.lo_script.proofs.ValueTokens.{array_text_tests}
use Rattle.lo_script.proofs.value_token.is_array_text.Goals as goal

pub returns-then-not-is_empty : goal.returns-then-not-is_empty
returns-then-not-is_empty c =
    let some : length c.args.text.now ≢ 0 = search rules in
    rw (c.has_end.ensures, array_text_tests c.args.text.now some) refl
