use Rattle.std.proofs.Common.{◌≡◌, ◌<◌, ◌≤◌, ◌+◌, ◌-◌, ℕ, List, Some, None, true, false, ap, sym, ◌∙◌, length, drop, map, arith}
use Rattle.std.specs.Prelude.{option_map, string_bytes}
use Rattle.std.proofs.lemmas.List.{length-map}
use Rattle.lo_tool.specs.Command.{clean_up_command, command_meant}
use Rattle.lo_tool.proofs.CleanUpOptions.{no_option, option_read, text_at}
use Rattle.lo_tool.proofs.words.clean_up_command.Goals.{then-takes_next, else-takes_next}
use Rattle.lo_tool.proofs.words.clean_up_command.Goals as goal

pub returns-in_err-options-clause-is : goal.returns-in_err-options-clause-is
returns-in_err-options-clause-is c =
    let arguments = c.args.arguments.now in
    let words : List (List ℕ) = map string_bytes arguments in
    let at : ℕ = c.loop-at.at in
    let within : at + 1 < length words = omega (arith, c.loop-at-test.true, length-map arguments string_bytes) in
    let word_is = text_at string_bytes arguments at c.index-arguments-at.result c.as_str-word.result.now c.index-arguments-at.is c.as_str-word.ensures.value in
    let next_is = text_at string_bytes arguments (at + 1) c.index-arguments-at-in-loop-at.result c.as_str.result.now c.index-arguments-at-in-loop-at.is c.as_str.ensures.value in
    ap (option_map command_meant) c.from_residual.ensures
    ∙ (sym (no_option words at c.loop-at.options c.as_str-word.result.now c.as_str.result.now within word_is next_is (sym c.in_err-options.ensures.is))
    ∙ c.loop-at.invariant.0)

pub loop-at-preserved : goal.loop-at-preserved
loop-at-preserved c =
    let arguments = c.args.arguments.now in
    let words : List (List ℕ) = map string_bytes arguments in
    let at : ℕ = c.loop-at.at in
    let within : at + 1 < length words = omega (arith, c.loop-at-test.true, length-map arguments string_bytes) in
    let word_is = text_at string_bytes arguments at c.index-arguments-at.result c.as_str-word.result.now c.index-arguments-at.is c.as_str-word.ensures.value in
    let next_is = text_at string_bytes arguments (at + 1) c.index-arguments-at-in-loop-at.result c.as_str.result.now c.index-arguments-at-in-loop-at.is c.as_str.ensures.value in
    let given = c.in_ok-options.options in
    let read = option_read words at c.loop-at.options c.as_str-word.result.now c.as_str.result.now within word_is next_is given c.in_ok-options.ensures.is in
    elim c.if-takes_next.branch [
      | then-takes_next w ↦ (
        ap (λ (n : ℕ). clean_up_command (Some given) (drop (at + n) words)) w.at-is ∙ (read true (sym w.if-takes_next.true ∙ c.takes_next.ensures) ∙ c.loop-at.invariant.0),
        (c.in_ok-options.ensures.range, omega (arith, c.loop-at-test.true, w.at-is)),
      )
      | else-takes_next w ↦ (
        ap (λ (n : ℕ). clean_up_command (Some given) (drop (at + n) words)) w.at-is ∙ (read false (sym w.if-takes_next.false ∙ c.takes_next.ensures) ∙ c.loop-at.invariant.0),
        (c.in_ok-options.ensures.range, omega (arith, c.loop-at-test.true, w.at-is)),
      )
    ]
