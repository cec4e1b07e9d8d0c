use Rattle.std.proofs.Common.{◌≡◌, true, false, length, sym, ◌∙◌, arith, rules}
use Rattle.std.proofs.lemmas.Bool.Decides.{nat_tests}
use Rattle.lo_script.specs.Script.{ends_in_sweep, is_request_line, script_with}
use Rattle.lo_script.proofs.FirstBadLines.{bad-none, bad_end, entry_read, line_told, nothing_read, script_read}
use Rattle.lo_script.proofs.ScriptOrder.{script-finished, script-ordered}
use Rattle.lo_script.proofs.SpelledRequests.{entry-spelled}
use Rattle.lo_script.proofs.script.read_text.Goals as goal

pub loop-rest-init : goal.loop-rest-init
loop-rest-init c = record { front = rw (c.in_ok-programs.ensures, c.new-order.ensures) (nothing_read c.args.marking c.args.bytes.now); counted = omega arith }

pub push-requires : goal.push-requires
push-requires c = (entry-spelled c.args.marking c.loop-rest.programs c.first_line.result.0.now c.in-Ok.entry c.in-Ok.ensures.ok).spelled

pub loop-rest-preserved-in-Continue-branch-3 : goal.loop-rest-preserved-in-Continue-branch-3
loop-rest-preserved-in-Continue-branch-3 c =
    let request : is_request_line c.first_line.result.0.now ≡ true = sym c.is_request_line.ensures ∙ c.if-is_request_line.true in
    record {
      front = rw (c.in_ok-push.ensures.ok, c.in_ok-push-2.ensures.ok) (entry_read c.args.marking c.args.bytes.now c.loop-rest.rest.now c.first_line.result.0.now c.first_line.result.1.now c.loop-rest.number (script_with c.loop-rest.programs c.loop-rest.order) c.in-Ok.entry c.loop-rest.invariant.front c.first_line.ensures.lines request c.in-Ok.ensures.ok);
      counted = search rules;
    }

pub returns-in-Err-clause-bad : goal.returns-in-Err-clause-bad
returns-in-Err-clause-bad c =
    let request : is_request_line c.first_line.result.0.now ≡ true = sym c.is_request_line.ensures ∙ c.if-is_request_line.true in
    bad-none c.args.marking c.args.bytes.now c.in_line.result
    (rw c.in_line.ensures (line_told c.args.marking c.args.bytes.now c.loop-rest.rest.now c.first_line.result.0.now c.first_line.result.1.now c.loop-rest.number (script_with c.loop-rest.programs c.loop-rest.order) c.in-Err.e c.loop-rest.invariant.front c.first_line.ensures.lines request c.in-Err.ensures.bad))

pub returns-then-ends_in_sweep-clause-first : goal.returns-then-ends_in_sweep-clause-first
returns-then-ends_in_sweep-clause-first c =
    let none : length c.loop-rest.rest.now ≡ 0 = grind (arith, nat_tests) in
    let unfinished : ends_in_sweep c.loop-rest.programs ≡ true = sym c.ends_in_sweep.ensures ∙ c.if-ends_in_sweep.true in
    rw c.in_line-then-ends_in_sweep.ensures (bad_end c.args.marking c.args.bytes.now c.loop-rest.rest.now c.loop-rest.number (script_with c.loop-rest.programs c.loop-rest.order) none c.loop-rest.invariant.front unfinished)

pub returns-then-ends_in_sweep-clause-bad : goal.returns-then-ends_in_sweep-clause-bad
returns-then-ends_in_sweep-clause-bad c =
    let none : length c.loop-rest.rest.now ≡ 0 = grind (arith, nat_tests) in
    let unfinished : ends_in_sweep c.loop-rest.programs ≡ true = sym c.ends_in_sweep.ensures ∙ c.if-ends_in_sweep.true in
    bad-none c.args.marking c.args.bytes.now c.in_line-then-ends_in_sweep.result
    (rw c.in_line-then-ends_in_sweep.ensures (bad_end c.args.marking c.args.bytes.now c.loop-rest.rest.now c.loop-rest.number (script_with c.loop-rest.programs c.loop-rest.order) none c.loop-rest.invariant.front unfinished))

pub returns-clause-ok : goal.returns-clause-ok
returns-clause-ok c =
    let none : length c.loop-rest.rest.now ≡ 0 = grind (arith, nat_tests) in
    let finished : ends_in_sweep c.loop-rest.programs ≡ false = sym c.ends_in_sweep.ensures ∙ c.if-ends_in_sweep.false in
    script_read c.args.marking c.args.bytes.now c.loop-rest.rest.now c.loop-rest.number (script_with c.loop-rest.programs c.loop-rest.order) none c.loop-rest.invariant.front finished

pub returns-clause-order : goal.returns-clause-order
returns-clause-order c =
    let none : length c.loop-rest.rest.now ≡ 0 = grind (arith, nat_tests) in
    let finished : ends_in_sweep c.loop-rest.programs ≡ false = sym c.ends_in_sweep.ensures ∙ c.if-ends_in_sweep.false in
    let script = script_with c.loop-rest.programs c.loop-rest.order in
    script-ordered c.args.marking c.args.bytes.now script (script_read c.args.marking c.args.bytes.now c.loop-rest.rest.now c.loop-rest.number script none c.loop-rest.invariant.front finished)

pub returns-clause-sweeps : goal.returns-clause-sweeps
returns-clause-sweeps c =
    let none : length c.loop-rest.rest.now ≡ 0 = grind (arith, nat_tests) in
    let finished : ends_in_sweep c.loop-rest.programs ≡ false = sym c.ends_in_sweep.ensures ∙ c.if-ends_in_sweep.false in
    let script = script_with c.loop-rest.programs c.loop-rest.order in
    script-finished c.args.marking c.args.bytes.now script (script_read c.args.marking c.args.bytes.now c.loop-rest.rest.now c.loop-rest.number script none c.loop-rest.invariant.front finished)
