use Rattle.std.proofs.Common.{rules, ◌≡◌}
use Rattle.lo_machine.proofs.ArrayNames.{put_own, put_others, on_any_err, same_arrays}
use Rattle.lo_machine.proofs.variables.Variables.set.Goals as goal

pub returns-in_err-insert-clause-err : goal.returns-in_err-insert-clause-err
returns-in_err-insert-clause-err c = on_any_err c.from_residual-in_err-insert.result (same_arrays c.args.self.now.arrays c.insert.new.self c.in_err-insert.ensures.err)

pub returns-clause-own : goal.returns-clause-own
returns-clause-own c =
    let named : c.in_ok-key.key.items ≡ c.args.name.now = search rules in
    put_own c.args.self.now.arrays c.insert.new.self c.in_ok-key.key c.args.array c.args.name.now named c.in_ok-insert.ensures.entries

pub returns-clause-others : goal.returns-clause-others
returns-clause-others c =
    let named : c.in_ok-key.key.items ≡ c.args.name.now = search rules in
    put_others c.args.self.now.arrays c.insert.new.self c.in_ok-key.key c.args.array c.args.name.now named c.in_ok-insert.ensures.entries
