use Rattle.lo_script.specs.declared.script.Marking.TheVariants.{Marked}
use Rattle.lo_tool.specs.Command.{RunScript}
use Rattle.lo_tool.specs.Outside.{files_state}
use Rattle.lo_tool.proofs.Stops.{bad_file, bad_script, stopped}
use Rattle.lo_tool.proofs.making.run_file.Goals as goal

pub returns-in_err-bytes-clause-makes : goal.returns-in_err-bytes-clause-makes
returns-in_err-bytes-clause-makes g c =
    let files = files_state g.F.Files c.args.files.now in
    let stop = c.in_err-bytes.field-0.0 in
    stopped (RunScript c.args.file.now) files c.from_residual.result stop c.from_residual.ensures.0 c.from_residual.ensures.1
    (bad_file Marked files c.args.file.now stop c.in_err-bytes.ensures.err)

pub returns-in_err-ran-clause-makes : goal.returns-in_err-ran-clause-makes
returns-in_err-ran-clause-makes g c =
    let files = files_state g.F.Files c.args.files.now in
    stopped (RunScript c.args.file.now) files c.from_residual-in_err-ran.result c.in_err-ran.field-0.0
    c.from_residual-in_err-ran.ensures.0 c.from_residual-in_err-ran.ensures.1
    (bad_script files c.args.file.now c.in_ok-bytes.bytes c.in_ok-bytes.ensures.ok c.in_err-ran.field-0.0 (rw (← c.items.ensures) c.in_err-ran.ensures.err))
