use Rattle.std.proofs.Common.{Some, ap, subst, sym}
use Rattle.lo_image.specs.Image.{image}
use Rattle.lo_opening.specs.Opening.{OpeningData}
use Rattle.lo_opening.specs.Meaning.{opening_of}
use Rattle.lo_script.specs.declared.script.Marking.TheVariants.{Marked}
use Rattle.lo_tool.specs.Command.{RunScriptOn}
use Rattle.lo_opening.proofs.DataAgain.{data_again}
use Rattle.lo_tool.specs.Made.{saved_under}
use Rattle.lo_tool.specs.Outside.{FilesState, files_state}
use Rattle.lo_tool.specs.Reading.{IsStop}
use Rattle.lo_tool.specs.ScriptFile.{IsReadWithin, IsUnread}
use Rattle.lo_tool.proofs.Stops.{bad_file, bad_image, bad_script, bad_second, same_state, stopped}
use Rattle.lo_tool.proofs.making.run_on.Goals as goal

pub returns-in_err-opening-clause-makes : goal.returns-in_err-opening-clause-makes
returns-in_err-opening-clause-makes g c =
    let files = files_state g.F.Files c.args.files.now in
    stopped (RunScriptOn c.args.image.now c.args.file.now) files c.from_residual.result c.in_err-opening.field-0.0
    c.from_residual.ensures.0 c.from_residual.ensures.1
    (bad_image files c.args.image.now c.args.file.now c.in_err-opening.field-0.0 c.in_err-opening.ensures.err)

pub returns-in_err-bytes-clause-makes : goal.returns-in_err-bytes-clause-makes
returns-in_err-bytes-clause-makes g c =
    let files : FilesState = files_state g.F.Files c.args.files.now in
    let read = c.in_ok-opening.ensures in
    let same = same_state files (files_state g.F.Files c.read_opening.new.files) read.tells read.folder read.cause.ok in
    let stop = c.in_err-bytes.field-0.0 in
    stopped (RunScriptOn c.args.image.now c.args.file.now) files c.from_residual-in_err-bytes.result stop
    c.from_residual-in_err-bytes.ensures.0 c.from_residual-in_err-bytes.ensures.1
    (bad_second files c.args.image.now c.args.file.now c.in_ok-opening.opening read.ok stop
    (bad_file Marked files c.args.file.now stop
    (subst (λ (state : FilesState). IsStop (IsUnread state c.args.file.now) stop) same c.in_err-bytes.ensures.err)))

pub returns-in_err-ran-clause-makes : goal.returns-in_err-ran-clause-makes
returns-in_err-ran-clause-makes g c =
    let files : FilesState = files_state g.F.Files c.args.files.now in
    let read = c.in_ok-opening.ensures in
    let same = same_state files (files_state g.F.Files c.read_opening.new.files) read.tells read.folder read.cause.ok in
    let stop = c.in_err-ran.field-0.0 in
    stopped (RunScriptOn c.args.image.now c.args.file.now) files c.from_residual-in_err-ran.result stop
    c.from_residual-in_err-ran.ensures.0 c.from_residual-in_err-ran.ensures.1
    (bad_second files c.args.image.now c.args.file.now c.in_ok-opening.opening read.ok stop
    (bad_script files c.args.file.now c.in_ok-bytes.bytes
    (subst (λ (state : FilesState). IsReadWithin state c.args.file.now c.in_ok-bytes.bytes) same c.in_ok-bytes.ensures.ok)
    stop (rw (← c.items.ensures) c.in_err-ran.ensures.err)))

pub returns-clause-makes : goal.returns-clause-makes
returns-clause-makes g c =
    let files : FilesState = files_state g.F.Files c.args.files.now in
    let read = c.in_ok-opening.ensures in
    let same = same_state files (files_state g.F.Files c.read_opening.new.files) read.tells read.folder read.cause.ok in
    record {
      ok = record {
        opening = c.in_ok-opening.opening;
        kept = read.ok;
        bytes = c.in_ok-bytes.bytes;
        read = subst (λ (state : FilesState). IsReadWithin state c.args.file.now c.in_ok-bytes.bytes) same c.in_ok-bytes.ensures.ok;
        left = opening_of c.in_ok-ran.ran.opening;
        run = rw (← c.items.ensures) c.in_ok-ran.ensures.ok;
        saved = ap (λ (d : OpeningData). Some (saved_under c.args.image.now (image d))) (sym (data_again c.in_ok-ran.ran.opening c.keeps_rules.ensures));
      };
      err = tt;
    }
