use Rattle.std.proofs.Common.{List, Some, ap, map, subst, sym, ℕ}
use Rattle.std.specs.Prelude.{string_bytes}
use Rattle.lo_base.specs.declared.request.Request.{Request}
use Rattle.lo_image.specs.Image.{image}
use Rattle.lo_opening.specs.Opening.{OpeningData}
use Rattle.lo_opening.specs.Meaning.{opening_of}
use Rattle.lo_opening.proofs.DataAgain.{data_again}
use Rattle.lo_tool.specs.Command.{RunThreads}
use Rattle.lo_tool.specs.Made.{saved_under}
use Rattle.lo_tool.specs.Outside.{FilesState, files_state}
use Rattle.lo_tool.specs.Reading.{IsStop}
use Rattle.lo_tool.specs.Threads.{AreProgramsIn, HasBadProgram, RunsInSomeOrder}
use Rattle.lo_tool.proofs.Stops.{bad_program, bad_threads_image, same_state, stopped}
use Rattle.lo_tool.proofs.making.run_all.Goals as goal

pub returns-in_err-opening-clause-makes : goal.returns-in_err-opening-clause-makes
returns-in_err-opening-clause-makes g c =
    let files : FilesState = files_state g.F.Files c.args.files.now in
    let names : List (List ℕ) = map string_bytes c.args.names.now in
    let stop = c.in_err-opening.field-0.0 in
    stopped (RunThreads c.args.image.now names) files c.from_residual.result stop c.from_residual.ensures.0 c.from_residual.ensures.1
    (bad_threads_image files c.args.image.now names stop c.in_err-opening.ensures.err)

pub returns-in_err-programs-clause-makes : goal.returns-in_err-programs-clause-makes
returns-in_err-programs-clause-makes g c =
    let files : FilesState = files_state g.F.Files c.args.files.now in
    let names : List (List ℕ) = map string_bytes c.args.names.now in
    let read = c.in_ok-opening.ensures in
    let same = same_state files (files_state g.F.Files c.read_opening.new.files) read.tells read.folder read.cause.ok in
    let stop = c.in_err-programs.field-0.0 in
    stopped (RunThreads c.args.image.now names) files c.from_residual-in_err-programs.result stop
    c.from_residual-in_err-programs.ensures.0 c.from_residual-in_err-programs.ensures.1
    (bad_program files c.args.image.now names c.in_ok-opening.opening read.ok stop
    (subst (λ (state : FilesState). IsStop (HasBadProgram state names) stop) same c.in_err-programs.ensures.err))

pub returns-clause-makes : goal.returns-clause-makes
returns-clause-makes g c =
    let files : FilesState = files_state g.F.Files c.args.files.now in
    let names : List (List ℕ) = map string_bytes c.args.names.now in
    let read = c.in_ok-opening.ensures in
    let same = same_state files (files_state g.F.Files c.read_opening.new.files) read.tells read.folder read.cause.ok in
    let all = c.in_ok-programs.ensures.ok in
    record {
      ok = record {
        opening = c.in_ok-opening.opening;
        kept = read.ok;
        programs = all.programs;
        read = subst (λ (state : FilesState). AreProgramsIn state names all.programs) same all.are;
        left = opening_of c.in_ok-ran.ran.opening;
        run = subst (λ (programs : List (List Request)). RunsInSomeOrder (opening_of c.in_ok-opening.opening) programs c.in_ok-ran.ran.text (opening_of c.in_ok-ran.ran.opening)) all.filled c.in_ok-ran.ensures;
        saved = ap (λ (d : OpeningData). Some (saved_under c.args.image.now (image d))) (sym (data_again c.in_ok-ran.ran.opening c.keeps_rules.ensures));
      };
      err = tt;
    }
