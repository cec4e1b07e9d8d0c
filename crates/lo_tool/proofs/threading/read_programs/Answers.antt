use Rattle.std.proofs.Common.{◌≡◌, ◌<◌, ◌≤◌, ◌∙◌, List, ℕ, [], ap, arith, get_or, length, map, sym}
use Rattle.std.proofs.lemmas.List.{get_or-map, length-map}
use Rattle.std.specs.Prelude.{string_bytes}
use Rattle.lo_tool.specs.Outside.{FilesState, files_state}
use Rattle.lo_tool.specs.Reading.{IsStop}
use Rattle.lo_tool.specs.Threads.{HasBadProgram}
use Rattle.lo_tool.proofs.ThreadsRead.{bad_next, next_read, stopped_as}
use Rattle.lo_tool.proofs.threading.read_programs.Goals as goal

pub returns-in_err-program-clause-err : goal.returns-in_err-program-clause-err
returns-in_err-program-clause-err g c =
    let names : List (List ℕ) = map string_bytes c.args.names.now in
    let old : FilesState = files_state g.F.Files c.args.files.now in
    let mid : FilesState = files_state g.F.Files c.loop-place.files in
    let within : c.loop-place.place < length names = omega (arith, c.loop-place-test.true, length-map c.args.names.now string_bytes) in
    let is : c.as_str.result.now ≡ get_or names c.loop-place.place [] = c.as_str.ensures.value ∙ ap string_bytes c.index-names-place.is ∙ sym (get_or-map string_bytes c.args.names.now c.loop-place.place _ [] c.loop-place-test.true) in
    let stop = c.in_err-program.field-0.0 in
    stopped_as (IsStop (HasBadProgram old names)) c.from_residual-in_err-program.result stop c.from_residual-in_err-program.ensures.1
    (bad_next old mid names c.loop-place.place c.as_str.result.now c.loop-place.programs c.loop-place.invariant within is stop c.in_err-program.ensures.err)

pub loop-place-preserved : goal.loop-place-preserved
loop-place-preserved g c =
    let names : List (List ℕ) = map string_bytes c.args.names.now in
    let old : FilesState = files_state g.F.Files c.args.files.now in
    let mid : FilesState = files_state g.F.Files c.loop-place.files in
    let new : FilesState = files_state g.F.Files c.read_program_file.new.files in
    let within : c.loop-place.place < length names = omega (arith, c.loop-place-test.true, length-map c.args.names.now string_bytes) in
    let few : length names ≤ 16 = omega (arith, c.requires, length-map c.args.names.now string_bytes) in
    let is : c.as_str.result.now ≡ get_or names c.loop-place.place [] = c.as_str.ensures.value ∙ ap string_bytes c.index-names-place.is ∙ sym (get_or-map string_bytes c.args.names.now c.loop-place.place _ [] c.loop-place-test.true) in
    let read = c.in_ok-program.ensures in
    next_read old mid names c.loop-place.place c.as_str.result.now c.loop-place.programs c.loop-place.invariant within is
    new c.in-Some.s c.place.new.self c.in_ok-program.program few c.in-Some.ensures.number c.place.ensures read.ok read.tells read.folder read.cause.ok
