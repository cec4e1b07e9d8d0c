use Rattle.std.proofs.Common.{sym}
use Rattle.std.proofs.lemmas.List.{take-append-drop}
use Rattle.std.proofs.lemmas.Result.{err_from_is_err_and}
use Rattle.lo_script.proofs.PrintedFronts.{nothing_printed, piece_printed, front_printed}
use Rattle.lo_script.proofs.reply.append_hex.Goals as goal

pub loop-rest-init : goal.loop-rest-init
loop-rest-init c = nothing_printed c.args.out.now c.args.bytes.now

pub returns-in_err-append_piece-clause-err : goal.returns-in_err-append_piece-clause-err
returns-in_err-append_piece-clause-err c =
    let p = err_from_is_err_and c.from_residual.result c.from_residual.ensures.1 in
    rw (p.1, c.in_err-append_piece.ensures.err) (front_printed c.args.out.now c.loop-rest.out c.args.bytes.now c.loop-rest.rest.now c.loop-rest.invariant)

pub loop-rest-preserved : goal.loop-rest-preserved
loop-rest-preserved c =
    piece_printed c.args.out.now c.loop-rest.out c.append_piece.new.out c.args.bytes.now c.loop-rest.rest.now c.split_at.result.0.now c.split_at.result.1.now c.loop-rest.invariant
    (rw (c.split_at.ensures.front, c.split_at.ensures.back) (sym (take-append-drop _ c.loop-rest.rest.now)))
    c.in_ok-append_piece.ensures.ok
