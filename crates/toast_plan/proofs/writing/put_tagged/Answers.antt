use Rattle.std.proofs.Common.{◌∷◌, [], arith}
use Rattle.toast_plan.proofs.Pieces.{piece_then_piece}
use Rattle.toast_plan.proofs.writing.put_tagged.Goals as goal

pub returns-clause-written : goal.returns-clause-written
returns-clause-written c =
    rw (c.put.ensures.written, c.put-next.ensures.end, c.put-next.ensures.written)
    (piece_then_piece c.args.at (c.args.tag ∷ []) c.args.piece.now c.args.out.now (omega arith))
