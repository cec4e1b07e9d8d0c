use Rattle.std.proofs.Common.{◌≡◌, ◌∷◌, length, ap, arith}
use Rattle.std.specs.Int.{w32, to_le_bytes}
use Rattle.toast_plan.proofs.Pieces.{piece_behind_piece, small_bytes}
use Rattle.toast_plan.proofs.writing.put_inline.Goals as goal

pub returns-clause-written : goal.returns-clause-written
returns-clause-written c =
    let four : length c.to_le_bytes.result ≡ 4 = ap length c.to_le_bytes.ensures in
    rw (c.put.ensures.written, c.put_tagged-next.ensures.written, c.to_le_bytes.ensures)
    (piece_behind_piece c.args.at c.put_tagged-next.result (1 ∷ to_le_bytes w32 (length c.args.bytes.now)) c.args.bytes.now c.args.out.now (omega (arith, c.put_tagged-next.ensures.end)) (omega arith))

pub returns-clause-small : goal.returns-clause-small
returns-clause-small c = small_bytes c.args.bytes.now (λ i. omega (arith, c.type_inv.bytes i))
