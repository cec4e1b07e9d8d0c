use Rattle.std.proofs.Common.{take, drop}
use Rattle.lo_outside.specs.Files.{bytes_of}
use Rattle.lo_tool.proofs.PiecesOfText.{front_more}
use Rattle.lo_tool.proofs.reading.read_piece.Goals as goal

pub returns-clause-front : goal.returns-clause-front
returns-clause-front g c = λ tells front.
    let count = c.in_ok-n.ensures.count tells in
    let filled = c.in_ok-n.ensures.filled tells in
    let grown = c.in_ok-extend.ensures.ok in
    front_more c.args.bytes.now c.extend.new.self (bytes_of (g.F.Files.folder c.args.files.now c.args.name.now)) c.read.new.out (take c.min-most.result c.args.piece.now) (drop c.min-most.result c.args.piece.now) c.in_ok-n.n front (rw (← c.items.ensures) count) (rw (← c.items.ensures) filled) grown
