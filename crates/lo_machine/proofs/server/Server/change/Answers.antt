use Rattle.std.proofs.Common.{w32, w64, rules}
use Rattle.std.proofs.lemmas.Int.{to_z-of_z}
use Rattle.lo_machine.proofs.server.Server.change.Goals as goal

pub returns-in-LoWrite : goal.returns-in-LoWrite
returns-in-LoWrite c = rw (c.in-LoWrite.is) (rw (to_z-of_z w32 c.in-LoWrite.fd (search rules), c.items.ensures) at c.write.ensures)

pub returns-in-LoTruncate : goal.returns-in-LoTruncate
returns-in-LoTruncate c = rw (c.in-LoTruncate.is) (rw (to_z-of_z w32 c.in-LoTruncate.fd (search rules), to_z-of_z w64 c.from.result (search rules), c.from.ensures, to_z-of_z w32 c.in-LoTruncate.size (search rules)) at c.truncate.ensures)

pub returns-in-LoTruncate64 : goal.returns-in-LoTruncate64
returns-in-LoTruncate64 c = rw (c.in-LoTruncate64.is) (rw (to_z-of_z w32 c.in-LoTruncate64.fd (search rules), to_z-of_z w64 c.in-LoTruncate64.size (search rules)) at c.truncate-in-LoTruncate64.ensures)

pub returns-in-LoPut : goal.returns-in-LoPut
returns-in-LoPut c = rw (c.in-LoPut.is) (rw (to_z-of_z w64 c.in-LoPut.at (search rules), c.items-in-LoPut.ensures) at c.put.ensures)
