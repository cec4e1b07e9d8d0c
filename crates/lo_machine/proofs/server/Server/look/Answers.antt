use Rattle.std.proofs.Common.{w32, w64, rules}
use Rattle.std.proofs.lemmas.Int.{to_z-of_z}
use Rattle.lo_machine.proofs.server.Server.look.Goals as goal

pub returns-in-LoOpen : goal.returns-in-LoOpen
returns-in-LoOpen c = rw (c.in-LoOpen.is) (rw (to_z-of_z w32 c.in-LoOpen.mode (search rules)) at c.open_descriptor.ensures)

pub returns-in-LoClose : goal.returns-in-LoClose
returns-in-LoClose c = rw (c.in-LoClose.is) (rw (to_z-of_z w32 c.in-LoClose.fd (search rules)) at c.close.ensures)

pub returns-in-LoRead : goal.returns-in-LoRead
returns-in-LoRead c = rw (c.in-LoRead.is) (rw (to_z-of_z w32 c.in-LoRead.fd (search rules), to_z-of_z w32 c.in-LoRead.length (search rules)) at c.read.ensures)

pub returns-in-LoLseek : goal.returns-in-LoLseek
returns-in-LoLseek c = rw (c.in-LoLseek.is) (rw (to_z-of_z w32 c.in-LoLseek.fd (search rules), to_z-of_z w64 c.from.result (search rules), c.from.ensures, to_z-of_z w32 c.in-LoLseek.offset (search rules), to_z-of_z w32 c.in-LoLseek.whence (search rules)) at c.seek.ensures)

pub returns-in-LoLseek64 : goal.returns-in-LoLseek64
returns-in-LoLseek64 c = rw (c.in-LoLseek64.is) (rw (to_z-of_z w32 c.in-LoLseek64.fd (search rules), to_z-of_z w64 c.in-LoLseek64.offset (search rules), to_z-of_z w32 c.in-LoLseek64.whence (search rules)) at c.seek-in-LoLseek64.ensures)

pub returns-in-LoTell : goal.returns-in-LoTell
returns-in-LoTell c = rw (c.in-LoTell.is) (rw (to_z-of_z w32 c.in-LoTell.fd (search rules)) at c.tell.ensures)

pub returns-in-LoTell64 : goal.returns-in-LoTell64
returns-in-LoTell64 c = rw (c.in-LoTell64.is) (rw (to_z-of_z w32 c.in-LoTell64.fd (search rules)) at c.tell-in-LoTell64.ensures)

pub returns-in-LoGet : goal.returns-in-LoGet
returns-in-LoGet c = rw (c.in-LoGet.is) (rw (to_z-of_z w64 c.in-LoGet.from (search rules)) at c.get.ensures)
