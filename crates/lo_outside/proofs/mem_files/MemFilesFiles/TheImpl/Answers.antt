use Rattle.std.proofs.Common.{refl}
use Rattle.lo_outside.proofs.Telling.{tells_found, tells_appended, tells_front}
use Rattle.lo_outside.proofs.mem_files.MemFilesFiles.TheImpl.Goals as goal

pub append-tells : goal.append-tells
append-tells c = record {
  found = λ _. tells_found c.result c.args.self.now c.args.name.now c.args.piece.now c.ensures.failed;
  appended = λ _. tells_appended c.result c.args.self.now c.new.self.now c.args.name.now c.args.piece.now c.ensures.failed c.ensures.ok;
  failed = λ _. tells_front c.result c.args.self.now c.new.self.now c.args.name.now c.args.piece.now c.ensures.failed c.ensures.err c.ensures.missing;
  tells = refl;
  cause = c.ensures.cause;
}
