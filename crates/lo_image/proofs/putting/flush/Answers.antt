use Rattle.lo_image.proofs.WritingLaws.{fails, front_appended}
use Rattle.lo_image.proofs.putting.flush.Goals as goal

pub returns-in_err-append-clause-puts : goal.returns-in_err-append-clause-puts
returns-in_err-append-clause-puts g c = fails _ c.from_residual.result c.from_residual.ensures.1 (record {
  tells = c.in_err-append.ensures.tells;
  later = c.in_err-append.ensures.cause.later;
  rose = c.in_err-append.ensures.cause.err;
  leaves = λ t start before was. front_appended start (g.F.Files.folder c.args.files.now) (g.F.Files.folder c.append.new.self) c.args.name.now was.front c.args.buffer.now before was.is was.all (rw c.bytes.ensures at (c.in_err-append.ensures.failed t));
})
