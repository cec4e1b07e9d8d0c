use Rattle.lo_image.proofs.WritingLaws.{fails, stop, put_front}
use Rattle.lo_image.proofs.putting.put.Goals as goal

pub returns-in_err-make_room : goal.returns-in_err-make_room
returns-in_err-make_room g c = fails _ c.from_residual.result c.from_residual.ensures.1 (stop _ c.loop-rest.rest.now c.loop-rest.invariant c.in_err-make_room.ensures.puts)

pub loop-rest-preserved : goal.loop-rest-preserved
loop-rest-preserved g c = put_front (g.F.Files.tells c.make_room.new.files) (g.F.Files.folder c.make_room.new.files) (g.F.Files.faults c.make_room.new.files) c.make_room.new.buffer c.add_front-count.new.self c.loop-rest.rest.now _ c.add_front-count.result c.add_front-count.ensures.added c.split_at.ensures.back c.loop-rest.invariant c.in_ok-make_room.ensures.puts
