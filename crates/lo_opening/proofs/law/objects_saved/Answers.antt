use Rattle.lo_opening.proofs.BlockLaws.{stored_again, stored_are}
use Rattle.lo_opening.proofs.law.objects_saved.Goals as goal

pub returns-clause-bytes : goal.returns-clause-bytes
returns-clause-bytes c = λ oid bytes. stored_again bytes oid

pub returns-clause-blocks : goal.returns-clause-blocks
returns-clause-blocks c = stored_are
