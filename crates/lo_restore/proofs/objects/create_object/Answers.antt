use Rattle.lo_restore.proofs.ObjectLoads.{create_granted, create_loads, last_created}
use Rattle.lo_restore.proofs.objects.create_object.Goals as goal

pub no_memory-requires : goal.no_memory-requires
no_memory-requires c = create_granted c.args.core.now.xacts c.args.s c.args.oid c.args.pages.now c.create.new.self c.requires.fresh c.in-Err.denied c.in-Err.ensures.err

pub returns-in-Ok-clause-last : goal.returns-in-Ok-clause-last
returns-in-Ok-clause-last c = last_created c.args.core.now.xacts c.args.s c.args.oid c.args.pages.now c.create.new.self c.requires.fresh (create_loads c.args.core.now.xacts c.args.s c.args.oid c.args.pages.now c.create.new.self c.in-Ok.ensures.ok)
