use Rattle.lo_restore.proofs.ObjectLoads.{cut_granted, cut_loads, fresh_cut}
use Rattle.lo_restore.proofs.objects.cut_tail.Goals as goal

pub no_memory-requires : goal.no_memory-requires
no_memory-requires c = cut_granted c.args.core.now.xacts c.args.s c.args.object.now.oid c.args.object.now.size c.args.pages.now c.cut.new.self c.requires.last c.requires.small c.in-Err.denied c.in-Err.ensures.err

pub returns-in-Ok-clause-fresh : goal.returns-in-Ok-clause-fresh
returns-in-Ok-clause-fresh c = fresh_cut c.args.core.now.xacts c.args.s c.args.object.now.oid c.args.object.now.size c.args.pages.now c.cut.new.self c.requires.last (cut_loads c.args.core.now.xacts c.args.s c.args.object.now.oid c.args.object.now.size c.args.pages.now c.cut.new.self c.in-Ok.ensures.ok)
