use Rattle.std.proofs.Common.{◌≤◌, ◌+◌, ◌*◌, List, ℕ, length, sym, subst}
use Rattle.lo_pages.specs.Outcome.{Adds, largest_size, write_made, write_refused}
use Rattle.lo_restore.proofs.ObjectLoads.{write_granted, write_loads, last_written}
use Rattle.lo_restore.proofs.objects.write_block.Goals as goal

pub no_memory-requires : goal.no_memory-requires
no_memory-requires c = write_granted c.args.core.now.xacts c.args.s c.args.oid (2048 * c.args.block.now.0) c.items.result.now c.args.pages.now c.write.new.self c.requires.last (subst (λ (bytes : List ℕ). 2048 * c.args.block.now.0 + length bytes ≤ largest_size) (sym c.items.ensures) c.requires.block.small) c.in-Err.denied c.in-Err.ensures.err

pub returns-in-Ok-clause-last : goal.returns-in-Ok-clause-last
returns-in-Ok-clause-last c =
    let x = c.args.core.now.xacts in
    let o = c.args.oid in
    let at : ℕ = 2048 * c.args.block.now.0 in
    last_written x c.args.s o c.args.block.now c.args.pages.now c.write.new.self c.requires.last (write_loads x c.args.s o c.args.block.now c.args.pages.now c.write.new.self c.requires.block.some (subst (λ (bytes : List ℕ). Adds x (write_refused x c.args.s o at bytes) (write_made x c.args.s o at bytes) c.args.pages.now c.write.new.self) c.items.ensures c.in-Ok.ensures.ok))
