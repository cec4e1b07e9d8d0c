use Rattle.std.proofs.Common.{◌≡◌, List, ℕ, map, ap, subst, ◌∙◌}
use Rattle.row_versions.specs.declared.base.Core.{Core}
use Rattle.lo_opening.specs.Meaning.{block_write}
use Rattle.lo_restore.specs.Objects.{Loads}
use Rattle.lo_restore.proofs.ObjectLoads.{ok_loads}
use Rattle.lo_restore.proofs.objects.restore_object.Goals as goal

pub returns-clause-ok : goal.returns-clause-ok
returns-clause-ok c =
    let s = c.args.s in
    let o = c.args.object.now in
    let first : c.create_object.new.core ≡ c.args.core.now = c.create_object.ensures.core in
    let second : c.write_blocks.new.core ≡ c.args.core.now = c.write_blocks.ensures.core ∙ first in
    let blocks = subst (λ (k : Core). Loads k.xacts s (map (block_write o.oid) o.stored) c.create_object.new.pages c.write_blocks.new.pages) first (subst (λ (bs : List (ℕ × List ℕ)). Loads c.create_object.new.core.xacts s (map (block_write o.oid) bs) c.create_object.new.pages c.write_blocks.new.pages) c.items.ensures c.in_ok-write_blocks.ensures.ok) in
    ok_loads c.args.core.now.xacts c.write_blocks.new.core.xacts s o c.args.pages.now c.create_object.new.pages c.write_blocks.new.pages c.cut_tail.new.pages (ap (λ (k : Core). k.xacts) second) c.in_ok-create_object.ensures.ok blocks c.cut_tail.result c.cut_tail.ensures.ok
