use Rattle.lo_pages.proofs.pages.Pages.fill.Given as goal
use Rattle.std.specs.Prelude.{◌≡◌, ◌≤◌, ◌-◌, ◌++◌, drop, length}
use Rattle.lo_pages.specs.Object.{bytes_from}
use Rattle.lo_pages.specs.Standing.{page_value, stores_of}
use Rattle.lo_pages.specs.Stores.{bytes_at}

abbrev pub decreases-loop-done : goal.decreases-loop-done
decreases-loop-done l = l.count - l.done

abbrev pub invariant-loop-done : goal.invariant-loop-done
invariant-loop-done l = (l.done ≤ length l.fn.out) × (l.out ≡ bytes_from (bytes_at page_value l.core.xacts l.snap (stores_of l.self) l.oid) l.at l.done ++ drop l.done l.fn.out)
