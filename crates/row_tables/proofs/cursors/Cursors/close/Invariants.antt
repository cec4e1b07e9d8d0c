use Rattle.std.proofs.Common.{◌≡◌, ◌≤◌, ◌-◌, length, take}
use Rattle.row_tables.specs.Cursors.{AreHeld, Ends, left_open}
use Rattle.row_tables.proofs.cursors.Cursors.close.Given as goal

abbrev pub invariant-loop-index : goal.invariant-loop-index
invariant-loop-index l = record {
  within : l.index ≤ length l.self.entries.items;
  front : left_open l.s l.closing (take l.index l.self.entries.items) ≡ take l.index l.self.entries.items;
  left : left_open l.s l.closing l.self.entries.items ≡ left_open l.s l.closing l.fn.self.entries.items;
  held : AreHeld l.xacts l.self;
  ends : Ends l.fn.xacts l.xacts l.fn.self l.self;
}

abbrev pub decreases-loop-index : goal.decreases-loop-index
decreases-loop-index l = length l.self.entries.items - l.index
