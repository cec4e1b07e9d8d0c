use Rattle.lo_pages.specs.Keys.{page_key}
use Rattle.lo_pages.proofs.Vacuuming.{all_stand, all_go, all_read, all_open, all_left}
use Rattle.lo_pages.proofs.pages.Pages.vacuum.Goals as goal

pub returns-clause-stand : goal.returns-clause-stand
returns-clause-stand c = all_stand c.args.core.now.xacts c.args.self.now (record { alloc = c.args.self.now.alloc; objects = c.vacuum.new.self; pages = c.vacuum-2.new.self; cuts = c.vacuum-3.new.self }) (record { objects = c.vacuum.ensures.versions; pages = c.vacuum-2.ensures.versions; cuts = c.vacuum-3.ensures.versions; heads = c.vacuum.ensures.finds; found = c.vacuum-2.ensures.finds; open_objects = c.vacuum.ensures.open; open_pages = c.vacuum-2.ensures.open; open_cuts = c.vacuum-3.ensures.open; go_objects = c.vacuum.ensures.goes; go_pages = c.vacuum-2.ensures.goes; go_cuts = c.vacuum-3.ensures.goes })

pub returns-clause-goes : goal.returns-clause-goes
returns-clause-goes c = all_go c.args.core.now.xacts c.args.self.now (record { alloc = c.args.self.now.alloc; objects = c.vacuum.new.self; pages = c.vacuum-2.new.self; cuts = c.vacuum-3.new.self }) (record { objects = c.vacuum.ensures.versions; pages = c.vacuum-2.ensures.versions; cuts = c.vacuum-3.ensures.versions; heads = c.vacuum.ensures.finds; found = c.vacuum-2.ensures.finds; open_objects = c.vacuum.ensures.open; open_pages = c.vacuum-2.ensures.open; open_cuts = c.vacuum-3.ensures.open; go_objects = c.vacuum.ensures.goes; go_pages = c.vacuum-2.ensures.goes; go_cuts = c.vacuum-3.ensures.goes }) c.requires.goes

pub returns-clause-reads : goal.returns-clause-reads
returns-clause-reads c = all_read c.args.core.now.xacts c.args.self.now (record { alloc = c.args.self.now.alloc; objects = c.vacuum.new.self; pages = c.vacuum-2.new.self; cuts = c.vacuum-3.new.self }) (record { objects = c.vacuum.ensures.versions; pages = c.vacuum-2.ensures.versions; cuts = c.vacuum-3.ensures.versions; heads = c.vacuum.ensures.finds; found = c.vacuum-2.ensures.finds; open_objects = c.vacuum.ensures.open; open_pages = c.vacuum-2.ensures.open; open_cuts = c.vacuum-3.ensures.open; go_objects = c.vacuum.ensures.goes; go_pages = c.vacuum-2.ensures.goes; go_cuts = c.vacuum-3.ensures.goes })

pub returns-clause-open : goal.returns-clause-open
returns-clause-open c = all_open c.args.core.now.xacts c.args.self.now (record { alloc = c.args.self.now.alloc; objects = c.vacuum.new.self; pages = c.vacuum-2.new.self; cuts = c.vacuum-3.new.self }) (record { objects = c.vacuum.ensures.versions; pages = c.vacuum-2.ensures.versions; cuts = c.vacuum-3.ensures.versions; heads = c.vacuum.ensures.finds; found = c.vacuum-2.ensures.finds; open_objects = c.vacuum.ensures.open; open_pages = c.vacuum-2.ensures.open; open_cuts = c.vacuum-3.ensures.open; go_objects = c.vacuum.ensures.goes; go_pages = c.vacuum-2.ensures.goes; go_cuts = c.vacuum-3.ensures.goes })

pub returns-clause-left : goal.returns-clause-left
returns-clause-left c = all_left c.args.core.now.xacts c.args.self.now (record { alloc = c.args.self.now.alloc; objects = c.vacuum.new.self; pages = c.vacuum-2.new.self; cuts = c.vacuum-3.new.self }) (record { objects = c.vacuum.ensures.versions; pages = c.vacuum-2.ensures.versions; cuts = c.vacuum-3.ensures.versions; heads = c.vacuum.ensures.finds; found = c.vacuum-2.ensures.finds; open_objects = c.vacuum.ensures.open; open_pages = c.vacuum-2.ensures.open; open_cuts = c.vacuum-3.ensures.open; go_objects = c.vacuum.ensures.goes; go_pages = c.vacuum-2.ensures.goes; go_cuts = c.vacuum-3.ensures.goes })

pub returns-clause-all : goal.returns-clause-all
returns-clause-all c = record {
  objects = c.vacuum.ensures.versions;
  pages = λ o b. c.vacuum-2.ensures.versions (page_key o b);
  cuts = λ o b. c.vacuum-3.ensures.versions (page_key o b);
}
