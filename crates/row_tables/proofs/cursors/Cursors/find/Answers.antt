use Rattle.std.proofs.Common.{rules, tests}
use Rattle.std.proofs.lemmas.Iterator.{YieldsList-from_slice}
use Rattle.std.proofs.lemmas.Iterator.Search.{find_from_yields_List}
use Rattle.row_tables.proofs.Searching.{finds_cursor, is_named}
use Rattle.row_tables.proofs.cursors.Cursors.find.Goals as goal

pub returns : goal.returns
returns c = finds_cursor c.args.s c.args.name.now c.args.self.now _ (find_from_yields_List (is_named c.args.s c.args.name.now) _ _ _ c.find.ensures.ran (YieldsList-from_slice c.args.self.now.entries.items cc) (λ x b q k. search (rules, tests)))
