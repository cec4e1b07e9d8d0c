use Rattle.std.proofs.Common.{◌≤◌, length, ap, sym, subst, ◌∙◌, arith}
use Rattle.lo_model.specs.Listing.{by_name, tables_in_order}
use Rattle.lo_restore.proofs.ListsLeft.{none_left}
use Rattle.lo_restore.proofs.NamesSaved.{few_in_order, no_name_left}
use Rattle.row_tables.specs.Catalog.{AreTables}
use Rattle.row_tables.specs.Standing.{tables_in}
use Rattle.lo_machine.specs.SweepRows.{scans_of}
use Rattle.lo_machine.proofs.ScannedTables.{Scanned, name_there, scanned_all, scanned_first, scanned_next}
use Rattle.lo_machine.proofs.server.Server.scans.Goals as goal

pub loop-k-init : goal.loop-k-init
loop-k-init c = subst (Scanned (tables_in c.args.self.now.tables) 0) (sym c.new-scans.ensures) (scanned_first (tables_in c.args.self.now.tables))

pub unreachable-requires : goal.unreachable-requires
unreachable-requires c = name_there (tables_in c.args.self.now.tables) c.loop-k.k c.in-Some.name.now c.in-Some.ensures c.in_default-columns.ensures.columns

pub returns-in_default : goal.returns-in_default
returns-in_default c st stands =
    let ts = tables_in c.args.self.now.tables in
    let are : AreTables ts = subst AreTables (sym stands.has.tables) stands.fit.tables.tables in
    scanned_all ts c.loop-k.k c.loop-k.scans c.loop-k.invariant (no_name_left (tables_in_order ts) c.loop-k.k (sym c.in_default.ensures)) are ∙ ap scans_of stands.has.tables

pub loop-k-preserved : goal.loop-k-preserved
loop-k-preserved c =
    scanned_next (tables_in c.args.self.now.tables) c.loop-k.k c.loop-k.scans c.loop-k.invariant c.in-Some.name.now c.in-Some-columns.columns.now c.add_scans.new.scans c.in-Some.ensures c.in-Some-columns.ensures.columns c.in_ok-add_scans.ensures

pub returns : goal.returns
returns c st stands =
    let ts = tables_in c.args.self.now.tables in
    let are : AreTables ts = subst AreTables (sym stands.has.tables) stands.fit.tables.tables in
    let few : length (tables_in_order ts) ≤ c.loop-k.k = omega (arith, few_in_order by_name ts, are.few, c.loop-k-test.false) in
    scanned_all ts c.loop-k.k c.loop-k.scans c.loop-k.invariant (none_left (tables_in_order ts) c.loop-k.k few) are ∙ ap scans_of stands.has.tables
