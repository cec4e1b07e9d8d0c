use Rattle.std.proofs.Common.{◌≡◌, List, None, false, flat_map, map, refl, replicate, subst, sym, ◌∙◌}
use Rattle.lo_model.specs.Opening.{object_deeds}
use Rattle.lo_opening.specs.declared.opening.ObjectData.{ObjectData}
use Rattle.lo_opening.specs.declared.opening.TableData.{TableData}
use Rattle.lo_opening.specs.Meaning.{object_of}
use Rattle.lo_pages.specs.Standing.{GoWith}
use Rattle.lo_restore.specs.Tables.{deeds_in, named_of}
use Rattle.lo_restore.specs.TablesRestored.{HaveDone}
use Rattle.row_versions.specs.declared.base.Core.{Core}
use Rattle.xact_core.specs.Ends.{Opens}
use Rattle.xact_core.specs.Transactions.{Transactions, beginning}
use Rattle.lo_machine.specs.Loading.{StandBehindRows}
use Rattle.lo_machine.proofs.NewServer.{data_loaded, rows_opened}
use Rattle.lo_machine.proofs.OpeningsFit.{opening_fits}
use Rattle.lo_machine.proofs.server.Server.loaded.Goals as goal

pub returns : goal.returns
returns c =
    let s = c.args.s in
    let x = c.begin.new.self in
    let new : Core = c.loaded_pages.new.core in
    let found = c.opening.inside in
    let core : new ≡ record { xacts = x } = c.in_ok-pages.ensures.core ∙ c.in_ok-tables.ensures.core in
    let begun : Opens s None beginning x = subst (λ (y : Transactions). Opens s None y x) c.in_ok-new.ensures c.in_ok-begin.ensures.ok in
    let goes : GoWith new.xacts c.in_ok-pages.pages = subst (λ (k : Core). GoWith k.xacts c.in_ok-pages.pages) (sym c.in_ok-pages.ensures.core) c.in_ok-pages.ensures.goes in
    let loaded : StandBehindRows new.xacts s (flat_map object_deeds (map object_of c.items-2.result.now)) c.in_ok-pages.pages = subst (λ (k : Core). StandBehindRows k.xacts s (flat_map object_deeds (map object_of c.items-2.result.now)) c.in_ok-pages.pages) (sym c.in_ok-pages.ensures.core) c.in_ok-pages.ensures.stand in
    let pages : StandBehindRows new.xacts s (flat_map object_deeds (map object_of found.objects)) c.in_ok-pages.pages = subst (λ (objects : List ObjectData). StandBehindRows new.xacts s (flat_map object_deeds (map object_of objects)) c.in_ok-pages.pages) c.items-2.ensures loaded in
    let done : HaveDone x s c.in_ok-tables.tables (map named_of found.tables) (deeds_in found.tables) = subst (λ (list : List TableData). HaveDone x s c.in_ok-tables.tables (map named_of list) (deeds_in list)) c.items.ensures c.in_ok-tables.ensures.done in
    let rows : HaveDone new.xacts s c.in_ok-tables.tables (map named_of found.tables) (deeds_in found.tables) = subst (λ (k : Core). HaveDone k.xacts s c.in_ok-tables.tables (map named_of found.tables) (deeds_in found.tables)) (sym core) done in
    let failed : c.resize.new.self.items ≡ replicate 16 false = rw (c.new-failed.ensures.items, c.new-failed.ensures.len) at c.in_ok-resize.ensures.items in
    data_loaded _ _ s _ c.opening.view_is c.requires (record {
      fit = opening_fits _ c.opening.invariant;
      begun = subst (λ (k : Core). Opens s None beginning k.xacts) (sym core) begun;
      goes = goes;
      pages = pages;
      counter = refl;
      most = c.opening.invariant.most_counter;
      undos = refl;
      failed = failed;
      sessions = c.in_ok-new_sessions.ensures;
      rows = rows_opened new.xacts s c.in_ok-tables.tables found.tables rows;
      variables = c.in_ok-new_variables.ensures;
    })
