use Rattle.std.proofs.Common.{flat_map, map}
use Rattle.lo_model.specs.Opening.{object_deeds}
use Rattle.lo_opening.specs.Meaning.{object_of}
use Rattle.lo_machine.proofs.LoadedPages.{fresh_pages, stand_behind}
use Rattle.lo_machine.proofs.loading.loaded_pages.Goals as goal

pub restore_objects-requires-clause-goes : goal.restore_objects-requires-clause-goes
restore_objects-requires-clause-goes c = c.in_ok-pages.ensures.goes c.args.core.now.xacts

pub restore_objects-requires-clause-fresh : goal.restore_objects-requires-clause-fresh
restore_objects-requires-clause-fresh c = fresh_pages c.args.core.now.xacts c.args.s c.in_ok-pages.pages (c.in_ok-pages.ensures.stand c.args.core.now.xacts)

pub returns-clause-stand : goal.returns-clause-stand
returns-clause-stand c =
    stand_behind c.args.core.now.xacts c.args.s c.requires.begun c.in_ok-pages.pages c.restore_objects.new.pages (flat_map object_deeds (map object_of c.args.objects.now))
    (c.in_ok-pages.ensures.stand c.args.core.now.xacts) c.in_ok-restore_objects.ensures.ok
