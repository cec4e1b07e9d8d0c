use Rattle.std.proofs.Common.{◌<◌, ◌≡◌, List, length, ap, ◌∙◌, arith}
use Rattle.xact_core.specs.declared.fate.Fate.{Fate}
use Rattle.xact_core.specs.Ends.{undo}
use Rattle.xact_core.specs.Fate.{fate_after}
use Rattle.xact_core.specs.Opened.{first_of}
use Rattle.xact_core.proofs.ListPlaces.{length-turned_at}
use Rattle.xact_core.proofs.Sessions.{level_starts, first_within}
use Rattle.xact_core.proofs.xacts.undo_from.Goals as goal

pub index_mut-requires : goal.index_mut-requires
index_mut-requires c =
    let size : length c.turn.new.fates.items ≡ length c.args.fates.now.items = ap (λ (fates : List Fate). length fates) c.turn.ensures ∙ length-turned_at (fate_after (undo c.args.s c.args.level)) c.places_from.result.now c.args.fates.now.items in
    let within : first_of c.args.level c.index_mut-session.result.now < length c.args.fates.now.items = first_within _ _ c.args.s c.place.result c.args.level c.index_mut-session.result.now c.requires.well c.place.ensures.place c.place.ensures.within c.index_mut-session.ensures.value c.requires.low c.requires.high in
    omega (arith, size, within, c.first.ensures)

pub undo-requires-clause-high : goal.undo-requires-clause-high
undo-requires-clause-high c = (level_starts _ _ c.args.s c.place.result c.args.level c.index_mut-session.result.now c.requires.well c.place.ensures.place c.place.ensures.within c.index_mut-session.ensures.value c.requires.low c.requires.high).0

pub undo-requires-clause-start : goal.undo-requires-clause-start
undo-requires-clause-start c = (level_starts _ _ c.args.s c.place.result c.args.level c.index_mut-session.result.now c.requires.well c.place.ensures.place c.place.ensures.within c.index_mut-session.ensures.value c.requires.low c.requires.high).1
