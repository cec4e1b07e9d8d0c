use Rattle.xact_core.proofs.Sessions.{own_read}
use Rattle.xact_core.proofs.xacts.end_transaction.Goals as goal

pub turn-requires : goal.turn-requires
turn-requires c = rw c.places.ensures (own_read _ _ c.args.s c.place.result c.index_mut-session.result.now c.requires.well c.place.ensures.place c.place.ensures.within c.index_mut-session.ensures.value).within
