-- What a call on descriptors keeps, where some of them ended, or moved, or nothing changed.
use Rattle.std.proofs.Common.{◌≡◌, ◌≤◌, ◌<◌, length, refl, sym, subst, arith}
use Rattle.xact_core.specs.Transactions.{Transactions, levels_of}
use Rattle.lo_pages.specs.Standing.{GoWith}
use Rattle.lo_pages.proofs.Standing.{go_held}
use Rattle.lo_calls.specs.declared.descs.Descs.{Descs}
use Rattle.lo_calls.specs.declared.session.LoSession.{LoSession}
use Rattle.lo_calls.specs.declared.store.LoStore.{LoStore}
use Rattle.lo_calls.specs.Descriptors.{holds_of, AreOpen, Ends}
use Rattle.lo_calls.specs.World.{World, world, counter_end, IsReady, Keeps}
use Rattle.lo_calls.proofs.Closing.{holds_same}

pub keeps_same : (w : World) → IsReady w → Keeps w w
keeps_same w ready = record {
  ready = ready;
  session = refl;
  others = holds_same w.xacts;
  holds = record { rest = λ others all. all };
  views = omega arith;
}

-- the session, with other descriptors
abbrev pub with_descs : LoSession → Descs → LoSession
with_descs session descs = record { descs = descs; s = session.s }

pub ends_keeps : (w : World) (x : Transactions) (descs : Descs) → IsReady w → Ends w.xacts x w.session.descs descs → Keeps w (world x w.store (with_descs w.session descs))
ends_keeps w x descs ready ends = record {
  ready = record {
    transaction = subst (λ (u : Transactions). 0 < length (levels_of u w.session.s)) (sym ends.others.rest) ready.transaction;
    whole = ends.whole ready.whole;
    goes = go_held w.xacts x w.store.pages ends.others ready.goes;
    descriptors = ends.remain w.session.s ready.descriptors;
    counter = ready.counter;
  };
  session = refl;
  others = ends.others;
  holds = ends.holds;
  views = omega (arith, ends.views);
}

pub moved_keeps : (w : World) (store : LoStore) (descs : Descs) → IsReady w → GoWith w.xacts store.pages → store.counter ≤ counter_end → holds_of descs ≡ holds_of w.session.descs → AreOpen w.xacts w.session.s descs → Keeps w (world w.xacts store (with_descs w.session descs))
moved_keeps w store descs ready goes counter same open' = record {
  ready = record { transaction = ready.transaction; whole = ready.whole; goes = goes; descriptors = open'; counter = counter };
  session = refl;
  others = holds_same w.xacts;
  holds = record { rest = λ others all. rw same all };
  views = omega arith;
}
