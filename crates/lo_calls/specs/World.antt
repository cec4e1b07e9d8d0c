-- What a call of a session stands in and what it leaves, whatever edits the pages stood for.
use Rattle.std.specs.Prelude.{◌≡◌, ◌≤◌, ◌<◌, ℕ, ◌+◌, List, ◌++◌, length, Some, None}
use Rattle.lo_base.specs.declared.refusal.Denied.{Denied}
use Rattle.lo_base.specs.declared.refusal.Denied.TheVariants.{By, NoMemory}
use Rattle.lo_base.specs.declared.refusal.Refusal.{Refusal}
use Rattle.lo_base.specs.declared.reply.Reply.{Reply}
use Rattle.lo_model.specs.declared.owner.Owner.TheVariants.{Running}
use Rattle.lo_model.specs.Edit.{Deed, Edit, edits_by}
use Rattle.lo_pages.specs.Outcome.{first_of, LeavesOwn}
use Rattle.lo_pages.specs.Standing.{GoWith, StandFor}
use Rattle.xact_core.specs.Kept.{kept_views, HoldsOthers, HoldsWholeViews}
use Rattle.xact_core.specs.Transactions.{Transactions, levels_of}
use Rattle.lo_calls.specs.declared.session.LoSession.{LoSession}
use Rattle.lo_calls.specs.declared.store.LoStore.{LoStore}
use Rattle.lo_calls.specs.Descriptors.{descriptors_of, holds_of, AreOpen, HoldsRest}
use Rattle.lo_calls.specs.Row.{Here, Row}

-- the transactions, what all sessions share, and the session
pub record World : Type 0 where
  pub xacts : Transactions
  pub store : LoStore
  pub session : LoSession

abbrev pub world : Transactions → LoStore → LoSession → World
world xacts store session = record { xacts = xacts; store = store; session = session }

-- what a call reads, where the pages stand for some edits. It sees what the session has made at the present clock, so its
-- current view is the one of the clock above
abbrev pub here_of : World → List (Edit Deed) → Here
here_of w ys = record {
  now = w.xacts.clock + 1;
  session = w.session.s;
  level = length (levels_of w.xacts w.session.s);
  descriptors = descriptors_of w.session.descs;
  edits = ys;
  counter = w.store.counter;
}

-- the greatest value of the counter: all numbers of objects are below it
abbrev pub counter_end : ℕ
counter_end = 4294967296

-- What a call needs of its world, and keeps: the session has a transaction, pages go with the transactions, all held views
-- are whole, and the session's descriptors are open.
pub record IsReady (w : World) : Type 0 where
  pub transaction : 0 < length (levels_of w.xacts w.session.s)
  pub whole : HoldsWholeViews w.xacts
  pub goes : GoWith w.xacts w.store.pages
  pub descriptors : AreOpen w.xacts w.session.s w.session.descs
  pub counter : w.store.counter ≤ counter_end

-- A row's grant, where the pages stood for some edits: no term of a refusal holds, the reply is the row's, and pages,
-- descriptors and counter are as it says. The edits are the session's, at its top level and the present clock.
pub record IsGranted (row : Row) (old new : World) (reply : Reply) (ys : List (Edit Deed)) : Type 0 where
  pub unrefused : first_of row.refusals ≡ None
  pub answer : reply ≡ row.granted.reply
  pub edits : StandFor new.xacts new.store.pages (ys ++ edits_by old.xacts.clock (Running old.session.s (length (levels_of old.xacts old.session.s))) row.granted.deeds)
  pub descriptors : descriptors_of new.session.descs ≡ row.granted.descriptors
  pub counter : new.store.counter ≡ row.granted.counter

pub record Grants (row : Here → Row) (old new : World) (reply : Reply) : Type 0 where
  pub granted : (ys : List (Edit Deed)) → StandFor old.xacts old.store.pages ys → IsGranted (row (here_of old ys)) old new reply ys

-- A call was refused by the first term that holds, and changed nothing.
pub record Refuses (row : Here → Row) (old new : World) (r : Refusal) : Type 0 where
  pub first : (ys : List (Edit Deed)) → StandFor old.xacts old.store.pages ys → first_of (row (here_of old ys)).refusals ≡ Some r
  pub same : new ≡ old

-- A session has the same number, descriptors and holds, whatever room for more descriptors was taken.
pub record IsSameSession (old new : LoSession) : Type 0 where
  pub number : new.s ≡ old.s
  pub descriptors : descriptors_of new.descs ≡ descriptors_of old.descs
  pub holds : holds_of new.descs ≡ holds_of old.descs

-- A call found no memory. Beside the pages nothing changed, and these got versions of the session's top level and the present
-- clock at most.
pub record FindsNoMemory (old new : World) : Type 0 where
  pub pages : LeavesOwn old.xacts old.session.s old.store.pages new.store.pages
  pub counter : new.store.counter ≡ old.store.counter
  pub session : IsSameSession old.session new.session
  pub xacts : new.xacts ≡ old.xacts

abbrev pub Denies : (Here → Row) → (old new : World) → Denied → Type 0
Denies row old new (By r) = Refuses row old new r
Denies row old new NoMemory = FindsNoMemory old new

-- What every call leaves, whatever it answers: it is ready for the next one, and of the transactions only the views that the
-- session's own descriptors hold can be others than before, at most one more.
pub record Keeps (old new : World) : Type 0 where
  pub ready : IsReady new
  pub session : new.session.s ≡ old.session.s
  pub others : HoldsOthers old.xacts new.xacts
  pub holds : HoldsRest old.xacts.held new.xacts.held old.session.descs new.session.descs
  pub views : length (kept_views new.xacts) ≤ length (kept_views old.xacts) + 1
