-- What a call leaves of its world, where the store alone changes.
use Rattle.std.proofs.Common.{◌≡◌, ◌≤◌, ℕ, List, ◌++◌, length, Option, refl, ap, sym, subst, ◌∙◌, arith}
use Rattle.lo_base.specs.declared.refusal.Denied.{Denied}
use Rattle.lo_base.specs.declared.refusal.Denied.TheVariants.{By, NoMemory}
use Rattle.lo_base.specs.declared.refusal.Refusal.{Refusal}
use Rattle.lo_base.specs.declared.reply.Reply.{Reply}
use Rattle.lo_model.specs.declared.owner.Owner.TheVariants.{Running}
use Rattle.lo_model.specs.Edit.{Deed, Edit, edits_by}
use Rattle.xact_core.specs.Transactions.{Transactions, levels_of}
use Rattle.lo_pages.specs.declared.pages.Pages.{Pages}
use Rattle.lo_pages.specs.Outcome.{first_of, Adds, LeavesOwn}
use Rattle.lo_pages.specs.Outcome as pages
use Rattle.lo_pages.specs.Standing.{GoWith, StandFor}
use Rattle.lo_calls.specs.declared.session.LoSession.{LoSession}
use Rattle.lo_calls.specs.Descriptors.{descriptors_of, holds_of}
use Rattle.lo_calls.specs.Row.{Here, Granted, Row}
use Rattle.lo_calls.specs.World.{World, world, here_of, counter_end, IsReady, IsGranted, Grants, IsSameSession, FindsNoMemory, Denies, Keeps}
use Rattle.lo_calls.proofs.Closing.{holds_same}

same_session : (old new : LoSession) → new ≡ old → IsSameSession old new
same_session old new is = record { number = ap (λ (s : LoSession). s.s) is; descriptors = ap (λ (s : LoSession). descriptors_of s.descs) is; holds = ap (λ (s : LoSession). holds_of s.descs) is }

pub no_memory : (old new : World) → LeavesOwn old.xacts old.session.s old.store.pages new.store.pages → new.store.counter ≡ old.store.counter → new.session ≡ old.session → new.xacts ≡ old.xacts → FindsNoMemory old new
no_memory old new left counter session xacts = record { pages = left; counter = counter; session = same_session old.session new.session session; xacts = xacts }

-- the edits that a session makes of some deeds at its top level
abbrev pub made_of : World → List Deed → List (Edit Deed)
made_of w deeds = edits_by w.xacts.clock (Running w.session.s (length (levels_of w.xacts w.session.s))) deeds

-- what a row grants, where the pages made some edits and the call answered so
pub record IsRowOf (old new : World) (granted : Granted) (reply : Reply) (made : List (Edit Deed)) : Type 0 where
  pub answer : reply ≡ granted.reply
  pub deeds : made_of old granted.deeds ≡ made
  pub descriptors : descriptors_of old.session.descs ≡ granted.descriptors
  pub counter : new.store.counter ≡ granted.counter

module _ (old new : World) (xacts : new.xacts ≡ old.xacts) (session : new.session ≡ old.session) where
  pub world_same : new.store.pages ≡ old.store.pages → new.store.counter ≡ old.store.counter → new ≡ old
  world_same pages counter =
      ap (λ (x : Transactions). world x new.store new.session) xacts
      ∙ (ap (λ (s : LoSession). world old.xacts new.store s) session
      ∙ (ap (λ (p : Pages). world old.xacts (record { pages = p; counter = new.store.counter }) old.session) pages
      ∙ ap (λ (n : ℕ). world old.xacts (record { pages = old.store.pages; counter = n }) old.session) counter))

  pub store_keeps : IsReady old → GoWith old.xacts new.store.pages → new.store.counter ≤ counter_end → Keeps old new
  store_keeps ready goes counter = subst (λ (x : Transactions). Keeps old (world x new.store new.session)) (sym xacts) (subst (λ (s : LoSession). Keeps old (world old.xacts new.store s)) (sym session) by_store)
    where
      by_store : Keeps old (world old.xacts new.store old.session)
      by_store = record {
        ready = record { transaction = ready.transaction; whole = ready.whole; goes = goes; descriptors = ready.descriptors; counter = counter };
        session = refl;
        others = holds_same old.xacts;
        holds = record { rest = λ others is. is };
        views = omega arith;
      }

  module _ (row : Here → Row) (refused : List (Edit Deed) → Option Refusal) (agrees : (ys : List (Edit Deed)) → StandFor old.xacts old.store.pages ys → first_of (row (here_of old ys)).refusals ≡ refused ys) where
    -- the pages denied the call
    pub pages_deny : new.store.counter ≡ old.store.counter → (d : Denied) → pages.Denies old.xacts old.session.s refused old.store.pages new.store.pages d → Denies row old new d
    pages_deny counter (By r) refuses = record { first = λ ys stands. agrees ys stands ∙ refuses.first ys stands; same = world_same refuses.same counter }
    pages_deny counter NoMemory left = no_memory old new left counter session xacts

    -- the pages did it
    pub pages_grant : (reply : Reply) (made : List (Edit Deed)) → Adds old.xacts refused made old.store.pages new.store.pages → ((ys : List (Edit Deed)) → StandFor old.xacts old.store.pages ys → IsRowOf old new (row (here_of old ys)).granted reply made) → Grants row old new reply
    pages_grant reply made adds is = record { granted = by }
      where
        by : (ys : List (Edit Deed)) → StandFor old.xacts old.store.pages ys → IsGranted (row (here_of old ys)) old new reply ys
        by ys stands = record {
          unrefused = agrees ys stands ∙ adds.granted ys stands;
          answer = (is ys stands).answer;
          edits = subst (λ (x : Transactions). StandFor x new.store.pages (ys ++ made_of old (row (here_of old ys)).granted.deeds)) (sym xacts) (subst (λ (es : List (Edit Deed)). StandFor old.xacts new.store.pages (ys ++ es)) (sym (is ys stands).deeds) (adds.stand ys stands));
          descriptors = ap (λ (s : LoSession). descriptors_of s.descs) session ∙ (is ys stands).descriptors;
          counter = (is ys stands).counter;
        }
