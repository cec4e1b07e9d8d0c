-- lo_unlink: the pages take the object away, and then the session's descriptors on it end.
use Rattle.std.proofs.Common.{◌≡◌, ℕ, pos, List, [], ◌∷◌, ◌++◌, map, refl, ap, sym, subst, ◌∙◌}
use Rattle.lo_base.specs.declared.reply.Reply.TheVariants.{Number}
use Rattle.lo_model.specs.Edit.{Deed, Unlink, Edit}
use Rattle.xact_core.specs.Transactions.{Transactions}
use Rattle.row_versions.specs.Stands.{made_now}
use Rattle.lo_pages.specs.declared.pages.Pages.{Pages}
use Rattle.lo_pages.specs.Outcome.{first_of, drop_refused, Adds}
use Rattle.lo_pages.specs.Standing.{GoWith, StandFor}
use Rattle.lo_pages.proofs.Standing.{stand_held}
use Rattle.lo_calls.specs.declared.descs.Closing.TheVariants.{OnObject}
use Rattle.lo_calls.specs.declared.descs.Descriptor.{Descriptor}
use Rattle.lo_calls.specs.declared.descs.Descs.{Descs}
use Rattle.lo_calls.specs.Descriptors.{described_by, left_open, Ends}
use Rattle.lo_calls.specs.ObjectRows.{unlink_row}
use Rattle.lo_calls.specs.Terms.{no_object}
use Rattle.lo_calls.specs.World.{World, world, here_of, IsReady, Grants, Keeps}
use Rattle.lo_calls.proofs.Busy.{busy_one}
use Rattle.lo_calls.proofs.Closing.{left_without_object}
use Rattle.lo_calls.proofs.Keeping.{with_descs, ends_keeps}
use Rattle.lo_calls.proofs.Worlds.{store_keeps}

module _ (o : ℕ) (old : World) where
  -- the pages' own refusals are the row's
  pub unlink_agrees : (ys : List (Edit Deed)) → first_of (unlink_row o (here_of old ys)).refusals ≡ drop_refused old.xacts old.session.s o ys
  unlink_agrees ys = ap (λ term. first_of (no_object (here_of old ys) o ∷ term ∷ [])) (busy_one (here_of old ys) (Unlink o))

  pub unlink_done : (mid x : Transactions) (pages : Pages) (descs : Descs) → mid ≡ old.xacts → Adds old.xacts (drop_refused old.xacts old.session.s o) (made_now old.xacts old.session.s (Unlink o) ∷ []) old.store.pages pages → Ends mid x old.session.descs descs → descs.entries.items ≡ left_open (OnObject o) old.session.descs.entries.items → Grants (unlink_row o) old (world x (record { pages = pages; counter = old.store.counter }) (with_descs old.session descs)) (Number (pos 1))
  unlink_done mid x pages descs same adds ends left = record {
    granted = λ ys stands. record {
      unrefused = unlink_agrees ys ∙ adds.granted ys stands;
      answer = refl;
      edits = stand_held mid x pages _ ends.others (subst (λ (u : Transactions). StandFor u pages (ys ++ made_now old.xacts old.session.s (Unlink o) ∷ [])) (sym same) (adds.stand ys stands));
      descriptors = ap (λ (ds : List Descriptor). map described_by ds) left ∙ left_without_object o old.session.descs.entries.items;
      counter = refl;
    };
  }

  pub unlink_keeps : (mid x : Transactions) (pages : Pages) (descs : Descs) → mid ≡ old.xacts → IsReady old → GoWith old.xacts pages → Ends mid x old.session.descs descs → Keeps old (world x (record { pages = pages; counter = old.store.counter }) (with_descs old.session descs))
  unlink_keeps mid x pages descs same ready goes ends =
      let dropped : World = world old.xacts (record { pages = pages; counter = old.store.counter }) old.session in
      let left : Keeps old dropped = store_keeps old dropped refl refl ready goes ready.counter in
      let ended : Keeps dropped (world x (record { pages = pages; counter = old.store.counter }) (with_descs old.session descs)) = ends_keeps dropped x descs left.ready (subst (λ (u : Transactions). Ends u x old.session.descs descs) same ends) in
      record { ready = ended.ready; session = ended.session; others = ended.others; holds = ended.holds; views = ended.views }
