-- What a session sees now, in a view that is kept: its own in a transaction, and what is committed outside of one.
use Rattle.std.proofs.Common.{◌≡◌, ◌≤◌, ℕ, ◌+◌, Bool, true, false, List, [], ◌∷◌, length, Option, Some, None, refl, ap, sym, subst, ◌∙◌, arith}
use Rattle.std.specs.Prelude.{All, ◌==◌, is_some}
use Rattle.std.proofs.lemmas.Bool.{false≢true}
use Rattle.std.proofs.lemmas.Bool.Decides.{nat_tests}
use Rattle.std.proofs.lemmas.List.Elements.{All-head, All-tail}
use Rattle.lo_model.specs.declared.owner.Owner.{Owner}
use Rattle.lo_model.specs.declared.owner.Owner.TheVariants.{Running, Committed}
use Rattle.lo_model.specs.declared.viewer.Viewer.TheVariants.{Nobody, Whole}
use Rattle.lo_model.specs.Descriptor.{bytes_or_none}
use Rattle.lo_model.specs.Edit.{Deed, Edit}
use Rattle.lo_model.specs.Object.{object_in}
use Rattle.lo_model.specs.Session.{Session}
use Rattle.lo_model.specs.Transaction.{top_level}
use Rattle.lo_model.specs.View.{has_owner, view}
use Rattle.lo_pages.specs.Outcome.{largest_size}
use Rattle.lo_pages.specs.Standing.{ReadsAs}
use Rattle.lo_pages.proofs.Standing.{reads_as}
use Rattle.lo_restore.specs.Objects.{AreFit, IsFit}
use Rattle.row_versions.specs.Looks.{IsLook}
use Rattle.xact_core.specs.declared.snapshot.Snapshot.{Snapshot}
use Rattle.xact_core.specs.Kept.{current, current_committed}
use Rattle.lo_machine.specs.declared.server.Server.{Server}
use Rattle.lo_machine.specs.Fitting.{IsSized}
use Rattle.lo_machine.specs.Server.{StandsFor, names_in, xacts_of}
use Rattle.lo_machine.specs.State.{State, edits, now, session_of, view_of}
use Rattle.lo_machine.specs.Well.{IsOwner, IsPast}
use Rattle.lo_machine.proofs.CommittedRows.{seen_committed}
use Rattle.lo_machine.proofs.FitViews.{view_object}
use Rattle.lo_machine.proofs.Readings.{past_later}

-- A session with no levels has no open edits.

module _ (clock s : ℕ) (sessions : ℕ → Session) (none : top_level (sessions s).transaction ≡ 0) where
  none_open : (t level : ℕ) → IsOwner clock sessions (Running t level) → (test : Bool) → (t == s) ≡ test → test ≡ false
  none_open t level was false is = refl
  none_open t level was true is =
      let same : t ≡ s = grind (arith, nat_tests, is) in
      let none_there : top_level (sessions t).transaction ≡ 0 = ap (λ (u : ℕ). top_level (sessions u).transaction) same ∙ none in
      absurd (omega (arith, was.0, was.1, none_there))

  owner_same : (owner : Owner) → IsOwner clock sessions owner → has_owner clock (Whole s) owner ≡ has_owner clock Nobody owner
  owner_same (Running t level) was = none_open t level was (t == s) refl
  owner_same (Committed c) was = refl

  committed_alone : (es : List (Edit Deed)) → All (IsPast clock sessions) es → view clock (Whole s) es ≡ view clock Nobody es
  committed_alone [] all = refl
  committed_alone (e ∷ es) all =
      let past : IsPast clock sessions e = All-head (IsPast clock sessions) e es all in
      let rest = committed_alone es (All-tail (IsPast clock sessions) e es all) in
      rw (owner_same e.owner past.owner, rest) refl

module _ (e : Server) (st : State) (stands : StandsFor e st) (s : ℕ) where
  abbrev seen : Snapshot → List (Edit Deed)
  seen v = view v.clock v.viewer (edits st)

  pub seen_within : (v : Snapshot) → v ≡ current (xacts_of e) s → seen v ≡ view_of st s
  seen_within v is =
      ap seen is
      ∙ (ap (λ (time : ℕ). view (time + 1) (Whole s) (edits st)) stands.time
      ∙ past_later (now st) (session_of st) (edits st) stands.well.well.past (Whole s))

  pub seen_outside : (v : Snapshot) → v ≡ current_committed (xacts_of e) → 1 ≤ s → s ≤ 16 → length (names_in e s) ≡ 0 → seen v ≡ view_of st s
  seen_outside v is low high none =
      let no_levels : top_level (session_of st s).transaction ≡ 0 = sym (ap length (stands.has.sessions s low high).levels) ∙ none in
      seen_committed e st stands v is ∙ sym (committed_alone (now st) s (session_of st) no_levels (edits st) stands.well.well.past)

  -- so its objects are read there
  pub seen_reads : (v : Snapshot) → IsLook (xacts_of e) v → seen v ≡ view_of st s → ReadsAs (xacts_of e) v e.store.pages (view_of st s)
  seen_reads v kept is = subst (ReadsAs (xacts_of e) v e.store.pages) is (reads_as (xacts_of e) e.store.pages (edits st) v stands.has.edits kept)

  pub seen_are_fit : AreFit (view_of st s)
  seen_are_fit o there = by (object_in o (view_of st s)) refl
    where
      by : (found : Option (List ℕ)) → object_in o (view_of st s) ≡ found → IsFit (view_of st s) o
      by None is = absurd (false≢true (sym (ap is_some is) ∙ there))
      by (Some bytes) is =
          let sized : IsSized o bytes = view_object st stands.well stands.fit (Whole s) o bytes is in
          record { least = sized.least; most = sized.most; size = subst (λ (found : Option (List ℕ)). length (bytes_or_none found) ≤ largest_size) (sym is) sized.size }
