use Rattle.std.proofs.Common.{◌≡◌, Bool, true, false, ap, sym, ◌∙◌}
use Rattle.std.specs.Prelude.{not, ◌&&◌}
use Rattle.std.proofs.lemmas.Bool.{false≢true}
use Rattle.lo_model.specs.Listing.{has_object}
use Rattle.lo_model.specs.View.{view}
use Rattle.xact_core.specs.declared.snapshot.Snapshot.{Snapshot}
use Rattle.lo_pages.proofs.Standing.{reads_as}
use Rattle.lo_pages.proofs.pages.Pages.is_free.Goals as goal

free_then : (e h p q : Bool) → e ≡ h → p ≡ q → e ≡ false → not p ≡ (not h && not q)
free_then true h p q same alike is = absurd (false≢true (sym is))
free_then false h p q same alike is = ap not alike ∙ ap (λ (b : Bool). not b && not q) same

free_else : (e h q : Bool) → e ≡ h → e ≡ true → not e ≡ (not h && not q)
free_else true h q same is = ap (λ (b : Bool). not b && not q) same
free_else false h q same is = absurd (false≢true is)

pub returns-then-not-exists : goal.returns-then-not-exists
returns-then-not-exists c = λ ys stands. free_then c.exists.result _ c.is_open.result _ (c.exists.ensures (view c.committed.result.clock c.committed.result.viewer ys) (reads_as c.args.core.now.xacts c.args.self.now ys c.committed.result stands c.committed.ensures.kept) ∙ ap (λ (v : Snapshot). has_object (view v.clock v.viewer ys) c.args.oid) c.committed.ensures.view) (c.is_open.ensures ys stands) c.if-not-exists.true

pub returns-else-not-exists : goal.returns-else-not-exists
returns-else-not-exists c = λ ys stands. free_else c.exists.result _ _ (c.exists.ensures (view c.committed.result.clock c.committed.result.viewer ys) (reads_as c.args.core.now.xacts c.args.self.now ys c.committed.result stands c.committed.ensures.kept) ∙ ap (λ (v : Snapshot). has_object (view v.clock v.viewer ys) c.args.oid) c.committed.ensures.view) c.if-not-exists.false
