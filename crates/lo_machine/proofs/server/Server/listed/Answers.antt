use Rattle.std.proofs.Common.{◌≡◌, ℕ, List}
use Rattle.std.proofs.lemmas.Result.{IfOk-weaker}
use Rattle.lo_model.specs.Edit.{Deed, Edit}
use Rattle.lo_model.specs.Listing.{oids_in}
use Rattle.lo_pages.specs.Standing.{ReadsAs}
use Rattle.lo_restore.specs.Objects.{AreFit}
use Rattle.lo_machine.specs.Server.{StandsFor}
use Rattle.lo_machine.specs.State.{State, view_of}
use Rattle.lo_machine.proofs.ScannedViews.{seen_are_fit, seen_reads}
use Rattle.lo_machine.proofs.server.Server.listed.Goals as goal

pub numbers_of_objects-requires : goal.numbers_of_objects-requires
numbers_of_objects-requires c =
    let st = c.requires.stands.state in
    let stands = c.requires.stands.stands in
    record {
      kept = c.current_look-snap.ensures.look;
      reads = record {
        edits = view_of st c.args.s;
        reads = seen_reads c.args.self.now st stands c.args.s c.current_look-snap.result c.current_look-snap.ensures.look (c.current_look-snap.ensures.view st stands);
      };
    }

pub returns : goal.returns
returns c =
    let e = c.args.self.now in
    let v = c.current_look-snap.result in
    IfOk-weaker c.numbers_of_objects.result
    (λ (list : List ℕ). (edits : List (Edit Deed)) → ReadsAs e.core.xacts v e.store.pages edits → AreFit edits → list ≡ oids_in edits)
    (λ (list : List ℕ). (st : State) → StandsFor e st → list ≡ oids_in (view_of st c.args.s))
    (λ list is st stands. is (view_of st c.args.s) (seen_reads e st stands c.args.s v c.current_look-snap.ensures.look (c.current_look-snap.ensures.view st stands)) (seen_are_fit e st stands c.args.s))
    c.numbers_of_objects.ensures
