use Rattle.std.proofs.Common.{◌≡◌, false, ℕ, List, Option, Some, length, ap, refl, sym, subst, ◌∙◌}
use Rattle.lo_base.specs.declared.reply.Reply.TheVariants.{Counted}
use Rattle.lo_base.specs.declared.reply.Word.TheVariants as words
use Rattle.orphan_sweep.specs.declared.act.SweepAct.{SweepAct}
use Rattle.orphan_sweep.specs.declared.act.SweepAct.TheVariants.{Scan}
use Rattle.orphan_sweep.specs.declared.act.Told.TheVariants.{Found}
use Rattle.orphan_sweep.specs.History.{History, and_told, next_act}
use Rattle.orphan_sweep.specs.Plan.{is_answer_to}
use Rattle.orphan_sweep.specs.Rest.{less}
use Rattle.orphan_sweep.specs.State.{next_of}
use Rattle.lo_machine.specs.Engine.{next_in}
use Rattle.lo_machine.specs.State.{answered}
use Rattle.lo_machine.specs.SweepRows.{act_granted, act_refusals, answer_to, found_in, is_idle, rest_in}
use Rattle.lo_machine.proofs.CleanupsKept.{IsOwn, own_next}
use Rattle.lo_machine.proofs.SweepRequests.{answer_does, own_at, own_begun, rest_found}
use Rattle.lo_machine.proofs.engine.Engine.scan.Goals as goal

pub returns-clause-ok : goal.returns-clause-ok
returns-clause-ok c =
    let old = c.args.self.now in
    let s = c.args.s in
    let mine = c.index_mut-own.result.now in
    let range = c.number.ensures in
    let own : IsOwn old s c.place-place.result mine = record {
      low = rw range.same at range.range.0;
      high = rw range.same at range.range.1;
      at = c.place-place.ensures.place;
      sixteen = c.requires.sound.sound.sixteen;
      taken = c.index_mut-own.ensures.value;
    } in
    let looked : IsOwn old s c.place-place.result c.index.result.now = record {
      low = rw range.same at range.range.0;
      high = rw range.same at range.range.1;
      at = c.place-place.ensures.place;
      sixteen = c.requires.sound.sound.sixteen;
      taken = c.index.ensures;
    } in
    let next : next_in old s ≡ Scan c.in-Scan.table c.in-Scan.column = own_next old s c.place-place.result c.index.result.now looked ∙ (sym c.next.ensures.next ∙ c.in-Scan.is) in
    let busy : is_idle (next_in old s) ≡ _ = ap is_idle next in
    answer_does old s c.place-place.result mine own c.tell.new.self _ refl _ (Found c.in_ok-found.found) busy
    (λ st stands. ap (act_refusals st s) next)
    (λ st stands.
    let begun = own_begun old s c.place-place.result mine own st stands busy in
    let at = own_at old s c.place-place.result mine own st stands begun.history begun.is in
    let fits : is_answer_to (next_act begun.history) (Found c.in_ok-found.found) ≡ _ = ap (λ (act : SweepAct). is_answer_to act (Found c.in_ok-found.found)) (sym (ap next_of at.sweep) ∙ (sym (own_next old s c.place-place.result mine own) ∙ next)) in
    let found : c.in_ok-found.found ≡ found_in st s c.in-Scan.table c.in-Scan.column = c.in_ok-found.ensures st stands.server in
    let left : c.rest.result.now ≡ less (rest_in (Some begun.history)) c.in_ok-found.found =
    c.rest.ensures (Some (and_told begun.history (Found c.in_ok-found.found))) (c.tell.ensures begun.history at) ∙ rest_found begun.history c.in_ok-found.found fits in
    ap (act_granted st s) next
    ∙ ap (λ (xs : List ℕ). answered st s (Counted words.Scanned (length xs)))
    (ap (λ (h : Option History). less (rest_in h) (found_in st s c.in-Scan.table c.in-Scan.column)) begun.is
    ∙ (ap (less (rest_in (Some begun.history))) (sym found) ∙ sym left)))
    (λ st stands. ap (λ (act : SweepAct). answer_to st s act false) next ∙ ap Found (sym (c.in_ok-found.ensures st stands.server)))
    c.tell.ensures
