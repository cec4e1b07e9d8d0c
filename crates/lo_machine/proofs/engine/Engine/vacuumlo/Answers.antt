use Rattle.std.proofs.Common.{ℕ, List, length, refl, subst, sym}
use Rattle.std.specs.Vec.{with_item}
use Rattle.std.specs.List.Sorted.{IsStrictlyIncreasing}
use Rattle.lo_base.specs.declared.refusal.Cause.TheVariants.{InBlock}
use Rattle.lo_base.specs.declared.reply.Reply.TheVariants.{Counted}
use Rattle.lo_base.specs.declared.reply.Word.TheVariants as words
use Rattle.lo_base.specs.declared.request.Request.TheVariants.{Vacuumlo}
use Rattle.lo_model.proofs.ListingLaws.{oids_ascend}
use Rattle.lo_machine.specs.Engine.{Does}
use Rattle.lo_machine.specs.State.{view_of}
use Rattle.lo_machine.specs.Step.{outcome}
use Rattle.lo_machine.proofs.ActOutcomes.{vacuumlo_inside}
use Rattle.lo_machine.proofs.BlockRequests.{failure_is, inside}
use Rattle.lo_machine.proofs.CleanupsKept.{IsOwn}
use Rattle.lo_machine.proofs.SweepRequests.{begin_does, refused_does, with_own}
use Rattle.lo_machine.proofs.engine.Engine.vacuumlo.Goals as goal

pub returns-then-is_open-clause-ok : goal.returns-then-is_open-clause-ok
returns-then-is_open-clause-ok c =
    let old = c.args.self.now in
    let s = c.args.s in
    let range = c.number.ensures in
    let low = rw range.same at range.range.0 in
    let high = rw range.same at range.range.1 in
    refused_does old c.refuse-then-is_open.new.self s (Vacuumlo c.args.dry c.args.limit) InBlock c.refuse-then-is_open.result
    (λ st stands. vacuumlo_inside st s c.args.dry c.args.limit (failure_is s low high old.server _ c.if-is_failed.ensures st stands.server) (inside s low high old.server (c.if-is_open.ensures.«open» refl) st stands.server))
    c.refuse-then-is_open.ensures.does

pub begin-requires : goal.begin-requires
begin-requires c =
    let st = c.requires.sound.stands.state in
    subst IsStrictlyIncreasing (sym (c.in_ok-list.ensures st c.requires.sound.stands.stands.server)) (oids_ascend (view_of st c.args.s))

pub returns-clause-ok : goal.returns-clause-ok
returns-clause-ok c =
    let old = c.args.self.now in
    let s = c.args.s in
    let range = c.number.ensures in
    let own : IsOwn old s c.place.result c.index_mut.result.now = record {
      low = rw range.same at range.range.0;
      high = rw range.same at range.range.1;
      at = c.place.ensures.place;
      sixteen = c.requires.sound.sound.sixteen;
      taken = c.index_mut.ensures.value;
    } in
    subst (λ (l : List ℕ). Does old (with_own old.server (with_item old.cleanups c.place.result c.begin.result)) s (λ st. outcome st s (Vacuumlo c.args.dry c.args.limit)) (Counted words.Listed (length l))) (sym c.items.ensures)
    (begin_does old s c.place.result c.index_mut.result.now own c.begin.result (with_item old.cleanups c.place.result c.begin.result) refl c.args.dry c.args.limit c.in_ok-list.list c.in_ok-scans.scans (c.if-is_open.ensures.none refl) (sym c.if-is_failed.ensures) c.in_ok-list.ensures c.in_ok-scans.ensures c.begin.ensures)
