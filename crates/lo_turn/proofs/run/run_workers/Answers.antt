use Rattle.std.proofs.Common.{ap, subst, sym, ◌∙◌, length}
use Rattle.lo_machine.specs.Replay.{Play}
use Rattle.lo_turn.specs.Turns.{BeganAs, IsIdle, numbers, owner}
use Rattle.lo_turn.specs.declared.worker.Worker.{Worker}
use Rattle.std.proofs.lemmas.List.Elements.{All-append, All-drop, All-take}
use Rattle.lo_turn.proofs.Dealing.{deals_first}
use Rattle.lo_turn.proofs.Steps.{starts, ends_as, got, got_some, got_run}
use Rattle.lo_turn.proofs.run.run_workers.Goals as goal

pub new-requires : goal.new-requires
new-requires g c = rw (c.push_reserved.ensures.items, c.in_ok-slots.ensures.items, c.of-given.ensures) (starts c.args.running)

pub unwrap-running-requires : goal.unwrap-running-requires
unwrap-running-requires g c =
    let run = ends_as c.in-Ok.made.0.shared.key.value _ c.gather.new.seat.me _ _ c.gather.ensures.seat c.close_with-closed.ensures.values.2 in
    got_some c.in-Ok.made.0.shared.key.value c.take.result (got c.in-Ok.made.0.shared.key.value _ c.take.result run c.take.ensures.value)

pub returns : goal.returns
returns g c =
    let run = ends_as c.in-Ok.made.0.shared.key.value _ c.gather.new.seat.me _ _ c.gather.ensures.seat c.close_with-closed.ensures.values.2 in
    subst (λ (given : Play). BeganAs given c.unwrap-running.result) (ap (λ s. s.value) c.in-Ok.ensures.ok.5 ∙ c.of-given.ensures)
    (got_run c.in-Ok.made.0.shared.key.value c.take.result c.unwrap-running.result (got c.in-Ok.made.0.shared.key.value _ c.take.result run c.take.ensures.value) c.unwrap-running.ensures)

pub deal-requires-clause-seat : goal.deal-requires-clause-seat
deal-requires-clause-seat g c = deals_first c.in-Ok.made.0.shared.key.value c.in-Ok.made.1.me
    (c.in-Ok.ensures.ok.4 ∙ ap (λ key. owner key.value (numbers 1 16)) (sym c.in-Ok.ensures.ok.5))

pub gather-requires-clause-idle : goal.gather-requires-clause-idle
gather-requires-clause-idle g c =
    let P = λ (x : Worker). IsIdle c.in-Ok.made.0.shared.key.value c.in-Ok.made.0.shared.table_id x in
    All-take P c.deal.new.workers.len _ (All-append P c.drive.new.workers _ c.drive.ensures.idle (All-drop P (length c.drive.new.workers) c.deal.new.workers.items c.deal.ensures.idle))
