use Rattle.std.proofs.Common.{◌≡◌, ◌+◌, ◌∷◌, ◌<◌, ◌≤◌, List, ℕ, drop, length, subst, sym, ap}
use Rattle.std.proofs.lemmas.List.{drop_all}
use Rattle.lo_opening.specs.Meaning.{opening_of}
use Rattle.lo_tool.proofs.PlayedOrders.{HasPlayed, here, line_left, line_played, none_played, played_to}
use Rattle.lo_tool.proofs.playing.play_order.Goals as goal

-- what is left of the order before the line
left : (c : goal.After-do_line-arg-1) → HasPlayed (opening_of c.args.opening) c.args.script.programs c.args.script.order (c.s-item.result ∷ drop (c.loop-s.s-index + 1) c.args.script.order) c.loop-s.running
left c =
    let within : c.loop-s.s-index < length c.args.script.order = rw c.items-s-items.ensures at c.loop-s-test.true in
    let at = rw c.items-s-items.ensures at c.s-item.is in
    subst (λ (rest : List ℕ). HasPlayed (opening_of c.args.opening) c.args.script.programs c.args.script.order rest c.loop-s.running)
    (here c.args.script.order c.loop-s.s-index c.s-item.result within at) c.loop-s.invariant

pub do_line-requires : goal.do_line-requires
do_line-requires c = line_left (opening_of c.args.opening) c.args.script.programs c.args.script.order c.s-item.result (drop (c.loop-s.s-index + 1) c.args.script.order) c.loop-s.running (left c)

pub loop-s-preserved : goal.loop-s-preserved
loop-s-preserved c =
    let within : c.loop-s.s-index < length c.args.script.order = rw c.items-s-items.ensures at c.loop-s-test.true in
    let at = rw c.items-s-items.ensures at c.s-item.is in
    let played = subst (λ (rest : List ℕ). HasPlayed (opening_of c.args.opening) c.args.script.programs c.args.script.order rest c.loop-s.running) (here c.args.script.order c.loop-s.s-index c.s-item.result within at) c.loop-s.invariant in
    line_played (opening_of c.args.opening) c.args.script.programs c.args.script.order c.s-item.result (drop (c.loop-s.s-index + 1) c.args.script.order) c.loop-s.running played c.do_line.new.self c.in_ok-do_line.ensures

pub returns : goal.returns
returns c =
    let past : length c.args.script.order ≤ c.loop-s.s-index = rw c.items-s-items.ensures at c.loop-s-test.false in
    played_to (opening_of c.args.opening) c.args.script.programs c.args.script.order (drop c.loop-s.s-index c.args.script.order) c.loop-s.running c.finish.result (drop_all c.loop-s.s-index c.args.script.order past) c.loop-s.invariant c.finish.ensures.replays c.finish.ensures.opening c.finish.ensures.replies
