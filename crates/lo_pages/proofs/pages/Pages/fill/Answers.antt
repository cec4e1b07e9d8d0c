use Rattle.std.proofs.Common.{arith, ◌∙◌, ap, ℕ, ◌≡◌, ◌≤◌, ◌+◌, ◌-◌, ◌/◌, ◌%◌, length, drop, take, length-drop, length-take}
use Rattle.lo_model.specs.Object.{at_size}
use Rattle.lo_pages.specs.Standing.{page_value, stores_of}
use Rattle.lo_pages.specs.Stores.{bytes_at}
use Rattle.lo_pages.proofs.Filling.{fill_put}
use Rattle.lo_pages.proofs.pages.Pages.fill.Goals as goal

pub loop-done-preserved : goal.loop-done-preserved
loop-done-preserved c =
    let high : c.min-end.result ≤ length c.args.out.now = omega (arith, c.min-end.ensures) in
    let low : c.loop-done.done ≤ c.min-end.result = omega (arith, c.min-end.ensures, c.loop-done-test.true) in
    let all : length c.loop-done.out ≡ length c.args.out.now = c.loop-done.auto.out in
    let part : length (take (c.min-end.result - c.loop-done.done) (drop c.loop-done.done c.loop-done.out)) ≡ c.min-end.result - c.loop-done.done = omega (arith, length-take (c.min-end.result - c.loop-done.done) (drop c.loop-done.done c.loop-done.out), length-drop {A = ℕ} c.loop-done.done c.loop-done.out, all, high) in
    (high, fill_put (bytes_at page_value c.args.core.now.xacts c.args.snap.now (stores_of c.args.self.now) c.args.oid) c.args.at c.loop-done.done c.min-end.result ((c.args.at + c.loop-done.done) % 2048) ((c.args.at + c.loop-done.done) / 2048) c.loop-done.out c.args.out.now c.page-page.result.now c.fill.new.out low high (omega arith) (omega arith) (omega (arith, c.min-end.ensures)) c.loop-done.invariant.1 c.page-page.ensures (c.fill.ensures ∙ ap (λ (n : ℕ). at_size n (drop ((c.args.at + c.loop-done.done) % 2048) c.page-page.result.now)) part))
