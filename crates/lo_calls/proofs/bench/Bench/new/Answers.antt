use Rattle.std.proofs.Common.{◌≡◌, ap, arith}
use Rattle.xact_core.specs.Transactions.{Transactions, beginning}
use Rattle.row_versions.proofs.Benching.{said_ok}
use Rattle.lo_pages.specs.declared.pages.Pages.{Pages}
use Rattle.lo_pages.specs.Standing.{GoWith}
use Rattle.lo_calls.specs.declared.store.LoStore.{LoStore}
use Rattle.lo_calls.proofs.Benching.{said, both_begun}
use Rattle.lo_calls.proofs.bench.Bench.new.Goals as goal

pub returns : goal.returns
returns g c =
    let one = c.session_of-session.result in
    let two = c.session_of-other.result in
    let x0 = c.expect-xacts.result in
    let store : LoStore = record { pages = c.expect-3.result; counter = c.args.counter } in
    let started : x0 ≡ beginning = said (λ (x : Transactions). x ≡ beginning) c.new.result x0 c.expect-xacts.ensures c.new.ensures in
    let first = said_ok c.begin.result c.expect.result c.expect.ensures c.begin.ensures.ok in
    let second = said_ok c.begin-2.result c.expect-2.result c.expect-2.ensures c.begin-2.ensures.ok in
    let none = ap (λ (x : Transactions). x.undos) started in
    record {
      ready = both_begun x0 c.begin.new.self c.begin-2.new.self store one two
          (ap (λ (x : Transactions). x.held) started)
          (said (λ (pages : Pages). (x : Transactions) → GoWith x pages) c.new-2.result c.expect-3.result c.expect-3.ensures c.new-2.ensures.goes)
          c.requires.counter
          (λ same. omega (arith, c.session_of-session.ensures.number, c.session_of-other.ensures.number, same))
          c.session_of-session.ensures.open c.session_of-other.ensures.open c.session_of-session.ensures.holds c.session_of-other.ensures.holds
          first
          second;
      undos = omega (arith, none, first.undos, second.undos);
    }
