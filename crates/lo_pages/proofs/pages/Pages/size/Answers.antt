use Rattle.std.specs.Prelude.{List}
use Rattle.lo_model.specs.Descriptor.{bytes_or_none}
use Rattle.lo_pages.specs.Standing.{page_value, stores_of}
use Rattle.lo_pages.specs.Stores.{bytes_at}
use Rattle.std.proofs.Common.{◌≡◌, ℕ, length, ap, sym, arith}
use Rattle.lo_pages.proofs.Finding.{size_without, size_by_last}
use Rattle.lo_pages.proofs.pages.Pages.size.Goals as goal

pub returns-in-None : goal.returns-in-None
returns-in-None c = λ edits reads. sym (size_without c.args.core.now.xacts c.args.snap.now c.args.self.now edits reads c.args.oid (c.in-None.ensures))

pub returns-in-Some : goal.returns-in-Some
returns-in-Some c = λ edits reads.
    let shown : length c.page.result.now ≡ length (bytes_or_none (bytes_at page_value c.args.core.now.xacts c.args.snap.now (stores_of c.args.self.now) c.args.oid c.in-Some.key.number)) = ap (λ (bytes : List ℕ). length bytes) c.page.ensures in
    omega (arith, shown, size_by_last c.args.core.now.xacts c.args.snap.now c.args.self.now edits reads c.args.oid c.in-Some.key (c.in-Some.ensures))
