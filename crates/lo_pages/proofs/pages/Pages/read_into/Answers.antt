use Rattle.std.proofs.Common.{arith, ◌∙◌, ap, ℕ, ◌≡◌, ◌≤◌, length, List, drop, take, ◌++◌, length-drop, length-take}
use Rattle.lo_model.specs.Descriptor.{bytes_or_none}
use Rattle.lo_model.specs.Object.{object_in}
use Rattle.lo_pages.specs.Object.{bytes_from}
use Rattle.lo_pages.specs.Standing.{page_value, stores_of}
use Rattle.lo_pages.specs.Stores.{bytes_at}
use Rattle.lo_pages.proofs.Filling.{piece_is, end_is}
use Rattle.lo_pages.proofs.pages.Pages.read_into.Goals as goal

pub returns-clause-bytes : goal.returns-clause-bytes
returns-clause-bytes c = λ edits reads.
    let size_is : c.size.result ≡ length (bytes_or_none (object_in c.args.oid edits)) = c.size.ensures edits reads in
    let bound : length (bytes_or_none (object_in c.args.oid edits)) ≤ 8796093022208 = end_is c.args.core.now.xacts c.args.snap.now c.args.self.now edits reads c.args.oid in
    let part : length (take c.min-count.result c.args.out.now) ≡ c.min-count.result = omega (arith, length-take c.min-count.result c.args.out.now, c.min-count.ensures) in
    let count : c.min-count.result ≡ length (take (length c.args.out.now) (drop c.args.at (bytes_or_none (object_in c.args.oid edits)))) = omega (arith, c.min-count.ensures, c.saturating_sub.ensures, c.min-end.ensures, size_is, bound, length-take (length c.args.out.now) (drop c.args.at (bytes_or_none (object_in c.args.oid edits))), length-drop {A = ℕ} c.args.at (bytes_or_none (object_in c.args.oid edits))) in
    ap (λ (l : List ℕ). l ++ drop c.min-count.result c.args.out.now) (c.fill.ensures ∙ (ap (bytes_from (bytes_at page_value c.args.core.now.xacts c.args.snap.now (stores_of c.args.self.now) c.args.oid) c.args.at) part ∙ piece_is c.args.core.now.xacts c.args.snap.now c.args.self.now edits reads c.args.oid c.args.at (length c.args.out.now) c.min-count.result count))
