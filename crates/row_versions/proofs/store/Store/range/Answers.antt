use Rattle.std.proofs.Common.{◌∙◌, ap, sym}
use Rattle.row_versions.proofs.Ranges.{first_key, first_passes}
use Rattle.row_versions.proofs.Searched.{has_found, found_in, none_from, least_from}
use Rattle.row_versions.proofs.store.Store.range.Goals as goal

pub returns-then-is_some : goal.returns-then-is_some
returns-then-is_some g c =
    least_from g.K.Ord.cmp g.met.K.Ord.total g.met.K.Key.exact c.args.core.now.xacts c.args.self.now c.range-key-items.ensures.ordered c.args.snap.now c.args.from.now c.in-Some.key.now
    (sym c.loop-key.invariant ∙ first_passes (has_found c.args.core.now.xacts c.args.snap.now) c.in-Some.key.now c.in-Some.entries.now c.next.new.self c.loop-key.key-iterator c.in-Some.ensures.steps (found_in c.args.core.now.xacts c.args.snap.now c.in-Some.entries.now c.as_slice.result.now c.find.result _ c.find.ensures c.as_slice.ensures.value (sym c.is_some.ensures ∙ c.if-is_some.true)))

pub returns : goal.returns
returns g c = none_from g.K.Ord.cmp g.met.K.Ord.total g.met.K.Key.exact c.args.core.now.xacts c.args.self.now c.range-key-items.ensures.ordered c.args.snap.now c.args.from.now (sym c.loop-key.invariant ∙ ap (first_key (has_found c.args.core.now.xacts c.args.snap.now)) c.in-None.ensures.steps.0)
