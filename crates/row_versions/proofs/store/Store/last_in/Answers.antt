use Rattle.std.proofs.Common.{◌∙◌, ap, sym, None}
use Rattle.row_versions.proofs.Ranges.{last_key, last_passes, last_fails}
use Rattle.row_versions.proofs.Searched.{has_found, found_in, none_in, greatest_in}
use Rattle.row_versions.proofs.store.Store.last_in.Goals as goal

pub returns-then-is_some : goal.returns-then-is_some
returns-then-is_some g c =
    greatest_in g.K.Ord.cmp g.met.K.Ord.total g.met.K.Key.exact c.args.core.now.xacts c.args.self.now c.range.ensures.ordered c.args.snap.now c.args.from.now c.args.to.now c.in-Some.key.now
    (sym c.loop-key.invariant ∙ last_passes (has_found c.args.core.now.xacts c.args.snap.now) c.in-Some.key.now c.in-Some.entries.now c.next.new.self.iter c.loop-key.key-iterator.iter c.in-Some.ensures.steps (found_in c.args.core.now.xacts c.args.snap.now c.in-Some.entries.now c.as_slice.result.now c.find.result _ c.find.ensures c.as_slice.ensures.value (sym c.is_some.ensures ∙ c.if-is_some.true)))

pub loop-key-preserved : goal.loop-key-preserved
loop-key-preserved g c = last_fails (has_found c.args.core.now.xacts c.args.snap.now) c.in-Some.key.now c.in-Some.entries.now c.next.new.self.iter c.loop-key.key-iterator.iter c.in-Some.ensures.steps (found_in c.args.core.now.xacts c.args.snap.now c.in-Some.entries.now c.as_slice.result.now c.find.result _ c.find.ensures c.as_slice.ensures.value (sym c.is_some.ensures ∙ c.if-is_some.false)) ∙ c.loop-key.invariant

pub returns : goal.returns
returns g c = none_in g.K.Ord.cmp g.met.K.Ord.total g.met.K.Key.exact c.args.core.now.xacts c.args.self.now c.range.ensures.ordered c.args.snap.now c.args.from.now c.args.to.now (sym c.loop-key.invariant ∙ ap (last_key (has_found c.args.core.now.xacts c.args.snap.now) None) c.in-None.ensures.steps.0)
