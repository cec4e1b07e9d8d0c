use Rattle.std.proofs.Common.{◌≡◌, ◌∙◌, ap, sym, subst, rules, List, None}
use Rattle.std.specs.BTreeMap.Range.{entries_between}
use Rattle.std.specs.declared.ops.Bound.TheVariants.{Included}
use Rattle.row_versions.specs.declared.chain.Entry.{Entry}
use Rattle.row_versions.specs.Chain.{versions_of}
use Rattle.row_versions.specs.Stack.{Each, IsStack}
use Rattle.row_versions.specs.Stands.{standing, lowest_other}
use Rattle.row_versions.proofs.Ranges.{lowest_of, lowest_more}
use Rattle.row_versions.proofs.Searched.{Chain, busy_of, stacks_in, searched_in}
use Rattle.row_versions.proofs.store.Store.busy_in.Goals as goal

pub loop-key-init : goal.loop-key-init
loop-key-init g c =
    let is : c.into_iter-key-iterator.result ≡ entries_between g.K.Ord.cmp (Included c.args.from.now) (Included c.args.to.now) c.args.self.now.chains.entries = search rules in (
      ap (lowest_of (busy_of c.args.core.now.xacts c.args.s) None) is,
      subst (Each (λ (e : g.row.K.Denot × Chain g.row.D.Denot). IsStack c.args.core.now.xacts (standing c.args.core.now.xacts (versions_of e.1.items)))) (sym is) (stacks_in g.K.Ord.cmp g.met.K.Ord.total g.met.K.Key.exact c.args.core.now.xacts c.args.self.now c.range-key-items.ensures.ordered (Included c.args.from.now) (Included c.args.to.now) c.requires.goes.stacks),
    )

pub busy-requires : goal.busy-requires
busy-requires g c = subst (λ (es : List (Entry g.row.D.Denot)). IsStack c.args.core.now.xacts (standing c.args.core.now.xacts (versions_of es))) (sym c.as_slice.ensures.value) (subst (Each (λ (e : g.row.K.Denot × Chain g.row.D.Denot). IsStack c.args.core.now.xacts (standing c.args.core.now.xacts (versions_of e.1.items)))) c.in-Some.ensures.steps c.loop-key.invariant.1).0

pub loop-key-preserved : goal.loop-key-preserved
loop-key-preserved g c = (
  lowest_more (busy_of c.args.core.now.xacts c.args.s) c.loop-key.lowest c.lower-lowest.result c.busy.result c.in-Some._key.now c.in-Some.entries.now c.next.new.self c.loop-key._key-iterator c.in-Some.ensures.steps c.lower-lowest.ensures (c.busy.ensures ∙ ap (λ (es : List (Entry g.row.D.Denot)). lowest_other c.args.s (standing c.args.core.now.xacts (versions_of es))) c.as_slice.ensures.value) ∙ c.loop-key.invariant.0,
  (subst (Each (λ (e : g.row.K.Denot × Chain g.row.D.Denot). IsStack c.args.core.now.xacts (standing c.args.core.now.xacts (versions_of e.1.items)))) c.in-Some.ensures.steps c.loop-key.invariant.1).1,
)

pub returns : goal.returns
returns g c = searched_in g.K.Ord.cmp g.met.K.Ord.total g.met.K.Key.exact c.args.core.now.xacts c.args.self.now c.range-key-items.ensures.ordered c.args.s c.args.from.now c.args.to.now c.loop-key.lowest (sym (ap (lowest_of (busy_of c.args.core.now.xacts c.args.s) c.loop-key.lowest) c.in-None.ensures.steps.0) ∙ c.loop-key.invariant.0)
