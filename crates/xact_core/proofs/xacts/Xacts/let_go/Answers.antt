use Rattle.std.proofs.Common.{◌∷◌, subst}
use Rattle.std.specs.Prelude.{IsPermutation}
use Rattle.xact_core.specs.declared.snapshot.Snapshot.{Snapshot}
use Rattle.xact_core.specs.Kept.{TakesOut}
use Rattle.xact_core.specs.Transactions.{Transactions}
use Rattle.xact_core.proofs.Contracts.{taken_order, let_go_views, let_go_others, let_go_whole}
use Rattle.xact_core.proofs.xacts.Xacts.let_go.Goals as goal

takes : (c : goal.After-take_out) → TakesOut c.args.hold c.self.inside.held.items c.take_out.new.held.items
takes c = subst (λ (view : Snapshot). TakesOut view c.self.inside.held.items c.take_out.new.held.items) c.snapshot.ensures c.take_out.ensures

pub returns-clause-order : goal.returns-clause-order
returns-clause-order c = subst (λ (v : Transactions). IsPermutation v.held (c.args.hold ∷ c.take_out.new.held.items)) c.self.view_is (taken_order c.args.hold c.self.inside.held.items c.take_out.new.held.items (takes c))

pub returns-clause-views : goal.returns-clause-views
returns-clause-views c = let_go_views c.self.inside c.args.self.now c.args.hold c.take_out.new.held.items c.self.view_is (takes c)

pub returns-clause-others : goal.returns-clause-others
returns-clause-others c = let_go_others c.self.inside c.args.self.now c.args.hold c.take_out.new.held.items c.self.view_is (takes c)

pub returns-clause-whole : goal.returns-clause-whole
returns-clause-whole c = let_go_whole c.self.inside c.args.self.now c.args.hold c.take_out.new.held.items c.self.view_is (takes c)
