use Rattle.std.proofs.Common.{refl, arith}
use Rattle.xact_core.specs.Ends.{undo}
use Rattle.xact_core.specs.Inside.{seen_of}
use Rattle.xact_core.specs.Opened.{nothing}
use Rattle.xact_core.proofs.Contracts.{ended, ended_count, turns_by}
use Rattle.xact_core.proofs.Owners.{undo_ends, undo_all, undo_bounds}
use Rattle.xact_core.proofs.Sessions.{whole_turned, whole_well}
use Rattle.xact_core.proofs.ViewLaws.{undo_views, undo_held}
use Rattle.xact_core.proofs.xacts.Xacts.abort.Goals as goal

pub invariant_of-self : goal.invariant_of-self
invariant_of-self c =
    record {
      clock = c.self.invariant.clock;
      undos = c.self.invariant.undos;
      well = whole_well c.self.inside.clock c.self.inside.undos c.args.s 1 (undo c.args.s 1) _ _ _ _ (undo_ends c.args.s 1) (undo_all c.args.s) (undo_bounds c.self.inside.clock c.args.s 1) c.self.invariant.well c.end_transaction.ensures;
      views = ended_count _ _ c.args.s nothing c.self.inside.held.items c.self.invariant.well.levels.sixteen c.end_transaction.ensures.low c.end_transaction.ensures.high c.end_transaction.ensures.levels (omega arith) c.self.invariant.views;
    }

pub returns-clause-ends : goal.returns-clause-ends
returns-clause-ends c =
    ended c.self.inside (record { clock = c.self.inside.clock; undos = c.self.inside.undos; sessions = c.end_transaction.new.sessions; fates = c.end_transaction.new.fates; held = c.self.inside.held }) _ c.args.s nothing (undo c.args.s 1) 0
    c.self.view_is c.self.invariant c.end_transaction.ensures.low c.end_transaction.ensures.high c.end_transaction.ensures.levels refl refl refl
    (turns_by (undo c.args.s 1) (seen_of c.self.inside) _ (whole_turned c.self.inside.clock c.self.inside.undos c.args.s 1 (undo c.args.s 1) _ _ _ _ (undo_ends c.args.s 1) c.self.invariant.well c.end_transaction.ensures) refl refl)

pub returns-clause-views : goal.returns-clause-views
returns-clause-views c = record { sees = undo_views c.args.s 1 c.args.self.now _ (returns-clause-ends c).owners }

pub returns-clause-others : goal.returns-clause-others
returns-clause-others c = record { sees = undo_held c.args.s 1 c.args.self.now _ (returns-clause-ends c).owners }
