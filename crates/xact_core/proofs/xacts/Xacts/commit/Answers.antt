use Rattle.std.proofs.Common.{refl, arith}
use Rattle.xact_core.specs.Ends.{commit_at}
use Rattle.xact_core.specs.Inside.{seen_of}
use Rattle.xact_core.specs.Opened.{nothing}
use Rattle.xact_core.proofs.Contracts.{ended, ended_count, turns_by}
use Rattle.xact_core.proofs.Owners.{commit_ends, commit_all, commit_bounds}
use Rattle.xact_core.proofs.Sessions.{whole_turned, whole_well}
use Rattle.xact_core.proofs.ViewLaws.{commit_shows, commit_spares, commit_held}
use Rattle.xact_core.proofs.xacts.Xacts.commit.Goals as goal

pub invariant_of-self : goal.invariant_of-self
invariant_of-self c =
    record {
      clock = c.self.invariant.clock;
      undos = c.self.invariant.undos;
      well = whole_well c.self.inside.clock c.self.inside.undos c.args.s 0 (commit_at c.args.s c.self.inside.clock) _ _ _ _ (commit_ends c.args.s c.self.inside.clock) (commit_all c.args.s c.self.inside.clock) (commit_bounds c.self.inside.clock c.args.s c.self.inside.clock (omega arith)) c.self.invariant.well c.end_transaction.ensures;
      views = ended_count _ _ c.args.s nothing c.self.inside.held.items c.self.invariant.well.levels.sixteen c.end_transaction.ensures.low c.end_transaction.ensures.high c.end_transaction.ensures.levels (omega arith) c.self.invariant.views;
    }

pub returns-clause-ends : goal.returns-clause-ends
returns-clause-ends c =
    rw (← c.self.view_is)
    (ended c.self.inside (record { clock = c.self.inside.clock; undos = c.self.inside.undos; sessions = c.end_transaction.new.sessions; fates = c.end_transaction.new.fates; held = c.self.inside.held }) _ c.args.s nothing (commit_at c.args.s c.self.inside.clock) 0
    refl c.self.invariant c.end_transaction.ensures.low c.end_transaction.ensures.high c.end_transaction.ensures.levels refl refl refl
    (turns_by (commit_at c.args.s c.self.inside.clock) (seen_of c.self.inside) _ (whole_turned c.self.inside.clock c.self.inside.undos c.args.s 0 (commit_at c.args.s c.self.inside.clock) _ _ _ _ (commit_ends c.args.s c.self.inside.clock) c.self.invariant.well c.end_transaction.ensures) refl refl))

pub returns-clause-views : goal.returns-clause-views
returns-clause-views c =
    record {
      own = commit_shows c.args.s c.args.self.now.clock c.args.self.now _ (returns-clause-ends c).owners refl;
      spared = commit_spares c.args.s c.args.self.now.clock c.args.self.now _ (returns-clause-ends c).owners;
      earlier = commit_held c.args.s c.args.self.now.clock c.args.self.now _ (returns-clause-ends c).owners refl;
    }
