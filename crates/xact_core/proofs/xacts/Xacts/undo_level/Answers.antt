use Rattle.std.proofs.Common.{◌+◌, ◌-◌, ◌^◌, ◌<◌, refl, sym, subst, arith}
use Rattle.xact_core.specs.Opened.{opened_at, with_undone}
use Rattle.xact_core.specs.Transactions.{Transactions}
use Rattle.xact_core.proofs.Contracts.{level_there, ended, ended_count, taken, undone_by}
use Rattle.xact_core.proofs.Sessions.{undone_well}
use Rattle.xact_core.proofs.ViewLaws.{undo_views, undo_held}
use Rattle.xact_core.specs.Ends.{undo}
use Rattle.xact_core.proofs.xacts.Xacts.undo_level.Goals as goal

pub undo_from-requires-clause-high : goal.undo_from-requires-clause-high
undo_from-requires-clause-high c = level_there c.self.inside _ c.args.s c.args.level c.self.view_is c.requires.low c.requires.high

pub invariant_of-self : goal.invariant_of-self
invariant_of-self c =
    record {
      clock = c.self.invariant.clock;
      undos = let few : c.self.inside.undos < 2 ^ 63 = subst (λ (v : Transactions). v.undos < 2 ^ 63) (sym c.self.view_is) c.requires.undos in omega arith;
      well = undone_well c.self.inside.clock c.self.inside.undos (c.self.inside.undos + 1) c.args.s c.args.level _ _ _ _ c.requires.low (level_there c.self.inside _ c.args.s c.args.level c.self.view_is c.requires.low c.requires.high) (omega arith) c.self.invariant.well c.undo_from.ensures;
      views = ended_count _ _ c.args.s (with_undone c.args.level (opened_at c.self.inside.sessions.items (c.args.s - 1))) c.self.inside.held.items c.self.invariant.well.levels.sixteen c.undo_from.ensures.low c.undo_from.ensures.high c.undo_from.ensures.levels (taken c.args.level _) c.self.invariant.views;
    }

pub returns-clause-ends : goal.returns-clause-ends
returns-clause-ends c =
    ended c.self.inside (record { clock = c.self.inside.clock; undos = c.self.inside.undos + 1; sessions = c.undo_from.new.sessions; fates = c.undo_from.new.fates; held = c.self.inside.held }) _ c.args.s (with_undone c.args.level (opened_at c.self.inside.sessions.items (c.args.s - 1))) (undo c.args.s c.args.level) c.args.level
    c.self.view_is c.self.invariant c.undo_from.ensures.low c.undo_from.ensures.high c.undo_from.ensures.levels refl refl refl
    (undone_by c.self.inside (record { clock = c.self.inside.clock; undos = c.self.inside.undos + 1; sessions = c.undo_from.new.sessions; fates = c.undo_from.new.fates; held = c.self.inside.held }) c.args.s c.args.level c.requires.low (level_there c.self.inside _ c.args.s c.args.level c.self.view_is c.requires.low c.requires.high) c.self.invariant refl refl c.undo_from.ensures)

pub returns-clause-views : goal.returns-clause-views
returns-clause-views c = record { sees = undo_views c.args.s c.args.level c.args.self.now _ (returns-clause-ends c).owners }

pub returns-clause-others : goal.returns-clause-others
returns-clause-others c = record { sees = undo_held c.args.s c.args.level c.args.self.now _ (returns-clause-ends c).owners }
