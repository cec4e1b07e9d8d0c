use Rattle.std.proofs.Common.{◌-◌, ◌≤◌, refl, arith}
use Rattle.xact_core.specs.Ends.{release}
use Rattle.xact_core.specs.Inside.{seen_of}
use Rattle.xact_core.specs.Opened.{opened_at, with_released}
use Rattle.xact_core.proofs.Contracts.{level_there, ended, ended_count, taken, turns_by}
use Rattle.xact_core.proofs.Sessions.{released_turned, released_well}
use Rattle.xact_core.proofs.ViewLaws.{release_views, release_held}
use Rattle.xact_core.proofs.xacts.Xacts.release_level.Goals as goal

pub release_from-requires-clause-high : goal.release_from-requires-clause-high
release_from-requires-clause-high c = level_there c.self.inside _ c.args.s c.args.level c.self.view_is (omega (arith, c.requires.low)) c.requires.high

pub invariant_of-self : goal.invariant_of-self
invariant_of-self c =
    record {
      clock = c.self.invariant.clock;
      undos = c.self.invariant.undos;
      well = released_well c.self.inside.clock c.self.inside.undos c.args.s c.args.level _ _ _ _ c.requires.low (level_there c.self.inside _ c.args.s c.args.level c.self.view_is (omega (arith, c.requires.low)) c.requires.high) c.self.invariant.well c.release_from.ensures;
      views = ended_count _ _ c.args.s (with_released c.args.level (opened_at c.self.inside.sessions.items (c.args.s - 1))) c.self.inside.held.items c.self.invariant.well.levels.sixteen c.release_from.ensures.low c.release_from.ensures.high c.release_from.ensures.levels (taken (c.args.level - 1) _) c.self.invariant.views;
    }

pub returns-clause-ends : goal.returns-clause-ends
returns-clause-ends c =
    ended c.self.inside (record { clock = c.self.inside.clock; undos = c.self.inside.undos; sessions = c.release_from.new.sessions; fates = c.release_from.new.fates; held = c.self.inside.held }) _ c.args.s (with_released c.args.level (opened_at c.self.inside.sessions.items (c.args.s - 1))) (release c.args.s c.args.level) (c.args.level - 1)
    c.self.view_is c.self.invariant c.release_from.ensures.low c.release_from.ensures.high c.release_from.ensures.levels refl refl refl
    (turns_by (release c.args.s c.args.level) (seen_of c.self.inside) _ (released_turned c.self.inside.clock c.self.inside.undos c.args.s c.args.level _ _ _ _ c.requires.low (level_there c.self.inside _ c.args.s c.args.level c.self.view_is (omega (arith, c.requires.low)) c.requires.high) c.self.invariant.well c.release_from.ensures) refl refl)

pub returns-clause-views : goal.returns-clause-views
returns-clause-views c = let low : 1 ≤ c.args.level = omega (arith, c.requires.low) in record { sees = release_views c.args.s c.args.level c.args.self.now _ low (returns-clause-ends c).owners }

pub returns-clause-others : goal.returns-clause-others
returns-clause-others c = let low : 1 ≤ c.args.level = omega (arith, c.requires.low) in record { sees = release_held c.args.s c.args.level c.args.self.now _ low (returns-clause-ends c).owners }
